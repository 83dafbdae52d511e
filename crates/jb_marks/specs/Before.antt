-- What is looked at between a target's 'begun' and the first line of its recipe. Own.
use Rattle.std.specs.Prelude.{◌≡◌, ◌&&◌, ℕ, ℤ, Bool, true, false, List, ◌∷◌, Option, Some, None, IsSomeAnd, option_to_list}
use Rattle.std.specs.Option.{option_copied}
use Rattle.std.specs.List.{list_all}
use Rattle.st_marks.specs.declared.mark.Mark.{Mark}
use Rattle.st_marks.specs.declared.mark.Mark.TheVariants as mark
use Rattle.jb_marks.specs.declared.before.Before.{Before}
use Rattle.jb_marks.specs.declared.before.Known.{Known}
use Rattle.jb_marks.specs.declared.names.Names.{Names}
use Rattle.jb_marks.specs.declared.names.Recorded.{Recorded}
use Rattle.jb_marks.specs.declared.sights.Sight.{Sight}
use Rattle.jb_marks.specs.Each.{EachWith}
use Rattle.jb_marks.specs.Single.{IsMarkAtBegin}

-- what the recipe makes: the target, and what is made beside it
abbrev pub made_names : Names → List (List ℕ)
made_names names = names.target.now ∷ names.others.now

-- the source, if there is one
abbrev pub source_names : Names → List (List ℕ)
source_names names = option_to_list (option_copied names.source)

-- the mark of a prerequisite with this name
abbrev pub IsTaken : (told : List ℕ → Sight → Type 0) → (said : List ℕ → Bool → Type 0) → (tick : ℤ) → (name : List ℕ) → Mark → Type 0
IsTaken told said tick name m = IsMarkAtBegin (told name) (said name) tick m

-- the recorded mark says of no file that it went in: it is unknown, or of a file that the recipe has written itself
abbrev pub is_open : Option Mark → Bool
is_open None = false
is_open (Some mark.Unknown) = true
is_open (Some mark.NoFile) = false
is_open (Some mark.Other) = false
is_open (Some (mark.File stamp)) = false
is_open (Some (mark.Own stamp)) = true

-- a mark, but where the recorded one says of no file: such a name is looked at behind the recipe
abbrev pub IsTakenUnlessOpen : (open' : Bool) → (taken : Mark → Type 0) → Option Mark → Type 0
IsTakenUnlessOpen true taken m = m ≡ None
IsTakenUnlessOpen false taken m = IsSomeAnd m taken

-- a hidden prerequisite that the entry names
abbrev pub IsKnown : (told : List ℕ → Sight → Type 0) → (said : List ℕ → Bool → Type 0) → (tick : ℤ) → Recorded → Known → Type 0
IsKnown told said tick recorded known =
    (known.name ≡ recorded.name) × IsTakenUnlessOpen (is_open recorded.mark) (IsTaken told said tick recorded.name) known.mark

-- what was looked at: what the recipe makes, as it was told, and what it is made of, by marks, the clock read first
pub record IsBefore (told : List ℕ → Sight → Type 0) (said : List ℕ → Bool → Type 0) (ticked : ℤ → Type 0) (names : Names) (before : Before) : Type 0 where
  pub tick : ticked before.tick
  pub files : EachWith told (made_names names) before.files.items
  pub source : EachWith (IsTaken told said before.tick) (source_names names) (option_to_list before.source)
  pub explicit : EachWith (IsTaken told said before.tick) names.explicit.now before.explicit.items
  pub hidden : EachWith (IsKnown told said before.tick) names.recorded.now before.hidden.items

-- ---- which looks tell

abbrev pub is_known : Mark → Bool
is_known mark.Unknown = false
is_known mark.NoFile = true
is_known mark.Other = true
is_known (mark.File stamp) = true
is_known (mark.Own stamp) = true

abbrev pub is_known_or_left : Option Mark → Bool
is_known_or_left None = true
is_known_or_left (Some m) = is_known m

-- each mark that was taken is known
abbrev pub is_sure : Before → Bool
is_sure before =
    list_all is_known (option_to_list before.source)
    && (list_all is_known before.explicit.items && list_all (λ k. is_known_or_left k.mark) before.hidden.items)
