-- The marks of a 'done'. Own.
use Rattle.std.specs.Prelude.{◌≡◌, ◌⊎◌, ◌↔◌, ℕ, Bool, true, false, List, ◌++◌, Option, None, Some, IsSomeAnd, IfSome, IfNone, IsTrue, slice_get, option_to_list}
use Rattle.std.specs.Option.{option_copied}
use Rattle.st_marks.specs.Encoding.{IsText}
use Rattle.st_marks.specs.declared.mark.Mark.{Mark}
use Rattle.jb_marks.specs.declared.before.Before.{Before}
use Rattle.jb_marks.specs.declared.before.Known.{Known}
use Rattle.jb_marks.specs.declared.done.Left.{Left}
use Rattle.jb_marks.specs.declared.names.Names.{Names}
use Rattle.jb_marks.specs.declared.sights.Sight.{Sight}
use Rattle.jb_marks.specs.Before.{made_names}
use Rattle.jb_marks.specs.Each.{EachWith}
use Rattle.jb_marks.specs.Same.{IsSame}
use Rattle.jb_marks.specs.Single.{IsMarkOf, IsMarkBehind}

-- the entry names it, and this was taken of it before the recipe
abbrev pub HasKnown : List Known → (name : List ℕ) → Option Mark → Type 0
HasKnown known name m = (i : ℕ) × IsSomeAnd (slice_get known i) (λ k. (k.name ≡ name) × (k.mark ≡ m))

-- the entry doesn't name it
abbrev pub HasNot : List Known → (name : List ℕ) → Type 0
HasNot known name = (m : Option Mark) → HasKnown known name m → ⊥

-- the mark of a hidden prerequisite that the report names: that from before the recipe, where there is one; else by a look behind it
abbrev pub IsReported : (told : List ℕ → Sight → Type 0) → (said : List ℕ → Bool → Type 0) → Before → (name : List ℕ) → Mark → Type 0
IsReported told said before name m =
    HasKnown before.hidden.items name (Some m)
    ⊎ ((HasKnown before.hidden.items name None × IsMarkBehind (told name) (said name) before.tick true m)
    ⊎ (HasNot before.hidden.items name × IsMarkBehind (told name) (said name) before.tick false m))

-- the marks of a 'done', one for each name: of what the recipe makes by looks behind it; of the source and of the explicit prerequisites
-- by those before it; and of the hidden ones that the report names
pub record AreMarks (told : List ℕ → Sight → Type 0) (said : List ℕ → Bool → Type 0) (before : Before) (behind : List Sight) (reported : List (List ℕ)) (marks : List Mark) : Type 0 where
  pub files : List Mark
  pub hidden : List Mark
  pub of_files : EachWith IsMarkOf behind files
  pub of_hidden : EachWith (IsReported told said before) reported hidden
  pub whole : marks ≡ files ++ (option_to_list before.source ++ (before.explicit.items ++ hidden))

-- what a recipe has left: whether its files are as they were, and the text of the marks, where there is one
pub record IsLeft (told : List ℕ → Sight → Type 0) (said : List ℕ → Bool → Type 0) (names : Names) (before : Before) (reported : List (List ℕ)) (left : Left) : Type 0 where
  pub behind : List Sight
  pub marks : List Mark
  pub looked : EachWith told (made_names names) behind
  pub marked : AreMarks told said before behind reported marks
  pub same : IsTrue left.is_same ↔ IsSame before.files.items behind
  pub text : IfSome left.text (λ text. IsText (option_copied names.source) marks text.items)
  pub none : IfNone left.text ((text : List ℕ) → IsText (option_copied names.source) marks text → ⊥)
