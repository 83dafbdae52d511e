-- The files of a recipe by name, and looks at them. Own.
use Rattle.std.specs.Prelude.{◌≡◌, ℕ, ℤ, Bool, true, false, List, [], ◌∷◌, Option, Some, None, IsSomeAnd, is_some, ◌&&◌}
use Rattle.std.specs.Option.{option_copied, option_map_or}
use Rattle.jb_marks.specs.declared.before.Before.{Before}
use Rattle.jb_marks.specs.declared.done.Left.{Left}
use Rattle.jb_marks.specs.declared.names.Names.{Names}
use Rattle.jb_marks.specs.declared.names.Recorded.{Recorded}
use Rattle.jb_marks.specs.declared.sights.Sight.{Sight}
use Rattle.jb_marks.specs.Before.{IsBefore, made_names}
use Rattle.jb_marks.specs.Done.{IsLeft}
use Rattle.jb_marks.specs.Each.{EachWith}
use Rattle.jb_marks.specs.Recorded.{recorded_in}
use Rattle.jb_marks.specs.Same.{IsSame}
use Rattle.mk_nodes.specs.declared.graph.Graph.{Graph}
use Rattle.mk_seen.specs.Nodes.{entry_of}
use Rattle.st_records.specs.declared.version.Form.{Form}
use Rattle.st_records.specs.declared.version.Form.TheVariants as forms
use Rattle.jb_recipe.specs.declared.files.Files.{Files}
use Rattle.jb_recipe.specs.declared.looking.Behind.{Behind}

-- the hidden prerequisites that the state has of node n
abbrev pub recorded_of : Graph → (n : ℕ) → List Recorded
recorded_of graph n = option_map_or recorded_in (entry_of graph n) []

-- these are the names of the files of a recipe with this target
pub record AreNamesOf (target : List ℕ) (files : Files) (names : Names) : Type 0 where
  pub own : names.target.now ≡ target
  pub others : names.others.now ≡ files.others
  pub source : option_copied names.source ≡ files.source
  pub explicit : names.explicit.now ≡ files.explicit
  pub recorded : names.recorded.now ≡ files.recorded.items

-- ---- looks

-- which files a target was made of is recorded of it: in the form with marks, where a report is written, for what is recorded is kept
abbrev pub is_marked : Form → (report : Option (List ℕ)) → Bool
is_marked forms.Old report = false
is_marked forms.Plain report = false
is_marked forms.Marked report = is_some report

-- so it was looked at before the recipe
abbrev pub IsLooked : (marked : Bool) → (looks : Before → Type 0) → Option Before → Type 0
IsLooked true looks looked = IsSomeAnd looked looks
IsLooked false looks looked = looked ≡ None

-- what a place told of these files before the recipe, as its clock and the run said
abbrev pub AreLooksAt : (told : List ℕ → Sight → Type 0) (said : List ℕ → Bool → Type 0) (ticked : ℤ → Type 0) → (target : List ℕ) → Files → Before → Type 0
AreLooksAt told said ticked target files before = (names : Names) × AreNamesOf target files names × IsBefore told said ticked names before

-- the text of what a recipe has left; none where no text can say so many marks
abbrev pub text_left : Left → List ℕ
text_left left = option_map_or (λ text. text.items) left.text []

-- what a recipe has left, as it was looked at behind it
abbrev pub IsLeftBehind : (told : List ℕ → Sight → Type 0) (said : List ℕ → Bool → Type 0) → Names → Before → (hidden : List (List ℕ)) → Behind → Type 0
IsLeftBehind told said names before hidden behind =
    (left : Left) × IsLeft told said names before hidden left × (behind.marks ≡ text_left left) × (behind.is_same ≡ left.is_same)

-- each file that the recipe makes is told behind it just as it was told before, its ctime included
abbrev pub IsLeftSame : (told : List ℕ → Sight → Type 0) → (target : List ℕ) → Files → (looked : Option Before) → Type 0
IsLeftSame told target files None = ⊥
IsLeftSame told target files (Some before) =
    (names : Names) × AreNamesOf target files names × ((behind : List Sight) × EachWith told (made_names names) behind × IsSame before.files.items behind)

-- the text of the marks of a 'done': by these looks before the recipe, and by those behind it; none where there were none before
abbrev pub AreMarksOf : (told : List ℕ → Sight → Type 0) (said : List ℕ → Bool → Type 0) → (target : List ℕ) → Files → (looked : Option Before)
    → (hidden : List (List ℕ)) → (text : List ℕ) → Type 0
AreMarksOf told said target files None hidden text = text ≡ []
AreMarksOf told said target files (Some before) hidden text =
    (names : Names) × AreNamesOf target files names × ((left : Left) × IsLeft told said names before hidden left × (text ≡ text_left left))
