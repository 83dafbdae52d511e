-- Rule lines that hold no sign but one colon, as most lines of large makefiles do: they are read in one go.
use Rattle.std.specs.Prelude.{◌≡◌, ℕ, Bool, true, false, not, ◌&&◌, ◌||◌, ◌==◌, List, [], ◌∷◌, ◌++◌, None, Ok}
use Rattle.std.specs.List.{list_all}
use Rattle.mk_profile.specs.declared.profile.Profile.{Profile}
use Rattle.mk_lines.specs.Text.{is_plain}
use Rattle.mk_reader.specs.Form.{statement_form}
use Rattle.mk_reader.specs.declared.item.Rule.{Rule}
use Rattle.mk_reader.specs.declared.form.Form.TheVariants as form

-- the byte may begin a comment or a reference, or part a line: it is one of # $ : ; = and the backslash
abbrev pub is_sign : ℕ → Bool
is_sign b = b == 35 || b == 36 || b == 58 || b == 59 || b == 61 || b == 92

-- the byte stands for itself wherever it stands in a line
abbrev pub is_quiet : ℕ → Bool
is_quiet b = is_plain b && not (is_sign b)

-- the words that begin include lines begin with one of these bytes: i, the dash and s
abbrev pub may_include : List ℕ → Bool
may_include [] = false
may_include (b ∷ bs) = b == 105 || b == 45 || b == 115

-- such bytes alone stand around the colon of a line
abbrev pub IsPlainLine : (line left right : List ℕ) → Type 0
IsPlainLine line left right = (line ≡ left ++ 58 ∷ right) × (list_all is_quiet left ≡ true) × (list_all is_quiet right ≡ true)

-- a rule of one colon, without a recipe so far
abbrev pub plain_rule : List ℕ → ℕ → (targets prerequisites : List ℕ) → Rule
plain_rule file number targets prerequisites =
    record { file = file; line = number; is_double = false; targets = targets; prerequisites = prerequisites; recipe = [] }

-- the text of a line is such a rule's, in whichever file it stands
abbrev pub IsPlainRule : Profile → (text targets prerequisites : List ℕ) → Type 0
IsPlainRule profile text targets prerequisites = (file : List ℕ) (number : ℕ)
    → statement_form profile file number text ≡ Ok (form.Rule (record { special = None; rule = plain_rule file number targets prerequisites }))
