-- The commands that the lines of a recipe give, one line after the other.
use Rattle.std.specs.Prelude.{if◌then◌else◌, option_to_list}
use Rattle.std.specs.Bool.{OnTrue}
use Rattle.std.proofs.Common.{◌≡◌, ◌∙◌, ◌+◌, ℕ, Bool, true, false, cond, List, [], ◌∷◌, ◌++◌, map, filter, drop, ◌<◌, suc, add-one, get_or, length, Some, None, refl, sym, ap, subst}
use Rattle.std.proofs.Math.Seq.{drop-cons}
use Rattle.mk_macros.specs.Expansion.{Meanings}
use Rattle.mk_reader.specs.declared.item.RecipeLine.{RecipeLine}
use Rattle.mk_recipe.specs.Line.{text_kept}
use Rattle.mk_recipe.specs.Tests.{is_recorded, recorded_texts}
use Rattle.mk_recipe.specs.declared.line.Line.{Line}
use Rattle.mk_plan.specs.Finished.{GivesFirst, GivesCommands}
use Rattle.mk_plan.specs.Recipe.{AreExpanded}

-- what the lines that are left give, if it is what is left of the commands, is with the others what all give
abbrev pub GivesSoFar : (meanings : Meanings) (recipe : List RecipeLine) (commands : List (List ℕ)) (i : ℕ) (left : List (List ℕ)) → Type 0
GivesSoFar meanings recipe commands i left =
    (rest : List Line) → AreExpanded meanings (drop i recipe) rest → recorded_texts rest ≡ left → GivesCommands meanings recipe commands

texts_by : (line : Line) (rest : List Line) (b : Bool) →
    map (λ l. l.text) (cond b (line ∷ filter is_recorded rest) (filter is_recorded rest)) ≡ option_to_list (if b then Some line.text else None) ++ recorded_texts rest
texts_by line rest true = refl
texts_by line rest false = refl

one_more : (line : Line) (rest : List Line) → recorded_texts (line ∷ rest) ≡ option_to_list (text_kept line) ++ recorded_texts rest
one_more line rest = texts_by line rest (is_recorded line)

pub gives_more : (meanings : Meanings) (recipe : List RecipeLine) (commands : List (List ℕ)) (i : ℕ) (raw : RecipeLine) (old new : List (List ℕ)) →
    drop i recipe ≡ raw ∷ drop (i + 1) recipe → GivesFirst meanings raw old new → GivesSoFar meanings recipe commands i old →
    GivesSoFar meanings recipe commands (i + 1) new
gives_more meanings recipe commands i raw old new here gives before = λ rest are is.
    before (gives.line ∷ rest) (subst (λ left. AreExpanded meanings left (gives.line ∷ rest)) (sym here) (gives.expanded, are))
    (one_more gives.line rest ∙ ap (λ texts. option_to_list (text_kept gives.line) ++ texts) is ∙ sym gives.first)

gives_all : (meanings : Meanings) (recipe : List RecipeLine) (commands : List (List ℕ)) (i : ℕ) (left : List (List ℕ)) →
    drop i recipe ≡ [] → left ≡ [] → GivesSoFar meanings recipe commands i left → GivesCommands meanings recipe commands
gives_all meanings recipe commands i left none nothing before =
    before [] (subst (λ raws. AreExpanded meanings raws []) (sym none) tt) (sym nothing)

-- what is next among the lines
pub next_raw : (recipe : List RecipeLine) (k : ℕ) (raw : RecipeLine) → k < length recipe → raw ≡ get_or recipe k raw → drop k recipe ≡ raw ∷ drop (k + 1) recipe
next_raw recipe k raw within is = drop-cons recipe k raw within ∙ ap (λ m. m ∷ drop (suc k) recipe) (sym is) ∙ rw add-one refl

pub gives_if_over : (meanings : Meanings) (recipe : List RecipeLine) (commands : List (List ℕ)) (i : ℕ) (left : List (List ℕ)) (over : Bool) →
    drop i recipe ≡ [] → OnTrue over (left ≡ []) → GivesSoFar meanings recipe commands i left → OnTrue over (GivesCommands meanings recipe commands)
gives_if_over meanings recipe commands i left true none nothing before = gives_all meanings recipe commands i left none nothing before
gives_if_over meanings recipe commands i left false none nothing before = tt

-- the same, whatever names mean
pub each_if_over : (recipe : List RecipeLine) (commands : List (List ℕ)) (i : ℕ) (left : List (List ℕ)) (over : Bool) →
    drop i recipe ≡ [] → OnTrue over (left ≡ []) → ((meanings : Meanings) → GivesSoFar meanings recipe commands i left) →
    OnTrue over ((meanings : Meanings) → GivesCommands meanings recipe commands)
each_if_over recipe commands i left true none nothing before = λ meanings. gives_all meanings recipe commands i left none nothing (before meanings)
each_if_over recipe commands i left false none nothing before = tt
