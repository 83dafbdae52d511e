-- What is left to the recipe of `.DEFAULT`.
use Rattle.std.specs.Prelude.{codes, option_to_list, slice_get, is_none, if◌then◌else◌}
use Rattle.std.proofs.Common.{◌≡◌, ◌∙◌, ℕ, Bool, true, false, not, ◌&&◌, ◌||◌, List, [], ◌∷◌, filter, Option, Some, None, refl, sym, ap}
use Rattle.mk_lines.specs.Text.{is_empty}
use Rattle.mk_rule_lines.specs.Explicit.{explicit_targets, numbers_of, is_default_at}
use Rattle.mk_rule_lines.specs.Rules.{has, recipe_places}
use Rattle.mk_rule_lines.specs.declared.rule_line.RuleLine.{RuleLine}
use Rattle.mk_nodes.specs.Prerequisites.{Inputs, default_of, is_unfinished, is_left, is_target, left_recipe}
use Rattle.mk_sources.proofs.RuleLemmas.{any_place}
use Rattle.st_records.specs.declared.record.Entry.{Entry}
use Rattle.mk_nodes.specs.declared.file_look.FileLook.{FileLook}

-- the line of `.DEFAULT` by the recipe of this name
pub none_named : (lines : List RuleLine) (recipe : Option ℕ) → recipe ≡ None →
    option_to_list recipe ≡ recipe_places (explicit_targets lines) 0 lines (codes ".DEFAULT") → None ≡ default_of lines
none_named lines recipe none is = ap (λ ks. slice_get (filter (is_default_at lines) ks) 0) (ap option_to_list (sym none) ∙ is)

pub default_named : (lines : List RuleLine) (recipe : Option ℕ) (k : ℕ) → recipe ≡ Some k →
    option_to_list recipe ≡ recipe_places (explicit_targets lines) 0 lines (codes ".DEFAULT") →
    slice_get (filter (is_default_at lines) (k ∷ [])) 0 ≡ default_of lines
default_named lines recipe k some is = ap (λ ks. slice_get (filter (is_default_at lines) ks) 0) (ap option_to_list (sym some) ∙ is)

twice_not : (b : Bool) → b ≡ not (not b)
twice_not true = refl
twice_not false = refl

-- whether a name is left is told by the lines that make it, its time and its entry
pub left_is : (inputs : Inputs) (lines : List RuleLine) (name : List ℕ) (stamp : Option FileLook) (entry : Option Entry) → inputs.lines ≡ lines → inputs.looks name ≡ stamp →
    inputs.entries name ≡ entry →
    (is_empty (numbers_of lines name) && (is_none stamp || is_unfinished entry)) ≡ is_left inputs name
left_is inputs lines name stamp entry lines_are looks_are entry_is =
    ap (λ b. b && (is_none stamp || is_unfinished entry))
    (twice_not (is_empty (numbers_of lines name)) ∙ ap not (any_place (λ (l : RuleLine). has name (explicit_targets lines l)) 0 lines)
    ∙ ap (λ (ls : List RuleLine). not (is_target ls name)) (sym lines_are))
    ∙ ap (λ s. not (is_target inputs.lines name) && (is_none s || is_unfinished entry)) (sym looks_are)
    ∙ ap (λ o. not (is_target inputs.lines name) && (is_none (inputs.looks name) || is_unfinished o)) (sym entry_is)

-- without a `.DEFAULT` no name is left to it
neither : (b : Bool) → (none : Option ℕ) → none ≡ None → (if b then none else None) ≡ None
neither true none is = is
neither false none is = refl

pub none_left : (inputs : Inputs) (name : List ℕ) → default_of inputs.lines ≡ None → None ≡ left_recipe inputs name
none_left inputs name none = sym (neither (is_left inputs name) (default_of inputs.lines) none)
