-- Without suffixes no target of a line is a suffix rule, and the table of the suffix rules is empty.
use Rattle.std.proofs.Common.{◌≡◌, ℕ, ◌+◌, Bool, true, false, cond, List, [], ◌∷◌, ◌++◌, refl, sym, ap, subst, ◌∙◌}
use Rattle.std.specs.Prelude.{option_to_list}
use Rattle.mk_rule_lines.specs.Rules.{has, lacks_single, makes_targets, may_be_suffix_rule, places, recipe_places, targets_by, times}
use Rattle.mk_rule_lines.specs.declared.rule_line.RuleLine.{RuleLine}
use Rattle.mk_rule_lines.proofs.TargetLemmas.{chosen}
use Rattle.mk_makefile.specs.Named.{nothing_named}
use Rattle.mk_makefile.specs.Table.{IsTable, named_at}
use Rattle.mk_makefile.specs.declared.table.TargetTable.{TargetTable}

-- without suffixes no target is a suffix rule
unsuffixed_at : (l : RuleLine) (b : Bool) → may_be_suffix_rule l ≡ b → (names : List (List ℕ)) → chosen true [] l names ≡ []
unsuffixed_at l b e [] = refl
unsuffixed_at l true e (name ∷ names) = simp e (unsuffixed_at l true e names)
unsuffixed_at l false e (name ∷ names) = simp e (unsuffixed_at l false e names)

unsuffixed_line : (l : RuleLine) (b : Bool) → makes_targets l ≡ b → targets_by true [] l ≡ []
unsuffixed_line l true e = simp e (unsuffixed_at l (may_be_suffix_rule l) refl l.targets)
unsuffixed_line l false e = simp e refl

unsuffixed : (l : RuleLine) → targets_by true [] l ≡ []
unsuffixed l = unsuffixed_line l (makes_targets l) refl

no_places : (name : List ℕ) (k : ℕ) (lines : List RuleLine) → places (λ l. has name (targets_by true [] l)) k lines ≡ []
no_places name k [] = refl
no_places name k (l ∷ lines) =
    let more = places (λ m. has name (targets_by true [] m)) (k + 1) lines in
    ap (λ ts. cond (has name ts) (k ∷ more) more) (unsuffixed l) ∙ no_places name (k + 1) lines

no_recipes : (name : List ℕ) (k : ℕ) (l : RuleLine) (b : Bool) → lacks_single l ≡ b → cond (lacks_single l) [] (times k name (targets_by true [] l)) ≡ []
no_recipes name k l true e = ap (λ b. cond b [] (times k name (targets_by true [] l))) e
no_recipes name k l false e = ap (λ b. cond b [] (times k name (targets_by true [] l))) e ∙ ap (times k name) (unsuffixed l)

no_recipe_places : (name : List ℕ) (k : ℕ) (lines : List RuleLine) → recipe_places (targets_by true []) k lines name ≡ []
no_recipe_places name k [] = refl
no_recipe_places name k (l ∷ lines) =
    ap (λ ns. ns ++ recipe_places (targets_by true []) (k + 1) lines name) (no_recipes name k l (lacks_single l) refl) ∙ no_recipe_places name (k + 1) lines

-- and the table of the suffix rules is empty
pub no_suffix_rules : (suffixes : List (List ℕ)) (lines : List RuleLine) (table : TargetTable) → suffixes ≡ []
    → ((name : List ℕ) → named_at table name ≡ nothing_named) → IsTable (targets_by true suffixes) lines table
no_suffix_rules suffixes lines table none empty =
    subst (λ (ss : List (List ℕ)). IsTable (targets_by true ss) lines table) (sym none) (record {
      named = λ name. ap (λ n. n.lines) (empty name) ∙ sym (no_places name 0 lines);
      recipe = λ name. ap (λ n. option_to_list n.recipe) (empty name) ∙ sym (no_recipe_places name 0 lines);
    })
