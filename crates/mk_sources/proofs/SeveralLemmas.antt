-- Rules of several targets: what one run makes, and when it was made.
use Rattle.std.proofs.Common.{◌≡◌, ℕ, Bool, true, false, cond, List, [], ◌∷◌, take, Option, Some, None, refl, sym, ap, ◌∙◌, ◌==◌}
use Rattle.std.specs.Prelude.{is_none, option_and_then, slice_get}
use Rattle.std.proofs.lemmas.Bool.{and_parts, eqb-true}
use Rattle.std.specs.Option.{option_map_or}
use Rattle.mk_rule_lines.specs.Explicit.{is_phony}
use Rattle.mk_rule_lines.specs.Rules.{has}
use Rattle.mk_rule_lines.specs.declared.fault.RuleFault.{RuleFault}
use Rattle.mk_rule_lines.specs.declared.fault.RuleFault.TheVariants as fault
use Rattle.mk_makefile.specs.declared.form.Source.{Source}
use Rattle.mk_rule_lines.specs.declared.rule_line.RuleLine.{RuleLine}
use Rattle.mk_sources.specs.Asked.{IsOthersFault}
use Rattle.mk_sources.specs.Looks.{IsLookFault}
use Rattle.mk_nodes.specs.Look.{is_taken_as_old}
use Rattle.mk_nodes.specs.Prerequisites.{Inputs, own_recipes, unless_any, first_or, found_source, implicit_source, led_source, is_led, is_run_of, runs_for, rule_or, left_recipe, recipe_of, source_name}

abbrev where_led : Inputs → Option Source → Option Source
where_led inputs = option_and_then (λ source. cond (is_led inputs source) (Some source) None)

some_same : (a b : Source) → Some a ≡ Some b → a ≡ b
some_same a b e = cc

none_is : (o : Option (List ℕ)) → is_none o ≡ true → o ≡ None
none_is None e = refl
none_is (Some x) e = cc

module _ (inputs : Inputs) (name : List ℕ) where
  -- what is found tells whether the rule runs for the name
  pub runs_is : (rule : ℕ) (found : Option Source) → found ≡ found_source inputs name → option_map_or (is_run_of rule) found false ≡ runs_for inputs rule name
  runs_is rule found is = ap (λ (s : Option Source). option_map_or (is_run_of rule) s false) is

  pub not_found : (found : Option Source) → found ≡ None → found ≡ found_source inputs name → None ≡ led_source inputs name
  not_found found none is = ap (where_led inputs) (sym none ∙ is)

  pub led_is : (source : Source) (led : Bool) → Some source ≡ found_source inputs name → led ≡ is_led inputs source →
      cond led (Some source) None ≡ led_source inputs name
  led_is source led found is = ap (λ (b : Bool). cond b (Some source) None) is ∙ ap (where_led inputs) found

  -- of what is taken as old nothing is found
  pub old_is : is_taken_as_old (inputs.looks name) ≡ true → None ≡ implicit_source inputs name
  old_is old = ap (λ (b : Bool). cond b None (led_source inputs name)) (sym old)

  pub not_old : is_taken_as_old (inputs.looks name) ≡ false → led_source inputs name ≡ implicit_source inputs name
  not_old new = ap (λ (b : Bool). cond b None (led_source inputs name)) (sym new)

-- a name that can't be looked at is one of these
pub others_fault : (refuses : List ℕ → Type 0) (lines : List RuleLine) (names : List (List ℕ)) (name : List ℕ) → has name names ≡ true →
    is_phony lines name ≡ false → (f : RuleFault) → IsLookFault refuses name f → IsOthersFault refuses lines names f
others_fault refuses lines names name among no_phony fault.OutOfMemory meets = tt
others_fault refuses lines names name among no_phony (fault.Tree n) meets =
    (ap (λ m. has m names) meets.0 ∙ among, ap (is_phony lines) meets.0 ∙ no_phony, meets.1)
others_fault refuses lines names name among no_phony _ meets = meets

-- ---- what is made by the run for another name

module _ (inputs : Inputs) where
  led_at : (source t : Source) (led : Bool) → is_led inputs t ≡ led → cond led (Some t) None ≡ Some source → (t ≡ source) × (is_led inputs source ≡ true)
  led_at source t true is e = let same : t ≡ source = some_same t source e in (same, ap (is_led inputs) (sym same) ∙ is)
  led_at source t false is e = cc

  found_led : (source : Source) (found : Option Source) → where_led inputs found ≡ Some source → (found ≡ Some source) × (is_led inputs source ≡ true)
  found_led source None e = cc
  found_led source (Some t) e = let (same, led) = led_at source t (is_led inputs t) refl e in (ap Some same, led)

  no_own_at : (phony : Bool) (own : List ℕ) (other : Option Source) (source : Source) → cond phony None (unless_any own other) ≡ Some source → own ≡ []
  no_own_at true own other source e = cc
  no_own_at false [] other source e = refl
  no_own_at false (n ∷ ns) other source e = cc

  run_at : (rule : ℕ) (found : Option Source) → option_map_or (is_run_of rule) found false ≡ true →
      (t : Source) × (found ≡ Some t) × (t.leader ≡ None) × (t.rule ≡ rule)
  run_at rule None e = cc
  run_at rule (Some t) e =
      let parts = and_parts (is_none t.leader) (t.rule == rule) e in (t, refl, none_is t.leader parts.0, eqb-true t.rule rule parts.1)

  led_of : (old : Bool) (found : Option Source) (source : Source) → cond old None found ≡ Some source → found ≡ Some source
  led_of true found source e = cc
  led_of false found source e = e

  -- by a source that is no other name's, its own line's recipe is run
  own_run : (name : List ℕ) (t : Source) → found_source inputs name ≡ Some t → t.leader ≡ None → is_taken_as_old (inputs.looks name) ≡ false →
      recipe_of inputs name ≡ Some t.rule
  own_run name t found none new =
      let own : own_recipes inputs.lines name ≡ [] = no_own_at (is_phony inputs.lines name) (own_recipes inputs.lines name) _ t found in
      let led : is_led inputs t ≡ true = ap (λ (o : Option (List ℕ)). option_map_or (runs_for inputs t.rule) o true) none in
      let made : implicit_source inputs name ≡ Some t
      = sym (not_old inputs name new) ∙ ap (where_led inputs) found ∙ ap (λ (b : Bool). cond b (Some t) None) led in
      ap (λ (ns : List ℕ). first_or ns (rule_or (implicit_source inputs name) (left_recipe inputs name))) own
      ∙ ap (λ (s : Option Source). rule_or s (left_recipe inputs name)) made ∙ ap (λ (o : Option (List ℕ)). cond (is_none o) (Some t.rule) None) none

  pub follows_run : (name leader : List ℕ) (source : Source) → implicit_source inputs name ≡ Some source → source.leader ≡ Some leader →
      (recipe_of inputs name ≡ None) × ((source_name (implicit_source inputs name) ≡ Some leader)
      × (is_taken_as_old (inputs.looks leader) ≡ false → recipe_of inputs leader ≡ Some source.rule))
  follows_run name leader source is by =
      let (found, led) = found_led source (found_source inputs name) (led_of (is_taken_as_old (inputs.looks name)) (led_source inputs name) source is) in
      let own : own_recipes inputs.lines name ≡ [] = no_own_at (is_phony inputs.lines name) (own_recipes inputs.lines name) _ source found in
      let runs : runs_for inputs source.rule leader ≡ true
      = ap (λ (o : Option (List ℕ)). option_map_or (runs_for inputs source.rule) o true) (sym by) ∙ led in
      let (t, found_leader, none, rule) = run_at source.rule (found_source inputs leader) runs in (
        ap (λ (ns : List ℕ). first_or ns (rule_or (implicit_source inputs name) (left_recipe inputs name))) own
            ∙ ap (λ (s : Option Source). rule_or s (left_recipe inputs name)) is ∙ ap (λ (o : Option (List ℕ)). cond (is_none o) (Some source.rule) None) by,
        (
          ap source_name is ∙ ap (λ (o : Option (List ℕ)). slice_get (option_map_or (λ (l : List ℕ). l ∷ []) o (take source.ordinary source.names)) 0) by,
          λ new. own_run leader t found_leader none new ∙ ap Some rule,
        ),
      )
