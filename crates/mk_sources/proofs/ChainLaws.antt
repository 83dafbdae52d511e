-- What more steps and fewer taken rules change of chains.
use Rattle.std.proofs.Common.{◌≡◌, ◌⊎◌, ◌<◌, ◌≤◌, ◌++◌, inl, inr, ℕ, zero, suc, Bool, true, false, not, cond, ◌&&◌, ◌||◌, List, [], ◌∷◌, Option, Some, None, ⊎_elim, refl, sym, ap, ◌∙◌, arith}
use Rattle.std.specs.Prelude.{filter, find, is_some, nat_eq}
use Rattle.std.specs.List.{list_any, list_all}
use Rattle.std.specs.Option.{option_map_or, option_or}
use Rattle.std.proofs.lemmas.Bool.{and_parts, and_from, or_left, or_right, or_cases}
use Rattle.mk_graph.specs.Edges.{has as has_number}
use Rattle.mk_makefile.specs.Source.{stem_of, source_at, candidates, source_of}
use Rattle.mk_makefile.specs.declared.form.Form.{Form}
use Rattle.mk_makefile.specs.declared.form.Source.{Source}
use Rattle.mk_nodes.specs.Chain.{makes_any, has_a_type, is_usable, usable, first_that, can_be, chained, source_in}
use Rattle.mk_sources.proofs.ChainLemmas.{there_can}

-- the names of the form's candidate can all be
abbrev made_by : (can : (rule : ℕ) (name : List ℕ) → Bool) → (name : List ℕ) → Form → Bool
made_by can name form = option_map_or (λ stem. list_all (can form.rule) (source_at form stem).names) (stem_of form name) false

module _ (can : (rule : ℕ) (name : List ℕ) → Bool) (picks : Form → Bool) (name : List ℕ) where
  any_at : (form : Form) (forms : List Form) → (b : Bool) → picks form ≡ b → (s : Option (List ℕ × List ℕ)) → stem_of form name ≡ s →
      is_some (first_that can (filter picks forms) name) ≡ list_any (λ f. picks f && made_by can name f) forms →
      is_some (first_that can (filter picks (form ∷ forms)) name) ≡ list_any (λ f. picks f && made_by can name f) (form ∷ forms)
  any_at form forms false e s f more = simp e more
  any_at form forms true e None f more = simp (e, f) more
  any_at form forms true e (Some stem) f more = by (list_all (can form.rule) (source_at form stem).names) refl where
    by : (all : Bool) → list_all (can form.rule) (source_at form stem).names ≡ all →
        is_some (first_that can (filter picks (form ∷ forms)) name) ≡ list_any (λ f. picks f && made_by can name f) (form ∷ forms)
    by true g = simp (e, f, g) refl
    by false g = simp (e, f, g) more

  -- a candidate is found where some form has one
  any_first : (forms : List Form) → is_some (first_that can (filter picks forms) name) ≡ list_any (λ f. picks f && made_by can name f) forms
  any_first [] = refl
  any_first (form ∷ forms) = any_at form forms (picks form) refl (stem_of form name) refl (any_first forms)

any_more : {A : Type 0} (t u : A → Bool) → ((x : A) → t x ≡ true → u x ≡ true) → (xs : List A) → list_any t xs ≡ true → list_any u xs ≡ true
any_more t u follows [] e = cc
any_more t u follows (x ∷ xs) e =
    ⊎_elim (λ here. or_left (u x) (list_any u xs) (follows x here)) (λ later. or_right (u x) (list_any u xs) (any_more t u follows xs later)) (or_cases (t x) (list_any t xs) e)

all_more : {A : Type 0} (t u : A → Bool) → ((x : A) → t x ≡ true → u x ≡ true) → (xs : List A) → list_all t xs ≡ true → list_all u xs ≡ true
all_more t u follows [] e = refl
all_more t u follows (x ∷ xs) e =
    let parts = and_parts (t x) (list_all t xs) e in and_from (u x) (list_all u xs) (follows x parts.0) (all_more t u follows xs parts.1)

made_more : (can further : (rule : ℕ) (name : List ℕ) → Bool) (name : List ℕ) (form : Form) → ((n : List ℕ) → can form.rule n ≡ true → further form.rule n ≡ true) →
    made_by can name form ≡ true → made_by further name form ≡ true
made_more can further name form follows = at (stem_of form name) where
  at : (s : Option (List ℕ × List ℕ)) → option_map_or (λ stem. list_all (can form.rule) (source_at form stem).names) s false ≡ true →
      option_map_or (λ stem. list_all (further form.rule) (source_at form stem).names) s false ≡ true
  at None e = e
  at (Some stem) e = all_more (can form.rule) (further form.rule) follows (source_at form stem).names e

-- ---- rules that are taken

use_more : (a b m h g : Bool) → (a ≡ true → b ≡ true) → (g ≡ true → h ≡ true) → ((a || m) && not h) ≡ true → ((b || m) && not g) ≡ true
use_more false b m true g up down e = let never : false ≡ true = (and_parts m false e).1 in cc
use_more true b m true g up down e = cc
use_more a b m false true up down e = let never : false ≡ true = down refl in cc
use_more false b false false false up down e = cc
use_more false false true false false up down e = refl
use_more false true true false false up down e = refl
use_more true true m false false up down e = refl
use_more true false m false false up down e = let never : false ≡ true = up refl in cc

abbrev FewerTaken : (fewer taken : List ℕ) → Type 0
FewerTaken fewer taken = (n : ℕ) → has_number fewer n ≡ true → has_number taken n ≡ true

usable_more : (any more : Bool) (taken fewer : List ℕ) → (any ≡ true → more ≡ true) → FewerTaken fewer taken → (form : Form) → is_usable any taken form ≡ true → is_usable more fewer form ≡ true
usable_more any more taken fewer up down form =
    use_more any more (not (makes_any form)) (has_number taken form.rule) (has_number fewer form.rule) up (down form.rule)

one_more : (rule : ℕ) (fewer taken : List ℕ) → FewerTaken fewer taken → FewerTaken (rule ∷ fewer) (rule ∷ taken)
one_more rule fewer taken down n e =
    ⊎_elim (λ here. or_left (nat_eq n rule) (has_number taken n) here) (λ later. or_right (nat_eq n rule) (has_number taken n) (down n later)) (or_cases (nat_eq n rule) (has_number fewer n) e)

module _ (is_there : List ℕ → Bool) (forms : List Form) where
  -- what can be in so many steps can be in more, and where fewer rules are taken
  can_more : (k j : ℕ) → k ≤ j → (taken fewer : List ℕ) → FewerTaken fewer taken → (name : List ℕ) → can_be is_there forms k taken name ≡ true →
      can_be is_there forms j fewer name ≡ true
  can_more zero j le taken fewer down name e = there_can is_there forms j fewer name e
  can_more (suc k) zero le taken fewer down name e = absurd (omega (arith, le))
  can_more (suc k) (suc j) le taken fewer down name e =
      let can : ℕ → List ℕ → Bool = λ rule. can_be is_there forms k (rule ∷ taken) in
      let further : ℕ → List ℕ → Bool = λ rule. can_be is_there forms j (rule ∷ fewer) in
      let made = is_some (first_that further (usable false fewer forms) name) in
      ⊎_elim (λ there. or_left (is_there name) made there)
      (λ some. or_right (is_there name) made (any_first further (is_usable false fewer) name forms
      ∙ any_more (λ f. is_usable false taken f && made_by can name f) (λ f. is_usable false fewer f && made_by further name f)
      (λ form both.
      let parts = and_parts (is_usable false taken form) (made_by can name form) both in
      and_from (is_usable false fewer form) (made_by further name form) (usable_more false false taken fewer (λ y. y) down form parts.0)
      (made_more can further name form (λ n. can_more k j (omega (arith, le)) (form.rule ∷ taken) (form.rule ∷ fewer) (one_more form.rule fewer taken down) n) parts.1))
      forms (sym (any_first can (is_usable false taken) name forms) ∙ some)))
      (or_cases (is_there name) (is_some (first_that can (usable false taken forms) name)) e)

  -- what a chain makes in so many steps, one of more can make
  chained_more : (k j : ℕ) → k ≤ j → (name : List ℕ) → is_some (chained is_there forms k name) ≡ true → is_some (chained is_there forms j name) ≡ true
  chained_more k j le name some =
      let can : ℕ → List ℕ → Bool = λ rule. can_be is_there forms k (rule ∷ []) in
      let further : ℕ → List ℕ → Bool = λ rule. can_be is_there forms j (rule ∷ []) in
      let picks : Form → Bool = is_usable (not (has_a_type forms name)) [] in
      any_first further picks name forms
      ∙ any_more (λ f. picks f && made_by can name f) (λ f. picks f && made_by further name f)
      (λ form both.
      let parts = and_parts (picks form) (made_by can name form) both in
      and_from (picks form) (made_by further name form) parts.0
      (made_more can further name form (λ n. can_more k j le (form.rule ∷ []) (form.rule ∷ []) (λ m is. is) n) parts.1))
      forms (sym (any_first can picks name forms) ∙ some)

  none_fewer : (k j : ℕ) → k ≤ j → (name : List ℕ) → chained is_there forms j name ≡ None → chained is_there forms k name ≡ None
  none_fewer k j le name none = by (chained is_there forms k name) refl where
    by : (found : Option Source) → chained is_there forms k name ≡ found → found ≡ None
    by None e = refl
    by (Some s) e = let some : false ≡ true = ap is_some (sym none) ∙ chained_more k j le name (ap is_some e) in cc

  -- where the longest chain makes nothing, and no candidate is there, there is no source
  pub none_at_all : (k j : ℕ) → k ≤ j → (name : List ℕ) → source_of is_there forms name ≡ None → chained is_there forms j name ≡ None → source_in is_there forms k name ≡ None
  none_at_all zero j le name lacks none = lacks
  none_at_all (suc k) j le name lacks none =
      ap (λ found. option_or found (chained is_there forms (suc k) name)) (none_at_all k j (omega (arith, le)) name lacks none) ∙ none_fewer (suc k) j le name none

-- ---- a chain goes on where it was found to

all_pass : (forms : List Form) → filter (λ form. true) forms ≡ forms
all_pass [] = refl
all_pass (form ∷ forms) = ap (λ fs. form ∷ fs) (all_pass forms)

either_some : (a b : Option Source) → is_some b ≡ true → is_some (option_or a b) ≡ true
either_some None b some = some
either_some (Some s) b some = refl

none_taken : (taken : List ℕ) → FewerTaken [] taken
none_taken taken n e = cc

module _ (is_there : List ℕ → Bool) (forms : List Form) (name : List ℕ) (lacks : is_there name ≡ false) where
  -- what isn't there, and can be made on the way, has some form whose candidate can be
  some_form : (steps : ℕ) (taken : List ℕ) → can_be is_there forms (suc steps) taken name ≡ true →
      list_any (λ f. is_usable false taken f && made_by (λ rule. can_be is_there forms steps (rule ∷ taken)) name f) forms ≡ true
  some_form steps taken e =
      let can : ℕ → List ℕ → Bool = λ rule. can_be is_there forms steps (rule ∷ taken) in
      sym (any_first can (is_usable false taken) name forms) ∙ ap (λ b. b || is_some (first_that can (usable false taken forms) name)) (sym lacks) ∙ e

  -- so it has a source where it is looked up itself, with all rules at hand, by a chain that is no longer
  pub way_has_source : (steps : ℕ) (taken : List ℕ) → can_be is_there forms (suc steps) taken name ≡ true → is_some (source_in is_there forms steps name) ≡ true
  way_has_source zero taken e =
      let can : ℕ → List ℕ → Bool = λ rule. can_be is_there forms zero (rule ∷ taken) in
      let further : ℕ → List ℕ → Bool = λ rule. is_there in
      ap (λ fs. is_some (first_that further fs name)) (sym (all_pass forms))
      ∙ any_first further (λ form. true) name forms
      ∙ any_more (λ f. is_usable false taken f && made_by can name f) (λ f. true && made_by further name f)
      (λ form both. (and_parts (is_usable false taken form) (made_by can name form) both).1) forms (some_form zero taken e)
  way_has_source (suc steps) taken e =
      let can : ℕ → List ℕ → Bool = λ rule. can_be is_there forms (suc steps) (rule ∷ taken) in
      let further : ℕ → List ℕ → Bool = λ rule. can_be is_there forms (suc steps) (rule ∷ []) in
      let any = not (has_a_type forms name) in
      either_some (source_in is_there forms steps name) (chained is_there forms (suc steps) name)
      (any_first further (is_usable any []) name forms
      ∙ any_more (λ f. is_usable false taken f && made_by can name f) (λ f. is_usable any [] f && made_by further name f)
      (λ form both.
      let parts = and_parts (is_usable false taken form) (made_by can name form) both in
      and_from (is_usable any [] form) (made_by further name form)
      (usable_more false any taken [] (λ never. cc) (none_taken taken) form parts.0)
      (made_more can further name form
      (λ n. can_more is_there forms (suc steps) (suc steps) (omega arith) (form.rule ∷ taken) (form.rule ∷ []) (one_more form.rule [] taken (none_taken taken)) n) parts.1))
      forms (some_form (suc steps) taken e))

found_at : (p : Source → Bool) (ys : List Source) (y x : Source) (b : Bool) → p y ≡ b → find p (y ∷ ys) ≡ Some x → (find p ys ≡ Some x → p x ≡ true) → p x ≡ true
found_at p ys y x true is e more =
    let found : Some y ≡ Some x = ap (λ (b : Bool). cond b (Some y) (find p ys)) (sym is) ∙ e in
    let same : y ≡ x = cc in
    ap p (sym same) ∙ is
found_at p ys y x false is e more = more (ap (λ (b : Bool). cond b (Some y) (find p ys)) (sym is) ∙ e)

-- what is found passes the test
found_passes : (p : Source → Bool) (xs : List Source) (x : Source) → find p xs ≡ Some x → p x ≡ true
found_passes p [] x e = cc
found_passes p (y ∷ ys) x e = found_at p ys y x (p y) refl e (found_passes p ys x)

passes_within : (q : List ℕ → Bool) (before behind : List (List ℕ)) (n : List ℕ) → list_all q (before ++ n ∷ behind) ≡ true → q n ≡ true
passes_within q [] behind n e = (and_parts (q n) (list_all q behind) e).0
passes_within q (m ∷ before) behind n e = passes_within q before behind n (and_parts (q m) (list_all q (before ++ n ∷ behind)) e).1

-- the name is there, or has a source by a chain of fewer steps
abbrev GoesOn : (is_there : List ℕ → Bool) (forms : List Form) (steps : ℕ) (n : List ℕ) → Type 0
GoesOn is_there forms steps n = (is_there n ≡ true) ⊎ ((fewer : ℕ) × (fewer < steps) × (is_some (source_in is_there forms fewer n) ≡ true))

on_the_way : (is_there : List ℕ → Bool) (forms : List Form) (steps : ℕ) (taken : List ℕ) (n : List ℕ) (b : Bool) → is_there n ≡ b →
    can_be is_there forms (suc steps) taken n ≡ true → GoesOn is_there forms (suc steps) n
on_the_way is_there forms steps taken n true there can = inl there
on_the_way is_there forms steps taken n false lacks can = inr (steps, omega arith, way_has_source is_there forms n lacks steps taken can)

by_length : (is_there : List ℕ → Bool) (forms : List Form) (steps : ℕ) (name : List ℕ) (source : Source) (before behind : List (List ℕ)) (n : List ℕ) →
    source_in is_there forms (suc steps) name ≡ Some source → source.names ≡ before ++ n ∷ behind →
    (source_in is_there forms steps name ≡ Some source → GoesOn is_there forms steps n) →
    (shorter : Option Source) → source_in is_there forms steps name ≡ shorter → GoesOn is_there forms (suc steps) n
by_length is_there forms steps name source before behind n found is more (Some s) e =
    let same : Some s ≡ Some source = ap (λ a. option_or a (chained is_there forms (suc steps) name)) (sym e) ∙ found in
    ⊎_elim (λ there. inl there) (λ r. inr (r.0, omega (arith, r.1), r.2)) (more (e ∙ same))
by_length is_there forms steps name source before behind n found is more None e =
    let here : chained is_there forms (suc steps) name ≡ Some source
    = ap (λ a. option_or a (chained is_there forms (suc steps) name)) (sym e) ∙ found in
    on_the_way is_there forms steps (source.rule ∷ []) n (is_there n) refl (passes_within (can_be is_there forms (suc steps) (source.rule ∷ [])) before behind n
    (ap (list_all (can_be is_there forms (suc steps) (source.rule ∷ []))) (sym is)
    ∙ found_passes (λ s. list_all (can_be is_there forms (suc steps) (s.rule ∷ [])) s.names)
    (candidates (usable (not (has_a_type forms name)) [] forms) name) source here))

-- what a name is made from is there, or has a source by a shorter chain: so a chain ends at what is there, and no name comes from itself
pub goes_on : (is_there : List ℕ → Bool) (forms : List Form) (steps : ℕ) (name : List ℕ) (source : Source) (before behind : List (List ℕ)) (n : List ℕ) →
    source_in is_there forms steps name ≡ Some source → source.names ≡ before ++ n ∷ behind → GoesOn is_there forms steps n
goes_on is_there forms zero name source before behind n found is =
    inl (passes_within is_there before behind n
    (ap (list_all is_there) (sym is) ∙ found_passes (λ s. list_all is_there s.names) (candidates forms name) source found))
goes_on is_there forms (suc steps) name source before behind n found is =
    by_length is_there forms steps name source before behind n found is (λ shorter. goes_on is_there forms steps name source before behind n shorter is)
    (source_in is_there forms steps name) refl
