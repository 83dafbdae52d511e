-- Chains of implicit rules, one form at a time.
use Rattle.std.proofs.Common.{◌≡◌, ◌+◌, ◌-◌, ◌<◌, ◌≤◌, ℕ, zero, suc, Bool, true, false, ◌||◌, List, [], ◌∷◌, ◌++◌, length, take, drop, get_or, Option, Some, None, inl, inr, ⊎_elim, refl, sym, ap, subst, ◌∙◌, arith}
use Rattle.std.specs.Prelude.{find, is_some, option_map, option_to_list, if◌then◌else◌}
use Rattle.std.specs.List.{list_all}
use Rattle.std.specs.Option.{option_or}
use Rattle.std.proofs.lemmas.Bool.{or_left, cases_lt}
use Rattle.std.proofs.lemmas.List.{take-append-drop}
use Rattle.std.proofs.lemmas.List.Elements.{filter-append}
use Rattle.std.proofs.lemmas.List.Folds.{find-append}
use Rattle.mk_makefile.specs.Source.{stem_of, source_at, candidates, source_of}
use Rattle.mk_makefile.specs.Table.{is_named, named_at}
use Rattle.mk_sources.specs.There.{is_there}
use Rattle.mk_makefile.specs.declared.form.Form.{Form}
use Rattle.mk_makefile.specs.declared.form.Source.{Source}
use Rattle.mk_makefile.specs.declared.table.TargetTable.{TargetTable}
use Rattle.mk_rule_lines.specs.declared.fault.RuleFault.{RuleFault}
use Rattle.mk_rule_lines.specs.declared.fault.RuleFault.TheVariants as fault
use Rattle.mk_nodes.specs.Chain.{is_usable, usable, first_that, can_be, chained, source_in}
use Rattle.mk_sources.specs.Looks.{IsLookFault}
use Rattle.mk_sources.specs.Search.{IsBehind, IsAskedIn, IsChainedTo, IsLedFault, IsSearchFault}
use Rattle.mk_sources.specs.Source.{IsSourceFault}
use Rattle.mk_sources.proofs.SourceLemmas.{candidates-append, from_form, up_to_form}
use Rattle.mk_nodes.specs.declared.file_look.FileLook.{FileLook}

-- ---- the candidates of the forms that a chain may go on with

module _ (name : List ℕ) (any : Bool) (taken : List ℕ) where
  -- a form that isn't usable, or that doesn't fit, has no candidate
  none_here : (form : Form) (usable_here : Bool) → is_usable any taken form ≡ usable_here → (if usable_here then stem_of form name else None) ≡ None →
      candidates (usable any taken (form ∷ [])) name ≡ []
  none_here form true is none = simp is (ap (λ found. option_to_list (option_map (source_at form) found) ++ []) none)
  none_here form false is none = simp is refl

  -- one that is usable and fits has one
  one_here : (form : Form) (usable_here : Bool) → is_usable any taken form ≡ usable_here → (stem : List ℕ × List ℕ) → (if usable_here then stem_of form name else None) ≡ Some stem → (forms : List Form) →
      candidates (usable any taken (form ∷ forms)) name ≡ source_at form stem ∷ candidates (usable any taken forms) name
  one_here form true is stem fits forms =
      simp is (ap (λ found. option_to_list (option_map (source_at form) found) ++ candidates (usable any taken forms) name) fits)
  one_here form false is stem fits forms = cc

  module _ (forms : List Form) (k : ℕ) (form : Form) (within : k < length forms) (is : form ≡ get_or forms k form) where
    up_to : candidates (usable any taken (take (k + 1) forms)) name
        ≡ candidates (usable any taken (take k forms)) name ++ candidates (usable any taken (form ∷ [])) name
    up_to =
        ap (λ fs. candidates (usable any taken fs) name) (up_to_form forms k form within is)
        ∙ ap (λ fs. candidates fs name) (filter-append (is_usable any taken) (take k forms) (form ∷ []))
        ∙ candidates-append (usable any taken (take k forms)) (usable any taken (form ∷ [])) name

    -- the candidates, parted at that of a form
    pub candidates_at : (stem : List ℕ × List ℕ) → (if is_usable any taken form then stem_of form name else None) ≡ Some stem →
        candidates (usable any taken forms) name
        ≡ candidates (usable any taken (take k forms)) name ++ source_at form stem ∷ candidates (usable any taken (drop (k + 1) forms)) name
    candidates_at stem fits =
        ap (λ fs. candidates (usable any taken fs) name) (sym (take-append-drop k forms) ∙ ap (λ fs. take k forms ++ fs) (from_form forms k form within is))
        ∙ ap (λ fs. candidates fs name) (filter-append (is_usable any taken) (take k forms) (form ∷ drop (k + 1) forms))
        ∙ candidates-append (usable any taken (take k forms)) (usable any taken (form ∷ drop (k + 1) forms)) name
        ∙ ap (λ cs. candidates (usable any taken (take k forms)) name ++ cs) (one_here form (is_usable any taken form) refl stem fits (drop (k + 1) forms))

    -- ---- the first one whose names can be

    module _ (can : (rule : ℕ) (name : List ℕ) → Bool) (none : first_that can (usable any taken (take k forms)) name ≡ None) where
      behind : (sources : List Source) →
          find (λ source. list_all (can source.rule) source.names) (candidates (usable any taken (take k forms)) name ++ sources)
          ≡ find (λ source. list_all (can source.rule) source.names) sources
      behind sources =
          find-append (λ source. list_all (can source.rule) source.names) (candidates (usable any taken (take k forms)) name) sources
          ∙ ap (λ found. option_or found (find (λ source. list_all (can source.rule) source.names) sources)) none

      no_more : find (λ source. list_all (can source.rule) source.names) (candidates (usable any taken (form ∷ [])) name) ≡ None →
          first_that can (usable any taken (take (k + 1) forms)) name ≡ None
      no_more here =
          ap (find (λ source. list_all (can source.rule) source.names)) up_to ∙ behind (candidates (usable any taken (form ∷ [])) name) ∙ here

      -- a form that a chain can't go on with is passed over
      pub unfit_more : (if is_usable any taken form then stem_of form name else None) ≡ None → first_that can (usable any taken (take (k + 1) forms)) name ≡ None
      unfit_more unfit = no_more (ap (find (λ source. list_all (can source.rule) source.names)) (none_here form (is_usable any taken form) refl unfit))

      module _ (stem : List ℕ × List ℕ) (fits : (if is_usable any taken form then stem_of form name else None) ≡ Some stem) where
        -- so is a candidate of whose names one can't be
        pub passed_more : list_all (can form.rule) (source_at form stem).names ≡ false → first_that can (usable any taken (take (k + 1) forms)) name ≡ None
        passed_more lacks =
            no_more (ap (find (λ source. list_all (can source.rule) source.names)) (one_here form (is_usable any taken form) refl stem fits []) ∙ simp lacks refl)

        -- the first candidate whose names can be is taken
        pub taken_first : list_all (can form.rule) (source_at form stem).names ≡ true → first_that can (usable any taken forms) name ≡ Some (source_at form stem)
        taken_first all =
            ap (find (λ source. list_all (can source.rule) source.names)) (candidates_at stem fits)
            ∙ behind (source_at form stem ∷ candidates (usable any taken (drop (k + 1) forms)) name) ∙ simp all refl

-- ---- whether a name can be

module _ (there : List ℕ → Bool) (forms : List Form) where
  -- what is there can be
  pub there_can : (steps : ℕ) (taken : List ℕ) (name : List ℕ) → there name ≡ true → can_be there forms steps taken name ≡ true
  there_can zero taken name is = is
  there_can (suc steps) taken name is = or_left (there name) _ is

  -- without a step nothing else can
  pub none_can : (steps : ℕ) (taken : List ℕ) (name : List ℕ) → steps ≡ 0 → there name ≡ false → can_be there forms steps taken name ≡ false
  none_can steps taken name none lacks = ap (λ n. can_be there forms n taken name) none ∙ lacks

  -- with one more, what can be made
  pub made_can : (steps : ℕ) (taken : List ℕ) (name : List ℕ) → 0 < steps → there name ≡ false →
      can_be there forms steps taken name
      ≡ is_some (first_that (λ rule. can_be there forms (steps - 1) (rule ∷ taken)) (usable false taken forms) name)
  made_can zero taken name some lacks = absurd (omega (arith, some))
  made_can (suc steps) taken name some lacks =
      let e : suc steps - 1 ≡ steps = omega arith in
      ap (λ (b : Bool). b || is_some (first_that (λ rule. can_be there forms steps (rule ∷ taken)) (usable false taken forms) name)) lacks
      ∙ ap (λ n. is_some (first_that (λ rule. can_be there forms n (rule ∷ taken)) (usable false taken forms) name)) (sym e)

  pub source_more : (steps : ℕ) (name : List ℕ) → 0 < steps →
      source_in there forms steps name ≡ option_or (source_in there forms (steps - 1) name) (chained there forms steps name)
  source_more zero name some = absurd (omega (arith, some))
  source_more (suc steps) name some =
      let e : suc steps - 1 ≡ steps = omega arith in
      ap (λ n. option_or (source_in there forms n name) (chained there forms (suc steps) name)) (sym e)

  -- where shorter chains make nothing, the source is that of this length
  pub source_here : (steps : ℕ) (name : List ℕ) → 0 < steps → source_in there forms (steps - 1) name ≡ None →
      source_in there forms steps name ≡ chained there forms steps name
  source_here steps name some none = source_more steps name some ∙ ap (λ found. option_or found (chained there forms steps name)) none

  -- a source that is found in so many steps is found in more
  pub source_kept : (k j : ℕ) → k ≤ j → (name : List ℕ) (source : Source) → source_in there forms k name ≡ Some source → source_in there forms j name ≡ Some source
  source_kept k zero le name source is =
      let same : k ≡ 0 = omega (arith, le) in subst (λ (n : ℕ). source_in there forms n name ≡ Some source) same is
  source_kept k (suc j) le name source is =
      ⊎_elim
      (λ less. ap (λ found. option_or found (chained there forms (suc j) name)) (source_kept k j (omega (arith, less)) name source is))
      (λ last. let same : k ≡ suc j = omega (arith, le, last) in subst (λ (n : ℕ). source_in there forms n name ≡ Some source) same is)
      (cases_lt k (suc j))

  -- what is there counts before what is made by a chain
  pub source_there : (steps : ℕ) (name : List ℕ) (source : Source) → source_of there forms name ≡ Some source → source_in there forms steps name ≡ Some source
  source_there zero name source is = is
  source_there (suc steps) name source is = ap (λ found. option_or found (chained there forms (suc steps) name)) (source_there steps name source is)

-- ---- which names are asked for

module _ (targets : TargetTable) (refuses : List ℕ → Type 0) where
  -- a search that leads to some names leads to what they lead to
  pub led_on : (leads further : List ℕ → Type 0) → ((n : List ℕ) → leads n → further n) → (f : RuleFault) → IsLedFault targets refuses leads f → IsLedFault targets refuses further f
  led_on leads further follows fault.OutOfMemory meets = tt
  led_on leads further follows (fault.Tree n) meets = (meets.0, follows n meets.1, meets.2)
  led_on leads further follows _ meets = meets

  -- a name that isn't a target is asked for itself
  pub led_here : (leads : List ℕ → Type 0) (name : List ℕ) → is_named (named_at targets name) ≡ false → leads name → (f : RuleFault) → IsLookFault refuses name f →
      IsLedFault targets refuses leads f
  led_here leads name no_target here fault.OutOfMemory meets = tt
  led_here leads name no_target here (fault.Tree n) meets = (rw meets.0 no_target, subst leads (sym meets.0) here, meets.1)
  led_here leads name no_target here _ meets = meets

module _ (targets : TargetTable) (allowed : (List ℕ → Option FileLook) → Type 0) (refuses : List ℕ → Type 0) (forms : List Form) (steps : ℕ) (name : List ℕ) where
  -- the search for a source leads to what the search for the candidates that are there reaches
  pub search_there : (f : RuleFault) → IsSourceFault targets allowed refuses forms name f → IsSearchFault targets allowed refuses forms steps name f
  search_there fault.OutOfMemory meets = tt
  search_there (fault.Tree n) meets = (inl meets.0, meets.1)
  search_there _ meets = meets

  -- and where there is none, to what the search for a chain leads to
  pub search_chain : (none : (looks : List ℕ → Option FileLook) → allowed looks → source_of (is_there targets looks) forms name ≡ None) (count : ℕ) → 0 < count → count ≤ steps → (f : RuleFault) →
      IsLedFault targets refuses (IsChainedTo forms count name) f → IsSearchFault targets allowed refuses forms steps name f
  search_chain none count some few fault.OutOfMemory meets = tt
  search_chain none count some few (fault.Tree n) meets =
      (inr (record { none = none; no_target = meets.0; count = count; some = some; few = few; leads = meets.1 }), meets.2)
  search_chain none count some few _ meets = meets

module _ (forms : List Form) where
  pub asked_here : (steps : ℕ) (taken : List ℕ) (name : List ℕ) → IsAskedIn forms steps taken name name
  asked_here zero taken name = refl
  asked_here (suc steps) taken name = inl refl

  pub asked_behind : (steps : ℕ) (taken : List ℕ) (name n : List ℕ) → 0 < steps →
      IsBehind (λ rule. IsAskedIn forms (steps - 1) (rule ∷ taken)) (usable false taken forms) name n → IsAskedIn forms steps taken name n
  asked_behind zero taken name n some behind = absurd (omega (arith, some))
  asked_behind (suc steps) taken name n some behind =
      let e : suc steps - 1 ≡ steps = omega arith in
      inr (subst (λ m. IsBehind (λ rule. IsAskedIn forms m (rule ∷ taken)) (usable false taken forms) name n) e behind)
