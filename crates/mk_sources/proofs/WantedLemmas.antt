-- What a name is made from by some of the forms, one form at a time.
use Rattle.std.proofs.Common.{◌≡◌, ◌+◌, ◌<◌, ℕ, Bool, true, false, List, [], ◌∷◌, ◌++◌, length, take, drop, get_or, Some, None, refl, sym, ap, ◌∙◌}
use Rattle.std.specs.Prelude.{filter, if◌then◌else◌}
use Rattle.std.specs.List.{list_all}
use Rattle.std.proofs.lemmas.List.{take-append-drop}
use Rattle.std.proofs.lemmas.List.Elements.{filter-append}
use Rattle.mk_makefile.specs.Source.{stem_of, source_at, source_of}
use Rattle.mk_makefile.specs.declared.form.Form.{Form}
use Rattle.mk_sources.proofs.SourceLemmas.{from_form, up_to_form, source_of-behind, taken, passed, unfit}

module _ (is_there : List ℕ → Bool) (picks : Form → Bool) (name : List ℕ) where
  -- a form that isn't picked, or doesn't fit
  none_alone : (form : Form) (b : Bool) → picks form ≡ b → (if b then stem_of form name else None) ≡ None → source_of is_there (filter picks (form ∷ [])) name ≡ None
  none_alone form true is none = simp is (unfit is_there form [] name none)
  none_alone form false is none = simp is refl

  passed_alone : (form : Form) (b : Bool) → picks form ≡ b → (stem : List ℕ × List ℕ) → (if b then stem_of form name else None) ≡ Some stem →
      list_all is_there (source_at form stem).names ≡ false → source_of is_there (filter picks (form ∷ [])) name ≡ None
  passed_alone form true is stem fits lacks = simp is (passed is_there form [] name stem fits lacks)
  passed_alone form false is stem fits lacks = cc

  taken_in_front : (form : Form) (forms : List Form) (b : Bool) → picks form ≡ b → (stem : List ℕ × List ℕ) → (if b then stem_of form name else None) ≡ Some stem →
      list_all is_there (source_at form stem).names ≡ true → source_of is_there (filter picks (form ∷ forms)) name ≡ Some (source_at form stem)
  taken_in_front form forms true is stem fits all = simp is (taken is_there form (filter picks forms) name stem fits all)
  taken_in_front form forms false is stem fits all = cc

  module _ (forms : List Form) (k : ℕ) (form : Form) (within : k < length forms) (is : form ≡ get_or forms k form) (none : source_of is_there (filter picks (take k forms)) name ≡ None) where
    more : source_of is_there (filter picks (form ∷ [])) name ≡ None → source_of is_there (filter picks (take (k + 1) forms)) name ≡ None
    more here =
        ap (λ (fs : List Form). source_of is_there (filter picks fs) name) (up_to_form forms k form within is)
        ∙ ap (λ (fs : List Form). source_of is_there fs name) (filter-append picks (take k forms) (form ∷ []))
        ∙ source_of-behind is_there (filter picks (take k forms)) (filter picks (form ∷ [])) name none ∙ here

    pub unfit_among : (if picks form then stem_of form name else None) ≡ None → source_of is_there (filter picks (take (k + 1) forms)) name ≡ None
    unfit_among unfits = more (none_alone form (picks form) refl unfits)

    module _ (stem : List ℕ × List ℕ) (fits : (if picks form then stem_of form name else None) ≡ Some stem) where
      pub passed_among : list_all is_there (source_at form stem).names ≡ false → source_of is_there (filter picks (take (k + 1) forms)) name ≡ None
      passed_among lacks = more (passed_alone form (picks form) refl stem fits lacks)

      pub taken_among : list_all is_there (source_at form stem).names ≡ true → source_of is_there (filter picks forms) name ≡ Some (source_at form stem)
      taken_among all =
          ap (λ (fs : List Form). source_of is_there (filter picks fs) name) (sym (take-append-drop k forms) ∙ ap (λ (fs : List Form). take k forms ++ fs) (from_form forms k form within is))
          ∙ ap (λ (fs : List Form). source_of is_there fs name) (filter-append picks (take k forms) (form ∷ drop (k + 1) forms))
          ∙ source_of-behind is_there (filter picks (take k forms)) (filter picks (form ∷ drop (k + 1) forms)) name none
          ∙ taken_in_front form (drop (k + 1) forms) (picks form) refl stem fits all
