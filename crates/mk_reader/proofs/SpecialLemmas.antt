-- Words that are no special names.
use Rattle.std.proofs.Common.{◌≡◌, ℕ, Bool, true, false, ◌==◌, List, [], ◌∷◌, None, refl, sym, ap, ◌∙◌, true≢false}
use Rattle.std.proofs.lemmas.Bool.{eqb-true}
use Rattle.mk_profile.specs.declared.profile.Profile.{Profile}
use Rattle.mk_reader.specs.Special.{special_name}
use Rattle.mk_lines.specs.Text.{begins_with}

-- a word that begins with no dot is none
pub without_dot : (profile : Profile) (word : List ℕ) → begins_with 46 word ≡ false → special_name profile word ≡ None
unfolding special_name
without_dot profile [] none = refl
without_dot profile (b ∷ word) none = by (46 == b) refl
  where
    by : (t : Bool) → (46 == b) ≡ t → special_name profile (b ∷ word) ≡ None
    by true e =
        let here : (b == 46) ≡ true = ap (λ n. n == 46) (sym (eqb-true 46 b e)) in
        absurd (true≢false (sym here ∙ none))
    by false e = simp e refl
