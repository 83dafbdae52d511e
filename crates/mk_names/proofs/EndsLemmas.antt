-- What the first and last bytes of names tell, as names are added.
use Rattle.std.proofs.Common.{◌≡◌, ◌∙◌, ℕ, Bool, true, false, ◌||◌, true≢false, List, [], ◌∷◌, ◌++◌, refl, sym, ap}
use Rattle.std.specs.Str.{bytes_eq}
use Rattle.std.proofs.lemmas.List.Folds.{list_any-append}
use Rattle.std.proofs.lemmas.Slice.Eq.{bytes_eq-Decides}
use Rattle.name_keys.specs.Ends.{may_have}
use Rattle.name_keys.specs.declared.ends.NameEnds.{NameEnds}
use Rattle.mk_names.specs.Ends.{AreEndsOf}
use Rattle.mk_names.specs.Names.{has_name}

pub ends_none : (ends : NameEnds) (names : List (List ℕ)) → names ≡ [] → AreEndsOf ends names
ends_none ends names none = λ name h. ap (λ l. has_name l name) none

unmarked : (old new : Bool) → (old ≡ true → new ≡ true) → new ≡ false → old ≡ false
unmarked true new kept h = absurd (true≢false (sym (kept refl) ∙ h))
unmarked false new kept h = refl

apart : (same : Bool) → (same ≡ true → ⊥) → same ≡ false
apart true unlike = absurd (unlike refl)
apart false unlike = refl

neither : (there same : Bool) → there ≡ false → same ≡ false → (there || (same || false)) ≡ false
neither there same t s = ap (λ b. b || (same || false)) t ∙ ap (λ b. b || false) s

-- a name that was marked is one more
pub ends_push : (old new : NameEnds) (names more : List (List ℕ)) (name : List ℕ) → ((other : List ℕ) → may_have old other ≡ true → may_have new other ≡ true)
    → may_have new name ≡ true → AreEndsOf old names → more ≡ names ++ name ∷ [] → AreEndsOf new more
ends_push old new names more name kept marked are longer = λ q h.
    let there = are q (unmarked (may_have old q) (may_have new q) (kept q) h) in
    let other : bytes_eq q name ≡ false = apart (bytes_eq q name) (λ same. true≢false (sym marked ∙ ap (may_have new) (sym ((bytes_eq-Decides q name).0 same)) ∙ h)) in
    ap (λ l. has_name l q) longer ∙ list_any-append (bytes_eq q) names (name ∷ []) ∙ neither (has_name names q) (bytes_eq q name) there other
