-- Members of brackets, one by one.
use Rattle.std.proofs.Common.{◌≡◌, ℕ, Bool, true, false, cond, ◌||◌, ◌&&◌, ◌==◌, nat_le, List, [], ◌∷◌, drop, Option, Some, None, refl, sym, ap, ◌∙◌}
use Rattle.std.proofs.lemmas.Bool.Decides.{Decides-eqb}
use Rattle.mk_wildcards.specs.Pattern.{range_behind, is_member}

or_nothing : (t : Bool) → t ≡ (t || false)
or_nothing true = refl
or_nothing false = refl

pub single_member : (low b : ℕ) (behind : List ℕ) → range_behind behind ≡ None → is_member (low ∷ behind) b ≡ ((low == b) || is_member behind b)
single_member low b [] h = or_nothing (low == b)
single_member low b (other ∷ []) h = refl
single_member low b (sign ∷ high ∷ more) h = at (sign == 45) refl
  where
    at : (t : Bool) → (sign == 45) ≡ t → is_member (low ∷ sign ∷ high ∷ more) b ≡ ((low == b) || is_member (sign ∷ high ∷ more) b)
    at true e = let some : Some high ≡ None = sym (ap (λ t. cond t (Some high) None) e) ∙ h in absurd (cc some)
    at false e = ap (λ t. cond t ((nat_le low b && nat_le b high) || is_member more b) ((low == b) || is_member (sign ∷ high ∷ more) b)) e

abbrev some_value : Option ℕ → ℕ
some_value None = 0
some_value (Some n) = n

pub range_member : (low b high : ℕ) (behind : List ℕ) → range_behind behind ≡ Some high → is_member (low ∷ behind) b ≡ ((nat_le low b && nat_le b high) || is_member (drop 2 behind) b)
range_member low b high [] h = absurd (cc h)
range_member low b high (other ∷ []) h = absurd (cc h)
range_member low b high (sign ∷ top ∷ more) h = at (sign == 45) refl
  where
    at : (t : Bool) → (sign == 45) ≡ t → is_member (low ∷ sign ∷ top ∷ more) b ≡ ((nat_le low b && nat_le b high) || is_member more b)
    at true e =
        let some : Some top ≡ Some high = sym (ap (λ t. cond t (Some top) None) e) ∙ h in
        ap (λ t. cond t ((nat_le low b && nat_le b top) || is_member more b) ((low == b) || is_member (sign ∷ top ∷ more) b)) e
        ∙ ap (λ n. (nat_le low b && nat_le b (some_value n)) || is_member more b) some
    at false e = let none : None ≡ Some high = sym (ap (λ t. cond t (Some top) None) e) ∙ h in absurd (cc none)

differs_by : (x y : ℕ) → (x ≡ y → ⊥) → (t : Bool) → (x == y) ≡ t → (x == y) ≡ false
differs_by x y h true e = absurd (h ((Decides-eqb x y).0 e))
differs_by x y h false e = e

pub differs : (x y : ℕ) → (x ≡ y → ⊥) → (x == y) ≡ false
differs x y h = differs_by x y h (x == y) refl
