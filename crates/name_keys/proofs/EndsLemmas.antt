-- What marks tell of bytes.
use Rattle.std.proofs.Common.{◌≡◌, ℕ, zero, suc, Bool, true, false, ◌&&◌, ◌||◌, get_or, replicate, refl, ap, ◌∙◌}

pub all_marked : (n i : ℕ) → get_or (replicate n true) i true ≡ true
all_marked zero i = refl
all_marked (suc n) zero = refl
all_marked (suc n) (suc i) = all_marked n i

pub both_marked : (empty first last : Bool) → first ≡ true → last ≡ true → (empty || (first && last)) ≡ true
both_marked true first last f l = refl
both_marked false first last f l = ap (λ b. b && last) f ∙ l
