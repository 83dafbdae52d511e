-- The sign of a time.
use Rattle.std.proofs.Common.{◌≡◌, ◌∙◌, ℤ, pos, negsuc, true, false, int_le, [], codes, refl, sym, true≢false}
use lib.Dec.{leb-zero}
use Rattle.st_marks.specs.Told.{sign_text}

pub no_sign : (z : ℤ) → int_le (pos 0) z ≡ true → sign_text z ≡ []
no_sign (pos n) e = refl
no_sign (negsuc n) e = absurd cc

pub minus : (z : ℤ) → int_le (pos 0) z ≡ false → sign_text z ≡ codes "-"
minus (pos n) e = absurd (true≢false (sym (leb-zero n) ∙ e))
minus (negsuc n) e = refl
