-- Bytes that are UTF-8, and those of ASCII without a NUL, which are text.
use Rattle.std.proofs.Common.{◌≡◌, ℕ, zero, suc, ◌+◌, ◌<◌, ◌≤◌, Bool, true, false, not, ◌&&◌, ◌||◌, ◌==◌, nat_le, List, [], ◌∷◌, length, drop, get_or, refl, sym, ap, ◌∙◌, arith, leb-true, ne_eqb}
use Rattle.std.proofs.lemmas.List.{drop_more, drop_all}
use Rattle.std.specs.List.{list_any, list_all}
use Rattle.std.specs.Str.{IsUtf8, IsAscii, is_utf8}
use Rattle.std.proofs.lemmas.Str.{IsUtf8-from_is_utf8, IsUtf8-from_ascii, is_utf8-from_IsUtf8}
use Rattle.mk_lines.specs.Text.{is_nul, is_plain, is_text}
use Rattle.mk_lines.proofs.ReferenceLemmas.{and_true}

false_from_not : (b : Bool) → (b ≡ true → ⊥) → b ≡ false
false_from_not true h = absurd (h refl)
false_from_not false h = refl

-- the test of bytes that aren't UTF-8
pub is_utf8-none : (bs : List ℕ) → (IsUtf8 bs → ⊥) → is_utf8 bs ≡ false
is_utf8-none bs h = false_from_not (is_utf8 bs) (λ e. h (IsUtf8-from_is_utf8 bs e))

pub ascii_is_utf8 : (bs : List ℕ) → IsAscii bs → true ≡ is_utf8 bs
ascii_is_utf8 bs h = sym (is_utf8-from_IsUtf8 bs (IsUtf8-from_ascii bs h))

plain_below : (b : ℕ) → is_plain b ≡ true → (b < 128) × ((b == 0) ≡ false)
plain_below b h =
    let parts = and_true (nat_le 1 b) (nat_le b 127) h in
    let low = leb-true 1 b parts.0 in
    let high = leb-true b 127 parts.1 in
    (omega arith, ne_eqb b 0 (λ e. absurd (omega arith)))

all_ascii : (bs : List ℕ) → list_all is_plain bs ≡ true → IsAscii bs
all_ascii [] h i = omega arith
all_ascii (b ∷ bs) h zero = (plain_below b (and_true (is_plain b) (list_all is_plain bs) h).0).0
all_ascii (b ∷ bs) h (suc i) = all_ascii bs (and_true (is_plain b) (list_all is_plain bs) h).1 i

no_nul : (bs : List ℕ) → list_all is_plain bs ≡ true → list_any is_nul bs ≡ false
no_nul [] h = refl
no_nul (b ∷ bs) h =
    let parts = and_true (is_plain b) (list_all is_plain bs) h in
    ap (λ t. t || list_any is_nul bs) (plain_below b parts.0).1 ∙ no_nul bs parts.1

pub all_plain : (bs : List ℕ) → list_all is_plain bs ≡ true → is_text bs ≡ true
unfolding is_text
all_plain bs h = ap (λ t. t && not (list_any is_nul bs)) (sym (ascii_is_utf8 bs (all_ascii bs h))) ∙ ap not (no_nul bs h)

-- Tests of each byte of a text

and_assoc : (a b c : Bool) → ((a && b) && c) ≡ (a && (b && c))
and_assoc true b c = refl
and_assoc false b c = refl

and_last : (a : Bool) → a ≡ (a && true)
and_last true = refl
and_last false = refl

-- one more byte is tested
pub all_step : (p : ℕ → Bool) (bs : List ℕ) (at : ℕ) (t : Bool) → at < length bs → ((t && p (get_or bs at 0)) && list_all p (drop (at + 1) bs)) ≡ (t && list_all p (drop at bs))
all_step p bs at t h = and_assoc t (p (get_or bs at 0)) (list_all p (drop (at + 1) bs)) ∙ sym (ap (λ xs. t && list_all p xs) (drop_more bs at 0 h))

-- each byte is tested
pub all_end : (p : ℕ → Bool) (bs : List ℕ) (at : ℕ) (t : Bool) → length bs ≤ at → (t && list_all p (drop at bs)) ≡ list_all p bs → t ≡ list_all p bs
all_end p bs at t h e = and_last t ∙ sym (ap (λ xs. t && list_all p xs) (drop_all at bs h)) ∙ e
