-- What a string behind the others leaves of them.
use Rattle.std.proofs.Common.{◌≡◌, ℕ, zero, suc, ◌+◌, ◌<◌, ◌≤◌, List, [], ◌∷◌, ◌++◌, length, take, drop, refl, sym, ap, ◌∙◌, arith, Bor, length-append, length-drop}
use Rattle.std.specs.Prelude.{slice_get, Option, None, Some}
use Rattle.std.specs.Iterator.{YieldsFirstRef}
use Rattle.std.specs.Option.{option_copied}
use Rattle.std.specs.Int.{w32, from_le_bytes}
use Rattle.std.proofs.lemmas.List.{take-append-le, drop-append-le, take_all, drop_all, drop-drop}
use Rattle.std.proofs.lemmas.Option.{slice_get_past}
use Rattle.byte_strings.specs.Texts.{size_of, first_text, behind_first, texts, AreTexts}

pub length-texts : (count : ℕ) (bytes : List ℕ) → length (texts count bytes) ≡ count
length-texts zero bytes = refl
length-texts (suc count) bytes = ap suc (length-texts count (behind_first bytes))

-- each has at least the bytes of its length
pub AreTexts-few : (count : ℕ) (bytes : List ℕ) → AreTexts count bytes → count ≤ length bytes
AreTexts-few zero bytes h = omega arith
AreTexts-few (suc count) bytes h =
    let behind = AreTexts-few count (behind_first bytes) h.2 in
    omega (arith, h.0, h.1, behind, length-drop 4 bytes, length-drop (size_of bytes) (drop 4 bytes))

-- bytes behind the first string leave it, and lie behind what follows it
size_of-append : (bytes more : List ℕ) → 4 ≤ length bytes → size_of (bytes ++ more) ≡ size_of bytes
size_of-append bytes more h = ap (from_le_bytes w32) (take-append-le 4 bytes more h)

first_text-append : (bytes more : List ℕ) → 4 ≤ length bytes → size_of bytes ≤ length (drop 4 bytes) → first_text (bytes ++ more) ≡ first_text bytes
first_text-append bytes more h within =
    ap (λ (n : ℕ). take n (drop 4 (bytes ++ more))) (size_of-append bytes more h)
    ∙ ap (λ (t : List ℕ). take (size_of bytes) t) (drop-append-le 4 bytes more h)
    ∙ take-append-le (size_of bytes) (drop 4 bytes) more within

behind_first-append : (bytes more : List ℕ) → 4 ≤ length bytes → size_of bytes ≤ length (drop 4 bytes) → behind_first (bytes ++ more) ≡ behind_first bytes ++ more
behind_first-append bytes more h within =
    ap (λ (n : ℕ). drop n (drop 4 (bytes ++ more))) (size_of-append bytes more h)
    ∙ ap (λ (t : List ℕ). drop (size_of bytes) t) (drop-append-le 4 bytes more h)
    ∙ drop-append-le (size_of bytes) (drop 4 bytes) more within

-- a string behind its length
size_of-one : (front string : List ℕ) → length front ≡ 4 → from_le_bytes w32 front ≡ length string → size_of (front ++ string) ≡ length string
size_of-one front string four e = ap (from_le_bytes w32) (take-append-le 4 front string (omega arith) ∙ take_all 4 front (omega arith)) ∙ e

behind_four : (front string : List ℕ) → length front ≡ 4 → drop 4 (front ++ string) ≡ string
behind_four front string four = drop-append-le 4 front string (omega arith) ∙ ap (λ (t : List ℕ). t ++ string) (drop_all 4 front (omega arith))

first_text-one : (front string : List ℕ) → length front ≡ 4 → from_le_bytes w32 front ≡ length string → first_text (front ++ string) ≡ string
first_text-one front string four e =
    ap (λ (n : ℕ). take n (drop 4 (front ++ string))) (size_of-one front string four e)
    ∙ ap (λ (t : List ℕ). take (length string) t) (behind_four front string four)
    ∙ take_all (length string) string (omega arith)

behind_first-one : (front string : List ℕ) → length front ≡ 4 → from_le_bytes w32 front ≡ length string → behind_first (front ++ string) ≡ []
behind_first-one front string four e =
    ap (λ (n : ℕ). drop n (drop 4 (front ++ string))) (size_of-one front string four e)
    ∙ ap (λ (t : List ℕ). drop (length string) t) (behind_four front string four)
    ∙ drop_all (length string) string (omega arith)

-- one more string
pub texts-push : (count : ℕ) (bytes front string : List ℕ) → AreTexts count bytes → length front ≡ 4 → from_le_bytes w32 front ≡ length string
    → texts (suc count) (bytes ++ (front ++ string)) ≡ texts count bytes ++ string ∷ []
texts-push zero bytes front string h four e = rw h (ap (λ (t : List ℕ). t ∷ []) (first_text-one front string four e))
texts-push (suc count) bytes front string h four e =
    let first = first_text-append bytes (front ++ string) h.0 h.1 in
    let behind = ap (texts (suc count)) (behind_first-append bytes (front ++ string) h.0 h.1) in
    let others = texts-push count (behind_first bytes) front string h.2 four e in
    cc

pub AreTexts-push : (count : ℕ) (bytes front string : List ℕ) → AreTexts count bytes → length front ≡ 4 → from_le_bytes w32 front ≡ length string
    → AreTexts (suc count) (bytes ++ (front ++ string))
AreTexts-push zero bytes front string h four e = rw h (
  omega (arith, length-append front string),
  omega (arith, size_of-one front string four e, ap length (behind_four front string four)),
  behind_first-one front string four e,
)
AreTexts-push (suc count) bytes front string h four e =
    let more : List ℕ = front ++ string in (
      omega (arith, length-append bytes more),
      omega (arith, h.1, size_of-append bytes more h.0, ap length (drop-append-le 4 bytes more h.0), length-append (drop 4 bytes) more),
      rw (behind_first-append bytes more h.0 h.1) (AreTexts-push count (behind_first bytes) front string h.2 four e),
    )

-- what is left behind one more step
pub one_passed : (items left : List (List ℕ)) (i : ℕ) (string : List ℕ) → drop i items ≡ string ∷ left → left ≡ drop (i + 1) items
one_passed items left i string e = sym (sym (drop-drop 1 i items) ∙ ap (λ (l : List (List ℕ)). drop 1 l) e)

-- where nothing is left, there is none of a later number
pub none_left : (items : List (List ℕ)) (i number : ℕ) → i < number → drop i items ≡ [] → slice_get items number ≡ None
none_left items i number later e = slice_get_past items number (omega (arith, ap length e, length-drop i items))

pub first_left : (items : List (List ℕ)) (i : ℕ) → slice_get (drop i items) 0 ≡ slice_get items i
first_left [] zero = refl
first_left [] (suc i) = refl
first_left (x ∷ items) zero = refl
first_left (x ∷ items) (suc i) = first_left items i

-- the next one is the first that is left
pub next_left : (left new : List (List ℕ)) (next : Option (Bor (List ℕ))) → YieldsFirstRef (λ s. s) left next new → option_copied next ≡ slice_get left 0
next_left left new None h = rw h.0 refl
next_left left new (Some string) h = rw h refl
