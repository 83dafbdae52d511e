-- Strings that are read are those that lie in the bytes, each behind its length.
use Rattle.std.proofs.Common.{◌≡◌, ◌∙◌, ℕ, zero, suc, ◌+◌, ◌≤◌, ltb, List, [], ◌∷◌, length, take, drop, Ok, refl, sym, ap, subst, arith}
use Rattle.std.specs.Int.{w32, from_le_bytes}
use Rattle.std.proofs.lemmas.Bool.{ltb-false}
use Rattle.std.proofs.lemmas.List.{length-drop, length-take-le, take-take, drop-take, drop-drop}
use Rattle.byte_strings.specs.Texts.{size_of, first_text, behind_first, texts, AreTexts}
use Rattle.st_records.specs.declared.fault.DecodeFault.TheVariants.{Short}
use Rattle.st_records.specs.Reading.{◌>>=◌, number_at, bytes_at, string_at, items_at}
use Rattle.st_records.proofs.Fields.{bind_ok, guard_ok, ok_is}

-- the first n bytes are so many strings, and this is what follows
abbrev pub AreRead : ℕ → List ℕ → List (List ℕ) × List ℕ → Type 0
AreRead count bytes x =
    (n : ℕ) × (n + length x.1 ≡ length bytes) × AreTexts count (take n bytes) × (x.0 ≡ texts count (take n bytes)) × (x.1 ≡ drop n bytes)

-- the first string, where there is one
first_is : (bytes : List ℕ) (x : List ℕ × List ℕ) → string_at bytes ≡ Ok x → (4 ≤ length bytes) × (size_of bytes ≤ length (drop 4 bytes)) × ((first_text bytes, behind_first bytes) ≡ x)
unfolding string_at
first_is bytes x e =
    let n = bind_ok (number_at bytes) (λ n. bytes_at n.0 n.1) x e in
    let g = guard_ok (ltb (length bytes) 4) Short (size_of bytes, drop 4 bytes) n.0 n.1 in
    let behind : bytes_at (size_of bytes) (drop 4 bytes) ≡ Ok x = rw (sym g.1) at n.2 in
    let h = guard_ok (ltb (length (drop 4 bytes)) (size_of bytes)) Short (first_text bytes, behind_first bytes) x behind in
    (ltb-false (length bytes) 4 g.0, ltb-false (length (drop 4 bytes)) (size_of bytes) h.0, h.1)

-- one string more in front
read_more : (count : ℕ) (bytes : List ℕ) (x : List (List ℕ) × List ℕ) → 4 ≤ length bytes → size_of bytes ≤ length (drop 4 bytes) → AreRead count (behind_first bytes) x
    → AreRead (suc count) bytes (first_text bytes ∷ x.0, x.1)
read_more count bytes x four within read =
    let m = read.0 in
    let s = size_of bytes in
    let n = 4 + (s + m) in
    let all : n + length x.1 ≡ length bytes = omega (arith, read.1, length-drop s (drop 4 bytes), length-drop 4 bytes) in
    let size : length (take n bytes) ≡ n = length-take-le n bytes (omega arith) in
    let head : size_of (take n bytes) ≡ s = ap (from_le_bytes w32) (take-take 4 n bytes (omega arith)) in
    let body : drop 4 (take n bytes) ≡ take (s + m) (drop 4 bytes) = drop-take 4 (s + m) bytes in
    let text : first_text (take n bytes) ≡ first_text bytes = rw (head, body) (take-take s (s + m) (drop 4 bytes) (omega arith)) in
    let behind : behind_first (take n bytes) ≡ take m (behind_first bytes) = rw (head, body) (drop-take s m (drop 4 bytes)) in
    let fits : size_of (take n bytes) ≤ length (drop 4 (take n bytes)) = omega (arith, head, length-drop 4 (take n bytes)) in
    let others : AreTexts count (behind_first (take n bytes)) = subst (AreTexts count) (sym behind) read.2 in
    let items : first_text bytes ∷ x.0 ≡ texts (suc count) (take n bytes) = rw (text, behind) (ap (λ (xs : List (List ℕ)). first_text bytes ∷ xs) read.3) in
    let last : x.1 ≡ drop n bytes = read.4 ∙ drop-drop m s (drop 4 bytes) ∙ drop-drop (s + m) 4 bytes in
    (n, all, (omega (arith, size), fits, others), items, last)

pub are_read : (count : ℕ) (bytes : List ℕ) (x : List (List ℕ) × List ℕ) → items_at count bytes ≡ Ok x → AreRead count bytes x
unfolding items_at
are_read zero bytes x e =
    let all : 0 + length bytes ≡ length bytes = omega arith in
    subst (AreRead zero bytes) (ok_is ([], bytes) x e) (0, all, refl, refl, refl)
are_read (suc count) bytes x e =
    let f = bind_ok (string_at bytes) (λ first. items_at count first.1 >>= λ others. Ok (first.0 ∷ others.0, others.1)) x e in
    let o = bind_ok (items_at count f.0.1) (λ others. Ok (f.0.0 ∷ others.0, others.1)) x f.2 in
    let first = first_is bytes f.0 f.1 in
    let more : AreRead count f.0.1 o.0 = are_read count f.0.1 o.0 o.1 in
    let behind : AreRead count (behind_first bytes) o.0 = subst (λ (y : List ℕ × List ℕ). AreRead count y.1 o.0) (sym first.2) more in
    let whole : AreRead (suc count) bytes (f.0.0 ∷ o.0.0, o.0.1) = subst (λ (y : List ℕ × List ℕ). AreRead (suc count) bytes (y.0 ∷ o.0.0, o.0.1)) first.2 (read_more count bytes o.0 first.0 first.1 behind) in
    subst (AreRead (suc count) bytes) (ok_is (f.0.0 ∷ o.0.0, o.0.1) x o.2) whole
