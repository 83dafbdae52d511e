-- How many bytes strings take that lie at the front of others.
use Rattle.std.proofs.Common.{◌≡◌, ◌∙◌, ℕ, zero, suc, ◌+◌, ◌-◌, ◌<◌, ◌≤◌, List, ◌++◌, length, take, drop, refl, ap, subst, arith, length-drop, length-append}
use Rattle.std.specs.Int.{w32, from_le_bytes}
use Rattle.std.proofs.lemmas.List.{take-append-le, drop-append-le, take-take, drop-take}
use Rattle.std.proofs.Math.Seq.{take-append_seam, drop-append_seam}
use Rattle.byte_strings.specs.Texts.{size_of, behind_first, AreTexts}
use Rattle.st_packed.specs.Packed.{texts_size}

-- bytes behind the first string leave its length, and lie behind what follows it
size_before : (bytes more : List ℕ) → 4 ≤ length bytes → size_of (bytes ++ more) ≡ size_of bytes
size_before bytes more h = ap (from_le_bytes w32) (take-append-le 4 bytes more h)

behind_before : (bytes more : List ℕ) → 4 ≤ length bytes → size_of bytes ≤ length (drop 4 bytes) → behind_first (bytes ++ more) ≡ behind_first bytes ++ more
behind_before bytes more h within =
    ap (λ (n : ℕ). drop n (drop 4 (bytes ++ more))) (size_before bytes more h)
    ∙ ap (λ (t : List ℕ). drop (size_of bytes) t) (drop-append-le 4 bytes more h)
    ∙ drop-append-le (size_of bytes) (drop 4 bytes) more within

-- strings take all of their bytes, whatever follows them
pub size_of_texts : (count : ℕ) (bytes more : List ℕ) → AreTexts count bytes → texts_size count (bytes ++ more) ≡ length bytes
size_of_texts zero bytes more h = rw h refl
size_of_texts (suc count) bytes more h =
    let size = size_before bytes more h.0 in
    let behind = ap (texts_size count) (behind_before bytes more h.0 h.1) ∙ size_of_texts count (behind_first bytes) more h.2 in
    omega (arith, h.0, h.1, size, behind, length-drop 4 bytes, length-drop (size_of bytes) (drop 4 bytes))

-- so many strings lie at the front of the bytes
pub record LieInFront (count : ℕ) (bytes : List ℕ) : Type 0 where
  pub fit : texts_size count bytes ≤ length bytes
  pub lie : AreTexts count (take (texts_size count bytes) bytes)

pub first_whole : (left : ℕ) (bytes : List ℕ) → 0 < left → LieInFront left bytes → (4 ≤ length bytes) × (size_of bytes ≤ length (drop 4 bytes))
first_whole zero bytes some h = absurd (omega (arith, some))
first_whole (suc count) bytes some h = (omega (arith, h.fit), omega (arith, h.fit, length-drop 4 bytes))

-- behind the first one the others lie in front
others_in_front : (count : ℕ) (bytes : List ℕ) → LieInFront (suc count) bytes → LieInFront count (behind_first bytes)
others_in_front count bytes h =
    let s = size_of bytes in
    let m = texts_size count (behind_first bytes) in
    let n = 4 + (s + m) in
    let head : size_of (take n bytes) ≡ s = ap (from_le_bytes w32) (take-take 4 n bytes (omega arith)) in
    let body : drop 4 (take n bytes) ≡ take (s + m) (drop 4 bytes) = drop-take 4 (s + m) bytes in
    let behind : behind_first (take n bytes) ≡ take m (behind_first bytes) = rw (head, body) (drop-take s m (drop 4 bytes)) in
    record {
      fit = omega (arith, h.fit, length-drop 4 bytes, length-drop s (drop 4 bytes));
      lie = subst (AreTexts count) behind h.lie.2;
    }

-- what is left behind the first one, and how many bytes that is less
abbrev pub IsPassed : (left : ℕ) (bytes : List ℕ) → Type 0
IsPassed left bytes =
    LieInFront (left - 1) (behind_first bytes)
    × (texts_size left bytes + length (behind_first bytes) ≡ length bytes + texts_size (left - 1) (behind_first bytes))

pub first_passed : (left : ℕ) (bytes : List ℕ) → 0 < left → LieInFront left bytes → IsPassed left bytes
first_passed zero bytes some h = absurd (omega (arith, some))
first_passed (suc count) bytes some h =
    let one_less : suc count - 1 ≡ count = omega arith in
    rw one_less (others_in_front count bytes h, omega (arith, h.fit, length-drop 4 bytes, length-drop (size_of bytes) (drop 4 bytes)))

-- the first bytes are those of the commands, the next ones those of the hidden names, and the last those of the explicit ones
pub record IsParted (commands hidden_bytes : ℕ) (first second third bytes : List ℕ) : Type 0 where
  pub fits : texts_size commands bytes ≤ length bytes
  pub front : take (texts_size commands bytes) bytes ≡ first
  pub hidden_fits : hidden_bytes ≤ length (drop (texts_size commands bytes) bytes)
  pub middle : take hidden_bytes (drop (texts_size commands bytes) bytes) ≡ second
  pub last : drop hidden_bytes (drop (texts_size commands bytes) bytes) ≡ third

pub joined_parts : (commands hidden_bytes : ℕ) (first second third bytes : List ℕ) → AreTexts commands first → hidden_bytes ≡ length second
    → bytes ≡ first ++ (second ++ third) → IsParted commands hidden_bytes first second third bytes
joined_parts commands hidden_bytes first second third bytes lie size joined =
    let all : texts_size commands bytes ≡ length first = ap (texts_size commands) joined ∙ size_of_texts commands first (second ++ third) lie in
    let behind : drop (texts_size commands bytes) bytes ≡ second ++ third
    = ap (λ n. drop n bytes) all ∙ ap (drop (length first)) joined ∙ drop-append_seam first (second ++ third) in
    record {
      fits = omega (arith, all, ap length joined, length-append first (second ++ third));
      front = ap (λ n. take n bytes) all ∙ ap (take (length first)) joined ∙ take-append_seam first (second ++ third);
      hidden_fits = omega (arith, size, ap length behind, length-append second third);
      middle = ap (take hidden_bytes) behind ∙ ap (λ n. take n (second ++ third)) size ∙ take-append_seam second third;
      last = ap (drop hidden_bytes) behind ∙ ap (λ n. drop n (second ++ third)) size ∙ drop-append_seam second third;
    }
