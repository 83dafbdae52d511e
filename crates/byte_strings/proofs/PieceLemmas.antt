-- What a string pushed behind the others leaves of them, and where the string of a number lies.
use Rattle.std.proofs.Common.{◌≡◌, ℕ, zero, suc, ◌-◌, ◌<◌, ◌≤◌, List, [], ◌∷◌, ◌++◌, length, take, drop, get_or, refl, sym, ap, ◌∙◌, arith, length-append, length-drop, Some}
use Rattle.std.specs.Prelude.{slice_range, slice_get}
use Rattle.std.proofs.lemmas.List.{take-append-le, drop-append-le, take_all, get_or_default}
use Rattle.std.proofs.Math.Seq.{drop-append_seam}
use Rattle.byte_strings.specs.Pieces.{pieces, AreEnds}

-- no end is past the size
pub AreEnds-within : (size start : ℕ) (ends : List ℕ) → AreEnds size start ends → start ≤ size
AreEnds-within size start [] h = omega (arith, h)
AreEnds-within size start (end ∷ ends) h = omega (arith, h.0, AreEnds-within size end ends h.1)

-- bytes behind a piece leave it
slice_range-append : (text more : List ℕ) (start end : ℕ) → start ≤ end → end ≤ length text → slice_range (text ++ more) start end ≡ slice_range text start end
slice_range-append text more start end h within =
    let first : start ≤ length text = omega arith in
    ap (λ (t : List ℕ). take (end - start) t) (drop-append-le start text more first)
    ∙ take-append-le (end - start) (drop start text) more (omega (arith, length-drop start text))

-- what stands behind a text is the piece from the text's size on
slice_range-behind : (text more : List ℕ) (start size : ℕ) → start ≡ length text → size ≡ length (text ++ more) → slice_range (text ++ more) start size ≡ more
slice_range-behind text more start size e is =
    ap (λ (s : ℕ). take (size - s) (drop s (text ++ more))) e
    ∙ ap (λ (t : List ℕ). take (size - length text) t) (drop-append_seam text more)
    ∙ take_all (size - length text) more (omega (arith, length-append text more))

-- one more string
pub pieces-push : (text string : List ℕ) (size start : ℕ) (ends : List ℕ) → AreEnds (length text) start ends → size ≡ length (text ++ string) → pieces (text ++ string) start (ends ++ size ∷ []) ≡ pieces text start ends ++ string ∷ []
pieces-push text string size start [] h e = ap (λ s. s ∷ []) (slice_range-behind text string start size h e)
pieces-push text string size start (end ∷ ends) h e =
    let front = slice_range-append text string start end h.0 (AreEnds-within (length text) end ends h.1) in
    let behind = pieces-push text string size end ends h.1 e in
    cc

pub AreEnds-push : (text string : List ℕ) (size start : ℕ) (ends : List ℕ) → AreEnds (length text) start ends → size ≡ length (text ++ string) → AreEnds (length (text ++ string)) start (ends ++ size ∷ [])
AreEnds-push text string size start [] h e = (omega (arith, length-append text string), e)
AreEnds-push text string size start (end ∷ ends) h e = (h.0, AreEnds-push text string size end ends h.1 e)

pub length-pieces : (text : List ℕ) (start : ℕ) (ends : List ℕ) → length (pieces text start ends) ≡ length ends
length-pieces text start [] = refl
length-pieces text start (end ∷ ends) = ap suc (length-pieces text end ends)

-- the string of this number, where there is one
pub pieces-get : (text : List ℕ) (start : ℕ) (ends : List ℕ) (i : ℕ) → i < length ends → slice_get (pieces text start ends) i ≡ Some (slice_range text (get_or (start ∷ ends) i 0) (get_or ends i 0))
pieces-get text start [] i h = absurd (omega arith)
pieces-get text start (end ∷ ends) zero h = refl
pieces-get text start (end ∷ ends) (suc i) h = pieces-get text end ends i (omega arith)

-- it lies within the text
pub AreEnds-at : (size start : ℕ) (ends : List ℕ) (i : ℕ) → AreEnds size start ends → i < length ends → (get_or (start ∷ ends) i 0 ≤ get_or ends i 0) × (get_or ends i 0 ≤ size)
AreEnds-at size start [] i h within = absurd (omega arith)
AreEnds-at size start (end ∷ ends) zero h within = (h.0, AreEnds-within size end ends h.1)
AreEnds-at size start (end ∷ ends) (suc i) h within = AreEnds-at size end ends i h.1 (omega arith)

-- a string that is found: where it lies, and that it is the one of this number
pub found_at : (text ends : List ℕ) (i start end : ℕ) → AreEnds (length text) 0 ends → i < length ends → start ≡ get_or (0 ∷ ends) i 0 → end ≡ get_or ends i end → (start ≤ end) × (end ≤ length text) × (slice_get (pieces text 0 ends) i ≡ Some (slice_range text start end))
found_at text ends i start end h within first last =
    let at : end ≡ get_or ends i 0 = last ∙ get_or_default ends i end 0 within in
    let places = AreEnds-at (length text) 0 ends i h within in
    let range : slice_range text (get_or (0 ∷ ends) i 0) (get_or ends i 0) ≡ slice_range text start end = ap (λ (s : ℕ). slice_range text s (get_or ends i 0)) (sym first) ∙ ap (λ (e : ℕ). slice_range text start e) (sym at) in
    (omega (arith, places.0), omega (arith, places.1), pieces-get text 0 ends i within ∙ ap Some range)
