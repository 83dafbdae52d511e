-- Rows by the places between which they lie.
use Rattle.std.proofs.Common.{◌≡◌, ℕ, zero, suc, ◌+◌, ◌-◌, ◌<◌, ◌≤◌, List, [], ◌∷◌, ◌++◌, length, take, drop, get_or, slice_index, refl, sym, ap, ◌∙◌, arith}
use Rattle.std.specs.Prelude.{slice_range}
use Rattle.std.proofs.lemmas.List.{drop-take, drop-drop, map-append, length-map, get_or-map}
use Rattle.std.proofs.lemmas.List.Elements.{All-append}
use Rattle.byte_strings.specs.Pieces.{pieces, AreEnds}
use Rattle.byte_strings.proofs.PieceLemmas.{AreEnds-at}
use Rattle.mk_graph.specs.declared.shared_rows.Span.{Span}
use Rattle.mk_graph.specs.Edges.{row}
use Rattle.mk_graph.specs.Parts.{by_counts}
use Rattle.mk_graph.specs.Spans.{spanned, rows_at, IsWithin, AreWithin}
use Rattle.mk_graph.proofs.PartLemmas.{parts_more}

-- what begins so many numbers behind
pub slice_range_behind : (numbers : List ℕ) (start count end : ℕ) → start + count ≤ end → slice_range numbers (start + count) end ≡ drop count (slice_range numbers start end)
slice_range_behind numbers start count end h =
    let long : end - start ≡ count + (end - (start + count)) = omega arith in
    sym (ap (λ n. drop count (take n (drop start numbers))) long ∙ drop-take count (end - (start + count)) (drop start numbers)
    ∙ ap (take (end - (start + count))) (drop-drop count start numbers))

-- one row more
rows_at-push : (numbers : List ℕ) (spans : List Span) (span : Span) → rows_at numbers (spans ++ span ∷ []) ≡ rows_at numbers spans ++ spanned numbers span ∷ []
rows_at-push numbers spans span = map-append (spanned numbers) spans (span ∷ [])

pub AreWithin-push : (size : ℕ) (spans : List Span) (span : Span) → AreWithin size spans → IsWithin size span → AreWithin size (spans ++ span ∷ [])
AreWithin-push size spans span before last = All-append (IsWithin size) spans (span ∷ []) before alone
  where
    alone : (k : ℕ) (d : Span) → k < 1 → IsWithin size (get_or (span ∷ []) k d)
    alone zero d h = last
    alone (suc k) d h = absurd (omega arith)

-- the row of a node
pub row_spanned : (numbers : List ℕ) (spans : List Span) (g : List (List ℕ)) (n : ℕ) (span : Span) → rows_at numbers spans ≡ g → n < length g → span ≡ get_or spans n span
    → spanned numbers span ≡ row g n
row_spanned numbers spans g n span shown within at =
    let many = ap length shown in
    let same = length-map spans (spanned numbers) in
    ap (spanned numbers) at ∙ sym (get_or-map (spanned numbers) spans n span [] (omega (arith, many, same))) ∙ ap (λ h. row h n) shown

-- the parts of one row more
pub rows_at_more : (part : ℕ → List ℕ → List ℕ) (counts numbers : List ℕ) (spans so_far : List Span) (g : List (List ℕ)) (n : ℕ) (span piece : Span)
    → length counts ≡ length g → n < length g → rows_at numbers spans ≡ g → span ≡ get_or spans n span
    → spanned numbers piece ≡ part (slice_index counts n) (spanned numbers span)
    → rows_at numbers so_far ≡ take n (by_counts part counts g) → rows_at numbers (so_far ++ piece ∷ []) ≡ take (n + 1) (by_counts part counts g)
rows_at_more part counts numbers spans so_far g n span piece same within shown at here is =
    rows_at-push numbers so_far piece
    ∙ parts_more part counts g n (rows_at numbers so_far) (spanned numbers piece) same within is
    (here ∙ ap (part (slice_index counts n)) (row_spanned numbers spans g n span shown within at))

-- one more of the rows that end there
pieces_suc : (numbers : List ℕ) (start : ℕ) (ends : List ℕ) (n : ℕ) → n < length ends
    → pieces numbers start (take (suc n) ends) ≡ pieces numbers start (take n ends) ++ slice_range numbers (get_or (start ∷ ends) n 0) (get_or ends n 0) ∷ []
pieces_suc numbers start [] n h = absurd (omega arith)
pieces_suc numbers start (end ∷ ends) zero h = refl
pieces_suc numbers start (end ∷ ends) (suc n) h = ap (λ l. slice_range numbers start end ∷ l) (pieces_suc numbers end ends n (omega arith))

pub spans_more : (numbers ends : List ℕ) (spans : List Span) (n : ℕ) (span : Span) → n < length ends → span.start ≡ get_or (0 ∷ ends) n 0 → span.end ≡ get_or ends n 0
    → rows_at numbers spans ≡ pieces numbers 0 (take n ends) → rows_at numbers (spans ++ span ∷ []) ≡ pieces numbers 0 (take (n + 1) ends)
spans_more numbers ends spans n span h first last is =
    let next : suc n ≡ n + 1 = omega arith in
    rows_at-push numbers spans span
    ∙ ap (λ l. l ++ spanned numbers span ∷ []) is
    ∙ ap (λ (s : ℕ). pieces numbers 0 (take n ends) ++ slice_range numbers s span.end ∷ []) first
    ∙ ap (λ (e : ℕ). pieces numbers 0 (take n ends) ++ slice_range numbers (get_or (0 ∷ ends) n 0) e ∷ []) last
    ∙ sym (pieces_suc numbers 0 ends n h) ∙ ap (λ k. pieces numbers 0 (take k ends)) next

-- it lies within the numbers
pub span_within : (size : ℕ) (ends : List ℕ) (n : ℕ) (span : Span) → AreEnds size 0 ends → n < length ends → span.start ≡ get_or (0 ∷ ends) n 0 → span.end ≡ get_or ends n 0
    → IsWithin size span
span_within size ends n span are h first last =
    let at = AreEnds-at size 0 ends n are h in
    (omega (arith, at.0, first, last), omega (arith, at.1, last))
