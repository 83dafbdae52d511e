-- Texts, or rows of numbers, that lie one behind the other in one list of numbers.
use Rattle.std.proofs.Common.{◌≡◌, ℕ, ◌<◌, ◌≤◌, List, [], ◌∷◌, length, get_or, sym}
use Rattle.std.specs.Prelude.{slice_range, slice_index_or}
use Rattle.std.proofs.lemmas.Option.{get_or_from_slice_get}
use Rattle.byte_strings.specs.Pieces.{pieces, AreEnds}
use Rattle.byte_strings.proofs.PieceLemmas.{found_at}

-- where the text with a number, or the row of a node, lies
pub row_at : (numbers ends : List ℕ) (node start end : ℕ) → AreEnds (length numbers) 0 ends → node < length ends → start ≡ get_or (0 ∷ ends) node 0 → end ≡ get_or ends node end
    → (start ≤ end) × (end ≤ length numbers) × (slice_range numbers start end ≡ slice_index_or (pieces numbers 0 ends) node [])
row_at numbers ends node start end h within first last =
    let found = found_at numbers ends node start end h within first last in
    (found.0, found.1, sym (get_or_from_slice_get (pieces numbers 0 ends) node (slice_range numbers start end) [] found.2))
