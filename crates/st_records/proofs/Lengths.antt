-- What stays in front when a list grows.
use Rattle.std.proofs.Common.{◌++◌, ◌≡◌, ℕ, ◌≤◌, List, length, take, sym, ap, ◌∙◌}
use Rattle.std.proofs.lemmas.List.{take-take, take_at, take-append-le}

-- what begins two lists, of which one is the front of a longer one, begins that one too
pub front_stays : (a z ys rest xs : List ℕ) (n m : ℕ) → n ≡ length a → m ≡ length ys → n ≤ m → n ≤ length ys → ys ++ rest ≡ a ++ z → take m xs ≡ ys → take n xs ≡ a
front_stays a z ys rest xs n m n-is m-is within short e front =
    sym (take-take n m xs within)
    ∙ ap (take n) front
    ∙ sym (take-append-le n ys rest short)
    ∙ ap (take n) e
    ∙ take_at a z n (sym n-is)
