-- What a loop has written and what is left to be written are the whole.
use Rattle.std.proofs.Common.{◌≡◌, ◌∙◌, Some, ℕ, List, ◌∷◌, ◌++◌, ◌+◌, drop, slice_get, append_assoc, sym, ap}
use Rattle.std.proofs.lemmas.List.{drop_more}
use Rattle.std.proofs.lemmas.Option.{get_or_from_slice_get, slice_get_within}
use Rattle.std.specs.List.{flat_map}

-- a text for one more item
pub moved : {X Y : Type 0} (f : X → List Y) (text old : List Y) (items all rest : List X) (x : X) → text ++ flat_map f items ≡ old ++ flat_map f all → items ≡ x ∷ rest
    → (text ++ f x) ++ flat_map f rest ≡ old ++ flat_map f all
moved f text old items all rest x whole next =
    append_assoc text (f x) (flat_map f rest) ∙ ap (λ xs. text ++ flat_map f xs) (sym next) ∙ whole

-- what stands behind an item
pub behind : {X : Type 0} (xs : List X) (place : ℕ) (x : X) → slice_get xs place ≡ Some x → drop place xs ≡ x ∷ drop (place + 1) xs
behind xs place x found =
    drop_more xs place x (slice_get_within xs place x found) ∙ ap (λ y. y ∷ drop (place + 1) xs) (get_or_from_slice_get xs place x x found)
