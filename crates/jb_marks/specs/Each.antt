-- Two lists, place by place.
use Rattle.std.specs.Prelude.{List, [], ◌∷◌}

-- they are as long, and at each place the one stands so to the other
abbrev pub EachWith : {A B : Type 0} → (P : A → B → Type 0) → List A → List B → Type 0
EachWith P [] [] = Unit {0}
EachWith P [] (b ∷ bs) = ⊥
EachWith P (a ∷ as') [] = ⊥
EachWith P (a ∷ as') (b ∷ bs) = P a b × EachWith P as' bs
