-- The nodes that can be passed next, while a plan is made.
use Rattle.std.specs.Prelude.{◌≡◌, ℕ, ◌<◌, Bool, true, false, ◌||◌, nat_eq, Option, None, Some}
use Rattle.std.specs.Ordering.{nat_cmp}
use Rattle.std.specs.BTreeSet.{BTreeSet, contains}

-- whether a node is the one that is held or one of the others
abbrev pub is_among : Option ℕ → (others : BTreeSet ℕ) → ℕ → Bool
is_among None others n = contains nat_cmp others n
is_among (Some least) others n = nat_eq n least || contains nat_cmp others n

-- the same of both together
abbrev pub is_in : Option ℕ × BTreeSet ℕ → ℕ → Bool
is_in nodes n = is_among nodes.0 nodes.1 n

-- the one that is held is below the others, and where none is held there are no others
abbrev pub IsLeastHeld : Option ℕ → (others : BTreeSet ℕ) → Type 0
IsLeastHeld None others = (n : ℕ) → contains nat_cmp others n ≡ false
IsLeastHeld (Some least) others = (n : ℕ) → contains nat_cmp others n ≡ true → least < n
