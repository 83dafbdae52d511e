-- How often a tree looks at names.
use Rattle.std.proofs.Common.{ℕ, Bool, true, List, ◌+◌, ◌≤◌, max, arith}
use Rattle.mk_sources.specs.Tree.{AskedOnce, LooksOnce}

-- nothing was looked at yet
pub asked_none : (names : List ℕ → Bool) (asked : List ℕ → ℕ) → AskedOnce asked names asked
asked_none names asked = λ name. omega arith

-- where each name counts no more than before
pub asked_fewer : (names : List ℕ → Bool) (before after : List ℕ → ℕ) → ((n : List ℕ) → after n ≤ before n) → AskedOnce before names after
asked_fewer names before after fewer = λ name. let few = fewer name in omega (arith, few)

-- and then each of these once more
pub asked_behind : (names : List ℕ → Bool) (before middle after : List ℕ → ℕ) → ((n : List ℕ) → middle n ≤ before n) → AskedOnce middle names after →
    AskedOnce before names after
asked_behind names before middle after fewer looks = λ name. let few = fewer name in let look = looks name in omega (arith, few, look)

one_more : (a b : ℕ) → b ≤ max a 1 → b ≤ a + 1
one_more a b once = omega (arith, once)

-- looks that look at no name again look at each once more at most
pub looked_once : (before after : List ℕ → ℕ) → LooksOnce before after → AskedOnce before (λ _. true) after
looked_once before after looks = λ name. one_more (before name) (after name) (looks name)
