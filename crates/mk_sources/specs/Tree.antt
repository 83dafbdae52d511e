-- What a tree's fault says, and how often it looks at names.
use Rattle.std.specs.Prelude.{ℕ, ◌+◌, ◌≤◌, max, Bool, true, false, List}
use Rattle.mk_sources.specs.declared.tree.TreeFault.{TreeFault}
use Rattle.mk_sources.specs.declared.tree.TreeFault.TheVariants.{OutOfMemory, CannotLook}

-- the name is one that the tree refuses; want of memory says nothing of it
abbrev pub IsTreeFault : (refused : Type 0) → TreeFault → Type 0
IsTreeFault refused OutOfMemory = Unit {0}
IsTreeFault refused CannotLook = refused

abbrev pub once : Bool → ℕ
once true = 1
once false = 0

-- beside how often each name was looked at earlier, these names were looked at once at most, and no other
abbrev pub AskedOnce : (earlier : List ℕ → ℕ) (names : List ℕ → Bool) (asked : List ℕ → ℕ) → Type 0
AskedOnce earlier names asked = (name : List ℕ) → asked name ≤ earlier name + once (names name)

-- each name was looked at no more often than before, or else once: what was looked at isn't looked at again
abbrev pub LooksOnce : (before after : List ℕ → ℕ) → Type 0
LooksOnce before after = (name : List ℕ) → after name ≤ max (before name) 1
