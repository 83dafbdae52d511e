-- What looking at names leaves true of a tree.
use Rattle.std.specs.Prelude.{◌≡◌, ◌⊎◌, ℕ, List, Option}
use Rattle.mk_sources.specs.Tree.{LooksOnce}
use Rattle.mk_rule_lines.specs.declared.fault.RuleFault.{RuleFault}
use Rattle.mk_rule_lines.specs.declared.fault.RuleFault.TheVariants as fault
use Rattle.mk_nodes.specs.declared.file_look.FileLook.{FileLook}

-- the fault of looking at a name: it is one that the tree refuses
abbrev pub IsLookFault : (refuses : List ℕ → Type 0) → (name : List ℕ) → RuleFault → Type 0
IsLookFault refuses name fault.OutOfMemory = Unit {0}
IsLookFault refuses name (fault.Tree n) = (n ≡ name) × refuses n
IsLookFault refuses name _ = ⊥

-- what is still possible of the tree narrows, what it refuses stays refused, it looks at no name again, and of which names it was
-- asked first there are no more than these
pub record Looks (allowed allowed_after : (List ℕ → Option FileLook) → Type 0) (refuses refuses_after : List ℕ → Type 0) (looked looked_after : List ℕ → ℕ)
    (firsts firsts_after : List ℕ → Type 0) : Type 0 where
  pub narrows : (looks : List ℕ → Option FileLook) → allowed_after looks → allowed looks
  pub kept : (n : List ℕ) → refuses n → refuses_after n
  pub once : LooksOnce looked looked_after
  pub firsts_stay : (n : List ℕ) → firsts_after n → firsts n

-- these names, and this one
abbrev pub and_this : (name : List ℕ) → (List ℕ → Type 0) → List ℕ → Type 0
and_this name names n = names n ⊎ (n ≡ name)

-- any name: which ones a tree was asked for first is left open
abbrev pub any_name : List ℕ → Type 0
any_name n = Unit {0}
