-- The signs of definitions (GNU make manual, "The Two Flavors of Variables", "Setting Variables", "Appending More Text to Variables"; `:::=` is of a
-- later GNU make than 4.3).
use Rattle.std.specs.Prelude.{List, codes, ℕ}
use Rattle.mk_assignments.specs.declared.sign.Sign.{Sign}
use Rattle.mk_assignments.specs.declared.sign.Sign.TheVariants.{Recursive, Simple, Immediate, Conditional, Appending, Shell}

-- how each is written
pub data IsSign : (mark : List ℕ) → Sign → Type 0 where
  equals : IsSign (codes "=") Recursive
  colon : IsSign (codes ":=") Simple
  two_colons : IsSign (codes "::=") Simple
  three_colons : IsSign (codes ":::=") Immediate
  question : IsSign (codes "?=") Conditional
  plus : IsSign (codes "+=") Appending
  exclamation : IsSign (codes "!=") Shell
