-- How a text is cut at a byte, as a relation.
use Rattle.std.specs.Prelude.{◌≡◌, ℕ, Bool, true, List, ◌∷◌, ◌++◌}
use Rattle.mk_conditionals.specs.Cut.{is_level}

-- the text is cut at this byte, in front of which it is level; it is at none that stands before (GNU make manual, "Syntax of Conditionals")
abbrev pub IsCutFrom : (nested : Bool) (mark opened closed : ℕ) (text first rest : List ℕ) → Type 0
IsCutFrom nested mark opened closed text first rest =
    (text ≡ first ++ mark ∷ rest) × (is_level nested opened closed first ≡ true)
    × ((before behind : List ℕ) → first ≡ before ++ mark ∷ behind → is_level nested opened closed before ≡ true → ⊥)

abbrev pub IsCut : (nested : Bool) (mark : ℕ) (text first rest : List ℕ) → Type 0
IsCut nested mark text first rest = IsCutFrom nested mark 0 0 text first rest
