-- How a text is spelled of physical lines, and how these are grouped to logical ones: which lists of lines are the
-- text's. There is one such list for each text.
use Rattle.std.specs.Prelude.{◌≡◌, ◌⊎◌, ℕ, Bool, true, false, List, [], ◌∷◌, ◌++◌, reverse, flat_map}
use Rattle.mk_lines.specs.Text.{begins_with}
use Rattle.mk_lines.specs.References.{Lacks}
use Rattle.mk_lines.specs.Semicolon.{OpensRecipe}
use Rattle.mk_lines.specs.Lines.{Physical, spelling, goes_on, joint, joined_text}
use Rattle.mk_lines.specs.declared.line.Ending.{Ending}
use Rattle.mk_lines.specs.declared.line.Ending.TheVariants.{EndOfText, Newline, ReturnNewline}

-- a newline ends the line, and a carriage return directly before it belongs to the ending
abbrev pub HasOwnEnding : (text : List ℕ) → Ending → Type 0
HasOwnEnding text EndOfText = ⊥
HasOwnEnding text Newline = begins_with 13 (reverse text) ≡ false
HasOwnEnding text ReturnNewline = Unit {0}

abbrev pub IsEnded : Physical → Type 0
IsEnded line = Lacks 10 line.text × HasOwnEnding line.text line.ending

-- no newline stands in a line; each but the last is ended by one, and the last by the end of the text
abbrev pub ArePhysical : List Physical → Type 0
ArePhysical [] = ⊥
ArePhysical (line ∷ []) = Lacks 10 line.text × (line.ending ≡ EndOfText)
ArePhysical (line ∷ next ∷ more) = IsEnded line × ArePhysical (next ∷ more)

-- these are the physical lines of the text
abbrev pub AreLines : (text : List ℕ) → List Physical → Type 0
AreLines text lines = (text ≡ flat_map spelling lines) × ArePhysical lines

-- each line of a group but its last goes on, and the last doesn't
abbrev pub IsGroup : List Physical → Type 0
IsGroup [] = ⊥
IsGroup (line ∷ []) = goes_on line ≡ false
IsGroup (line ∷ next ∷ more) = (goes_on line ≡ true) × IsGroup (next ∷ more)

abbrev pub AreAllGroups : List (List Physical) → Type 0
AreAllGroups [] = Unit {0}
AreAllGroups (group ∷ groups) = IsGroup group × AreAllGroups groups

-- these are the physical lines of the text, in groups that are one logical line each
abbrev pub AreGroups : (text : List ℕ) → List (List Physical) → Type 0
AreGroups text groups = AreLines text (flat_map (λ group. group) groups) × AreAllGroups groups

-- with this line of a group, and not before it, what is joined so far is a rule line whose recipe has begun behind its `;`
abbrev pub OpensWith : (before : List Physical) → Physical → Type 0
OpensWith before line = OpensRecipe (joined_text false (before ++ line ∷ [])) × (OpensRecipe (joined_text false before) → ⊥)

-- the text of a line that doesn't begin with a TAB: in the wide profile the lines behind the one with which a recipe opens are joined as a
-- recipe's, with backslash and newline (POSIX make, "Target Rules"; GNU make), and all others as those of a rule line
abbrev pub IsJoined : (wide : Bool) → List Physical → List ℕ → Type 0
IsJoined wide group text =
    ((before : List Physical) × (line : Physical) × (rest : List Physical) × (wide ≡ true) × (group ≡ before ++ line ∷ rest) × OpensWith before line
    × (text ≡ joined_text false (before ++ line ∷ []) ++ flat_map (joint true) rest))
    ⊎ ((wide ≡ true → OpensRecipe (joined_text false group) → ⊥) × (text ≡ joined_text false group))

-- the text of the logical line of a group, which is a recipe line or isn't
abbrev pub IsTextOf : (recipe wide : Bool) → List Physical → List ℕ → Type 0
IsTextOf true wide group text = text ≡ joined_text true group
IsTextOf false wide group text = IsJoined wide group text
