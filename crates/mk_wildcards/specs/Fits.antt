-- Which names fit a pattern (POSIX, XCU 2.14.1 to 2.14.3).
use Rattle.std.specs.Prelude.{ℕ, Bool, true, false, not, ◌&&◌, ◌||◌, ◌==◌, List, [], ◌∷◌, if◌then◌else◌}
use Rattle.mk_wildcards.specs.Pattern.{is_member}
use Rattle.mk_wildcards.specs.declared.element.Brackets.{Brackets}
use Rattle.mk_wildcards.specs.declared.element.Element.{Element}
use Rattle.mk_wildcards.specs.declared.element.Element.TheVariants.{Byte, AnyByte, AnyRun, OneOf}

abbrev pub is_one_of : Brackets → ℕ → Bool
is_one_of found b = if found.is_negated then not (is_member found.members b) else is_member found.members b

-- one of these ends of the name passes: all of it, what stands behind its first byte, and so on down to nothing
abbrev pub some_end : (List ℕ → Bool) → (name : List ℕ) → Bool
some_end passes [] = passes []
some_end passes (b ∷ bs) = passes (b ∷ bs) || some_end passes bs

-- the name is a byte that passes, and a rest that passes
abbrev pub one_then : (ℕ → Bool) → (List ℕ → Bool) → (name : List ℕ) → Bool
one_then takes rest [] = false
one_then takes rest (b ∷ bs) = takes b && rest bs

abbrev pub is_empty : List ℕ → Bool
is_empty [] = true
is_empty (b ∷ bs) = false

-- the name fits the elements: a byte is itself, `?` any byte, brackets one of theirs, and `*` any run of bytes, also none
abbrev pub fits : List Element → (name : List ℕ) → Bool
fits [] name = is_empty name
fits (Byte c ∷ more) name = one_then (λ b. c == b) (fits more) name
fits (AnyByte ∷ more) name = one_then (λ b. true) (fits more) name
fits (OneOf found ∷ more) name = one_then (is_one_of found) (fits more) name
fits (AnyRun ∷ more) name = some_end (fits more) name

abbrev pub is_hidden : (name : List ℕ) → Bool
is_hidden [] = false
is_hidden (b ∷ bs) = b == 46

abbrev pub begins_with_dot : List Element → Bool
begins_with_dot [] = false
begins_with_dot (Byte c ∷ more) = c == 46
begins_with_dot (AnyByte ∷ more) = false
begins_with_dot (OneOf found ∷ more) = false
begins_with_dot (AnyRun ∷ more) = false

-- the name of a file fits: a `.` at its front is one that stands in the pattern
abbrev pub fits_name : List Element → (name : List ℕ) → Bool
fits_name pattern name = (not (is_hidden name) || begins_with_dot pattern) && fits pattern name
