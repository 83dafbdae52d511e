-- What functions tell that go through a name up to a `*`.
use Rattle.std.specs.Prelude.{◌≡◌, ℕ, ◌+◌, ◌<◌, Bool, true, false, ◌==◌, List, length, drop}
use Rattle.mk_wildcards.specs.Fits.{is_one_of, some_end, fits}
use Rattle.mk_wildcards.specs.declared.element.Element.{Element}
use Rattle.mk_wildcards.specs.declared.element.Element.TheVariants.{Byte, AnyByte, AnyRun, OneOf}
use Rattle.mk_wildcards.specs.declared.fits.Place.{Place}
use Rattle.mk_wildcards.specs.declared.fits.Place.TheVariants.{Ends, Fails, Run}

-- an element that is no `*` takes the byte
abbrev pub takes : Element → ℕ → Bool
takes (Byte c) b = c == b
takes AnyByte b = true
takes (OneOf found) b = is_one_of found b
takes AnyRun b = false

abbrev pub is_run : Element → Bool
is_run (Byte c) = false
is_run AnyByte = false
is_run (OneOf found) = false
is_run AnyRun = true

abbrev pub has_failed : Place → Bool
has_failed Ends = false
has_failed Fails = true
has_failed (Run more rest) = false

-- what is left fits
abbrev pub left : Place → Bool
left Ends = true
left Fails = false
left (Run more rest) = some_end (fits more.now) rest.now

-- what fits behind the first byte fits from the place where the `*` begins
abbrev pub Later : Place → List Element → (name : List ℕ) → Type 0
Later Ends elements name = Unit {0}
Later Fails elements name = Unit {0}
Later (Run more rest) elements name = some_end (fits elements) (drop 1 name) ≡ true → some_end (fits more.now) rest.now ≡ true

abbrev pub IsShorter : Place → List Element → Type 0
IsShorter Ends elements = Unit {0}
IsShorter Fails elements = Unit {0}
IsShorter (Run more rest) elements = length more.now < length elements

abbrev pub size : Place → ℕ
size Ends = 0
size Fails = 0
size (Run more rest) = length more.now + 1
