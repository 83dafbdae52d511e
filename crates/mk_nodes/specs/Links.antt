-- Behind which implicit rules a chain may go on, told by how names end.
use Rattle.std.specs.Prelude.{◌≡◌, ℕ, ◌+◌, ◌-◌, Bool, false, not, ◌&&◌, ◌||◌, List, length, drop, slice_get, bytes_eq, Some}
use Rattle.std.specs.List.{list_any}
use Rattle.std.specs.Option.{option_map_or}
use Rattle.mk_macros.specs.Words.{place_of}
use Rattle.mk_makefile.specs.declared.form.Form.{Form}
use Rattle.mk_nodes.specs.Chain.{makes_any}

-- what all names of a pattern end with: what stands behind its first `%`, or the whole of one without
abbrev pub end_of : (pattern : List ℕ) → List ℕ
end_of pattern = option_map_or (λ i. drop (i + 1) pattern) (place_of 37 pattern) pattern

abbrev pub ends_with : (text ending : List ℕ) → Bool
ends_with text ending = bytes_eq ending (drop (length text - length ending) text)

-- some name ends with both
abbrev pub end_alike : (a b : List ℕ) → Bool
end_alike a b = ends_with a b || ends_with b a

-- on the way of a chain the form may make a name of the pattern
abbrev pub may_make : (pattern : List ℕ) → Form → Bool
may_make pattern form = not (makes_any form) && end_alike (end_of pattern) form.after

-- a chain may go on behind the form: some rule may make one of its prerequisites
abbrev pub leads_on : List Form → Form → Bool
leads_on forms form = list_any (λ pattern. list_any (may_make pattern) forms) form.prerequisites

-- behind the forms of which this is marked as false no chain goes on
abbrev pub AreLinks : List Form → (links : List Bool) → Type 0
AreLinks forms links = (k : ℕ) (form : Form) → slice_get links k ≡ Some false → slice_get forms k ≡ Some form → leads_on forms form ≡ false
