-- Where the depfile of a target lies (GNU make manual, "How Patterns Match": the folder of a target is left out where its stem is
-- found, and stands before each name that a pattern gives; automake's `sub/$(DEPDIR)/a.Po` of `sub/a.o` is that name too).
use Rattle.std.specs.Prelude.{ℕ, ◌+◌, ◌-◌, ◌==◌, Bool, not, List, [], ◌∷◌, ◌++◌, length, take, drop, Option, Some, None, if◌then◌else◌}
use Rattle.std.specs.List.{suffix_len, position}
use Rattle.mk_depfiles.specs.Lines.{begins_with}

abbrev pub is_not : ℕ → ℕ → Bool
is_not byte b = not (b == byte)

-- the folder of a path, with its slash
abbrev pub folder_of : (path : List ℕ) → List ℕ
folder_of path = take (length path - suffix_len (is_not 47) path) path

-- the name of the file in it
abbrev pub file_of : (path : List ℕ) → List ℕ
file_of path = drop (length path - suffix_len (is_not 47) path) path

-- what stands before the last dot
abbrev pub before_dot : (file : List ℕ) → List ℕ
before_dot file = take (length file - (suffix_len (is_not 46) file + 1)) file

abbrev pub or_whole : (file : List ℕ) → List ℕ → List ℕ
or_whole file [] = file
or_whole file (b ∷ bs) = b ∷ bs

-- the name without its last suffix. A dot that is the first byte begins none (own)
abbrev pub stem_of : (file : List ℕ) → List ℕ
stem_of file = or_whole file (before_dot file)

abbrev pub is_percent : ℕ → Bool
is_percent b = b == 37

-- the folder stands before a name that doesn't begin at the root (own)
abbrev pub folder_by : (pattern folder : List ℕ) → List ℕ
folder_by pattern folder = if begins_with 47 pattern then [] else folder

-- the name by a pattern whose `%` stands there; one without is the name of each target's
abbrev pub by_percent : (pattern target : List ℕ) → Option ℕ → List ℕ
by_percent pattern target None = pattern
by_percent pattern target (Some at) =
    ((folder_by pattern (folder_of target) ++ take at pattern) ++ stem_of (file_of target)) ++ drop (at + 1) pattern

-- the name of the depfile of a target
abbrev pub depfile_of : (pattern target : List ℕ) → List ℕ
depfile_of pattern target = by_percent pattern target (position is_percent pattern)
