-- Where names and patterns are parted: behind the last `/`, and at the first `%`.
use Rattle.std.specs.Prelude.{ℕ, ◌+◌, Bool, List, [], take, drop}
use Rattle.std.specs.List.{list_any}
use Rattle.std.specs.Option.{option_map_or}
use Rattle.mk_macros.specs.Words.{is_byte, last_slash, place_of}

abbrev pub has_slash : (name : List ℕ) → Bool
has_slash name = list_any (is_byte 47) name

-- the folder of a name: what stands up to its last `/`, and with it
abbrev pub folder_of : (name : List ℕ) → List ℕ
folder_of name = option_map_or (λ i. take (i + 1) name) (last_slash name) []

-- what stands before and behind the first `%`; a name without one has nothing behind it
abbrev pub before_percent : (name : List ℕ) → List ℕ
before_percent name = option_map_or (λ i. take i name) (place_of 37 name) name

abbrev pub behind_percent : (name : List ℕ) → List ℕ
behind_percent name = option_map_or (λ i. drop (i + 1) name) (place_of 37 name) []
