-- Bytes of a makefile that mean something, and what counts as text.
use Rattle.std.specs.Prelude.{ℕ, ◌-◌, Bool, true, false, not, ◌&&◌, ◌==◌, nat_le, List, [], ◌∷◌, take, drop, length, reverse, if◌then◌else◌}
use Rattle.std.specs.List.{list_any}
use Rattle.std.specs.Str.{is_utf8}

abbrev pub is_newline : ℕ → Bool
is_newline b = b == 10

abbrev pub is_backslash : ℕ → Bool
is_backslash b = b == 92

abbrev pub is_semicolon : ℕ → Bool
is_semicolon b = b == 59

-- a comment begins here
abbrev pub is_hash : ℕ → Bool
is_hash b = b == 35

-- a reference begins here
abbrev pub is_dollar : ℕ → Bool
is_dollar b = b == 36

abbrev pub is_nul : ℕ → Bool
is_nul b = b == 0

abbrev pub is_empty : {A : Type 0} → List A → Bool
is_empty [] = true
is_empty (_ ∷ _) = false

-- the first byte is this one
abbrev pub begins_with : ℕ → List ℕ → Bool
begins_with byte [] = false
begins_with byte (b ∷ _) = b == byte

-- the last byte is this one
unfoldable pub ends_with : ℕ → List ℕ → Bool
ends_with byte bytes = begins_with byte (reverse bytes)

-- all bytes but the last
abbrev pub without_last : List ℕ → List ℕ
without_last bytes = take (length bytes - 1) bytes

-- without a TAB that stands first
unfoldable pub without_tab : List ℕ → List ℕ
without_tab bytes = if begins_with 9 bytes then drop 1 bytes else bytes

-- ASCII, and no NUL
abbrev pub is_plain : ℕ → Bool
is_plain b = nat_le 1 b && nat_le b 127

-- UTF-8 without a NUL
unfoldable pub is_text : List ℕ → Bool
is_text bytes = is_utf8 bytes && not (list_any is_nul bytes)
