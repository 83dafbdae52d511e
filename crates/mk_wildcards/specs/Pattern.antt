-- What patterns of file names are made of (POSIX, XCU 2.14, "Pattern Matching Notation"). Names are bytes: `?` and brackets take one of them.
use Rattle.std.specs.Prelude.{ℕ, zero, suc, ◌+◌, Bool, false, ◌&&◌, ◌||◌, ◌==◌, nat_lt, nat_le, List, [], ◌∷◌, take, drop, length, Option, Some, None, if◌then◌else◌}
use Rattle.std.specs.List.{list_any, position_or_len}
use Rattle.mk_wildcards.specs.declared.element.Brackets.{Brackets}
use Rattle.mk_wildcards.specs.declared.element.Element.{Element}
use Rattle.mk_wildcards.specs.declared.element.Element.TheVariants.{Byte, AnyByte, AnyRun, OneOf}

-- `*`, `?` or `[`
abbrev pub is_wildcard : ℕ → Bool
is_wildcard b = b == 42 || (b == 63 || b == 91)

abbrev pub has_wildcard : List ℕ → Bool
has_wildcard text = list_any is_wildcard text

-- a wildcard, or the `\` that takes its meaning from one
abbrev pub is_pattern_byte : ℕ → Bool
is_pattern_byte b = b == 92 || is_wildcard b

abbrev pub is_pattern : List ℕ → Bool
is_pattern text = list_any is_pattern_byte text

-- Brackets

-- `!`, or `^` as other makes have it, behind the `[`
abbrev pub is_negation : ℕ → Bool
is_negation b = b == 33 || b == 94

abbrev pub sign_len : (behind : List ℕ) → ℕ
sign_len [] = 0
sign_len (b ∷ bs) = if is_negation b then 1 else 0

abbrev pub is_close : ℕ → Bool
is_close b = b == 93

-- what stands before the `]`, which isn't the first byte
abbrev pub members_len : (inner : List ℕ) → Option ℕ
members_len [] = None
members_len (b ∷ bs) = if nat_lt (position_or_len is_close bs) (length bs) then Some (position_or_len is_close bs + 1) else None

abbrev pub begins_class : List ℕ → Bool
begins_class [] = false
begins_class (b ∷ bs) = b == 58 || (b == 46 || b == 61)

-- a class, a collating symbol or an equivalence class, as `[:alpha:]`, begins among them
abbrev pub names_class : (members : List ℕ) → Bool
names_class [] = false
names_class (b ∷ bs) = (b == 91 && begins_class bs) || names_class bs

-- no brackets where one of these begins (own: POSIX has them)
abbrev pub brackets_of : (is_negated : Bool) (members : List ℕ) → Option Brackets
brackets_of is_negated members = if names_class members then None else Some (record { is_negated = is_negated; members = members })

abbrev pub brackets_behind : (signs : ℕ) (inner : List ℕ) → Option ℕ → Option Brackets
brackets_behind signs inner None = None
brackets_behind signs inner (Some n) = brackets_of (nat_lt 0 signs) (take n inner)

-- the brackets whose `[` stands before this, where it opens some
abbrev pub brackets : (behind : List ℕ) → Option Brackets
brackets behind = let inner = drop (sign_len behind) behind in brackets_behind (sign_len behind) inner (members_len inner)

-- the upper end of the range whose lower end stands before this
abbrev pub range_behind : List ℕ → Option ℕ
range_behind [] = None
range_behind (sign ∷ []) = None
range_behind (sign ∷ high ∷ more) = if sign == 45 then Some high else None

-- the byte is among them, by itself or in a range; a `-` at an end stands for itself
abbrev pub is_member : (members : List ℕ) → ℕ → Bool
is_member [] b = false
is_member (one ∷ []) b = one == b
is_member (one ∷ other ∷ []) b = one == b || other == b
is_member (low ∷ sign ∷ high ∷ more) b =
    if sign == 45 then (nat_le low b && nat_le b high) || is_member more b else low == b || is_member (sign ∷ high ∷ more) b

-- Elements

abbrev pub bracket_element : Option Brackets → Element
bracket_element None = Byte 91
bracket_element (Some found) = OneOf found

abbrev pub bracket_width : (signs : ℕ) → Option Brackets → ℕ
bracket_width signs None = 0
bracket_width signs (Some found) = signs + (length found.members + 1)

-- a `\` gives the byte behind it, and the last byte itself
abbrev pub quoted : (behind : List ℕ) → Element
quoted [] = Byte 92
quoted (b ∷ bs) = Byte b

abbrev pub quoted_width : (behind : List ℕ) → ℕ
quoted_width [] = 0
quoted_width (b ∷ bs) = 1

-- the element that begins with this byte, and how many of the bytes behind it belong to it
abbrev pub element : ℕ → (behind : List ℕ) → Element
element b behind = if b == 42 then AnyRun else (if b == 63 then AnyByte else (if b == 91 then bracket_element (brackets behind) else (if b == 92 then quoted behind else Byte b)))

abbrev pub width : ℕ → (behind : List ℕ) → ℕ
width b behind = if b == 91 then bracket_width (sign_len behind) (brackets behind) else (if b == 92 then quoted_width behind else 0)

-- the elements of what stands behind so many bytes
abbrev pub elements_behind : ℕ → List ℕ → List Element
elements_behind n [] = []
elements_behind zero (b ∷ bs) = element b bs ∷ elements_behind (width b bs) bs
elements_behind (suc n) (b ∷ bs) = elements_behind n bs

abbrev pub elements : (pattern : List ℕ) → List Element
elements pattern = elements_behind 0 pattern
