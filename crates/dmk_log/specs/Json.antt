-- Pieces of JSON text (RFC 8259) that stand in one line.
use Rattle.std.specs.Prelude.{ℕ, Bool, ◌==◌, ◌/◌, ◌%◌, ◌||◌, ◌+◌, nat_lt, List, [], ◌∷◌, ◌++◌, codes, map, if◌then◌else◌}
use Rattle.std.specs.List.{flat_map, list_all}
use Rattle.std.specs.Str.{is_utf8}
use Rattle.std.specs.Str.Lossy.{utf8_lossy}
use Rattle.base64.specs.Engines.{standard}
use Rattle.base64.specs.GeneralPurpose.{encode_of}

-- a quotation mark or a reverse solidus (RFC 8259, 7)
abbrev pub is_special : (b : ℕ) → Bool
is_special b = b == 34 || b == 92

abbrev pub hex_digit : (n : ℕ) → ℕ
hex_digit n = if nat_lt n 10 then 48 + n else 87 + n

-- a control character by its number
abbrev pub numbered : (b : ℕ) → List ℕ
numbered b = codes "\\u00" ++ (hex_digit (b / 16) ∷ hex_digit (b % 16) ∷ [])

-- what stands for a byte of a text between quotation marks
abbrev pub escaped : (b : ℕ) → List ℕ
escaped b = if is_special b then 92 ∷ b ∷ [] else (if nat_lt b 32 then numbered b else b ∷ [])

abbrev pub json_string : (text : List ℕ) → List ℕ
json_string text = codes "\"" ++ (flat_map escaped text ++ codes "\"")

-- a further member of an object, with a value that is JSON text
abbrev pub member : (name value : List ℕ) → List ℕ
member name value = codes ",\"" ++ (name ++ (codes "\":" ++ value))

-- a name as text, with U+FFFD for what isn't UTF-8
abbrev pub shown : (name : List ℕ) → List ℕ
shown name = json_string (utf8_lossy name)

-- all bytes of a name (RFC 4648, 4)
abbrev pub exact : (name : List ℕ) → List ℕ
exact name = json_string (encode_of standard name)

-- a member that is a name, and beside it its bytes where it isn't UTF-8
abbrev pub name_member : (key name : List ℕ) → List ℕ
name_member key name =
    if is_utf8 name then member key (shown name) else member key (shown name) ++ member (key ++ codes "_base64") (exact name)

-- items, each but the first behind a comma
abbrev pub items_behind : (before : List ℕ) → List (List ℕ) → List ℕ
items_behind before [] = []
items_behind before (item ∷ items) = before ++ (item ++ items_behind (codes ",") items)

abbrev pub list_of : List (List ℕ) → List ℕ
list_of items = codes "[" ++ (items_behind [] items ++ codes "]")

-- a member that is a list of names, and beside it the bytes of all of them where one isn't UTF-8
abbrev pub names_member : (key : List ℕ) (names : List (List ℕ)) → List ℕ
names_member key names =
    if list_all is_utf8 names then member key (list_of (map shown names))
    else member key (list_of (map shown names)) ++ member (key ++ codes "_base64") (list_of (map exact names))
