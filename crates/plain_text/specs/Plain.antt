-- Text in which nothing is left that a terminal obeys. What a control character is: ISO 6429, its C0 and C1, and DEL; how characters are
-- written: UTF-8 (RFC 3629). That a newline stays is own.
use Rattle.std.specs.Prelude.{ℕ, Bool, false, not, ◌&&◌, ◌||◌, ◌==◌, ◌-◌, nat_le, List, [], ◌∷◌, ◌++◌, Option, Some, None, if◌then◌else◌}

-- a byte that may stand behind the first one of a character
abbrev pub is_behind : ℕ → Bool
is_behind b = nat_le 128 b && nat_le b 191

-- how many more bytes a character has at most that begins with this one
abbrev pub bytes_behind : ℕ → ℕ
bytes_behind b =
    if nat_le 194 b && nat_le b 223 then 1 else (if nat_le 224 b && nat_le b 239 then 2 else (if nat_le 240 b && nat_le b 244 then 3 else 0))

-- the second byte of a control character of C1, or all of it for a terminal that reads no UTF-8
abbrev pub is_c1 : ℕ → Bool
is_c1 b = nat_le 128 b && nat_le b 159

abbrev pub is_control : ℕ → Bool
is_control b = not (b == 10) && (nat_le b 31 || (b == 127 || is_c1 b))

abbrev pub begins_with_c1 : List ℕ → Bool
begins_with_c1 [] = false
begins_with_c1 (b ∷ text) = is_c1 b

-- the first of the two bytes of a control character of C1
abbrev pub begins_c1 : (b : ℕ) (text : List ℕ) → Bool
begins_c1 b text = b == 194 && begins_with_c1 text

-- the byte belongs to the character before it, of which so many bytes may be missing
abbrev pub goes_on : (missing b : ℕ) → Bool
goes_on missing b = not (missing == 0) && is_behind b

-- what stands for a byte before this text: a blank for a control character, else the byte
abbrev pub shown : (missing b : ℕ) (text : List ℕ) → Option ℕ
shown missing b text =
    if goes_on missing b then Some b else (if begins_c1 b text then None else (if is_control b then Some 32 else Some b))

-- how many bytes of a character may be missing behind this one
abbrev pub missing_behind : (missing b : ℕ) (text : List ℕ) → ℕ
missing_behind missing b text = if goes_on missing b then missing - 1 else (if begins_c1 b text then 0 else bytes_behind b)

abbrev pub listed : Option ℕ → List ℕ
listed None = []
listed (Some b) = b ∷ []

-- a text with a blank for each control character but the newline, where so many bytes of a character may be missing in front
abbrev pub plain_behind : (missing : ℕ) → List ℕ → List ℕ
plain_behind missing [] = []
plain_behind missing (b ∷ text) = listed (shown missing b text) ++ plain_behind (missing_behind missing b text) text

abbrev pub plain : List ℕ → List ℕ
plain text = plain_behind 0 text
