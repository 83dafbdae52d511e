-- The words of a line that isn't expanded yet (GNU make 4.3): up to its colon it is expanded word by word, and so are its names parted.
use Rattle.std.specs.Prelude.{ℕ, zero, suc, ◌+◌, ◌-◌, ◌==◌, ◌&&◌, ◌||◌, if◌then◌else◌, Bool, false, List, [], ◌∷◌, take, drop, length, Option, Some, None, codes}
use Rattle.mk_conditionals.specs.Spelled.{begins_with}
use Rattle.mk_words.specs.Words.{is_space, behind_spaces}
use Rattle.mk_target_lines.specs.declared.words.Place.{Place}
use Rattle.mk_target_lines.specs.declared.words.Place.TheVariants.{Outside, Dollar, Quoted, Within}

-- in how many inner brackets a byte stands
abbrev pub depth_of : Place → ℕ
depth_of Outside = 0
depth_of Dollar = 0
depth_of Quoted = 0
depth_of (Within opening closing depth) = depth

-- how many bytes the sign has that a text begins with; a sign is a word of its own
abbrev pub sign_size : List ℕ → ℕ
sign_size text =
    if begins_with (codes "&::") text then 3
    else (if begins_with (codes "::") text || begins_with (codes "&:") text || begins_with (codes "+=") text || begins_with (codes "?=") text
    || begins_with (codes "!=") text then 2
    else (if begins_with (codes ":") text || begins_with (codes "=") text then 1 else 0))

-- another word ends in front of a space, a `:` and a `=`, of `+=` and `?=`, and of a `&` with a `:` behind it
abbrev pub ends_word : (b : ℕ) → (behind : List ℕ) → Bool
ends_word b behind =
    is_space b || b == 58 || b == 61 || ((b == 43 || b == 63) && begins_with (codes "=") behind) || (b == 38 && begins_with (codes ":") behind)

-- but none in a reference, nor in front of a `:`, `;`, `=` or backslash that a backslash quotes
abbrev pub ends_at : Place → (b : ℕ) → (behind : List ℕ) → Bool
ends_at Outside b behind = ends_word b behind
ends_at Dollar b behind = false
ends_at Quoted b behind = false
ends_at (Within opening closing depth) b behind = false

abbrev pub begins_quoted : List ℕ → Bool
begins_quoted [] = false
begins_quoted (b ∷ bs) = b == 58 || b == 59 || b == 61 || b == 92

abbrev pub behind_backslash : (behind : List ℕ) → Place
behind_backslash behind = if begins_quoted behind then Quoted else Outside

abbrev pub closed : (opening closing depth : ℕ) → Place
closed opening closing zero = Outside
closed opening closing (suc depth) = Within opening closing depth

abbrev pub in_brackets : (opening closing depth b : ℕ) → Place
in_brackets opening closing depth b =
    if b == opening then Within opening closing (depth + 1) else (if b == closing then closed opening closing depth else Within opening closing depth)

abbrev pub behind_dollar : (b : ℕ) → Place
behind_dollar b = if b == 40 then Within 40 41 0 else (if b == 123 then Within 123 125 0 else Outside)

-- where the byte behind this one stands
abbrev pub place_behind : Place → (b : ℕ) → (behind : List ℕ) → Place
place_behind Outside b behind = if b == 36 then Dollar else (if b == 92 then behind_backslash behind else Outside)
place_behind Dollar b behind = behind_dollar b
place_behind Quoted b behind = Outside
place_behind (Within opening closing depth) b behind = in_brackets opening closing depth b

-- what stands behind a word of which the next byte stands here
abbrev pub behind_word : Place → List ℕ → List ℕ
behind_word place [] = []
behind_word place (b ∷ bs) = if ends_at place b bs then b ∷ bs else behind_word (place_behind place b bs) bs

-- a word has its first byte in any case
abbrev pub behind_first : List ℕ → List ℕ
behind_first [] = []
behind_first (b ∷ bs) = behind_word (place_behind Outside b bs) bs

abbrev pub behind_sign : (size : ℕ) → List ℕ → List ℕ
behind_sign zero text = behind_first text
behind_sign (suc size) text = drop size (drop 1 text)

abbrev pub parted : (text behind : List ℕ) → List ℕ × List ℕ
parted text behind = (take (length text - length behind) text, behind)

abbrev pub word_at : List ℕ → Option (List ℕ × List ℕ)
word_at [] = None
word_at (b ∷ bs) = Some (parted (b ∷ bs) (behind_sign (sign_size (b ∷ bs)) (b ∷ bs)))

-- the first word of a line, and what stands behind it
unfoldable pub next_word : List ℕ → Option (List ℕ × List ℕ)
next_word text = word_at (behind_spaces text)
