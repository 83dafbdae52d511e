-- What MAKEFLAGS says of a jobserver (GNU Make manual, "Sharing Job Slots with GNU make", "POSIX Jobserver Interaction").
use Rattle.std.specs.Prelude.{◌≡◌, ◌≢◌, ◌⊎◌, ℕ, ◌||◌, Bool, true, false, List, [], ◌∷◌, ◌++◌, All, Contains, codes}
use Rattle.std.specs.Char.{IsAsciiDigit}
use Rattle.jb_auth.specs.declared.auth.Auth.{Auth}
use Rattle.jb_auth.specs.declared.auth.Auth.TheVariants as auth

-- the words of a text, which is cut at each of its spaces: a word holds none, and may be empty
abbrev pub AreWords : (text : List ℕ) (words : List (List ℕ)) → Type 0
AreWords text [] = ⊥
AreWords text (word ∷ []) = All (λ b. b ≢ 32) word × (text ≡ word)
AreWords text (word ∷ next ∷ words) =
    All (λ b. b ≢ 32) word × ((rest : List ℕ) × (text ≡ word ++ 32 ∷ rest) × AreWords rest (next ∷ words))

-- the text begins with the prefix, and goes on with the rest
abbrev pub Begins : (prefix text rest : List ℕ) → Type 0
Begins prefix text rest = text ≡ prefix ++ rest

-- no word names a jobserver
abbrev pub NamesNone : (words : List (List ℕ)) → Type 0
NamesNone words = All (λ word. (value : List ℕ) → Begins (codes "--jobserver-auth=") word value → ⊥) words

-- the value of the last word that names a jobserver
abbrev pub IsLastNamed : (words : List (List ℕ)) (value : List ℕ) → Type 0
IsLastNamed words value =
    (before : List (List ℕ)) × (word : List ℕ) × (behind : List (List ℕ))
    × (words ≡ before ++ word ∷ behind) × Begins (codes "--jobserver-auth=") word value × NamesNone behind

-- decimal digits, at least one
abbrev pub AreDigits : List ℕ → Type 0
AreDigits text = (text ≢ []) × All IsAsciiDigit text

-- a decimal number, negative where it begins with `-`
abbrev pub IsNumber : (negative : Bool) (text : List ℕ) → Type 0
IsNumber false text = AreDigits text
IsNumber true text = (digits : List ℕ) × (text ≡ 45 ∷ digits) × AreDigits digits

-- two numbers and a comma between them
abbrev pub AreNumbers : (first second : Bool) (value : List ℕ) → Type 0
AreNumbers first second value =
    (front : List ℕ) × (back : List ℕ) × (value ≡ front ++ 44 ∷ back) × IsNumber first front × IsNumber second back

-- the path of a FIFO
abbrev pub IsPath : (value path : List ℕ) → Type 0
IsPath value path = Begins (codes "fifo:") value path × (path ≢ [])

-- what is said of a jobserver: nothing; that there is none for this make; the path of its FIFO; two descriptors; or
-- what can't be read
pub data Authority : Type 0 where
  absent : Authority
  disabled : Authority
  fifo : (path : List ℕ) → Authority
  descriptors : Authority
  unreadable : Authority

-- what the value of a word says
abbrev pub SaysValue : (value : List ℕ) → Authority → Type 0
SaysValue value absent = ⊥
SaysValue value disabled = (first second : Bool) × AreNumbers first second value × ((first || second) ≡ true)
SaysValue value (fifo path) = IsPath value path
SaysValue value descriptors = AreNumbers false false value
SaysValue value unreadable =
    ((path : List ℕ) → IsPath value path → ⊥) × ((first second : Bool) → AreNumbers first second value → ⊥)

-- what words say: nothing where none names a jobserver, else what the last one that names one says
abbrev pub SayOf : (words : List (List ℕ)) → Authority → Type 0
SayOf words absent = NamesNone words
SayOf words disabled = (value : List ℕ) × IsLastNamed words value × SaysValue value disabled
SayOf words (fifo path) = (value : List ℕ) × IsLastNamed words value × SaysValue value (fifo path)
SayOf words descriptors = (value : List ℕ) × IsLastNamed words value × SaysValue value descriptors
SayOf words unreadable = (value : List ℕ) × IsLastNamed words value × SaysValue value unreadable

-- what the text of MAKEFLAGS says
abbrev pub Says : (makeflags : List ℕ) → Authority → Type 0
Says makeflags authority = (words : List (List ℕ)) × AreWords makeflags words × SayOf words authority

-- an answer, as it is seen
abbrev pub seen : Auth → Authority
seen auth.Absent = absent
seen auth.Disabled = disabled
seen (auth.Fifo path) = fifo path.now
seen auth.Descriptors = descriptors
seen auth.Unreadable = unreadable

-- what stands before the first space, or all where there is none
abbrev pub IsFirstWord : (text first : List ℕ) → Type 0
IsFirstWord text first = All (λ b. b ≢ 32) first × ((text ≡ first) ⊎ ((rest : List ℕ) × (text ≡ first ++ 32 ∷ rest)))

-- a word of single letters: neither a long option nor a definition
abbrev pub AreFlags : (word : List ℕ) → Type 0
AreFlags word = ((rest : List ℕ) → Begins (codes "--") word rest → ⊥) × (Contains word 61 → ⊥)

-- a dry run is asked for: the first word holds `n`, doesn't begin with `--` and holds no `=` (GNU Make manual,
-- "Communicating Options to a Sub-make"; the last two are our own)
abbrev pub AsksForDryRun : (makeflags : List ℕ) → Type 0
AsksForDryRun makeflags = (first : List ℕ) × IsFirstWord makeflags first × AreFlags first × Contains first 110

-- the wide language is asked for: the first word is `--posix`; or it isn't `--`, behind which definitions stand, and what
-- stands behind it asks so (GNU Make manual, "Communicating Options to a Sub-make")
pub data AsksForPosix : (makeflags : List ℕ) → Type 0 where
  by_first : {text : List ℕ} → IsFirstWord text (codes "--posix") → AsksForPosix text
  by_rest : {text : List ℕ} (word rest : List ℕ) → All (λ b. b ≢ 32) word → text ≡ word ++ 32 ∷ rest → word ≢ codes "--" →
      AsksForPosix rest → AsksForPosix text
