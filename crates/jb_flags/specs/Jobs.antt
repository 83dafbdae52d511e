-- How many recipes may run at once by the options in MAKEFLAGS (POSIX make, `-j` and MAKEFLAGS). What it leaves open is as GNU make reads
-- it: a `-j` may stand among other letters, its number may be a word of its own, and without one it sets no bound, which here is the number
-- of the processors.
use Rattle.std.specs.Prelude.{ℕ, Bool, false, not, ◌&&◌, List, [], ◌∷◌, Option, Some, None, option_map, option_and_then, nat_eq, bytes_eq, codes, if◌then◌else◌}
use Rattle.std.specs.List.{list_any}
use Rattle.std.specs.Option.{option_or, option_map_or}
use Rattle.byte_strings.specs.Digits.{number_of}
use Rattle.jb_flags.specs.declared.jobs.Jobs.{Jobs}
use Rattle.jb_flags.specs.declared.jobs.Jobs.TheVariants.{Processors, UpTo}

-- a letter of options behind which a value stands, in this make and in others
abbrev pub has_value : ℕ → Bool
has_value b = list_any (nat_eq b) (codes "CDIJKOTVWfjlmov")

-- what stands behind the `j` of letters that have one: behind a letter that has a value there are no more
abbrev pub behind_jobs : (letters : List ℕ) → Option (List ℕ)
behind_jobs [] = None
behind_jobs (b ∷ rest) = if nat_eq b 106 then Some rest else if has_value b then None else behind_jobs rest

-- a word that begins with two hyphens
abbrev pub is_long : (word : List ℕ) → Bool
is_long (first ∷ second ∷ rest) = nat_eq first 45 && nat_eq second 45
is_long word = false

-- the letters of a word of options: those behind its hyphen, and all of the first word, if it has none and is no definition
abbrev pub letters_of : (is_first : Bool) (word : List ℕ) → Option (List ℕ)
letters_of is_first [] = None
letters_of is_first (b ∷ rest) =
    if is_long (b ∷ rest) then None else
    if nat_eq b 45 then Some rest else
    if is_first && not (list_any (nat_eq 61) (b ∷ rest)) then Some (b ∷ rest) else None

-- the first of these words
abbrev pub first_of : (words : List (List ℕ)) → Option (List ℕ)
first_of [] = None
first_of (word ∷ words) = Some word

-- what a `-j` asks for, by what stands behind it in its word: its number; or that of the next word, or none
abbrev pub asked : (behind : List ℕ) (next : Option (List ℕ)) → Option Jobs
asked [] next = Some (option_map_or UpTo (option_and_then number_of next) Processors)
asked (b ∷ behind) next = option_map UpTo (number_of (b ∷ behind))

-- what a word asks for before others
abbrev pub asked_by : (is_first : Bool) (word : List ℕ) (next : Option (List ℕ)) → Option Jobs
asked_by is_first word next = option_and_then (λ behind. asked behind next) (option_and_then behind_jobs (letters_of is_first word))

-- what words ask for: the last one that asks for a number counts, and behind `--` there are definitions alone
abbrev pub jobs_of : (is_first : Bool) (words : List (List ℕ)) → Option Jobs
jobs_of is_first [] = None
jobs_of is_first (word ∷ words) =
    if bytes_eq word (codes "--") then None else option_or (jobs_of false words) (asked_by is_first word (first_of words))
