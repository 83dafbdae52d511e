-- The names of files that the words of a rule line stand for (GNU make manual, "Using Wildcard Characters in File Names"; POSIX, XCU 2.14.3).
use Rattle.std.specs.Prelude.{ℕ, Bool, true, false, ◌&&◌, ◌||◌, ◌==◌, not, List, [], ◌∷◌, ◌++◌, filter, flat_map, Option, is_some, unwrap_or, bytes_eq, codes, if◌then◌else◌}
use Rattle.std.specs.List.{list_any, slice_split}
use Rattle.std.specs.Ordering.{nat_cmp}
use Rattle.std.specs.Cmp.Lexicographic.{slice_cmp}
use Rattle.std.specs.BTreeSet.{insert_key}
use Rattle.byte_strings.specs.Blanks.{is_blank, words}
use Rattle.mk_wildcards.specs.Pattern.{has_wildcard, is_pattern, elements}
use Rattle.mk_wildcards.specs.Fits.{is_empty, fits_name}

-- the names in a folder, `.` and `..` aside, or none where it can't be read. A folder is what stands before its names: nothing, or a path with its `/`
abbrev pub Folders : Type 0
Folders = (folder : List ℕ) → Option (List (List ℕ))

abbrev pub is_slash : ℕ → Bool
is_slash b = b == 47

-- what stands between the slashes of a path
abbrev pub parts : (path : List ℕ) → List (List ℕ)
parts path = slice_split is_slash path

-- a part that each folder has: nothing behind its slash, `.` or `..`
abbrev pub is_own : (part : List ℕ) → Bool
is_own part = is_empty part || (bytes_eq part (codes ".") || bytes_eq part (codes ".."))

-- the part is in a folder with these names
abbrev pub is_there : Option (List (List ℕ)) → (part : List ℕ) → Bool
is_there names part = if is_own part then is_some names else list_any (bytes_eq part) (unwrap_or names [])

-- the names in a folder that a part stands for: a pattern for those that fit, and another part for itself. Whether it is there is looked at where
-- no part stands behind it
abbrev pub steps : (names : Option (List (List ℕ))) (is_last : Bool) (part : List ℕ) → List (List ℕ)
steps names is_last part =
    if is_pattern part then filter (fits_name (elements part)) (unwrap_or names [])
    else (if not is_last || is_there names part then part ∷ [] else [])

-- the way through the folder to a name in it, with a slash where a part stands behind it
abbrev pub joined : (is_last : Bool) (way step : List ℕ) → List ℕ
joined is_last way step = way ++ (step ++ (if is_last then [] else 47 ∷ []))

abbrev pub is_end : {A : Type 0} → List A → Bool
is_end [] = true
is_end (x ∷ xs) = false

-- where these parts lead behind a way
abbrev pub found : Folders → (way : List ℕ) (parts : List (List ℕ)) → List (List ℕ)
found folders way [] = way ∷ []
found folders way (part ∷ more) =
    flat_map (λ step. found folders (joined (is_end more) way step) more) (steps (folders way) (is_end more) part)

-- a name that a rule line can say: a blank or a newline ends a word, a `%` is the place of a stem, and `|` and `.WAIT` are no names (own)
abbrev pub is_mark_byte : ℕ → Bool
is_mark_byte b = b == 37 || (b == 10 || is_blank b)

abbrev pub is_mark : (name : List ℕ) → Bool
is_mark name = bytes_eq name (codes "|") || bytes_eq name (codes ".WAIT")

abbrev pub is_word : (name : List ℕ) → Bool
is_word name = not (list_any is_mark_byte name) && not (is_mark name)

-- the names in the order of their bytes, each once, behind others that stand so
abbrev pub ordered_behind : (those names : List (List ℕ)) → List (List ℕ)
ordered_behind those [] = those
ordered_behind those (name ∷ more) = ordered_behind (insert_key (slice_cmp nat_cmp) those name) more

abbrev pub in_order : (names : List (List ℕ)) → List (List ℕ)
in_order names = ordered_behind [] (filter is_word names)

-- the word itself, where no name fits it
abbrev pub or_itself : (word : List ℕ) (names : List (List ℕ)) → List (List ℕ)
or_itself word [] = word ∷ []
or_itself word (name ∷ more) = name ∷ more

-- the names that a word stands for
abbrev pub names_of : Folders → (word : List ℕ) → List (List ℕ)
names_of folders word = if has_wildcard word then or_itself word (in_order (found folders [] (parts word))) else word ∷ []

-- a line with these words in the place of its own, each behind a space, where a wildcard stands in it
abbrev pub line_of : Folders → (text : List ℕ) → List ℕ
line_of folders text = flat_map (λ name. 32 ∷ name) (flat_map (names_of folders) (words text))
