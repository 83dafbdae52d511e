-- What the words of a line are written for, as compilers write names in make's form (GCC's libcpp/mkdeps.cc; GNU make manual, "Rule Syntax").
use Rattle.std.specs.Prelude.{ℕ, ◌+◌, ◌-◌, ◌/◌, ◌%◌, Bool, ◌||◌, ◌&&◌, ◌==◌, List, [], ◌∷◌, ◌++◌, replicate, Result, Ok, Err, if◌then◌else◌}
use Rattle.byte_strings.specs.Blanks.{is_blank}
use Rattle.mk_depfiles.specs.declared.refusal.Cause.{Cause}
use Rattle.mk_depfiles.specs.declared.refusal.Cause.TheVariants.{LoneDollar, BareHash}
use Rattle.mk_depfiles.specs.declared.gathering.Held.{Held}
use Rattle.mk_depfiles.specs.declared.gathering.Held.TheVariants.{Backslashes, Dollar}

-- a blank, or the newline of a line that goes on
abbrev pub is_gap : ℕ → Bool
is_gap b = is_blank b || b == 10

abbrev pub backslashes : ℕ → List ℕ
backslashes n = replicate n 92

abbrev pub is_odd : ℕ → Bool
is_odd n = n % 2 == 1

-- nothing between two gaps is no word
abbrev pub ended : (word : List ℕ) → List (List ℕ)
ended [] = []
ended (b ∷ bs) = (b ∷ bs) ∷ []

abbrev pub in_front : List (List ℕ) → Result (List (List ℕ)) Cause → Result (List (List ℕ)) Cause
in_front front (Ok rest) = Ok (front ++ rest)
in_front front (Err cause) = Err cause

-- the words of a text behind a word that is begun and what is held of it. Before a gap and at the end two backslashes stand for one, and one that is
-- left quotes a blank; before a `#` one quotes it, and the others stand for themselves, as all do before any other byte. `$$` is a `$`
abbrev pub words_behind : (word : List ℕ) → Held → (text : List ℕ) → Result (List (List ℕ)) Cause
words_behind word (Backslashes n) [] = Ok (ended (word ++ backslashes (n / 2)))
words_behind word (Backslashes n) (b ∷ bs) =
    if b == 92 then words_behind word (Backslashes (n + 1)) bs
    else (if is_blank b && is_odd n then words_behind ((word ++ backslashes (n / 2)) ++ b ∷ []) (Backslashes 0) bs
    else (if is_gap b then in_front (ended (word ++ backslashes (n / 2))) (words_behind [] (Backslashes 0) bs)
    else (if b == 35 then (if n == 0 then Err BareHash else words_behind ((word ++ backslashes (n - 1)) ++ b ∷ []) (Backslashes 0) bs)
    else (if b == 36 then words_behind (word ++ backslashes n) Dollar bs
    else words_behind ((word ++ backslashes n) ++ b ∷ []) (Backslashes 0) bs))))
words_behind word Dollar [] = Err LoneDollar
words_behind word Dollar (b ∷ bs) = if b == 36 then words_behind (word ++ b ∷ []) (Backslashes 0) bs else Err LoneDollar

-- the words of a line
abbrev pub words : (line : List ℕ) → Result (List (List ℕ)) Cause
words line = words_behind [] (Backslashes 0) line
