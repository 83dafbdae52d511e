-- Marks in words, as users read them (own). A time reads as `stat -c %.9Y` of GNU coreutils writes it.
use Rattle.std.specs.Prelude.{ℕ, ℤ, pos, negsuc, ◌+◌, ◌/◌, ◌%◌, ◌^◌, List, [], ◌∷◌, ◌++◌, codes, unsigned_abs}
use Rattle.std.specs.Fmt.{decimal}
use Rattle.st_marks.specs.declared.mark.Stamp.{Stamp}
use Rattle.st_marks.specs.declared.mark.Mark.{Mark}
use Rattle.st_marks.specs.declared.mark.Mark.TheVariants.{Unknown, NoFile, Other, File, Own}

-- the digit of a number at the place of this power of ten
abbrev pub digit : (power : ℕ) → ℕ → ℕ
digit power n = 48 + n / power % 10

-- the last nine digits of a number
abbrev pub nine_digits : ℕ → List ℕ
nine_digits n =
    digit 100000000 n ∷ digit 10000000 n ∷ digit 1000000 n ∷ digit 100000 n ∷ digit 10000 n ∷ digit 1000 n ∷ digit 100 n ∷ digit 10 n
    ∷ digit 1 n ∷ []

-- so many nanoseconds: the seconds, a point, and the nanoseconds that are left, with nine digits
abbrev pub seconds_text : ℕ → List ℕ
seconds_text n = decimal (n / 10 ^ 9) ++ (codes "." ++ nine_digits (n % 10 ^ 9))

-- before 1970 there is a minus in front
abbrev pub sign_text : ℤ → List ℕ
sign_text (pos n) = []
sign_text (negsuc n) = codes "-"

-- a time: how far it is from 1970, and on which side
abbrev pub time_text : ℤ → List ℕ
time_text time = sign_text time ++ seconds_text (unsigned_abs time)

-- a stamp: the time and the size
abbrev pub stamp_text : Stamp → List ℕ
stamp_text stamp = time_text stamp.time ++ (codes " " ++ decimal stamp.size)

-- a mark
abbrev pub mark_text : Mark → List ℕ
mark_text Unknown = codes "unknown"
mark_text NoFile = codes "no file"
mark_text Other = codes "other"
mark_text (File stamp) = stamp_text stamp
mark_text (Own stamp) = codes "own " ++ stamp_text stamp
