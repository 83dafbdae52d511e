-- What a text of marks says, read from the left; the law `what_is_said` has it that this is just what it is the text of.
use Rattle.std.specs.Prelude.{ℕ, List, [], ◌∷◌, Option, Some, None, Result, Ok, Err}
use Rattle.st_records.specs.declared.fault.DecodeFault.{DecodeFault}
use Rattle.st_records.specs.Reading.{◌>>=◌, number_at}
use Rattle.st_marks.specs.declared.mark.Mark.{Mark}
use Rattle.st_marks.specs.Reading.{source_at, mark_at, many_at}

-- the value, where nothing stands behind it
abbrev pub alone : {A : Type 0} → Result (A × List ℕ) DecodeFault → Option A
alone (Ok (a, [])) = Some a
alone (Ok (a, b ∷ rest)) = None
alone (Err fault) = None

-- the source, and then the marks
abbrev pub said_at : List ℕ → Result ((Option (List ℕ) × List Mark) × List ℕ) DecodeFault
said_at text =
    source_at text >>= λ source. (number_at source.1 >>= λ count. (many_at mark_at count.0 count.1 >>= λ marks. Ok ((source.0, marks.0), marks.1)))

-- the source and the marks of which a text says, if it is one
abbrev pub said : (text : List ℕ) → Option (Option (List ℕ) × List Mark)
said text = alone (said_at text)
