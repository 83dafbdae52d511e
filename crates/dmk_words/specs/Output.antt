-- How what recipes write is held together, by words.
use Rattle.std.specs.Prelude.{ℕ, List, Option, Some, None, ◌||◌, if◌then◌else◌, bytes_eq, codes}
use Rattle.dmk_words.specs.declared.output.Output.{Output}
use Rattle.dmk_words.specs.declared.output.Output.TheVariants.{Unheld, AtFront, ByLine, ByTarget, ByMake}

-- GNU make's word for it, where it has one (GNU make manual, "Output During Parallel Execution")
abbrev pub word_of : Output → Option (List ℕ)
word_of Unheld = Some (codes "none")
word_of AtFront = None
word_of ByLine = Some (codes "line")
word_of ByTarget = Some (codes "target")
word_of ByMake = Some (codes "recurse")

-- what a word asks for: one of GNU make's, or of dmk's own
abbrev pub asked_by : List ℕ → Option Output
asked_by word =
    if bytes_eq word (codes "through") || bytes_eq word (codes "none") then Some Unheld
    else if bytes_eq word (codes "front") then Some AtFront
    else if bytes_eq word (codes "line") then Some ByLine
    else if bytes_eq word (codes "block") || bytes_eq word (codes "target") then Some ByTarget
    else if bytes_eq word (codes "recurse") then Some ByMake
    else None
