-- What a text of marks says, and the marks of a target's record apart, by what they are of.
use Rattle.std.specs.Prelude.{ℕ, ◌+◌, ◌-◌, List, [], ◌∷◌, length, take, drop, Option, Some, None, Result, Ok, Err, nat_lt, if◌then◌else◌}
use Rattle.std.specs.Option.{option_copied}
use Rattle.st_records.specs.declared.fault.DecodeFault.{DecodeFault}
use Rattle.st_records.specs.Reading.{◌>>=◌, Reader, number_at}
use Rattle.st_marks.specs.declared.mark.Mark.{Mark}
use Rattle.st_marks.specs.declared.parts.Parts.{Parts}
use Rattle.st_marks.specs.Reading.{source_at, mark_at, many_at}

-- what was read, where nothing stands behind it
abbrev pub whole : {A : Type 0} → Result (A × List ℕ) DecodeFault → Option A
whole (Ok (x, [])) = Some x
whole (Ok (x, byte ∷ rest)) = None
whole (Err fault) = None

-- so many marks, where the source was read
abbrev pub listed_at : Option (List ℕ) → ℕ → Reader (Option (List ℕ) × List Mark)
listed_at source count bytes = many_at mark_at count bytes >>= λ m. Ok ((source, m.0), m.1)

-- how many there are, and so many marks
abbrev pub counted_at : Option (List ℕ) → Reader (Option (List ℕ) × List Mark)
counted_at source bytes = number_at bytes >>= λ n. listed_at source n.0 n.1

-- the source, and what stands behind it
abbrev pub said_at : Reader (Option (List ℕ) × List Mark)
said_at text = source_at text >>= λ s. counted_at s.0 s.1

-- of which source and marks a text says; None where the bytes are no such text
abbrev pub said_of : List ℕ → Option (Option (List ℕ) × List Mark)
said_of text = whole (said_at text)

-- how many sources there are
abbrev pub sources : Option (List ℕ) → ℕ
sources None = 0
sources (Some name) = 1

-- the marks of the target and those that are made with it; the source and its mark, if there is one; and the marks of the explicit
-- and of the hidden prerequisites
pub record Parted : Type 0 where
  pub files : List Mark
  pub source : Option (List ℕ)
  pub of_source : List Mark
  pub explicit : List Mark
  pub hidden : List Mark

-- marks apart, where so many files come first
abbrev pub parted_at : (files explicit : ℕ) (source : Option (List ℕ)) (marks : List Mark) → Parted
parted_at files explicit source marks =
    let behind_files = drop files marks in
    let behind_source = drop (sources source) behind_files in
    record {
      files = take files marks;
      source = source;
      of_source = take (sources source) behind_files;
      explicit = take explicit behind_source;
      hidden = drop explicit behind_source;
    }

-- all but those of the source and of so many prerequisites are of files; None where there are no others
abbrev pub parted_of : (explicit hidden : ℕ) → Option (Option (List ℕ) × List Mark) → Option Parted
parted_of explicit hidden None = None
parted_of explicit hidden (Some said) =
    let others = sources said.0 + (explicit + hidden) in
    if nat_lt others (length said.1) then Some (parted_at (length said.1 - others) explicit said.0 said.1) else None

-- the marks of which a text says, of a target that has so many explicit and hidden prerequisites; None where it isn't one, or says
-- of fewer files
abbrev pub parts_of : (text : List ℕ) (explicit hidden : ℕ) → Option Parted
parts_of text explicit hidden = parted_of explicit hidden (said_of text)

-- what a call hands out
abbrev pub parted : Parts → Parted
parted parts = record {
  files = parts.files;
  source = option_copied parts.source;
  of_source = parts.of_source;
  explicit = parts.explicit;
  hidden = parts.hidden;
}
