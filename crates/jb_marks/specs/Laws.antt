-- What the marks of a 'done' come to. Own.
use Rattle.std.specs.Prelude.{◌≡◌, ◌⊎◌, ℕ, ◌%◌, ◌^◌, ◌≤◌, ℤ, ◌<ℤ◌, Bool, true, List, ◌++◌}
use Rattle.st_marks.specs.Encoding.{stamp_of}
use Rattle.st_marks.specs.declared.mark.Mark.{Mark}
use Rattle.st_marks.specs.declared.mark.Mark.TheVariants as mark
use Rattle.mk_marks.specs.Marks.{mark_from}
use Rattle.mk_verdict.specs.declared.mark.Look.{Look}
use Rattle.mk_verdict.specs.declared.mark.Look.TheVariants as look
use Rattle.mk_verdict.specs.declared.mark.Mark.TheVariants.{Was}
use Rattle.jb_marks.specs.declared.before.Before.{Before}
use Rattle.jb_marks.specs.declared.names.Names.{Names}
use Rattle.jb_marks.specs.declared.sights.Sight.{Sight}
use Rattle.jb_marks.specs.declared.sights.Sight.TheVariants.{NoFile, Other, File}
use Rattle.jb_marks.specs.Before.{IsBefore, made_names, source_names}
use Rattle.jb_marks.specs.Done.{AreMarks}
use Rattle.jb_marks.specs.Each.{EachWith}

-- the names that a target was made of: its source, the explicit ones, the hidden ones of the report
abbrev pub prerequisites : Names → (reported : List (List ℕ)) → List (List ℕ)
prerequisites names reported = source_names names ++ (names.explicit.now ++ reported)

-- the marks of these are those of a 'done' that was looked at before the recipe and behind it
pub record AreDone (told : List ℕ → Sight → Type 0) (said : List ℕ → Bool → Type 0) (ticked : ℤ → Type 0) (names : Names) (before : Before) (behind : List Sight) (reported : List (List ℕ)) (marks : List Mark) : Type 0 where
  pub looked : IsBefore told said ticked names before
  pub left : EachWith told (made_names names) behind
  pub marked : AreMarks told said before behind reported marks

-- where it is the mark of a file as the recipe found it, the place has told of that file, and nothing of it was changed in the tick
-- of the begin or later, or this run had made it before
abbrev pub IsSureMark : (told : List ℕ → Sight → Type 0) → (said : List ℕ → Bool → Type 0) → (tick : ℤ) → (name : List ℕ) → Mark → Type 0
IsSureMark told said tick name mark.Unknown = Unit {0}
IsSureMark told said tick name mark.NoFile = Unit {0}
IsSureMark told said tick name mark.Other = Unit {0}
IsSureMark told said tick name (mark.Own stamp) = Unit {0}
IsSureMark told said tick name (mark.File stamp) =
    (time : ℤ) × (size : ℕ) × (changed : ℤ)
    × told name (File time size changed) × (stamp ≡ stamp_of time size) × ((changed <ℤ tick) ⊎ said name true)

-- ---- in a history

-- what a verdict sees of what a place tells
abbrev pub look_of : Sight → Look
look_of NoFile = look.NoFile
look_of Other = look.Other
look_of (File time size changed) = look.File time (size % 2 ^ 32)

-- the premise, of what there was under each name at each moment: what the place told was there at some moment, between the one at which
-- the clock was read and the one at which the report was; what has an earlier ctime than the clock had was there when it was read;
-- and so was what this run had made by then, since no other recipe writes it
pub record IsHistory (told : List ℕ → Sight → Type 0) (said : List ℕ → Bool → Type 0) (tick : ℤ) (read ended : ℕ) (there : List ℕ → ℕ → Sight) : Type 0 where
  pub seen : (name : List ℕ) (sight : Sight) → told name sight → (at : ℕ) × (read ≤ at) × (at ≤ ended) × (there name at ≡ sight)
  pub settled : (name : List ℕ) (at : ℕ) (time : ℤ) (size : ℕ) (changed : ℤ) → read ≤ at → there name at ≡ File time size changed → changed <ℤ tick
      → there name read ≡ File time size changed
  pub made : (name : List ℕ) (at : ℕ) → said name true → read ≤ at → at ≤ ended → there name read ≡ there name at

-- files count as settled that have an earlier ctime, or were made by then
abbrev pub AreSettled : (said : List ℕ → Bool → Type 0) → (tick : ℤ) → (read : ℕ) → (there : List ℕ → ℕ → Sight) → (settled : List ℕ → ℕ → Bool) → Type 0
AreSettled said tick read there settled =
    (name : List ℕ) (time : ℤ) (size : ℕ) (changed : ℤ) → there name read ≡ File time size changed → (changed <ℤ tick) ⊎ said name true
    → settled name read ≡ true

-- the file is one that the recipe writes itself
abbrev pub IsOwn : Mark → Type 0
IsOwn mark.Unknown = ⊥
IsOwn mark.NoFile = ⊥
IsOwn mark.Other = ⊥
IsOwn (mark.File stamp) = ⊥
IsOwn (mark.Own stamp) = Unit {0}

-- the mark, as a verdict takes it, is a settled look from before the recipe was begun, where it is of a file that the recipe doesn't
-- write: what mk_verdict's `IsLookedAt` asks of it
abbrev pub IsLookBefore : (look' : List ℕ → ℕ → Look) → (settled : List ℕ → ℕ → Bool) → (begun : ℕ) → (name : List ℕ) → Mark → Type 0
IsLookBefore look' settled begun name m =
    (time : ℤ) (size : ℕ) → mark_from m ≡ Was (look.File time size)
    → IsOwn m ⊎ ((at : ℕ) × (at ≤ begun) × (look' name at ≡ look.File time size) × (settled name at ≡ true))
