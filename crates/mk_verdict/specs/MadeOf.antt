-- What a target that is up to date was made of.
use Rattle.std.specs.Prelude.{◌≡◌, ℕ, ◌≤◌, ℤ, Bool, true, false, List, Some, slice_get}
use Rattle.st_records.specs.declared.record.Entry.{Entry}
use Rattle.st_records.specs.declared.record.Phase.TheVariants as phase
use Rattle.mk_verdict.specs.declared.mark.Look.{Look}
use Rattle.mk_verdict.specs.declared.mark.Look.TheVariants.{File}
use Rattle.mk_verdict.specs.declared.mark.MadeFile.{MadeFile}
use Rattle.mk_verdict.specs.declared.mark.Mark.{Mark}
use Rattle.mk_verdict.specs.declared.mark.Mark.TheVariants as mark
use Rattle.mk_verdict.specs.declared.verdict.Prerequisite.{Prerequisite}
use Rattle.mk_verdict.specs.declared.verdict.Target.{Target}
use Rattle.mk_verdict.specs.declared.verdict.Verdict.TheVariants.{UpToDate}
use Rattle.mk_verdict.specs.Verdict.{IsVerdict}

-- the file is the one that is recorded, where a mark of it is kept
abbrev pub IsRecorded : Mark → Look → Type 0
IsRecorded mark.NotKept look = Unit {0}
IsRecorded mark.Unknown look = ⊥
IsRecorded (mark.Was was) look = was ≡ look

-- the recipe that is recorded came to its end, its commands are those of now, and so is its source, and each of the target's files and
-- that of each prerequisite are those that are recorded
pub record IsAsRecorded (entry : Entry) (target : Target) : Type 0 where
  pub done : entry.phase ≡ phase.Done
  pub commands : entry.commands ≡ target.commands.now
  pub source : target.source_changed ≡ false
  pub files : (i : ℕ) (f : MadeFile) → slice_get target.files.now i ≡ Some f → IsRecorded f.mark f.look
  pub prerequisites : (i : ℕ) (p : Prerequisite) → slice_get target.prerequisites.now i ≡ Some p → IsRecorded p.mark p.look

-- the premise: where two looks at a name tell the same file, and the first was before the recipe was begun and settled then (its last
-- change came in an earlier tick of the clock), the file's content is the same from that begin to the second look
abbrev pub IsTelling : (content : List ℕ → ℕ → List ℕ) → (look : List ℕ → ℕ → Look) → (settled : List ℕ → ℕ → Bool) → (begun : ℕ) → Type 0
IsTelling content look settled begun =
    (name : List ℕ) (time : ℤ) (size a b c : ℕ) → look name a ≡ File time size → look name b ≡ File time size
    → a ≤ begun → settled name a ≡ true → begun ≤ c → c ≤ b → content name c ≡ content name b

-- the mark of a file is a settled look from before the recipe was begun, and the look is that of now
pub record IsLookedAt (look : List ℕ → ℕ → Look) (settled : List ℕ → ℕ → Bool) (begun now : ℕ) (p : Prerequisite) : Type 0 where
  pub taken : (time : ℤ) (size : ℕ) → p.mark ≡ mark.Was (File time size)
      → (at : ℕ) × (at ≤ begun) × (look p.name.now at ≡ File time size) × (settled p.name.now at ≡ true)
  pub seen : p.look ≡ look p.name.now now

-- from when the recipe was begun until now the prerequisite, of which the mark of a file is kept, held what it holds now
abbrev pub HoldsSince : (content : List ℕ → ℕ → List ℕ) → (begun now : ℕ) → Prerequisite → Type 0
HoldsSince content begun now p =
    (time : ℤ) (size : ℕ) → p.mark ≡ mark.Was (File time size) → (c : ℕ) → begun ≤ c → c ≤ now → content p.name.now c ≡ content p.name.now now

-- so it is of each prerequisite of a target that is up to date
abbrev pub IsMadeOfWhatIsThere : Type 0
IsMadeOfWhatIsThere =
    (content : List ℕ → ℕ → List ℕ) (look : List ℕ → ℕ → Look) (settled : List ℕ → ℕ → Bool) (begun now : ℕ) → IsTelling content look settled begun
    → (entry : Entry) (target : Target)
    → ((i : ℕ) (p : Prerequisite) → slice_get target.prerequisites.now i ≡ Some p → IsLookedAt look settled begun now p)
    → IsVerdict true (Some entry) target UpToDate
    → (i : ℕ) (p : Prerequisite) → slice_get target.prerequisites.now i ≡ Some p → HoldsSince content begun now p
