-- A target that is up to date is as it is recorded.
use Rattle.std.proofs.Common.{◌≡◌, ◌∙◌, inl, ℕ, Bool, true, false, List, Option, Some, refl, sym}
use Rattle.std.specs.Prelude.{IsSomeAnd, slice_get}
use Rattle.st_records.specs.declared.record.Entry.{Entry}
use Rattle.st_records.specs.declared.record.Phase.{Phase}
use Rattle.st_records.specs.declared.record.Phase.TheVariants as phase
use Rattle.mk_verdict.specs.declared.mark.Look.{Look}
use Rattle.mk_verdict.specs.declared.mark.Look.TheVariants.{File}
use Rattle.mk_verdict.specs.declared.mark.MadeFile.{MadeFile}
use Rattle.mk_verdict.specs.declared.mark.Mark.{Mark}
use Rattle.mk_verdict.specs.declared.mark.Mark.TheVariants as mark
use Rattle.mk_verdict.specs.declared.verdict.Prerequisite.{Prerequisite}
use Rattle.mk_verdict.specs.declared.verdict.Target.{Target}
use Rattle.mk_verdict.specs.declared.verdict.Reason.TheVariants.{WasBegun, WasFailed, CommandsChanged, PrerequisitesChanged, TargetChanged, Changed}
use Rattle.mk_verdict.specs.declared.verdict.Verdict.TheVariants.{UpToDate}
use Rattle.mk_verdict.specs.Marks.{Differs}
use Rattle.mk_verdict.specs.Verdict.{IsVerdict}
use Rattle.mk_verdict.specs.Tests.{same_look, same_strings}
use Rattle.mk_verdict.specs.MadeOf.{IsRecorded, IsAsRecorded, IsTelling, IsLookedAt, HoldsSince}
use Rattle.mk_verdict.proofs.MarkLemmas.{looks_decide}
use Rattle.mk_verdict.proofs.ReasonLemmas.{strings_decide}

same_by : (b : Bool) (was look : Look) → same_look was look ≡ b → ((was ≡ look → ⊥) → ⊥) → was ≡ look
same_by true was look e h = (looks_decide was look).0 e
same_by false was look e h = absurd (h (λ is. absurd (let wrong : false ≡ true = sym e ∙ (looks_decide was look).1 is in cc)))

recorded_of : (m : Mark) (look : Look) → (Differs m look → ⊥) → IsRecorded m look
recorded_of mark.NotKept look h = tt
recorded_of mark.Unknown look h = absurd (h tt)
recorded_of (mark.Was was) look h = same_by (same_look was look) was look refl h

commands_by : (b : Bool) (a c : List (List ℕ)) → same_strings a c ≡ b → ((a ≡ c → ⊥) → ⊥) → a ≡ c
commands_by true a c e h = (strings_decide a c).0 e
commands_by false a c e h = absurd (h (λ is. absurd (let wrong : false ≡ true = sym e ∙ (strings_decide a c).1 is in cc)))

done_of : (p : Phase) → (p ≡ phase.Begun → ⊥) → ((status : ℕ) → p ≡ phase.Failed status → ⊥) → p ≡ phase.Done
done_of phase.Begun a b = absurd (a refl)
done_of phase.Done a b = refl
done_of (phase.Failed status) a b = absurd (b status refl)

some_and : {X : Type 0} (P : X → Type 0) (o : Option X) (x : X) → o ≡ Some x → P x → IsSomeAnd o P
some_and P o x e h = rw e h

unchanged : (b : Bool) → (b ≡ true → ⊥) → b ≡ false
unchanged true h = absurd (h refl)
unchanged false h = refl

pub as_recorded : (entry : Entry) (target : Target) → IsVerdict true (Some entry) target UpToDate → IsAsRecorded entry target
as_recorded entry target h = record {
  done = done_of entry.phase (λ e. h (WasBegun, (refl, e))) (λ status e. h (WasFailed, (refl, (status, e))));
  commands =
      commands_by (same_strings entry.commands target.commands.now) entry.commands target.commands.now refl
      (λ differ. h (CommandsChanged, (refl, differ)));
  source = unchanged target.source_changed (λ is. h (PrerequisitesChanged, (refl, inl is)));
  files = λ i f at.
      recorded_of f.mark f.look
      (λ d. h (TargetChanged, (i, some_and (λ (g : MadeFile). Differs g.mark g.look) (slice_get target.files.now i) f at d)));
  prerequisites = λ i p at.
      recorded_of p.mark p.look
      (λ d. h (Changed i, some_and (λ (q : Prerequisite). Differs q.mark q.look) (slice_get target.prerequisites.now i) p at d));
}

was_is : (m : Mark) (look was : Look) → m ≡ mark.Was was → IsRecorded m look → was ≡ look
was_is mark.NotKept look was e h = absurd cc
was_is mark.Unknown look was e h = absurd h
was_is (mark.Was other) look was e h = let same : other ≡ was = cc in sym same ∙ h

pub made_of : (content : List ℕ → ℕ → List ℕ) (look : List ℕ → ℕ → Look) (settled : List ℕ → ℕ → Bool) (begun now : ℕ) → IsTelling content look settled begun
    → (entry : Entry) (target : Target)
    → ((i : ℕ) (p : Prerequisite) → slice_get target.prerequisites.now i ≡ Some p → IsLookedAt look settled begun now p)
    → IsVerdict true (Some entry) target UpToDate
    → (i : ℕ) (p : Prerequisite) → slice_get target.prerequisites.now i ≡ Some p → HoldsSince content begun now p
made_of content look settled begun now tells entry target looked h i p at time size kept c from to =
    let whole = (as_recorded entry target h).prerequisites i p at in
    let is_now : File time size ≡ look p.name.now now = was_is p.mark p.look (File time size) kept whole ∙ (looked i p at).seen in
    let taken = (looked i p at).taken time size kept in
    tells p.name.now time size taken.0 now c taken.2 (sym is_now) taken.1 taken.3 from to
