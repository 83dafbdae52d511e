-- Where no marks are kept, the reasons are those of times.
use Rattle.std.proofs.Common.{◌≡◌, ◌∙◌, inl, inr, Bool, true, false, Option, Some, None, refl, sym, subst}
use Rattle.std.specs.Prelude.{IsSomeAnd, slice_get}
use Rattle.st_records.specs.declared.record.Entry.{Entry}
use Rattle.mk_verdict.specs.declared.mark.Look.{Look}
use Rattle.mk_verdict.specs.declared.mark.MadeFile.{MadeFile}
use Rattle.mk_verdict.specs.declared.mark.Mark.{Mark}
use Rattle.mk_verdict.specs.declared.mark.Mark.TheVariants.{NotKept}
use Rattle.mk_verdict.specs.declared.verdict.Prerequisite.{Prerequisite}
use Rattle.mk_verdict.specs.declared.verdict.Target.{Target}
use Rattle.mk_verdict.specs.declared.verdict.Reason.{Reason}
use Rattle.mk_verdict.specs.declared.verdict.Reason.TheVariants.{NoEntry, WasBegun, WasFailed, CommandsChanged, PrerequisitesChanged, Absent, TargetChanged, Newer, Changed, HiddenGone, Remade}
use Rattle.mk_verdict.specs.Marks.{mark_of, Differs, IsTimed}
use Rattle.mk_verdict.specs.Verdict.{NamesOthers, HasOtherNames, IsLater, IsNewer, Holds}
use Rattle.mk_verdict.specs.ByTimes.{HasNoMarks, HoldsByTimes}

some_map : {X : Type 0} (o : Option X) (P Q : X → Type 0) → ((x : X) → o ≡ Some x → P x → Q x) → IsSomeAnd o P → IsSomeAnd o Q
some_map None P Q f h = h
some_map (Some x) P Q f h = f x refl h

none_some : {X : Type 0} (o : Option X) (P : X → Type 0) → ((x : X) → o ≡ Some x → P x → ⊥) → IsSomeAnd o P → ⊥
none_some None P f h = h
none_some (Some x) P f h = f x refl h

none_timed : (keeping : Bool) (m : Mark) → m ≡ NotKept → IsTimed (mark_of keeping m)
none_timed true m e = subst IsTimed (sym e) tt
none_timed false m e = tt

none_differs : (keeping : Bool) (m : Mark) (look : Look) → m ≡ NotKept → Differs (mark_of keeping m) look → ⊥
none_differs true m look e h = subst (λ (x : Mark). Differs x look) e h
none_differs false m look e h = h

others_alone : (target : Target) (e : Entry) → target.source_changed ≡ false → HasOtherNames target e → NamesOthers target.explicit.now e
others_alone target e same (inl changed) = absurd (let wrong : false ≡ true = sym same ∙ changed in cc)
others_alone target e same (inr others) = others

pub by_times : (keeping : Bool) (entry : Option Entry) (target : Target) (reason : Reason) → HasNoMarks target
    → (Holds keeping entry target reason → HoldsByTimes keeping entry target reason)
    × (HoldsByTimes keeping entry target reason → Holds keeping entry target reason)
by_times keeping entry target NoEntry none = ((λ h. h), λ h. h)
by_times keeping entry target WasBegun none = ((λ h. h), λ h. h)
by_times keeping entry target WasFailed none = ((λ h. h), λ h. h)
by_times keeping entry target CommandsChanged none = ((λ h. h), λ h. h)
by_times keeping entry target PrerequisitesChanged none = (
  (λ h. (h.0, some_map entry (HasOtherNames target) (NamesOthers target.explicit.now) (λ e at k. others_alone target e none.source k) h.1)),
  λ h. (h.0, some_map entry (NamesOthers target.explicit.now) (HasOtherNames target) (λ e at k. inr k) h.1),
)
by_times keeping entry target Absent none = ((λ h. h), λ h. h)
by_times keeping entry target TargetChanged none = (
  (λ h. none_some (slice_get target.files.now h.0) (λ (f : MadeFile). Differs (mark_of keeping f.mark) f.look)
      (λ f at k. none_differs keeping f.mark f.look (none.files h.0 f at) k) h.1),
  λ h. absurd h,
)
by_times keeping entry target (Newer i) none = (
  (λ h. some_map (slice_get target.prerequisites.now i) (IsNewer keeping target.stamp) (λ p. IsLater p.stamp target.stamp) (λ p at k. k.1) h),
  λ h. some_map (slice_get target.prerequisites.now i) (λ p. IsLater p.stamp target.stamp) (IsNewer keeping target.stamp)
      (λ p at k. (none_timed keeping p.mark (none.prerequisites i p at), k)) h,
)
by_times keeping entry target (Changed i) none = (
  (λ h. none_some (slice_get target.prerequisites.now i) (λ (p : Prerequisite). Differs (mark_of keeping p.mark) p.look)
      (λ p at k. none_differs keeping p.mark p.look (none.prerequisites i p at) k) h),
  λ h. absurd h,
)
by_times keeping entry target (HiddenGone i) none = ((λ h. h), λ h. h)
by_times keeping entry target (Remade i) none = ((λ h. h), λ h. h)
