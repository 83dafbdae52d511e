use Rattle.std.proofs.Common.{◌≡◌, Err, [], ◌∷◌, ◌++◌, ◌+◌, length, length-append, inl, inr, refl, sym, ap, subst, ◌∙◌, arith}
use Rattle.std.proofs.lemmas.Result.{err_from_is_err_and}
use Rattle.st_disk.specs.Moments.{now}
use Rattle.st_records.specs.declared.version.Form.{Form}
use Rattle.st_state.specs.State.{StateMap, replay}
use Rattle.st_recovery.specs.Stored.{AllRecoverIn}
use Rattle.bd_flusher.specs.declared.fault.FlushFault.TheVariants as faults
use Rattle.bd_flusher.specs.Site.{FactsIn, facts_in, told_state}
use Rattle.bd_flusher.specs.Flushing.{FlushAnswerIn}
use Rattle.bd_flusher.specs.Over.{over_facts}
use Rattle.bd_flusher.proofs.SiteLemmas.{site_with, tidied_site, faulted_site, flushed_site}
use Rattle.bd_flusher.proofs.CompactionLemmas.{same_facts, is_compacted}
use Rattle.bd_flusher.proofs.FlushLemmas.{same_state}
use Rattle.bd_flusher.proofs.AnswerLemmas.{early_memory, false_is_not_true, refused_early, refused_tidying, refused_commit, committed}
use Rattle.bd_flusher.proofs.site.calls.write_over.Goals as goal

pub returns-in_err-reserve-clause-answer : goal.returns-in_err-reserve-clause-answer
returns-in_err-reserve-clause-answer g c =
    let p = err_from_is_err_and c.from_residual.result c.from_residual.ensures.1 in
    let old = over_facts g.S.AnyStore.parts_of c.args.site.now in
    let same : facts_in (g.S.AnyStore.parts_of c.args.site.now.store) c.args.site.now.opening c.args.site.now.records.told.items c.args.site.now.records.tickets.items c.args.site.now.records.held.items c.reserve.new.self.items c.args.site.now.size ≡ old =
    same_facts _ refl refl refl refl c.reserve.ensures.items refl in
    rw (p.1, p.2) (subst (λ (s : FactsIn _). FlushAnswerIn {T = Unit {0}} g.D.Disk.honest g.D.Disk.moments g.D.Disk.seen g.D.Disk.faults old s (Err faults.OutOfMemory)) (sym same)
    (refused_early _ g.D.Disk.honest g.D.Disk.moments g.D.Disk.seen g.D.Disk.faults old faults.OutOfMemory c.requires.site.0 (λ nothing alive. omega (arith, c.requires.some, nothing))
    (early_memory _ _ _ c.requires.alive c.requires.in_turn)))

-- ---- refused by the compaction: the store has the same state, the records are as before

pub returns-in_err-tidy_store-clause-site : goal.returns-in_err-tidy_store-clause-site
returns-in_err-tidy_store-clause-site g c =
    let old = over_facts g.S.AnyStore.parts_of c.args.site.now in
    let new = g.S.AnyStore.parts_of c.tidy_store.new.store in
    let is = c.requires.site.0 in
    let call = c.tidy_store.ensures in (
      site_with g.D.Disk.honest g.D.Disk.moments old new c.reserve.new.self.items c.tidy_store.new.size is call.newest call.state c.reserve.ensures.items
          (λ honest still. (tidied_site old new.disk honest is c.requires.alive (call.any_moment honest c.requires.alive)).0)
          (λ honest. (tidied_site old new.disk honest is c.requires.alive (call.any_moment honest c.requires.alive)).1),
      c.requires.site.1,
    )

pub returns-in_err-tidy_store-clause-answer : goal.returns-in_err-tidy_store-clause-answer
returns-in_err-tidy_store-clause-answer g c =
    let p = err_from_is_err_and c.from_residual-in_err-tidy_store.result c.from_residual-in_err-tidy_store.ensures.1 in
    let old = over_facts g.S.AnyStore.parts_of c.args.site.now in
    let fault = c.in_err-tidy_store.field-0.0 in
    let call = c.in_err-tidy_store.ensures in
    rw (p.1, p.2) (refused_tidying _ g.D.Disk.honest g.D.Disk.moments g.D.Disk.seen g.D.Disk.faults old _ fault c.requires.site.0 c.requires.alive c.requires.some c.requires.in_turn
    (record {
      any_moment = λ honest. call.any_moment honest c.requires.alive;
      records = record { newest = call.newest; opening = refl; state = call.state; told = refl; tickets = refl; held = refl; ends = c.reserve.ensures.items };
      dead = λ e. call.dead.0 (ap Err e);
      device = λ e. call.device (ap Err e);
      unchanged = λ other. let same = call.unchanged other in same_facts _ same.0 refl refl refl c.reserve.ensures.items same.1;
      cause = call.cause;
      told = call.told;
      old_version = λ e. call.old_version (ap Err e);
      full = λ e. call.full (ap Err e);
      unneeded = λ written short. false_is_not_true (call.unneeded c.requires.alive written short).0;
    }))

-- ---- refused by the commit

pub returns-in_err-write_to-clause-site : goal.returns-in_err-write_to-clause-site
returns-in_err-write_to-clause-site g c =
    let old = over_facts g.S.AnyStore.parts_of c.args.site.now in
    let mid = g.S.AnyStore.parts_of c.tidy_store.new.store in
    let new = g.S.AnyStore.parts_of c.write_to.new.store in
    let is = c.requires.site.0 in
    let call = c.in_err-write_to.ensures in
    let tidy = c.in_ok-tidy_store.ensures in
    let newest : new.newest ≡ old.newest = c.write_to.ensures.side.2 ∙ tidy.newest in
    let state : new.state ≡ old.state = call.err.1 ∙ tidy.state in
    let moments = now (g.D.Disk.moments new.disk) in
    rw call.err.0 (
      site_with g.D.Disk.honest g.D.Disk.moments old new c.reserve.new.self.items c.tidy_store.new.size is newest state c.reserve.ensures.items
          (λ honest still. subst (λ (f : Form). AllRecoverIn f (told_state old) moments) newest
          (subst (λ (m : StateMap). AllRecoverIn new.newest m moments) (state ∙ is.folded) (g.met.S.AnyStore.recovers c.write_to.new.store honest still)))
          (λ honest. faulted_site old mid.disk new.disk honest is (same_state old.state mid.state old.newest mid.newest old.held tidy.state tidy.newest (call.any_moment honest tidy.alive.1))),
      c.requires.site.1,
    )

pub returns-in_err-write_to-clause-answer : goal.returns-in_err-write_to-clause-answer
returns-in_err-write_to-clause-answer g c =
    let p = err_from_is_err_and c.from_residual-in_err-write_to.result c.from_residual-in_err-write_to.ensures.1 in
    let old = over_facts g.S.AnyStore.parts_of c.args.site.now in
    let mid = facts_in (g.S.AnyStore.parts_of c.tidy_store.new.store) old.opening old.told old.tickets old.held c.reserve.new.self.items c.tidy_store.new.size in
    let fault = c.in_err-write_to.field-0.0 in
    let call = c.in_err-write_to.ensures in
    let tidy = c.in_ok-tidy_store.ensures in
    rw (p.1, p.2) (refused_commit _ g.D.Disk.honest g.D.Disk.moments g.D.Disk.seen g.D.Disk.faults old mid _ c.requires.site.0 c.requires.alive c.requires.some
    (record {
      any_moment = λ honest. tidy.any_moment honest c.requires.alive;
      records = record { newest = tidy.newest; opening = refl; state = tidy.state; told = refl; tickets = refl; held = refl; ends = c.reserve.ensures.items };
      alive = tidy.alive.1;
      version = tidy.version;
      success = tidy.success;
      compacted = elim tidy.compacted [
        | inl same ↦ inl (same_facts _ same.0 refl refl refl c.reserve.ensures.items same.1)
        | inr moved ↦ inr (is_compacted _ _ moved.0 moved.1 moved.2)
      ];
      unneeded = λ written short. let same = tidy.unneeded c.requires.alive written short in same_facts _ same.1 refl refl refl c.reserve.ensures.items same.2;
    })
    (record {
      any_moment = λ honest. call.any_moment honest tidy.alive.1;
      side = call.side.0;
      form = call.side.1;
      generation = call.side.3;
      size = refl;
    })
    fault c.requires.in_turn
    (record {
      records = record {
        newest = call.side.2 ∙ tidy.newest;
        opening = refl;
        state = call.err.1 ∙ tidy.state;
        told = ap (λ r. r.told.items) call.err.0;
        tickets = ap (λ r. r.tickets.items) call.err.0;
        held = ap (λ r. r.held.items) call.err.0;
        ends = ap (λ r. r.ends.items) call.err.0 ∙ c.reserve.ensures.items;
      };
      device = λ e. call.device (ap Err e);
      unchanged = λ other.
          same_facts _ (call.unchanged other) (ap (λ r. r.told.items) call.err.0) (ap (λ r. r.tickets.items) call.err.0) (ap (λ r. r.held.items) call.err.0) (ap (λ r. r.ends.items) call.err.0) refl;
      dead = λ e. call.dead (ap Err e);
      full = λ e. call.full (ap Err e);
      old_version = λ e. call.old_version (ap Err e);
      spent = λ e. call.spent (ap Err e);
    }))

-- ---- all that was held is told

pub returns-clause-site : goal.returns-clause-site
returns-clause-site g c =
    let old = over_facts g.S.AnyStore.parts_of c.args.site.now in
    let new = g.S.AnyStore.parts_of c.write_to.new.store in
    let call = c.in_ok-write_to.ensures in
    let tidy = c.in_ok-tidy_store.ensures in
    let ends = call.ends ∙ ap (λ l. l ++ length c.write_to.new.self.told.items ∷ []) c.reserve.ensures.items in
    let folds = call.state ∙ ap (λ m. replay m old.held) tidy.state in (
      flushed_site g.D.Disk.honest g.D.Disk.moments old new _ _ _ _ c.tidy_store.new.size c.requires.site.0 c.requires.some (call.side.2 ∙ tidy.newest) folds call.told call.none.0 call.none.1 ends
          (λ honest. g.met.S.AnyStore.recovers c.write_to.new.store honest call.alive),
      omega (arith, ap length call.none.1),
    )

pub returns-clause-answer : goal.returns-clause-answer
returns-clause-answer g c =
    let old = over_facts g.S.AnyStore.parts_of c.args.site.now in
    let mid = facts_in (g.S.AnyStore.parts_of c.tidy_store.new.store) old.opening old.told old.tickets old.held c.reserve.new.self.items c.tidy_store.new.size in
    let call = c.in_ok-write_to.ensures in
    let tidy = c.in_ok-tidy_store.ensures in
    let told = call.told in
    let long : length c.write_to.new.self.told.items ≡ length old.told + length old.held = ap length told ∙ length-append old.told old.held in
    let ends = call.ends ∙ ap (λ l. l ++ length c.write_to.new.self.told.items ∷ []) c.reserve.ensures.items ∙ ap (λ n. old.ends ++ n ∷ []) long in
    committed _ g.D.Disk.honest g.D.Disk.moments g.D.Disk.seen g.D.Disk.faults old mid _ c.requires.site.0 c.requires.alive c.requires.some
    (record {
      any_moment = λ honest. tidy.any_moment honest c.requires.alive;
      records = record { newest = tidy.newest; opening = refl; state = tidy.state; told = refl; tickets = refl; held = refl; ends = c.reserve.ensures.items };
      alive = tidy.alive.1;
      version = tidy.version;
      success = tidy.success;
      compacted = elim tidy.compacted [
        | inl same ↦ inl (same_facts _ same.0 refl refl refl c.reserve.ensures.items same.1)
        | inr moved ↦ inr (is_compacted _ _ moved.0 moved.1 moved.2)
      ];
      unneeded = λ written short. let same = tidy.unneeded c.requires.alive written short in same_facts _ same.1 refl refl refl c.reserve.ensures.items same.2;
    })
    (record {
      any_moment = λ honest. call.any_moment honest tidy.alive.1;
      side = call.side.0;
      form = call.side.1;
      generation = call.side.3;
      size = refl;
    })
    _ (returns-clause-site g c).0 call.alive
    (record { newest = call.side.2 ∙ tidy.newest; opening = refl; told = told; tickets = call.none.0; held = call.none.1; ends = λ any. ends })
    c.requires.in_turn (λ honest. call.behind honest)
