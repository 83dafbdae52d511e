use Rattle.std.proofs.Common.{◌≡◌, ◌∙◌, ◌+◌, ◌<◌, ◌^◌, false, length, rules}
use Rattle.st_disk.specs.Moments.{now}
use Rattle.st_records.specs.declared.version.Form.TheVariants.{Plain}
use Rattle.st_compaction.proofs.CompactedLemmas.{IsAnew, recovers_still, other_on_disk, compacting, stored_anew, ready_anew, held_anew}
use Rattle.st_compaction.proofs.compaction.compact.Goals as goal

pub returns-in_err-text-clause-any_moment : goal.returns-in_err-text-clause-any_moment
returns-in_err-text-clause-any_moment g c = λ honest alive. recovers_still c.args.store.now.log.side _ (c.args.store.now.stored honest alive)

pub returns-in_default-clause-any_moment : goal.returns-in_default-clause-any_moment
returns-in_default-clause-any_moment g c = λ honest alive. recovers_still c.args.store.now.log.side _ (c.args.store.now.stored honest alive)

pub invariant_of-store-7 : goal.invariant_of-store-7
invariant_of-store-7 g c =
    let next : c.in-Some.generation ≡ c.args.store.now.log.generation + 1 = search rules in
    let fits : c.in-Some.generation < 2 ^ 64 = search rules in
    let anew : IsAnew Plain c.args.store.now.log.generation c.in-Some.generation c.args.store.now.state c.deref.result.now =
    record { all = c.args.store.now.keepable; short = c.in_ok-text.ensures.short; is_next = next; fits = fits; text_is = c.deref.ensures.value ∙ c.in_ok-text.ensures.text } in
    let ends : c.len-store.result ≡ length c.deref.result.now = search rules in
    record { ready = λ honest alive. ready_anew anew ends (c.in_ok-rewrite.ensures.opened honest) }

pub invariant_of-store-8 : goal.invariant_of-store-8
invariant_of-store-8 g c =
    let next : c.in-Some.generation ≡ c.args.store.now.log.generation + 1 = search rules in
    let fits : c.in-Some.generation < 2 ^ 64 = search rules in
    let anew : IsAnew Plain c.args.store.now.log.generation c.in-Some.generation c.args.store.now.state c.deref.result.now =
    record { all = c.args.store.now.keepable; short = c.in_ok-text.ensures.short; is_next = next; fits = fits; text_is = c.deref.ensures.value ∙ c.in_ok-text.ensures.text } in
    let ends : c.len-store.result ≡ length c.deref.result.now = search rules in
    let disk = c.args.store.now.log.disk in
    let was_alive : c.args.store.now.log.dead ≡ false = search rules in
    record {
      stored = λ honest alive.
          stored_anew (g.D.Disk.seen disk) c.args.store.now.log.side c.other_side-side.result (c.args.store.now.stored honest was_alive) c.other_side-side.ensures
          (g.met.D.Disk.seen_is_image disk honest c.other_side-side.result) anew (c.rewrite.ensures.any_moment honest Plain)
          (g.D.Disk.seen c.rewrite.new.disk) ends (c.in_ok-rewrite.ensures.opened honest);
      keepable = c.args.store.now.keepable;
    }

pub rewrite-requires : goal.rewrite-requires
rewrite-requires g c = λ honest.
    let alive : c.args.store.now.log.dead ≡ false = search rules in
    let disk = c.args.store.now.log.disk in
    other_on_disk (g.D.Disk.seen disk) c.args.store.now.log.side c.other_side-side.result (now (g.D.Disk.moments disk)) (c.args.store.now.stored honest alive) c.other_side-side.ensures
    (g.met.D.Disk.seen_is_image disk honest c.other_side-side.result)

pub returns-in_err-rewrite-clause-any_moment : goal.returns-in_err-rewrite-clause-any_moment
returns-in_err-rewrite-clause-any_moment g c = λ honest alive.
    let disk = c.args.store.now.log.disk in
    let next : c.in-Some.generation ≡ c.args.store.now.log.generation + 1 = search rules in
    let fits : c.in-Some.generation < 2 ^ 64 = search rules in
    let anew : IsAnew Plain c.args.store.now.log.generation c.in-Some.generation c.args.store.now.state c.deref.result.now =
    record { all = c.args.store.now.keepable; short = c.in_ok-text.ensures.short; is_next = next; fits = fits; text_is = c.deref.ensures.value ∙ c.in_ok-text.ensures.text } in
    compacting (g.D.Disk.seen disk) c.args.store.now.log.side c.other_side-side.result (c.args.store.now.stored honest alive) c.other_side-side.ensures
    (g.met.D.Disk.seen_is_image disk honest c.other_side-side.result) anew (c.rewrite.ensures.any_moment honest Plain)

pub returns-clause-any_moment : goal.returns-clause-any_moment
returns-clause-any_moment g c = λ honest alive.
    let disk = c.args.store.now.log.disk in
    let next : c.in-Some.generation ≡ c.args.store.now.log.generation + 1 = search rules in
    let fits : c.in-Some.generation < 2 ^ 64 = search rules in
    let anew : IsAnew Plain c.args.store.now.log.generation c.in-Some.generation c.args.store.now.state c.deref.result.now =
    record { all = c.args.store.now.keepable; short = c.in_ok-text.ensures.short; is_next = next; fits = fits; text_is = c.deref.ensures.value ∙ c.in_ok-text.ensures.text } in
    compacting (g.D.Disk.seen disk) c.args.store.now.log.side c.other_side-side.result (c.args.store.now.stored honest alive) c.other_side-side.ensures
    (g.met.D.Disk.seen_is_image disk honest c.other_side-side.result) anew (c.rewrite.ensures.any_moment honest Plain)

pub returns-clause-held : goal.returns-clause-held
returns-clause-held g c = λ honest.
    let next : c.in-Some.generation ≡ c.args.store.now.log.generation + 1 = search rules in
    let fits : c.in-Some.generation < 2 ^ 64 = search rules in
    let anew : IsAnew Plain c.args.store.now.log.generation c.in-Some.generation c.args.store.now.state c.deref.result.now =
    record { all = c.args.store.now.keepable; short = c.in_ok-text.ensures.short; is_next = next; fits = fits; text_is = c.deref.ensures.value ∙ c.in_ok-text.ensures.text } in
    let ends : c.len-store.result ≡ length c.deref.result.now = search rules in
    held_anew (g.D.Disk.seen c.rewrite.new.disk) c.args.store.now.log.side c.other_side-side.result anew c.other_side-side.ensures ends (c.in_ok-rewrite.ensures.opened honest)
