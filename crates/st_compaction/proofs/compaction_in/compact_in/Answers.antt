use Rattle.std.proofs.Common.{◌≡◌, ◌∙◌, ◌+◌, ◌<◌, ◌^◌, false, length, rules}
use Rattle.st_disk.specs.Moments.{now}
use Rattle.st_file.proofs.LayoutLemmas.{itself_is_read}
use Rattle.st_compaction.proofs.CompactedLemmas.{keepable_in, says_no_more, made_anew, IsAnew, recovers_still, other_on_disk, compacting, stored_anew, ready_anew, held_anew}
use Rattle.st_compaction.proofs.compaction_in.compact_in.Goals as goal

pub returns-in_err-text-clause-any_moment : goal.returns-in_err-text-clause-any_moment
returns-in_err-text-clause-any_moment g c = λ honest alive. recovers_still c.args.store.now.log.side _ (c.args.store.now.stored honest alive)

pub returns-in_default-clause-any_moment : goal.returns-in_default-clause-any_moment
returns-in_default-clause-any_moment g c = λ honest alive. recovers_still c.args.store.now.log.side _ (c.args.store.now.stored honest alive)

pub invariant_of-store-7 : goal.invariant_of-store-7
invariant_of-store-7 g c =
    let next : c.in-Some.generation ≡ c.args.store.now.log.generation + 1 = search rules in
    let fits : c.in-Some.generation < 2 ^ 64 = search rules in
    let anew : IsAnew c.args.store.now.newest c.args.store.now.log.generation c.in-Some.generation c.args.store.now.state c.deref.result.now =
    record { all = keepable_in c.args.store.now.newest c.args.store.now.log.form c.args.store.now.state c.args.store.now.is_read c.args.store.now.made; short = c.in_ok-text.ensures.short; is_next = next; fits = fits; text_is = c.deref.ensures.value ∙ c.in_ok-text.ensures.text } in
    let ends : c.len-store.result ≡ length c.deref.result.now = search rules in
    record { ready = λ honest alive. ready_anew anew ends (c.in_ok-rewrite.ensures.opened honest) }

pub invariant_of-store-8 : goal.invariant_of-store-8
invariant_of-store-8 g c =
    let next : c.in-Some.generation ≡ c.args.store.now.log.generation + 1 = search rules in
    let fits : c.in-Some.generation < 2 ^ 64 = search rules in
    let anew : IsAnew c.args.store.now.newest c.args.store.now.log.generation c.in-Some.generation c.args.store.now.state c.deref.result.now =
    record { all = keepable_in c.args.store.now.newest c.args.store.now.log.form c.args.store.now.state c.args.store.now.is_read c.args.store.now.made; short = c.in_ok-text.ensures.short; is_next = next; fits = fits; text_is = c.deref.ensures.value ∙ c.in_ok-text.ensures.text } in
    let ends : c.len-store.result ≡ length c.deref.result.now = search rules in
    let disk = c.args.store.now.log.disk in
    let was_alive : c.args.store.now.log.dead ≡ false = search rules in
    record {
      stored = λ honest alive.
          stored_anew (g.D.Disk.seen disk) c.args.store.now.log.side c.other_side-side.result (c.args.store.now.stored honest was_alive) c.other_side-side.ensures
          (g.met.D.Disk.seen_is_image disk honest c.other_side-side.result) anew (c.rewrite.ensures.any_moment honest c.args.store.now.newest)
          (g.D.Disk.seen c.rewrite.new.disk) ends (c.in_ok-rewrite.ensures.opened honest);
      is_read = itself_is_read c.args.store.now.newest;
      made = made_anew c.args.store.now.newest c.args.store.now.log.form c.args.store.now.state c.args.store.now.is_read c.args.store.now.made;
    }

pub rewrite-requires : goal.rewrite-requires
rewrite-requires g c = λ honest.
    let alive : c.args.store.now.log.dead ≡ false = search rules in
    let disk = c.args.store.now.log.disk in
    other_on_disk (g.D.Disk.seen disk) c.args.store.now.log.side c.other_side-side.result (now (g.D.Disk.moments disk)) (c.args.store.now.stored honest alive) c.other_side-side.ensures
    (g.met.D.Disk.seen_is_image disk honest c.other_side-side.result)

pub returns-in_err-rewrite-clause-any_moment : goal.returns-in_err-rewrite-clause-any_moment
returns-in_err-rewrite-clause-any_moment g c = λ honest alive.
    let disk = c.args.store.now.log.disk in
    let next : c.in-Some.generation ≡ c.args.store.now.log.generation + 1 = search rules in
    let fits : c.in-Some.generation < 2 ^ 64 = search rules in
    let anew : IsAnew c.args.store.now.newest c.args.store.now.log.generation c.in-Some.generation c.args.store.now.state c.deref.result.now =
    record { all = keepable_in c.args.store.now.newest c.args.store.now.log.form c.args.store.now.state c.args.store.now.is_read c.args.store.now.made; short = c.in_ok-text.ensures.short; is_next = next; fits = fits; text_is = c.deref.ensures.value ∙ c.in_ok-text.ensures.text } in
    compacting (g.D.Disk.seen disk) c.args.store.now.log.side c.other_side-side.result (c.args.store.now.stored honest alive) c.other_side-side.ensures
    (g.met.D.Disk.seen_is_image disk honest c.other_side-side.result) anew (c.rewrite.ensures.any_moment honest c.args.store.now.newest)

pub returns-clause-any_moment : goal.returns-clause-any_moment
returns-clause-any_moment g c = λ honest alive.
    let disk = c.args.store.now.log.disk in
    let next : c.in-Some.generation ≡ c.args.store.now.log.generation + 1 = search rules in
    let fits : c.in-Some.generation < 2 ^ 64 = search rules in
    let anew : IsAnew c.args.store.now.newest c.args.store.now.log.generation c.in-Some.generation c.args.store.now.state c.deref.result.now =
    record { all = keepable_in c.args.store.now.newest c.args.store.now.log.form c.args.store.now.state c.args.store.now.is_read c.args.store.now.made; short = c.in_ok-text.ensures.short; is_next = next; fits = fits; text_is = c.deref.ensures.value ∙ c.in_ok-text.ensures.text } in
    compacting (g.D.Disk.seen disk) c.args.store.now.log.side c.other_side-side.result (c.args.store.now.stored honest alive) c.other_side-side.ensures
    (g.met.D.Disk.seen_is_image disk honest c.other_side-side.result) anew (c.rewrite.ensures.any_moment honest c.args.store.now.newest)

pub returns-clause-held : goal.returns-clause-held
returns-clause-held g c = λ honest.
    let next : c.in-Some.generation ≡ c.args.store.now.log.generation + 1 = search rules in
    let fits : c.in-Some.generation < 2 ^ 64 = search rules in
    let anew : IsAnew c.args.store.now.newest c.args.store.now.log.generation c.in-Some.generation c.args.store.now.state c.deref.result.now =
    record { all = keepable_in c.args.store.now.newest c.args.store.now.log.form c.args.store.now.state c.args.store.now.is_read c.args.store.now.made; short = c.in_ok-text.ensures.short; is_next = next; fits = fits; text_is = c.deref.ensures.value ∙ c.in_ok-text.ensures.text } in
    let ends : c.len-store.result ≡ length c.deref.result.now = search rules in
    held_anew (g.D.Disk.seen c.rewrite.new.disk) c.args.store.now.log.side c.other_side-side.result anew c.other_side-side.ensures ends (c.in_ok-rewrite.ensures.opened honest)

pub compacted_text-requires : goal.compacted_text-requires
compacted_text-requires g c = keepable_in c.args.store.now.newest c.args.store.now.log.form c.args.store.now.state c.args.store.now.is_read c.args.store.now.made

pub returns-then-store-clause-marks : goal.returns-then-store-clause-marks
returns-then-store-clause-marks g c = says_no_more c.args.store.now.log.form c.args.store.now.state c.args.store.now.made

pub returns-in_default-clause-marks : goal.returns-in_default-clause-marks
returns-in_default-clause-marks g c = says_no_more c.args.store.now.log.form c.args.store.now.state c.args.store.now.made

pub returns-in_err-text-clause-marks : goal.returns-in_err-text-clause-marks
returns-in_err-text-clause-marks g c = says_no_more c.args.store.now.log.form c.args.store.now.state c.args.store.now.made

pub returns-in_err-rewrite-clause-marks : goal.returns-in_err-rewrite-clause-marks
returns-in_err-rewrite-clause-marks g c = says_no_more c.args.store.now.log.form c.args.store.now.state c.args.store.now.made

pub returns-clause-marks : goal.returns-clause-marks
returns-clause-marks g c = says_no_more c.args.store.now.log.form c.args.store.now.state c.args.store.now.made
