use Rattle.std.proofs.Common.{sym, ap, ◌∙◌}
use Rattle.mk_macros.specs.Ranks.{defined_by}
use Rattle.mk_eval.specs.Output.{World}
use Rattle.mk_eval.specs.Makefile.{behind}
use Rattle.mk_eval.proofs.BehindLemmas.{behind_nothing, behind_more}
use Rattle.dmk_reading.specs.Faults.{IsFaultAmong}
use Rattle.dmk_reading.proofs.MakefileLemmas.{none_read, one_read, all_read, fault_among, handed_on}
use Rattle.dmk_reading.proofs.makefile.all_items.Goals as goal

pub loop-name-init : goal.loop-name-init
loop-name-init g c = record {
  read = λ world now. none_read world (defined_by c.args.macros.now) c.args.names.now _ _ (cc) c.new-items.ensures.items;
  defined = let start = defined_by c.args.macros.now in sym (ap (behind start) c.new-items.ensures.items ∙ behind_nothing start);
  grows = λ world now. now;
}

pub loop-name-preserved : goal.loop-name-preserved
loop-name-preserved g c = record {
  read = λ world now.
      one_read world (defined_by c.args.macros.now) c.args.names.now c.loop-name.name-iterator c.next.new.self c.in-Some.name.now (defined_by c.loop-name.macros) c.loop-name.items.items c.in_ok-more.more.items _
      c.in-Some.ensures.steps (c.loop-name.invariant.read world (c.items_named.ensures.grows world now)) c.loop-name.invariant.defined (c.in_ok-more.ensures.items world now)
      c.in_ok-append.ensures.items;
  defined = behind_more (defined_by c.args.macros.now) (defined_by c.loop-name.macros) (defined_by c.items_named.new.macros) c.loop-name.items.items _ c.in_ok-more.more.items
      c.loop-name.invariant.defined c.in_ok-more.ensures.defined c.in_ok-append.ensures.items;
  grows = λ world now. c.loop-name.invariant.grows world (c.items_named.ensures.grows world now);
}

pub returns-in_err-more-clause-fault : goal.returns-in_err-more-clause-fault
returns-in_err-more-clause-fault g c =
    handed_on _ (λ f. (world : World) → g.I.Includes.allows c.items_named.new.includes world → IsFaultAmong world (defined_by c.args.macros.now) c.args.names.now f)
    c.in_err-more.field-0.0 (c.from_residual.ensures).1
    (λ world now.
    fault_among world (defined_by c.args.macros.now) c.args.names.now c.loop-name.name-iterator c.next.new.self c.in-Some.name.now (defined_by c.loop-name.macros) c.loop-name.items.items
    c.in-Some.ensures.steps (c.loop-name.invariant.read world (c.items_named.ensures.grows world now)) c.loop-name.invariant.defined c.in_err-more.field-0.0
    (c.in_err-more.ensures.fault world now))

pub returns-clause-items : goal.returns-clause-items
returns-clause-items g c = λ world now.
    all_read world (defined_by c.args.macros.now) c.args.names.now c.loop-name.name-iterator c.loop-name.items.items (c.in-None.ensures.steps).0 (c.loop-name.invariant.read world now)
