use Rattle.std.proofs.Common.{ℕ, ◌<◌, List, length, take, drop, sym, ap, ◌∙◌, subst, arith}
use Rattle.std.proofs.lemmas.List.{take_all, length-map}
use Rattle.mk_graph.specs.Parts.{fronts, backs}
use Rattle.mk_graph.specs.Spans.{spanned, rows_at, IsWithin, AreWithin}
use Rattle.mk_graph.proofs.PartLemmas.{length-by_counts}
use Rattle.mk_graph.proofs.SpanLemmas.{AreWithin-push, rows_at_more}
use Rattle.mk_graph.proofs.shared_rows.SharedRows.parted.Goals as goal

pub loop-node-preserved : goal.loop-node-preserved
loop-node-preserved c =
    let g = c.args.self.now in
    let counts = c.args.counts.now in
    let numbers : List ℕ = c.self.inside.numbers.value.items in
    let spans = c.self.inside.spans.items in
    let node = c.loop-node.node in
    let span = c.index.result.now in
    let before = c.loop-node.invariant in
    let within : node < length g = omega arith in
    let lies : IsWithin (length numbers) span
    = let many = ap length c.self.view_is in
    let same = length-map spans (spanned numbers) in
    subst (IsWithin (length numbers)) (sym c.index.ensures) (c.self.invariant node span (omega (arith, many, same, within))) in
    let pushed = c.push_reserved.ensures.items in
    let pushed_back = c.push_reserved-in-loop-node.ensures.items in
    record {
      fronts = ap (rows_at numbers) pushed
          ∙ rows_at_more take counts numbers spans c.loop-node.fronts.items g node span c.cut.result.0 c.requires within c.self.view_is c.index.ensures (c.cut.ensures.front numbers) before.fronts;
      fronts_within = subst (AreWithin (length numbers)) (sym pushed)
          (AreWithin-push (length numbers) c.loop-node.fronts.items c.cut.result.0 before.fronts_within (c.cut.ensures.within (length numbers) lies));
      fronts_count = omega arith;
      fronts_room = omega arith;
      backs = ap (rows_at numbers) pushed_back
          ∙ rows_at_more drop counts numbers spans c.loop-node.backs.items g node span c.cut.result.1 c.requires within c.self.view_is c.index.ensures (c.cut.ensures.back numbers) before.backs;
      backs_within = subst (AreWithin (length numbers)) (sym pushed_back)
          (AreWithin-push (length numbers) c.loop-node.backs.items c.cut.result.1 before.backs_within (c.cut.ensures.within_back (length numbers) lies));
      backs_count = omega arith;
      backs_room = omega arith;
    }

pub returns-clause-fronts : goal.returns-clause-fronts
returns-clause-fronts c =
    let many = length-by_counts take c.args.counts.now c.args.self.now c.requires in
    let same = c.in_ok-try_clone.ensures in
    ap (λ v. rows_at v.items c.loop-node.fronts.items) same
    ∙ c.loop-node.invariant.fronts ∙ take_all c.loop-node.node (fronts c.args.counts.now c.args.self.now) (omega arith)

pub returns-clause-backs : goal.returns-clause-backs
returns-clause-backs c =
    let many = length-by_counts drop c.args.counts.now c.args.self.now c.requires in
    let same = c.in_ok-try_clone-2.ensures in
    ap (λ v. rows_at v.items c.loop-node.backs.items) same
    ∙ c.loop-node.invariant.backs ∙ take_all c.loop-node.node (backs c.args.counts.now c.args.self.now) (omega arith)
