use Rattle.std.proofs.Common.{map, refl, ap, ◌∙◌}
use Rattle.mk_seen.specs.Seen.{shown}
use Rattle.mk_plan.proofs.PassingLemmas.{judged_as}
use Rattle.mk_plan.proofs.target.judge_node.Goals as goal

pub returns : goal.returns
returns c =
    judged_as c.args.keeping c.args.graph.now c.args.marks.now c.args.node c.args.lines.now _ c.why_of.result c.why_of.ensures
    (record {
      commands = c.in_ok-commands.ensures;
      explicit = c.in_ok-explicit.ensures;
      stamp = c.made_of.ensures;
      prerequisites = ap (map shown) c.deref.ensures.value ∙ c.in_ok-seen.ensures.prerequisites;
      ordered = refl;
      source = c.in_ok-seen.ensures.source;
      files = c.deref-2.ensures.value ∙ c.in_ok-seen.ensures.files;
    })
