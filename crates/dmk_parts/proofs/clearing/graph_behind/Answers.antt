use Rattle.std.proofs.Common.{◌∙◌, true≢false, refl, sym, subst}
use Rattle.dmk_parts.specs.Behind.{AreMarkedBehind}
use Rattle.dmk_parts.proofs.BehindLemmas.{none_behind, nodes_behind}
use Rattle.dmk_parts.proofs.clearing.graph_behind.Goals as goal

pub returns-then-is_nothing-clause-judged : goal.returns-then-is_nothing-clause-judged
returns-then-is_nothing-clause-judged c = λ passes. none_behind c.args.before.now c.args.counting c.args.graph (c.is_nothing.ensures.0 c.if-is_nothing.true)

pub returns-clause-judged : goal.returns-clause-judged
returns-clause-judged c = λ passes.
    let before = c.args.before.now in
    let (causes, are, marked) = subst (AreMarkedBehind before c.args.counting c.args.graph) (sym c.deref.ensures.value) (c.in_ok-marks.ensures.marks passes) in
    record {
      behind = record {
        causes = causes;
        are_causes = are;
        count = c.clear_recipes.ensures.count;
        nodes = nodes_behind before c.args.graph causes c.deref.result.now c.clear_recipes.new.nodes.items marked c.in_ok-clear_recipes.ensures.nodes;
        alike = record {
          names = refl;
          goals = refl;
          unmade = refl;
          hard = refl;
          required = refl;
          soft = refl;
          order = refl;
          soft_dropped = refl;
          lines = refl;
          targets = refl;
          suffixes = refl;
          settings = refl;
          macros = refl;
          state = refl;
        };
      };
      first = λ nothing. absurd (true≢false (sym (c.is_nothing.ensures.1 nothing) ∙ c.if-is_nothing.false));
    }
