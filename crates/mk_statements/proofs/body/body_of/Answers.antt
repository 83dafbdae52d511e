use Rattle.std.proofs.Common.{◌≡◌, ◌+◌, ◌∷◌, length, sym, ap, ◌∙◌, arith, Some, option_copied}
use Rattle.mk_lines.specs.Lines.{size_left}
use Rattle.mk_statements.specs.Reading.{outside, within, statements_left, stated_at, plain}
use Rattle.mk_statements.specs.Told.{refused}
use Rattle.mk_statements.specs.declared.said.Fault.TheVariants.{MissingEndef}
use Rattle.mk_statements.proofs.ReadingLemmas.{body_more, body_ends, body_none, deeper}
use Rattle.mk_statements.proofs.body.body_of.Goals as goal

pub loop-left-init : goal.loop-left-init
loop-left-init c = record {
  deep = omega arith;
  same = λ line opening. ap (λ ls. statements_left (within line opening 0 ls) c.args.first (Some c.args.bytes.now)) c.new-lines.ensures.items;
}

pub loop-left-preserved : goal.loop-left-preserved
loop-left-preserved c =
    let whole : size_left (option_copied c.loop-left.left) ≡ length c.in-Some.bytes.now + 1 = ap (λ o. size_left (option_copied o)) c.in-Some.is in
    let step = deeper c.loop-left.depth c.in-Inside.now c.in_ok-line.line.joined c.in-Inside.ensures in
    record {
      deep = omega (arith, whole, step, c.in_ok-line.ensures.shorter, c.loop-left.invariant.deep);
      same = λ line opening.
          sym (ap (λ o. statements_left (within line opening c.loop-left.depth c.loop-left.lines.items) c.loop-left.number (option_copied o)) c.in-Some.is
          ∙ body_more c.loop-left.number c.in-Some.bytes.now c.in_ok-line.line c.in_ok-line.next (option_copied c.in_ok-line.after) c.in_ok-line.ensures.line
          line opening c.loop-left.lines.items _ c.loop-left.depth c.in-Inside.now c.in-Inside.ensures c.in_ok-push_line-in-Inside.ensures)
          ∙ c.loop-left.invariant.same line opening;
    }

pub returns-in-Ends-clause-body : goal.returns-in-Ends-clause-body
returns-in-Ends-clause-body c = λ line opening.
    sym (c.loop-left.invariant.same line opening)
    ∙ ap (λ o. statements_left (within line opening c.loop-left.depth c.loop-left.lines.items) c.loop-left.number (option_copied o)) c.in-Some.is
    ∙ body_ends c.loop-left.number c.in-Some.bytes.now c.in_ok-line.line c.in_ok-line.next (option_copied c.in_ok-line.after) c.in_ok-line.ensures.line
    line opening c.loop-left.lines.items c.loop-left.depth c.in-Ends.has_text_behind c.in-Ends.ensures

pub returns-clause-body : goal.returns-clause-body
returns-clause-body c = λ line opening.
    sym (c.loop-left.invariant.same line opening)
    ∙ ap (λ o. statements_left (within line opening c.loop-left.depth c.loop-left.lines.items) c.loop-left.number (option_copied o)) c.in_default.is
    ∙ body_none line opening c.loop-left.lines.items c.loop-left.depth c.loop-left.number
    ∙ ap (λ o. stated_at line (plain (refused MissingEndef)) ∷ statements_left outside c.loop-left.number (option_copied o)) (sym c.in_default.is)
