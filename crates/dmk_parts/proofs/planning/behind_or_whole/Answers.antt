use Rattle.std.proofs.Common.{◌≡◌, Option, None, ap, rules}
use Rattle.std.specs.Prelude.{unwrap_or}
use Rattle.dmk_parts.specs.Behind.{none_tried}
use Rattle.dmk_parts.specs.declared.tried.Tried.{Tried}
use Rattle.dmk_parts.proofs.BehindLemmas.{none_behind}
use Rattle.dmk_parts.proofs.planning.behind_or_whole.Goals as goal

pub returns-clause-judged : goal.returns-clause-judged
returns-clause-judged g c = λ passes.
    let none : c.args.behind ≡ None = search rules in
    none_behind (unwrap_or c.args.behind none_tried) c.args.counting c.args.graph (ap (λ (b : Option Tried). unwrap_or b none_tried) none)
