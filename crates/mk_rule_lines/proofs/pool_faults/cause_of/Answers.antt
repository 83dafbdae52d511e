use Rattle.std.proofs.Common.{◌≡◌, ◌∙◌, ℕ, List, true, not, ap, sym}
use Rattle.std.specs.Prelude.{is_some}
use Rattle.std.specs.List.{list_any}
use Rattle.mk_names.specs.Names.{has_name}
use Rattle.mk_rule_lines.specs.Pools.{members_in, most_said}
use Rattle.mk_rule_lines.specs.Rules.{has}
use Rattle.mk_rule_lines.proofs.PoolLemmas.{named_above, no_cause}
use Rattle.mk_rule_lines.proofs.pool_faults.cause_of.Goals as goal

pub returns-in_ok-from_slice-in-Some-member_among-clause-some :
    goal.returns-in_ok-from_slice-in-Some-member_among-clause-some
returns-in_ok-from_slice-in-Some-member_among-clause-some c = λ above are.
    let is = c.in-Some-member_among.ensures.some in
    let same = c.in_ok-from_slice-in-Some-member_among.ensures.ok in
    let name : List ℕ = c.in_ok-from_slice-in-Some-member_among.field-0 in (
      (c.requires, ap (λ (n : List ℕ). has n (members_in c.args.line.now.prerequisites)) same ∙ is.0),
      named_above above name (ap (λ (ns : List (List ℕ)). has_name ns name) (sym are) ∙ ap (has_name c.args.seen.now) same ∙ is.1),
    )

pub returns-in-None-clause-none : goal.returns-in-None-clause-none
returns-in-None-clause-none c = λ above are.
    let line = c.args.line.now in
    let said : is_some (most_said line.prerequisites) ≡ true = ap is_some (sym c.most_said.ensures) ∙ c.is_none.ensures ∙ ap not c.if-is_none.false in
    no_cause above line said c.in_default.ensures.none
    (ap (λ (ns : List (List ℕ)). list_any (has_name ns) (members_in line.prerequisites)) (sym are) ∙ c.in-None.ensures.none)
