use Rattle.std.proofs.Common.{List, [], Some, ℕ, Bool, subst, refl, inl, inr}
use Rattle.std.proofs.lemmas.Result.{err_from_is_err_and}
use Rattle.mk_lines.specs.Lines.{joined_lines}
use Rattle.mk_recipe.specs.Report.{mentioned}
use Rattle.mk_recipe.specs.Reading.{Reads}
use Rattle.mk_recipe.proofs.report.hidden_names.Goals as goal

pub returns-in_err-read_lines-clause-fault : goal.returns-in_err-read_lines-clause-fault
returns-in_err-read_lines-clause-fault c =
    let p = err_from_is_err_and c.from_residual.result c.from_residual.ensures.1 in
    rw (p.1, p.2) (inl c.in_err-read_lines.ensures.fault)

pub returns-then-branch-clause-fault : goal.returns-then-branch-clause-fault
returns-then-branch-clause-fault c =
    let all = mentioned c.args.profile c.args.target.now (joined_lines (Some c.args.report.now)) in
    let seen = c.args.seen.now in
    let read = subst (λ (b : Bool). Reads all seen [] c.read_lines.new.seen c.read_lines.new.hidden b) c.if-branch.true
    (subst (λ (h : List (List ℕ)). Reads all seen h c.read_lines.new.seen c.read_lines.new.hidden c.in_ok-read_lines.field-0) c.empty-hidden.ensures c.in_ok-read_lines.ensures.ok) in
    inr (refl, c.read_lines.new.hidden, read)

pub returns-clause-names : goal.returns-clause-names
returns-clause-names c =
    let all = mentioned c.args.profile c.args.target.now (joined_lines (Some c.args.report.now)) in
    let seen = c.args.seen.now in
    subst (λ (b : Bool). Reads all seen [] c.read_lines.new.seen c.read_lines.new.hidden b) c.if-branch.false
    (subst (λ (h : List (List ℕ)). Reads all seen h c.read_lines.new.seen c.read_lines.new.hidden c.in_ok-read_lines.field-0) c.empty-hidden.ensures c.in_ok-read_lines.ensures.ok)
