use Rattle.std.proofs.Common.{◌≡◌, ◌∷◌, option_copied, sym, ap, subst, ◌∙◌}
use Rattle.mk_profile.specs.Profile.{is_wide}
use Rattle.mk_lines.specs.Lines.{logical_lines}
use Rattle.mk_reader.specs.Statements.{form_below, Comes}
use Rattle.mk_lines.proofs.LinesLemmas.{no_lines_left}
use Rattle.mk_reader.proofs.StatementLemmas.{told_said, comes_from_start, comes_at_end, taken_goes, taken_ends}
use Rattle.mk_reader.proofs.statements.statements_in.Goals as goal

pub loop-left-init : goal.loop-left-init
loop-left-init c = comes_from_start c.args.profile c.args.file.now c.args.text.now c.in_ok-gathered.gathered.statements.items c.in_ok-gathered.gathered.is_open c.in_ok-gathered.ensures.statements c.in_ok-gathered.ensures.is_open

pub loop-left-preserved : goal.loop-left-preserved
loop-left-preserved c =
    let line = c.in_ok-line.line in
    let more = logical_lines (is_wide c.args.profile) c.in_ok-line.next_number (option_copied c.in_ok-line.after) in
    let gathered = c.loop-left.gathered in
    let at : logical_lines (is_wide c.args.profile) c.loop-left.number (option_copied c.loop-left.left) ≡ line ∷ more = ap (λ left. logical_lines (is_wide c.args.profile) c.loop-left.number (option_copied left)) c.in-Some.is ∙ c.in_ok-line.ensures.line in
    λ whole comes. c.loop-left.invariant whole
    (subst (λ lines. Comes c.args.profile c.args.file.now gathered.statements.items gathered.is_open lines whole) (sym at)
    (taken_goes c.args.profile c.args.file.now line more (form_below c.args.profile c.args.file.now gathered.is_open line) gathered.statements.items c.take_line.new.self.statements.items gathered.is_open c.take_line.new.self.is_open c.in_ok-is_refused.is_refused
    (told_said c.args.profile c.args.file.now gathered.is_open line) c.in_ok-is_refused.ensures (cc) whole comes))

pub returns-then-is_refused : goal.returns-then-is_refused
returns-then-is_refused c =
    let line = c.in_ok-line.line in
    let more = logical_lines (is_wide c.args.profile) c.in_ok-line.next_number (option_copied c.in_ok-line.after) in
    let gathered = c.loop-left.gathered in
    let at : logical_lines (is_wide c.args.profile) c.loop-left.number (option_copied c.loop-left.left) ≡ line ∷ more = ap (λ left. logical_lines (is_wide c.args.profile) c.loop-left.number (option_copied left)) c.in-Some.is ∙ c.in_ok-line.ensures.line in
    c.loop-left.invariant c.take_line.new.self.statements.items
    (subst (λ lines. Comes c.args.profile c.args.file.now gathered.statements.items gathered.is_open lines c.take_line.new.self.statements.items) (sym at)
    (taken_ends c.args.profile c.args.file.now line more (form_below c.args.profile c.args.file.now gathered.is_open line) gathered.statements.items c.take_line.new.self.statements.items gathered.is_open c.take_line.new.self.is_open c.in_ok-is_refused.is_refused
    (told_said c.args.profile c.args.file.now gathered.is_open line) c.in_ok-is_refused.ensures (cc)))

pub returns : goal.returns
returns c =
    c.loop-left.invariant c.loop-left.gathered.statements.items
    (subst (λ lines. Comes c.args.profile c.args.file.now c.loop-left.gathered.statements.items c.loop-left.gathered.is_open lines c.loop-left.gathered.statements.items) (sym (no_lines_left (is_wide c.args.profile) c.loop-left.number c.loop-left.left c.in_default.is))
    (comes_at_end c.args.profile c.args.file.now c.loop-left.gathered.statements.items c.loop-left.gathered.is_open))
