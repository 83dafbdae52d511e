use Rattle.std.proofs.Common.{◌≡◌, ◌&&◌, ◌||◌, false, Some, None, cond, sym, ap, ◌∙◌}
use Rattle.std.specs.FinMap as map
use Rattle.std.specs.Option.{option_copied}
use Rattle.std.specs.Prelude.{is_none}
use Rattle.mk_lines.specs.Text.{is_empty}
use Rattle.mk_rule_lines.specs.Explicit.{numbers_of}
use Rattle.mk_nodes.specs.Prerequisites.{default_of, is_unfinished}
use Rattle.mk_sources.proofs.LeftLemmas.{left_is, none_left}
use Rattle.mk_sources.proofs.rules.Rules.left_recipe.Goals as goal

pub returns-in_default : goal.returns-in_default
returns-in_default c = λ inputs lines_are looks_are entry_is.
    let is = c.in_default.is in
    let none : c.args.self.now.default ≡ None = cc in
    none_left inputs c.args.name.now (ap default_of lines_are ∙ sym c.args.self.now.left_over ∙ none)

pub returns-then-not-is_left : goal.returns-then-not-is_left
returns-then-not-is_left c = λ inputs lines_are looks_are entry_is.
    let lines = c.args.self.now.lines.now in
    let name = c.args.name.now in
    let entry = map.get c.args.self.now.state.now name in
    let told = c.is_left.ensures
    ∙ ap (λ ns. is_empty ns && (is_none c.args.stamp.now || is_unfinished (option_copied c.entry.result))) c.requires
    ∙ ap (λ e. is_empty (numbers_of lines name) && (is_none c.args.stamp.now || is_unfinished e)) c.entry.ensures in
    sym (ap (λ b. cond b (default_of inputs.lines) None) (sym (left_is inputs lines name c.args.stamp.now entry lines_are looks_are entry_is) ∙ sym told ∙ c.if-not-is_left.true))

pub returns : goal.returns
returns c = λ inputs lines_are looks_are entry_is.
    let lines = c.args.self.now.lines.now in
    let name = c.args.name.now in
    let entry = map.get c.args.self.now.state.now name in
    let told = c.is_left.ensures
    ∙ ap (λ ns. is_empty ns && (is_none c.args.stamp.now || is_unfinished (option_copied c.entry.result))) c.requires
    ∙ ap (λ e. is_empty (numbers_of lines name) && (is_none c.args.stamp.now || is_unfinished e)) c.entry.ensures in
    let is = c.in-Some.is in
    let line : Some c.in-Some.line ≡ c.args.self.now.default = cc in
    line ∙ c.args.self.now.left_over ∙ ap default_of (sym lines_are)
    ∙ sym (ap (λ b. cond b (default_of inputs.lines) None) (sym (left_is inputs lines name c.args.stamp.now entry lines_are looks_are entry_is) ∙ sym told ∙ c.if-not-is_left.false))
