use Rattle.std.proofs.Common.{◌≡◌, ◌++◌, ◌∙◌, List, ℕ, sym, ap, subst}
use Rattle.std.specs.Prelude.{option_map, unwrap_or}
use Rattle.std.specs.Global.{Box}
use Rattle.mk_names.specs.Names.{all_added}
use Rattle.mk_rule_lines.specs.Explicit.{explicit_of, order_only_of}
use Rattle.mk_rule_lines.specs.declared.rule_line.RuleLine.{RuleLine}
use Rattle.mk_nodes.specs.declared.group.Group.{Group}
use Rattle.mk_nodes.specs.Prerequisites.{made_from, behind_bar_of, distinct}
use Rattle.mk_sources.specs.declared.known.Given.{Given}
use Rattle.mk_sources.specs.Seen.{IsGiven}
use Rattle.mk_sources.proofs.seen.given_with.Goals as goal

pub returns : goal.returns
returns c = λ inputs name lines numbers group.
    let rules = c.args.rules.now in
    let source = c.args.source in
    let explicit = explicit_of rules.lines.now name in
    let hard = distinct (made_from source ++ explicit) in
    let rare = c.in_ok-rare.ensures in
    let listed = option_map (λ names. names.value) c.in_ok-required.required in
    let order_only = c.in_ok-order_only.ensures name numbers in
    let needs : unwrap_or listed hard ≡ all_added hard (behind_bar_of source ++ order_only_of rules.lines.now name)
    = subst (λ (m : List (List ℕ)). unwrap_or listed (distinct (m ++ explicit)) ≡ all_added (distinct (m ++ explicit)) c.in_ok-order_only.order_only)
    c.in_ok-made.ensures (c.in_ok-required.ensures name numbers)
    ∙ ap (all_added hard) order_only in
    subst (λ (v : Given). IsGiven inputs name source v.made v.order_only v.rare) (sym c.in_ok-new.ensures.ok) (record {
      made_are = c.in_ok-made.ensures;
      order_only_are = order_only ∙ ap (λ (ls : List RuleLine). behind_bar_of source ++ order_only_of ls name) (sym lines);
      stem = rare.stem;
      implied = rare.implied;
      group = ap (λ b. option_map (λ (g : Box Group). g.value) b) rare.group ∙ group;
      required =
          ap (λ b. unwrap_or (option_map (λ names. names.value) b) (distinct (made_from source ++ explicit_of inputs.lines name))) rare.required
          ∙ subst (λ (ls : List RuleLine). unwrap_or listed (distinct (made_from source ++ explicit_of ls name))
          ≡ all_added (distinct (made_from source ++ explicit_of ls name)) (behind_bar_of source ++ order_only_of ls name)) (sym lines) needs;
    })
