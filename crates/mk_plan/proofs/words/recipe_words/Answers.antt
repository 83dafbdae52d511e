use Rattle.std.proofs.Common.{◌≡◌, ◌∙◌, ℕ, List, map, sym, ap, subst}
use Rattle.mk_rule_lines.specs.Explicit.{names_in}
use Rattle.mk_nodes.specs.Prerequisites.{distinct}
use Rattle.mk_seen.specs.Marks.{hard_marked}
use Rattle.mk_plan.specs.ExplicitWords.{once_of}
use Rattle.mk_plan.specs.Nodes.{AreNewer}
use Rattle.mk_plan.specs.Parts.{language_of}
use Rattle.mk_plan.specs.PartWords.{hard_among, hard_in, once_in, written_in}
use Rattle.mk_plan.specs.Words.{in_wide, written_of}
use Rattle.mk_plan.proofs.NodeLemmas.{are_newer}
use Rattle.mk_plan.proofs.PartLemmas.{whole_value}
use Rattle.mk_plan.proofs.words.recipe_words.Goals as goal

pub returns : goal.returns
returns c =
    let graph = c.args.graph.now in
    let marks = c.args.marks.now in
    let n = c.args.node in
    let l = c.args.line.now in
    let profile = language_of graph in
    let names : List (List ℕ) = distinct (names_in l) in
    let newer : List (List ℕ) = map (λ word. word.now) c.in_ok-newer.newer.items in
    let rows : hard_in graph n l ≡ hard_marked graph n = whole_value (hard_among graph n names) (hard_marked graph n) profile l c.requires.alone in
    let once : once_in graph n l ≡ once_of graph n = whole_value names (once_of graph n) profile l c.requires.alone in
    let written : written_in graph n l ≡ written_of graph n = whole_value (names_in l) (written_of graph n) profile l c.requires.alone in
    record {
      newer = subst (λ ps. AreNewer graph marks n ps newer) (sym rows) (are_newer graph marks n newer c.in_ok-newer.ensures);
      once = c.in_ok-once.ensures ∙ ap (in_wide profile) (sym once);
      repeated = c.in_ok-repeated.ensures ∙ ap (in_wide profile) (sym written);
      order_only = c.in_ok-order_only.ensures;
    }
