use Rattle.std.proofs.Common.{◌≡◌, ◌∙◌, ℕ, List, map, Some, sym, ap, subst}
use Rattle.mk_rule_lines.specs.Explicit.{names_in}
use Rattle.mk_nodes.specs.Prerequisites.{distinct}
use Rattle.mk_seen.specs.Marks.{hard_marked}
use Rattle.mk_plan.specs.ExplicitWords.{once_of}
use Rattle.mk_plan.specs.Nodes.{AreNewer}
use Rattle.mk_plan.specs.PartTests.{newer_among}
use Rattle.mk_plan.specs.Parts.{language_of}
use Rattle.mk_plan.specs.PartWords.{hard_among, hard_in}
use Rattle.mk_plan.specs.Words.{written_of}
use Rattle.mk_plan.proofs.PartLemmas.{among_newer, own_value, own_in_wide}
use Rattle.mk_plan.proofs.part_words.part_words.Goals as goal

pub returns : goal.returns
returns c =
    let graph = c.args.graph.now in
    let marks = c.args.marks.now in
    let n = c.args.node in
    let l = c.args.line.now in
    let profile = language_of graph in
    let names : List (List ℕ) = distinct (names_in l) in
    let newer : List (List ℕ) = map (λ word. word.now) c.in_ok-newer.newer.items in
    let rows : hard_in graph n l ≡ hard_among graph n names = own_value (hard_among graph n names) (hard_marked graph n) profile l c.requires.part in
    record {
      newer = subst (λ ps. AreNewer graph marks n ps newer) (sym rows)
          (among_newer graph marks n names newer (c.in_ok-newer.ensures ∙ ap (newer_among graph marks n) c.requires.once));
      once = ap Some (c.in_ok-once.ensures ∙ c.requires.once) ∙ own_in_wide names (once_of graph n) profile l c.requires.part;
      repeated = ap Some (c.in_ok-repeated.ensures ∙ c.requires.written) ∙ own_in_wide (names_in l) (written_of graph n) profile l c.requires.part;
      order_only = c.in_ok-order_only.ensures;
    }
