use Rattle.std.proofs.Common.{◌∙◌, List, ℕ, [], ◌∷◌, ◌++◌, sym, ap, subst}
use Rattle.std.specs.List.{All}
use Rattle.std.proofs.lemmas.List.Elements.{All-push}
use Rattle.mk_names.specs.Names.{name_at}
use Rattle.dmk_parts.specs.Tried.{IsBuilt}
use Rattle.dmk_parts.proofs.made.filed_in.Goals.{then-is_built_with_file+in_ok-push, else-is_built_with_file}
use Rattle.dmk_parts.proofs.made.filed_in.Goals as goal

pub loop-node-preserved : goal.loop-node-preserved
loop-node-preserved c =
    let graph = c.args.graph.now in
    let ends = c.args.ends.now in
    let n = c.loop-node.node in
    let names = c.loop-node.filed in
    elim c.if-is_built_with_file.branch [
      | then-is_built_with_file+in_ok-push w ↦
          subst (All (IsBuilt graph ends)) (sym (w.filed-is ∙ w.in_ok-push.ensures.ok ∙ ap (λ (one : List ℕ). names ++ one ∷ []) w.name_of.ensures))
          (All-push (IsBuilt graph ends) names (name_at graph.names n) c.loop-node.invariant (c.is_built_with_file.ensures w.if-is_built_with_file.true))
      | else-is_built_with_file w ↦ subst (All (IsBuilt graph ends)) (sym w.filed-is) c.loop-node.invariant
    ]
