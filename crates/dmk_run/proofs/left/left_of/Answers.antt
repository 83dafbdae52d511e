use Rattle.std.specs.List.{All}
use Rattle.std.proofs.lemmas.List.Elements.{All-map}
use Rattle.dmk_parts.specs.Tried.{IsBuilt, IsBuiltWithoutFile, AreFailed, AreTried}
use Rattle.dmk_parts.specs.declared.made.Made.{Made}
use Rattle.dmk_parts.proofs.BehindLemmas.{three_ok}
use Rattle.dmk_run.proofs.left.left_of.Goals as goal

pub returns : goal.returns
returns c =
    let graph = c.args.graph.now in
    let made = c.in_ok-made.made in
    let filed = c.in_ok-made.filed in
    three_ok c.args.found.now (λ r. All (λ (m : Made). IsBuiltWithoutFile graph r.ends.items m.name) made.items) (λ r. All (IsBuilt graph r.ends.items) filed)
    (λ r. AreFailed graph r.ends.items c.in_ok-failed.failed) (λ r. AreTried graph r.ends.items _)
    (λ r without with_file failed. record {
      are_built = All-map (IsBuiltWithoutFile graph r.ends.items) (λ (m : Made). m.name) made.items without;
      are_filed = with_file;
      are_failed = failed;
    })
    c.in_ok-made.ensures.without c.in_ok-made.ensures.filed c.in_ok-failed.ensures
