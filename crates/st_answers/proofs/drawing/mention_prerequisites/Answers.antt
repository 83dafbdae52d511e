use Rattle.std.proofs.Common.{◌∙◌, ◌+◌, ap, drop, length, subst, sym, arith, ◌<◌}
use Rattle.std.specs.List.{flat_map}
use Rattle.std.specs.FinMap as map
use Rattle.std.specs.Option.{option_copied}
use Rattle.mk_names.specs.Names.{all_added}
use Rattle.mk_names.proofs.NameLemmas.{Begins, begins_all_added, begins_through}
use Rattle.st_answers.specs.Graph.{prerequisites_by, prerequisites_of}
use Rattle.st_answers.proofs.ReachedLemmas.{mentioned_more}
use Rattle.st_answers.proofs.drawing.mention_prerequisites.Goals as goal

pub loop-number-preserved : goal.loop-number-preserved
loop-number-preserved c =
    let first = c.args.names.now in
    let names = c.loop-number.names in
    let number = c.loop-number.number in
    let of = prerequisites_of c.args.state.now c.args.extent.hidden c.args.extent.source in
    let found = prerequisites_by c.args.extent.hidden c.args.extent.source (option_copied c.get-known.result) in
    let within : number < length first = omega arith in
    record {
      begins =
          begins_through first names c.mention_known.new.names c.loop-number.invariant.begins
          (subst (Begins names) (sym c.in_ok-mention_known.ensures) (begins_all_added names found));
      rest =
          ap (λ l. all_added l (flat_map of (drop (number + 1) first))) c.in_ok-mention_known.ensures
          ∙ mentioned_more of first names _ found number c.loop-number.invariant.begins within
          (ap (prerequisites_by c.args.extent.hidden c.args.extent.source) (c.get-known.ensures ∙ ap (map.get c.args.state.now) c.name.ensures))
          c.loop-number.invariant.rest;
    }
