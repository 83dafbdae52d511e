use Rattle.std.specs.Prelude.{if◌then◌else◌}
use Rattle.std.specs.Option.{option_map_or}
use Rattle.std.proofs.Common.{◌∙◌, true, sym, ap}
use Rattle.mk_seen.specs.Names.{are_same}
use Rattle.mk_seen.specs.Nodes.{explicit_of}
use Rattle.mk_seen.proofs.NameLemmas.{recorded_same}
use Rattle.mk_seen.proofs.leaving.is_explicit.Goals as goal
use Rattle.st_records.specs.Parts.{names_known, names_recorded}

pub returns-then-recorded : goal.returns-then-recorded
returns-then-recorded c =
    let graph = c.args.graph.now in
    let n = c.args.node in
    let entry = c.args.entry.now in
    sym (recorded_same entry.explicit)
    ∙ sym (ap (λ b. option_map_or (are_same (if b then names_known entry.explicit else explicit_of graph n)) (names_recorded entry.explicit) true)
    (sym c.requires.recorded ∙ c.if-recorded.true))
