use Rattle.std.proofs.Common.{◌<◌, ℕ, List, Option, length, ap, subst, refl}
use Rattle.std.specs.FinMap as map
use Rattle.mk_graph.specs.Numbering.{IsNumbering}
use Rattle.mk_nodes.specs.declared.graph.Node.{Node}
use Rattle.mk_rules.specs.Found.{AreFound, IsFindingFault}
use Rattle.mk_edges.specs.Known.{IsKnown}
use Rattle.mk_rules.specs.Allowed.{IsAllowed}
use Rattle.mk_sources.specs.Asked.{IsLookUpFault}
use Rattle.mk_nodes.specs.Prerequisites.{Inputs, inputs_of, prerequisites_of}
use Rattle.mk_sources.specs.declared.rules.Rules.{Rules}
use Rattle.mk_rules.proofs.FoundLemmas.{described_at, finding_fault, too_many, of_source}
use Rattle.mk_nodes.specs.declared.file_look.FileLook.{FileLook}
use Rattle.mk_rules.proofs.building.found_names.Goals as goal

pub returns-in-Ok-clause-found : goal.returns-in-Ok-clause-found
returns-in-Ok-clause-found g c = λ looks now.
    let ends = c.number.new.source.rules in
    let inputs = inputs_of ends.lines.now (map.get ends.state.now) looks in
    let of = prerequisites_of inputs in
    let e = c.in-Ok.ensures in
    subst (λ (i : Inputs). AreFound i c.args.goals.now c.in-Ok.numbered) (ap (λ (r : Rules). inputs_of r.lines.now (map.get r.state.now) looks) (e.follows).0)
    (record {
      names_are = e.names of (record { looks = looks; now = now; is = refl });
      rows_are = e.rows of (record { looks = looks; now = now; is = refl });
      goals_are = e.goals;
      known = described_at (λ name (known : Node). (any : List ℕ → Option FileLook) → g.T.Tree.allows c.number.new.source.tree.now any → IsKnown (inputs_of ends.lines.now (map.get ends.state.now) any) name known)
          (IsKnown inputs) _ _ (λ name node is. is looks now) e.described;
    })

pub returns-in-Err-TooMany-clause-fault : goal.returns-in-Err-TooMany-clause-fault
returns-in-Err-TooMany-clause-fault g c = λ looks now.
    let ends = c.number.new.source.rules in
    let inputs = inputs_of ends.lines.now (map.get ends.state.now) looks in
    let e = c.in-Err-TooMany.ensures in
    subst (λ (i : Inputs). (names : List (List ℕ)) → IsNumbering (prerequisites_of i) c.args.goals.now names → c.args.limit < length names)
    (ap (λ (r : Rules). inputs_of r.lines.now (map.get r.state.now) looks) (e.follows).0)
    (too_many (IsAllowed (g.T.Tree.allows c.number.new.source.tree.now) ends.lines.now (map.get ends.state.now)) _ _ _ _ c.in-Err-TooMany.field-0-is e.fault (prerequisites_of inputs) (record { looks = looks; now = now; is = refl }))

pub returns-in-Err-Source-clause-fault : goal.returns-in-Err-Source-clause-fault
returns-in-Err-Source-clause-fault g c = λ looks now.
    let ends = c.number.new.source.rules in
    let inputs = inputs_of ends.lines.now (map.get ends.state.now) looks in
    let e = c.in-Err-Source.ensures in
    let meets = of_source (IsAllowed (g.T.Tree.allows c.number.new.source.tree.now) ends.lines.now (map.get ends.state.now))
    (λ name f. IsLookUpFault ends.targets.now (g.T.Tree.allows c.number.new.source.tree.now) (g.T.Tree.refuses c.number.new.source.tree.now) ends.forms.now ends.steps ends.lines.now (map.get ends.state.now) name f)
    c.args.goals.now c.args.limit _ c.in-Err-Source.cause c.in-Err-Source.field-0-is e.fault in
    subst (λ (i : Inputs). IsFindingFault i (g.T.Tree.refuses c.number.new.source.tree.now) c.args.goals.now c.args.limit c.in-Err-Source.cause)
    (ap (λ (r : Rules). inputs_of r.lines.now (map.get r.state.now) looks) (e.follows).0)
    (finding_fault ends.lines.now ends.targets.now ends.named ends.forms.now ends.all_forms ends.steps ends.few (map.get ends.state.now) (g.T.Tree.allows c.number.new.source.tree.now) looks now
    (g.T.Tree.refuses c.number.new.source.tree.now) c.args.goals.now c.args.limit meets.0 c.in-Err-Source.cause meets.1
    (λ names are. meets.2 (prerequisites_of inputs) (record { looks = looks; now = now; is = refl }) names are))

pub returns-in-Ok-clause-looks : goal.returns-in-Ok-clause-looks
returns-in-Ok-clause-looks g c = (c.in-Ok.ensures.follows).2

pub returns-in-Err-TooMany-clause-looks : goal.returns-in-Err-TooMany-clause-looks
returns-in-Err-TooMany-clause-looks g c = (c.in-Err-TooMany.ensures.follows).2

pub returns-in-Err-Source-clause-looks : goal.returns-in-Err-Source-clause-looks
returns-in-Err-Source-clause-looks g c = (c.in-Err-Source.ensures.follows).2
