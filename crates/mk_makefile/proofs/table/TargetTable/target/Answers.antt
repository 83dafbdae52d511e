use Rattle.std.proofs.Common.{rules, arith, ◌≡◌, ◌<◌, List, Some, length, map, refl, sym, ap, ◌∙◌}
use Rattle.std.specs.Prelude.{slice_get, option_map}
use Rattle.std.proofs.lemmas.Option.{slice_get_read, slice_get-map}
use Rattle.mk_makefile.specs.Named.{Named, nothing_named, named_in, shown_target}
use Rattle.mk_makefile.specs.Table.{named_at}
use Rattle.mk_makefile.proofs.NumberedLemmas.{named_at_number, named_nowhere}
use Rattle.mk_makefile.proofs.table.TargetTable.target.Goals as goal

pub returns-in_err-number : goal.returns-in_err-number
returns-in_err-number c =
    let none = named_nowhere c.self.inside.names (map shown_target c.self.inside.targets.items) c.args.name.now (sym c.in_err-number.ensures.none) in
    let here : named_at c.args.self.now c.args.name.now ≡ nothing_named = rw (← c.self.view_is) none in
    search (rules, here)

pub returns : goal.returns
returns c =
    let names = c.self.inside.names in
    let targets = c.self.inside.targets.items in
    let those : List Named = map shown_target targets in
    let target = c.index.result.now in
    let number = c.in_ok-number.number in
    let numbered = c.in_ok-number.ensures.number in
    let within : number < length targets = omega (arith, numbered.0, c.self.invariant.1) in
    let read : slice_get those number ≡ Some (shown_target target) =
    slice_get-map shown_target targets number ∙ ap (option_map shown_target) (slice_get_read targets (length targets) number target refl within c.index.ensures) in
    let found : named_in names those c.args.name.now ≡ shown_target target =
    ap (named_in names those) (sym numbered.1) ∙ named_at_number names those number (shown_target target) c.self.invariant.0 numbered.0 read in
    rw (← c.self.view_is) found
