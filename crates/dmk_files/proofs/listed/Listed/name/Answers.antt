use Rattle.std.proofs.Common.{◌≡◌, ◌<◌, ◌∷◌, length, get_or, ap, rules, arith}
use Rattle.byte_strings.proofs.PieceLemmas.{length-pieces}
use Rattle.mk_names.proofs.TextLemmas.{row_at}
use Rattle.dmk_files.proofs.listed.Listed.name.Goals as goal

pub start_of-start-requires : goal.start_of-start-requires
start_of-start-requires c =
    let e = length-pieces c.self.inside.bytes.items 0 c.self.inside.ends.items in
    let v = ap length c.self.view_is in
    rw c.deref.ensures.value (omega (arith, c.requires, e, v))

pub index-requires : goal.index-requires
index-requires c =
    let e = length-pieces c.self.inside.bytes.items 0 c.self.inside.ends.items in
    let v = ap length c.self.view_is in
    let within : c.args.index < length c.self.inside.ends.items = omega (arith, c.requires, e, v) in
    search (rules, within)

pub slice_bounds-result-count : goal.slice_bounds-result-count
slice_bounds-result-count c =
    let e = length-pieces c.self.inside.bytes.items 0 c.self.inside.ends.items in
    let v = ap length c.self.view_is in
    let start : c.start_of-start.result ≡ get_or (0 ∷ c.self.inside.ends.items) c.args.index 0 = rw c.deref.ensures.value at c.start_of-start.ensures in
    (row_at c.self.inside.bytes.items c.self.inside.ends.items c.args.index _ _ c.self.invariant (omega (arith, c.requires, e, v)) start c.index.ensures).0

pub slice_bounds-result-start : goal.slice_bounds-result-start
slice_bounds-result-start c =
    let e = length-pieces c.self.inside.bytes.items 0 c.self.inside.ends.items in
    let v = ap length c.self.view_is in
    let start : c.start_of-start.result ≡ get_or (0 ∷ c.self.inside.ends.items) c.args.index 0 = rw c.deref.ensures.value at c.start_of-start.ensures in
    let found = row_at c.self.inside.bytes.items c.self.inside.ends.items c.args.index c.start_of-start.result c.index.result.now c.self.invariant (omega (arith, c.requires, e, v)) start c.index.ensures in
    search (rules, found.0)

pub slice_bounds-result-end : goal.slice_bounds-result-end
slice_bounds-result-end c =
    let e = length-pieces c.self.inside.bytes.items 0 c.self.inside.ends.items in
    let v = ap length c.self.view_is in
    let start : c.start_of-start.result ≡ get_or (0 ∷ c.self.inside.ends.items) c.args.index 0 = rw c.deref.ensures.value at c.start_of-start.ensures in
    let found = row_at c.self.inside.bytes.items c.self.inside.ends.items c.args.index c.start_of-start.result c.index.result.now c.self.invariant (omega (arith, c.requires, e, v)) start c.index.ensures in
    search (rules, found.0, found.1)

pub returns : goal.returns
returns c =
    let e = length-pieces c.self.inside.bytes.items 0 c.self.inside.ends.items in
    let v = ap length c.self.view_is in
    let start : c.start_of-start.result ≡ get_or (0 ∷ c.self.inside.ends.items) c.args.index 0 = rw c.deref.ensures.value at c.start_of-start.ensures in
    let found = row_at c.self.inside.bytes.items c.self.inside.ends.items c.args.index c.start_of-start.result c.index.result.now c.self.invariant (omega (arith, c.requires, e, v)) start c.index.ensures in
    rw (c.deref-2.ensures.value, ← c.self.view_is) found.2
