use Rattle.std.proofs.Common.{arith, length-set, length-append, ◌≡◌, ◌<◌, ◌+◌, ◌∷◌, ◌++◌, ◌&&◌, [], List, ℕ, Bool, true, false, Some, length, map, set, get_or, refl, sym, ap, subst, ◌∙◌}
use Rattle.std.specs.Prelude.{IfOk, is_some, option_map, slice_get}
use Rattle.std.specs.List.{IsDistinct}
use Rattle.std.specs.Str.{bytes_eq}
use Rattle.std.proofs.lemmas.List.{map-append, map-set, length-map}
use Rattle.std.proofs.lemmas.Option.{slice_get_read, slice_get-map}
use Rattle.mk_names.specs.Names.{name_at, added}
use Rattle.mk_names.proofs.NameLemmas.{distinct_all_added}
use Rattle.mk_makefile.specs.Named.{Named, nothing_named, named_in, shown_target}
use Rattle.mk_makefile.specs.Table.{named_at, with_target}
use Rattle.mk_makefile.specs.declared.table.Target.{Target}
use Rattle.mk_makefile.proofs.NumberedLemmas.{named_at_number, named_nowhere, known_number, fresh_number, changed-known, changed-fresh}
use Rattle.mk_rule_lines.proofs.ResultLemmas.{on_ok}
use Rattle.mk_makefile.proofs.table.TargetTable.add.Goals as goal

-- what stands at the number of a name that was there
known_target : (names new : List (List ℕ)) (targets room : List Target) (name : List ℕ) (k : ℕ) (t : Target) → IsDistinct bytes_eq names → length names ≡ length targets
    → room ≡ targets → new ≡ added names name → name_at new k ≡ name → k < length room → t ≡ get_or room k t → named_in names (map shown_target targets) name ≡ shown_target t
known_target names new targets room name k t d long same is at below read =
    let within : k < length targets = let l : length room ≡ length targets = ap length same in omega arith in
    let known = known_number names new name k is at (omega arith) in
    let here : t ≡ get_or targets k t = read ∙ ap (λ (l : List Target). get_or l k t) same in
    let stands : slice_get (map shown_target targets) k ≡ Some (shown_target t) =
    slice_get-map shown_target targets k ∙ ap (option_map shown_target) (slice_get_read targets (length targets) k t refl within here) in
    ap (named_in names (map shown_target targets)) (sym known.1) ∙ named_at_number names (map shown_target targets) k (shown_target t) d (omega arith) stands

pub invariant_of-self-then-place-len : goal.invariant_of-self-then-place-len
invariant_of-self-then-place-len c =
    let names = c.self.inside.names in
    let numbered = c.in_ok-number.ensures.ok in
    let room : length c.reserve.new.self.items ≡ length c.self.inside.targets.items = ap length c.reserve.ensures.items in
    let known = known_number names c.numbered.new.self c.args.name.now c.in_ok-number.number numbered.0 numbered.2
    (omega (arith, c.if-place-len.true, c.len.ensures, room, c.self.invariant.1)) in (
      subst (IsDistinct bytes_eq) (sym known.0) c.self.invariant.0,
      ap length known.0 ∙ c.self.invariant.1 ∙ sym room ∙ sym (length-set c.reserve.new.self.items c.in_ok-number.number c.add.new.self),
    )

pub returns-then-place-len-clause-second : goal.returns-then-place-len-clause-second
returns-then-place-len-clause-second c =
    let numbered = c.in_ok-number.ensures.ok in
    let found : named_at c.args.self.now c.args.name.now ≡ shown_target c.index_mut.result.now =
    rw (← c.self.view_is) (known_target c.self.inside.names c.numbered.new.self c.self.inside.targets.items c.reserve.new.self.items c.args.name.now c.in_ok-number.number c.index_mut.result.now
    c.self.invariant.0 c.self.invariant.1 c.reserve.ensures.items numbered.0 numbered.2 (omega (arith, c.if-place-len.true, c.len.ensures)) c.index_mut.ensures.value) in
    subst (λ (t : Named). IfOk c.add.result (λ second. second ≡ (c.args.has_recipe && is_some t.recipe))) (sym found) c.add.ensures.second

pub returns-then-place-len-clause-ok : goal.returns-then-place-len-clause-ok
returns-then-place-len-clause-ok c =
    let names = c.self.inside.names in
    let targets = c.self.inside.targets.items in
    let those : List Named = map shown_target targets in
    let name = c.args.name.now in
    let number = c.in_ok-number.number in
    let numbered = c.in_ok-number.ensures.ok in
    let long : length names ≡ length those = c.self.invariant.1 ∙ sym (length-map targets shown_target) in
    let room : length c.reserve.new.self.items ≡ length targets = ap length c.reserve.ensures.items in
    let within : number < length names = omega (arith, c.if-place-len.true, c.len.ensures, room, c.self.invariant.1) in
    let known = known_number names c.numbered.new.self name number numbered.0 numbered.2 within in
    let change = with_target c.args.line c.args.has_recipe in
    let this = shown_target c.add.new.self in
    let found : named_in names those name ≡ shown_target c.index_mut.result.now =
    known_target names c.numbered.new.self targets c.reserve.new.self.items name number c.index_mut.result.now
    c.self.invariant.0 c.self.invariant.1 c.reserve.ensures.items numbered.0 numbered.2 (omega (arith, c.if-place-len.true, c.len.ensures)) c.index_mut.ensures.value in
    let written : map shown_target (set c.reserve.new.self.items number c.add.new.self) ≡ set those number this =
    ap (λ (l : List Target). map shown_target (set l number c.add.new.self)) c.reserve.ensures.items ∙ map-set shown_target targets number c.add.new.self in
    on_ok c.add.result _ _
    (λ (ok : this ≡ change (shown_target c.index_mut.result.now)). λ n.
    rw (← c.self.view_is)
    (ap (λ (l : List (List ℕ)). named_in l (map shown_target (set c.reserve.new.self.items number c.add.new.self)) n) known.0
    ∙ ap (λ (l : List Named). named_in names l n) written
    ∙ changed-known names those name change this n (ok ∙ ap change (sym found)) long number c.self.invariant.0 within known.1))
    c.add.ensures.ok

pub invariant_of-self-2 : goal.invariant_of-self-2
invariant_of-self-2 c =
    let names = c.self.inside.names in
    let numbered = c.in_ok-number.ensures.ok in
    let room : length c.reserve.new.self.items ≡ length c.self.inside.targets.items = ap length c.reserve.ensures.items in
    let fresh = fresh_number names c.numbered.new.self c.args.name.now c.in_ok-number.number numbered.0 numbered.1
    (omega (arith, c.if-place-len.false, c.len.ensures, room, c.self.invariant.1)) in
    let longer = rw c.unwrap.ensures at c.push.ensures.items in
    let more : length c.push.new.self.items ≡ length c.reserve.new.self.items + 1 = ap length longer ∙ length-append c.reserve.new.self.items (c.new.result ∷ []) in
    let named : length c.numbered.new.self ≡ length names + 1 = ap length fresh.0 ∙ length-append names (c.args.name.now ∷ []) in
    (subst (IsDistinct bytes_eq) (sym numbered.0) (distinct_all_added names (c.args.name.now ∷ []) c.self.invariant.0), omega (arith, more, named, room, c.self.invariant.1))

second_of_none : (b : Bool) → false ≡ (b && false)
second_of_none true = refl
second_of_none false = refl

pub returns-clause-second : goal.returns-clause-second
returns-clause-second c =
    let names = c.self.inside.names in
    let numbered = c.in_ok-number.ensures.ok in
    let room : length c.reserve.new.self.items ≡ length c.self.inside.targets.items = ap length c.reserve.ensures.items in
    let fresh = fresh_number names c.numbered.new.self c.args.name.now c.in_ok-number.number numbered.0 numbered.1
    (omega (arith, c.if-place-len.false, c.len.ensures, room, c.self.invariant.1)) in
    let none : named_at c.args.self.now c.args.name.now ≡ nothing_named =
    rw (← c.self.view_is) (named_nowhere names (map shown_target c.self.inside.targets.items) c.args.name.now fresh.1) in
    subst (λ (t : Named). false ≡ (c.args.has_recipe && is_some t.recipe)) (sym none) (second_of_none c.args.has_recipe)

pub returns-clause-ok : goal.returns-clause-ok
returns-clause-ok c = λ n.
    let names = c.self.inside.names in
    let targets = c.self.inside.targets.items in
    let those : List Named = map shown_target targets in
    let name = c.args.name.now in
    let numbered = c.in_ok-number.ensures.ok in
    let long : length names ≡ length those = c.self.invariant.1 ∙ sym (length-map targets shown_target) in
    let room : length c.reserve.new.self.items ≡ length targets = ap length c.reserve.ensures.items in
    let fresh = fresh_number names c.numbered.new.self name c.in_ok-number.number numbered.0 numbered.1
    (omega (arith, c.if-place-len.false, c.len.ensures, room, c.self.invariant.1)) in
    let change = with_target c.args.line c.args.has_recipe in
    let this = shown_target c.new.result in
    let none = named_nowhere names those name fresh.1 in
    let is : this ≡ change (named_in names those name) = c.new.ensures ∙ ap change (sym none) in
    let longer : c.push.new.self.items ≡ targets ++ c.new.result ∷ [] =
    rw c.unwrap.ensures at c.push.ensures.items ∙ ap (λ (l : List Target). l ++ c.new.result ∷ []) c.reserve.ensures.items in
    let written : map shown_target c.push.new.self.items ≡ those ++ this ∷ [] = ap (map shown_target) longer ∙ map-append shown_target targets (c.new.result ∷ []) in
    rw (← c.self.view_is)
    (ap (λ (l : List (List ℕ)). named_in l (map shown_target c.push.new.self.items) n) fresh.0
    ∙ ap (λ (l : List Named). named_in (names ++ name ∷ []) l n) written
    ∙ changed-fresh names those name change this n is long fresh.1)
