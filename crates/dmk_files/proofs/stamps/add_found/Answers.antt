use Rattle.std.proofs.Common.{◌≡◌, ◌<◌, ◌≤◌, ℕ, List, [], ◌∷◌, ◌++◌, length, sym, ap, subst, ◌∙◌, arith}
use Rattle.std.specs.List.{IsDistinct}
use Rattle.std.specs.Str.{bytes_eq}
use Rattle.mk_names.specs.Names.{added, name_at}
use Rattle.mk_names.proofs.NameLemmas.{distinct_all_added}
use Rattle.dmk_files.specs.Stamps.{told_of}
use Rattle.dmk_files.proofs.KnownLemmas.{Told}
use Rattle.dmk_files.proofs.ListedLemmas.{stays_at, grows_at, told_new, as_many_new}
use Rattle.dmk_files.proofs.stamps.add_found.Goals as goal

pub returns-in_err-make_room-clause-as_many : goal.returns-in_err-make_room-clause-as_many
returns-in_err-make_room-clause-as_many c = ap length c.in_err-make_room.ensures.items ∙ c.requires

pub returns-in_err-make_room-clause-same : goal.returns-in_err-make_room-clause-same
returns-in_err-make_room-clause-same c = λ n. ap (λ (ts : List Told). told_of c.args.found.now ts n) c.in_err-make_room.ensures.items

pub returns-in_err-place-clause-as_many : goal.returns-in_err-place-clause-as_many
returns-in_err-place-clause-as_many c = ap length c.in_ok-make_room.ensures.items ∙ c.requires ∙ ap length (sym c.in_err-place.ensures.err)

pub returns-in_err-place-clause-same : goal.returns-in_err-place-clause-same
returns-in_err-place-clause-same c = λ n.
    ap (λ (l : List (List ℕ)). told_of l c.make_room.new.items.items n) c.in_err-place.ensures.err
    ∙ ap (λ (ts : List Told). told_of c.args.found.now ts n) c.in_ok-make_room.ensures.items

pub returns-then-number-len-clause-as_many : goal.returns-then-number-len-clause-as_many
returns-then-number-len-clause-as_many c =
    let found : List (List ℕ) = c.args.found.now in
    let lt : c.in_ok-place.place < length found = omega (arith, c.if-number-len.true, c.len.ensures, ap length c.in_ok-make_room.ensures.items, c.requires) in
    let ok = c.in_ok-place.ensures.ok in
    let at = subst (λ (l : List (List ℕ)). name_at l c.in_ok-place.place ≡ c.args.name.now) ok.0 ok.2 in
    ap length c.in_ok-make_room.ensures.items ∙ c.requires ∙ ap length (sym (ok.0 ∙ stays_at found c.args.name.now c.in_ok-place.place lt at))

pub returns-then-number-len-clause-same : goal.returns-then-number-len-clause-same
returns-then-number-len-clause-same c = λ n.
    let found : List (List ℕ) = c.args.found.now in
    let lt : c.in_ok-place.place < length found = omega (arith, c.if-number-len.true, c.len.ensures, ap length c.in_ok-make_room.ensures.items, c.requires) in
    let ok = c.in_ok-place.ensures.ok in
    let at = subst (λ (l : List (List ℕ)). name_at l c.in_ok-place.place ≡ c.args.name.now) ok.0 ok.2 in
    ap (λ (l : List (List ℕ)). told_of l c.make_room.new.items.items n) (ok.0 ∙ stays_at found c.args.name.now c.in_ok-place.place lt at)
    ∙ ap (λ (ts : List Told). told_of found ts n) c.in_ok-make_room.ensures.items

pub returns-then-number-len-clause-once : goal.returns-then-number-len-clause-once
returns-then-number-len-clause-once c = λ once.
    subst (λ (l : List (List ℕ)). IsDistinct bytes_eq l) (sym c.in_ok-place.ensures.ok.0) (distinct_all_added c.args.found.now (c.args.name.now ∷ []) once)

pub returns-clause-as_many : goal.returns-clause-as_many
returns-clause-as_many c =
    let found : List (List ℕ) = c.args.found.now in
    let told : List Told = c.args.told.now.items in
    let ok = c.in_ok-place.ensures.ok in
    let past : length found ≤ c.in_ok-place.place = omega (arith, c.if-number-len.false, c.len.ensures, ap length c.in_ok-make_room.ensures.items, c.requires) in
    let within : c.in_ok-place.place < length (added found c.args.name.now) = subst (λ (l : List (List ℕ)). c.in_ok-place.place < length l) ok.0 ok.1 in
    ap length (c.push_reserved.ensures.items ∙ ap (λ (ts : List Told). ts ++ c.nothing.result ∷ []) c.in_ok-make_room.ensures.items)
    ∙ as_many_new found told c.args.name.now c.nothing.result c.requires
    ∙ ap length (sym (ok.0 ∙ grows_at found c.args.name.now c.in_ok-place.place past within))

pub returns-clause-same : goal.returns-clause-same
returns-clause-same c = λ n.
    let found : List (List ℕ) = c.args.found.now in
    let told : List Told = c.args.told.now.items in
    let name = c.args.name.now in
    let ok = c.in_ok-place.ensures.ok in
    let past : length found ≤ c.in_ok-place.place = omega (arith, c.if-number-len.false, c.len.ensures, ap length c.in_ok-make_room.ensures.items, c.requires) in
    let within : c.in_ok-place.place < length (added found name) = subst (λ (l : List (List ℕ)). c.in_ok-place.place < length l) ok.0 ok.1 in
    ap (λ (l : List (List ℕ)). told_of l c.push_reserved.new.self.items n) (ok.0 ∙ grows_at found name c.in_ok-place.place past within)
    ∙ ap (λ (ts : List Told). told_of (found ++ name ∷ []) ts n)
    (c.push_reserved.ensures.items ∙ ap (λ (ts : List Told). ts ++ c.nothing.result ∷ []) c.in_ok-make_room.ensures.items ∙ ap (λ (t : Told). told ++ t ∷ []) c.nothing.ensures)
    ∙ told_new found told name n c.requires

pub returns-clause-once : goal.returns-clause-once
returns-clause-once c = λ once.
    subst (λ (l : List (List ℕ)). IsDistinct bytes_eq l) (sym c.in_ok-place.ensures.ok.0) (distinct_all_added c.args.found.now (c.args.name.now ∷ []) once)
