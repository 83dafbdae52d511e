use Rattle.std.proofs.Common.{◌≡◌, ◌-◌, ◌∙◌, ℕ, List, length, take, drop, Ok, ap, sym, subst, arith}
use Rattle.byte_strings.specs.Texts.{texts, AreTexts}
use Rattle.st_records.specs.Clean.{AreClean}
use Rattle.st_packed.proofs.Texts.{are_read}
use Rattle.st_packed.proofs.decoder.items_of.Goals as goal

pub overflow_sub-bytes : goal.overflow_sub-bytes
overflow_sub-bytes c =
    let has = c.in_ok-found.ensures.items in
    let read = are_read c.args.count c.args.bytes.now (has.0, c.in_ok-found.behind.now) has.1 in
    omega (arith, read.1)

pub of_texts-requires : goal.of_texts-requires
of_texts-requires c =
    let has = c.in_ok-found.ensures.items in
    let read = are_read c.args.count c.args.bytes.now (has.0, c.in_ok-found.behind.now) has.1 in
    let cut : length c.args.bytes.now - length c.in_ok-found.behind.now ≡ read.0 = omega (arith, read.1) in
    let front : c.split_at.result.0.now ≡ take read.0 c.args.bytes.now = c.split_at.ensures.front ∙ ap (λ (n : ℕ). take n c.args.bytes.now) cut in
    subst (AreTexts c.args.count) (sym front) read.2

pub returns-clause-gives : goal.returns-clause-gives
returns-clause-gives c =
    let has = c.in_ok-found.ensures.items in
    let read = are_read c.args.count c.args.bytes.now (has.0, c.in_ok-found.behind.now) has.1 in
    let cut : length c.args.bytes.now - length c.in_ok-found.behind.now ≡ read.0 = omega (arith, read.1) in
    let front : c.split_at.result.0.now ≡ take read.0 c.args.bytes.now = c.split_at.ensures.front ∙ ap (λ (n : ℕ). take n c.args.bytes.now) cut in
    let items : has.0 ≡ c.of_texts.result = read.3 ∙ ap (texts c.args.count) (sym front) ∙ sym c.of_texts.ensures in
    let rest : c.in_ok-found.behind.now ≡ c.split_at.result.1.now = read.4 ∙ ap (λ (n : ℕ). drop n c.args.bytes.now) (sym cut) ∙ sym c.split_at.ensures.back in
    has.1 ∙ ap (λ (x : List (List ℕ)). Ok (x, c.in_ok-found.behind.now)) items ∙ ap (λ (y : List ℕ). Ok (c.of_texts.result, y)) rest

pub returns-clause-clean : goal.returns-clause-clean
returns-clause-clean c =
    let has = c.in_ok-found.ensures.items in
    let read = are_read c.args.count c.args.bytes.now (has.0, c.in_ok-found.behind.now) has.1 in
    let cut : length c.args.bytes.now - length c.in_ok-found.behind.now ≡ read.0 = omega (arith, read.1) in
    let front : c.split_at.result.0.now ≡ take read.0 c.args.bytes.now = c.split_at.ensures.front ∙ ap (λ (n : ℕ). take n c.args.bytes.now) cut in
    let items : has.0 ≡ c.of_texts.result = read.3 ∙ ap (texts c.args.count) (sym front) ∙ sym c.of_texts.ensures in
    λ found. (let before = has.2 found in (before.0, subst (AreClean c.args.form) items before.1))
