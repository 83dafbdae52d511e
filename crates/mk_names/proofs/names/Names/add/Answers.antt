use Rattle.std.proofs.Common.{◌≡◌, ◌+◌, false, [], ◌∷◌, length, sym, ap, ◌∙◌, arith, length-append}
use Rattle.std.proofs.lemmas.List.{get_or_push}
use Rattle.mk_names.specs.Names.{name_at, has_name}
use Rattle.mk_names.proofs.NameLemmas.{added_new}
use Rattle.mk_names.proofs.names.Names.add.Goals as goal

pub returns-clause-ok : goal.returns-clause-ok
returns-clause-ok c =
    let names = c.args.self.now in
    let name = c.args.name.now in
    let absent : has_name names name ≡ false = sym c.in_default.ensures.none in
    let last = c.in_ok-number.ensures.ok in
    let number : length names ≡ c.in_ok-number.number = sym c.in_ok-number.ensures.number in
    let longer : length c.push.new.self ≡ length names + 1 = ap length last ∙ length-append names (name ∷ []) in
    (last ∙ sym (added_new names name absent), (omega (arith, longer, number)), ap (λ l. name_at l c.in_ok-number.number) last ∙ get_or_push names name [] c.in_ok-number.number number)
