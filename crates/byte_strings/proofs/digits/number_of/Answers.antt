use Rattle.std.proofs.Common.{◌≡◌, ◌+◌, ◌<◌, length, true, ◌∙◌, ap, arith}
use Rattle.std.specs.Prelude.{min}
use Rattle.std.specs.List.{list_all}
use Rattle.std.specs.Char.{is_ascii_digit}
use Rattle.std.proofs.lemmas.Bool.Decides.{nat_tests}
use Rattle.byte_strings.proofs.DigitLemmas.{number_more}
use Rattle.byte_strings.proofs.digits.number_of.Goals as goal

pub loop-byte-preserved : goal.loop-byte-preserved
loop-byte-preserved c =
    let within : c.loop-byte.byte-index < length c.args.text.now = grind (arith, nat_tests) in
    let digits : list_all is_ascii_digit c.args.text.now ≡ true = grind arith in
    number_more c.args.text.now c.loop-byte.byte-index c.loop-byte.number c.saturating_mul.result c.saturating_add-number.result within digits
    c.loop-byte.invariant c.saturating_mul.ensures
    (c.saturating_add-number.ensures ∙ ap (λ digit. min (c.saturating_mul.result + digit) 65535) c.from.ensures)
