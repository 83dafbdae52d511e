use Rattle.std.proofs.Common.{◌≡◌, ◌+◌, ◌≤◌, ◌∷◌, false, length, option_copied, ap, ◌∙◌, arith}
use Rattle.mk_depfiles.specs.Lines.{lines}
use Rattle.mk_depfiles.specs.Depfile.{names_of_lines}
use Rattle.mk_depfiles.specs.Gathering.{lines_left, size_left}
use Rattle.mk_depfiles.proofs.FoundLemmas.{line_found}
use Rattle.mk_depfiles.proofs.reading.names_of_lines.Goals as goal

pub loop-left-preserved : goal.loop-left-preserved
loop-left-preserved c =
    let line = c.next_line.result.0.now in
    let number = c.loop-left.number in
    let at : lines_left (option_copied c.loop-left.left) ≡ line ∷ lines_left (option_copied c.next_line.result.1) =
    ap (λ o. lines_left (option_copied o)) c.in-Some.is ∙ c.next_line.ensures.lines in
    let size : size_left (option_copied c.loop-left.left) ≡ length c.in-Some.bytes.now + 1 = ap (λ o. size_left (option_copied o)) c.in-Some.is in
    let room = c.loop-left.invariant.room in
    let left : length line + size_left (option_copied c.next_line.result.1) ≤ length c.in-Some.bytes.now = c.next_line.ensures.size in
    let within : c.newlines.result ≤ length line = c.newlines.ensures.within in
    record {
      room = omega (arith, size, room, left, within);
      value = line_found c.loop-left.names c.push_line.new.names number (number + (c.newlines.result + 1)) line (lines_left (option_copied c.next_line.result.1))
          (lines_left (option_copied c.loop-left.left)) c.in_ok-cause.field-0 (names_of_lines 1 (lines false c.args.text.now))
          at c.in-None.is c.in_ok-cause.ensures (ap (λ n. number + (n + 1)) c.newlines.ensures.value) c.loop-left.invariant.value;
    }
