use Rattle.std.proofs.Common.{rules}
use Rattle.st_file.specs.Side.{IsRefusedIn}
use Rattle.st_file.proofs.WindowLemmas.{front_parts, front_whole, refused_front}
use Rattle.st_file.proofs.reader.read_from_in.Goals as goal

pub returns-in_err-form-clause-refused : goal.returns-in_err-form-clause-refused
returns-in_err-form-clause-refused g c = λ honest.
    let shown = c.in_ok-window.ensures.header honest in
    let refused_in : IsRefusedIn c.args.newest c.args.side (g.D.Disk.seen c.args.disk.now c.args.side) c.in_err-form.field-0.0 =
    refused_front _ _ _ c.front-front.result.now _ _ (front_parts _ _ _ shown c.in_ok-window.ensures.place c.front-front.ensures) (front_whole _ _ _ shown c.front-front.ensures) c.in_err-form.ensures.refused in
    search (rules, refused_in)
