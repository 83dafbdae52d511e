use Rattle.std.proofs.Common.{arith}
use Rattle.st_file.proofs.WindowLemmas.{Shows-read}
use Rattle.st_file.proofs.window.Window.reach.Goals as goal

pub returns-clause-shows : goal.returns-clause-shows
returns-clause-shows g c = λ honest.
    let before = c.requires.shows honest in
    Shows-read (g.D.Disk.seen c.args.disk.now c.args.self.now.side) _ c.min-size.result before.len_is (omega (arith, before.len_is, c.min-size.ensures, c.requires.sound.within)) (c.in_ok-read_block.ensures.bytes honest)
