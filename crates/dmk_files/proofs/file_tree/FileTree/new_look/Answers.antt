use Rattle.dmk_files.specs.Stamps.{known_stamp}
use Rattle.dmk_files.proofs.ListedLemmas.{nothing_known}
use Rattle.dmk_files.proofs.StampLemmas.{stamp_is, before}
use Rattle.dmk_files.proofs.file_tree.FileTree.new_look.Goals as goal

pub returns-in-Ok-clause-stamp : goal.returns-in-Ok-clause-stamp
returns-in-Ok-clause-stamp g c = λ looks fits.
    let now = c.args.self.now.stamps in
    stamp_is (known_stamp now) (known_stamp c.list.new.self) c.args.name.now c.in_ok-look.look c.in-Ok.ensures.ok looks fits

pub returns-in-Ok-clause-grows : goal.returns-in-Ok-clause-grows
returns-in-Ok-clause-grows g c = λ looks fits.
    let now = c.args.self.now.stamps in
    let none = nothing_known now c.args.name.now c.requires.no_found c.requires.no_listed in
    before (known_stamp now) (known_stamp c.list.new.self) c.args.name.now c.in_ok-look.look c.in-Ok.ensures.ok looks none fits
