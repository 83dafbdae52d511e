use Rattle.std.proofs.Common.{ℕ, List, sym, ap, subst, ◌∙◌}
use Rattle.dmk_files.specs.Stamps.{known_stamp, Adds}
use Rattle.dmk_files.proofs.StampLemmas.{found_is, stamp_is, before}
use Rattle.dmk_files.proofs.file_tree.FileTree.look_at.Goals as goal

pub returns-in-Some-clause-stamp : goal.returns-in-Some-clause-stamp
returns-in-Some-clause-stamp g c = λ looks fits.
    let now = c.args.self.now.stamps in
    let is = ap (known_stamp now) (sym c.requires.name) ∙ sym c.get.ensures ∙ c.in-Some.is in
    found_is (known_stamp now) c.args.name.now c.in-Some.known is looks fits

pub returns-in-Ok-clause-stamp : goal.returns-in-Ok-clause-stamp
returns-in-Ok-clause-stamp g c = λ looks fits.
    let now = c.args.self.now.stamps in
    let adds = subst (λ (n : List ℕ). Adds n c.in_ok-stamp.stamp now c.set.new.self) c.requires.name c.in-Ok.ensures.ok in
    stamp_is (known_stamp now) (known_stamp c.set.new.self) c.args.name.now c.in_ok-stamp.stamp adds looks fits

pub returns-in-Ok-clause-grows : goal.returns-in-Ok-clause-grows
returns-in-Ok-clause-grows g c = λ looks fits.
    let now = c.args.self.now.stamps in
    let adds = subst (λ (n : List ℕ). Adds n c.in_ok-stamp.stamp now c.set.new.self) c.requires.name c.in-Ok.ensures.ok in
    let none = ap (known_stamp now) (sym c.requires.name) ∙ sym c.get.ensures ∙ c.in_default.is in
    before (known_stamp now) (known_stamp c.set.new.self) c.args.name.now c.in_ok-stamp.stamp adds looks none fits
