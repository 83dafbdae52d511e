use Rattle.std.proofs.Common.{◌≡◌, true≢false, true, ℕ, List, sym, subst}
use Rattle.mk_names.specs.Names.{has_name}
use Rattle.mk_rule_lines.proofs.ResultLemmas.{on_ok}
use Rattle.dmk_files.specs.Stamps.{known_stamp}
use Rattle.dmk_files.proofs.StampLemmas.{fits_alike}
use Rattle.dmk_files.proofs.file_tree.FileTreeTree.begin.Goals as goal

pub returns-clause-none : goal.returns-clause-none
returns-clause-none g c =
    on_ok c.find_listed.result _ _
    (λ none n is. true≢false (sym (subst (λ (l : List (List ℕ)). has_name l n ≡ true) none is)))
    c.find_listed.ensures.none

pub returns-clause-grows : goal.returns-clause-grows
returns-clause-grows g c = λ looks fits.
    fits_alike (known_stamp c.args.self.now.stamps) (known_stamp c.find_listed.new.self) looks c.find_listed.ensures.same fits
