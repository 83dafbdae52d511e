use Rattle.std.proofs.Common.{◌≡◌, true, ℕ, IsSome, List, Option, sym, ap, subst}
use Rattle.mk_names.specs.Names.{has_name}
use Rattle.dmk_files.specs.Stamps.{known_stamp}
use Rattle.dmk_files.proofs.StampLemmas.{fits_alike}
use Rattle.mk_nodes.specs.declared.file_look.FileLook.{FileLook}
use Rattle.dmk_files.proofs.file_tree.FileTree.look.Goals as goal

pub look_at-requires : goal.look_at-requires
look_at-requires g c = record { number = c.in-Ok.ensures.number.0; name = c.in-Ok.ensures.number.1 }

pub returns-clause-grows : goal.returns-clause-grows
returns-clause-grows g c = λ looks fits.
    fits_alike (known_stamp c.args.self.now.stamps) (known_stamp c.numbered.new.self) looks c.in-Ok.ensures.same (c.look_at.ensures.grows looks fits)

pub returns-clause-known : goal.returns-clause-known
returns-clause-known g c = λ some.
    let still = subst (λ (k : Option (Option FileLook)). IsSome k) (sym (c.in-Ok.ensures.same c.args.name.now)) some in
    ap (λ t. t.calls) (c.look_at.ensures.known still)

pub returns-clause-listed : goal.returns-clause-listed
returns-clause-listed g c = λ n is.
    c.in-Ok.ensures.listed n (subst (λ (l : List (List ℕ)). has_name l n ≡ true) c.look_at.ensures.listed is)
