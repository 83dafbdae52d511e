use Rattle.std.proofs.Common.{◌≡◌, true, ℕ, List, inl, refl, sym, subst}
use Rattle.mk_names.specs.Names.{has_name}
use Rattle.dmk_files.specs.Stamps.{known_stamp}
use Rattle.dmk_files.proofs.ListedLemmas.{nothing_known}
use Rattle.dmk_files.proofs.StampLemmas.{unknown_before}
use Rattle.dmk_files.proofs.file_tree.FileTree.first_look.Goals as goal

pub look_at-requires : goal.look_at-requires
look_at-requires g c = record { number = c.in-Some.ensures.number.0; name = c.in-Some.ensures.number.1 }

pub new_look-requires : goal.new_look-requires
new_look-requires g c = record { no_found = sym c.in-None.ensures.none; no_listed = c.requires }

pub returns-in-Some-clause-listed : goal.returns-in-Some-clause-listed
returns-in-Some-clause-listed g c = λ n is. inl (subst (λ (l : List (List ℕ)). has_name l n ≡ true) c.look_at.ensures.listed is)

pub returns-in-None-clause-known : goal.returns-in-None-clause-known
returns-in-None-clause-known g c = λ some.
    let now = c.args.self.now.stamps in
    let none = nothing_known now c.args.name.now (sym c.in-None.ensures.none) c.requires in
    absurd (unknown_before (known_stamp now) (known_stamp now) c.args.name.now (λ n. refl) none some)

pub returns-in-None-clause-found : goal.returns-in-None-clause-found
returns-in-None-clause-found g c = λ some.
    let now = c.args.self.now.stamps in
    let none = nothing_known now c.args.name.now (sym c.in-None.ensures.none) c.requires in
    absurd (unknown_before (known_stamp now) (known_stamp now) c.args.name.now (λ n. refl) none some)
