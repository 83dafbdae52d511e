use Rattle.std.proofs.Common.{◌<◌, ℕ, List, Some, cond, length, length-set, ap, ◌∙◌, arith}
use Rattle.std.specs.Prelude.{bytes_eq}
use Rattle.mk_names.specs.Names.{name_at, all_added}
use Rattle.mk_names.proofs.NameLemmas.{distinct_all_added}
use Rattle.dmk_files.specs.Stamps.{Known, names_of, known_stamp, told_of}
use Rattle.dmk_files.proofs.KnownLemmas.{Told, told_set}
use Rattle.dmk_files.proofs.stamps.Stamps.set.Goals as goal

pub invariant_of-self : goal.invariant_of-self
invariant_of-self c = record {
  once = c.self.invariant.once;
  as_many = length-set c.self.inside.told.items c.args.number c.in_ok-told.told ∙ c.self.invariant.as_many;
}

pub returns-clause-ok : goal.returns-clause-ok
returns-clause-ok c = λ n.
    let found : List (List ℕ) = c.self.inside.found in
    let listed : List (List ℕ) = c.self.inside.listed in
    let names : List (List ℕ) = all_added found listed in
    let told : List Told = c.self.inside.told.items in
    let number = c.args.number in
    let named : number < length names = omega (arith, c.requires, ap (λ (k : Known). length (names_of k)) c.self.view_is) in
    let within : number < length told = omega (arith, named, c.self.invariant.as_many) in
    told_set names told number c.in_ok-told.told n (distinct_all_added found listed c.self.invariant.once) named within
    ∙ ap (λ (t : Told). cond (bytes_eq n (name_at names number)) t (told_of names told n)) c.in_ok-told.ensures
    ∙ ap (λ (k : Known). cond (bytes_eq n (name_at (names_of k) number)) (Some c.args.look) (known_stamp k n)) c.self.view_is
