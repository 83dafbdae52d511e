use Rattle.std.proofs.Common.{◌≡◌, ◌<◌, length, ap, subst, ◌∙◌}
use Rattle.mk_names.specs.Names.{name_at, has_name}
use Rattle.dmk_files.specs.Stamps.{Known, names_of}
use Rattle.dmk_files.proofs.ListedLemmas.{among_all}
use Rattle.dmk_files.proofs.stamps.Stamps.found_number.Goals as goal

pub returns-in-Some-clause-number : goal.returns-in-Some-clause-number
returns-in-Some-clause-number c =
    let n = c.in-Some.number in
    let is = c.in-Some.ensures.number in
    let at = among_all c.self.inside.found c.self.inside.listed n is.0 in
    subst (λ (k : Known). (n < length (names_of k)) × (name_at (names_of k) n ≡ c.args.name.now)) c.self.view_is (at.0, at.1 ∙ is.1)

pub returns-in-Some-clause-none : goal.returns-in-Some-clause-none
returns-in-Some-clause-none c = c.in-Some.ensures.none ∙ ap (λ (k : Known). has_name k.found c.args.name.now) c.self.view_is

pub returns-in-None-clause-none : goal.returns-in-None-clause-none
returns-in-None-clause-none c = c.in-None.ensures.none ∙ ap (λ (k : Known). has_name k.found c.args.name.now) c.self.view_is
