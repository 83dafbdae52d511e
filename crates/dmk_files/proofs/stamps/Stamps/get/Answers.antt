use Rattle.std.proofs.Common.{◌<◌, ℕ, List, None, length, sym, ap, ◌∙◌, arith, rules}
use Rattle.std.proofs.lemmas.List.{get_or_default}
use Rattle.mk_names.specs.Names.{name_at, all_added}
use Rattle.mk_names.proofs.NameLemmas.{distinct_all_added}
use Rattle.dmk_files.specs.Stamps.{Known, names_of, known_stamp}
use Rattle.dmk_files.proofs.KnownLemmas.{Told, told_at}
use Rattle.dmk_files.proofs.stamps.Stamps.get.Goals as goal

pub index-requires : goal.index-requires
index-requires c =
    let names : List (List ℕ) = all_added c.self.inside.found c.self.inside.listed in
    let named : c.args.number < length names = omega (arith, c.requires, ap (λ (k : Known). length (names_of k)) c.self.view_is) in
    let within : c.args.number < length c.self.inside.told.items = omega (arith, named, c.self.invariant.as_many) in
    search (rules, within)

pub returns : goal.returns
returns c =
    let found : List (List ℕ) = c.self.inside.found in
    let listed : List (List ℕ) = c.self.inside.listed in
    let names : List (List ℕ) = all_added found listed in
    let told : List Told = c.self.inside.told.items in
    let named : c.args.number < length names = omega (arith, c.requires, ap (λ (k : Known). length (names_of k)) c.self.view_is) in
    let within : c.args.number < length told = omega (arith, named, c.self.invariant.as_many) in
    c.get.ensures ∙ c.index.ensures ∙ get_or_default told c.args.number c.index.result.now None within
    ∙ sym (told_at names told c.args.number (distinct_all_added found listed c.self.invariant.once) named)
    ∙ ap (λ (k : Known). known_stamp k (name_at (names_of k) c.args.number)) c.self.view_is
