use Rattle.std.proofs.Common.{◌≡◌, ◌<◌, true≢false, true, ℕ, List, length, sym, ap, subst, ◌∙◌}
use Rattle.std.specs.Prelude.{IfOk}
use Rattle.mk_names.specs.Names.{name_at, has_name, all_added}
use Rattle.dmk_files.specs.Stamps.{Known, known_stamp, told_of}
use Rattle.dmk_files.proofs.stamps.Stamps.numbered.Goals as goal

pub add_found-requires : goal.add_found-requires
add_found-requires c = c.self.invariant.as_many ∙ ap length (sym c.in_ok-find_all.ensures.ok)

pub invariant_of-self-2 : goal.invariant_of-self-2
invariant_of-self-2 c = record {
  once = c.add_found.ensures.once (c.in_ok-find_all.ensures.once c.self.invariant.once);
  as_many = c.add_found.ensures.as_many ∙ ap (λ (l : List (List ℕ)). length (all_added c.add_found.new.found l)) (sym c.empty.ensures);
}

pub returns-clause-number : goal.returns-clause-number
returns-clause-number c =
    let found : List (List ℕ) = c.add_found.new.found in
    subst (λ (l : List (List ℕ)). IfOk c.add_found.result (λ n. (n < length (all_added found l)) × (name_at (all_added found l) n ≡ c.args.name.now)))
    (sym c.empty.ensures) c.add_found.ensures.number

pub returns-clause-same : goal.returns-clause-same
returns-clause-same c = λ n.
    ap (λ (l : List (List ℕ)). told_of (all_added c.add_found.new.found l) c.add_found.new.told.items n) c.empty.ensures
    ∙ c.add_found.ensures.same n
    ∙ ap (λ (l : List (List ℕ)). told_of l c.self.inside.told.items n) c.in_ok-find_all.ensures.ok
    ∙ ap (λ (k : Known). known_stamp k n) c.self.view_is

pub returns-clause-listed : goal.returns-clause-listed
returns-clause-listed c = λ n is.
    let absent = subst (λ (l : List (List ℕ)). has_name l n ≡ true) c.empty.ensures is in
    absurd (true≢false (sym absent))

pub returns-in_err-find_all-clause-same : goal.returns-in_err-find_all-clause-same
returns-in_err-find_all-clause-same c = λ n.
    ap (λ (l : List (List ℕ)). told_of l c.self.inside.told.items n) c.in_err-find_all.ensures.err ∙ ap (λ (k : Known). known_stamp k n) c.self.view_is

pub returns-in_err-find_all-clause-listed : goal.returns-in_err-find_all-clause-listed
returns-in_err-find_all-clause-listed c = λ n is. subst (λ (k : Known). has_name k.listed n ≡ true) c.self.view_is is
