use Rattle.std.proofs.Common.{◌≡◌, true≢false, true, ℕ, List, length, sym, ap, subst, ◌∙◌}
use Rattle.mk_names.specs.Names.{has_name, all_added}
use Rattle.dmk_files.specs.Stamps.{Known, known_stamp, told_of}
use Rattle.dmk_files.proofs.stamps.Stamps.find_listed.Goals as goal

pub invariant_of-self-2 : goal.invariant_of-self-2
invariant_of-self-2 c = record {
  once = c.in_ok-find_all.ensures.once c.self.invariant.once;
  as_many = ap length c.reserve.ensures.items ∙ c.self.invariant.as_many ∙ ap length (sym c.in_ok-find_all.ensures.ok) ∙ ap (λ (l : List (List ℕ)). length (all_added c.find_all.new.found l)) (sym c.with_room.ensures);
}

pub returns-clause-same : goal.returns-clause-same
returns-clause-same c = λ n.
    let told = c.self.inside.told.items in
    ap (λ ts. told_of (all_added c.find_all.new.found c.with_room.result) ts n) c.reserve.ensures.items
    ∙ ap (λ (l : List (List ℕ)). told_of (all_added c.find_all.new.found l) told n) c.with_room.ensures
    ∙ ap (λ (l : List (List ℕ)). told_of l told n) c.in_ok-find_all.ensures.ok
    ∙ ap (λ (k : Known). known_stamp k n) c.self.view_is

pub returns-clause-listed : goal.returns-clause-listed
returns-clause-listed c = λ n is.
    let absent = subst (λ (l : List (List ℕ)). has_name l n ≡ true) c.with_room.ensures is in
    absurd (true≢false (sym absent))

pub returns-in_err-find_all-clause-same : goal.returns-in_err-find_all-clause-same
returns-in_err-find_all-clause-same c = λ n.
    ap (λ (l : List (List ℕ)). told_of l c.self.inside.told.items n) c.in_err-find_all.ensures.err ∙ ap (λ (k : Known). known_stamp k n) c.self.view_is

pub returns-in_err-find_all-clause-listed : goal.returns-in_err-find_all-clause-listed
returns-in_err-find_all-clause-listed c = λ n is. subst (λ (k : Known). has_name k.listed n ≡ true) c.self.view_is is
