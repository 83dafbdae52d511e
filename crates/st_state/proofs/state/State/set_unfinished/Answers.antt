use Rattle.std.proofs.Common.{ap, sym, subst, ◌∙◌, ◌≡◌, None, OnOk, [], List, ℕ}
use Rattle.std.specs.Option.{option_copied_mut}
use Rattle.std.specs.Str.{bytes_eq}
use Rattle.std.specs.Map.{lookup}
use Rattle.std.specs.FinMap as map
use Rattle.st_state.specs.State.{by_name, known_hidden, unfinished}
use Rattle.st_state.proofs.EndsLemmas.{ends_set}
use Rattle.st_state.proofs.StateLemmas.{by_name-set_value, some_of, known_hidden-some, known_hidden-none, on_err, absent-by_name}
use Rattle.st_state.proofs.state.State.set_unfinished.Goals as goal

pub returns-in-Some-clause-ok : goal.returns-in-Some-clause-ok
returns-in-Some-clause-ok c =
    let es = c.self.inside.entries.entries in
    let kept : known_hidden (by_name {K = List ℕ} (λ k. k) es) c.args.name.now ≡ c.in-Some.known.now.hidden =
    known_hidden-some (λ k. k) c.args.name.now es c.in-Some.known.now c.in-Some.ensures.value in
    ap (by_name (λ k. k)) (c.get_mut.follows.holds c.leave_unfinished.new.known).0
    ∙ by_name-set_value (λ k. k) c.args.name.now _ es (some_of _ _ c.in-Some.ensures.value)
    ∙ ap (map.insert (by_name {K = List ℕ} (λ k. k) es) c.args.name.now) (c.leave_unfinished.ensures ∙ ap (unfinished c.args.phase) (sym kept))
    ∙ ap (λ m. map.insert m c.args.name.now (unfinished c.args.phase (known_hidden m c.args.name.now))) c.self.view_is

pub returns-clause-ok : goal.returns-clause-ok
returns-clause-ok c =
    let es = c.self.inside.entries.entries in
    let missing : None ≡ lookup (λ k. bytes_eq c.args.name.now k) es = ap option_copied_mut (sym c.in_default.is) ∙ c.get_mut.ensures.value in
    let none_kept : known_hidden (by_name {K = List ℕ} (λ k. k) es) c.args.name.now ≡ [] = known_hidden-none (λ k. k) c.args.name.now es missing in
    let left : map.insert (by_name (λ k. k) c.get_mut.follows.lender-at-none.entries) c.args.name.now c.new.result
    ≡ map.insert c.args.self.now c.args.name.now (unfinished c.args.phase (known_hidden c.args.self.now c.args.name.now)) =
    ap (λ m. map.insert (by_name (λ k. k) m.entries) c.args.name.now c.new.result) c.get_mut.follows.holds-at-none
    ∙ ap (map.insert (by_name {K = List ℕ} (λ k. k) es) c.args.name.now) (c.new.ensures ∙ ap (unfinished c.args.phase) (sym none_kept))
    ∙ ap (λ m. map.insert m c.args.name.now (unfinished c.args.phase (known_hidden m c.args.name.now))) c.self.view_is
    in subst (λ m. OnOk c.add.result (c.add.new.self ≡ m)) left c.add.ensures.ok

pub returns-clause-memory : goal.returns-clause-memory
returns-clause-memory c =
    let es = c.self.inside.entries.entries in
    let missing : None ≡ lookup (λ k. bytes_eq c.args.name.now k) es = ap option_copied_mut (sym c.in_default.is) ∙ c.get_mut.ensures.value in
    on_err c.add.result (subst (λ m. map.get m c.args.name.now ≡ None) c.self.view_is (absent-by_name (λ k. k) c.args.name.now es missing))

pub invariant_of-self : goal.invariant_of-self
invariant_of-self c =
    let es = c.self.inside.entries.entries in
    ends_set c.self.inside.ends c.mark.new.self (by_name (λ k. k) es) _ c.args.name.now c.leave_unfinished.new.known c.mark.ensures.kept c.mark.ensures.marked c.self.invariant
    (ap (by_name (λ k. k)) (c.get_mut.follows.holds c.leave_unfinished.new.known).0
    ∙ by_name-set_value (λ k. k) c.args.name.now _ es (some_of _ _ c.in-Some.ensures.value))
