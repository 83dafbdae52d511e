use Rattle.std.proofs.Common.{◌≡◌, ◌∙◌, ap, sym, subst, None}
use Rattle.std.specs.Option.{option_copied_mut}
use Rattle.std.specs.Str.{bytes_eq}
use Rattle.std.specs.Map.{lookup}
use Rattle.std.specs.FinMap as map
use Rattle.st_state.specs.State.{by_name}
use Rattle.st_state.proofs.EndsLemmas.{ends_set}
use Rattle.st_state.proofs.StateLemmas.{by_name-set_value, some_of, on_err, absent-by_name}
use Rattle.st_state.proofs.state.State.set.Goals as goal

pub returns-in-Some-clause-ok : goal.returns-in-Some-clause-ok
returns-in-Some-clause-ok c =
    ap (by_name (λ k. k)) (c.get_mut.follows.holds c.args.entry).0
    ∙ by_name-set_value (λ k. k) c.args.name.now c.args.entry c.self.inside.entries.entries (some_of _ _ c.in-Some.ensures.value)
    ∙ ap (λ m. map.insert m c.args.name.now c.args.entry) c.self.view_is

pub returns-clause-memory : goal.returns-clause-memory
returns-clause-memory c =
    let es = c.self.inside.entries.entries in
    let missing : None ≡ lookup (λ k. bytes_eq c.args.name.now k) es = ap option_copied_mut (sym c.in_default.is) ∙ c.get_mut.ensures.value in
    on_err c.add.result (subst (λ m. map.get m c.args.name.now ≡ None) c.self.view_is (absent-by_name (λ k. k) c.args.name.now es missing))

pub invariant_of-self : goal.invariant_of-self
invariant_of-self c =
    ends_set c.self.inside.ends c.mark.new.self (by_name (λ k. k) c.self.inside.entries.entries) _ c.args.name.now c.args.entry c.mark.ensures.kept c.mark.ensures.marked c.self.invariant
    (ap (by_name (λ k. k)) (c.get_mut.follows.holds c.args.entry).0
    ∙ by_name-set_value (λ k. k) c.args.name.now c.args.entry c.self.inside.entries.entries (some_of _ _ c.in-Some.ensures.value))
