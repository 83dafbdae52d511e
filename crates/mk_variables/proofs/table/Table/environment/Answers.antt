use Rattle.std.proofs.Common.{◌≡◌, ℕ, Option, Vec, Global, Ok, [], ◌∷◌, map, option_map, subst, sym, append-nil}
use Rattle.std.proofs.lemmas.Result.{err_from_is_err_and}
use Rattle.mk_variables.specs.Exports.{with_front, IsPassedAs, Passes, ends}
use Rattle.mk_variables.specs.Shown.{entry_of, shown_entry, shown_passed}
use Rattle.mk_variables.proofs.ExportLemmas.{behind_pushed, hidden_next, passed_next, none_next}
use Rattle.mk_variables.proofs.table.Table.environment.Goals as goal

pub returns-in_err-found-clause-refused : goal.returns-in_err-found-clause-refused
returns-in_err-found-clause-refused g c = λ w ok.
    let steps : c.loop-name.name-iterator ≡ (c.in-Some.name.now, c.in-Some.entry.now) ∷ c.next.new.self = assumption c.in-Some.ensures in
    let told = err_from_is_err_and c.from_residual.result c.from_residual.ensures.1 in
    rw (told.1, told.2)
    (none_next w (g.V.Definitions.variables c.args.variables.now) c.exports_all-exports_all.result c.loop-name.name-iterator c.next.new.self
    c.in-Some.name.now c.as_slice-name.result.now c.in-Some.entry.now c.as_slice-name.ensures steps c.args.self.now.exports_all c.args.self.now.entries
    (map shown_passed c.loop-name.passed.items) (c.loop-name.invariant.leads w (c.passed_value.ensures.narrows w ok)) c.in_err-found.field-0.0
    (c.in_err-found.ensures.refused w ok))

pub loop-name-preserved-in-None-found : goal.loop-name-preserved-in-None-found
loop-name-preserved-in-None-found g c = record {
  leads = λ w ok told rest.
      let v = g.V.Definitions.variables c.args.variables.now in
      let steps : c.loop-name.name-iterator ≡ (c.in-Some.name.now, c.in-Some.entry.now) ∷ c.next.new.self = assumption c.in-Some.ensures in
      let hidden = subst (λ (o : Option (Vec ℕ Global)). IsPassedAs w v c.exports_all-exports_all.result c.as_slice-name.result.now (entry_of c.in-Some.entry.now) (option_map (λ v. v.items) o))
      c.in-None-found.is (c.in_ok-found.ensures.told w ok) in
      c.loop-name.invariant.leads w (c.passed_value.ensures.narrows w ok) told
      (hidden_next w v c.exports_all-exports_all.result c.loop-name.name-iterator c.next.new.self
      c.in-Some.name.now c.as_slice-name.result.now c.in-Some.entry.now c.as_slice-name.ensures steps hidden told rest);
  narrows = λ w ok. c.loop-name.invariant.narrows w (c.passed_value.ensures.narrows w ok);
}

pub loop-name-preserved : goal.loop-name-preserved
loop-name-preserved g c = record {
  leads = λ w ok told rest.
      let v = g.V.Definitions.variables c.args.variables.now in
      let steps : c.loop-name.name-iterator ≡ (c.in-Some.name.now, c.in-Some.entry.now) ∷ c.next.new.self = assumption c.in-Some.ensures in
      let value = c.in-Some-found.value.items in
      let passed = subst (λ (o : Option (Vec ℕ Global)). IsPassedAs w v c.exports_all-exports_all.result c.as_slice-name.result.now (entry_of c.in-Some.entry.now) (option_map (λ v. v.items) o))
      c.in-Some-found.is (c.in_ok-found.ensures.told w ok) in
      let whole = c.loop-name.invariant.leads w (c.passed_value.ensures.narrows w ok) (with_front c.as_slice-name.result.now value told)
      (passed_next w v c.exports_all-exports_all.result c.loop-name.name-iterator c.next.new.self
      c.in-Some.name.now c.as_slice-name.result.now c.in-Some.entry.now c.as_slice-name.ensures steps value passed told rest) in
      subst (Passes w v c.args.self.now.exports_all c.args.self.now.entries)
      (behind_pushed c.loop-name.passed.items c.push.new.self.items _ c.in_ok-push-in-Some-found.ensures.items told) whole;
  narrows = λ w ok. c.loop-name.invariant.narrows w (c.passed_value.ensures.narrows w ok);
}

pub returns-clause-told : goal.returns-clause-told
returns-clause-told g c = λ w ok.
    let v = g.V.Definitions.variables c.args.variables.now in
    let done : c.loop-name.name-iterator ≡ [] = assumption c.in-None.ensures in
    subst (λ made. Passes w v c.args.self.now.exports_all c.args.self.now.entries (Ok made)) (append-nil (map shown_passed c.loop-name.passed.items))
    (c.loop-name.invariant.leads w ok (Ok [])
    (subst (λ es. Passes w v c.exports_all-exports_all.result (map shown_entry es) (Ok [])) (sym done) ends))
