use Rattle.std.proofs.Common.{◌≡◌, ◌∷◌, drop, map, sym, subst}
use Rattle.std.proofs.lemmas.Result.{err_from_is_err_and}
use Rattle.mk_statements.specs.Reading.{stated}
use Rattle.mk_variables.specs.Table.{table_of}
use Rattle.mk_taken.specs.Place.{goes_on}
use Rattle.mk_taken.specs.Reading.{Takes, Reads}
use Rattle.mk_taken.specs.Shown.{place_of, step_of}
use Rattle.mk_taken.proofs.ReadingLemmas.{behind_place, next, refused_map}
use Rattle.mk_taken.proofs.reading.Reading.read.Goals as goal

pub returns-in_err-other-clause-refused : goal.returns-in_err-other-clause-refused
returns-in_err-other-clause-refused g c = λ w ok.
    let before = place_of (table_of c.loop-line.table) c.loop-line.self in
    let is : drop c.loop-line.place c.args.lines.now ≡ c.in-Some.line.now ∷ c.in-Some.more.now = c.in-Some.ensures.line in
    let told = err_from_is_err_and c.from_residual.result c.from_residual.ensures.1 in
    rw (told.1, told.2)
    (refused_map (Reads w (stated c.in-Some.line.now ∷ map stated c.in-Some.more.now) before)
    (Reads w (map stated c.args.lines.now) (place_of (table_of c.args.table.now) c.args.self.now))
    (λ outcome h. c.loop-line.invariant.leads w (c.in_err-other.ensures.narrows w ok) outcome (subst (λ ls. Reads w (map stated ls) before outcome) (sym is) h))
    c.in_err-other.field-0.0 (c.in_err-other.ensures.refused w ok (map stated c.in-Some.more.now)))

pub loop-line-preserved : goal.loop-line-preserved
loop-line-preserved g c = record {
  leads = λ w ok outcome rest.
      let before = place_of (table_of c.loop-line.table) c.loop-line.self in
      let after = place_of (table_of c.take_line.new.table) c.take_line.new.self in
      let is : drop c.loop-line.place c.args.lines.now ≡ c.in-Some.line.now ∷ c.in-Some.more.now = c.in-Some.ensures.line in
      let taken : Takes w before (stated c.in-Some.line.now) (goes_on after) =
      subst (λ o. Takes w before (stated c.in-Some.line.now) (step_of after o)) c.in_default-other.is (c.in_ok-other.ensures.told w ok) in
      c.loop-line.invariant.leads w (c.in_ok-other.ensures.narrows w ok) outcome
      (next w before (drop c.loop-line.place c.args.lines.now) c.in-Some.more.now c.in-Some.line.now is (goes_on after) outcome taken
      (subst (λ ls. Reads w (map stated ls) after outcome) (behind_place c.loop-line.place c.args.lines.now c.in-Some.more.now c.in-Some.line.now is) rest));
  narrows = λ w ok. c.loop-line.invariant.narrows w (c.in_ok-other.ensures.narrows w ok);
}
