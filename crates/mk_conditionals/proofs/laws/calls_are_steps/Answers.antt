use Rattle.mk_conditionals.proofs.MachineLemmas.{begins_step, turns_step, last_step, ends_step, begins_fault, turns_fault}
use Rattle.mk_conditionals.proofs.laws.calls_are_steps.Goals as goal

pub returns : goal.returns
returns g c = record {
  begin = begins_step g.R.Reading.after g.R.Reading.comes_to g.R.Reading.gives;
  turn_if = turns_step g.R.Reading.after g.R.Reading.comes_to g.R.Reading.gives;
  turn = last_step g.R.Reading.after g.R.Reading.comes_to g.R.Reading.gives;
  end = ends_step g.R.Reading.after g.R.Reading.comes_to g.R.Reading.gives;
  begin_fault = begins_fault g.R.Reading.after g.R.Reading.comes_to g.R.Reading.gives;
  turn_fault = turns_fault g.R.Reading.after g.R.Reading.comes_to g.R.Reading.gives;
}
