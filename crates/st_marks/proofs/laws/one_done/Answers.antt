use Rattle.st_marks.proofs.DoneLemmas.{same_done, same_bytes}
use Rattle.st_marks.proofs.laws.one_done.Goals as goal

pub returns-clause-says : goal.returns-clause-says
returns-clause-says c = λ d e a b x y f g is. same_done d e a b x y f g is

pub returns-clause-spelled : goal.returns-clause-spelled
returns-clause-spelled c = λ d a b f g. same_bytes d a b f g
