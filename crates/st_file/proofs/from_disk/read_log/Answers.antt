use Rattle.std.proofs.Common.{ℕ, List, subst, ◌∙◌}
use Rattle.std.specs.Prelude.{IfSome}
use Rattle.st_file.specs.Side.{Reads}
use Rattle.st_file.specs.Answer.{reading_of}
use Rattle.st_file.proofs.AnswerLemmas.{refused_so, found_so}
use Rattle.st_file.proofs.from_disk.read_log.Goals as goal

pub returns-clause-found : goal.returns-clause-found
returns-clause-found g c = λ honest.
    let same = c.deref.ensures.value ∙ c.in_ok-bytes.ensures.bytes honest in
    found_so _ _ _ (subst (λ (x : List ℕ). IfSome (reading_of c.side_of.result) (Reads c.args.side x)) same c.side_of.ensures.found)

pub returns-clause-refused : goal.returns-clause-refused
returns-clause-refused g c = λ honest.
    let same = c.deref.ensures.value ∙ c.in_ok-bytes.ensures.bytes honest in
    refused_so _ _ _ (subst (λ (x : List ℕ). IfSome (reading_of c.side_of.result) (Reads c.args.side x)) same c.side_of.ensures.found)
