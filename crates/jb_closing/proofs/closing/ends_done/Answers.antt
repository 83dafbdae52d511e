use Rattle.std.proofs.Common.{ℕ, Option, subst}
use Rattle.jb_closing.specs.Last.{IsLastPlace}
use Rattle.jb_closing.proofs.LastLemmas.{ends_nowhere}
use Rattle.jb_closing.proofs.closing.ends_done.Goals as goal

pub returns-in-None : goal.returns-in-None
returns-in-None c = λ name last. ((λ yes. cc), (λ ends. absurd (ends_nowhere c.args.told.now name (subst (λ (p : Option ℕ). IsLastPlace c.args.told.now name p) c.in-None.is last) ends)))
