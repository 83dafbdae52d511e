use Rattle.jb_closing.proofs.closing.Closed.new.Goals as goal

pub returns-clause-folded : goal.returns-clause-folded
returns-clause-folded g c = c.told-told.ensures.site.folded
