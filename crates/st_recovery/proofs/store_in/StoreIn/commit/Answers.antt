use Rattle.std.proofs.Common.{◌≡◌, sym, subst, false, rules}
use Rattle.st_disk.specs.Moments.{now}
use Rattle.st_file.specs.Layout.{IsReadIn}
use Rattle.st_file.proofs.CommitLemmas.{grown_by_none}
use Rattle.st_recovery.proofs.StoredLemmas.{all_recover, uncommitted, done_so}
use Rattle.st_recovery.proofs.AnewLemmas.{made_still}
use Rattle.st_recovery.proofs.store_in.StoreIn.commit.Goals as goal

pub invariant_of-self : goal.invariant_of-self
invariant_of-self g c = record {
  stored = c.commit_parts.ensures.stored;
  is_read = subst (IsReadIn c.args.self.now.newest) (sym c.commit_parts.ensures.form) c.args.self.now.is_read;
  made = made_still c.commit_parts.result _ _ _ _ _ c.args.records.now c.commit_parts.ensures.form c.commit_parts.ensures.own c.commit_parts.ensures.ok c.commit_parts.ensures.err c.requires.good c.args.self.now.made;
}

pub returns-then-is_empty-clause-any_moment : goal.returns-then-is_empty-clause-any_moment
returns-then-is_empty-clause-any_moment g c = λ honest alive. uncommitted c.args.self.now.log.side _ _ (c.args.self.now.stored honest alive)

pub returns-then-is_empty-clause-done : goal.returns-then-is_empty-clause-done
returns-then-is_empty-clause-done g c = λ honest.
    let alive : c.args.self.now.log.dead ≡ false = search rules in
    all_recover c.args.self.now.log.side (now (g.D.Disk.moments c.args.self.now.log.disk)) (c.args.self.now.stored honest alive)

pub returns-clause-done : goal.returns-clause-done
returns-clause-done g c = λ honest.
    done_so c.commit_parts.result (c.args.self.now.log.dead ≡ false) c.commit_parts.new.log.side (now (g.D.Disk.moments c.commit_parts.new.log.disk)) c.commit_parts.ensures.alive (c.commit_parts.ensures.stored honest)

pub returns-then-is_empty-clause-held : goal.returns-then-is_empty-clause-held
returns-then-is_empty-clause-held g c = λ honest held holds. grown_by_none c.args.records.now (search rules) holds
