use Rattle.std.proofs.Common.{◌≡◌, sym, subst}
use Rattle.std.proofs.lemmas.Result.{IfOk-weaker}
use Rattle.st_state.specs.State.{replay}
use Rattle.bd_flusher.specs.Site.{FactsIn}
use Rattle.jb_runner.proofs.pool.run_to_close.Goals as goal

-- the receipts are those that the workers gathered
pub returns : goal.returns
returns g c = record {
  folded = subst (λ (s : FactsIn g.row.D.Denot). s.state ≡ replay s.opening s.told) (sym c.new-closed.ensures.site) c.new-closed.ensures.folded;
  ends = c.close-report.ensures.ends;
  status = c.close-report.ensures.status;
  well = c.close-report.ensures.well;
  newest = c.close-report.ensures.newest;
  same = c.close-report.ensures.same;
  built = IfOk-weaker c.close-report.result _ _ (λ r both. (c.run_shop-crew.result.0.receipts.items, both.0, both.1)) c.close-report.ensures.built;
}
