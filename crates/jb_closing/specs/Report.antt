-- What a run comes to. Own.
use Rattle.std.specs.Prelude.{◌≡◌, ◌≤◌, Bool, true, false, List, [], length, Result, IfOk, IsTrue}
use Rattle.std.specs.List.{list_all}
use Rattle.mk_nodes.specs.declared.graph.Graph.{Graph}
use Rattle.st_disk.specs.Moments.{Moments, now}
use Rattle.st_records.specs.declared.version.Form.{Form}
use Rattle.st_records.specs.declared.version.Form.TheVariants as forms
use Rattle.st_state.specs.State.{replay}
use Rattle.bd_places.specs.declared.end.End.{End}
use Rattle.bd_places.specs.declared.end.End.TheVariants as end
use Rattle.bd_flusher.specs.Site.{FactsIn}
use Rattle.bd_flusher.specs.declared.site.receipt.Receipt.{Receipt}
use Rattle.jb_closing.specs.declared.fault.RunFault.{RunFault}
use Rattle.jb_closing.specs.declared.report.Report.{Report}
use Rattle.jb_closing.specs.Agreement.{AreThoseOf}
use Rattle.jb_closing.specs.Closing.{AreTrueOf}

-- whether a node that ended so is up to date or was made
abbrev pub ends_well : End → Bool
ends_well end.UpToDate = true
ends_well end.Remade = true
ends_well end.Built = true
ends_well (end.Failed status) = false
ends_well end.Abandoned = false

-- the state of the closed store is the fold of the told records from that at its opening. Where there is a report it has an end
-- for each node of the graph, and a status of at most 2, which is 0 only where each node ended well; no recipe is said to
-- have left its files as they were where records have no marks; and it is true of the closed store, which writes this form
pub record ComesTo {D : Type 0} (honest : Type 0) (moments : D → Moments) (form : Form) (graph : Graph) (found : Result Report RunFault) (site : FactsIn D) : Type 0 where
  pub folded : site.state ≡ replay site.opening site.told
  pub ends : IfOk found (λ r. length r.ends.items ≡ length graph.nodes.items)
  pub status : IfOk found (λ r. r.status ≤ 2)
  pub well : IfOk found (λ r. r.status ≡ 0 → IsTrue (list_all ends_well r.ends.items))
  pub newest : IfOk found (λ r. site.newest ≡ form)
  pub same : IfOk found (λ r. form ≡ forms.Plain → r.same.items ≡ [])
  pub built : IfOk found (λ r. (receipts : List Receipt) × AreThoseOf site.told receipts
      × AreTrueOf form site.told receipts (honest × (site.dead ≡ false)) (now (moments site.disk)) graph.names r.ends.items)
