-- What a run leaves, by what its report says of the closed store.
use Rattle.std.proofs.Common.{◌≡◌, ◌⊎◌, ℕ, zero, suc, Bool, true, false, List, [], ◌∷◌, map, Result, Ok, Err, IfOk, IsOk, IsTrue, Some, slice_get, true≢false, refl, sym, subst, inl, inr, arith, ◌∙◌}
use Rattle.std.specs.List.{list_all}
use Rattle.std.proofs.lemmas.List.Elements.{All-nil}
use Rattle.std.proofs.lemmas.List.{length-map}
use Rattle.std.proofs.lemmas.Result.{IfOk-at_ok}
use Rattle.st_disk.specs.Crash.{Sides}
use Rattle.st_disk.specs.Moments.{Moments, now}
use Rattle.st_records.specs.declared.record.Record.{Record}
use Rattle.st_state.specs.State.{StateMap}
use Rattle.st_records.specs.declared.version.Form.{Form}
use Rattle.st_records.specs.declared.version.Form.TheVariants as forms
use Rattle.st_recovery.specs.Stored.{AllRecoverIn}
use Rattle.mk_nodes.specs.declared.graph.Graph.{Graph}
use Rattle.mk_nodes.specs.declared.graph.Node.{Node}
use Rattle.bd_places.specs.declared.end.End.{End}
use Rattle.bd_places.specs.declared.end.End.TheVariants as end
use Rattle.bd_flusher.specs.Site.{FactsIn}
use Rattle.bd_flusher.specs.declared.site.receipt.Receipt.{Receipt}
use Rattle.jb_closing.specs.declared.fault.RunFault.{RunFault}
use Rattle.jb_closing.specs.declared.report.Report.{Report}
use Rattle.jb_closing.specs.Agreement.{AreThoseOf}
use Rattle.jb_closing.specs.Closing.{IsBuilt, IsTrueOf, AreTrueOf}
use Rattle.jb_closing.specs.Report.{ends_well}
use Rattle.dmk_run.specs.Judged.{IsBorneOut}
use Rattle.dmk_run.specs.Known.{IsTold}
use Rattle.dmk_parts.specs.Behind.{none_tried}
use Rattle.dmk_run.specs.Made.{HasMade, IsMade}
use Rattle.dmk_parts.specs.Tried.{AreTried, IsBuilt as IsNameBuilt, IsBuiltWithoutFile}
use Rattle.dmk_parts.specs.declared.tried.Tried.{Tried}
use Rattle.dmk_reading.specs.Lost.{with_unmade}
use Rattle.dmk_run.specs.Settled.{IsNoneToRun}
use Rattle.dmk_run.proofs.DriverLemmas.{made_with}

true_of : {form : Form} {told : List Record} {receipts : List Receipt} {wide narrow : Type 0} {sides : Sides} {name : List ℕ} → (narrow → wide) → IsTrueOf form told receipts wide sides name → IsTrueOf form told receipts narrow sides name
true_of implies is = record {
  note = is.note;
  last = is.last;
  done = is.done;
  receipt = is.receipt;
  gathered = is.gathered;
  notes = is.notes;
  on_disk = λ sound. is.on_disk (implies sound);
}

-- under a premise that says more it is true too
are_true_of : {form : Form} {told : List Record} {receipts : List Receipt} {wide narrow : Type 0} {sides : Sides} (names : List (List ℕ)) (ends : List End) → (narrow → wide) → AreTrueOf form told receipts wide sides names ends → AreTrueOf form told receipts narrow sides names ends
are_true_of names ends implies are = λ node built.
    let (name, named, is) = are node built in (name, named, true_of implies is)

-- the report of a site that isn't dead, as it is told of the store that comes back
pub is_made : {D : Type 0} (form : Form) (honest : Type 0) (moments : D → Moments) (graph : Graph) (counting keeping : Bool) (found : Result Report RunFault) (told : Result Report RunFault) (site : FactsIn D) (disk : D) (m : StateMap)
    → IfOk found (λ r. (receipts : List Receipt) × AreThoseOf site.told receipts × AreTrueOf form site.told receipts (honest × (site.dead ≡ false)) (now (moments site.disk)) graph.names r.ends.items)
    → IfOk told (λ r. (given : Report) × (found ≡ Ok given) × IsTold graph counting keeping m given r)
    → disk ≡ site.disk → (IsOk told → site.dead ≡ false) → (IsOk told → honest → AllRecoverIn form m (now (moments disk)))
    → IfOk told (λ r. keeping ≡ true → IsMade form graph honest (now (moments disk)) r.status r.ends.items)
is_made {D} form honest moments graph counting keeping found (Ok r) site disk m built (given, is, tells) same alive recovers = λ kept.
    let said : (receipts : List Receipt) × AreThoseOf site.told receipts × AreTrueOf form site.told receipts (honest × (site.dead ≡ false)) (now (moments site.disk)) graph.names given.ends.items =
    IfOk-at_ok (λ (r : Report). (receipts : List Receipt) × AreThoseOf site.told receipts × AreTrueOf form site.told receipts (honest × (site.dead ≡ false)) (now (moments site.disk)) graph.names r.ends.items) is built in
    let (receipts, those, true_of_given) = said in
    record {
      told = site.told;
      receipts = receipts;
      are_those = those;
      are_true = subst (λ (d : D). AreTrueOf form site.told receipts honest (now (moments d)) graph.names r.ends.items) (sym same)
          (subst (λ (e : List End). AreTrueOf form site.told receipts honest (now (moments site.disk)) graph.names e) (sym tells.ends) (are_true_of graph.names given.ends.items (λ h. (h, alive refl)) true_of_given));
      left = m;
      recovers = recovers refl;
      known = tells.known kept;
    }
is_made form honest moments graph counting keeping found (Err fault) site disk m built tells same alive recovers = tt

-- what holds where the run has a report holds where one is told
pub where_told : (graph : Graph) (counting keeping : Bool) (m : StateMap) (found told : Result Report RunFault) (Holds : Type 0) → IfOk found (λ r. Holds)
    → IfOk told (λ r. (given : Report) × (found ≡ Ok given) × IsTold graph counting keeping m given r) → IsOk told → Holds
where_told graph counting keeping m found (Ok r) Holds holds (given, is, tells) ok = IfOk-at_ok (λ (g : Report). Holds) is holds
where_told graph counting keeping m found (Err fault) Holds holds tells ok = cc

-- a status of 0 was 0
zero_told : (old new : ℕ) → (new ≡ old) ⊎ ((old ≡ 0) × (new ≡ 1)) → new ≡ 0 → old ≡ 0
zero_told old new (inl same) none = omega (arith, same, none)
zero_told old new (inr (was, one)) none = was

-- the ends of a report that is told are those of the run's
pub well_told : (graph : Graph) (counting keeping : Bool) (m : StateMap) (found told : Result Report RunFault) → IfOk found (λ r. r.status ≡ 0 → IsTrue (list_all ends_well r.ends.items)) → IfOk told (λ r. (given : Report) × (found ≡ Ok given) × IsTold graph counting keeping m given r)
    → IfOk told (λ r. r.status ≡ 0 → IsTrue (list_all ends_well r.ends.items))
well_told graph counting keeping m found (Ok r) well (given, is, tells) = λ none.
    subst (λ (e : List End). IsTrue (list_all ends_well e)) (sym tells.ends) (IfOk-at_ok (λ (g : Report). g.status ≡ 0 → IsTrue (list_all ends_well g.ends.items)) is well (zero_told given.status r.status tells.status none))
well_told graph counting keeping m found (Err fault) well tells = tt

-- and what bears out a status of 0
pub borne_told : (graph : Graph) (counting keeping : Bool) (m : StateMap) (found told : Result Report RunFault) → IfOk told (λ r. (given : Report) × (found ≡ Ok given) × IsTold graph counting keeping m given r)
    → IfOk told (λ r. r.status ≡ 0 → IsBorneOut counting graph r.ends.items r.same.items)
borne_told graph counting keeping m found (Ok r) (given, is, tells) = λ none. inr (tells.judged none)
borne_told graph counting keeping m found (Err fault) tells = tt

-- the nodes whose recipes left their files as they were are those of the run's
pub same_told : (graph : Graph) (counting keeping : Bool) (m : StateMap) (form : Form) (found told : Result Report RunFault) → IfOk found (λ r. form ≡ forms.Plain → r.same.items ≡ [])
    → IfOk told (λ r. (given : Report) × (found ≡ Ok given) × IsTold graph counting keeping m given r) → IfOk told (λ r. form ≡ forms.Plain → r.same.items ≡ [])
same_told graph counting keeping m form found (Ok r) none (given, is, tells) = λ plain.
    tells.same ∙ IfOk-at_ok (λ (g : Report). form ≡ forms.Plain → g.same.items ≡ []) is none plain
same_told graph counting keeping m form found (Err fault) none tells = tt

-- ---- a run in which no recipe is to be run

-- each node is up to date
abbrev up_to_date : (nodes : List Node) → List End
up_to_date nodes = map (λ _. end.UpToDate) nodes

up_to_date_well : (nodes : List Node) → IsTrue (list_all ends_well (up_to_date nodes))
up_to_date_well [] = refl
up_to_date_well (n ∷ nodes) = up_to_date_well nodes

none_built : (nodes : List Node) (node : ℕ) → IsBuilt (up_to_date nodes) node → ⊥
none_built [] node built = cc
none_built (n ∷ nodes) zero built = cc
none_built (n ∷ nodes) (suc node) built = none_built nodes node built

none_failed : (nodes : List Node) (node status : ℕ) → slice_get (up_to_date nodes) node ≡ Some (end.Failed status) → ⊥
none_failed [] node status failed = cc
none_failed (n ∷ nodes) zero status failed = cc
none_failed (n ∷ nodes) (suc node) status failed = none_failed nodes node status failed

nothing_tried : (graph : Graph) → AreTried graph (up_to_date graph.nodes.items) none_tried
nothing_tried graph = record {
  are_built = All-nil (IsBuiltWithoutFile graph (up_to_date graph.nodes.items));
  are_filed = All-nil (IsNameBuilt graph (up_to_date graph.nodes.items));
  are_failed = λ name. (
    λ there. absurd (true≢false (sym there)),
    λ is. absurd (none_failed graph.nodes.items is.node is.status is.failed),
  );
}

-- nothing was told, and no node ended as built or failed
pub none_made : (form : Form) (counting keeping : Bool) (graph : Graph) (m : StateMap) (honest : Type 0) (sides : Sides) → IsNoneToRun counting keeping graph m → (honest → AllRecoverIn form m sides)
    → (status : ℕ) → status ≡ with_unmade graph.unmade.items 0 → (tried : Tried) → tried ≡ none_tried → HasMade form graph counting keeping honest sides status tried
none_made form counting keeping graph m honest sides is recovers status comes tried nothing =
    made_with form graph counting keeping honest sides tried 0 status comes (up_to_date graph.nodes.items)
    (subst (AreTried graph (up_to_date graph.nodes.items)) (sym nothing) (nothing_tried graph))
    (length-map graph.nodes.items _)
    (λ none. up_to_date_well graph.nodes.items) [] (λ plain. refl) (λ none. inl is.listing)
    (λ kept. record {
      told = [];
      receipts = [];
      are_those = λ ticket. refl;
      are_true = λ node built. absurd (none_built graph.nodes.items node built);
      left = m;
      recovers = recovers;
      known = λ none. is.known kept;
    })
