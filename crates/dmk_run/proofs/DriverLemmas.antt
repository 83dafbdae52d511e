-- What a run over a store says of a makefile.
use Rattle.std.proofs.Common.{◌≡◌, ◌≢◌, ◌⊎◌, ◌||◌, inl, inr, ℕ, ◌≤◌, Bool, true, false, List, [], ◌∷◌, Option, Result, Ok, Err, IfOk, IfErr, IsTrue, ◌∙◌, length, refl, sym, subst, arith}
use Rattle.std.specs.FinMap as map
use Rattle.std.specs.List.{list_all}
use Rattle.mk_profile.specs.declared.profile.Profile.{Profile}
use Rattle.mk_reader.specs.declared.item.Item.{Item}
use Rattle.mk_nodes.specs.declared.graph.Graph.{Graph}
use Rattle.jb_closing.specs.Report.{ends_well}
use Rattle.jb_closing.specs.declared.fault.RunFault.{RunFault}
use Rattle.jb_closing.specs.declared.report.Report.{Report}
use Rattle.st_disk.specs.Crash.{Sides}
use Rattle.st_disk.specs.declared.which.Which.{Which}
use Rattle.st_disk.specs.declared.which.Which.TheVariants as which
use Rattle.st_state.specs.State.{StateMap}
use Rattle.st_records.specs.declared.version.Form.{Form}
use Rattle.st_records.specs.declared.version.Form.TheVariants as forms
use Rattle.st_recovery.specs.Recovers.{RecoversIn, recovered}
use Rattle.st_recovery.proofs.RecoversLemmas.{one_recovery_in}
use Rattle.bd_lists.specs.declared.recipe.Variable.{Variable}
use Rattle.bd_places.specs.declared.end.End.{End}
use Rattle.dmk_reading.specs.Keeping.{kept_form}
use Rattle.dmk_reading.specs.Planned.{IsGraphOf, IsStateOn, judged_graph}
use Rattle.dmk_run.specs.InTurn.{IsParted}
use Rattle.dmk_store.specs.Opened.{RecoversAsBefore}
use Rattle.dmk_run.specs.Judged.{IsBorneOut}
use Rattle.dmk_parts.specs.Behind.{IsJudgedBehind}
use Rattle.dmk_run.specs.Made.{HasMade, IsMade, MakesItems}
use Rattle.dmk_parts.specs.Tried.{AreTried}
use Rattle.dmk_reading.specs.Lost.{goes_without, with_unmade}
use Rattle.dmk_store.specs.declared.stop.Stop.{Stop}
use Rattle.dmk_parts.specs.declared.tried.Tried.{Tried}
use Rattle.dmk_store.proofs.OpeningLemmas.{same_state}
use Rattle.mk_nodes.specs.declared.file_look.FileLook.{FileLook}

-- what isn't parted may have left anything
pub never_parted : (got : Result ℕ Stop) (Left : Type 0) → IfErr got (λ stop. IsParted stop → ⊥) → IfErr got (λ stop. IsParted stop → Left)
never_parted (Ok status) Left never = tt
never_parted (Err stop) Left never = λ parted. absurd (never parted)

module _ {Disk : Type 0} (newest : Form) (disk_honest : Type 0) (seen : Disk → Which → List ℕ) where
  -- a disk that is handed back recovers what it did
  pub same_as_before : (found left : Disk) (got : Result ℕ Stop) → left ≡ found →
      IfErr got (λ stop. IsParted stop → RecoversAsBefore newest disk_honest (seen found) (seen left))
  same_as_before found left (Ok status) same = tt
  same_as_before found left (Err stop) same = λ parted honest m is.
      subst (λ d. RecoversIn newest (seen d which.A) (seen d which.B) m) same is

  -- and so does what is handed back of one that recovers nothing else
  pub left_as_before : (found opened left : Disk) (got : Result ℕ Stop) → RecoversAsBefore newest disk_honest (seen found) (seen opened) →
      IfErr got (λ stop. IsParted stop → left ≡ opened) →
      IfErr got (λ stop. IsParted stop → RecoversAsBefore newest disk_honest (seen found) (seen left))
  left_as_before found opened left (Ok status) before same = tt
  left_as_before found opened left (Err stop) before same = λ parted.
      subst (λ d. RecoversAsBefore newest disk_honest (seen found) (seen d)) (sym (same parted)) before

no_value : false ≡ true → ⊥
no_value is = cc

-- two empty sides recover the empty state
empty_state : (newest : Form) (a b : List ℕ) (m : StateMap) → a ≡ [] → b ≡ [] → RecoversIn newest a b m → m ≡ map.empty
empty_state newest a b m is_a is_b found =
    same_state m map.empty (one_recovery_in newest [] [] (recovered m) (recovered map.empty)
    (subst (λ x. RecoversIn newest x [] m) is_a (subst (λ y. RecoversIn newest a y m) is_b found)) (inl (tt, tt, refl)))

-- what is so of a result is so of its value
pub at_ok : {A E : Type 0} (P : A → Type 0) (got : Result A E) (x : A) → got ≡ Ok x → IfOk got P → P x
at_ok P got x is found = subst (λ g. IfOk g P) is found

-- a status with names that nothing makes is a status, is 0 where it was and there are none, and is 2 where there are some
pub small_with : (unmade : List ℕ) (status : ℕ) → status ≤ 2 → with_unmade unmade status ≤ 2
small_with [] status small = small
small_with (node ∷ nodes) status small = omega arith

zero_with : (unmade : List ℕ) (status : ℕ) → with_unmade unmade status ≡ 0 → status ≡ 0
zero_with [] status none = none
zero_with (node ∷ nodes) status none = absurd (omega (arith, none))

pub none_with : (unmade : List ℕ) (status : ℕ) → with_unmade unmade status ≢ 2 → unmade ≡ []
none_with [] status other = refl
none_with (node ∷ nodes) status other = absurd (other refl)

-- the status of a report is a report's
pub status_of_report : (unmade : List ℕ) (found : Result Report RunFault) (got : Result ℕ Stop)
    → IfOk got (λ s. (r : Report) × (found ≡ Ok r) × (s ≡ with_unmade unmade r.status))
    → IfOk found (λ r. r.status ≤ 2) → IfOk got (λ s. s ≤ 2)
status_of_report unmade found (Ok s) (r, is, same) small =
    subst (λ n. n ≤ 2) (sym same) (small_with unmade r.status (at_ok (λ r. r.status ≤ 2) found r is small))
status_of_report unmade found (Err stop) is small = tt

-- what is made at a status is made at another that is 0 only where that is
made_at : (form : Form) (graph : Graph) (sound : Type 0) (sides : Sides) (ends : List End) (before after : ℕ) → (after ≡ 0 → before ≡ 0) →
    IsMade form graph sound sides before ends → IsMade form graph sound sides after ends
made_at form graph sound sides ends before after implies is = record {
  told = is.told;
  receipts = is.receipts;
  are_those = is.are_those;
  are_true = is.are_true;
  left = is.left;
  recovers = is.recovers;
  known = λ none. is.known (implies none);
}

-- so a run has made what it did that came to another status for names that nothing makes
pub made_with : (form : Form) (graph : Graph) (counting keeping : Bool) (sound : Type 0) (sides : Sides) (tried : Tried) (before after : ℕ) → after ≡ with_unmade graph.unmade.items before →
    (ends : List End) → AreTried graph ends tried → length ends ≡ length graph.nodes.items → (before ≡ 0 → IsTrue (list_all ends_well ends)) →
    (same : List Bool) → (form ≡ forms.Plain → same ≡ []) → (before ≡ 0 → IsBorneOut counting graph ends same) → (keeping ≡ true → IsMade form graph sound sides before ends) → HasMade form graph counting keeping sound sides after tried
made_with form graph counting keeping sound sides tried before after is ends are all well same plain borne made =
    let implies : after ≡ 0 → before ≡ 0 = λ none. zero_with graph.unmade.items before (sym is ∙ none) in
    record {
      ended = record {
        ends = ends;
        same = same;
        all = all;
        plain = plain;
        unmade = λ other. none_with graph.unmade.items before (subst (λ s. s ≢ 2) is other);
        well = λ none. well (implies none);
        borne_out = λ none. borne (implies none);
        made = λ kept. made_at form graph sound sides ends before after implies (made kept);
      };
      are_tried = are;
    }

-- the status of a report is that of a graph that has ended, with what was tried by its ends
pub has_made : (form : Form) (graph : Graph) (counting keeping : Bool) (sound : Type 0) (sides : Sides) (tried : Tried) (found : Result Report RunFault) (got : Result ℕ Stop)
    → IfOk got (λ s. (r : Report) × (found ≡ Ok r) × (s ≡ with_unmade graph.unmade.items r.status) × AreTried graph r.ends.items tried)
    → IfOk found (λ r. length r.ends.items ≡ length graph.nodes.items)
    → IfOk found (λ r. r.status ≡ 0 → IsTrue (list_all ends_well r.ends.items)) → IfOk found (λ r. form ≡ forms.Plain → r.same.items ≡ [])
    → IfOk found (λ r. r.status ≡ 0 → IsBorneOut counting graph r.ends.items r.same.items)
    → IfOk found (λ r. keeping ≡ true → IsMade form graph sound sides r.status r.ends.items) → IfOk got (λ s. HasMade form graph counting keeping sound sides s tried)
has_made form graph counting keeping sound sides tried found (Ok s) (r, is, same, are) all well plain borne made =
    made_with form graph counting keeping sound sides tried r.status s same r.ends.items are
    (at_ok (λ r. length r.ends.items ≡ length graph.nodes.items) found r is all)
    (at_ok (λ r. r.status ≡ 0 → IsTrue (list_all ends_well r.ends.items)) found r is well)
    r.same.items (at_ok (λ r. form ≡ forms.Plain → r.same.items ≡ []) found r is plain)
    (at_ok (λ r. r.status ≡ 0 → IsBorneOut counting graph r.ends.items r.same.items) found r is borne)
    (at_ok (λ r. keeping ≡ true → IsMade form graph sound sides r.status r.ends.items) found r is made)
has_made form graph counting keeping sound sides tried found (Err stop) is all well plain borne made = tt

module _ (profile : Profile) (definitions environment : List Variable) (targets : List (List ℕ)) (all goes_on : Bool) (before : Tried) (looks : List ℕ → Option FileLook) (tried : Tried) where
  -- so a graph of these items has
  pub made_items : (items : List Item) (stored keeping : Bool) (disk_honest : Type 0) (seen : Which → List ℕ) (sides : Sides) (state : StateMap)
      (graph judged : Graph) (counted kept : Bool) → IsStateOn (kept_form profile) stored disk_honest seen state →
      IsGraphOf profile definitions environment targets looks items state graph → (goes_without profile goes_on ≡ false → graph.unmade.items ≡ []) →
      IsJudgedBehind before (all || keeping) (judged_graph all graph) judged → counted ≡ all || keeping → kept ≡ keeping → (form : Form) → form ≡ kept_form profile → (got : Result ℕ Stop) →
      IfOk got (λ s. HasMade form judged counted kept disk_honest sides s tried) →
      IfOk got (λ s. MakesItems profile definitions environment targets all goes_on before looks items stored keeping disk_honest seen s sides tried)
  made_items items stored keeping disk_honest seen sides state graph judged counted kept is_state is_graph all_made is_judged counts same form is_form (Ok s) made = record {
    state = state;
    is_state = is_state;
    graph = graph;
    is_graph = is_graph;
    all_made = all_made;
    judged = judged;
    is_judged = is_judged;
    made = subst (λ n. HasMade (kept_form profile) judged n keeping disk_honest sides s tried) counts (subst (λ k. HasMade (kept_form profile) judged counted k disk_honest sides s tried) same
        (subst (λ (f : Form). HasMade f judged counted kept disk_honest sides s tried) is_form made));
  }
  made_items items stored keeping disk_honest seen sides state graph judged counted kept is_state is_graph all_made is_judged counts same form is_form (Err stop) made = tt

  -- over a disk in memory that was empty nothing of a state is known
  module _ (items : List Item) (memory_honest : Type 0) (memory : Which → List ℕ) (works : memory_honest)
      (a : memory which.A ≡ []) (b : memory which.B ≡ []) (memory_sides : Sides) (disk_honest : Type 0) (seen : Which → List ℕ) (sides : Sides) where
    pub without_state : (status : ℕ) →
        MakesItems profile definitions environment targets all goes_on before looks items true false memory_honest memory status memory_sides tried →
        MakesItems profile definitions environment targets all goes_on before looks items false false disk_honest seen status sides tried
    without_state status run = record {
      state = run.state;
      is_state = empty_state (kept_form profile) (memory which.A) (memory which.B) run.state a b (run.is_state works);
      graph = run.graph;
      is_graph = run.is_graph;
      all_made = run.all_made;
      judged = run.judged;
      is_judged = run.is_judged;
      made = record {
        ended = record {
          ends = run.made.ended.ends;
          same = run.made.ended.same;
          plain = run.made.ended.plain;
          all = run.made.ended.all;
          unmade = run.made.ended.unmade;
          well = run.made.ended.well;
          borne_out = run.made.ended.borne_out;
          made = λ keeping. absurd (no_value keeping);
        };
        are_tried = run.made.are_tried;
      };
    }

    pub found_without_state : (keeping : Bool) → false ≡ keeping → (got : Result ℕ Stop) →
        IfOk got (λ s. MakesItems profile definitions environment targets all goes_on before looks items true false memory_honest memory s memory_sides tried) →
        IfOk got (λ s. MakesItems profile definitions environment targets all goes_on before looks items keeping keeping disk_honest seen s sides tried)
    found_without_state keeping is (Ok status) run =
        subst (λ k. MakesItems profile definitions environment targets all goes_on before looks items k k disk_honest seen status sides tried) is
        (without_state status run)
    found_without_state keeping is (Err stop) run = tt

-- a disk is as it was, or this is so, where a makefile keeps state
pub untouched_or : {D : Type 0} (keeping : Bool) (old new : D) (Kept : Type 0) → (keeping ≡ false → new ≡ old) → (keeping ≡ true → Kept) →
    (new ≡ old) ⊎ Kept
untouched_or true old new Kept untouched kept = inr (kept refl)
untouched_or false old new Kept untouched kept = inl (untouched refl)
