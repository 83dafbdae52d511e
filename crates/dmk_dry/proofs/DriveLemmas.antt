-- What was printed and answered, in the words of the plan.
use Rattle.std.proofs.Common.{arith, ◌≡◌, ◌≢◌, ◌⊎◌, ◌∙◌, ◌&&◌, ◌<◌, inl, inr, ℕ, Bool, true, false, not, List, [], ◌∷◌, ◌++◌, map, append-nil, length, Option, None, Some, Result, Ok, Err, IfOk, IfErr, IsOk, IsErr, IsErrOf, refl, sym, ap, subst}
use Rattle.std.specs.Io.KnownBytes.{Appends, Keeps}
use Rattle.mk_names.specs.Names.{name_at}
use Rattle.mk_reader.specs.declared.item.Item.{Item}
use Rattle.mk_profile.specs.declared.profile.Profile.{Profile}
use Rattle.mk_plan.specs.Passage.{Passage}
use Rattle.mk_plan.specs.declared.telling.Telling.{Telling}
use Rattle.mk_plan.specs.declared.telling.Telling.TheVariants as tellings
use Rattle.st_disk.specs.declared.which.Which.{Which}
use Rattle.st_file.specs.declared.fault.OpenFault.TheVariants as open_fault
use Rattle.dmk_dry.specs.AlwaysRun.{lines_run_always}
use Rattle.dmk_dry.specs.declared.always_run.AlwaysRun.{AlwaysRun}
use Rattle.dmk_reading.specs.Definitions.{first_defined}
use Rattle.dmk_dry.specs.Faults.{IsFaultOf}
use Rattle.dmk_reading.specs.Lost.{goes_without, with_unmade}
use Rattle.dmk_messages.specs.Messages.{SaysFault}
use Rattle.dmk_dry.specs.Output.{SaysCut, CutsListing, ListsWithout, TellsFault, question_status, shown_status}
use Rattle.dmk_messages.specs.Output.{AppendsPart}
use Rattle.dmk_dry.specs.Listing.{listing_text}
use Rattle.dmk_reading.specs.Planned.{AreItems}
use Rattle.dmk_dry.specs.Planned.{IsPlanned, Tells, Plans}
use Rattle.dmk_messages.specs.declared.fault.Fault.{Fault}
use Rattle.dmk_reading.specs.declared.makefiles.Makefiles.{Makefiles}
use Rattle.dmk_messages.specs.declared.fault.Fault.TheVariants.{State}
use Rattle.dmk_dry.specs.declared.planning.DryRun.{DryRun}
use Rattle.dmk_dry.proofs.PassingLemmas.{no_text}
use Rattle.bd_lists.specs.declared.recipe.Variable.{Variable}
use Rattle.mk_eval.specs.Output.{World}
use Rattle.mk_nodes.specs.declared.file_look.FileLook.{FileLook}

no_value : false ≡ true → ⊥
no_value is = cc

pub not_two : (status : ℕ) → status ≡ 0 → status ≢ 2
not_two status zero = λ two. omega (arith, zero, two)

none_appended : (old new : Option (List ℕ)) (text : List ℕ) → text ≡ [] → Appends old new text → Keeps old new
none_appended None new text none appended = tt
none_appended (Some xs) None text none appended = absurd appended
none_appended (Some xs) (Some ys) text none appended = appended ∙ ap (λ t. xs ++ t) none ∙ append-nil xs

no_rest : (front rest : List ℕ) → [] ≡ front ++ rest → 0 < length rest → ⊥
no_rest [] [] parts missing = omega (arith, missing)
no_rest [] (x ∷ rest) parts missing = absurd cc
no_rest (x ∷ front) rest parts missing = absurd cc

no_part : (old new : Option (List ℕ)) (text : List ℕ) → text ≡ [] → AppendsPart old new text → ⊥
no_part old new text none part = no_rest part.front part.rest (sym none ∙ part.parts) part.missing

-- what is at status 2 alone isn't so at another one
pub all_went : (is_whole : Bool) (status : ℕ) (Beside : Type 0) → (is_whole ≡ false → (status ≡ 2) × Beside) → status ≢ 2 → is_whole ≡ true
all_went true status Beside cut other = refl
all_went false status Beside cut other = absurd (other (cut refl).0)

-- each name is made where the status is another one
none_unmade : {A : Type 0} (unmade : List A) (status answer : ℕ) → status ≡ with_unmade unmade answer → status ≢ 2 → unmade ≡ []
none_unmade [] status answer is other = refl
none_unmade (one ∷ more) status answer is other = absurd (other is)

answered : {A : Type 0} (unmade : List A) (answer : ℕ) → unmade ≡ [] → with_unmade unmade answer ≡ answer
answered unmade answer none = ap (λ us. with_unmade us answer) none

one_at_most : (asks lists : Bool) → (shown_status asks lists ≡ 0) ⊎ ((shown_status asks lists ≡ 1) × (asks ≡ true))
one_at_most true true = inr (refl, refl)
one_at_most true false = inl refl
one_at_most false lists = inl refl

some_unmade : {A : Type 0} (unmade : List A) (asks lists : Bool) → 2 ≡ with_unmade unmade (shown_status asks lists) → unmade ≡ [] → ⊥
some_unmade unmade asks lists two none =
    let is : 2 ≡ shown_status asks lists = two ∙ answered unmade (shown_status asks lists) none in
    elim (one_at_most asks lists) [
      | inl zero ↦ omega (arith, is, zero)
      | inr one ↦ omega (arith, is, one.0)
    ]

no_names : {A B : Type 0} (f : A → B) (xs : List A) → map f xs ≡ [] → xs ≡ []
no_names f [] none = refl
no_names f (x ∷ xs) none = absurd cc

none_said : (dropped : Bool) → (dropped && not true) ≡ false
none_said true = refl
none_said false = refl

lists_alone : (dropped : Bool) → (dropped && not false) ≡ dropped
lists_alone true = refl
lists_alone false = refl

-- a question says nothing where each name is made
pub quiet_run : (asks : Bool) (status : ℕ) (got : Result DryRun Fault) → IsOk got → asks ≡ true → status ≢ 2 →
    IfOk got (λ run. status ≡ with_unmade run.unmade.items (shown_status asks run.lists_any)) →
    (Quiet : Type 0) → IfOk got (λ run. run.unmade.items ≡ [] → run.soft_dropped && not asks ≡ false → Quiet) → Quiet
quiet_run asks status (Ok run) found asking other is Quiet quiet =
    quiet (none_unmade run.unmade.items status _ is other) (ap (λ a. run.soft_dropped && not a) asking ∙ none_said run.soft_dropped)
quiet_run asks status (Err f) found asking other is Quiet quiet = absurd (no_value found)

module _ (world : World) (looks : List ℕ → Option FileLook) (makefiles : Makefiles)
    (profile : Profile) (definitions environment : List Variable) (targets : List (List ℕ)) (all goes_on : Bool) (disk_honest : Type 0) (seen : Which → List ℕ)
    (telling : Telling) (recipes : Bool) where
  -- what is told of a run for the makefile that is found
  abbrev pub Told : DryRun → Type 0
  Told run = (items : List Item) × AreItems world looks makefiles (first_defined profile definitions environment) items
      × Tells profile definitions environment targets all goes_on looks disk_honest seen items telling recipes run

  -- it is planned, where each name is made, without any
  planned_whole : (run : DryRun) (items : List Item) → AreItems world looks makefiles (first_defined profile definitions environment) items →
      (tells : Tells profile definitions environment targets all goes_on looks disk_honest seen items telling recipes run) → run.unmade.items ≡ [] →
      Plans world looks makefiles profile definitions environment targets all goes_on disk_honest seen tells.plan run.soft_dropped []
  planned_whole run items are tells none = record {
    items = items;
    are_items = are;
    planned = subst (λ us. IsPlanned profile definitions environment targets all goes_on looks disk_honest seen items tells.plan run.soft_dropped
        (map (λ u. u.name) us)) none tells.planned;
  }

  pub listed_plan : (asks : Bool) (old new : Option (List ℕ)) (status : ℕ) (got : Result DryRun Fault) → IfOk got Told → IsOk got → recipes ≡ true → asks ≡ false →
      status ≢ 2 → IfOk got (λ run. status ≡ with_unmade run.unmade.items (shown_status asks run.lists_any)) →
      IfOk got (λ run. Appends old new run.text.items) →
      (Quiet : Type 0) → IfOk got (λ run. run.unmade.items ≡ [] → run.soft_dropped && not asks ≡ false → Quiet) →
      (Says : Bool → Type 0) → IfOk got (λ run. run.unmade.items ≡ [] → Says (run.soft_dropped && not asks)) →
      (always : List AlwaysRun) → IfOk got (λ run. always ≡ run.always.items) →
      (plan : List Passage) × (dropped : Bool)
      × Plans world looks makefiles profile definitions environment targets all goes_on disk_honest seen plan dropped []
      × Appends old new (listing_text telling true plan) × (dropped ≡ false → Quiet) × Says dropped
      × (always ≡ lines_run_always telling true plan)
  listed_plan asks old new status (Ok run) (items, are, tells) found lists listing other is appended Quiet quiet Says says always those =
      let none : run.unmade.items ≡ [] = none_unmade run.unmade.items status _ is other in
      let dropped : (run.soft_dropped && not asks) ≡ run.soft_dropped = ap (λ a. run.soft_dropped && not a) listing ∙ lists_alone run.soft_dropped in (
        tells.plan,
        run.soft_dropped,
        planned_whole run items are tells none,
        subst (Appends old new) (tells.text ∙ ap (λ r. listing_text telling r tells.plan) lists) appended,
        λ undropped. quiet none (dropped ∙ undropped),
        subst Says dropped (says none),
        those ∙ tells.always ∙ ap (λ r. lines_run_always telling r tells.plan) lists,
      )
  listed_plan asks old new status (Err f) told found lists listing other is appended Quiet quiet Says says always those = absurd (no_value found)

  pub asked_plan : (asks : Bool) (old new : Option (List ℕ)) (status : ℕ) (got : Result DryRun Fault) → IfOk got Told → IsOk got → recipes ≡ false → asks ≡ true →
      status ≢ 2 → IfOk got (λ run. status ≡ with_unmade run.unmade.items (shown_status asks run.lists_any)) →
      IfOk got (λ run. Appends old new run.text.items) →
      (always : List AlwaysRun) → IfOk got (λ run. always ≡ run.always.items) →
      (plan : List Passage) × (dropped : Bool)
      × Plans world looks makefiles profile definitions environment targets all goes_on disk_honest seen plan dropped [] × (status ≡ question_status plan)
      × Appends old new (listing_text telling false plan) × (always ≡ lines_run_always telling false plan)
  asked_plan asks old new status (Ok run) (items, are, tells) found lists asking other is appended always those =
      let none : run.unmade.items ≡ [] = none_unmade run.unmade.items status _ is other in (
        tells.plan,
        run.soft_dropped,
        planned_whole run items are tells none,
        is ∙ answered run.unmade.items (shown_status asks run.lists_any) none ∙ ap (λ a. shown_status a run.lists_any) asking
            ∙ ap (shown_status true) tells.any,
        subst (Appends old new) (tells.text ∙ ap (λ r. listing_text telling r tells.plan) lists) appended,
        those ∙ tells.always ∙ ap (λ r. lines_run_always telling r tells.plan) lists,
      )
  asked_plan asks old new status (Err f) told found lists asking other is appended always those = absurd (no_value found)

  -- a fault that was found is told, the listing of what was found is cut short, or it is without names
  pub refused_plan : (asks : Bool) (Meets : Fault → Type 0) (Failed : Type 0) (told : Bool) (old new err err_after : Option (List ℕ)) (status : ℕ) (is_whole : Bool)
      (got : Result DryRun Fault) (always : List AlwaysRun) →
      recipes ≡ not asks → status ≡ 2 → IfOk got Told → IfErr got Meets → (IsErrOf got (State open_fault.Device) → Failed) → (IsErr got → Keeps old new) →
      IfErr got (λ f. told ≡ true → SaysFault err err_after f) →
      (is_whole ≡ true → IsOk got) → (is_whole ≡ true → IfOk got (λ run. Appends old new run.text.items)) →
      (is_whole ≡ true → IfOk got (λ run. status ≡ with_unmade run.unmade.items (shown_status asks run.lists_any))) →
      (is_whole ≡ true → IfOk got (λ run. always ≡ run.always.items)) →
      (is_whole ≡ false → IfOk got (λ run. AppendsPart old new run.text.items)) →
      (is_whole ≡ false → IfOk got (λ run. run.unmade.items ≡ [] → SaysCut err err_after told (run.soft_dropped && not asks))) →
      (is_whole ≡ false → (status ≡ 2) × (always ≡ [])) →
      ((TellsFault (λ f. Meets f × (f ≡ State open_fault.Device → Failed)) told old new err err_after
      ⊎ CutsListing (Plans world looks makefiles profile definitions environment targets all goes_on disk_honest seen) telling asks told old new err err_after)
      × (always ≡ []))
      ⊎ ListsWithout (Plans world looks makefiles profile definitions environment targets all goes_on disk_honest seen) telling asks old new always
  refused_plan asks Meets Failed told old new err err_after status true (Ok run) always lists two (items, are, tells) meets failed kept line found whole is those part cut refused =
      inr (record {
        plan = tells.plan;
        dropped = run.soft_dropped;
        unmade = map (λ u. u.name) run.unmade.items;
        planned = record { items = items; are_items = are; planned = tells.planned };
        some = λ none. some_unmade run.unmade.items asks run.lists_any (sym two ∙ is refl) (no_names (λ u. u.name) run.unmade.items none);
        whole = subst (Appends old new) (tells.text ∙ ap (λ r. listing_text telling r tells.plan) lists) (whole refl);
        lines = those refl ∙ tells.always ∙ ap (λ r. lines_run_always telling r tells.plan) lists;
      })
  refused_plan asks Meets Failed told old new err err_after status false (Ok run) always lists two (items, are, tells) meets failed kept line found whole is those part cut refused =
      inl (
        inr (record {
          plan = tells.plan;
          dropped = run.soft_dropped;
          unmade = map (λ u. u.name) run.unmade.items;
          planned = record { items = items; are_items = are; planned = tells.planned };
          part = subst (AppendsPart old new) (tells.text ∙ ap (λ r. listing_text telling r tells.plan) lists) (part refl);
          line = λ none. cut refl (no_names (λ u. u.name) run.unmade.items none);
        }),
        (refused refl).1,
      )
  refused_plan asks Meets Failed told old new err err_after status true (Err f) always lists two as_told meets failed kept line found whole is those part cut refused =
      absurd (no_value (found refl))
  refused_plan asks Meets Failed told old new err err_after status false (Err f) always lists two as_told meets failed kept line found whole is those part cut refused =
      let as_result : Fault → Result DryRun Fault = λ g. Err g in
      inl (inl (record { fault = f; meets = (meets, λ of. failed (ap as_result of)); silent = kept refl; line = line }), (refused refl).1)

  -- no line is run at status 2 by what doesn't go on without names
  pub no_run : (asks : Bool) (status : ℕ) (is_whole : Bool) (got : Result DryRun Fault) (always : List AlwaysRun) → goes_without profile goes_on ≡ false →
      status ≡ 2 → IfOk got Told → (is_whole ≡ true → IsOk got) →
      (is_whole ≡ true → IfOk got (λ run. status ≡ with_unmade run.unmade.items (shown_status asks run.lists_any))) →
      (is_whole ≡ false → (status ≡ 2) × (always ≡ [])) → always ≡ []
  no_run asks status false got always stays two told found is refused = (refused refl).1
  no_run asks status true (Ok run) always stays two (items, are, tells) found is refused =
      let graph = tells.planned.graph in
      let none : map (λ u. u.name) run.unmade.items ≡ [] = tells.planned.names ∙ ap (map (name_at graph.names)) (tells.planned.is_graph.all_made stays) in
      absurd (some_unmade run.unmade.items asks run.lists_any (sym two ∙ is refl) (no_names (λ u. u.name) run.unmade.items none))
  no_run asks status true (Err f) always stays two told found is refused = absurd (no_value (found refl))

  -- where nothing is told and no recipe printed, nothing goes out
  nothing_shown : (run : DryRun) → Told run → telling ≡ tellings.Nothing → recipes ≡ false → run.text.items ≡ []
  nothing_shown run (items, are, tells) nothing none =
      tells.text ∙ ap (λ t. listing_text t recipes tells.plan) nothing ∙ ap (λ r. listing_text tellings.Nothing r tells.plan) none
      ∙ no_text tells.plan

  pub silent_plan : (old new : Option (List ℕ)) (is_whole : Bool) (got : Result DryRun Fault) → IfOk got Told →
      telling ≡ tellings.Nothing → recipes ≡ false →
      (is_whole ≡ true → IfOk got (λ run. Appends old new run.text.items)) → (is_whole ≡ false → IfOk got (λ run. AppendsPart old new run.text.items)) →
      (IsErr got → Keeps old new) → Keeps old new
  silent_plan old new true (Ok run) told nothing none whole part refused =
      none_appended old new run.text.items (nothing_shown run told nothing none) (whole refl)
  silent_plan old new false (Ok run) told nothing none whole part refused =
      absurd (no_part old new run.text.items (nothing_shown run told nothing none) (part refl))
  silent_plan old new is_whole (Err f) told nothing none whole part refused = refused refl

pub told_of : (world : World) (looks : List ℕ → Option FileLook) (makefiles : Makefiles)
    (profile : Profile) (definitions defined environment : List Variable) (targets : List (List ℕ)) (all goes_on : Bool) (disk_honest : Type 0) (seen : Which → List ℕ)
    (telling : Telling) (recipes : Bool) (got : Result DryRun Fault) → defined ≡ definitions →
    IfOk got (Told world looks makefiles profile defined environment targets all goes_on disk_honest seen telling recipes) →
    IfOk got (Told world looks makefiles profile definitions environment targets all goes_on disk_honest seen telling recipes)
told_of world looks makefiles profile definitions defined environment targets all goes_on disk_honest seen telling recipes got is_defined told =
    subst (λ d. IfOk got (Told world looks makefiles profile d environment targets all goes_on disk_honest seen telling recipes)) is_defined told

pub fault_of : (world : World) (looks : List ℕ → Option FileLook) (makefiles : Makefiles)
    (profile : Profile) (definitions defined environment : List Variable) (targets : List (List ℕ)) (all goes_on : Bool) (refuses : List ℕ → Type 0) (disk_honest : Type 0)
    (seen : Which → List ℕ) (got : Result DryRun Fault) → defined ≡ definitions →
    IfErr got (IsFaultOf world looks makefiles profile defined environment targets all goes_on refuses disk_honest seen) →
    IfErr got (IsFaultOf world looks makefiles profile definitions environment targets all goes_on refuses disk_honest seen)
fault_of world looks makefiles profile definitions defined environment targets all goes_on refuses disk_honest seen got is_defined meets =
    subst (λ d. IfErr got (IsFaultOf world looks makefiles profile d environment targets all goes_on refuses disk_honest seen)) is_defined meets
