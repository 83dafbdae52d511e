-- What a flush or a compaction does, whatever it answers, is a list of steps.
use Rattle.std.proofs.Common.{◌≡◌, ◌⊎◌, ℕ, zero, suc, ◌+◌, ◌-◌, ◌<◌, ◌≤◌, Bool, true, false, List, [], ◌∷◌, ◌++◌, length, take, Result, Ok, Err, refl, sym, ap, subst, ◌∙◌, inl, inr, arith, length-append, append-nil, take-append-drop, drop, map as list_map}
use Rattle.std.specs.List.{AllByRecursion}
use Rattle.std.proofs.lemmas.Bool.{cases_lt}
use Rattle.st_disk.specs.declared.which.Which.{Which}
use Rattle.st_disk.specs.Crash.{Sides}
use Rattle.st_disk.specs.Moments.{Moments, now, Throughout}
use Rattle.st_disk.proofs.MomentLaws.{at_end}
use Rattle.st_records.specs.declared.version.Form.{Form}
use Rattle.st_records.specs.declared.record.Record.{Record}
use Rattle.st_state.specs.State.{StateMap, replay}
use Rattle.st_recovery.specs.Stored.{AllRecoverIn, AllRecoverEitherIn}
use Rattle.st_recovery.proofs.StoredLemmas.{replay-append}
use Rattle.bd_flusher.specs.declared.fault.FlushFault.{FlushFault}
use Rattle.bd_flusher.specs.declared.fault.FlushFault.TheVariants as faults
use Rattle.bd_flusher.specs.Batches.{StandsAt, IsInBatch}
use Rattle.bd_flusher.specs.Site.{FactsIn, KeepsRecords, told_state, held_state}
use Rattle.bd_flusher.specs.Tidying.{TidyAnswerIn}
use Rattle.bd_flusher.specs.Flushing.{Flushes, CompactsFirst, FlushAnswerIn}
use Rattle.bd_flusher.proofs.ListLemmas.{all_both, take-whole, at-take_back}
use Rattle.bd_flusher.proofs.SiteLemmas.{some_or_none}
use Rattle.bd_flusher.proofs.FlushLemmas.{device_or_not, not_both, err_is, dead_unchanged}
use Rattle.bd_steps.specs.World.{World, state_after}
use Rattle.bd_steps.specs.Event.{Event, compaction_call, commit_call, commit_end}
use Rattle.bd_steps.specs.Run.{IsRun, after_all}
use Rattle.bd_steps.specs.Steps.{IsLeftBy, IsOfFlush, AreCalls, Closes, is_told, nothing_done, compaction_refused, commit_refused, else_refused, ComesBy, AreStepsOf, FlushesAreRunsIn, AreStepsOfTidying, TidyingsAreRunsIn, LooksAreStepsIn, TakesAreStepsIn, NewIsOpenedIn}
use Rattle.bd_steps.proofs.CallLemmas.{run_append, after_all-append, take_past, calm, sides_after, calls, calls_run, calls_leave, sides_of_some, calls_own, calls_count, are_calls, moment_after}

module _ {D : Type 0} (T : Type 0) (honest : Type 0) (moments : D → Moments) (seen : D → Which → List ℕ) (count : D → ℕ) where
  -- what was told, and what is held too, by the steps so far
  told_by : (s : FactsIn D) (w : World) → IsLeftBy moments s w → told_state s ≡ state_after w w.told
  told_by s w left = ap (λ (m : StateMap). replay m s.told) left.opening ∙ ap (replay w.opening) left.told

  held_by : (s : FactsIn D) (w : World) → IsLeftBy moments s w → held_state s ≡ state_after w w.taken
  held_by s w left = sym (replay-append s.opening s.told s.held) ∙ ap (λ (m : StateMap). replay m (s.told ++ s.held)) left.opening ∙ ap (replay w.opening) left.taken

  moments_by : (s : FactsIn D) (w : World) {m0 m1 : Moments} → IsLeftBy moments s w → Throughout m0 m1 (AllRecoverEitherIn s.newest (told_state s) (held_state s))
      → Throughout m0 m1 (AllRecoverEitherIn w.form (state_after w w.told) (state_after w w.taken))
  moments_by s w {m0} {m1} left so_far =
      subst (λ (f : Form). Throughout m0 m1 (AllRecoverEitherIn f (state_after w w.told) (state_after w w.taken))) left.form
      (subst (λ (m : StateMap). Throughout m0 m1 (AllRecoverEitherIn s.newest m (state_after w w.taken))) (told_by s w left)
      (subst (λ (m : StateMap). Throughout m0 m1 (AllRecoverEitherIn s.newest (told_state s) m)) (held_by s w left) so_far))

  -- the same of a compaction
  told_moments : (s : FactsIn D) (w : World) {m0 m1 : Moments} → IsLeftBy moments s w → Throughout m0 m1 (AllRecoverIn s.newest (told_state s))
      → Throughout m0 m1 (AllRecoverIn w.form (state_after w w.told))
  told_moments s w {m0} {m1} left so_far =
      subst (λ (f : Form). Throughout m0 m1 (AllRecoverIn f (state_after w w.told))) left.form
      (subst (λ (m : StateMap). Throughout m0 m1 (AllRecoverIn s.newest m)) (told_by s w left) so_far)

  -- it has told all
  at_ok : (old new : FactsIn D) (x : T) (w : World) → honest → Flushes honest moments old new (Ok x) → IsLeftBy moments old w → w.told < w.taken → 0 < length old.held
      → IsRun (record w { sides = now (moments new.disk); dead = false }) (commit_end ∷ [])
      × IsLeftBy moments new (after_all (record w { sides = now (moments new.disk); dead = false }) (commit_end ∷ []))
  at_ok old new x w is_honest f left more some =
      let told : new.told ≡ take w.taken w.submitted = f.ok.told ∙ left.taken in
      let long : length new.told ≡ w.taken = ap length f.ok.told ∙ length-append old.told old.held ∙ left.both in
      let state : told_state new ≡ state_after w w.taken =
      ap (λ (m : StateMap). replay m new.told) (f.ok.opening ∙ left.opening) ∙ ap (replay w.opening) told in (
        (left.running, (refl, more, subst (λ (form : Form). AllRecoverIn form (state_after w w.taken) (now (moments new.disk))) left.form (subst (λ (m : StateMap). AllRecoverIn old.newest m (now (moments new.disk))) state (f.done is_honest))), tt),
        record {
          form = f.ok.newest ∙ left.form;
          opening = f.ok.opening ∙ left.opening;
          told = told;
          count = long;
          taken = ap (λ l. new.told ++ l) f.ok.held ∙ append-nil new.told ∙ told;
          both = let none : length new.held ≡ 0 = ap length f.ok.held in omega (arith, long, none);
          ends = f.ok.ends some ∙ ap (λ l. l ++ (length old.told + length old.held) ∷ []) left.ends ∙ ap (λ n. w.ends ++ n ∷ []) left.both;
          dead = f.alive.1;
          sides = refl;
          running = left.running;
        },
      )

  -- it was refused
  as_before : (old new : FactsIn D) (w : World) (dead : Bool) → KeepsRecords old new → IsLeftBy moments old w → new.dead ≡ dead
      → IsLeftBy moments new (record w { sides = now (moments new.disk); dead = dead })
  as_before old new w dead kept left is = record {
    form = kept.newest ∙ left.form;
    opening = kept.opening ∙ left.opening;
    told = kept.told ∙ left.told;
    count = ap length kept.told ∙ left.count;
    taken = ap (λ l. l ++ new.held) kept.told ∙ ap (λ l. old.told ++ l) kept.held ∙ left.taken;
    both = let t : length new.told ≡ length old.told = ap length kept.told in let h : length new.held ≡ length old.held = ap length kept.held in omega (arith, t, h, left.both);
    ends = kept.ends ∙ left.ends;
    dead = is;
    sides = refl;
    running = left.running;
  }

  -- the steps, from what holds after all the calls that weren't refused
  by_calls : (old new : FactsIn D) (result : Result T FlushFault) (w : World) (between : Moments) (n m : ℕ) (closing : List Event) → IsLeftBy moments old w → old.dead ≡ false → w.told < w.taken
      → (moments old.disk).newest + n ≡ between.newest → between.newest + m ≡ (moments new.disk).newest
      → Throughout (moments old.disk) between (AllRecoverIn w.form (state_after w w.told))
      → Throughout between (moments new.disk) (AllRecoverEitherIn w.form (state_after w w.told) (state_after w w.taken))
      → AllByRecursion IsOfFlush closing → Closes moments old new result closing
      → IsRun (calm w (now (moments new.disk))) closing → IsLeftBy moments new (after_all (calm w (now (moments new.disk))) closing)
      → (events : List Event) × AreStepsOf moments old new result w events
  by_calls old new result w between n m closing left alive more moved goes first second own closes run_closing left_closing =
      let at : ℕ → Sides = (moments new.disk).at in
      let o : ℕ = (moments old.disk).newest in
      let compaction : List Event = calls compaction_call at (suc o) n in
      let commit : List Event = calls commit_call at (suc between.newest) m in
      let is_calm : calm w w.sides ≡ w = ap (λ (b : Bool). record w { dead = b }) (sym (sym left.dead ∙ alive)) in
      let old_at : at o ≡ now (moments old.disk) = second.kept o (omega (arith, moved)) ∙ first.kept o (omega arith) in
      let mid_at : at between.newest ≡ now between = second.kept between.newest (omega arith) in
      let to_mid : sides_after w.sides at (suc o) n ≡ now between = moment_after (moments old.disk) at w.sides n between.newest left.sides (omega (arith, moved)) old_at ∙ mid_at in
      let to_new : sides_after (now between) at (suc between.newest) m ≡ now (moments new.disk) = moment_after between at (now between) m (moments new.disk).newest refl (omega (arith, goes)) mid_at in
      let compacted : after_all (calm w w.sides) compaction ≡ calm w (now between) = calls_leave compaction_call (λ v s. refl) w w.sides at (suc o) n ∙ ap (calm w) to_mid in
      let committed : after_all (calm w (now between)) commit ≡ calm w (now (moments new.disk)) = calls_leave commit_call (λ v s. refl) w (now between) at (suc between.newest) m ∙ ap (calm w) to_new in
      let run_first : IsRun (calm w w.sides) compaction = calls_run compaction_call (λ v s. refl) w w.sides at (suc o) n left.running (λ before k le lt.
      (refl, subst (AllRecoverIn w.form (state_after w w.told)) (sym (second.kept k (omega (arith, lt, moved)))) (first.each k (omega (arith, le)) (omega (arith, lt, moved))))) in
      let run_second : IsRun (calm w (now between)) commit = calls_run commit_call (λ v s. refl) w (now between) at (suc between.newest) m left.running (λ before k le lt.
      (refl, more, second.each k (omega (arith, le)) (omega (arith, lt, goes)))) in
      let run_behind : IsRun (calm w (now between)) (commit ++ closing) = run_append (calm w (now between)) commit closing run_second (subst (λ (v : World). IsRun v closing) (sym committed) run_closing) in
      let run_all : IsRun (calm w w.sides) (compaction ++ (commit ++ closing)) = run_append (calm w w.sides) compaction (commit ++ closing) run_first (subst (λ (v : World). IsRun v (commit ++ closing)) (sym compacted) run_behind) in
      let leaves : after_all (calm w w.sides) (compaction ++ (commit ++ closing)) ≡ after_all (calm w (now (moments new.disk))) closing =
      after_all-append (calm w w.sides) compaction (commit ++ closing) ∙ ap (λ (v : World). after_all v (commit ++ closing)) compacted
      ∙ after_all-append (calm w (now between)) commit closing ∙ ap (λ (v : World). after_all v closing) committed in
      let passes : (k : ℕ) → o ≤ k → k ≤ (moments new.disk).newest → ComesBy (calm w w.sides) (compaction ++ (commit ++ closing)) (at k) = λ k from_old to_end.
      elim (cases_lt between.newest k) [
        | inl later ↦
            let j : ℕ = k - between.newest in
            let is : k ≡ between.newest + j = omega (arith, later) in
            let some : take (n + j) (compaction ++ (commit ++ closing)) ≡ compaction ++ take j (commit ++ closing) =
            take_past compaction (commit ++ closing) (n + j) j (omega (arith, calls_count compaction_call at (suc o) n)) in (
              n + j,
              ap (λ (l : List Event). (after_all (calm w w.sides) l).sides) some
                  ∙ ap (λ (v : World). v.sides) (after_all-append (calm w w.sides) compaction (take j (commit ++ closing)) ∙ ap (λ (v : World). after_all v (take j (commit ++ closing))) compacted)
                  ∙ sides_of_some commit_call (λ v s. refl) w (now between) at (suc between.newest) m j closing (omega (arith, is, to_end, goes))
                  ∙ moment_after between at (now between) j k refl is mid_at,
            )
        | inr earlier ↦
            let j : ℕ = k - o in
            let is : k ≡ o + j = omega (arith, from_old) in
            (j, sides_of_some compaction_call (λ v s. refl) w w.sides at (suc o) n j (commit ++ closing) (omega (arith, is, earlier, moved)) ∙ moment_after (moments old.disk) at w.sides j k left.sides is old_at)
      ] in (
        compaction ++ (commit ++ closing),
        record {
          own = all_both IsOfFlush compaction (commit ++ closing) (calls_own IsOfFlush compaction_call (λ s. tt) at (suc o) n) (all_both IsOfFlush commit closing (calls_own IsOfFlush commit_call (λ s. tt) at (suc between.newest) m) own);
          in_order = record {
            between = between;
            compaction = compaction;
            commit = commit;
            closing = closing;
            all = refl;
            compacts = are_calls compaction_call (moments old.disk) between at n moved (λ k le. second.kept k le);
            commits = are_calls commit_call between (moments new.disk) at m goes (λ k le. refl);
            closes = closes;
          };
          run = subst (λ (v : World). IsRun v (compaction ++ (commit ++ closing))) is_calm run_all;
          left = subst (λ (v : World). IsLeftBy moments new (after_all v (compaction ++ (commit ++ closing)))) is_calm (subst (IsLeftBy moments new) (sym leaves) left_closing);
          each_moment = λ k from_old to_end. subst (λ (v : World). ComesBy v (compaction ++ (commit ++ closing)) (at k)) is_calm (passes k from_old to_end);
        },
      )

  some_held : (old new : FactsIn D) (result : Result T FlushFault) (w : World) → honest → Flushes honest moments old new result → CompactsFirst honest moments seen old new → old.dead ≡ false → IsLeftBy moments old w → 0 < length old.held
      → (events : List Event) × AreStepsOf moments old new result w events
  some_held old new result w is_honest f two alive left some =
      let between : Moments = moments two.between.disk in
      let first : Throughout (moments old.disk) between (AllRecoverIn w.form (state_after w w.told)) = told_moments old w left (two.compaction is_honest) in
      let second = moments_by old w left (two.commit is_honest) in
      let n : ℕ = between.newest - (moments old.disk).newest in
      let m : ℕ = (moments new.disk).newest - between.newest in
      let moved : (moments old.disk).newest + n ≡ between.newest = omega (arith, first.no_fewer) in
      let goes : between.newest + m ≡ (moments new.disk).newest = omega (arith, second.no_fewer) in
      let more : w.told < w.taken = omega (arith, left.count, left.both, some) in
      by result f two.between.dead refl first second n m moved goes more
    where
      by : (result : Result T FlushFault) → Flushes honest moments old new result → (dead : Bool) → two.between.dead ≡ dead
          → Throughout (moments old.disk) (moments two.between.disk) (AllRecoverIn w.form (state_after w w.told))
          → Throughout (moments two.between.disk) (moments new.disk) (AllRecoverEitherIn w.form (state_after w w.told) (state_after w w.taken))
          → (n m : ℕ) → (moments old.disk).newest + n ≡ (moments two.between.disk).newest → (moments two.between.disk).newest + m ≡ (moments new.disk).newest → w.told < w.taken
          → (events : List Event) × AreStepsOf moments old new result w events
      by (Ok x) f true dead first second n m moved goes more =
          absurd (not_both new.dead (ap (λ (s : FactsIn D). s.dead) (two.refused dead) ∙ dead) f.alive.1)
      by (Ok x) f false dead first second n m moved goes more =
          let end = at_ok old new x w is_honest f left more some in
          by_calls old new (Ok x) w (moments two.between.disk) n m (commit_end ∷ []) left alive more moved goes first second (tt, tt) (is_told some) end.0 end.1
      by (Err fault) f true dead first second n m moved goes more =
          let new_dead : new.dead ≡ true = ap (λ (s : FactsIn D). s.dead) (two.refused dead) ∙ dead in
          let disk : moments two.between.disk ≡ moments new.disk = ap (λ (s : FactsIn D). moments s.disk) (sym (two.refused dead)) in
          let is_device : fault ≡ faults.Device = elim f.others [
            | inl device ↦ err_is {T = T} fault faults.Device device
            | inr same ↦ absurd (not_both new.dead new_dead (same ∙ alive))
          ] in
          by_calls old new (Err fault) w (moments two.between.disk) n m (compaction_call (now (moments new.disk)) true ∷ []) left alive more moved goes first second (tt, tt)
          (subst (λ (e : FlushFault). Closes {T = T} moments old new (Err e) (compaction_call (now (moments new.disk)) true ∷ [])) (sym is_device) compaction_refused)
          (left.running, (refl, subst (λ (x : Moments). AllRecoverIn w.form (state_after w w.told) (now x)) disk (at_end first)), tt)
          (as_before old new w true f.err left new_dead)
      by (Err fault) f false dead first second n m moved goes more = elim (device_or_not fault) [
        | inl device ↦
            by_calls old new (Err fault) w (moments two.between.disk) n m (commit_call (now (moments new.disk)) true ∷ []) left alive more moved goes first second (tt, tt)
            (subst (λ (e : FlushFault). Closes {T = T} moments old new (Err e) (commit_call (now (moments new.disk)) true ∷ [])) (sym device) commit_refused)
            (left.running, (refl, more, at_end second), tt)
            (as_before old new w true f.err left (f.device (ap Err device)))
        | inr other ↦
            let still : new.dead ≡ false = elim f.others [ inl device ↦ absurd (other (err_is {T = T} fault faults.Device device)) | inr same ↦ same ∙ alive ] in
            by_calls old new (Err fault) w (moments two.between.disk) n m [] left alive more moved goes first second tt (else_refused other) tt (as_before old new w false f.err left still)
      ]

  same_moments : {old new : FactsIn D} → new ≡ old → moments new.disk ≡ moments old.disk
  same_moments same = ap (λ (s : FactsIn D). moments s.disk) same

  none_between : (call : Sides → Bool → Event) (old new : Moments) → new ≡ old → AreCalls call old new []
  none_between call old new same = record {
    each_one = let e : new.newest ≡ old.newest = ap (λ (x : Moments). x.newest) same in omega (arith, e);
    in_order = λ place lt. absurd (omega (arith, lt));
  }

  nothing_changed : (old new : FactsIn D) (result : Result T FlushFault) (w : World) → new ≡ old → IsLeftBy moments old w → (events : List Event) × AreStepsOf moments old new result w events
  nothing_changed old new result w same left = (
    [],
    record {
      own = tt;
      in_order = record {
        between = moments old.disk;
        compaction = [];
        commit = [];
        closing = [];
        all = refl;
        compacts = none_between compaction_call (moments old.disk) (moments old.disk) refl;
        commits = none_between commit_call (moments old.disk) (moments new.disk) (same_moments same);
        closes = nothing_done same;
      };
      run = tt;
      left = subst (λ (s : FactsIn D). IsLeftBy moments s w) (sym same) left;
      each_moment = λ k from_old to_new.
          let m : moments new.disk ≡ moments old.disk = same_moments same in
          let newest : (moments new.disk).newest ≡ (moments old.disk).newest = ap (λ (x : Moments). x.newest) m in
          let e : (moments old.disk).newest ≡ k = omega (arith, from_old, to_new, newest) in
          (zero, sym left.sides ∙ ap (moments old.disk).at e ∙ ap (λ (x : Moments). x.at k) (sym m));
    },
  )

  pub flushes_are_runs : FlushesAreRunsIn T honest moments seen count
  flushes_are_runs = λ old new result w is_honest f left. by old new result w is_honest f left old.dead refl
    where
      by : (old new : FactsIn D) (result : Result T FlushFault) (w : World) → honest → FlushAnswerIn honest moments seen count old new result → IsLeftBy moments old w
          → (b : Bool) → old.dead ≡ b → (events : List Event) × AreStepsOf moments old new result w events
      by old new result w is_honest f left true dead = nothing_changed old new result w (f.flushes.was_dead dead) left
      by old new result w is_honest f left false alive = elim (some_or_none old.held) [
        | inl none ↦ nothing_changed old new result w (f.flushes.none none) left
        | inr some ↦ some_held old new result w is_honest f.flushes (f.in_order alive) alive left some
      ]

  -- ---- a compaction alone

  by_tidying : (old new : FactsIn D) (w : World) (n : ℕ) (refused : List Event) → IsLeftBy moments old w → old.dead ≡ false → (moments old.disk).newest + n ≡ (moments new.disk).newest
      → Throughout (moments old.disk) (moments new.disk) (AllRecoverIn w.form (state_after w w.told))
      → (refused ≡ []) ⊎ (refused ≡ compaction_call (now (moments new.disk)) true ∷ [])
      → IsRun (calm w (now (moments new.disk))) refused → IsLeftBy moments new (after_all (calm w (now (moments new.disk))) refused)
      → (events : List Event) × AreStepsOfTidying moments old new w events
  by_tidying old new w n refused left alive moved so_far one run_refused left_refused =
      let at : ℕ → Sides = (moments new.disk).at in
      let o : ℕ = (moments old.disk).newest in
      let made : List Event = calls compaction_call at (suc o) n in
      let is_calm : calm w w.sides ≡ w = ap (λ (b : Bool). record w { dead = b }) (sym (sym left.dead ∙ alive)) in
      let to_new : sides_after w.sides at (suc o) n ≡ now (moments new.disk) = moment_after (moments old.disk) at w.sides n (moments new.disk).newest left.sides (omega (arith, moved)) (so_far.kept o (omega arith)) in
      let compacted : after_all (calm w w.sides) made ≡ calm w (now (moments new.disk)) = calls_leave compaction_call (λ v s. refl) w w.sides at (suc o) n ∙ ap (calm w) to_new in
      let run_made : IsRun (calm w w.sides) made = calls_run compaction_call (λ v s. refl) w w.sides at (suc o) n left.running (λ before k le lt.
      (refl, so_far.each k (omega (arith, le)) (omega (arith, lt, moved)))) in (
        made ++ refused,
        record {
          calls = made;
          refused = refused;
          all = refl;
          compacts = are_calls compaction_call (moments old.disk) (moments new.disk) at n moved (λ k le. refl);
          at_most_one = one;
          run = subst (λ (v : World). IsRun v (made ++ refused)) is_calm (run_append (calm w w.sides) made refused run_made (subst (λ (v : World). IsRun v refused) (sym compacted) run_refused));
          left = subst (λ (v : World). IsLeftBy moments new (after_all v (made ++ refused))) is_calm
              (subst (IsLeftBy moments new) (sym (after_all-append (calm w w.sides) made refused ∙ ap (λ (v : World). after_all v refused) compacted)) left_refused);
        },
      )

  nothing_tidied : (old new : FactsIn D) (w : World) → new ≡ old → IsLeftBy moments old w → (events : List Event) × AreStepsOfTidying moments old new w events
  nothing_tidied old new w same left = (
    [],
    record {
      calls = [];
      refused = [];
      all = refl;
      compacts = none_between compaction_call (moments old.disk) (moments new.disk) (same_moments same);
      at_most_one = inl refl;
      run = tt;
      left = subst (λ (s : FactsIn D). IsLeftBy moments s w) (sym same) left;
    },
  )

  pub tidyings_are_runs : TidyingsAreRunsIn T honest moments seen count
  tidyings_are_runs = λ old new result w is_honest t left. by old new result w is_honest t left old.dead refl
    where
      by : (old new : FactsIn D) (result : Result T FlushFault) (w : World) → honest → TidyAnswerIn honest moments seen count old new result → IsLeftBy moments old w
          → (b : Bool) → old.dead ≡ b → (events : List Event) × AreStepsOfTidying moments old new w events
      by old new (Ok x) w is_honest t left true dead = absurd (not_both old.dead dead t.alive.0)
      by old new (Err fault) w is_honest t left true dead = nothing_tidied old new w (dead_unchanged {T = T} (Err fault) (new ≡ old) (t.dead.1 dead) t.unchanged) left
      by old new (Ok x) w is_honest t left false alive =
          let so_far : Throughout (moments old.disk) (moments new.disk) (AllRecoverIn w.form (state_after w w.told)) = told_moments old w left (t.any_moment is_honest alive) in
          let n : ℕ = (moments new.disk).newest - (moments old.disk).newest in
          by_tidying old new w n [] left alive (omega (arith, so_far.no_fewer)) so_far (inl refl) tt (as_before old new w false t.records left t.alive.1)
      by old new (Err fault) w is_honest t left false alive = elim (device_or_not fault) [
        | inl device ↦
            let so_far : Throughout (moments old.disk) (moments new.disk) (AllRecoverIn w.form (state_after w w.told)) = told_moments old w left (t.any_moment is_honest alive) in
            let n : ℕ = (moments new.disk).newest - (moments old.disk).newest in
            by_tidying old new w n (compaction_call (now (moments new.disk)) true ∷ []) left alive (omega (arith, so_far.no_fewer)) so_far (inr refl)
            (left.running, (refl, at_end so_far), tt) (as_before old new w true t.records left (t.device (ap Err device)).0)
        | inr other ↦ nothing_tidied old new w (t.unchanged other) left
      ]

  pub looks_are_steps : LooksAreStepsIn moments
  looks_are_steps = λ s w receipt left stands has.
      let back = at-take_back w.submitted w.told receipt.ticket receipt.noted (subst (λ (l : List Record). StandsAt l receipt.ticket receipt.noted) left.told stands) in
      (back.0, back.1, subst (λ (ends : List ℕ). IsInBatch 0 ends receipt.ticket receipt.batch) left.ends has)

  pub new_is_opened : NewIsOpenedIn moments
  new_is_opened = λ disk side form newest generation end state. record {
    form = refl;
    opening = refl;
    told = refl;
    count = refl;
    taken = refl;
    both = refl;
    ends = refl;
    dead = refl;
    sides = refl;
    running = refl;
  }

  pub takes_are_steps : TakesAreStepsIn moments
  takes_are_steps = λ s w notes left none are.
      let all : s.told ++ list_map (λ n. n.1) notes ≡ w.submitted = ap (λ l. s.told ++ l) are ∙ ap (λ l. l ++ drop w.told w.submitted) left.told ∙ take-append-drop w.told w.submitted in
      let nothing : length s.held ≡ 0 = ap length none in
      let long : length s.told + length (list_map (λ n. n.1) notes) ≡ length w.submitted = sym (length-append s.told (list_map (λ n. n.1) notes)) ∙ ap length all in (
        omega (arith, left.both, left.count, nothing),
        record {
          form = left.form;
          opening = left.opening;
          told = left.told;
          count = left.count;
          taken = all ∙ sym (take-whole w.submitted);
          both = long;
          ends = left.ends;
          dead = left.dead;
          sides = left.sides;
          running = left.running;
        },
      )
