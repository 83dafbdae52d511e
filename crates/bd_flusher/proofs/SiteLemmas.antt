-- What is true of a site stays true of it.
use Rattle.std.proofs.Common.{◌≡◌, ◌⊎◌, ℕ, suc, ◌+◌, ◌<◌, ◌^◌, Bool, true, false, List, [], ◌∷◌, ◌++◌, length, map, refl, sym, ap, subst, ◌∙◌, inl, inr, arith, length-append}
use Rattle.std.specs.List.{AllByRecursion}
use Rattle.st_disk.specs.declared.which.Which.{Which}
use Rattle.st_disk.specs.Moments.{Moments, now, Throughout}
use Rattle.st_disk.proofs.MomentLaws.{at_end}
use Rattle.st_records.specs.declared.version.Form.{Form}
use Rattle.st_records.specs.declared.record.Record.{Record}
use Rattle.st_state.specs.State.{StateMap, replay}
use Rattle.st_recovery.specs.Stored.{AllRecoverIn, AllRecoverEitherIn}
use Rattle.st_recovery.proofs.StoredLemmas.{replay-append}
use Rattle.bd_ledger.specs.Sheet.{IsWritableIn, AreWritableIn}
use Rattle.bd_flusher.specs.Batches.{AreIncreasing, last_of}
use Rattle.bd_flusher.specs.Parts.{Parts}
use Rattle.bd_flusher.specs.Site.{FactsIn, facts_in, first_facts_in, told_state, held_state, IsSiteIn, holding_in}
use Rattle.bd_flusher.proofs.ListLemmas.{all_both}
use Rattle.bd_flusher.proofs.BatchLemmas.{AreIncreasing-push, last_of-push}
use Rattle.bd_flusher.proofs.ImageLemmas.{first_of_either, either_is_one}

pub length_zero : {X : Type 0} (xs : List X) → length xs ≡ 0 → xs ≡ []
length_zero [] e = refl
length_zero (x ∷ xs) e = absurd (omega (arith, e))

pub some_or_none : {X : Type 0} (xs : List X) → (xs ≡ []) ⊎ (0 < length xs)
some_or_none [] = inl refl
some_or_none (x ∷ xs) = inr (omega arith)

pub each_record : (notes : List (ℕ × Record)) → length (map (λ n. n.1) notes) ≡ length notes
each_record [] = refl
each_record (n ∷ ns) = ap suc (each_record ns)

module _ {D : Type 0} (honest : Type 0) (moments : D → Moments) where
  -- a site at first
  pub first_site : (disk : D) (side : Which) (form newest : Form) (generation end : ℕ) (state : StateMap) → (honest → AllRecoverIn newest state (now (moments disk)))
      → IsSiteIn honest moments (first_facts_in disk side form newest generation end state)
  first_site disk side form newest generation end state all = record {
    told_writable = tt;
    held_writable = tt;
    each_ticket = refl;
    few = omega arith;
    folded = refl;
    increasing = tt;
    last = refl;
    recovers = λ is_honest alive. all is_honest;
    recovers_either = λ is_honest. first_of_either state state (now (moments disk)) (all is_honest);
  }

  -- its store has moved, and has the same state and writes the same form
  pub site_with : (s : FactsIn D) (p : Parts D) (ends : List ℕ) (size : ℕ) → IsSiteIn honest moments s → p.newest ≡ s.newest → p.state ≡ s.state → ends ≡ s.ends
      → (honest → p.dead ≡ false → AllRecoverIn s.newest (told_state s) (now (moments p.disk))) → (honest → AllRecoverEitherIn s.newest (told_state s) (held_state s) (now (moments p.disk)))
      → IsSiteIn honest moments (facts_in p s.opening s.told s.tickets s.held ends size)
  site_with s p ends size is newest same same_ends alive either = record {
    told_writable = subst (λ (f : Form). AllByRecursion (IsWritableIn f) s.told) (sym newest) is.told_writable;
    held_writable = subst (λ (f : Form). AllByRecursion (IsWritableIn f) s.held) (sym newest) is.held_writable;
    each_ticket = is.each_ticket;
    few = is.few;
    folded = same ∙ is.folded;
    increasing = subst (AreIncreasing 0) (sym same_ends) is.increasing;
    last = ap (last_of 0) same_ends ∙ is.last;
    recovers = λ is_honest still. subst (λ (f : Form). AllRecoverIn f (told_state s) (now (moments p.disk))) (sym newest) (alive is_honest still);
    recovers_either = λ is_honest. subst (λ (f : Form). AllRecoverEitherIn f (told_state s) (held_state s) (now (moments p.disk))) (sym newest) (either is_honest);
  }

  -- what it held is told
  pub flushed_site : (s : FactsIn D) (p : Parts D) (told : List Record) (tickets : List ℕ) (held : List Record) (ends : List ℕ) (size : ℕ)
      → IsSiteIn honest moments s → 0 < length s.held → p.newest ≡ s.newest → p.state ≡ replay s.state s.held → told ≡ s.told ++ s.held → tickets ≡ [] → held ≡ [] → ends ≡ s.ends ++ length told ∷ []
      → (honest → AllRecoverIn p.newest p.state (now (moments p.disk))) → IsSiteIn honest moments (facts_in p s.opening told tickets held ends size)
  flushed_site s p told tickets held ends size is some newest folds grown no_tickets none one_more all =
      let long : length told ≡ length s.told + length s.held = ap length grown ∙ length-append s.told s.held in
      let nothing : length held ≡ 0 = ap length none in
      let folded : p.state ≡ replay s.opening told =
      folds ∙ ap (λ (m : StateMap). replay m s.held) is.folded ∙ sym (replay-append s.opening s.told s.held) ∙ ap (replay s.opening) (sym grown) in
      let recovers : honest → AllRecoverIn p.newest (replay s.opening told) (now (moments p.disk)) = λ is_honest. subst (λ (m : StateMap). AllRecoverIn p.newest m (now (moments p.disk))) folded (all is_honest) in
      record {
        told_writable = subst (λ (f : Form). AllByRecursion (IsWritableIn f) told) (sym newest)
            (subst (AllByRecursion (IsWritableIn s.newest)) (sym grown) (all_both (IsWritableIn s.newest) s.told s.held is.told_writable is.held_writable));
        held_writable = subst (AllByRecursion (IsWritableIn p.newest)) (sym none) tt;
        each_ticket = ap length no_tickets ∙ sym nothing;
        few = omega (arith, long, nothing, is.few);
        folded = folded;
        increasing = subst (AreIncreasing 0) (sym one_more) (AreIncreasing-push 0 s.ends (length told) is.increasing (omega (arith, is.last, long, some)));
        last = ap (last_of 0) one_more ∙ last_of-push 0 s.ends (length told);
        recovers = λ is_honest alive. recovers is_honest;
        recovers_either = λ is_honest. first_of_either (replay s.opening told) (replay (replay s.opening told) held) (now (moments p.disk)) (recovers is_honest);
      }

  -- it holds what was drained
  holding_site : (s : FactsIn D) (notes : List (ℕ × Record)) → IsSiteIn honest moments s → s.held ≡ [] → AreWritableIn s.newest notes → length s.told + length notes < 2 ^ 64 → IsSiteIn honest moments (holding_in notes s)
  holding_site s notes is none writable few = record {
    told_writable = is.told_writable;
    held_writable = each_writable notes writable;
    each_ticket = both_long notes;
    few = omega (arith, few, each_record notes);
    folded = is.folded;
    increasing = is.increasing;
    last = is.last;
    recovers = is.recovers;
    recovers_either = λ is_honest.
        either_is_one (told_state s) (held_state s) (replay (told_state s) (map (λ n. n.1) notes)) (now (moments s.disk)) (ap (replay (told_state s)) none) (is.recovers_either is_honest);
  }
    where
      each_writable : (notes : List (ℕ × Record)) → AreWritableIn s.newest notes → AllByRecursion (IsWritableIn s.newest) (map (λ n. n.1) notes)
      each_writable [] writable = tt
      each_writable (n ∷ ns) writable = (writable.0, each_writable ns writable.1)

      both_long : (notes : List (ℕ × Record)) → length (map (λ n. n.0) notes) ≡ length (map (λ n. n.1) notes)
      both_long [] = refl
      both_long (n ∷ ns) = ap suc (both_long ns)

  -- so it does, of the lists that have come of them
  pub taken_site : (s : FactsIn D) (notes : List (ℕ × Record)) (told : List Record) (tickets : List ℕ) (held : List Record) → IsSiteIn honest moments s → s.held ≡ [] → AreWritableIn s.newest notes → length s.told + length notes < 2 ^ 64
      → told ≡ s.told → tickets ≡ map (λ n. n.0) notes → held ≡ map (λ n. n.1) notes → IsSiteIn honest moments (record s { told = told; tickets = tickets; held = held })
  taken_site s notes told tickets held is none writable few same those these =
      let all : holding_in notes s ≡ record s { told = told; tickets = tickets; held = held } = cc in
      subst (IsSiteIn honest moments) all (holding_site s notes is none writable few)

-- ---- what its methods ask for

-- what a compaction leaves of its store, whatever it answered
pub tidied_site : {D : Type 0} {honest : Type 0} {moments : D → Moments} (s : FactsIn D) (disk : D) → honest → IsSiteIn honest moments s → s.dead ≡ false → Throughout (moments s.disk) (moments disk) (AllRecoverIn s.newest s.state)
    → AllRecoverIn s.newest (told_state s) (now (moments disk)) × AllRecoverEitherIn s.newest (told_state s) (held_state s) (now (moments disk))
tidied_site {moments = moments} s disk is_honest is alive so_far =
    let all : AllRecoverIn s.newest (told_state s) (now (moments disk)) = subst (λ (m : StateMap). AllRecoverIn s.newest m (now (moments disk))) is.folded (at_end so_far) in
    (all, first_of_either (told_state s) (held_state s) (now (moments disk)) all)

-- the same, where it may be that the site was dead, and nothing has changed
pub tidied_or_dead : {D : Type 0} {honest : Type 0} {moments : D → Moments} (s : FactsIn D) (disk : D) (dead : Bool) → IsSiteIn honest moments s
    → (honest → s.dead ≡ false → Throughout (moments s.disk) (moments disk) (AllRecoverIn s.newest s.state)) → (s.dead ≡ true → (disk ≡ s.disk) × (dead ≡ s.dead))
    → (honest → dead ≡ false → AllRecoverIn s.newest (told_state s) (now (moments disk))) × (honest → AllRecoverEitherIn s.newest (told_state s) (held_state s) (now (moments disk)))
tidied_or_dead {D = D} {honest = honest} {moments = moments} s disk dead is so_far same = by s.dead refl
  where
    by : (b : Bool) → s.dead ≡ b
        → (honest → dead ≡ false → AllRecoverIn s.newest (told_state s) (now (moments disk))) × (honest → AllRecoverEitherIn s.newest (told_state s) (held_state s) (now (moments disk)))
    by false alive = (
      (λ is_honest still. (tidied_site s disk is_honest is alive (so_far is_honest alive)).0),
      (λ is_honest. (tidied_site s disk is_honest is alive (so_far is_honest alive)).1),
    )
    by true was_dead = let still = same was_dead in (
      (λ is_honest alive. subst (λ (d : D). AllRecoverIn s.newest (told_state s) (now (moments d))) (sym still.0) (is.recovers is_honest (sym still.1 ∙ alive))),
      (λ is_honest. subst (λ (d : D). AllRecoverEitherIn s.newest (told_state s) (held_state s) (now (moments d))) (sym still.0) (is.recovers_either is_honest)),
    )

-- what a commit leaves of it, where it failed
pub faulted_site : {D : Type 0} {honest : Type 0} {moments : D → Moments} (s : FactsIn D) (mid disk : D) → honest → IsSiteIn honest moments s → Throughout (moments mid) (moments disk) (AllRecoverEitherIn s.newest s.state (replay s.state s.held))
    → AllRecoverEitherIn s.newest (told_state s) (held_state s) (now (moments disk))
faulted_site {moments = moments} s mid disk is_honest is so_far =
    subst (λ (m : StateMap). AllRecoverEitherIn s.newest m (replay m s.held) (now (moments disk))) is.folded (at_end so_far)
