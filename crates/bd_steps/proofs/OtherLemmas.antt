-- A flush's steps and those of other workers, in any order.
use Rattle.std.proofs.Common.{◌≡◌, ◌↔◌, ℕ, ◌+◌, ◌≤◌, zero, suc, Bool, List, [], ◌∷◌, length, take, None, Contains, refl, sym, ap, subst, ◌∙◌, arith, length-append}
use Rattle.std.specs.List.{AllByRecursion}
use Rattle.st_disk.specs.declared.which.Which.{Which}
use Rattle.st_disk.specs.Crash.{Sides}
use Rattle.st_disk.specs.Moments.{Moments}
use Rattle.st_records.specs.declared.version.Form.{Form}
use Rattle.st_records.specs.declared.record.Record.{Record}
use Rattle.st_records.specs.declared.record.Record.TheVariants as records
use Rattle.st_records.specs.Limits.{IsGoodIn}
use Rattle.st_records.specs.Parts.{target_of}
use Rattle.st_state.specs.State.{StateMap, replay}
use Rattle.st_recovery.specs.Stored.{AllRecoverIn, AllRecoverEitherIn}
use Rattle.bd_flusher.specs.declared.site.receipt.Receipt.{Receipt}
use Rattle.bd_flusher.specs.Batches.{StandsAt}
use Rattle.bd_steps.specs.Kind.{Kind, kind_of}
use Rattle.bd_steps.specs.Kind as kinds
use Rattle.bd_steps.specs.World.{World, state_after}
use Rattle.bd_steps.specs.Event.{Event, submit, drain, compaction_call, commit_call, commit_end, look, advance, start, finish, something_else, power_cut, IsSilentFrom, HasEnded, MayCome, MayHappen, after}
use Rattle.bd_flusher.specs.Site.{FactsIn}
use Rattle.bd_steps.specs.Steps.{IsLeftBy, IsOfFlush}
use Rattle.bd_steps.specs.Run.{IsRun, after_all}
use Rattle.bd_steps.specs.Others.{IsOfOthers, IsInOrder, DontHinder, OthersDontHinder, Interleaves, nothing, own, another, InterleavedIsRun, FlushesAmongOthersIn}
use Rattle.bd_flusher.proofs.ListLemmas.{take-front}
use Rattle.bd_steps.proofs.RunLemmas.{flushes_are_runs}

same_way : {P : Type 0} → P ↔ P
same_way = (λ p. p, λ p. p)

-- ---- the steps of a flush, and those of others

own_cases : (P : Event → Type 0) → ((sides : Sides) (failed : Bool) → P (compaction_call sides failed)) → ((sides : Sides) (failed : Bool) → P (commit_call sides failed)) → P commit_end
    → (event : Event) → IsOfFlush event → P event
own_cases P a b c (compaction_call sides failed) is = a sides failed
own_cases P a b c (commit_call sides failed) is = b sides failed
own_cases P a b c commit_end is = c
own_cases P a b c (submit note) is = absurd is
own_cases P a b c drain is = absurd is
own_cases P a b c (look receipt) is = absurd is
own_cases P a b c (advance receipt) is = absurd is
own_cases P a b c (start ticket) is = absurd is
own_cases P a b c (finish ticket) is = absurd is
own_cases P a b c something_else is = absurd is
own_cases P a b c (power_cut x y) is = absurd is

other_cases : (P : Event → Type 0) → ((note : Record) → P (submit note)) → ((receipt : Receipt) → P (advance receipt)) → ((ticket : ℕ) → P (start ticket)) → ((ticket : ℕ) → P (finish ticket)) → P something_else
    → (event : Event) → IsOfOthers event → P event
other_cases P a b c d e (submit note) is = a note
other_cases P a b c d e (advance receipt) is = b receipt
other_cases P a b c d e (start ticket) is = c ticket
other_cases P a b c d e (finish ticket) is = d ticket
other_cases P a b c d e something_else is = e
other_cases P a b c d e drain is = absurd is
other_cases P a b c d e (compaction_call sides failed) is = absurd is
other_cases P a b c d e (commit_call sides failed) is = absurd is
other_cases P a b c d e commit_end is = absurd is
other_cases P a b c d e (look receipt) is = absurd is
other_cases P a b c d e (power_cut x y) is = absurd is

-- ---- a step of each

-- one record more leaves the states as they are
fold_same : (w : World) (note : Record) (n : ℕ) → n ≤ length w.submitted → state_after (after w (submit note)) n ≡ state_after w n
fold_same w note n there = ap (replay w.opening) (take-front w.submitted (note ∷ []) n there)

either_same : (form : Form) {m n k l : StateMap} (sides : Sides) → m ≡ k → n ≡ l → AllRecoverEitherIn form m n sides → AllRecoverEitherIn form k l sides
either_same form {m} {n} {k} {l} sides first second all =
    subst (λ (x : StateMap). AllRecoverEitherIn form x l sides) first (subst (λ (x : StateMap). AllRecoverEitherIn form m x sides) second all)

ended_same : (w w' : World) → w.submitted ≡ w'.submitted → w.ended ≡ w'.ended → (target : List ℕ) → HasEnded w target → HasEnded w' target
ended_same w w' notes ended target has = record {
  ticket = has.ticket;
  first = subst (λ (l : List Record). StandsAt l has.ticket (records.Begun target)) notes has.first;
  over = subst (λ (l : List ℕ). Contains l has.ticket) ended has.over;
  silent = subst (λ (l : List Record). IsSilentFrom (has.ticket + 1) target l) notes has.silent;
}

come_same : (w w' : World) → w.submitted ≡ w'.submitted → w.ended ≡ w'.ended → (kind : Kind) (target : List ℕ) → MayCome kind w target → MayCome kind w' target
come_same w w' notes ended kinds.begun target may = subst (λ (l : List Record). IsSilentFrom 0 target l) notes may
come_same w w' notes ended kinds.done target may = ended_same w w' notes ended target may
come_same w w' notes ended kinds.failed target may = ended_same w w' notes ended target may
come_same w w' notes ended kinds.kept target may = may

submit_same : (w w' : World) (note : Record) → w.submitted ≡ w'.submitted → w.ended ≡ w'.ended → w.form ≡ w'.form → MayHappen w (submit note) ↔ MayHappen w' (submit note)
submit_same w w' note notes ended form = (
  λ may. (subst (λ (f : Form). IsGoodIn f note) form may.0, come_same w w' notes ended (kind_of note) (target_of note) may.1),
  λ may. (subst (λ (f : Form). IsGoodIn f note) (sym form) may.0, come_same w' w (sym notes) (sym ended) (kind_of note) (target_of note) may.1),
)

beside_submit : (w : World) (note : Record) → IsInOrder w → (mine : Event) → IsOfFlush mine → DontHinder w mine (submit note)
beside_submit w note order =
    let told : state_after (after w (submit note)) w.told ≡ state_after w w.told = fold_same w note w.told (omega (arith, order.told, order.taken)) in
    let taken : state_after (after w (submit note)) w.taken ≡ state_after w w.taken = fold_same w note w.taken order.taken in
    own_cases (λ mine. DontHinder w mine (submit note))
    (λ sides failed. record {
      first = (λ may. (may.0, subst (λ (m : StateMap). AllRecoverIn w.form m sides) (sym told) may.1), λ may. (may.0, subst (λ (m : StateMap). AllRecoverIn w.form m sides) told may.1));
      second = submit_same w (after w (compaction_call sides failed)) note refl refl refl;
      same = refl;
    })
    (λ sides failed. record {
      first = (λ may. (may.0, may.1, either_same w.form sides (sym told) (sym taken) may.2), λ may. (may.0, may.1, either_same w.form sides told taken may.2));
      second = submit_same w (after w (commit_call sides failed)) note refl refl refl;
      same = refl;
    })
    (record {
      first = (λ may. (may.0, may.1, subst (λ (m : StateMap). AllRecoverIn w.form m w.sides) (sym taken) may.2), λ may. (may.0, may.1, subst (λ (m : StateMap). AllRecoverIn w.form m w.sides) taken may.2));
      second = submit_same w (after w commit_end) note refl refl refl;
      same = refl;
    })

pub others_dont_hinder : OthersDontHinder
others_dont_hinder = λ w mine other order is_mine is_other.
    other_cases (λ event. DontHinder w mine event)
    (λ note. beside_submit w note order mine is_mine)
    (λ receipt. own_cases (λ event. DontHinder w event (advance receipt)) (λ sides failed. record { first = same_way; second = same_way; same = refl }) (λ sides failed. record { first = same_way; second = same_way; same = refl }) (record { first = same_way; second = same_way; same = refl }) mine is_mine)
    (λ ticket. own_cases (λ event. DontHinder w event (start ticket)) (λ sides failed. record { first = same_way; second = same_way; same = refl }) (λ sides failed. record { first = same_way; second = same_way; same = refl }) (record { first = same_way; second = same_way; same = refl }) mine is_mine)
    (λ ticket. own_cases (λ event. DontHinder w event (finish ticket)) (λ sides failed. record { first = same_way; second = same_way; same = refl }) (λ sides failed. record { first = same_way; second = same_way; same = refl }) (record { first = same_way; second = same_way; same = refl }) mine is_mine)
    (own_cases (λ event. DontHinder w event something_else) (λ sides failed. record { first = same_way; second = same_way; same = refl }) (λ sides failed. record { first = same_way; second = same_way; same = refl }) (record { first = same_way; second = same_way; same = refl }) mine is_mine)
    other is_other

-- ---- what both kinds leave as it is

own_goes_on : (w : World) (mine : Event) → IsOfFlush mine → w.left ≡ None → (after w mine).left ≡ None
own_goes_on w = own_cases (λ mine. w.left ≡ None → (after w mine).left ≡ None) (λ sides failed on. on) (λ sides failed on. on) (λ on. on)

other_goes_on : (w : World) (other : Event) → IsOfOthers other → w.left ≡ None → (after w other).left ≡ None
other_goes_on w = other_cases (λ other. w.left ≡ None → (after w other).left ≡ None) (λ note on. on) (λ receipt on. on) (λ ticket on. on) (λ ticket on. on) (λ on. on)

own_in_order : (w : World) → IsInOrder w → (mine : Event) → IsOfFlush mine → IsInOrder (after w mine)
own_in_order w order = own_cases (λ mine. IsInOrder (after w mine))
    (λ sides failed. record { told = order.told; taken = order.taken })
    (λ sides failed. record { told = order.told; taken = order.taken })
    (record { told = omega arith; taken = order.taken })

other_in_order : (w : World) → IsInOrder w → (other : Event) → IsOfOthers other → IsInOrder (after w other)
other_in_order w order = other_cases (λ other. IsInOrder (after w other))
    (λ note. record { told = order.told; taken = omega (arith, order.taken, length-append w.submitted (note ∷ [])) })
    (λ receipt. record { told = order.told; taken = order.taken })
    (λ ticket. record { told = order.told; taken = order.taken })
    (λ ticket. record { told = order.told; taken = order.taken })
    order

-- ---- lists of steps

-- the others' steps behind one of the flush
others_behind : (w : World) (mine : Event) (others : List Event) → IsInOrder w → IsOfFlush mine → AllByRecursion IsOfOthers others → IsRun w others → IsRun (after w mine) others
others_behind w mine [] order is_mine are run = tt
others_behind w mine (other ∷ others) order is_mine are run =
    let both = others_dont_hinder w mine other order is_mine are.0 in (
      own_goes_on w mine is_mine run.0,
      both.second.0 run.1,
      subst (λ (x : World). IsRun x others) both.same
          (others_behind (after w other) mine others (other_in_order w order other are.0) is_mine are.1 run.2),
    )

-- the flush's steps behind one of another worker, and what comes of them
own_behind : (w : World) (other : Event) (mine : List Event) → IsInOrder w → IsOfOthers other → AllByRecursion IsOfFlush mine → IsRun w mine → IsRun (after w other) mine
own_behind w other [] order is_other are run = tt
own_behind w other (event ∷ mine) order is_other are run =
    let both = others_dont_hinder w event other order are.0 is_other in (
      other_goes_on w other is_other run.0,
      both.first.0 run.1,
      subst (λ (x : World). IsRun x mine) (sym both.same)
          (own_behind (after w event) other mine (own_in_order w order event are.0) is_other are.1 run.2),
    )

in_either_order : (w : World) (other : Event) (mine : List Event) → IsInOrder w → IsOfOthers other → AllByRecursion IsOfFlush mine
    → after_all (after w other) mine ≡ after (after_all w mine) other
in_either_order w other [] order is_other are = refl
in_either_order w other (event ∷ mine) order is_other are =
    ap (λ (x : World). after_all x mine) (others_dont_hinder w event other order are.0 is_other).same
    ∙ in_either_order (after w event) other mine (own_in_order w order event are.0) is_other are.1

interleaved : (w : World) {mine others all : List Event} → IsInOrder w → AllByRecursion IsOfFlush mine → AllByRecursion IsOfOthers others
    → IsRun w mine → IsRun w others → Interleaves mine others all → IsRun w all × (after_all w all ≡ after_all (after_all w mine) others)
interleaved w order own_are are own_run run nothing = (tt, refl)
interleaved w order own_are are own_run run (own {mine} {others} {all} event is) =
    let rest = interleaved (after w event) (own_in_order w order event own_are.0) own_are.1 are own_run.2 (others_behind w event others order own_are.0 are run) is in
    ((own_run.0, own_run.1, rest.0), rest.1)
interleaved w order own_are are own_run run (another {mine} {others} {all} event is) =
    let rest = interleaved (after w event) (other_in_order w order event are.0) own_are are.1 (own_behind w event mine order are.0 own_are own_run) run.2 is in
    ((run.0, run.1, rest.0), rest.1 ∙ ap (λ (x : World). after_all x others) (in_either_order w event mine order are.0 own_are))

pub interleaved_is_run : InterleavedIsRun
interleaved_is_run = λ w mine others all order own_are others_are own_run others_run is. interleaved w order own_are others_are own_run others_run is

-- ---- a flush among others

take_none : (n : ℕ) → take {A = Event} n [] ≡ []
take_none zero = refl
take_none (suc n) = refl

take_there : {X : Type 0} (n : ℕ) (xs : List X) → length (take n xs) ≡ n → n ≤ length xs
take_there zero xs e = omega arith
take_there (suc n) [] e = absurd (omega (arith, e))
take_there (suc n) (x ∷ xs) e = let le : n ≤ length xs = take_there n xs (omega (arith, e)) in omega (arith, le)

all_take : (mine : List Event) (n : ℕ) → AllByRecursion IsOfFlush mine → AllByRecursion IsOfFlush (take n mine)
all_take [] zero are = tt
all_take [] (suc n) are = tt
all_take (event ∷ mine) zero are = tt
all_take (event ∷ mine) (suc n) are = (are.0, all_take mine n are.1)

same_sides : (w : World) (other : Event) → IsOfOthers other → (after w other).sides ≡ w.sides
same_sides w = other_cases (λ other. (after w other).sides ≡ w.sides) (λ note. refl) (λ receipt. refl) (λ ticket. refl) (λ ticket. refl) refl

-- what comes after some of the flush's steps comes after some of all
comes_among : (w : World) {mine others all : List Event} → IsInOrder w → AllByRecursion IsOfFlush mine → AllByRecursion IsOfOthers others → Interleaves mine others all
    → (n : ℕ) → (m : ℕ) × ((after_all w (take m all)).sides ≡ (after_all w (take n mine)).sides)
comes_among w order own_are are nothing n = (zero, ap (λ (l : List Event). (after_all w l).sides) (sym (take_none n)))
comes_among w order own_are are (own event is) zero = (zero, refl)
comes_among w order own_are are (own event is) (suc n) =
    let rest = comes_among (after w event) (own_in_order w order event own_are.0) own_are.1 are is n in (suc rest.0, rest.1)
comes_among w order own_are are (another {mine} {others} {all} event is) n =
    let rest = comes_among (after w event) (other_in_order w order event are.0) own_are are.1 is n in
    let front = all_take mine n own_are in (
      suc rest.0,
      rest.1 ∙ ap (λ (x : World). x.sides) (in_either_order w event (take n mine) order are.0 front)
          ∙ same_sides (after_all w (take n mine)) event are.0,
    )

module _ {D : Type 0} (T : Type 0) (honest : Type 0) (moments : D → Moments) (seen : D → Which → List ℕ) (count : D → ℕ) where
  in_order : (s : FactsIn D) (w : World) → IsLeftBy moments s w → IsInOrder w
  in_order s w left =
      let long : length (take w.taken w.submitted) ≡ w.taken = sym (ap length left.taken) ∙ length-append s.told s.held ∙ left.both in
      record { told = omega (arith, left.count, left.both); taken = take_there w.taken w.submitted long }

  left_beside : (s : FactsIn D) (w : World) → IsLeftBy moments s w → (other : Event) → IsOfOthers other → IsLeftBy moments s (after w other)
  left_beside s w left = other_cases (λ other. IsLeftBy moments s (after w other))
      (λ note.
      let order = in_order s w left in
      record {
        form = left.form;
        opening = left.opening;
        told = left.told ∙ sym (take-front w.submitted (note ∷ []) w.told (omega (arith, order.told, order.taken)));
        count = left.count;
        taken = left.taken ∙ sym (take-front w.submitted (note ∷ []) w.taken order.taken);
        both = left.both;
        ends = left.ends;
        dead = left.dead;
        sides = left.sides;
        running = left.running;
      })
      (λ receipt. record { form = left.form; opening = left.opening; told = left.told; count = left.count; taken = left.taken; both = left.both; ends = left.ends; dead = left.dead; sides = left.sides; running = left.running })
      (λ ticket. record { form = left.form; opening = left.opening; told = left.told; count = left.count; taken = left.taken; both = left.both; ends = left.ends; dead = left.dead; sides = left.sides; running = left.running })
      (λ ticket. record { form = left.form; opening = left.opening; told = left.told; count = left.count; taken = left.taken; both = left.both; ends = left.ends; dead = left.dead; sides = left.sides; running = left.running })
      left

  left_beside_all : (s : FactsIn D) (w : World) (others : List Event) → AllByRecursion IsOfOthers others → IsLeftBy moments s w → IsLeftBy moments s (after_all w others)
  left_beside_all s w [] are left = left
  left_beside_all s w (other ∷ others) are left = left_beside_all s (after w other) others are.1 (left_beside s w left other are.0)

  pub flushes_among_others : FlushesAmongOthersIn T honest moments seen count
  flushes_among_others = λ old new result w is_honest f left.
      let steps = flushes_are_runs T honest moments seen count old new result w is_honest f left in
      let order = in_order old w left in (
        steps.0,
        (
          steps.1,
          λ others all are run is.
              let both = interleaved w order steps.1.own are steps.1.run run is in
              record {
                run = both.0;
                left = subst (λ (x : World). IsLeftBy moments new x) (sym both.1) (left_beside_all new (after_all w steps.0) others are steps.1.left);
                each_moment = λ k from_old to_new.
                    let comes = steps.1.each_moment k from_old to_new in
                    let among = comes_among w order steps.1.own are is comes.0 in
                    (among.0, among.1 ∙ comes.1);
              },
        ),
      )
