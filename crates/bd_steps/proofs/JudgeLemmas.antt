-- A target whose recipe was begun, and of which nothing but failures came since, is out of date.
use Rattle.std.proofs.Common.{◌≡◌, ◌≢◌, ◌⊎◌, ℕ, zero, suc, ◌<◌, Bool, true, false, cond, List, [], ◌∷◌, take, Option, Some, None, IsSomeAnd, refl, sym, ap, subst, ◌∙◌, inl, inr, arith}
use Rattle.std.specs.Ordering.{eq_by_cmp}
use Rattle.std.specs.Cmp.{eq_by_cmp_equiv}
use Rattle.std.specs.Cmp.Lexicographic.{nat_list_cmp_total}
use Rattle.std.specs.FinMap as map
use Rattle.std.specs.FinMap.{get-insert}
use Rattle.std.proofs.lemmas.Map.Views.{tells_apart}
use Rattle.st_records.specs.declared.record.Phase.TheVariants as phases
use Rattle.st_records.specs.declared.record.Entry.{Entry}
use Rattle.st_records.specs.declared.record.Record.{Record}
use Rattle.st_records.specs.declared.record.Record.TheVariants as records
use Rattle.st_records.specs.Parts.{target_of}
use Rattle.st_state.specs.State.{StateMap, apply_record, known_hidden, replay, unfinished}
use Rattle.st_state.proofs.StateLemmas.{by_bytes, by_bytes-exact}
use Rattle.mk_verdict.specs.declared.verdict.Target.{Target}
use Rattle.mk_verdict.specs.declared.verdict.Reason.{Reason}
use Rattle.mk_verdict.specs.declared.verdict.Reason.TheVariants.{WasBegun, WasFailed}
use Rattle.mk_verdict.specs.declared.verdict.Verdict.{Verdict}
use Rattle.mk_verdict.specs.declared.verdict.Verdict.TheVariants.{UpToDate, OutOfDate}
use Rattle.mk_verdict.specs.Verdict.{HasFailed, IsOutOfDate, IsVerdict}
use Rattle.bd_flusher.specs.Batches.{StandsAt}
use Rattle.bd_steps.specs.Kind.{kind_of}
use Rattle.bd_steps.specs.Kind as kinds
use Rattle.bd_flusher.proofs.ListLemmas.{none_is, some_is, at-take, at-take_back}

-- its recipe was begun, or failed
abbrev pub HasBegunOrFailed : Entry → Type 0
HasBegunOrFailed e = (e.phase ≡ phases.Begun) ⊎ HasFailed e

abbrev pub IsUnfinished : Option Entry → Type 0
IsUnfinished entry = IsSomeAnd entry HasBegunOrFailed

-- the record isn't one that sets an entry as done
abbrev pub IsNoneDone : Record → Type 0
IsNoneDone note = (kind_of note ≡ kinds.done → ⊥) × (kind_of note ≡ kinds.kept → ⊥)

-- ---- one entry set

set_in : (P : Option Entry → Type 0) (m : StateMap) (name : List ℕ) (entry : Entry) (target : List ℕ) → (target ≡ name → P (Some entry)) → P (map.get m target) → P (map.get (map.insert m name entry) target)
set_in P m name entry target same other =
    subst P (sym (get-insert nat_list_cmp_total m name entry target)) (by (eq_by_cmp by_bytes target name) refl)
  where
    by : (b : Bool) → eq_by_cmp by_bytes target name ≡ b → P (cond b (Some entry) (map.get m target))
    by true e = same (tells_apart by_bytes-exact target name e)
    by false e = other

pub set_own : (P : Option Entry → Type 0) (m : StateMap) (name : List ℕ) (entry : Entry) → P (Some entry) → P (map.get (map.insert m name entry) name)
set_own P m name entry own =
    subst P (sym (get-insert nat_list_cmp_total m name entry name ∙ ap (λ (b : Bool). cond b (Some entry) (map.get m name)) ((eq_by_cmp_equiv nat_list_cmp_total).refl name))) own

-- ---- records taken in

stays : (m : StateMap) (note : Record) (target : List ℕ) → (target_of note ≡ target → IsNoneDone note) → IsUnfinished (map.get m target) → IsUnfinished (map.get (apply_record m note) target)
stays m (records.Begun name) target others so_far = set_in IsUnfinished m name (unfinished phases.Begun (known_hidden m name)) target (λ e. inl refl) so_far
stays m (records.Done name commands hidden explicit) target others so_far =
    set_in IsUnfinished m name (record { phase = phases.Done; commands = commands; hidden = hidden; explicit = explicit }) target (λ e. absurd ((others (sym e)).0 refl)) so_far
stays m (records.Failed name status) target others so_far =
    set_in IsUnfinished m name (unfinished (phases.Failed status) (known_hidden m name)) target (λ e. inr (status, refl)) so_far
stays m (records.Kept name entry) target others so_far = set_in IsUnfinished m name entry target (λ e. absurd ((others (sym e)).1 refl)) so_far

all_stay : (m : StateMap) (notes : List Record) (target : List ℕ) → ((k : ℕ) (note : Record) → StandsAt notes k note → target_of note ≡ target → IsNoneDone note)
    → IsUnfinished (map.get m target) → IsUnfinished (map.get (replay m notes) target)
all_stay m [] target others so_far = so_far
all_stay m (r ∷ rs) target others so_far =
    all_stay (apply_record m r) rs target (λ k note at same. others (suc k) note at same) (stays m r target (λ same. others 0 r refl same) so_far)

begun_now : (m : StateMap) (note : Record) (target : List ℕ) → note ≡ records.Begun target → IsUnfinished (map.get (apply_record m note) target)
begun_now m note target is =
    subst (λ (r : Record). IsUnfinished (map.get (apply_record m r) target)) (sym is)
    (set_own IsUnfinished m target (unfinished phases.Begun (known_hidden m target)) (inl refl))

pub since_begun : (m : StateMap) (notes : List Record) (ticket : ℕ) (target : List ℕ) → StandsAt notes ticket (records.Begun target)
    → ((k : ℕ) (note : Record) → ticket < k → StandsAt notes k note → target_of note ≡ target → IsNoneDone note) → IsUnfinished (map.get (replay m notes) target)
since_begun m [] ticket target begun others = absurd (none_is (records.Begun target) begun)
since_begun m (r ∷ rs) zero target begun others =
    all_stay (apply_record m r) rs target (λ k note at same. others (suc k) note (omega arith) at same) (begun_now m r target (some_is r (records.Begun target) begun))
since_begun m (r ∷ rs) (suc ticket) target begun others =
    since_begun (apply_record m r) rs ticket target begun (λ k note lt at same. others (suc k) note (omega (arith, lt)) at same)

-- the same of the first n records
pub unfinished_from : (m : StateMap) (notes : List Record) (n ticket : ℕ) (target : List ℕ) → ticket < n → StandsAt notes ticket (records.Begun target)
    → ((k : ℕ) (note : Record) → ticket < k → k < n → StandsAt notes k note → target_of note ≡ target → IsNoneDone note) → IsUnfinished (map.get (replay m (take n notes)) target)
unfinished_from m notes n ticket target below begun others =
    since_begun m (take n notes) ticket target (at-take notes n ticket (records.Begun target) below begun)
    (λ k note after at same. let back = at-take_back notes n k note at in others k note after back.0 back.1 same)

-- ---- what judges say

-- an unfinished target is out of date, whatever the files say
pub unfinished_out_of_date : (entry : Option Entry) (files : Target) → IsUnfinished entry → IsOutOfDate true entry files
unfinished_out_of_date None files none = absurd none
unfinished_out_of_date (Some e) files (inl begun) = (WasBegun, (refl, begun))
unfinished_out_of_date (Some e) files (inr failed) = (WasFailed, (refl, failed))

out_is_not_up : (reason : Reason) → OutOfDate reason ≡ UpToDate → ⊥
out_is_not_up reason e = cc

pub never_up_to_date : (entry : Option Entry) (files : Target) (verdict : Verdict) → IsUnfinished entry → IsVerdict true entry files verdict → verdict ≢ UpToDate
never_up_to_date entry files UpToDate unfinished is e = is (unfinished_out_of_date entry files unfinished)
never_up_to_date entry files (OutOfDate reason) unfinished is e = out_is_not_up reason e
