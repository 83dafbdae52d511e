-- The state of a store can be written anew: good records, of either version, made it.
use Rattle.std.proofs.Common.{◌≡◌, ◌∙◌, arith, Result, Ok, Err, OnOk, OnErr, List, [], ◌∷◌, ◌++◌, sym, ap, subst}
use Rattle.std.proofs.Math.Logic.{∥∥₁_elim, ∥∥₁_map}
use Rattle.std.specs.List.{AllByRecursion}
use Rattle.std.specs.FinMap as map
use Rattle.st_records.specs.declared.version.Version.{Version}
use Rattle.st_records.specs.declared.version.Version.TheVariants as versions
use Rattle.st_records.specs.declared.version.Form.{Form}
use Rattle.st_records.specs.declared.version.Form.TheVariants as forms
use Rattle.st_records.specs.declared.record.Record.{Record}
use Rattle.st_records.specs.Limits.{IsGood, IsGoodIn}
use Rattle.st_state.specs.State.{StateMap, replay}
use Rattle.st_state.specs.Keepable.{AllCanBeKept}
use Rattle.st_state.proofs.KeepableLemmas.{kept_in_empty, kept_replay}
use Rattle.st_state.proofs.OneProofLemmas.{AllCanBeKept-prop}
use Rattle.st_file.specs.Layout.{IsReadIn}
use Rattle.st_file.specs.Sink.{HasTakenGood}
use Rattle.st_recovery.specs.Recovers.{IsMadeOf}
use Rattle.st_recovery.proofs.StoredLemmas.{replay-append}

-- so the state that good records of one version make can be written anew
pub taken_keepable : (v : Version) (m : StateMap) → HasTakenGood (λ n rs. n ≡ replay map.empty rs) v m → AllCanBeKept m
taken_keepable v m taken = subst AllCanBeKept (sym taken.taken) (kept_replay v map.empty taken.held kept_in_empty taken.good)

-- also where the form of a side that was read says which
pub made_keepable : (form : Form) (m : StateMap) → IsReadIn forms.Plain form → IsMadeOf form m → AllCanBeKept m
made_keepable forms.Old m is made = taken_keepable versions.One m made
made_keepable forms.Plain m is made = taken_keepable versions.Two m made
made_keepable forms.Marked m is made = absurd (omega (arith, is))

-- and so can it with a batch more
pub keepable_still : {T E : Type 0} (result : Result T E) (m n : StateMap) (rs : List Record) → OnOk result (n ≡ replay m rs) → OnErr result (n ≡ m) → AllByRecursion (IsGood versions.Two) rs → AllCanBeKept m → AllCanBeKept n
keepable_still (Ok x) m n rs ok err good all = subst AllCanBeKept (sym ok) (kept_replay versions.Two m rs all good)
keepable_still (Err e) m n rs ok err good all = subst AllCanBeKept (sym err) all

-- ---- in any form

pub made_of_none : (form : Form) (m : StateMap) → m ≡ map.empty → IsMadeOf form m
made_of_none form m is = record { held = []; good = tt; taken = is }

all_of_both : {X : Type 0} (P : X → Type 0) (xs ys : List X) → AllByRecursion P xs → AllByRecursion P ys → AllByRecursion P (xs ++ ys)
all_of_both P [] ys front back = back
all_of_both P (x ∷ xs) ys front back = (front.0, all_of_both P xs ys front.1 back)

made_more : (form written : Form) (m n : StateMap) (rs : List Record) → form ≡ written → n ≡ replay m rs → AllByRecursion (IsGoodIn written) rs → IsMadeOf form m → IsMadeOf form n
made_more form written m n rs same is good made =
    let own : AllByRecursion (IsGoodIn form) rs = subst (λ (f : Form). AllByRecursion (IsGoodIn f) rs) (sym same) good in
    record {
      held = made.held ++ rs;
      good = all_of_both (IsGoodIn form) made.held rs made.good own;
      taken = is ∙ ap (λ (k : StateMap). replay k rs) made.taken ∙ sym (replay-append map.empty made.held rs);
    }

-- what good records made a batch of such records makes more of
pub made_still : {T E : Type 0} (result : Result T E) (form form1 written : Form) (m n : StateMap) (rs : List Record) → form1 ≡ form → OnOk result (form ≡ written) → OnOk result (n ≡ replay m rs) → OnErr result (n ≡ m)
    → AllByRecursion (IsGoodIn written) rs → ∥ IsMadeOf form m ∥₁ → ∥ IsMadeOf form1 n ∥₁
made_still (Ok x) form form1 written m n rs still own ok err good made =
    subst (λ (f : Form). ∥ IsMadeOf f n ∥₁) (sym still) (∥∥₁_map made (made_more form written m n rs own ok good))
made_still (Err e) form form1 written m n rs still own ok err good made =
    subst (λ (f : Form). ∥ IsMadeOf f n ∥₁) (sym still) (subst (λ (k : StateMap). ∥ IsMadeOf form k ∥₁) (sym err) made)

-- so where versions 1 and 2 are read the state can be written anew
pub keepable_by_version : (form : Form) (m : StateMap) → IsReadIn forms.Plain form → ∥ IsMadeOf form m ∥₁ → AllCanBeKept m
keepable_by_version form m is made = ∥∥₁_elim made (AllCanBeKept-prop m) (made_keepable form m is)
