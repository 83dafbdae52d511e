-- What a listing that failed says of the two sides.
use Rattle.std.proofs.Common.{◌≡◌, ◌⊎◌, ◌<◌, Option, inl, inr, ℕ, List, [], ◌∷◌, length, Result, Err, subst, IsErrOf, ap, arith}
use Rattle.std.proofs.lemmas.List.{length-append}
use Rattle.std.specs.List.{flat_map}
use Rattle.std.specs.FinMap as map
use Rattle.std.specs.FinMap.{len-entries}
use Rattle.std.specs.Io.KnownBytes.{Keeps}
use Rattle.st_records.specs.declared.record.Entry.{Entry}
use Rattle.st_file.specs.declared.fault.OpenFault.{OpenFault}
use Rattle.st_file.specs.declared.fault.OpenFault.TheVariants as open_faults
use Rattle.st_state.specs.State.{StateMap}
use Rattle.st_records.specs.declared.version.Form.TheVariants.{Marked}
use Rattle.st_recovery.specs.Recovers.{recovered}
use Rattle.st_recovery.proofs.RecoversLemmas.{one_recovery_in}
use Rattle.st_recovery.proofs.MemoryLemmas.{comes_of_state_in}
use Rattle.st_listing.specs.Listing.{entry_lines, listing}
use Rattle.st_listing.specs.Read.{Recovers, RefusesWith, PairComesToRecords}
use Rattle.st_listing.specs.Writing.{IsCause, AppendsPart, LeavesWriter}
use Rattle.st_listing.specs.declared.listing.ListFault.{ListFault}
use Rattle.st_listing.specs.declared.listing.ListFault.TheVariants as faults

-- a refusal leaves the writer as it was
pub kept_at_refusal : (a b : List ℕ) (f : ListFault) (g : OpenFault) (old new : Option (List ℕ)) → (f ≡ faults.Open g) ⊎ (f ≡ faults.Open open_faults.OutOfMemory) → LeavesWriter a b f old new → Keeps old new
kept_at_refusal a b (faults.Open f) g old new is left = left
kept_at_refusal a b faults.Write g old new (inl e) left = cc
kept_at_refusal a b faults.Write g old new (inr e) left = cc

some_of : (es : List (List ℕ × Entry)) → 0 < length (flat_map entry_lines es) → 0 < length es
some_of [] some = absurd (omega (arith, some))
some_of (x ∷ es) some = omega arith

some_names : (m : StateMap) (old new : Option (List ℕ)) → AppendsPart old new (listing m) → 0 < map.len m
some_names m old new part =
    let some : 0 < length (listing m) = omega (arith, ap length part.parts, length-append part.front part.rest, part.missing) in
    omega (arith, len-entries m, some_of (map.entries m) some)

abbrev answered : {T : Type 0} → ListFault → Result T ListFault
answered f = Err f

-- where a listing is not whole, the sides are refused or come to records
pub cause_of_fault : {T : Type 0} (a b : List ℕ) (old new : Option (List ℕ)) (f : ListFault) → IsCause a b f → (IsErrOf {T = T} (Err f) (faults.Open open_faults.OutOfMemory) → PairComesToRecords a b) → LeavesWriter a b f old new
    → ((g : OpenFault) × RefusesWith a b g) ⊎ PairComesToRecords a b
cause_of_fault a b old new (faults.Open f) (inl is) memory left = inl (f, is)
cause_of_fault {T} a b old new (faults.Open f) (inr e) memory left =
    inr (memory (ap (λ (g : OpenFault). answered {T = T} (faults.Open g)) e))
cause_of_fault a b old new faults.Write cause memory left = inr (comes_of_state_in Marked a b left.0 left.1.0 (some_names left.0 old new left.1.1))

same_state : (m n : StateMap) → recovered m ≡ recovered n → m ≡ n
same_state m n e = cc

-- nothing or a part of the listing went out
pub part_at_fault : (a b : List ℕ) (m : StateMap) (old new : Option (List ℕ)) (f : ListFault) → Recovers a b m → LeavesWriter a b f old new → Keeps old new ⊎ AppendsPart old new (listing m)
part_at_fault a b m old new (faults.Open f) found left = inl left
part_at_fault a b m old new faults.Write found left =
    let one : left.0 ≡ m = same_state left.0 m (one_recovery_in Marked a b (recovered left.0) (recovered m) left.1.0 found) in
    inr (subst (λ (n : StateMap). AppendsPart old new (listing n)) one left.1.1)
