-- The text of names with their entries.
use Rattle.std.proofs.Common.{◌≡◌, ℕ, suc, ◌+◌, ◌≤◌, List, [], ◌∷◌, length, drop, drop-cons, slice_get, Some, refl, ap, ◌∙◌, arith}
use Rattle.std.proofs.lemmas.Option.{get_or_from_slice_get, slice_get_within}
use Rattle.st_records.specs.declared.version.Form.{Form}
use Rattle.st_records.specs.declared.record.Entry.{Entry}
use Rattle.st_file.specs.Batch.{body_in}
use Rattle.st_file.proofs.FrameLemmas.{length-body}
use Rattle.st_compaction.specs.Named.{records_of_names}

-- one record a name
pub length-records_of_names : (named : List (List ℕ × Entry)) → length (records_of_names named) ≡ length named
length-records_of_names [] = refl
length-records_of_names (one ∷ named) = omega (arith, length-records_of_names named)

-- no more names than bytes
pub few_names : (form : Form) (named : List (List ℕ × Entry)) → length named ≤ length (body_in form (records_of_names named))
few_names form named = omega (arith, length-records_of_names named, length-body form (records_of_names named))

-- what is left of the names begins with the one at this place
pub rest_from : (named : List (List ℕ × Entry)) (place : ℕ) (e : List ℕ × Entry) → slice_get named place ≡ Some e → drop place named ≡ e ∷ drop (place + 1) named
rest_from named place e found =
    let next : suc place ≡ place + 1 = omega arith in
    drop-cons named place e (slice_get_within named place e found)
    ∙ ap (λ x. x ∷ drop (suc place) named) (get_or_from_slice_get named place e e found)
    ∙ ap (λ n. e ∷ drop n named) next
