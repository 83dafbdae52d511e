-- Where a record is read, its target is.
use Rattle.std.proofs.Common.{◌≡◌, ℕ, zero, suc, List, [], ◌∷◌, Ok, IsOk, Result, refl, sym, subst}
use Rattle.st_records.specs.declared.version.Form.{Form}
use Rattle.st_records.specs.declared.fault.DecodeFault.{DecodeFault}
use Rattle.st_records.specs.declared.record.Record.{Record}
use Rattle.st_records.specs.declared.record.Record.TheVariants as records
use Rattle.st_records.specs.Reading.{◌>>=◌, Reader, then_at, made_at, string_at, status_at, done_explicit_at, lists_at, entry_at, target_at, record_at}
use Rattle.st_records.proofs.Fields.{bind_ok}

is_ok : {A : Type 0} (r : Result A DecodeFault) (x : A) → r ≡ Ok x → IsOk r
is_ok r x e = subst (λ r. IsOk r) (sym e) refl

one_ok : {B : Type 0} (f : List ℕ → B) (rest : List ℕ) (x : B × List ℕ) → made_at f string_at rest ≡ Ok x → IsOk (string_at rest)
one_ok f rest x e =
    let first = bind_ok (string_at rest) (λ y. Ok (f y.0, y.1)) x e in
    is_ok (string_at rest) first.0 first.1

then_ok : {A B : Type 0} (f : List ℕ × A → B) (b : Reader A) (rest : List ℕ) (x : B × List ℕ) → made_at f (then_at string_at b) rest ≡ Ok x → IsOk (string_at rest)
then_ok f b rest x e =
    let both = bind_ok (then_at string_at b rest) (λ y. Ok (f y.0, y.1)) x e in
    let first = bind_ok (string_at rest) (λ y. (b y.1 >>= λ z. Ok ((y.0, z.0), z.1))) both.0 both.1 in
    is_ok (string_at rest) first.0 first.1

pub target_read : (form : Form) (bytes : List ℕ) (x : Record × List ℕ) → record_at form bytes ≡ Ok x → IsOk (target_at bytes)
unfolding record_at target_at
target_read form [] x e = absurd cc
target_read form (zero ∷ rest) x e = absurd cc
target_read form (suc zero ∷ rest) x e = one_ok records.Begun rest x e
target_read form (suc (suc zero) ∷ rest) x e = then_ok (λ y. records.Done y.0 y.1.0 y.1.1.0 y.1.1.1) (lists_at (done_explicit_at form)) rest x e
target_read form (suc (suc (suc zero)) ∷ rest) x e = then_ok (λ y. records.Failed y.0 y.1) status_at rest x e
target_read form (suc (suc (suc (suc zero))) ∷ rest) x e = then_ok (λ y. records.Kept y.0 y.1) (entry_at form) rest x e
target_read form (suc (suc (suc (suc (suc b)))) ∷ rest) x e = absurd cc
