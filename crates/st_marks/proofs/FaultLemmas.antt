-- What a fault in one step says of all.
use Rattle.std.proofs.Common.{◌≡◌, true, false, Result, Ok, Err, refl, subst}
use Rattle.std.specs.Prelude.{is_err, IsErr}
use Rattle.st_records.specs.declared.fault.DecodeFault.{DecodeFault}
use Rattle.st_records.specs.Reading.{◌>>=◌}

-- where the first of two steps meets a fault, both do
pub then_fails : {A B : Type 0} (r : Result A DecodeFault) (f : A → Result B DecodeFault) → IsErr r → IsErr (r >>= f)
then_fails (Ok x) f h = absurd cc
then_fails (Err e) f h = refl

-- what meets a fault gives nothing
pub gives_nothing : {A : Type 0} (r : Result A DecodeFault) (x : A) → IsErr r → r ≡ Ok x → ⊥
gives_nothing {A} r x h e =
    let both : false ≡ true = subst (λ (s : Result A DecodeFault). is_err s ≡ true) e h in
    absurd cc
