-- What holds for each of the files and looks that are allowed.
use Rattle.std.specs.Prelude.{Result, Ok, Err, IfOk, IfErr}

-- what is so of the value for each that is allowed
pub each_ok : {A T E : Type 0} (got : Result T E) (Allowed : A → Type 0) (Is : A → T → Type 0) →
    ((a : A) → Allowed a → IfOk got (Is a)) → IfOk got (λ v. (a : A) → Allowed a → Is a v)
each_ok (Ok v) Allowed Is each = each
each_ok (Err e) Allowed Is each = tt

-- and of the fault
pub each_err : {A T E : Type 0} (got : Result T E) (Allowed : A → Type 0) (Is : A → E → Type 0) →
    ((a : A) → Allowed a → IfErr got (Is a)) → IfErr got (λ e. (a : A) → Allowed a → Is a e)
each_err (Ok v) Allowed Is each = tt
each_err (Err e) Allowed Is each = each
