-- What follows of a result from a fact of its value, or of its fault.
use Rattle.std.specs.Prelude.{Result, Ok, Err, IfOk, IfErr, OnOk}

-- a fact of the value at Ok gives what follows from it
pub if_ok : {T E : Type 0} (r : Result T E) (P Q : T → Type 0) → ((v : T) → P v → Q v) → IfOk r P → IfOk r Q
if_ok (Ok v) P Q f h = f v h
if_ok (Err e) P Q f h = h

-- a fact of the fault gives what follows from it
pub if_err : {T E : Type 0} (r : Result T E) (P Q : E → Type 0) → ((f : E) → P f → Q f) → IfErr r P → IfErr r Q
if_err (Ok v) P Q f h = h
if_err (Err e) P Q f h = f e h

-- a fact at Ok gives what follows from it
pub on_ok : {T E : Type 0} (r : Result T E) (P Q : Type 0) → (P → Q) → OnOk r P → OnOk r Q
on_ok (Ok x) P Q f p = f p
on_ok (Err e) P Q f p = p
