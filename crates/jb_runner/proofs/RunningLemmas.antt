-- From what the board hands out to the clearance of a record, and what holds of an answer.
use Rattle.std.proofs.Common.{◌≡◌, ℕ, Option, Some, None, Result, Ok, Err, IfOk, refl, sym, subst}
use Rattle.bd_lists.specs.declared.board.Advanced.{Advanced}
use Rattle.bd_places.specs.declared.end.End.{End}
use Rattle.bd_lists.specs.Board.{CanAdvance, Advances, end_noted}
use Rattle.bd_ledger.specs.Sheet.{Sheet}
use Rattle.bd_flusher.specs.declared.site.receipt.Receipt.{Receipt}
use Rattle.jb_runner.specs.Making.{IsHandedOut}

-- what the board hands out for a receipt holds that receipt
handed : (b : Sheet) (node : ℕ) (told : Receipt) (end : Option End) (a : Advanced Receipt) (after : Sheet)
    → Advances b node told end a after → IsHandedOut told a
handed b node told None a after advances = subst (IsHandedOut told) (sym advances.0) refl
handed b node told (Some end) a after advances = subst (IsHandedOut told) (sym advances.0) refl

pub all_handed : (b : Sheet) (node : ℕ) (told : Receipt) (after : Sheet) (answer : Result (Advanced Receipt) Receipt)
    → IfOk answer (λ a. CanAdvance b node told.ticket told.noted × Advances b node told (end_noted told.noted) a after)
    → IfOk answer (λ a. IsHandedOut told a)
all_handed b node told after (Ok a) ok = handed b node told (end_noted told.noted) a after ok.1
all_handed b node told after (Err back) ok = tt

-- what holds of a value holds of an answer that is this value
pub if_same : {A E : Type 0} (P : A → Type 0) (answer : Result A E) (a : A) → IfOk answer (λ r. r ≡ a) → P a → IfOk answer P
if_same P (Ok r) a same holds = subst P (sym same) holds
if_same P (Err e) a same holds = tt

-- and what holds of an answer in two ways holds in both
pub if_both : {A E : Type 0} (P Q : A → Type 0) (answer : Result A E) → IfOk answer P → IfOk answer Q → IfOk answer (λ r. P r × Q r)
if_both P Q (Ok r) p q = (p, q)
if_both P Q (Err e) p q = tt
