-- What a board's calls do are moves.
use Rattle.std.proofs.Common.{◌≡◌, ℕ, List, Option, Some, None, slice_get, refl}
use Rattle.std.specs.Prelude.{Result, Ok, Err, IfOk, IfErr}
use Rattle.st_records.specs.declared.record.Record.{Record}
use Rattle.bd_places.specs.declared.end.End.{End}
use Rattle.bd_ledger.specs.Sheet.{Sheet}
use Rattle.bd_lists.specs.declared.board.Advanced.{Advanced}
use Rattle.bd_lists.specs.declared.board.Advanced.TheVariants as advanced
use Rattle.bd_lists.specs.Board.{CanAdvance, Advances, end_noted}
use Rattle.bd_progress.specs.Moves.{at, advance, IsMove, IsRefused}

-- what is handed out with a receipt is so with its ticket
with_ticket : {T : Type 0} (b c : Sheet) (n : ℕ) (told : T) (ticket : ℕ) (e : Option End) (a : Advanced T) → Advances b n told e a c
    → (x : Advanced ℕ) × Advances b n ticket e x c
with_ticket b c n told ticket None a goes = (advanced.Cleared (record { told = ticket }), (refl, goes.1))
with_ticket b c n told ticket (Some end) a goes = (advanced.Settled ticket, (refl, goes.1))

pub advance_is_move : {T : Type 0} (b c : Sheet) (n : ℕ) (told : T) (ticket : ℕ) (noted : Record) (result : Result (Advanced T) T)
    → IfOk result (λ a. CanAdvance b n ticket noted × Advances b n told (end_noted noted) a c)
    → IfOk result (λ a. (taken : List Record) → slice_get taken ticket ≡ Some noted → IsMove (at b taken) (advance n ticket noted) (at c taken))
advance_is_move b c n told ticket noted (Ok a) goes = λ taken own. (goes.0, own, with_ticket b c n told ticket (end_noted noted) a goes.1, refl)
advance_is_move b c n told ticket noted (Err t) goes = tt

pub advance_is_refused : {T : Type 0} (b c : Sheet) (n : ℕ) (told : T) (ticket : ℕ) (noted : Record) (result : Result (Advanced T) T)
    → IfErr result (λ t. (CanAdvance b n ticket noted → ⊥) × (t ≡ told) × (c ≡ b)) → IfErr result (λ t. IsRefused b (advance n ticket noted) c)
advance_is_refused b c n told ticket noted (Ok a) none = tt
advance_is_refused b c n told ticket noted (Err t) none = (none.2, λ taken can. none.0 can.1.0)
