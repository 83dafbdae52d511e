-- The state of one more record.
use Rattle.std.proofs.Common.{◌≡◌, List, [], ◌∷◌, ◌++◌, refl, sym, ap, ◌∙◌}
use Rattle.std.specs.FinMap as map
use Rattle.st_records.specs.declared.record.Record.{Record}
use Rattle.st_state.specs.State.{StateMap, apply_record, replay}
use Rattle.st_file.specs.Sink.{AddsRecords}

replay-push : (m : StateMap) (rs : List Record) (r : Record) → replay m (rs ++ r ∷ []) ≡ apply_record (replay m rs) r
replay-push m [] r = refl
replay-push m (s ∷ rs) r = replay-push (apply_record m s) rs r

pub AddsRecords-apply : (old new : StateMap) (r : Record) → new ≡ apply_record old r → AddsRecords (λ m rs. m ≡ replay map.empty rs) old new (r ∷ [])
AddsRecords-apply old new r e = record { after = λ before taken. e ∙ ap (λ (m : StateMap). apply_record m r) taken ∙ sym (replay-push map.empty before r) }
