-- Records that a board hands out may be committed.
use Rattle.std.proofs.Common.{◌≡◌, true, false, List, refl}
use Rattle.std.specs.List.{AllByRecursion}
use Rattle.st_records.specs.declared.version.Form.{Form}
use Rattle.st_records.specs.declared.record.Record.{Record}
use Rattle.st_records.specs.declared.record.Record.TheVariants as records
use Rattle.st_records.specs.Limits.{IsGoodIn}
use Rattle.st_file.specs.Batch.{may_stand}
use Rattle.bd_ledger.specs.Sheet.{IsWritableIn, is_kept}
use Rattle.bd_flusher.proofs.ListLemmas.{all_map}

apart : true ≡ false → ⊥
apart e = cc

fresh_may_stand : (note : Record) → is_kept note ≡ false → may_stand false note ≡ true
fresh_may_stand (records.Begun target) fresh = refl
fresh_may_stand (records.Done target commands hidden explicit) fresh = refl
fresh_may_stand (records.Failed target status) fresh = refl
fresh_may_stand (records.Kept target entry) fresh = absurd (apart fresh)

pub all_good : (form : Form) (notes : List Record) → AllByRecursion (IsWritableIn form) notes → AllByRecursion (IsGoodIn form) notes
all_good form notes all = all_map (IsWritableIn form) (IsGoodIn form) (λ note w. w.good) notes all

pub all_later : (form : Form) (notes : List Record) → AllByRecursion (IsWritableIn form) notes → AllByRecursion (λ (r : Record). may_stand false r ≡ true) notes
all_later form notes all = all_map (IsWritableIn form) (λ (r : Record). may_stand false r ≡ true) (λ note w. fresh_may_stand note w.fresh) notes all
