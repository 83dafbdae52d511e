-- Boards of equal rows.
use Rattle.std.proofs.Common.{◌≡◌, ℕ, List, ap, ◌∙◌}
use Rattle.st_records.specs.declared.version.Form.{Form}
use Rattle.bd_ledger.specs.Sheet.{first_sheet_in}

-- a board of rows that are equal
pub same_board : (form : Form) (counted hard required : List (List ℕ)) (copied names : List (List ℕ)) → hard ≡ required → copied ≡ names →
    first_sheet_in form (record { counted = counted; hard = hard }) copied ≡ first_sheet_in form (record { counted = counted; hard = required }) names
same_board form counted hard required copied names of_hard of_names =
    ap (λ h. first_sheet_in form (record { counted = counted; hard = h }) copied) of_hard
    ∙ ap (λ ns. first_sheet_in form (record { counted = counted; hard = required }) ns) of_names
