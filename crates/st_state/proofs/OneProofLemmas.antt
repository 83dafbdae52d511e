-- That each entry of a state can be written has one proof at most, so it may stand in a ghost field.
use Rattle.std.specs.Prelude.{ℕ, List, Option}
use Rattle.std.specs.Coded.{Coded, Coded-set, code_by, coded×, coded_list, coded_ℕ, coded_option}
use Rattle.std.proofs.Props.{props}
use Rattle.st_records.specs.declared.version.Form.{Form}
use Rattle.st_records.specs.declared.version.Form.TheVariants as forms
use Rattle.st_records.specs.declared.record.Explicit.{Explicit}
use Rattle.st_records.specs.declared.record.Explicit.TheVariants.{Unknown, Known, Marked}
use Rattle.st_records.specs.declared.record.Entry.{Entry}
use Rattle.st_records.specs.declared.record.Record.TheVariants as records
use Rattle.st_records.specs.Parts.{IsUnmarked}
use Rattle.st_records.specs.Limits.{SaysExplicitIn}
use Rattle.st_state.specs.State.{StateMap, known_names, named_explicit, named_explicit-known_names}
use Rattle.st_state.specs.Keepable.{AllCanBeKeptIn, AllCanBeKept}

IsUnmarked-prop : (e : Explicit) → IsProp (IsUnmarked e)
IsUnmarked-prop Unknown = hlevel props
IsUnmarked-prop (Known names) = hlevel props
IsUnmarked-prop (Marked names marks) = hlevel props

explicit_code : Coded Explicit
explicit_code =
    code_by (Option (List (List ℕ) × Option (List ℕ))) (coded_option (coded× (coded_list (coded_list coded_ℕ)) (coded_option (coded_list coded_ℕ)))) known_names named_explicit named_explicit-known_names

Says-prop : (form : Form) (target : List ℕ) (e : Entry) → IsProp (SaysExplicitIn form (records.Kept target e))
Says-prop forms.Old target e = Coded-set explicit_code e.explicit Unknown
Says-prop forms.Plain target e = IsUnmarked-prop e.explicit
Says-prop forms.Marked target e = hlevel props

pub AllCanBeKeptIn-prop : (form : Form) (m : StateMap) → IsProp (AllCanBeKeptIn form m)
AllCanBeKeptIn-prop form m = hlevel (props, Says-prop)

pub AllCanBeKept-prop : (m : StateMap) → IsProp (AllCanBeKept m)
AllCanBeKept-prop = AllCanBeKeptIn-prop forms.Plain
