-- What a fault says that is met before a graph is made. Of a fault that comes later all stages before it are told.
use Rattle.std.specs.Prelude.{◌≡◌, ◌⊎◌, ℕ, Bool, true, false, List, [], ◌∷◌, Option, None, Err}
use Rattle.mk_eval.specs.Output.{World}
use Rattle.mk_eval.specs.Makefile.{TextItems, depth}
use Rattle.mk_macros.specs.Ranks.{Defined}
use Rattle.mk_reader.specs.declared.item.Item.{Item}
use Rattle.mk_reader.specs.declared.fault.ReadFault.{ReadFault}
use Rattle.mk_reader.specs.declared.fault.ReadFault.TheVariants as read_fault
use Rattle.dmk_reading.specs.BuiltIn.{reads_rules, AreRules}
use Rattle.dmk_reading.specs.Makefile.{IsUsualMakefile, HasNoMakefile, LacksOne, NamedItems, AllItems}
use Rattle.dmk_reading.specs.Planned.{AreOwnItems}
use Rattle.dmk_messages.specs.declared.fault.Fault.{Fault}
use Rattle.dmk_messages.specs.declared.fault.Fault.TheVariants as fault
use Rattle.dmk_reading.specs.declared.makefiles.Makefiles.{Makefiles}
use Rattle.mk_nodes.specs.declared.file_look.FileLook.{FileLook}

-- the makefiles have a first line that is refused: the usual one, where none is named, or one of those that are, with all before
-- it read; want of memory says nothing of it
abbrev pub IsReadFault : (world : World) (looks : List ℕ → Option FileLook) (named : List (List ℕ)) → Defined →
    ReadFault → Type 0
IsReadFault world looks named given read_fault.OutOfMemory = Unit {0}
IsReadFault world looks [] given (read_fault.Refused refusal) =
    (file : List ℕ) × (text : List ℕ) × IsUsualMakefile world looks file text × TextItems world depth given file text (Err refusal)
IsReadFault world looks (name ∷ names) given (read_fault.Refused refusal) = AllItems world given (name ∷ names) (Err refusal)

-- the fault of the makefile of this name
abbrev pub IsFaultOfOne : (world : World) → Defined → (name : List ℕ) → Fault → Type 0
IsFaultOfOne world given name fault.OutOfMemory = Unit {0}
IsFaultOfOne world given name fault.NoMakefile = world.files name ≡ None
IsFaultOfOne world given name (fault.Read read_fault.OutOfMemory) = Unit {0}
IsFaultOfOne world given name (fault.Read (read_fault.Refused refusal)) = NamedItems world given name (Err refusal)
IsFaultOfOne world given name _ = ⊥

-- the first fault of the makefiles of these names
abbrev pub IsFaultAmong : (world : World) → Defined → (names : List (List ℕ)) → Fault → Type 0
IsFaultAmong world given names fault.OutOfMemory = Unit {0}
IsFaultAmong world given names fault.NoMakefile = LacksOne world given names
IsFaultAmong world given names (fault.Read read_fault.OutOfMemory) = Unit {0}
IsFaultAmong world given names (fault.Read (read_fault.Refused refusal)) = AllItems world given names (Err refusal)
IsFaultAmong world given names _ = ⊥

-- the fault that looking for the makefile and reading it gives
abbrev pub IsOwnFault : (world : World) (looks : List ℕ → Option FileLook)
    (refuses : List ℕ → Type 0) (named : List (List ℕ)) → Defined → Fault → Type 0
IsOwnFault world looks refuses named given fault.OutOfMemory = Unit {0}
IsOwnFault world looks refuses named given fault.NoMakefile = HasNoMakefile world looks refuses named given
IsOwnFault world looks refuses named given (fault.Read f) = IsReadFault world looks named given f
IsOwnFault world looks refuses named given _ = ⊥

-- the fault of the tool's rules, which are read in front of these items; want of memory says nothing of them
abbrev pub IsFaultOfRules : (world : World) → Defined → (own : List Item) → Fault → Type 0
IsFaultOfRules world given own fault.OutOfMemory = Unit {0}
IsFaultOfRules world given own (fault.Read read_fault.OutOfMemory) = Unit {0}
IsFaultOfRules world given own (fault.Read (read_fault.Refused refusal)) = AreRules world given own (Err refusal)
IsFaultOfRules world given own _ = ⊥

-- they are read, and have this fault
abbrev pub IsRulesFault : (reads : Bool) (world : World) (Own : List Item → Type 0) → Defined → ReadFault → Type 0
IsRulesFault false world Own given f = ⊥
IsRulesFault true world Own given f = (own : List Item) × Own own × IsFaultOfRules world given own (fault.Read f)

-- the fault of all that is read: the makefile's own, or else the rules'
abbrev pub IsTextFault : (world : World) (looks : List ℕ → Option FileLook)
    (refuses : List ℕ → Type 0) → Makefiles → Defined → Fault → Type 0
IsTextFault world looks refuses makefiles given (fault.Read f) =
    IsReadFault world looks makefiles.named given f
    ⊎ IsRulesFault (reads_rules makefiles given.language) world (AreOwnItems world looks makefiles.named given) given f
IsTextFault world looks refuses makefiles given f = IsOwnFault world looks refuses makefiles.named given f
