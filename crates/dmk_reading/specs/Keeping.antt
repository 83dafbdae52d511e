-- Whether state is kept (make(1S), .KEEP_STATE: the special target, or the variable of this name in the environment).
use Rattle.std.specs.Prelude.{ℕ, Bool, false, ◌||◌, List, [], Some, find, bytes_eq, codes}
use Rattle.std.specs.List.{list_any}
use Rattle.std.specs.Option.{option_map_or}
use Rattle.mk_profile.specs.declared.profile.Profile.{Profile}
use Rattle.mk_profile.specs.declared.profile.Profile.TheVariants.{Strict, Posix}
use Rattle.st_records.specs.declared.version.Form.{Form}
use Rattle.st_records.specs.declared.version.Form.TheVariants.{Plain, Marked}
use Rattle.mk_reader.specs.declared.item.Item.{Item}
use Rattle.mk_reader.specs.declared.item.Item.TheVariants as item
use Rattle.mk_settings.specs.Goals.{is_keep_state}
use Rattle.bd_lists.specs.declared.recipe.Variable.{Variable}

-- the variable has this name
abbrev pub is_named : (name : List ℕ) → Variable → Bool
is_named name variable = bytes_eq name variable.name

-- the item is the special rule that asks for state
abbrev pub is_keep_item : Item → Bool
is_keep_item (item.Definition d) = false
is_keep_item (item.Rule rule) = false
is_keep_item (item.Special special) = is_keep_state (Some special.name)

-- state is kept: the environment has the variable, with any value, or the makefile has the special rule. A definition
-- of the command line doesn't count (own)
abbrev pub keeps : (environment : List Variable) (items : List Item) → Bool
keeps environment items = list_any (is_named (codes "KEEP_STATE")) environment || list_any is_keep_item items

-- the form of the records that are written where state is kept, and the newest that is read: in the wide profile the one that says which
-- files a target was made of (own)
abbrev pub kept_form : Profile → Form
kept_form Strict = Plain
kept_form Posix = Marked

-- the value of the first variable of the name; nothing where there is none
abbrev pub value_in : (environment : List Variable) (name : List ℕ) → List ℕ
value_in environment name = option_map_or (λ v. v.value) (find (is_named name) environment) []
