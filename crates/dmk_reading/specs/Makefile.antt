-- Which files are the makefile (make(1S), -f and the names makefile and Makefile), and what those that are named give.
use Rattle.std.specs.Prelude.{◌≡◌, ◌⊎◌, ℕ, true, List, [], ◌∷◌, ◌++◌, Option, Some, None, Ok, is_some, codes}
use Rattle.mk_eval.specs.Output.{World}
use Rattle.mk_eval.specs.Makefile.{InOrder, Outcome, TextItems, behind, depth}
use Rattle.mk_macros.specs.Ranks.{Defined}
use Rattle.mk_reader.specs.declared.item.Item.{Item}
use Rattle.mk_nodes.specs.declared.file_look.FileLook.{FileLook}

-- the names that are tried where none is given
abbrev pub first_name : List ℕ
first_name = codes "makefile"

abbrev pub second_name : List ℕ
second_name = codes "Makefile"

-- there is a file of the name, or it can't be told
abbrev pub MayBeThere : (looks : List ℕ → Option FileLook) (refuses : List ℕ → Type 0) → (name : List ℕ) → Type 0
MayBeThere looks refuses name = (is_some (looks name) ≡ true) ⊎ refuses name

-- where none is named, the makefile is this file with this text: `makefile`, or else, where there is no such file, `Makefile`
abbrev pub IsUsualMakefile : (world : World) (looks : List ℕ → Option FileLook) (file text : List ℕ) → Type 0
IsUsualMakefile world looks file text =
    ((file ≡ first_name) × (world.files first_name ≡ Some text))
    ⊎ ((file ≡ second_name) × ((world.files first_name ≡ None) × ((looks first_name ≡ None) × (world.files second_name ≡ Some text))))

-- what the makefile of this name gives with what is defined before it: its items, or its first fault
abbrev pub NamedItems : (world : World) → Defined → (name : List ℕ) → Outcome → Type 0
NamedItems world given name outcome =
    (text : List ℕ) × (world.files name ≡ Some text) × TextItems world depth given name text outcome

-- what the makefiles of these names give, one behind the other as one makefile
abbrev pub AllItems : (world : World) → Defined → (names : List (List ℕ)) → Outcome → Type 0
AllItems world given names outcome = InOrder behind (NamedItems world) given names outcome

-- one of these makefiles can't be read, and all before it give items
pub record LacksOne (world : World) (given : Defined) (names : List (List ℕ)) : Type 0 where
  pub before : List (List ℕ)
  pub lacking : List ℕ
  pub behind : List (List ℕ)
  pub are_names : names ≡ before ++ lacking ∷ behind
  pub items : List Item
  pub are_items : AllItems world given before (Ok items)
  pub is_lacking : world.files lacking ≡ None

-- there is no makefile: one of those that are named can't be read; or none is named, `makefile` can't be read, and it is there
-- or `Makefile` can't be read either (own: a makefile that is there and can't be read isn't passed over)
abbrev pub HasNoMakefile : (world : World) (looks : List ℕ → Option FileLook) (refuses : List ℕ → Type 0)
    (named : List (List ℕ)) → Defined → Type 0
HasNoMakefile world looks refuses [] given =
    (world.files first_name ≡ None) × (MayBeThere looks refuses first_name ⊎ ((looks first_name ≡ None) × (world.files second_name ≡ None)))
HasNoMakefile world looks refuses (name ∷ names) given = LacksOne world given (name ∷ names)
