-- What is left of a makefile's items where the rules of some names are ignored (GNU make manual, "Options Summary", -o).
use Rattle.std.specs.Prelude.{◌≡◌, ◌⊎◌, ℕ, ◌==◌, Bool, true, false, not, ◌||◌, List, [], ◌∷◌, ◌++◌, filter, flat_map, Some, if◌then◌else◌}
use Rattle.std.specs.List.{list_any}
use Rattle.mk_macros.specs.Expansion.{ExpandsTo, gives}
use Rattle.mk_macros.specs.Ranks.{Defined, rule_meanings}
use Rattle.mk_reader.specs.declared.item.Item.{Item}
use Rattle.mk_reader.specs.declared.item.Item.TheVariants as item
use Rattle.mk_reader.specs.declared.item.Rule.{Rule}
use Rattle.mk_reader.specs.declared.item.Special.{Special}
use Rattle.mk_rule_lines.specs.Lines.{AreWordsOf, behind_items}
use Rattle.mk_rule_lines.specs.Rules.{has, has_percent, is_phony_list, comes_out}

-- a word as a text has it, in which `$$` stands for `$`
abbrev pub written : (word : List ℕ) → List ℕ
written [] = []
written (b ∷ word) = if b == 36 then 36 ∷ b ∷ written word else b ∷ written word

-- a text of these words
abbrev pub text_with : (words : List (List ℕ)) → List ℕ
text_with words = flat_map (λ word. written word ++ 32 ∷ []) words

-- the words that are among the names, or those that aren't
abbrev pub chosen : (old : List (List ℕ)) (among : Bool) (words : List (List ℕ)) → List (List ℕ)
chosen old among words = filter (λ word. comes_out among (has word old)) words

-- some word is among the names, or some isn't
abbrev pub any_chosen : (old : List (List ℕ)) (among : Bool) (words : List (List ℕ)) → Bool
any_chosen old among words = list_any (λ word. comes_out among (has word old)) words

-- a line that says of these targets that there are such, where that rule stands
abbrev pub bare : Rule → (targets : List ℕ) → Rule
bare rule targets = record { file = rule.file; line = rule.line; is_double = false; targets = targets; prerequisites = []; recipe = [] }

-- the line of these targets with what the rule has
abbrev pub with_targets : Rule → (targets : List ℕ) → Rule
with_targets rule targets = record {
  file = rule.file;
  line = rule.line;
  is_double = rule.is_double;
  targets = targets;
  prerequisites = rule.prerequisites;
  recipe = rule.recipe;
}

abbrev pub with_prerequisites : Rule → (prerequisites : List ℕ) → Rule
with_prerequisites rule prerequisites = record {
  file = rule.file;
  line = rule.line;
  is_double = rule.is_double;
  targets = rule.targets;
  prerequisites = prerequisites;
  recipe = rule.recipe;
}

-- the first of the words is among the names
abbrev pub begins_among : (old words : List (List ℕ)) → Bool
begins_among old [] = false
begins_among old (word ∷ words) = has word old

-- two lines, of which the first target stays the first
abbrev pub in_order : (first : Bool) (gone kept : Item) → List Item
in_order true gone kept = gone ∷ kept ∷ []
in_order false gone kept = kept ∷ gone ∷ []

-- the targets that are among the names lose what the line says of them, and the others keep it
abbrev pub parted : (old : List (List ℕ)) → Rule → (targets : List (List ℕ)) → List Item
parted old rule targets =
    let gone = item.Rule (bare rule (text_with (chosen old true targets))) in
    let kept = item.Rule (with_targets rule (text_with (chosen old false targets))) in
    if any_chosen old false targets then in_order (begins_among old targets) gone kept else gone ∷ []

-- a pattern rule stays, and so does a line without such a target
abbrev pub stays : (old targets : List (List ℕ)) → Bool
stays old targets = list_any has_percent targets || not (any_chosen old true targets)

-- what is left of a rule line with these targets
abbrev pub rule_left : (old : List (List ℕ)) → Rule → (targets : List (List ℕ)) → List Item
rule_left old rule targets = if stays old targets then item.Rule rule ∷ [] else parted old rule targets

-- what is left of a line of `.PHONY` for these names: such names aren't phony
abbrev pub phony_left : (old : List (List ℕ)) → Special → (names : List (List ℕ)) → List Item
phony_left old special names =
    item.Special (record { name = special.name; rule = with_prerequisites special.rule (text_with (chosen old false names)) }) ∷ []

-- what is left by the words that a text expands to; a line whose text has no expansion stays: it is refused once all are expanded
abbrev pub IsLeftBy : (by : (words : List (List ℕ)) → List Item) (whole : Item) → Defined → (text : List ℕ) (left : List Item) → Type 0
IsLeftBy by whole given text left =
    ((words : List (List ℕ)) × AreWordsOf given text words × (left ≡ by words))
    ⊎ (((bytes : List ℕ) → ExpandsTo (rule_meanings given) text (gives bytes) → ⊥) × (left ≡ whole ∷ []))

abbrev pub IsSpecialLeft : (old : List (List ℕ)) (phony : Bool) → Defined → Special → (left : List Item) → Type 0
IsSpecialLeft old true given special left = IsLeftBy (phony_left old special) (item.Special special) given special.rule.prerequisites left
IsSpecialLeft old false given special left = left ≡ item.Special special ∷ []

-- that is left of an item, with the definitions above it
abbrev pub IsLeft : (old : List (List ℕ)) → Defined → Item → (left : List Item) → Type 0
IsLeft old given (item.Definition d) left = left ≡ item.Definition d ∷ []
IsLeft old given (item.Rule rule) left = IsLeftBy (rule_left old rule) (item.Rule rule) given rule.targets left
IsLeft old given (item.Special special) left = IsSpecialLeft old (is_phony_list (Some special.name)) given special left

-- these are left of the items, each with the definitions above it
abbrev pub AreLeft : (old : List (List ℕ)) → Defined → (items left : List Item) → Type 0
AreLeft old given [] left = left ≡ []
AreLeft old given (one ∷ items) left =
    (front : List Item) × (more : List Item) × IsLeft old given one front × AreLeft old (behind_items given (one ∷ [])) items more × (left ≡ front ++ more)

-- the items are left of all, where the rules of some names are ignored; else they are all
abbrev pub WithoutRulesOf : (old : List (List ℕ)) → Defined → (All : List Item → Type 0) (items : List Item) → Type 0
WithoutRulesOf [] given All items = All items
WithoutRulesOf (name ∷ names) given All items = (all : List Item) × All all × AreLeft (name ∷ names) given all items
