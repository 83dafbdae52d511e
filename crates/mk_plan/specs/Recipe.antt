-- The lines of a recipe, expanded (make(1S), "Command Lines" and "Dynamic Macros").
use Rattle.std.specs.Prelude.{◌≡◌, ◌⊎◌, ℕ, Bool, List, [], ◌∷◌, ◌++◌, Option, None, Some, map, option_map}
use Rattle.mk_macros.specs.Dynamic.{words_in}
use Rattle.mk_macros.specs.Expansion.{Meanings, gives, ExpandsTo, ExpandsToFault}
use Rattle.mk_macros.specs.Ranks.{defined_by, meanings_of}
use Rattle.mk_macros.specs.declared.dynamic.RecipeNames.{RecipeNames}
use Rattle.mk_macros.specs.declared.dynamic.Dynamic.TheVariants as dynamic
use Rattle.mk_macros.specs.declared.fault.MacroFault.{MacroFault}
use Rattle.mk_macros.specs.declared.fault.MacroFault.TheVariants.{OutOfMemory}
use Rattle.mk_reader.specs.declared.item.RecipeLine.{RecipeLine}
use Rattle.mk_rule_lines.specs.declared.fault.TextFault.{TextFault}
use Rattle.mk_rule_lines.specs.declared.fault.TextPlace.{TextPlace}
use Rattle.mk_rule_lines.specs.Rules.{told_file}
use Rattle.mk_rule_lines.specs.declared.rule_line.RuleLine.{RuleLine}
use Rattle.mk_recipe.specs.Line.{IsLine}
use Rattle.mk_recipe.specs.declared.line.Line.{Line}
use Rattle.mk_nodes.specs.declared.graph.Graph.{Graph}
use Rattle.mk_names.specs.Names.{name_at}
use Rattle.mk_plan.specs.ExplicitWords.{source_word, stem_word}
use Rattle.mk_plan.specs.Nodes.{AreNewer}
use Rattle.mk_plan.specs.PartWords.{once_in, written_in, hard_in}
use Rattle.mk_plan.specs.Parts.{language_of}
use Rattle.mk_plan.specs.declared.fault.RecipeFault.{RecipeFault}
use Rattle.mk_plan.specs.declared.fault.RecipeFault.TheVariants as fault
use Rattle.mk_plan.specs.declared.words.RecipeWords.{RecipeWords}
use Rattle.mk_plan.specs.Words.{in_wide, order_only_words}

-- the line is what the unexpanded one gives, where names mean this
pub record IsExpandedLine (meanings : Meanings) (raw : RecipeLine) (line : Line) : Type 0 where
  pub expansion : List ℕ
  pub expands : ExpandsTo meanings raw.text (gives expansion)
  pub is_line : IsLine meanings.language raw.text expansion line

-- each line is what the unexpanded one at its place gives
abbrev pub AreExpanded : (meanings : Meanings) → List RecipeLine → List Line → Type 0
AreExpanded meanings [] [] = Unit {0}
AreExpanded meanings [] (line ∷ lines) = ⊥
AreExpanded meanings (raw ∷ raws) [] = ⊥
AreExpanded meanings (raw ∷ raws) (line ∷ lines) = IsExpandedLine meanings raw line × AreExpanded meanings raws lines

-- the fault is what the expansion of a text meets
abbrev pub MeetsFault : (meanings : Meanings) → (text : List ℕ) → MacroFault → Type 0
MeetsFault meanings text OutOfMemory = ⊥
MeetsFault meanings text cause = ExpandsToFault meanings text cause

-- the place of a line of this file, where the file is told
abbrev pub place_in : (file : Option (List ℕ)) → (line : ℕ) → Option TextPlace
place_in None line = None
place_in (Some file) line = Some (record { file = file; line = line })

-- the line has the fault, which is told of the line's place
pub record IsFaultIn (meanings : Meanings) (file : Option (List ℕ)) (raw : RecipeLine) (f : TextFault) : Type 0 where
  pub cause : MeetsFault meanings raw.text f.cause
  pub place : f.place ≡ place_in file raw.line

-- so it is of the line; want of memory says nothing of it
abbrev pub IsLineFault : (meanings : Meanings) → (file : Option (List ℕ)) → RecipeLine → RecipeFault → Type 0
IsLineFault meanings file raw fault.OutOfMemory = Unit {0}
IsLineFault meanings file raw (fault.Macro f) = IsFaultIn meanings file raw f

-- the fault is that of the first line that has one: each line before it gives one
abbrev pub HasFirstFault : (meanings : Meanings) → (file : Option (List ℕ)) → List RecipeLine → TextFault → Type 0
HasFirstFault meanings file [] f = ⊥
HasFirstFault meanings file (raw ∷ raws) f =
    IsFaultIn meanings file raw f ⊎ ((line : Line) × IsExpandedLine meanings raw line × HasFirstFault meanings file raws f)

-- so it is of the recipe; want of memory says nothing of its lines
abbrev pub IsRecipeFault : (meanings : Meanings) → (file : Option (List ℕ)) → List RecipeLine → RecipeFault → Type 0
IsRecipeFault meanings file recipe fault.OutOfMemory = Unit {0}
IsRecipeFault meanings file recipe (fault.Macro f) = HasFirstFault meanings file recipe f

-- what the dynamic macros stand for in the part of node n's recipe that this line has. The words of `$?` are of the source and the
-- prerequisites by name; those of `$^` and `$+` are all of them, and those of `$|` the order-only ones of the node; the wide profile alone
-- has these
pub record AreNames (graph : Graph) (marks : List Bool) (n : ℕ) (l : RuleLine) (names : RecipeNames) : Type 0 where
  pub target : names.target.now ≡ name_at graph.names n
  pub source : names.source.now ≡ source_word graph n l
  pub stem : names.stem.now ≡ stem_word graph n
  pub newer : AreNewer graph marks n (hard_in graph n l) (map (λ word. word.now) names.newer.now)
  pub once : words_in names.once ≡ in_wide (language_of graph) (once_in graph n l)
  pub repeated : words_in names.repeated ≡ in_wide (language_of graph) (written_in graph n l)
  pub order_only : words_in names.order_only ≡ in_wide (language_of graph) (order_only_words graph n)

-- the words of `$?`, `$^`, `$+` and `$|` in that part
pub record AreRecipeWords (graph : Graph) (marks : List Bool) (n : ℕ) (l : RuleLine) (words : RecipeWords) : Type 0 where
  pub newer : AreNewer graph marks n (hard_in graph n l) (map (λ word. word.now) words.newer.items)
  pub once : option_map (λ found. map (λ word. word.now) found.items) words.once ≡ in_wide (language_of graph) (once_in graph n l)
  pub repeated : option_map (λ found. map (λ word. word.now) found.items) words.repeated ≡ in_wide (language_of graph) (written_in graph n l)
  pub order_only : option_map (λ found. map (λ word. word.now) found.items) words.order_only ≡ in_wide (language_of graph) (order_only_words graph n)

-- what a name means in a line of this recipe: recipe lines are expanded with all definitions of the makefile
abbrev pub recipe_meaning : Graph → RecipeNames → Meanings
recipe_meaning graph names = meanings_of (defined_by graph.macros) (dynamic.RecipeLine names)

-- the lines of the part of node n's recipe that this line has
pub record AreLinesIn (graph : Graph) (marks : List Bool) (n : ℕ) (l : RuleLine) (lines : List Line) : Type 0 where
  pub names : RecipeNames
  pub are_names : AreNames graph marks n l names
  pub expanded : AreExpanded (recipe_meaning graph names) l.recipe lines

-- the lines of the recipe of node n, whose parts these lines have, one behind the other
abbrev pub AreLinesOf : Graph → (marks : List Bool) → (n : ℕ) → (recipe : List RuleLine) → (lines : List Line) → Type 0
AreLinesOf graph marks n [] lines = lines ≡ []
AreLinesOf graph marks n (l ∷ parts) lines =
    (own : List Line) × (rest : List Line) × AreLinesIn graph marks n l own × AreLinesOf graph marks n parts rest × (lines ≡ own ++ rest)

-- the fault is that of the first faulty line of that part
abbrev pub IsFaultOfLine : Graph → (marks : List Bool) → (n : ℕ) → RuleLine → TextFault → Type 0
IsFaultOfLine graph marks n l f = (names : RecipeNames) × AreNames graph marks n l names × HasFirstFault (recipe_meaning graph names) (told_file l.profile l.file) l.recipe f

abbrev pub IsFaultOfPart : Graph → (marks : List Bool) → (n : ℕ) → RuleLine → RecipeFault → Type 0
IsFaultOfPart graph marks n l fault.OutOfMemory = Unit {0}
IsFaultOfPart graph marks n l (fault.Macro f) = IsFaultOfLine graph marks n l f

-- it is that of the first part that has one: each part before it gives lines
abbrev pub HasFaultyPart : Graph → (marks : List Bool) → (n : ℕ) → (recipe : List RuleLine) → TextFault → Type 0
HasFaultyPart graph marks n [] f = ⊥
HasFaultyPart graph marks n (l ∷ parts) f =
    IsFaultOfLine graph marks n l f ⊎ ((own : List Line) × AreLinesIn graph marks n l own × HasFaultyPart graph marks n parts f)

-- the fault is that of the first faulty line of the recipe of node n; want of memory says nothing of them
abbrev pub IsFaultOf : Graph → (marks : List Bool) → (n : ℕ) → (recipe : List RuleLine) → RecipeFault → Type 0
IsFaultOf graph marks n recipe fault.OutOfMemory = Unit {0}
IsFaultOf graph marks n recipe (fault.Macro f) = HasFaultyPart graph marks n recipe f

-- how the fault of an expansion is told of a place
abbrev pub IsToldAt : (place : Option TextPlace) → MacroFault → RecipeFault → Type 0
IsToldAt place OutOfMemory told = told ≡ fault.OutOfMemory
IsToldAt place cause told = told ≡ fault.Macro (record { place = place; cause = cause })
