-- Lines without references, and the names that their recipe has all the same.
use Rattle.std.specs.Borrow.{Bor}
use Rattle.std.specs.List.{list_any}
use Rattle.std.specs.Bool.{OnTrue}
use Rattle.std.specs.Prelude.{option_to_list, option_map}
use Rattle.std.proofs.Common.{◌≡◌, ◌∙◌, ◌≤◌, ◌==◌, ℕ, Bool, true, false, cond, List, [], ◌∷◌, ◌++◌, length, map, Option, Some, None, refl, sym, ap, subst}
use Rattle.std.proofs.lemmas.Bool.{or_parts}
use Rattle.std.proofs.lemmas.Slice.Eq.{bytes_eq-Decides}
use Rattle.std.specs.Str.{bytes_eq}
use Rattle.mk_macros.specs.Dynamic.{words_in}
use Rattle.mk_macros.specs.Expansion.{Meanings}
use Rattle.mk_macros.specs.declared.fault.TheConstants.{MAX_EXPANSION_BYTES}
use Rattle.mk_macros.specs.Mention.{RefersToNewer}
use Rattle.mk_macros.specs.Reference.{front, first, plain, plain_until, behind_dollar}
use Rattle.mk_macros.specs.Words.{place_of}
use Rattle.mk_macros.specs.declared.dynamic.RecipeNames.{RecipeNames}
use Rattle.mk_macros.proofs.MentionLemmas.{goes_on, none_left}
use Rattle.mk_macros.proofs.PlainLemmas.{plain_expands, within_each}
use Rattle.mk_macros.proofs.SpelledLemmas.{place_of-none}
use Rattle.mk_profile.specs.Profile.{is_wide}
use Rattle.mk_profile.specs.declared.profile.Profile.{Profile}
use Rattle.mk_recipe.specs.Line.{IsKept}
use Rattle.mk_names.specs.Names.{name_at}
use Rattle.mk_reader.specs.declared.item.RecipeLine.{RecipeLine}
use Rattle.mk_rule_lines.specs.declared.rule_line.RuleLine.{RuleLine}
use Rattle.mk_nodes.specs.declared.graph.Graph.{Graph}
use Rattle.mk_plan.specs.ExplicitWords.{source_word, stem_word}
use Rattle.mk_plan.specs.Finished.{GivesFirst, GivesCommands, PartGives}
use Rattle.mk_plan.specs.Nodes.{AreNewer}
use Rattle.mk_plan.specs.Parts.{language_of}
use Rattle.mk_plan.specs.PartWords.{once_in, written_in, hard_in}
use Rattle.mk_plan.specs.Recipe.{AreExpanded, AreNames, recipe_meaning}
use Rattle.mk_plan.specs.Simple.{KeepsFirst, IsItsOwn}
use Rattle.mk_plan.specs.Words.{in_wide, order_only_words}
use Rattle.mk_plan.proofs.NodeLemmas.{newer_by, words_by}

-- ---- a text without a dollar

abbrev pub HasNoDollar : List ℕ → Type 0
HasNoDollar text = list_any (λ b. b == 36) text ≡ false

one_piece : (wide : Bool) (b : ℕ) (text : List ℕ) → HasNoDollar (b ∷ text) → front wide (b ∷ text) ≡ first (plain (b ∷ text)) []
one_piece wide b text none =
    let no : (b == 36) ≡ false = (or_parts (b == 36) (list_any (λ c. c == 36) text) none).0 in
    ap (λ t. cond t (behind_dollar wide text) (plain_until (b ∷ text) (place_of 36 (b ∷ text)))) no
    ∙ ap (plain_until (b ∷ text)) (place_of-none 36 (b ∷ text) none)

refers_nowhere : (wide : Bool) (text : List ℕ) → HasNoDollar text → RefersToNewer wide text → ⊥
refers_nowhere wide [] none refers = none_left wide [] refl refers
refers_nowhere wide (b ∷ text) none refers =
    none_left wide [] refl (goes_on wide (b ∷ text) [] (plain (b ∷ text)) (one_piece wide b text none) refl (λ w. refl) refers)

pub its_own : (text : List ℕ) → HasNoDollar text → length text ≤ MAX_EXPANSION_BYTES → IsItsOwn text
its_own text none within = record {
  expands = λ meanings. plain_expands (is_wide meanings.language) meanings.meaning text none
      (within_each (is_wide meanings.language) (length text) within);
  refers = λ wide. refers_nowhere wide text none;
}

-- what the state keeps of its line is what it keeps of the line that the recipe gives
first_given : (raw : RecipeLine) (old new : List (List ℕ)) → IsItsOwn raw.text → KeepsFirst raw.text old new → (meanings : Meanings) → GivesFirst meanings raw old new
first_given raw old new own keeps meanings =
    let is = keeps.is_kept meanings.language raw.text (own.refers (is_wide meanings.language)) in
    record {
      line = is.line;
      expanded = record { expansion = raw.text; expands = own.expands meanings; is_line = is.is_line };
      first = keeps.first ∙ ap (λ kept. option_to_list kept ++ new) is.is_kept;
    }

pub first_if : (raw : RecipeLine) (text : List ℕ) (old new : List (List ℕ)) (so : Bool) → text ≡ raw.text → IsItsOwn text → OnTrue so (KeepsFirst text old new) →
    OnTrue so ((meanings : Meanings) → GivesFirst meanings raw old new)
first_if raw text old new true same own keeps =
    first_given raw old new (subst IsItsOwn same own) (subst (λ t. KeepsFirst t old new) same keeps)
first_if raw text old new false same own keeps = tt

-- the command that comes next is what the state keeps
pub next_kept : (expanded kept command : List ℕ) (old new : List (List ℕ)) (so : Bool) →
    ((profile : Profile) (unexpanded : List ℕ) → (RefersToNewer (is_wide profile) unexpanded → ⊥) → IsKept profile unexpanded expanded (Some kept)) →
    old ≡ command ∷ new → so ≡ bytes_eq command kept → OnTrue so (KeepsFirst expanded old new)
next_kept expanded kept command old new true is next same =
    record { kept = Some kept; is_kept = is; first = next ∙ ap (λ c. c ∷ new) ((bytes_eq-Decides command kept).0 (sym same)) }
next_kept expanded kept command old new false is next same = tt

-- ---- the names of a recipe

abbrev lent : {A : Type 0} → A → Bor A
lent value = record { ref_ptr = (0, 0); now = value }

abbrev lent_words : List (List ℕ) → Bor (List (Bor (List ℕ)))
lent_words words = lent (map lent words)

words_again : (words : List (List ℕ)) → map (λ word. word.now) (map lent words) ≡ words
words_again [] = refl
words_again (word ∷ words) = ap (λ rest. word ∷ rest) (words_again words)

found_again : (found : Option (List (List ℕ))) → words_in (option_map lent_words found) ≡ found
found_again None = refl
found_again (Some words) = ap Some (words_again words)

module _ (graph : Graph) (marks : List Bool) (n : ℕ) (l : RuleLine) where
  abbrev newer_words : List (List ℕ)
  newer_words = words_by graph marks n (hard_in graph n l)

  abbrev names_there : RecipeNames
  names_there = record {
    target = lent (name_at graph.names n);
    source = lent (source_word graph n l);
    stem = lent (stem_word graph n);
    newer = lent_words newer_words;
    once = option_map lent_words (in_wide (language_of graph) (once_in graph n l));
    repeated = option_map lent_words (in_wide (language_of graph) (written_in graph n l));
    order_only = option_map lent_words (in_wide (language_of graph) (order_only_words graph n));
  }

  are_there : AreNames graph marks n l names_there
  are_there = record {
    target = refl;
    source = refl;
    stem = refl;
    newer = subst (AreNewer graph marks n (hard_in graph n l)) (sym (words_again newer_words)) (newer_by graph marks n (hard_in graph n l));
    once = found_again (in_wide (language_of graph) (once_in graph n l));
    repeated = found_again (in_wide (language_of graph) (written_in graph n l));
    order_only = found_again (in_wide (language_of graph) (order_only_words graph n));
  }

  -- what the lines give whatever names mean the recipe gives
  pub given_simply : (recipe : List RecipeLine) (given commands : List (List ℕ)) → recipe ≡ l.recipe → given ≡ commands →
      ((meanings : Meanings) → GivesCommands meanings recipe given) → PartGives graph marks n l commands
  given_simply recipe given commands lines_are same gives =
      let (lines, expanded, is) = gives (recipe_meaning graph names_there) in (
        lines,
        record {
          names = names_there;
          are_names = are_there;
          expanded = subst (λ raws. AreExpanded (recipe_meaning graph names_there) raws lines) lines_are expanded;
        },
        is ∙ same,
      )
