-- The words of `$+`, where there are any.
use Rattle.std.specs.Prelude.{Bool, true, false, if◌then◌else◌, is_some, option_map, IfSome}
use Rattle.std.proofs.Common.{◌≡◌, ◌∙◌, ℕ, List, ◌++◌, Option, Some, None, ap}
use Rattle.mk_names.specs.Names.{name_at}
use Rattle.mk_profile.specs.Profile.{is_wide}
use Rattle.mk_rule_lines.specs.Explicit.{explicit_of}
use Rattle.mk_nodes.specs.declared.graph.Graph.{Graph}
use Rattle.mk_plan.specs.Parts.{language_of}
use Rattle.mk_plan.specs.Words.{in_wide, implied_names, written_of}

-- a value where the test comes out so
chosen : {A : Type 0} (value : A) (wide answer : Bool) → answer ≡ wide → (if answer then Some value else None) ≡ (if wide then Some value else None)
chosen value wide answer is = ap (λ b. if b then Some value else None) is

pub written_words : (graph : Graph) (n : ℕ) (explicit words : Option (List (List ℕ))) →
    words ≡ option_map (λ names. implied_names graph n ++ names) explicit → is_some explicit ≡ is_wide (language_of graph) →
    IfSome explicit (λ names. names ≡ explicit_of graph.lines.items (name_at graph.names n)) →
    words ≡ in_wide (language_of graph) (written_of graph n)
written_words graph n None words are wide names = are ∙ chosen (written_of graph n) (is_wide (language_of graph)) false wide
written_words graph n (Some explicit) words are wide names =
    are ∙ ap (λ ns. Some (implied_names graph n ++ ns)) names ∙ chosen (written_of graph n) (is_wide (language_of graph)) true wide
