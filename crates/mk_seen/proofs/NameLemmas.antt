-- Names that run out before nodes do.
use Rattle.std.specs.Option.{option_map_or}
use Rattle.std.specs.Str.{bytes_eq}
use Rattle.std.proofs.Common.{◌≡◌, ◌∙◌, ◌<◌, ℕ, suc, Bool, true, false, ◌&&◌, List, [], ◌∷◌, length, map, drop, get_or, refl, sym, ap}
use Rattle.std.proofs.Math.Seq.{drop-cons}
use Rattle.std.proofs.lemmas.Slice.Eq.{bytes_eq-Decides}
use Rattle.mk_names.specs.Names.{name_at}
use Rattle.mk_nodes.specs.declared.graph.Graph.{Graph}
use Rattle.mk_seen.specs.Names.{are_same, come_first}
use Rattle.st_records.specs.Parts.{names_known, names_recorded}
use Rattle.st_records.specs.declared.record.Explicit.{Explicit}
use Rattle.st_records.specs.declared.record.Explicit.TheVariants as explicits

both_true : (a b : Bool) → a ≡ true → b ≡ true → (a && b) ≡ true
both_true a b e f = rw (e, f) refl

-- fewer names than nodes
pub too_few : (graph : Graph) (nodes : List ℕ) (i : ℕ) (left names : List (List ℕ)) → i < length nodes → left ≡ [] →
    are_same (map (name_at graph.names) (drop i nodes)) left ≡ are_same (map (name_at graph.names) nodes) names →
    false ≡ are_same (map (name_at graph.names) nodes) names
too_few graph nodes i left names within none so_far =
    let here : are_same (map (name_at graph.names) (get_or nodes i 0 ∷ drop (suc i) nodes)) [] ≡ false = refl in
    sym here ∙ ap (λ ns. are_same (map (name_at graph.names) ns) []) (sym (drop-cons nodes i 0 within))
    ∙ ap (λ rest. are_same (map (name_at graph.names) (drop i nodes)) rest) (sym none) ∙ so_far

pub too_few_first : (graph : Graph) (nodes : List ℕ) (i : ℕ) (left names : List (List ℕ)) → i < length nodes → left ≡ [] →
    come_first (map (name_at graph.names) (drop i nodes)) left ≡ come_first (map (name_at graph.names) nodes) names →
    false ≡ come_first (map (name_at graph.names) nodes) names
too_few_first graph nodes i left names within none so_far =
    let here : come_first (map (name_at graph.names) (get_or nodes i 0 ∷ drop (suc i) nodes)) [] ≡ false = refl in
    sym here ∙ ap (λ ns. come_first (map (name_at graph.names) ns) []) (sym (drop-cons nodes i 0 within))
    ∙ ap (λ rest. come_first (map (name_at graph.names) (drop i nodes)) rest) (sym none) ∙ so_far

-- names are the same as themselves
pub same_as_themselves : (names : List (List ℕ)) → are_same names names ≡ true
same_as_themselves [] = refl
same_as_themselves (name ∷ names) = both_true (bytes_eq name name) (are_same names names) ((bytes_eq-Decides name name).1 refl) (same_as_themselves names)

-- the names of an entry's explicit prerequisites, where it has any, are themselves
pub recorded_same : (explicit : Explicit) → option_map_or (are_same (names_known explicit)) (names_recorded explicit) true ≡ true
recorded_same explicits.Unknown = refl
recorded_same (explicits.Known names) = same_as_themselves names
recorded_same (explicits.Marked names text) = same_as_themselves names
