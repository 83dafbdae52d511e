-- The node of a name has what is known of the name.
use Rattle.std.specs.Prelude.{◌++◌, slice_get, option_map, option_and_then, is_some, unwrap_or}
use Rattle.std.specs.Option.{option_map_or}
use Rattle.std.proofs.Common.{◌≡◌, ◌∙◌, ◌<◌, ℕ, List, [], ◌∷◌, drop, length, map, take, Option, Some, None, inl, inr, refl, sym, ap, arith}
use Rattle.std.proofs.lemmas.List.{take-map, drop-map, length-map}
use Rattle.std.proofs.lemmas.Option.{slice_get_cases}
use Rattle.mk_graph.specs.Edges.{row}
use Rattle.mk_names.specs.Names.{all_added, name_at}
use Rattle.mk_rule_lines.specs.Explicit.{explicit_of as names_written}
use Rattle.mk_rule_lines.specs.declared.rule_line.RuleLine.{RuleLine}
use Rattle.mk_nodes.specs.Graph.{IsNode, IsGraph, judged, required_in}
use Rattle.mk_nodes.specs.Node.{source_by, source_in, explicit_in, implied_in, hidden_in as hidden_at}
use Rattle.mk_nodes.specs.Prerequisites.{Inputs, implicit_source, made_from, recipe_of as rule_of, hard_of, hidden_in, distinct, required_of}
use Rattle.mk_nodes.specs.declared.graph.Node.{Node}
use Rattle.mk_nodes.specs.declared.graph.Graph.{Graph}
use Rattle.mk_seen.specs.Marks.{look_from}
use Rattle.mk_seen.specs.Nodes.{group_in, made_in, entry_of}
use Rattle.mk_plan.specs.Known.{IsNodeOf}
use Rattle.st_records.specs.declared.record.Entry.{Entry}
use Rattle.mk_plan.specs.Parts.{language_of, parts_of}
use Rattle.mk_nodes.specs.Groups.{group_of, group_with, others_in}
use Rattle.mk_nodes.specs.Look.{time_of}
use Rattle.mk_nodes.specs.declared.file_look.FileLook.{FileLook}
use Rattle.mk_nodes.specs.declared.group.Group.{Group}
use Rattle.mk_plan.specs.Words.{implied_names}
use Rattle.mk_names.proofs.NameLemmas.{all_added-append}
use Rattle.mk_nodes.proofs.FreshLemmas.{front_added}

or_map : {A B : Type 0} (f : A → B) (o : Option A) (d : B) → unwrap_or (option_map f o) d ≡ option_map_or f o d
or_map f None d = refl
or_map f (Some x) d = refl

some_map : {A B : Type 0} (f : A → B) (o : Option A) → is_some (option_map f o) ≡ is_some o
some_map f None = refl
some_map f (Some x) = refl

-- the looks at what is made beside a name are those at each of them
looks_with : (looks : List ℕ → Option FileLook) (name : List ℕ) (others : List (List ℕ)) →
    option_map_or (λ (g : Group). g.looks) (group_with looks name others) []
    ≡ map looks (option_map_or (λ (g : Group). g.others) (group_with looks name others) [])
looks_with looks name [] = refl
looks_with looks name (other ∷ others) = refl

module _ (inputs : Inputs) (named : List (List ℕ)) (graph : Graph) (is : IsGraph inputs named graph) (n : ℕ) (within : n < length graph.nodes.items) where
  abbrev parts_at : List RuleLine → Option ℕ → Option (List RuleLine)
  parts_at lines number = option_map (parts_of (language_of graph) lines (name_at graph.names n)) (option_and_then (slice_get lines) number)

  of_node : (node : Node) → slice_get graph.nodes.items n ≡ Some node → IsNodeOf inputs graph n (name_at graph.names n)
  of_node node at =
      let name : List ℕ = name_at graph.names n in
      let hard : List ℕ = row graph.hard n in
      let known : IsNode inputs graph.names hard (row graph.soft n) name node = is.node n node at in
      let hard_is : map (name_at graph.names) hard ≡ hard_of inputs name = is.hard.1 n (omega (arith, is.nodes)) in
      let made : List (List ℕ) = made_from (implicit_source inputs name) in
      let front : take (length (distinct made)) (hard_of inputs name) ≡ distinct made
      = ap (take (length (distinct made))) (all_added-append [] made (names_written inputs.lines name)) ∙ front_added (distinct made) (names_written inputs.lines name) in
      let implied_are : implied_names graph n ≡ distinct made
      = ap (λ o. map (name_at graph.names) (implied_in o hard)) at ∙ sym (take-map (name_at graph.names) node.rare.implied hard)
      ∙ ap (take node.rare.implied) hard_is ∙ ap (λ k. take k (hard_of inputs name)) known.implied ∙ front in
      let entry_is : entry_of graph n ≡ inputs.entries name = ap (λ (f : List ℕ → Option Entry). f name) is.entries in
      record {
        stamp = ap (option_and_then (λ (m : Node). time_of m.stamp)) at ∙ ap time_of known.stamp;
        look = ap (λ o. look_from (option_and_then (λ (m : Node). m.stamp) o)) at ∙ ap look_from known.stamp;
        made =
            ap (option_and_then made_in) at
            ∙ ap (λ (g : Option Group). option_map_or (λ (m : Group). m.made) g (time_of node.stamp)) known.group
            ∙ ap (λ s. option_map_or (λ (m : Group). m.made) (group_of inputs name) (time_of s)) known.stamp;
        made_too =
            ap (λ o. option_map_or (λ (g : Group). g.others) (option_and_then group_in o) []) at
            ∙ ap (λ (g : Option Group). option_map_or (λ (m : Group). m.others) g []) known.group;
        beside =
            ap (λ o. option_map_or (λ (g : Group). g.looks) (option_and_then group_in o) []) at
            ∙ ap (λ (g : Option Group). option_map_or (λ (m : Group). m.looks) g []) known.group
            ∙ looks_with inputs.looks name (others_in (implicit_source inputs name));
        entry = entry_is;
        stem =
            ap (λ o. unwrap_or (option_and_then (λ (m : Node). m.rare.stem) o) []) at ∙ ap (λ o. unwrap_or o []) known.stem
            ∙ or_map (λ s. s.stem) (implicit_source inputs name) [];
        implicit =
            ap (λ o. is_some (option_and_then (λ (m : Node). m.rare.stem) o)) at ∙ ap is_some known.stem
            ∙ some_map (λ s. s.stem) (implicit_source inputs name);
        source =
            ap (λ o. option_map_or (name_at graph.names) (source_in o hard) []) at
            ∙ sym (or_map (name_at graph.names) (source_by node.rare.implied hard) []) ∙ ap (λ o. unwrap_or o []) known.source;
        source_named = ap (λ o. option_map (name_at graph.names) (source_in o hard)) at ∙ known.source;
        recipe =
            ap (λ o. parts_at graph.lines.items (option_and_then (λ (m : Node). m.recipe) o)) at
            ∙ ap (parts_at graph.lines.items) known.recipe
            ∙ ap (λ lines. parts_at lines (rule_of inputs name)) is.lines;
        hard = hard_is;
        names =
            ap (λ hs. all_added (distinct hs) (hidden_in (entry_of graph n))) hard_is
            ∙ ap (λ e. all_added (distinct (hard_of inputs name)) (hidden_in e)) entry_is;
        explicit = ap (λ o. map (name_at graph.names) (explicit_in o hard)) at ∙ known.explicit;
        sources = implied_are;
        written =
            ap (λ s. s ++ names_written graph.lines.items name) implied_are
            ∙ ap (λ lines. distinct made ++ names_written lines name) is.lines;
        order_only =
            let required : List ℕ = row (required_in graph) n in
            sym (drop-map (name_at graph.names) (length hard) required)
            ∙ ap (drop (length hard)) (is.required.rows n (omega (arith, is.nodes)))
            ∙ ap (λ k. drop k (required_of inputs name)) (sym (length-map hard (name_at graph.names)) ∙ ap length hard_is);
        prerequisites =
            ap (λ o. map (option_map (name_at graph.names)) (judged hard (hidden_at o (row graph.soft n)))) at
            ∙ known.prerequisites;
      }

  pub node_of_name : IsNodeOf inputs graph n (name_at graph.names n)
  node_of_name =
      elim (slice_get_cases graph.nodes.items n).1 [
        | inl there ↦ let (node, inside, at, same) = there in of_node node at
        | inr beyond ↦ let (past, none) = beyond in absurd (omega arith)
      ]
