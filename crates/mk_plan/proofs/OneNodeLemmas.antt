-- By the same inputs and goals two graphs say the same of each number.
use Rattle.std.specs.Prelude.{slice_get, option_map, is_some, option_and_then, unwrap_or}
use Rattle.std.specs.List.{list_all}
use Rattle.std.specs.Option.{option_map_or}
use Rattle.std.specs.FinMap as finmap
use Rattle.std.proofs.Common.{◌≡◌, ◌∙◌, ◌<◌, ◌≤◌, ℕ, zero, suc, true, false, ◌&&◌, nat_lt, List, [], ◌∷◌, ◌++◌, length, map, drop, Option, Some, None, inl, inr, refl, sym, ap, subst, ⊎_elim, arith}
use Rattle.std.proofs.lemmas.Bool.{and_from, cases_lt}
use Rattle.std.proofs.lemmas.List.{get_or_past}
use Rattle.std.proofs.lemmas.List.Folds.{list_all-append}
use Rattle.std.proofs.lemmas.Option.{slice_get_cases}
use Rattle.mk_graph.specs.Edges.{row}
use Rattle.mk_names.specs.Names.{name_at}
use Rattle.mk_graph.proofs.CycleLemmas.{closed_row}
use Rattle.mk_macros.specs.Ranks.{defined_by, Defined}
use Rattle.mk_profile.specs.declared.profile.Profile.{Profile}
use Rattle.mk_rule_lines.specs.declared.rule_line.RuleLine.{RuleLine}
use Rattle.mk_nodes.specs.Graph.{IsGraph, is_numbered, judged, judged_name, required_in}
use Rattle.mk_nodes.specs.Node.{source_in, explicit_in, implied_in, hidden_in}
use Rattle.mk_nodes.specs.Groups.{made_beside, made_time}
use Rattle.mk_nodes.specs.Look.{time_of}
use Rattle.mk_nodes.specs.Prerequisites.{Inputs, hard_of, judged_of, distinct, implicit_source, made_from, source_name as source_of_rule, recipe_of as rule_of, explicit_names, required_of}
use Rattle.mk_nodes.specs.declared.graph.Node.{Node}
use Rattle.mk_nodes.specs.declared.graph.Graph.{Graph}
use Rattle.mk_nodes.specs.declared.group.Group.{Group}
use Rattle.mk_nodes.proofs.OneGraphLemmas.{one_names, one_count, one_hard, one_dropped, same_hidden}
use Rattle.mk_verdict.specs.declared.mark.Look.TheVariants.{NoFile}
use Rattle.mk_seen.specs.Marks.{look_from, look_of, looks_beside, source_name}
use Rattle.mk_seen.specs.Nodes.{node_at, stamp_of, group_in, made_in, made_of, hidden_of, stem_of, source_of, explicit_of}
use Rattle.mk_plan.specs.ExplicitWords.{is_implicit}
use Rattle.mk_plan.specs.Known.{IsNodeOf}
use Rattle.mk_plan.specs.Parts.{language_of, parts_of, recipe_of}
use Rattle.mk_plan.specs.Words.{implied_names, order_only_words}
use Rattle.mk_plan.proofs.KnownLemmas.{node_of_name}
use Rattle.mk_plan.proofs.SeenLemmas.{AreAlike}
use Rattle.st_records.specs.declared.record.Entry.{Entry}

past_none : {A : Type 0} (xs : List A) (n : ℕ) → length xs ≤ n → slice_get xs n ≡ None
past_none xs n past =
    elim (slice_get_cases xs n).1 [
      | inl there ↦ let (x, inside, at, same) = there in absurd (omega arith)
      | inr beyond ↦ let (behind, none) = beyond in none
    ]

-- ---- past the end there is nothing

module _ (graph : Graph) (n : ℕ) (past : length graph.nodes.items ≤ n) where
  none : node_at graph n ≡ None
  none = past_none graph.nodes.items n past

  no_stamp : stamp_of graph n ≡ None
  no_stamp = ap (option_and_then (λ (node : Node). time_of node.stamp)) none

  no_look : look_of graph n ≡ NoFile
  no_look = ap (λ o. look_from (option_and_then (λ (node : Node). node.stamp) o)) none

  none_beside : looks_beside graph n ≡ []
  none_beside = ap (λ o. option_map_or (λ (g : Group). g.looks) (option_and_then group_in o) []) none

  no_made : made_of graph n ≡ None
  no_made = ap (option_and_then made_in) none

  no_hidden : hidden_of graph n ≡ []
  no_hidden = ap (λ o. hidden_in o (row graph.soft n)) none

  no_stem : stem_of graph n ≡ []
  no_stem = ap (λ o. unwrap_or (option_and_then (λ (node : Node). node.rare.stem) o) []) none

  not_implicit : is_implicit graph n ≡ false
  not_implicit = ap (λ o. is_some (option_and_then (λ (node : Node). node.rare.stem) o)) none

  no_source : source_of graph n ≡ []
  no_source = ap (λ o. option_map_or (name_at graph.names) (source_in o (row graph.hard n)) []) none

  no_source_name : source_name graph n ≡ None
  no_source_name = ap (λ o. option_map (name_at graph.names) (source_in o (row graph.hard n))) none

  no_explicit : explicit_of graph n ≡ []
  no_explicit =
      ap (λ o. map (name_at graph.names) (explicit_in o (row graph.hard n))) none
      ∙ ap (map (name_at graph.names)) (get_or_past graph.hard n [] (omega (arith, graph.hard_rows)))

  none_implied : implied_names graph n ≡ []
  none_implied = ap (λ o. map (name_at graph.names) (implied_in o (row graph.hard n))) none

  none_order_only : order_only_words graph n ≡ []
  none_order_only =
      ap (λ ms. map (name_at graph.names) (drop (length (row graph.hard n)) ms)) (get_or_past (required_in graph) n [] (omega (arith, graph.required_rows)))
      ∙ none_behind (length (row graph.hard n))
    where
      none_behind : (k : ℕ) → map (name_at graph.names) (drop k []) ≡ []
      none_behind zero = refl
      none_behind (suc k) = refl

  no_recipe : recipe_of graph n ≡ None
  no_recipe =
      ap (λ o. option_map (parts_of (language_of graph) graph.lines.items (name_at graph.names n))
      (option_and_then (slice_get graph.lines.items) (option_and_then (λ (node : Node). node.recipe) o))) none

-- ---- hidden prerequisites

some_numbered : (count : ℕ) (ns : List ℕ) → list_all (is_numbered count) (map Some ns) ≡ list_all (λ n. nat_lt n count) ns
some_numbered count [] = refl
some_numbered count (n ∷ ns) = ap (λ b. nat_lt n count && b) (some_numbered count ns)

behind_same : (hard : List ℕ) (h k : List (Option ℕ)) → map Some hard ++ h ≡ map Some hard ++ k → h ≡ k
behind_same [] h k same = same
behind_same (n ∷ hard) h k same = behind_same hard h k (ap (drop 1) same)

module _ (inputs : Inputs) (named : List (List ℕ)) (graph : Graph) (is : IsGraph inputs named graph) (n : ℕ) (within : n < length graph.nodes.items) where
  hidden_numbered : list_all (is_numbered (length graph.names)) (hidden_of graph n) ≡ true
  hidden_numbered =
      elim (slice_get_cases graph.nodes.items n).1 [
        | inl there ↦
            let (node, inside, at, same) = there in
            ap (λ o. list_all (is_numbered (length graph.names)) (hidden_in o (row graph.soft n))) at ∙ (is.node n node at).numbered
        | inr beyond ↦ let (past, none) = beyond in absurd (omega arith)
      ]

  judged_numbered : list_all (is_numbered (length graph.names)) (judged (row graph.hard n) (hidden_of graph n)) ≡ true
  judged_numbered =
      let inside : n < length graph.hard = omega (arith, graph.hard_rows) in
      list_all-append (is_numbered (length graph.names)) (map Some (row graph.hard n)) (hidden_of graph n)
      ∙ and_from (list_all (is_numbered (length graph.names)) (map Some (row graph.hard n))) (list_all (is_numbered (length graph.names)) (hidden_of graph n))
      (some_numbered (length graph.names) (row graph.hard n)
      ∙ ap (λ l. list_all (λ m. nat_lt m l) (row graph.hard n)) (sym is.hard.0) ∙ closed_row graph.hard graph.hard_closed n inside)
      hidden_numbered

-- ---- two graphs

view_once : {V : Type 0} (count : ℕ) (of_a of_b value : ℕ → V) (empty : V) → ((n : ℕ) → n < count → of_a n ≡ value n) →
    ((n : ℕ) → n < count → of_b n ≡ value n) → ((n : ℕ) → count ≤ n → of_a n ≡ empty) → ((n : ℕ) → count ≤ n → of_b n ≡ empty) →
    (n : ℕ) → of_a n ≡ of_b n
view_once count of_a of_b value empty in_a in_b past_a past_b n =
    ⊎_elim (λ (inside : n < count). in_a n inside ∙ sym (in_b n inside)) (λ (past : count ≤ n). past_a n past ∙ sym (past_b n past)) (cases_lt n count)

module _ (inputs : Inputs) (named : List (List ℕ)) (a b : Graph) (is_a : IsGraph inputs named a) (is_b : IsGraph inputs named b) where
  names : a.names ≡ b.names
  names = one_names inputs named a b is_a is_b

  count : length a.nodes.items ≡ length b.nodes.items
  count = one_count inputs named a b is_a is_b

  hard : a.hard ≡ b.hard
  hard = one_hard inputs named a b is_a is_b

  inside_b : (n : ℕ) → n < length a.nodes.items → n < length b.nodes.items
  inside_b n inside = subst (λ l. n < l) count inside

  past_b : (n : ℕ) → length a.nodes.items ≤ n → length b.nodes.items ≤ n
  past_b n past = subst (λ l. l ≤ n) count past

  known_a : (n : ℕ) → n < length a.nodes.items → IsNodeOf inputs a n (name_at a.names n)
  known_a n inside = node_of_name inputs named a is_a n inside

  known_b : (n : ℕ) → n < length a.nodes.items → IsNodeOf inputs b n (name_at a.names n)
  known_b n inside = subst (λ ns. IsNodeOf inputs b n (name_at ns n)) (sym names) (node_of_name inputs named b is_b n (inside_b n inside))

  abbrev names_judged : (n : ℕ) (ns : List (List ℕ)) (row_of : List ℕ) → Type 0
  names_judged n ns row_of =
      map (option_map (name_at ns)) (judged row_of (hidden_of b n))
      ≡ map (judged_name inputs (hard_of inputs (name_at a.names n))) (judged_of inputs (name_at a.names n))

  hidden_inside : (n : ℕ) → n < length a.nodes.items → hidden_of a n ≡ hidden_of b n
  hidden_inside n inside =
      let of_b : names_judged n a.names (row a.hard n)
      = subst (λ ns. names_judged n ns (row a.hard n)) (sym names)
      (subst (λ h. names_judged n b.names (row h n)) (sym hard) (known_b n inside).prerequisites) in
      let numbered_b : list_all (is_numbered (length a.names)) (judged (row a.hard n) (hidden_of b n)) ≡ true
      = subst (λ ns. list_all (is_numbered (length ns)) (judged (row a.hard n) (hidden_of b n)) ≡ true) (sym names)
      (subst (λ h. list_all (is_numbered (length b.names)) (judged (row h n) (hidden_of b n)) ≡ true) (sym hard)
      (judged_numbered inputs named b is_b n (inside_b n inside))) in
      behind_same (row a.hard n) (hidden_of a n) (hidden_of b n)
      (same_hidden a.names a.distinct (judged (row a.hard n) (hidden_of a n)) (judged (row a.hard n) (hidden_of b n))
      (judged_numbered inputs named a is_a n inside) numbered_b ((known_a n inside).prerequisites ∙ sym of_b))

  same_hidden_of : (n : ℕ) → hidden_of a n ≡ hidden_of b n
  same_hidden_of n =
      ⊎_elim (λ (inside : n < length a.nodes.items). hidden_inside n inside)
      (λ (past : length a.nodes.items ≤ n). no_hidden a n past ∙ sym (no_hidden b n (past_b n past))) (cases_lt n (length a.nodes.items))

  abbrev parts_told : (n : ℕ) → Profile → Option (List RuleLine)
  parts_told n profile =
      option_map (parts_of profile inputs.lines (name_at a.names n)) (option_and_then (slice_get inputs.lines) (rule_of inputs (name_at a.names n)))

  pub one_graph : defined_by a.macros ≡ defined_by b.macros → AreAlike a b
  one_graph same = record {
    names = names;
    hard = hard;
    stamp =
        view_once (length a.nodes.items) (stamp_of a) (stamp_of b) (λ n. time_of (inputs.looks (name_at a.names n))) None (λ n inside. (known_a n inside).stamp)
        (λ n inside. (known_b n inside).stamp) (no_stamp a) (λ n past. no_stamp b n (past_b n past));
    look =
        view_once (length a.nodes.items) (look_of a) (look_of b) (λ n. look_from (inputs.looks (name_at a.names n))) NoFile (λ n inside. (known_a n inside).look)
        (λ n inside. (known_b n inside).look) (no_look a) (λ n past. no_look b n (past_b n past));
    beside =
        view_once (length a.nodes.items) (looks_beside a) (looks_beside b) (λ n. map inputs.looks (made_beside inputs (name_at a.names n))) []
        (λ n inside. (known_a n inside).beside) (λ n inside. (known_b n inside).beside) (none_beside a) (λ n past. none_beside b n (past_b n past));
    made =
        view_once (length a.nodes.items) (made_of a) (made_of b) (λ n. made_time inputs (name_at a.names n)) None (λ n inside. (known_a n inside).made)
        (λ n inside. (known_b n inside).made) (no_made a) (λ n past. no_made b n (past_b n past));
    entry = λ n.
        ap (λ (of : List ℕ → Option Entry). of (name_at a.names n)) (is_a.entries ∙ sym is_b.entries)
        ∙ ap (λ (ns : List (List ℕ)). finmap.get b.state (name_at ns n)) names;
    hidden = same_hidden_of;
    stem =
        view_once (length a.nodes.items) (stem_of a) (stem_of b) (λ n. option_map_or (λ s. s.stem) (implicit_source inputs (name_at a.names n)) []) []
        (λ n inside. (known_a n inside).stem) (λ n inside. (known_b n inside).stem) (no_stem a) (λ n past. no_stem b n (past_b n past));
    source =
        view_once (length a.nodes.items) (source_of a) (source_of b) (λ n. unwrap_or (source_of_rule (implicit_source inputs (name_at a.names n))) []) []
        (λ n inside. (known_a n inside).source) (λ n inside. (known_b n inside).source) (no_source a) (λ n past. no_source b n (past_b n past));
    source_named =
        view_once (length a.nodes.items) (source_name a) (source_name b) (λ n. source_of_rule (implicit_source inputs (name_at a.names n))) None
        (λ n inside. (known_a n inside).source_named) (λ n inside. (known_b n inside).source_named) (no_source_name a)
        (λ n past. no_source_name b n (past_b n past));
    explicit =
        view_once (length a.nodes.items) (explicit_of a) (explicit_of b) (λ n. explicit_names inputs (name_at a.names n)) []
        (λ n inside. (known_a n inside).explicit) (λ n inside. (known_b n inside).explicit) (no_explicit a) (λ n past. no_explicit b n (past_b n past));
    sources =
        view_once (length a.nodes.items) (implied_names a) (implied_names b) (λ n. distinct (made_from (implicit_source inputs (name_at a.names n)))) []
        (λ n inside. (known_a n inside).sources) (λ n inside. (known_b n inside).sources) (none_implied a) (λ n past. none_implied b n (past_b n past));
    order_only =
        view_once (length a.nodes.items) (order_only_words a) (order_only_words b)
        (λ n. drop (length (hard_of inputs (name_at a.names n))) (required_of inputs (name_at a.names n))) []
        (λ n inside. (known_a n inside).order_only) (λ n inside. (known_b n inside).order_only) (none_order_only a) (λ n past. none_order_only b n (past_b n past));
    implicit =
        view_once (length a.nodes.items) (is_implicit a) (is_implicit b) (λ n. is_some (implicit_source inputs (name_at a.names n))) false
        (λ n inside. (known_a n inside).implicit) (λ n inside. (known_b n inside).implicit) (not_implicit a) (λ n past. not_implicit b n (past_b n past));
    lines = is_a.lines ∙ sym is_b.lines;
    recipe =
        view_once (length a.nodes.items) (recipe_of a) (recipe_of b)
        (λ n. parts_told n (language_of a)) None
        (λ n inside. (known_a n inside).recipe)
        (λ n inside. subst (λ p. recipe_of b n ≡ parts_told n p) (sym (ap (λ (d : Defined). d.language) same)) (known_b n inside).recipe) (no_recipe a) (λ n past. no_recipe b n (past_b n past));
    dropped = one_dropped inputs named a b is_a is_b;
    defined = same;
  }
