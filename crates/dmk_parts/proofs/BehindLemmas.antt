-- A graph whose names parts before may have tried, and what was built and what failed.
use Rattle.std.proofs.Common.{◌≡◌, ◌≢◌, ◌⊎◌, inl, inr, ◌∙◌, suc, not, Result, Ok, Err, IfOk, ◌+◌, ◌<◌, ◌≤◌, ◌||◌, ◌&&◌, nat_eq, ℕ, Bool, true, false, List, [], ◌∷◌, ◌++◌, Some, length, slice_get, get_or, append_assoc, eq-eqb, eqb-true, true≢false, refl, sym, ap, subst, arith}
use Rattle.std.proofs.lemmas.List.{append-nil}
use Rattle.std.specs.Prelude.{◌↔◌, map as each, option_map, is_none, is_some, bytes_eq}
use Rattle.std.proofs.lemmas.Bool.{cases_lt, and_parts, and_from, or_cases, or_left, or_right}
use Rattle.std.proofs.lemmas.Option.{same_Some, slice_get_within}
use Rattle.std.proofs.lemmas.Slice.Eq.{bytes_eq-Decides}
use Rattle.std.specs.List.{All}
use Rattle.std.proofs.lemmas.List.Elements.{All-nil, All-cons, All-head, All-tail, All-push}
use Rattle.std.proofs.Math.Bool.{or_assoc}
use Rattle.std.proofs.lemmas.List.Folds.{list_any-append}
use Rattle.mk_nodes.specs.declared.graph.Graph.{Graph}
use Rattle.mk_nodes.specs.declared.graph.Node.{Node}
use Rattle.bd_places.specs.declared.end.End.{End}
use Rattle.bd_places.specs.declared.end.End.TheVariants.{Failed}
use Rattle.mk_rule_lines.proofs.NameLemmas.{bytes_eq-same}
use Rattle.mk_graph.specs.Edges.{has}
use Rattle.mk_names.specs.Names.{name_at, has_name, added}
use Rattle.mk_names.proofs.NameLemmas.{has_all_added}
use Rattle.mk_graph.proofs.RowLemmas.{has-push}
use Rattle.mk_rules.proofs.MadeLemmas.{has_at}
use Rattle.mk_plan.specs.Nodes.{is_marked}
use Rattle.dmk_reading.specs.Lost.{StandsOn, is_one, stands_on}
use Rattle.dmk_reading.proofs.LostLemmas.{stands_on_others}
use Rattle.dmk_parts.specs.Behind.{none_tried, both_tried, StandsOnFailed, HasNothingToRun, IsNodeBehind, IsGraphBehind, IsJudgedBehind, IsRunAlone, is_listed, is_left, IsCause, was_made, stands_for_others, by_itself, AreCauses, AreMarkedBehind, cleared_where, is_cleared_by, is_made_before, is_filed_before}
use Rattle.dmk_parts.specs.Tried.{IsBuilt, IsBuiltWithoutFile, HasFailed, AreFailed, AddsSome, AddsBoth, AddsTried}
use Rattle.dmk_parts.specs.declared.left.Left.{Left}
use Rattle.dmk_reading.specs.Passing.{no_marks, lists_any}
use Rattle.mk_plan.specs.Passing.{Passes, is_remade, told_in}
use Rattle.mk_plan.specs.declared.passing.Passed.{Passed}
use Rattle.dmk_parts.specs.declared.made.Made.{Made}
use Rattle.dmk_parts.specs.declared.tried.Tried.{Tried}

-- ---- where nothing was tried

nothing_stands : (graph : Graph) (These : ℕ → Type 0) → ((n : ℕ) → These n → ⊥) → (n : ℕ) → StandsOn graph These n → ⊥
nothing_stands graph These none _ (is_one {n = n} these) = none n these
nothing_stands graph These none _ (stands_on {m = m} needs on) = nothing_stands graph These none m on

no_name : (name : List ℕ) → has_name [] name ≡ true → ⊥
no_name name there = true≢false (sym there)

something_to_run : (graph : Graph) (causes : List ℕ) (n : ℕ) (node : Node) → HasNothingToRun none_tried graph causes n node → ⊥
something_to_run graph causes n node (inl made) = true≢false (sym made)
something_to_run graph causes n node (inr (inl on)) =
    nothing_stands graph (λ m. has_name [] (name_at graph.names m) ≡ true) (λ m. no_name (name_at graph.names m)) n on
something_to_run graph causes n node (inr (inr (filed, none))) = true≢false (sym filed)

as_it_was : (counting : Bool) (graph : Graph) → IsGraphBehind none_tried counting graph graph
as_it_was counting graph = record {
  causes = [];
  are_causes = λ some. absurd (some refl);
  count = refl;
  nodes = λ n node new is now. record {
    is_cleared = false;
    is = same_Some new node (sym now ∙ is);
    just_where = (λ yes. absurd (true≢false (sym yes)), λ nothing. absurd (something_to_run graph [] n node nothing));
  };
  alike = record {
    names = refl;
    goals = refl;
    unmade = refl;
    hard = refl;
    required = refl;
    soft = refl;
    order = refl;
    soft_dropped = refl;
    lines = refl;
    targets = refl;
    suffixes = refl;
    settings = refl;
    macros = refl;
    state = refl;
  };
}

-- behind no part the graph is as it was
pub none_behind : (before : Tried) (counting : Bool) (graph : Graph) → before ≡ none_tried → IsJudgedBehind before counting graph graph
none_behind before counting graph none = record {
  behind = subst (λ t. IsGraphBehind t counting graph graph) (sym none) (as_it_was counting graph);
  first = λ nothing. refl;
}

abbrev names_of : (built filed failed : List (List ℕ)) → Tried
names_of built filed failed = record { built = built; filed = filed; failed = failed }

-- the names of both, list by list
pub both_are : (after before more : Tried) → after.built ≡ before.built ++ more.built → after.filed ≡ before.filed ++ more.filed →
    after.failed ≡ before.failed ++ more.failed → after ≡ both_tried before more
both_are after before more built filed failed =
    ap (λ b. names_of b after.filed after.failed) built ∙ ap (λ f. names_of (before.built ++ more.built) f after.failed) filed
    ∙ ap (names_of (before.built ++ more.built) (before.filed ++ more.filed)) failed

-- ---- what was built

-- what is so of the names of what was built is so by itself
pub by_themselves : (graph : Graph) (ends : List End) (made : List Made) → All (IsBuiltWithoutFile graph ends) (each (λ m. m.name) made) →
    All (λ m. IsBuiltWithoutFile graph ends m.name) made
by_themselves graph ends [] are = All-nil (λ (m : Made). IsBuiltWithoutFile graph ends m.name)
by_themselves graph ends (m ∷ made) are =
    All-cons (λ (m : Made). IsBuiltWithoutFile graph ends m.name) m made (All-head (IsBuiltWithoutFile graph ends) m.name (each (λ m. m.name) made) are)
    (by_themselves graph ends made (All-tail (IsBuiltWithoutFile graph ends) m.name (each (λ m. m.name) made) are))

pub adds_none : (made : List Made) (names : List (List ℕ)) → AddsSome made names names
adds_none made names = record {
  added = [];
  adds = sym (append-nil names);
  are_built = λ graph ends all. All-nil (IsBuiltWithoutFile graph ends);
}

pub adds_one : (made : List Made) (index : ℕ) (one : Made) (before now next : List (List ℕ)) → index < length made → one ≡ get_or made index one →
    AddsSome made before now → (next ≡ now) ⊎ (next ≡ now ++ one.name ∷ []) → AddsSome made before next
adds_one made index one before now next below is so (inl same) = record { added = so.added; adds = same ∙ so.adds; are_built = so.are_built }
adds_one made index one before now next below is so (inr more) = record {
  added = so.added ++ one.name ∷ [];
  adds = more ∙ ap (λ n. n ++ one.name ∷ []) so.adds ∙ append_assoc before so.added (one.name ∷ []);
  are_built = λ graph ends all. All-push (IsBuiltWithoutFile graph ends) so.added one.name (so.are_built graph ends all)
      (subst (λ (m : Made). IsBuiltWithoutFile graph ends m.name) (sym is) (all index one below));
}

-- what was built and had no file was built
built_too : (graph : Graph) (ends : List End) (name : List ℕ) → IsBuiltWithoutFile graph ends name → IsBuilt graph ends name
built_too graph ends name is =
    record { node = is.node; within = slice_get_within graph.nodes.items is.node is.it is.is_node; named = is.named; built = is.built }

all_built : (graph : Graph) (ends : List End) (names : List (List ℕ)) → All (IsBuiltWithoutFile graph ends) names → All (IsBuilt graph ends) names
all_built graph ends [] are = All-nil (IsBuilt graph ends)
all_built graph ends (name ∷ names) are =
    All-cons (IsBuilt graph ends) name names (built_too graph ends name (All-head (IsBuiltWithoutFile graph ends) name names are))
    (all_built graph ends names (All-tail (IsBuiltWithoutFile graph ends) name names are))

both_built : (graph : Graph) (ends : List End) (names more : List (List ℕ)) → All (IsBuilt graph ends) names → All (IsBuilt graph ends) more → All (IsBuilt graph ends) (names ++ more)
both_built graph ends [] more are also = also
both_built graph ends (name ∷ names) more are also =
    All-cons (IsBuilt graph ends) name (names ++ more) (All-head (IsBuilt graph ends) name names are)
    (both_built graph ends names more (All-tail (IsBuilt graph ends) name names are) also)

-- what a part leaves is added to what was tried before, where what it built without a file has one since or has none
pub adds_tried : (left : Left) (before now : Tried) → AddsSome left.made.items before.built now.built → AddsBoth left.made.items left.filed before.filed now.filed →
    now.failed ≡ before.failed ++ left.failed → AddsTried left before now
adds_tried left before now without with_file failed = record {
  added = names_of without.added (with_file.some.added ++ left.filed) left.failed;
  adds = both_are now before (names_of without.added (with_file.some.added ++ left.filed) left.failed) without.adds
      (with_file.adds ∙ ap (λ b. b ++ left.filed) with_file.some.adds ∙ append_assoc before.filed with_file.some.added left.filed) failed;
  are_tried = λ graph ends are.
      let themselves = by_themselves graph ends left.made.items are.are_built in
      record {
        are_built = without.are_built graph ends themselves;
        are_filed = both_built graph ends with_file.some.added left.filed (all_built graph ends with_file.some.added (with_file.some.are_built graph ends themselves)) are.are_filed;
        are_failed = are.are_failed;
      };
}

pub whatever : {T E : Type 0} (got : Result T E) (So : Type 0) → So → IfOk got (λ s. So)
whatever (Ok value) So so = so
whatever (Err fault) So so = tt

-- ---- marks, and nodes that are cleared by them

-- nodes that are cleared by marks are as they are behind parts
pub nodes_behind : (before : Tried) (graph : Graph) (causes : List ℕ) (marks : List Bool) (new : List Node) →
    ((n : ℕ) (it : Node) → slice_get graph.nodes.items n ≡ Some it → (mark : Bool) × (slice_get marks n ≡ Some mark) × ((mark ≡ true) ↔ HasNothingToRun before graph causes n it)) →
    ((n : ℕ) (mark : Bool) → slice_get marks n ≡ Some mark → slice_get new n ≡ option_map (cleared_where mark) (slice_get graph.nodes.items n)) →
    (n : ℕ) (node it : Node) → slice_get graph.nodes.items n ≡ Some node → slice_get new n ≡ Some it → IsNodeBehind before graph causes n node it
nodes_behind before graph causes marks new marked cleared n node it is now =
    let (mark, at, just) = marked n node is in
    record {
      is_cleared = mark;
      is = same_Some it (cleared_where mark node) (sym now ∙ cleared n mark at ∙ ap (option_map (cleared_where mark)) is);
      just_where = just;
    }

-- what stands on the numbers of names that failed stands on these names
pub stand_on_failed : (graph : Graph) (numbers : List ℕ) (failed : List (List ℕ)) →
    ((n : ℕ) → n < length graph.nodes.items → has numbers n ≡ has_name failed (name_at graph.names n)) → (n : ℕ) → n < length graph.nodes.items →
    StandsOn graph (λ m. has numbers m ≡ true) n ↔ StandsOnFailed failed graph n
stand_on_failed graph numbers failed numbered n inside = (
  stands_on_others graph (λ m. has numbers m ≡ true) (λ m. has_name failed (name_at graph.names m) ≡ true)
      (λ m within is_failed. sym (numbered m within) ∙ is_failed) n inside,
  stands_on_others graph (λ m. has_name failed (name_at graph.names m) ≡ true) (λ m. has numbers m ≡ true)
      (λ m within is_failed. numbered m within ∙ is_failed) n inside,
)

not_yes : (b : Bool) → not b ≡ true → b ≡ true → ⊥
not_yes true never is = true≢false (sym never)
not_yes false always is = true≢false (sym is)

yes_not : (b : Bool) → (b ≡ true → ⊥) → not b ≡ true
yes_not true never = absurd (never refl)
yes_not false never = refl

some_not_none : (name : List ℕ) (names : List (List ℕ)) → name ∷ names ≡ [] → ⊥
some_not_none name names same = 1≢0 (ap length same) where
  1≢0 : suc (length names) ≡ 0 → ⊥
  1≢0 never = omega (arith, never)

none_or_some : (names : List (List ℕ)) → (names ≡ []) ⊎ (names ≢ [])
none_or_some [] = inl refl
none_or_some (name ∷ names) = inr (some_not_none name names)

module _ (before : Tried) (counting : Bool) (graph : Graph) (built filed : List (List ℕ)) (unmade moved : List Bool)
    (same_built : (name : List ℕ) → has_name built name ≡ has_name before.built name) (same_filed : (name : List ℕ) → has_name filed name ≡ has_name before.filed name)
    (stands : (n : ℕ) → n < length graph.nodes.items → (is_marked unmade n ≡ true) ↔ StandsOnFailed before.failed graph n) where
  -- a node is marked just where there is nothing to run for it
  marked_so : (causes : List ℕ) → (before.filed ≢ [] → (n : ℕ) → n < length graph.nodes.items → (is_marked moved n ≡ true) ↔ StandsOn graph (λ m. has causes m ≡ true) n) →
      (n : ℕ) (it : Node) → slice_get graph.nodes.items n ≡ Some it →
      (is_cleared_by built unmade filed moved (name_at graph.names n) n it ≡ true) ↔ HasNothingToRun before graph causes n it
  marked_so causes moves n it is =
      let name = name_at graph.names n in
      let inside : n < length graph.nodes.items = slice_get_within graph.nodes.items n it is in
      let made : is_made_before built name it ≡ is_made_before before.built name it = ap (λ b. b && is_none it.stamp) (same_built name) in
      let has : is_filed_before filed name it ≡ is_filed_before before.filed name it = ap (λ b. b && is_some it.stamp) (same_filed name) in
      let first = is_made_before built name it || is_marked unmade n in
      let last = is_filed_before filed name it && not (is_marked moved n) in (
        λ marked. elim (or_cases first last marked) [
          | inl early ↦ elim (or_cases (is_made_before built name it) (is_marked unmade n) early) [
            | inl there ↦ inl (sym made ∙ there)
            | inr there ↦ inr (inl ((stands n inside).0 there))
          ]
          | inr late ↦
              let (there, unmoved) = and_parts (is_filed_before filed name it) (not (is_marked moved n)) late in
              let was : is_filed_before before.filed name it ≡ true = sym has ∙ there in
              inr (inr (was, λ on. not_yes (is_marked moved n) unmoved ((moves (some_filed name it was) n inside).1 on)))
        ],
        λ nothing. elim nothing [
          | inl there ↦ or_left first last (or_left (is_made_before built name it) (is_marked unmade n) (made ∙ there))
          | inr more ↦ elim more [
            | inl on ↦ or_left first last (or_right (is_made_before built name it) (is_marked unmade n) ((stands n inside).1 on))
            | inr as_built ↦
                let (there, none) = as_built in
                or_right first last
                (and_from (is_filed_before filed name it) (not (is_marked moved n)) (has ∙ there)
                (yes_not (is_marked moved n) (λ on. none ((moves (some_filed name it there) n inside).0 on))))
          ]
        ],
      )
    where
      some_filed : (name : List ℕ) (it : Node) → is_filed_before before.filed name it ≡ true → before.filed ≢ []
      some_filed name it there none =
          true≢false (sym there ∙ ap (λ names. is_filed_before names name it) none)

  same_made : (n : ℕ) (it : Node) → is_made_before built (name_at graph.names n) it ≡ is_made_before before.built (name_at graph.names n) it
  same_made n it = ap (λ b. b && is_none it.stamp) (same_built (name_at graph.names n))

  cause_too : (none : List Bool) (n : ℕ) (it : Node) (is : Bool) → IsCause built counting graph none n it is → IsCause before.built counting graph none n it is
  cause_too none n it _ (was_made made) = was_made (sym (same_made n it) ∙ made)
  cause_too none n it _ (stands_for_others other group) = stands_for_others (sym (same_made n it) ∙ other) group
  cause_too none n it _ (by_itself is_run other no_group alone) = by_itself is_run (sym (same_made n it) ∙ other) no_group alone

  pub marked_behind : (marks : List Bool) → (before.filed ≢ [] → (causes : List ℕ) × AreCauses built counting graph causes
      × ((n : ℕ) → n < length graph.nodes.items → (is_marked moved n ≡ true) ↔ StandsOn graph (λ m. has causes m ≡ true) n)) →
      ((n : ℕ) (it : Node) → slice_get graph.nodes.items n ≡ Some it → slice_get marks n ≡ Some (is_cleared_by built unmade filed moved (name_at graph.names n) n it)) →
      AreMarkedBehind before counting graph marks
  marked_behind marks caused are = elim (none_or_some before.filed) [
    | inl none ↦ (
      [],
      λ some. absurd (some none),
      λ n it is. (is_cleared_by built unmade filed moved (name_at graph.names n) n it, are n it is, marked_so [] (λ some. absurd (some none)) n it is),
    )
    | inr some ↦
        let (causes, are_causes, moves) = caused some in (
          causes,
          λ _. λ n it is. cause_too (no_marks graph) n it (has causes n) (are_causes n it is),
          λ n it is. (is_cleared_by built unmade filed moved (name_at graph.names n) n it, are n it is, marked_so causes (λ _. moves) n it is),
        )
  ]

-- ---- the numbers of names

or_none : (b : Bool) → (b || false) ≡ b
or_none true = refl
or_none false = refl

same_tests : (a b : Bool) → (a ≡ true → b ≡ true) → (b ≡ true → a ≡ true) → a ≡ b
same_tests true b to from = sym (to refl)
same_tests false true to from = from refl
same_tests false false to from = refl

-- each of the names has its number among these, or is among those that are left
abbrev pub AreNumberedSoFar : (graph : Graph) (numbers : List ℕ) (names left : List (List ℕ)) → Type 0
AreNumberedSoFar graph numbers names left = (n : ℕ) → n < length graph.nodes.items →
    (has numbers n || has_name left (name_at graph.names n)) ≡ has_name names (name_at graph.names n)

module _ (graph : Graph) (numbers : List ℕ) (names left : List (List ℕ)) (name : List ℕ) (so_far : AreNumberedSoFar graph numbers names (name ∷ left)) where
  -- the name has this number
  pub numbered_more : (k : ℕ) → k < length graph.names → name_at graph.names k ≡ name → AreNumberedSoFar graph (numbers ++ k ∷ []) names left
  numbered_more k below is n inside =
      let named = name_at graph.names n in
      let within : n < length graph.names = subst (λ count. n < count) (sym graph.named) inside in
      let test : nat_eq n k ≡ bytes_eq named name =
      same_tests (nat_eq n k) (bytes_eq named name) (λ same. (bytes_eq-Decides named name).1 (ap (name_at graph.names) (eqb-true n k same) ∙ is))
      (λ same. eq-eqb n k (graph.distinct n k within below (bytes_eq-same named name same ∙ sym is))) in
      ap (λ b. b || has_name left named) (has-push numbers k n ∙ ap (λ b. has numbers n || b) test)
      ∙ or_assoc (has numbers n) (bytes_eq named name) (has_name left named) ∙ so_far n inside

  -- or the graph doesn't have it
  pub numbered_without : has_name graph.names name ≡ false → AreNumberedSoFar graph numbers names left
  numbered_without none n inside =
      let named = name_at graph.names n in
      let within : n < length graph.names = subst (λ count. n < count) (sym graph.named) inside in
      let other : bytes_eq named name ≡ false =
      same_tests (bytes_eq named name) false
      (λ same. absurd (true≢false (sym (ap (has_name graph.names) (sym (bytes_eq-same named name same)) ∙ has_at graph.names n within) ∙ none)))
      (λ never. absurd (true≢false (sym never))) in
      ap (λ b. has numbers n || (b || has_name left named)) (sym other) ∙ so_far n inside

-- ---- what failed

-- these names are those of the nodes so far that failed
abbrev pub AreFailedSoFar : (graph : Graph) (ends : List End) (node : ℕ) (names : List (List ℕ)) → Type 0
AreFailedSoFar graph ends node names =
    (name : List ℕ) → (has_name names name ≡ true) ↔ ((failed : HasFailed graph ends name) × (failed.node < node))

pub earlier_or_this : (k n : ℕ) → k < n + 1 → (k < n) ⊎ (k ≡ n)
earlier_or_this k n below = elim (cases_lt k n) [
  | inl earlier ↦ inl earlier
  | inr past ↦ inr (omega (arith, below, past))
]

module _ (graph : Graph) (ends : List End) (n : ℕ) (names : List (List ℕ)) (so_far : AreFailedSoFar graph ends n names) where
  -- this node failed
  pub failed_more : (status : ℕ) → n < length graph.nodes.items → slice_get ends n ≡ Some (Failed status) →
      AreFailedSoFar graph ends (n + 1) (names ++ name_at graph.names n ∷ [])
  failed_more status inside failed name =
      let one = name_at graph.names n in
      let parted : has_name (names ++ one ∷ []) name ≡ (has_name names name || bytes_eq name one) =
      list_any-append (bytes_eq name) names (one ∷ []) ∙ ap (λ b. has_name names name || b) (or_none (bytes_eq name one)) in (
        λ there. elim (or_cases (has_name names name) (bytes_eq name one) (sym parted ∙ there)) [
          | inl before ↦ let (is, below) = (so_far name).0 before in (is, omega (arith, below))
          | inr this ↦ (record { node = n; status = status; within = inside; named = sym (bytes_eq-same name one this); failed = failed }, omega arith)
        ],
        λ (is, below). parted ∙ elim (earlier_or_this is.node n below) [
          | inl earlier ↦ or_left (has_name names name) (bytes_eq name one) ((so_far name).1 (is, earlier))
          | inr this ↦
              or_right (has_name names name) (bytes_eq name one)
              ((bytes_eq-Decides name one).1 (sym is.named ∙ ap (name_at graph.names) this))
        ],
      )

  -- or it didn't
  pub failed_less : ((status : ℕ) → slice_get ends n ≡ Some (Failed status) → ⊥) → AreFailedSoFar graph ends (n + 1) names
  failed_less other name = (
    λ there. let (is, below) = (so_far name).0 there in (is, omega (arith, below)),
    λ (is, below). elim (earlier_or_this is.node n below) [
      | inl earlier ↦ (so_far name).1 (is, earlier)
      | inr this ↦ absurd (other is.status (subst (λ k. slice_get ends k ≡ Some (Failed is.status)) this is.failed))
    ],
  )

-- all nodes were passed
pub failed_all : (graph : Graph) (ends : List End) (n : ℕ) (names : List (List ℕ)) → length graph.nodes.items ≤ n → AreFailedSoFar graph ends n names →
    AreFailed graph ends names
failed_all graph ends n names over so_far name = (
  λ there. ((so_far name).0 there).0,
  λ is. (so_far name).1 (is, (let within = is.within in omega (arith, within, over))),
)

-- ---- names that are known, each once

-- each of the names is known, or among those that are left
abbrev pub AreKnownSoFar : (made known left : List (List ℕ)) → Type 0
AreKnownSoFar made known left = (name : List ℕ) → has_name made name ≡ (has_name known name || has_name left name)

pub known_more : (made known left : List (List ℕ)) (goal : List ℕ) → AreKnownSoFar made known (goal ∷ left) → AreKnownSoFar made (added known goal) left
known_more made known left goal so name =
    let one : has_name (added known goal) name ≡ (has_name known name || bytes_eq name goal)
    = has_all_added known (goal ∷ []) name ∙ ap (λ b. has_name known name || b) (or_none (bytes_eq name goal)) in
    so name ∙ sym (or_assoc (has_name known name) (bytes_eq name goal) (has_name left name)) ∙ sym (ap (λ b. b || has_name left name) one)

-- what follows from three facts of an Ok
pub three_ok : {T E : Type 0} (got : Result T E) (P Q R S : T → Type 0) → ((value : T) → P value → Q value → R value → S value) →
    IfOk got P → IfOk got Q → IfOk got R → IfOk got S
three_ok (Ok value) P Q R S follows p q r = follows value p q r
three_ok (Err fault) P Q R S follows p q r = tt

-- ---- causes

-- a node is found to be run alone as it is passed
pub run_alone : (counting : Bool) (graph : Graph) (none : List Bool) (n : ℕ) (found : Passed) (is_run : Bool) → is_run ≡ lists_any (told_in graph n found) →
    Passes counting graph none n (is_remade found) (told_in graph n found) → IsRunAlone counting graph none n is_run
run_alone counting graph none n found true same passes = is_listed (is_remade found) (told_in graph n found) passes (sym same)
run_alone counting graph none n found false same passes = is_left (is_remade found) (told_in graph n found, passes, sym same)

apart : (n k : ℕ) → (n ≡ k → ⊥) → nat_eq n k ≡ false
apart n k differ = same_tests (nat_eq n k) false (λ same. absurd (differ (eqb-true n k same))) (λ never. absurd (true≢false (sym never)))

-- of the nodes so far the causes are known, and no other one is told as one
abbrev pub AreCausesSoFar : (built : List (List ℕ)) (counting : Bool) (graph : Graph) (causes : List ℕ) (node : ℕ) → Type 0
AreCausesSoFar built counting graph causes node =
    ((n : ℕ) (it : Node) → n < node → slice_get graph.nodes.items n ≡ Some it → IsCause built counting graph (no_marks graph) n it (has causes n))
    × ((n : ℕ) → node ≤ n → has causes n ≡ false)

module _ (built : List (List ℕ)) (counting : Bool) (graph : Graph) (causes : List ℕ) (node : ℕ) (so_far : AreCausesSoFar built counting graph causes node) where
  -- this one is a cause
  pub cause_more : ((it : Node) → slice_get graph.nodes.items node ≡ Some it → IsCause built counting graph (no_marks graph) node it true) →
      AreCausesSoFar built counting graph (causes ++ node ∷ []) (node + 1)
  cause_more this = (
    λ n it below is. elim (earlier_or_this n node below) [
      | inl earlier ↦
          let same : has (causes ++ node ∷ []) n ≡ has causes n = has-push causes node n ∙ ap (λ b. has causes n || b) (apart n node (λ now. omega (arith, earlier, now))) ∙ or_none (has causes n) in
          subst (λ b. IsCause built counting graph (no_marks graph) n it b) (sym same) (so_far.0 n it earlier is)
      | inr now ↦
          let yes : has (causes ++ node ∷ []) n ≡ true = has-push causes node n ∙ or_right (has causes n) (nat_eq n node) (eq-eqb n node now) in
          subst (λ b. IsCause built counting graph (no_marks graph) n it b) (sym yes)
          (subst (λ k. slice_get graph.nodes.items k ≡ Some it → IsCause built counting graph (no_marks graph) k it true) (sym now) (this it) is)
    ],
    λ n past. has-push causes node n ∙ ap (λ b. b || nat_eq n node) (so_far.1 n (omega (arith, past))) ∙ apart n node (λ now. omega (arith, past, now)),
  )

  -- or it is none
  pub cause_less : ((it : Node) → slice_get graph.nodes.items node ≡ Some it → IsCause built counting graph (no_marks graph) node it false) →
      AreCausesSoFar built counting graph causes (node + 1)
  cause_less this = (
    λ n it below is. elim (earlier_or_this n node below) [
      | inl earlier ↦ so_far.0 n it earlier is
      | inr now ↦
          subst (λ b. IsCause built counting graph (no_marks graph) n it b) (sym (so_far.1 n (omega (arith, now))))
          (subst (λ k. slice_get graph.nodes.items k ≡ Some it → IsCause built counting graph (no_marks graph) k it false) (sym now) (this it) is)
    ],
    λ n past. so_far.1 n (omega (arith, past)),
  )
