-- By the same files, looks and state there is one plan, with one listing.
use Rattle.std.specs.Prelude.{slice_set, replicate}
use Rattle.std.specs.List.{list_all}
use Rattle.std.proofs.lemmas.List.{ext_get_or}
use Rattle.std.proofs.Common.{◌≡◌, ◌∙◌, ◌||◌, ◌&&◌, ◌<◌, ℕ, Bool, true, false, not, nat_lt, List, [], length, Option, sym, ap, subst}
use Rattle.std.specs.FinMap as map
use Rattle.mk_reader.specs.declared.item.Item.{Item}
use Rattle.mk_plan.specs.Passage.{Passage}
use Rattle.mk_graph.specs.Edges.{row, has}
use Rattle.mk_names.specs.Names.{name_at}
use Rattle.mk_graph.proofs.CycleLemmas.{closed_row}
use Rattle.mk_nodes.specs.Graph.{IsGraph, AreRequired, required_in}
use Rattle.mk_nodes.specs.Prerequisites.{is_made}
use Rattle.mk_nodes.specs.declared.graph.Graph.{Graph}
use Rattle.mk_rules.proofs.InputLemmas.{inputs_once}
use Rattle.mk_nodes.proofs.OneGraphLemmas.{one_names, one_count, one_dropped, one_order, same_numbers}
use Rattle.mk_plan.proofs.AlikeLemmas.{AreAlike, passes_in}
use Rattle.mk_plan.proofs.OneNodeLemmas.{one_graph}
use Rattle.st_disk.specs.declared.which.Which.{Which}
use Rattle.st_disk.specs.declared.which.Which.TheVariants as sides
use Rattle.st_state.specs.State.{StateMap}
use Rattle.st_records.specs.declared.version.Form.{Form}
use Rattle.st_recovery.specs.Recovers.{recovered}
use Rattle.st_recovery.proofs.RecoversLemmas.{one_recovery_in}
use Rattle.bd_lists.specs.declared.recipe.Variable.{Variable}
use Rattle.mk_profile.specs.declared.profile.Profile.{Profile}
use Rattle.dmk_reading.specs.Definitions.{first_defined}
use Rattle.dmk_reading.specs.Keeping.{keeps, kept_form}
use Rattle.dmk_reading.specs.declared.makefiles.Makefiles.{Makefiles}
use Rattle.dmk_reading.specs.Lost.{IsLost, is_one, stands_on}
use Rattle.dmk_reading.specs.Passing.{Lists, at_end, behind, without, no_marks, IsListing}
use Rattle.dmk_reading.specs.Planned.{IsStateOn, IsGraphOf, judged_graph}
use Rattle.dmk_dry.specs.Planned.{IsPlanned, Plans}
use Rattle.dmk_dry.proofs.ListingLemmas.{lists_once}
use Rattle.dmk_reading.proofs.MakefileLemmas.{items_once}
use Rattle.mk_eval.specs.Output.{World}
use Rattle.mk_nodes.specs.declared.file_look.FileLook.{FileLook}

-- ---- the same nodes are lost

lost_in : (a b : Graph) → required_in a ≡ required_in b → ((n : ℕ) → has a.unmade.items n ≡ has b.unmade.items n) → (n : ℕ) → IsLost a n → IsLost b n
lost_in a b required named _ (is_one {n = n} there) = is_one (sym (named n) ∙ there)
lost_in a b required named _ (stands_on {n = n} {m = m} needs lost) =
    stands_on {m = m} (ap (λ g. has (row g n) m) (sym required) ∙ needs) (lost_in a b required named m lost)

-- two graphs have the same lost nodes
pub record LoseTheSame (a b : Graph) : Type 0 where
  pub required : required_in a ≡ required_in b
  pub named : (n : ℕ) → has a.unmade.items n ≡ has b.unmade.items n

-- ---- graphs that are alike have one listing

module _ (a b : Graph) (alike : AreAlike a b) (lose : LoseTheSame a b) (keeping : Bool) where
  stands_in : (n : ℕ) → (IsLost a n → ⊥) → IsLost b n → ⊥
  stands_in n stands lost = stands (lost_in b a (sym lose.required) (λ m. sym (lose.named m)) n lost)

  lists_in : (marks : List Bool) (order : List ℕ) (listed : List Passage) → Lists keeping a marks order listed → Lists keeping b marks order listed
  lists_in marks _ _ at_end = at_end
  lists_in marks _ _ (behind {n = n} {order = order} {remade = remade} {front = front} {listed = listed} stands first rest) =
      behind (stands_in n stands) (passes_in a b alike keeping marks n remade front first) (lists_in (slice_set marks n remade) order listed rest)
  lists_in marks _ _ (without {n = n} {order = order} {listed = listed} lost rest) =
      without (lost_in a b lose.required lose.named n lost) (lists_in marks order listed rest)

  listing_in : length a.nodes.items ≡ length b.nodes.items → a.order.items ≡ b.order.items → (listed : List Passage) →
      IsListing keeping a listed → IsListing keeping b listed
  listing_in count order listed lists =
      subst (λ c. Lists keeping b (replicate c false) b.order.items listed) count
      (subst (λ o. Lists keeping b (no_marks a) o listed) order (lists_in (no_marks a) a.order.items listed lists))

-- so it is of the graphs by which targets are judged
judged_alike : (all : Bool) (a b : Graph) → AreAlike a b → AreAlike (judged_graph all a) (judged_graph all b)
judged_alike true a b alike = record {
  names = alike.names;
  hard = alike.hard;
  stamp = alike.stamp;
  look = alike.look;
  beside = alike.beside;
  made = alike.made;
  entry = λ n. ap (λ ns. map.get (judged_graph true a).state (name_at ns n)) alike.names;
  hidden = alike.hidden;
  stem = alike.stem;
  source = alike.source;
  source_named = alike.source_named;
  explicit = alike.explicit;
  sources = alike.sources;
  implicit = alike.implicit;
  recipe = alike.recipe;
  order_only = alike.order_only;
  lines = alike.lines;
  dropped = alike.dropped;
  defined = alike.defined;
}
judged_alike false a b alike = alike

judged_lose : (all : Bool) (a b : Graph) → LoseTheSame a b → LoseTheSame (judged_graph all a) (judged_graph all b)
judged_lose true a b lose = record { required = lose.required; named = lose.named }
judged_lose false a b lose = lose

judged_in : (all : Bool) (a b : Graph) → AreAlike a b → LoseTheSame a b → (keeping : Bool) → length a.nodes.items ≡ length b.nodes.items → a.order.items ≡ b.order.items →
    (listed : List Passage) → IsListing keeping (judged_graph all a) listed → IsListing keeping (judged_graph all b) listed
judged_in true a b alike lose keeping count order listed lists =
    listing_in (judged_graph true a) (judged_graph true b) (judged_alike true a b alike) (judged_lose true a b lose) keeping count order listed lists
judged_in false a b alike lose keeping count order listed lists = listing_in a b alike lose keeping count order listed lists

-- ---- one state

state_once : (newest : Form) (keeping : Bool) (honest : Type 0) (seen : Which → List ℕ) (m n : StateMap) → honest →
    IsStateOn newest keeping honest seen m → IsStateOn newest keeping honest seen n → m ≡ n
state_once newest true honest seen m n works of_m of_n =
    let same : recovered m ≡ recovered n = one_recovery_in newest (seen sides.A) (seen sides.B) (recovered m) (recovered n) (of_m works) (of_n works) in cc
state_once newest false honest seen m n works of_m of_n = of_m ∙ sym of_n

-- ---- one plan

module _ (profile : Profile) (definitions environment : List Variable) (targets : List (List ℕ)) (looks : List ℕ → Option FileLook) (items : List Item) (state : StateMap)
    (a b : Graph) (of_a : IsGraphOf profile definitions environment targets looks items state a) (of_b : IsGraphOf profile definitions environment targets looks items state b) where
  is_b : IsGraph of_a.inputs targets b
  is_b =
      subst (λ i. IsGraph i targets b)
      (sym (inputs_once (first_defined profile definitions environment) items looks (map.get state) of_a.inputs of_b.inputs of_a.are_inputs of_b.are_inputs)) of_b.is_graph

  names : a.names ≡ b.names
  names = one_names of_a.inputs targets a b of_a.is_graph is_b

  required_of_b : AreRequired of_a.inputs a.names (required_in b)
  required_of_b = subst (λ ns. AreRequired of_a.inputs ns (required_in b)) (sym names) is_b.required

  -- a row is told by the names that its numbers have
  same_row : (n : ℕ) → n < length (required_in a) → row (required_in a) n ≡ row (required_in b) n
  same_row n inside =
      let is_a = of_a.is_graph.required in
      let named : n < length a.names = subst (λ l. n < l) is_a.nodes inside in
      same_numbers a.names a.distinct (row (required_in a) n) (row (required_in b) n)
      (ap (λ l. list_all (λ m. nat_lt m l) (row (required_in a) n)) (sym is_a.nodes) ∙ closed_row (required_in a) is_a.closed n inside)
      (ap (λ l. list_all (λ m. nat_lt m l) (row (required_in b) n)) (sym required_of_b.nodes)
      ∙ closed_row (required_in b) required_of_b.closed n (subst (λ l. n < l) (sym required_of_b.nodes) named))
      (is_a.rows n named ∙ sym (required_of_b.rows n named))

  lose_the_same : LoseTheSame a b
  lose_the_same = record {
    required = ext_get_or [] (required_in a) (required_in b) (of_a.is_graph.required.nodes ∙ sym required_of_b.nodes) same_row;
    named = λ n.
        of_a.is_graph.unmade n ∙ ap (λ ns. nat_lt n (length ns) && not (is_made of_a.inputs (name_at ns n))) names ∙ sym (is_b.unmade n);
  }

  dropped_once : a.soft_dropped ≡ b.soft_dropped
  dropped_once = one_dropped of_a.inputs targets a b of_a.is_graph is_b

  listing_once : (all keeping : Bool) (x y : List Passage) → IsListing keeping (judged_graph all a) x → IsListing keeping (judged_graph all b) y → x ≡ y
  listing_once all keeping x y of_x of_y =
      let judged : Graph = judged_graph all b in
      lists_once keeping judged judged.order.items (no_marks judged) x y
      (judged_in all a b (one_graph of_a.inputs targets a b of_a.is_graph is_b (of_a.macros ∙ sym of_b.macros)) lose_the_same keeping
      (one_count of_a.inputs targets a b of_a.is_graph is_b) (one_order of_a.inputs targets a b of_a.is_graph is_b) x of_x)
      of_y

module _ (profile : Profile) (definitions environment : List Variable) (targets : List (List ℕ)) (all goes_on : Bool) (looks : List ℕ → Option FileLook) (honest : Type 0) (works : honest)
    (seen : Which → List ℕ) (items : List Item) (x y : List Passage) (d e : Bool) (u v : List (List ℕ)) where
  planned_once : IsPlanned profile definitions environment targets all goes_on looks honest seen items x d u → IsPlanned profile definitions environment targets all goes_on looks honest seen items y e v →
      (x ≡ y) × (d ≡ e)
  planned_once of_x of_y =
      let keeping : Bool = keeps environment items in
      let state = state_once (kept_form profile) keeping honest seen of_x.state of_y.state works of_x.is_state of_y.is_state in
      let of_b : IsGraphOf profile definitions environment targets looks items of_x.state of_y.graph
      = subst (λ m. IsGraphOf profile definitions environment targets looks items m of_y.graph) (sym state) of_y.is_graph.is_graph in (
        listing_once profile definitions environment targets looks items of_x.state of_x.graph of_y.graph of_x.is_graph.is_graph of_b all (all || keeping) x y of_x.lists of_y.lists,
        of_x.soft ∙ dropped_once profile definitions environment targets looks items of_x.state of_x.graph of_y.graph of_x.is_graph.is_graph of_b ∙ sym of_y.soft,
      )

pub plan_once : (world : World) (looks : List ℕ → Option FileLook) (makefiles : Makefiles) (profile : Profile) (definitions environment : List Variable)
    (targets : List (List ℕ)) (all goes_on : Bool) (honest : Type 0) (seen : Which → List ℕ) (x y : List Passage) (d e : Bool) (u v : List (List ℕ)) → honest →
    Plans world looks makefiles profile definitions environment targets all goes_on honest seen x d u →
    Plans world looks makefiles profile definitions environment targets all goes_on honest seen y e v →
    (x ≡ y) × (d ≡ e)
plan_once world looks makefiles profile definitions environment targets all goes_on honest seen x y d e u v works of_x of_y =
    planned_once profile definitions environment targets all goes_on looks honest works seen of_y.items x y d e u v
    (subst (λ items. IsPlanned profile definitions environment targets all goes_on looks honest seen items x d u)
    (items_once world looks makefiles _ of_x.items of_y.items of_x.are_items of_y.are_items) of_x.planned)
    of_y.planned
