-- What stays true while targets are picked, and what holds of their records.
use Rattle.std.proofs.Common.{◌≡◌, ◌+◌, ◌⊎◌, inl, inr, ℕ, Bool, true, false, List, [], ◌∷◌, ◌++◌, Option, Some, None, IfSome, drop, set, refl, sym, subst, append_assoc}
use Rattle.std.specs.Prelude.{option_to_list}
use Rattle.std.specs.List.{AllByRecursion}
use Rattle.mk_names.specs.Names.{name_at}
use Rattle.mk_nodes.specs.declared.graph.Graph.{Graph}
use Rattle.mk_rule_lines.specs.declared.fault.TextFault.{TextFault}
use Rattle.mk_plan.specs.Passage.{Passage}
use Rattle.mk_plan.specs.Passing.{Passes, IsFaultAt}
use Rattle.mk_plan.specs.declared.fault.RecipeFault.{RecipeFault}
use Rattle.mk_plan.specs.declared.fault.RecipeFault.TheVariants as fault
use Rattle.st_records.specs.Limits.{IsGoodIn}
use Rattle.st_records.specs.declared.version.Form.TheVariants as forms
use Rattle.st_records.specs.declared.record.Entry.{Entry}
use Rattle.st_records.specs.declared.record.Record.{Record}
use Rattle.st_state.specs.State.{StateMap}
use Rattle.mk_levels.specs.declared.level.Level.{Level}
use Rattle.mk_levels.specs.Offered.{IsOffered}
use Rattle.mk_levels.specs.Picked.{done_of, is_so, Picks, is_picked, cannot_be_recorded, has_no_offer, is_otherwise, is_faulty, PicksAll, at_end, behind, ArePicked, IsOfOffer}

module _ (own : StateMap) (levels : List Level) (listed : Bool) (graph : Graph) where
  -- the records so far: with those of the nodes that are left they are those of all
  abbrev pub PickedSoFar : (marks : List Bool) (i : ℕ) (picked : List Record) → Type 0
  PickedSoFar marks i picked =
      (rest : List Record) → PicksAll own levels listed graph marks (drop i graph.order.items) rest → ArePicked own levels listed graph (picked ++ rest)

  pub picked_more : (marks : List Bool) (i n : ℕ) (remade : Bool) (note : Option Record) (picked : List Record) →
      drop i graph.order.items ≡ n ∷ drop (i + 1) graph.order.items → Picks own levels listed graph marks n remade note →
      PickedSoFar marks i picked → PickedSoFar (set marks n remade) (i + 1) (picked ++ option_to_list note)
  picked_more marks i n remade note picked next picks before = λ rest after.
      subst (ArePicked own levels listed graph) (sym (append_assoc picked (option_to_list note) rest))
      (before (option_to_list note ++ rest)
      (subst (λ left. PicksAll own levels listed graph marks left (option_to_list note ++ rest)) (sym next) (behind picks after)))

  -- all nodes are passed
  pub picked_all : (marks : List Bool) (i : ℕ) (picked : List Record) →
      drop i graph.order.items ≡ [] → picked ++ [] ≡ picked → PickedSoFar marks i picked → ArePicked own levels listed graph picked
  picked_all marks i picked none same before =
      subst (ArePicked own levels listed graph) same (before [] (subst (λ left. PicksAll own levels listed graph marks left []) (sym none) at_end))

  -- it can't be passed
  pub faulty_picked : (marks : List Bool) (n : ℕ) (given : RecipeFault) (remade : Bool) (note : Option Record) → IsFaultAt graph marks n given →
      (f : TextFault) × (given ≡ fault.Macro f) × (remade ≡ true) × (note ≡ None) → Picks own levels listed graph marks n remade note
  faulty_picked marks n given remade note at (f, is, made, none) =
      subst (λ r. Picks own levels listed graph marks n r note) (sym made)
      (subst (λ o. Picks own levels listed graph marks n true o) (sym none) (is_faulty f (subst (IsFaultAt graph marks n) is at)))

  -- it is passed otherwise
  pub otherwise_picked : (marks : List Bool) (n : ℕ) (remade given : Bool) (told : List Passage) → given ≡ remade → is_so listed told ≡ false →
      Passes true graph marks n remade told → Picks own levels listed graph marks n given None
  otherwise_picked marks n remade given told same not_so passes =
      subst (λ r. Picks own levels listed graph marks n r None) (sym same) (is_otherwise remade told passes not_so)

  -- it is passed so, and this is what was found of it
  pub found_picked : (marks : List Bool) (n : ℕ) (remade given : Bool) (told : List Passage) (note : Option Record) → given ≡ remade →
      is_so listed told ≡ true → Passes true graph marks n remade told →
      IfSome note (λ r. (e : Entry) × IsOffered own levels (name_at graph.names n) e × IsGoodIn forms.Marked (done_of (name_at graph.names n) e)
      × (r ≡ done_of (name_at graph.names n) e)) →
      (note ≡ None → ((e : Entry) → IsOffered own levels (name_at graph.names n) e → ⊥)
      ⊎ ((e : Entry) × IsOffered own levels (name_at graph.names n) e × (IsGoodIn forms.Marked (done_of (name_at graph.names n) e) → ⊥))) →
      Picks own levels listed graph marks n given note
  found_picked marks n remade given told (Some r) same so passes (e, offered, good, is) none =
      subst (λ (b : Bool). Picks own levels listed graph marks n b (Some r)) (sym same)
      (subst (λ (note : Record). Picks own levels listed graph marks n remade (Some note)) (sym is) (is_picked remade told e passes so offered good))
  found_picked marks n remade given told None same so passes some none =
      subst (λ (b : Bool). Picks own levels listed graph marks n b None) (sym same) (left_out (none refl))
    where
      left_out : ((e : Entry) → IsOffered own levels (name_at graph.names n) e → ⊥)
          ⊎ ((e : Entry) × IsOffered own levels (name_at graph.names n) e × (IsGoodIn forms.Marked (done_of (name_at graph.names n) e) → ⊥)) →
          Picks own levels listed graph marks n remade None
      left_out (inl never) = has_no_offer remade told passes never
      left_out (inr (e, offered, bad)) = cannot_be_recorded remade told e passes offered bad

first_offered : {own : StateMap} {levels : List Level} {listed : Bool} {graph : Graph} {marks : List Bool} {n : ℕ} {remade : Bool} {note : Option Record} →
    Picks own levels listed graph marks n remade note → (rest : List Record) → AllByRecursion (IsOfOffer own levels) rest →
    AllByRecursion (IsOfOffer own levels) (option_to_list note ++ rest)
first_offered {graph = graph} {n = n} (is_picked remade told e passes so offered good) rest more = ((name_at graph.names n, e, refl, offered, good), more)
first_offered (cannot_be_recorded remade told e passes offered bad) rest more = more
first_offered (has_no_offer remade told passes never) rest more = more
first_offered (is_otherwise remade told passes otherwise) rest more = more
first_offered (is_faulty f is) rest more = more

-- each record is of what is offered
pub picked_offered : {own : StateMap} {levels : List Level} {listed : Bool} {graph : Graph} {marks : List Bool} {order : List ℕ} {picked : List Record} →
    PicksAll own levels listed graph marks order picked → AllByRecursion (IsOfOffer own levels) picked
picked_offered at_end = tt
picked_offered (behind {picked = picked} picks more) = first_offered picks picked (picked_offered more)
