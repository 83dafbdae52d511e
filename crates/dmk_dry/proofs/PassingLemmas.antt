-- What stays true while a listing is made of the nodes of a graph.
use Rattle.std.proofs.Common.{◌≡◌, ◌+◌, ◌<◌, ltb-true, ℕ, Bool, Option, true, false, nat_lt, List, [], ◌∷◌, ◌++◌, length, take, drop, set, refl, sym, ap, ◌∙◌, subst, append-nil}
use Rattle.std.proofs.lemmas.Bool.{and_parts}
use Rattle.std.proofs.lemmas.Grind.{flat_map-append}
use Rattle.std.proofs.lemmas.List.{take-append-drop}
use Rattle.std.proofs.lemmas.List.Folds.{list_all-append}
use Rattle.std.specs.FinMap.{get-empty}
use Rattle.std.specs.List.{list_all, flat_map}
use Rattle.mk_graph.specs.Edges.{times}
use Rattle.mk_plan.specs.declared.fault.RecipeFault.{RecipeFault}
use Rattle.mk_plan.specs.declared.fault.RecipeFault.TheVariants as fault
use Rattle.mk_nodes.specs.declared.graph.Graph.{Graph}
use Rattle.mk_names.specs.Names.{name_at}
use Rattle.mk_plan.specs.Passage.{Passage, to_make, finished, is_listed}
use Rattle.mk_plan.specs.Passing.{Passes, is_to_be_run, is_up_to_date, has_no_recipe, is_left, IsFaultAt, told_in}
use Rattle.mk_plan.specs.Telling.{lines_about}
use Rattle.mk_verdict.specs.declared.verdict.Reason.TheVariants.{NoEntry}
use Rattle.st_disk.specs.declared.which.Which.{Which}
use Rattle.st_state.proofs.StateLemmas.{by_bytes}
use Rattle.bd_lists.specs.declared.recipe.Variable.{Variable}
use Rattle.mk_plan.specs.declared.passing.Passed.{Passed}
use Rattle.mk_plan.specs.declared.passing.Passed.TheVariants as passed
use Rattle.mk_plan.specs.declared.telling.Telling.{Telling}
use Rattle.mk_plan.specs.declared.telling.Telling.TheVariants as tellings
use Rattle.dmk_dry.specs.Planned.{Plans}
use Rattle.dmk_reading.specs.Planned.{judged_graph}
use Rattle.dmk_reading.specs.declared.makefiles.Makefiles.{Makefiles}
use Rattle.dmk_reading.specs.Lost.{IsLost}
use Rattle.dmk_reading.specs.Passing.{Lists, at_end, behind, without, no_marks}
use Rattle.dmk_dry.specs.Listing.{ListsFault, here, later, beyond, IsListingFault, printed, text_of, recipe_in, passage_text, listing_text}
use Rattle.mk_profile.specs.declared.profile.Profile.{Profile}
use Rattle.mk_eval.specs.Output.{World}
use Rattle.dmk_reading.proofs.PassingLemmas.{ListedSoFar}
use Rattle.mk_nodes.specs.declared.file_look.FileLook.{FileLook}

-- a lost node is passed over
pub listed_without : (keeping : Bool) (graph : Graph) (marks : List Bool) (i n : ℕ) (listed : List Passage) →
    drop i graph.order.items ≡ n ∷ drop (i + 1) graph.order.items → IsLost graph n →
    ListedSoFar keeping graph marks i listed → ListedSoFar keeping graph marks (i + 1) listed
listed_without keeping graph marks i n listed next lost before = λ rest after.
    before rest (subst (λ left. Lists keeping graph marks left rest) (sym next) (without lost after))

-- the fault that is met among the nodes that are left is that of all
abbrev pub NoFaultSoFar : (keeping : Bool) (graph : Graph) (marks : List Bool) (i : ℕ) → Type 0
NoFaultSoFar keeping graph marks i =
    (f : RecipeFault) → ListsFault keeping graph marks (drop i graph.order.items) f → ListsFault keeping graph (no_marks graph) graph.order.items f

pub no_fault_more : (keeping : Bool) (graph : Graph) (marks : List Bool) (i n : ℕ) (remade : Bool) (front : List Passage) →
    drop i graph.order.items ≡ n ∷ drop (i + 1) graph.order.items → (IsLost graph n → ⊥) → Passes keeping graph marks n remade front →
    NoFaultSoFar keeping graph marks i → NoFaultSoFar keeping graph (set marks n remade) (i + 1)
no_fault_more keeping graph marks i n remade front next stands passes before = λ f meets.
    before f (subst (λ left. ListsFault keeping graph marks left f) (sym next) (later stands passes meets))

pub no_fault_without : (keeping : Bool) (graph : Graph) (marks : List Bool) (i n : ℕ) →
    drop i graph.order.items ≡ n ∷ drop (i + 1) graph.order.items → IsLost graph n →
    NoFaultSoFar keeping graph marks i → NoFaultSoFar keeping graph marks (i + 1)
no_fault_without keeping graph marks i n next lost before = λ f meets.
    before f (subst (λ left. ListsFault keeping graph marks left f) (sym next) (beyond lost meets))

-- the node that is next has a fault
pub fault_next : (keeping : Bool) (graph : Graph) (marks : List Bool) (i n : ℕ) (f : RecipeFault) →
    drop i graph.order.items ≡ n ∷ drop (i + 1) graph.order.items → (IsLost graph n → ⊥) → IsFaultAt graph marks n f →
    NoFaultSoFar keeping graph marks i → IsListingFault keeping graph f
fault_next keeping graph marks i n fault.OutOfMemory next stands is before = tt
fault_next keeping graph marks i n f next stands is before =
    before f (subst (λ left. ListsFault keeping graph marks left f) (sym next) (here stands is))

-- the text of more
pub text_more : (telling : Telling) (recipes : Bool) (listed front : List Passage) →
    listing_text telling recipes (listed ++ front) ≡ listing_text telling recipes listed ++ listing_text telling recipes front
text_more telling recipes listed front = flat_map-append (passage_text telling recipes) listed front

-- what is printed of a node that was passed
pub passed_text : (telling : Telling) (recipes : Bool) (graph : Graph) (n : ℕ) (p : Passed) →
    text_of (flat_map (lines_about telling) (told_in graph n p)) ++ recipe_in recipes p ≡ listing_text telling recipes (told_in graph n p)
passed_text telling true graph n (passed.Listed why lines) =
    let told : List (List ℕ) = lines_about telling (to_make (name_at graph.names n) why lines.items) in
    ap (λ ls. text_of ls ++ printed lines.items) (append-nil told) ∙ sym (append-nil (text_of told ++ printed lines.items))
passed_text telling true graph n passed.Remade = refl
passed_text telling true graph n passed.UpToDate =
    let told : List (List ℕ) = lines_about telling (finished (name_at graph.names n)) in
    ap (λ ls. text_of ls ++ []) (append-nil told) ∙ sym (append-nil (text_of told ++ []))
passed_text telling true graph n passed.Left = refl
passed_text telling false graph n (passed.Listed why lines) =
    let told : List (List ℕ) = lines_about telling (to_make (name_at graph.names n) why lines.items) in
    ap (λ ls. text_of ls ++ []) (append-nil told) ∙ sym (append-nil (text_of told ++ []))
passed_text telling false graph n passed.Remade = refl
passed_text telling false graph n passed.UpToDate =
    let told : List (List ℕ) = lines_about telling (finished (name_at graph.names n)) in
    ap (λ ls. text_of ls ++ []) (append-nil told) ∙ sym (append-nil (text_of told ++ []))
passed_text telling false graph n passed.Left = refl

-- where nothing is told and no recipe printed, nothing is
pub no_text : (listed : List Passage) → listing_text tellings.Nothing false listed ≡ []
no_text [] = refl
no_text (p ∷ listed) = no_text listed

-- each node of the order is one of the graph by which targets are judged too
pub order_judged : (all : Bool) (graph judged : Graph) → judged ≡ judged_graph all graph →
    list_all (λ n. nat_lt n (length graph.nodes.items)) graph.order.items ≡ true →
    list_all (λ n. nat_lt n (length judged.nodes.items)) judged.order.items ≡ true
order_judged true graph judged is below = subst (λ g. list_all (λ n. nat_lt n (length g.nodes.items)) g.order.items ≡ true) (sym is) below
order_judged false graph judged is below = subst (λ g. list_all (λ n. nat_lt n (length g.nodes.items)) g.order.items ≡ true) (sym is) below

-- a node of the order is one of the graph
pub order_within : (graph : Graph) (i n : ℕ) → drop i graph.order.items ≡ n ∷ drop (i + 1) graph.order.items →
    list_all (λ m. nat_lt m (length graph.nodes.items)) graph.order.items ≡ true → n < length graph.nodes.items
order_within graph i n next below =
    let order = graph.order.items in
    let is_below : ℕ → Bool = λ m. nat_lt m (length graph.nodes.items) in
    let parted : order ≡ take i order ++ n ∷ drop (i + 1) order = sym (take-append-drop i order) ∙ ap (λ ns. take i order ++ ns) next in
    let both = sym (list_all-append is_below (take i order) (n ∷ drop (i + 1) order)) ∙ ap (list_all is_below) (sym parted) ∙ below in
    ltb-true n (length graph.nodes.items) (and_parts (is_below n) _ (and_parts (list_all is_below (take i order)) _ both).1).0

-- ---- where all targets are to be made

-- of each that has a recipe nothing is recorded
all_listed : (graph : Graph) (marks : List Bool) (order : List ℕ) (listed : List Passage) → Lists true (judged_graph true graph) marks order listed →
    list_all is_listed listed ≡ true
all_listed graph marks _ _ at_end = refl
all_listed graph marks _ _ (behind stands (is_to_be_run recipe lines target why is_recipe are of because) rest) = all_listed graph _ _ _ rest
all_listed graph marks _ _ (behind stands (is_up_to_date recipe lines target is_recipe are of up) rest) = absurd (up (NoEntry, (refl, get-empty by_bytes _)))
all_listed graph marks _ _ (behind stands (has_no_recipe none remade) rest) = all_listed graph _ _ _ rest
all_listed graph marks _ _ (behind stands (is_left none left) rest) = all_listed graph _ _ _ rest
all_listed graph marks _ _ (without lost rest) = all_listed graph _ _ _ rest

pub each_made : (world : World) (looks : List ℕ → Option FileLook) (makefiles : Makefiles) (profile : Profile) (definitions environment : List Variable)
    (targets : List (List ℕ)) (goes_on : Bool) (honest : Type 0) (seen : Which → List ℕ) (plan : List Passage) (dropped : Bool) (unmade : List (List ℕ)) →
    Plans world looks makefiles profile definitions environment targets true goes_on honest seen plan dropped unmade → list_all is_listed plan ≡ true
each_made world looks makefiles profile definitions environment targets goes_on honest seen plan dropped unmade is =
    all_listed is.planned.graph _ _ plan is.planned.lists
