-- What is kept while names are numbered.
use Rattle.std.proofs.Common.{◌≡◌, ℕ, ◌+◌, ◌<◌, ◌≤◌, ◌⊎◌, Bool, true, false, ◌||◌, nat_lt, List, [], ◌∷◌, ◌++◌, length, get_or, take, drop, map, Some, slice_get, suc, zero, refl, sym, ap, ◌∙◌, subst, ⊎_elim, arith, append_assoc, append-nil, length-append}
use Rattle.std.proofs.lemmas.Bool.{and_parts, cases_lt}
use Rattle.std.proofs.lemmas.List.{take_more, take_all, take-append-le, take-append-drop, map-append, get_or_append_left, get_or_push}
use Rattle.std.proofs.lemmas.List.Folds.{list_any-append}
use Rattle.std.proofs.lemmas.Option.{slice_get_within, slice_get-get_or, get_or_from_slice_get}
use Rattle.std.proofs.lemmas.Grind.{flat_map-append}
use Rattle.std.specs.List.{list_all, flat_map}
use Rattle.std.specs.Str.{bytes_eq}
use Rattle.mk_names.specs.Names.{name_at, has_name, all_added}
use Rattle.mk_graph.specs.Numbering.{IsNumbering, AreDescribed}
use Rattle.mk_graph.specs.NumberingFault.{IsNumberingFault, IsLimitFault}
use Rattle.mk_graph.specs.declared.numbering.NumberingFault.{NumberingFault}
use Rattle.mk_graph.specs.declared.numbering.NumberingFault.TheVariants.{OutOfMemory, TooMany, Source}
use Rattle.mk_names.proofs.NameLemmas.{Begins, begins_all_added, length_from_begins, name_at-begins, below_from_begins, row_from_begins, all_added-append, list_all-all_added, has_name_at, bytes_same}

-- names so far, of which the first `done` were looked at: `of` gives prerequisites
pub record Numbers (of : List ℕ → List (List ℕ)) (goals names : List (List ℕ)) (rows : List (List ℕ)) : Type 0 where
  pub order : names ≡ all_added [] (goals ++ flat_map of (take (length rows) names))
  pub rows_are : map (map (name_at names)) rows ≡ map of (take (length rows) names)
  pub least : (inside : List ℕ → Bool) → list_all inside goals ≡ true → ((n : List ℕ) → inside n ≡ true → list_all inside (of n) ≡ true) → list_all inside names ≡ true
  pub begins : (whole : List (List ℕ)) → whole ≡ all_added [] (goals ++ flat_map of whole) → Begins names whole

pub Numbers-start : (of : List ℕ → List (List ℕ)) (goals names : List (List ℕ)) → names ≡ all_added [] goals → Numbers of goals names []
Numbers-start of goals names is = record {
  order = is ∙ ap (all_added []) (sym (append-nil goals));
  rows_are = refl;
  least = λ inside all closed. subst (λ l. list_all inside l ≡ true) (sym is) (list_all-all_added inside [] goals refl all);
  begins = λ whole e. subst (λ l. Begins l whole) (sym is) (begins_goals of goals whole e);
}
  where
    begins_goals : (of : List ℕ → List (List ℕ)) (goals whole : List (List ℕ)) → whole ≡ all_added [] (goals ++ flat_map of whole) → Begins (all_added [] goals) whole
    begins_goals of goals whole e =
        subst (Begins (all_added [] goals)) (sym (e ∙ all_added-append [] goals (flat_map of whole))) (begins_all_added (all_added [] goals) (flat_map of whole))

-- one that passes is there
passes_at : (inside : List ℕ → Bool) (names : List (List ℕ)) (n : ℕ) → n < length names → list_all inside names ≡ true → inside (name_at names n) ≡ true
passes_at inside [] n h all = absurd (omega arith)
passes_at inside (x ∷ names) zero h all = (and_parts (inside x) (list_all inside names) all).0
passes_at inside (x ∷ names) (suc n) h all = passes_at inside names n (omega arith) (and_parts (inside x) (list_all inside names) all).1

rows_from_begins : (a b : List (List ℕ)) (rows : List (List ℕ)) → Begins a b → list_all (λ ns. list_all (λ n. nat_lt n (length a)) ns) rows ≡ true → map (map (name_at b)) rows ≡ map (map (name_at a)) rows
rows_from_begins a b [] x h = refl
rows_from_begins a b (row ∷ rows) x h =
    let p = and_parts (list_all (λ n. nat_lt n (length a)) row) (list_all (λ ns. list_all (λ n. nat_lt n (length a)) ns) rows) h in
    let first = row_from_begins a b row x p.0 in
    let rest = rows_from_begins a b rows x p.1 in
    (λ i. first i ∷ rest i)

pub rows_below_from_begins : (a b : List (List ℕ)) (rows : List (List ℕ)) → Begins a b → list_all (λ ns. list_all (λ n. nat_lt n (length a)) ns) rows ≡ true → list_all (λ ns. list_all (λ n. nat_lt n (length b)) ns) rows ≡ true
rows_below_from_begins a b [] x h = refl
rows_below_from_begins a b (row ∷ rows) x h =
    let p = and_parts (list_all (λ n. nat_lt n (length a)) row) (list_all (λ ns. list_all (λ n. nat_lt n (length a)) ns) rows) h in
    rw (below_from_begins a b row x p.0, rows_below_from_begins a b rows x p.1) refl

-- the prerequisites of the next name were found
module _ (of : List ℕ → List (List ℕ)) (goals names : List (List ℕ)) (rows : List (List ℕ)) (found : List (List ℕ))
    (before : Numbers of goals names rows) (next : length rows < length names) (is : found ≡ of (name_at names (length rows))) where
  -- the names that were looked at, and one more
  looked : (whole : List (List ℕ)) → Begins names whole → take (length rows + 1) whole ≡ take (length rows) names ++ name_at names (length rows) ∷ []
  looked whole x =
      ap (take (length rows + 1)) (sym x.1) ∙ take-append-le (length rows + 1) names x.0 (omega arith) ∙ take_more names (length rows) [] next

  flat : (whole : List (List ℕ)) → Begins names whole → flat_map of (take (length rows + 1) whole) ≡ flat_map of (take (length rows) names) ++ found
  flat whole x =
      ap (flat_map of) (looked whole x) ∙ flat_map-append of (take (length rows) names) (name_at names (length rows) ∷ [])
      ∙ ap (λ l. flat_map of (take (length rows) names) ++ l) (append-nil (of (name_at names (length rows))) ∙ sym is)

  -- the names with those found, from the mentions so far
  mentions : (whole : List (List ℕ)) → Begins names whole → all_added names found ≡ all_added [] (goals ++ flat_map of (take (length rows + 1) whole))
  mentions whole x =
      ap (λ l. all_added l found) before.order
      ∙ sym (all_added-append [] (goals ++ flat_map of (take (length rows) names)) found)
      ∙ ap (all_added []) (append_assoc goals (flat_map of (take (length rows) names)) found ∙ ap (λ l. goals ++ l) (sym (flat whole x)))

  pub begins_found : (whole : List (List ℕ)) → whole ≡ all_added [] (goals ++ flat_map of whole) → Begins (all_added names found) whole
  begins_found whole e =
      let x = before.begins whole e in
      let rest = flat_map of (drop (length rows + 1) whole) in
      let parts : goals ++ flat_map of whole ≡ goals ++ flat_map of (take (length rows + 1) whole) ++ rest
      = ap (λ l. goals ++ l) (ap (flat_map of) (sym (take-append-drop (length rows + 1) whole)) ∙ flat_map-append of (take (length rows + 1) whole) (drop (length rows + 1) whole))
      ∙ sym (append_assoc goals (flat_map of (take (length rows + 1) whole)) rest) in
      let all : whole ≡ all_added (all_added names found) rest
      = e ∙ ap (all_added []) parts ∙ all_added-append [] (goals ++ flat_map of (take (length rows + 1) whole)) rest ∙ ap (λ l. all_added l rest) (sym (mentions whole x)) in
      subst (Begins (all_added names found)) (sym all) (begins_all_added (all_added names found) rest)

  pub too_many_found : (limit : ℕ) → limit < length (all_added names found) → (whole : List (List ℕ)) → IsNumbering of goals whole → limit < length whole
  too_many_found limit past whole numbering = let l = length_from_begins (all_added names found) whole (begins_found whole numbering.order) in omega arith

  pub Numbers-more : (row : List ℕ) → list_all (λ ns. list_all (λ n. nat_lt n (length names)) ns) rows ≡ true → map (name_at (all_added names found)) row ≡ found
      → Numbers of goals (all_added names found) (rows ++ row ∷ [])
  Numbers-more row below here = record {
    order = mentions (all_added names found) grown ∙ ap (λ k. all_added [] (goals ++ flat_map of (take k (all_added names found)))) (sym (length-append rows (row ∷ [])));
    rows_are =
        map-append (map (name_at (all_added names found))) rows (row ∷ [])
        ∙ ap (λ l. l ++ map (name_at (all_added names found)) row ∷ []) (rows_from_begins names (all_added names found) rows grown below ∙ before.rows_are)
        ∙ ap (λ l. map of (take (length rows) names) ++ l ∷ []) (here ∙ is)
        ∙ sym (map-append of (take (length rows) names) (name_at names (length rows) ∷ []))
        ∙ ap (map of) (sym (looked (all_added names found) grown))
        ∙ ap (λ k. map of (take k (all_added names found))) (sym (length-append rows (row ∷ [])));
    least = λ inside all closed.
        let so_far = before.least inside all closed in
        list_all-all_added inside names found so_far
        (ap (list_all inside) is ∙ closed (name_at names (length rows)) (passes_at inside names (length rows) next so_far));
    begins = begins_found;
  }
    where
      grown : Begins names (all_added names found)
      grown = begins_all_added names found

-- where goals alone are too many
pub too_many_goals : (of : List ℕ → List (List ℕ)) (goals : List (List ℕ)) (limit : ℕ) → limit < length (all_added [] goals) → (whole : List (List ℕ)) → IsNumbering of goals whole → limit < length whole
too_many_goals of goals limit past whole numbering =
    let x = (Numbers-start of goals (all_added [] goals) refl).begins whole numbering.order in
    let l = length_from_begins (all_added [] goals) whole x in omega arith

-- a fault while names are added is one of the whole numbering, where names so far are too many for each
pub limit_fault_stands : {F : Type 0} (allowed : (List ℕ → List (List ℕ)) → Type 0) (refuses : List ℕ → F → Type 0) (goals : List (List ℕ)) (limit : ℕ) (names : List (List ℕ)) (fault : NumberingFault F) → IsLimitFault limit names fault
    → (limit < length names → (of : List ℕ → List (List ℕ)) → allowed of → (whole : List (List ℕ)) → IsNumbering of goals whole → limit < length whole) → IsNumberingFault allowed refuses goals limit fault
limit_fault_stands allowed refuses goals limit names OutOfMemory h more = tt
limit_fault_stands allowed refuses goals limit names TooMany h more = more h
limit_fault_stands allowed refuses goals limit names (Source cause) h more = absurd h

-- a name so far is in each numbering
pub reached : (of : List ℕ → List (List ℕ)) (goals names : List (List ℕ)) (rows : List (List ℕ)) (n : ℕ) → Numbers of goals names rows → n < length names
    → (whole : List (List ℕ)) → IsNumbering of goals whole → has_name whole (name_at names n) ≡ true
reached of goals names rows n before h whole numbering =
    let x = before.begins whole numbering.order in
    let l = length_from_begins names whole x in
    subst (λ name. has_name whole name ≡ true) (name_at-begins names whole n x h) (has_name_at whole n (omega arith))

-- at the end all names were looked at
pub numbering_at_end : (of : List ℕ → List (List ℕ)) (goals names : List (List ℕ)) (rows : List (List ℕ)) → Numbers of goals names rows → length names ≤ length rows → IsNumbering of goals names
numbering_at_end of goals names rows before end = record {
  order = before.order ∙ ap (λ l. all_added [] (goals ++ flat_map of l)) (take_all (length rows) names end);
  least = before.least;
}

pub rows_at_end : (of : List ℕ → List (List ℕ)) (goals names : List (List ℕ)) (rows : List (List ℕ)) → Numbers of goals names rows → length names ≤ length rows → map (map (name_at names)) rows ≡ map of names
rows_at_end of goals names rows before end = before.rows_are ∙ ap (map of) (take_all (length rows) names end)

-- ---- what was asked for, and nodes

-- the names that were looked at once there is one more
take_next : (names whole : List (List ℕ)) (k : ℕ) → Begins names whole → k < length names → take (k + 1) whole ≡ take k names ++ name_at names k ∷ []
take_next names whole k x next = ap (take (k + 1)) (sym x.1) ∙ take-append-le (k + 1) names x.0 (omega arith) ∙ take_more names k [] next

pub asked_more : (names whole : List (List ℕ)) (k : ℕ) (other : List ℕ) → Begins names whole → k < length names
    → (has_name (take k names) other ≡ true) ⊎ (other ≡ name_at names k) → has_name (take (k + 1) whole) other ≡ true
asked_more names whole k other x next = ⊎_elim before here
  where
    parts : has_name (take (k + 1) whole) other ≡ (has_name (take k names) other || (bytes_eq other (name_at names k) || false))
    parts = ap (λ l. has_name l other) (take_next names whole k x next) ∙ list_any-append (bytes_eq other) (take k names) (name_at names k ∷ [])

    or_true : (b : Bool) → (b || true) ≡ true
    or_true true = refl
    or_true false = refl

    before : has_name (take k names) other ≡ true → has_name (take (k + 1) whole) other ≡ true
    before h = parts ∙ rw h refl

    here : other ≡ name_at names k → has_name (take (k + 1) whole) other ≡ true
    here e = parts ∙ rw (bytes_same other (name_at names k) e) (or_true (has_name (take k names) other))

pub described_none : {N : Type 0} (describes : List ℕ → N → Type 0) (names : List (List ℕ)) (nodes : List N) → nodes ≡ [] → AreDescribed describes names nodes
described_none describes names nodes none = λ n node at.
    let within = slice_get_within nodes n node at in let z = ap length none in absurd (omega arith)

pub described_more : {N : Type 0} (describes after : List ℕ → N → Type 0) (names whole : List (List ℕ)) (nodes : List N) (new : N)
    → ((name : List ℕ) (node : N) → describes name node → after name node) → Begins names whole → length nodes < length names
    → AreDescribed describes names nodes → after (name_at names (length nodes)) new
    → (n : ℕ) (node : N) → slice_get (nodes ++ new ∷ []) n ≡ Some node → after (name_at whole n) node
described_more describes after names whole nodes new kept begins next so_far here n node at = ⊎_elim before last (cases_lt n (length nodes))
  where
    found : get_or (nodes ++ new ∷ []) n node ≡ node
    found = get_or_from_slice_get (nodes ++ new ∷ []) n node node at

    before : n < length nodes → after (name_at whole n) node
    before lt =
        let same : slice_get nodes n ≡ Some node = slice_get-get_or nodes n node lt ∙ ap Some (sym (get_or_append_left nodes (new ∷ []) node n lt) ∙ found) in
        subst (λ name. after name node) (sym (name_at-begins names whole n begins (omega arith))) (kept (name_at names n) node (so_far n node same))

    last : length nodes ≤ n → after (name_at whole n) node
    last past =
        let within = slice_get_within (nodes ++ new ∷ []) n node at in
        let longer = length-append nodes (new ∷ []) in
        let e : length nodes ≡ n = omega arith in
        let is : new ≡ node = sym (get_or_push nodes new node n e) ∙ found in
        subst (λ name. after name node) (sym (name_at-begins names whole n begins (omega arith))) (subst (after (name_at names n)) is (subst (λ k. after (name_at names k) new) e here))
