-- How often an edge is drawn.
use Rattle.std.proofs.Common.{◌≡◌, ◌∙◌, ◌+◌, ◌&&◌, ◌||◌, ℕ, Bool, true, false, not, Option, None, Some, List, [], ◌∷◌, ◌++◌, add_assoc, add-zero, zero-add, cond, refl, sym, ap, ⊎_elim}
use Rattle.std.specs.Prelude.{filter, map as list_map}
use Rattle.std.specs.Bool.{if◌then◌else◌}
use Rattle.std.specs.List.{flat_map, AllByRecursion, IsDistinct}
use Rattle.std.specs.Str.{bytes_eq}
use Rattle.std.specs.FinMap as map
use Rattle.std.proofs.Math.Bool.{and-true}
use Rattle.std.proofs.lemmas.List.Folds.{list_any-append}
use Rattle.std.proofs.lemmas.Map.Keys.{IsDistinct-head, IsDistinct-tail}
use Rattle.mk_names.specs.Names.{has_name, added, all_added}
use Rattle.mk_names.proofs.NameLemmas.{same_bytes}
use Rattle.st_records.specs.Parts.{names_known}
use Rattle.st_records.specs.declared.record.Entry.{Entry}
use Rattle.st_state.specs.State.{StateMap}
use Rattle.st_answers.specs.Graph.{NamedEdge, hidden_where, new_names, edges_to, edges_by, edges_from, edges_among, is_named, same_edge, times, AreEdges}
use Rattle.st_answers.proofs.ReachedLemmas.{mentioned_there, from_all_added}

abbrev pub one_if : Bool → ℕ
one_if b = if b then 1 else 0

-- ---- names

abbrev count : List ℕ → List (List ℕ) → ℕ
count name [] = 0
count name (x ∷ names) = cond (bytes_eq name x) 1 0 + count name names

and_false : (a : Bool) → (a && false) ≡ false
and_false true = refl
and_false false = refl

-- a name is had alike by any that has the same bytes
same_had : (names : List (List ℕ)) (a b : List ℕ) → bytes_eq a b ≡ true → has_name names a ≡ has_name names b
same_had names a b h = ap (has_name names) (same_bytes a b h)

added_has : (before : List (List ℕ)) (x name : List ℕ) → has_name before x ≡ false → has_name (added before x) name ≡ (has_name before name || (bytes_eq name x || false))
added_has before x name fresh =
    ap (λ b. has_name (if b then before else before ++ x ∷ []) name) fresh ∙ list_any-append (bytes_eq name) before (x ∷ [])

-- of the new names one is each that wasn't there
pub count_new : (before names : List (List ℕ)) (name : List ℕ) → count name (new_names before names) ≡ one_if (has_name names name && not (has_name before name))
count_new before [] name = refl
count_new before (x ∷ xs) name = by (λ b. count_new b xs name) (has_name before x) refl (bytes_eq name x) refl
  where
    by : (others : (b : List (List ℕ)) → count name (new_names b xs) ≡ one_if (has_name xs name && not (has_name b name))) → (there : Bool) → has_name before x ≡ there → (same : Bool) → bytes_eq name x ≡ same
        → count name (if there then new_names before xs else x ∷ new_names (added before x) xs) ≡ one_if ((same || has_name xs name) && not (has_name before name))
    by others true e false s = others before
    by others true e true s =
        others before
        ∙ ap (λ b. one_if (has_name xs name && not b)) (same_had before name x s ∙ e)
        ∙ ap one_if (and_false (has_name xs name))
        ∙ ap (λ b. one_if (not b)) (sym (same_had before name x s ∙ e))
    by others false e true s =
        ap (λ b. cond b 1 0 + count name (new_names (added before x) xs)) s
        ∙ ap (λ n. 1 + n)
        (others (added before x)
        ∙ ap (λ b. one_if (has_name xs name && not b)) (added_has before x name e ∙ ap (λ b. b || (bytes_eq name x || false)) (same_had before name x s ∙ e) ∙ ap (λ b. b || false) s)
        ∙ ap one_if (and_false (has_name xs name)))
        ∙ ap (λ b. one_if (not b)) (sym (same_had before name x s ∙ e))
    by others false e false s =
        ap (λ b. cond b 1 0 + count name (new_names (added before x) xs)) s
        ∙ zero-add (count name (new_names (added before x) xs))
        ∙ others (added before x)
        ∙ ap (λ b. one_if (has_name xs name && not b)) (added_has before x name e ∙ ap (λ b. has_name before name || (b || false)) s ∙ or_false (has_name before name))
      where
        or_false : (a : Bool) → (a || false) ≡ a
        or_false true = refl
        or_false false = refl

-- of those that pass
count_filter : (drawn names : List (List ℕ)) (name : List ℕ) → count name (filter (has_name drawn) names) ≡ (if has_name drawn name then count name names else 0)
count_filter drawn [] name = by (has_name drawn name)
  where
    by : (b : Bool) → ◌≡◌ {A = ℕ} 0 (if b then 0 else 0)
    by true = refl
    by false = refl
count_filter drawn (x ∷ xs) name = by (count_filter drawn xs name) (has_name drawn x) refl (bytes_eq name x) refl
  where
    by : count name (filter (has_name drawn) xs) ≡ (if has_name drawn name then count name xs else 0) → (in_ : Bool) → has_name drawn x ≡ in_ → (same : Bool) → bytes_eq name x ≡ same
        → count name (if in_ then x ∷ filter (has_name drawn) xs else filter (has_name drawn) xs) ≡ (if has_name drawn name then cond same 1 0 + count name xs else 0)
    by others true e true s =
        ap (λ b. cond b 1 0 + count name (filter (has_name drawn) xs)) s
        ∙ ap (λ n. 1 + n) (others ∙ ap (λ b. if b then count name xs else 0) (same_had drawn name x s ∙ e))
        ∙ ap (λ b. if b then 1 + count name xs else 0) (sym (same_had drawn name x s ∙ e))
    by others true e false s =
        ap (λ b. cond b 1 0 + count name (filter (has_name drawn) xs)) s
        ∙ zero-add (count name (filter (has_name drawn) xs)) ∙ others
        ∙ ap (λ n. if has_name drawn name then n else 0) (sym (zero-add (count name xs)))
    by others false e true s =
        others ∙ ap (λ b. if b then count name xs else 0) (same_had drawn name x s ∙ e)
        ∙ ap (λ b. if b then 1 + count name xs else 0) (sym (same_had drawn name x s ∙ e))
    by others false e false s = others ∙ ap (λ n. if has_name drawn name then n else 0) (sym (zero-add (count name xs)))

-- of distinct names the first isn't among the others
first_apart : (x : List ℕ) (xs : List (List ℕ)) → IsDistinct bytes_eq (x ∷ xs) → has_name xs x ≡ false
first_apart x xs distinct = none xs (IsDistinct-head bytes_eq x xs distinct)
  where
    none : (ys : List (List ℕ)) → AllByRecursion (λ y. bytes_eq x y ≡ false) ys → has_name ys x ≡ false
    none [] all = refl
    none (y ∷ ys) all = ap (λ b. b || has_name ys x) all.0 ∙ none ys all.1

-- ---- edges

module _ (e : NamedEdge) where
  pub times-append : (xs ys : List NamedEdge) → times e (xs ++ ys) ≡ times e xs + times e ys
  times-append [] ys = sym (zero-add (times e ys))
  times-append (x ∷ xs) ys = ap (λ n. cond (same_edge e x) 1 0 + n) (times-append xs ys) ∙ sym (add_assoc (cond (same_edge e x) 1 0) (times e xs) (times e ys))

  abbrev alike : Bool → Bool
  alike hidden = if e.hidden then hidden else not hidden

  times_map : (user : List ℕ) (hidden : Bool) (names : List (List ℕ))
      → times e (list_map (λ name. record { user = user; prerequisite = name; hidden = hidden }) names) ≡ (if bytes_eq e.user user && alike hidden then count e.prerequisite names else 0)
  times_map user hidden [] = by (bytes_eq e.user user && alike hidden)
    where
      by : (b : Bool) → ◌≡◌ {A = ℕ} 0 (if b then 0 else 0)
      by true = refl
      by false = refl
  times_map user hidden (x ∷ xs) =
      ap (λ n. cond (bytes_eq e.user user && (bytes_eq e.prerequisite x && alike hidden)) 1 0 + n) (times_map user hidden xs)
      ∙ by (bytes_eq e.user user) (bytes_eq e.prerequisite x) (alike hidden)
    where
      by : (a b k : Bool) → cond (a && (b && k)) 1 0 + (if a && k then count e.prerequisite xs else 0) ≡ (if a && k then cond b 1 0 + count e.prerequisite xs else 0)
      by true true true = refl
      by true true false = refl
      by true false true = refl
      by true false false = refl
      by false b k = refl

  -- the edges to names of which each stands once at most
  pub times_to : (drawn : List (List ℕ)) (user : List ℕ) (hidden : Bool) (names : List (List ℕ)) (is : Bool) → count e.prerequisite names ≡ one_if is
      → times e (edges_to drawn user hidden names) ≡ one_if (bytes_eq e.user user && (alike hidden && (has_name drawn e.prerequisite && is)))
  times_to drawn user hidden names is once =
      times_map user hidden (filter (has_name drawn) names)
      ∙ ap (λ n. if bytes_eq e.user user && alike hidden then n else 0) (count_filter drawn names e.prerequisite ∙ ap (λ n. if has_name drawn e.prerequisite then n else 0) once)
      ∙ by (bytes_eq e.user user) (alike hidden) (has_name drawn e.prerequisite) is
    where
      by : (a k d i : Bool) → (if a && k then if d then one_if i else 0 else 0) ≡ one_if (a && (k && (d && i)))
      by true true true i = refl
      by true true false i = refl
      by true false d i = refl
      by false k d i = refl

  -- the edges from distinct users, of which each has the edge as often as it is the user of it
  pub times_users : (of : List ℕ → List NamedEdge) (is : Bool) → ((user : List ℕ) → times e (of user) ≡ one_if (bytes_eq e.user user && is))
      → (users : List (List ℕ)) → IsDistinct bytes_eq users → times e (flat_map of users) ≡ one_if (has_name users e.user && is)
  times_users of is each [] distinct = refl
  times_users of is each (x ∷ xs) distinct =
      times-append (of x) (flat_map of xs)
      ∙ ap (λ n. n + times e (flat_map of xs)) (each x)
      ∙ ap (λ n. one_if (bytes_eq e.user x && is) + n) (times_users of is each xs (IsDistinct-tail bytes_eq x xs distinct))
      ∙ by (bytes_eq e.user x) refl
    where
      apart : bytes_eq e.user x ≡ true → has_name xs e.user ≡ false
      apart s = same_had xs e.user x s ∙ first_apart x xs distinct

      by : (same : Bool) → bytes_eq e.user x ≡ same → one_if (same && is) + one_if (has_name xs e.user && is) ≡ one_if ((same || has_name xs e.user) && is)
      by true s = ap (λ b. one_if is + one_if (b && is)) (apart s) ∙ add-zero (one_if is)
      by false s = zero-add (one_if (has_name xs e.user && is))

-- ---- the edges of names

-- the names that are mentioned first are those that are mentioned
first_has : (names : List (List ℕ)) (name : List ℕ) → has_name (all_added [] names) name ≡ has_name names name
first_has names name = by (has_name (all_added [] names) name) refl (has_name names name) refl
  where
    by : (a : Bool) → has_name (all_added [] names) name ≡ a → (b : Bool) → has_name names name ≡ b → a ≡ b
    by true p true q = refl
    by false p false q = refl
    by true p false q = ⊎_elim (λ none. absurd (cc)) (λ there. sym there ∙ q) (from_all_added [] names name p)
    by false p true q = sym p ∙ mentioned_there [] names name q

module _ (counts : Bool) (drawn : List (List ℕ)) (e : NamedEdge) where
  times_by : (user : List ℕ) (known : Option Entry)
      → times e (edges_by drawn counts user known) ≡ one_if (bytes_eq e.user user && (has_name drawn e.prerequisite && is_named counts known e.hidden e.prerequisite))
  times_by user None = by (bytes_eq e.user user) (has_name drawn e.prerequisite)
    where
      by : (a d : Bool) → ◌≡◌ {A = ℕ} 0 (one_if (a && (d && false)))
      by true true = refl
      by true false = refl
      by false d = refl
  times_by user (Some entry) =
      let explicit = names_known entry.explicit in
      let hidden = hidden_where counts entry in
      times-append e (edges_to drawn user false (new_names [] explicit)) (edges_to drawn user true (new_names (all_added [] explicit) hidden))
      ∙ ap (λ n. n + times e (edges_to drawn user true (new_names (all_added [] explicit) hidden))) (times_to e drawn user false (new_names [] explicit) _ (count_new [] explicit e.prerequisite))
      ∙ ap (λ n. one_if (bytes_eq e.user user && (alike e false && (has_name drawn e.prerequisite && (has_name explicit e.prerequisite && true)))) + n)
      (times_to e drawn user true (new_names (all_added [] explicit) hidden) _ (count_new (all_added [] explicit) hidden e.prerequisite
      ∙ ap (λ b. one_if (has_name hidden e.prerequisite && not b)) (first_has explicit e.prerequisite)))
      ∙ by e.hidden (bytes_eq e.user user) (has_name drawn e.prerequisite)
    where
      by : (k a d : Bool) → one_if (a && ((if k then false else true) && (d && (has_name (names_known entry.explicit) e.prerequisite && true))))
          + one_if (a && ((if k then true else false) && (d && (has_name (hidden_where counts entry) e.prerequisite && not (has_name (names_known entry.explicit) e.prerequisite)))))
          ≡ one_if (a && (d && is_named counts (Some entry) k e.prerequisite))
      by true true true = zero-add _
      by true true false = refl
      by true false d = refl
      by false true true = add-zero _ ∙ ap one_if (and-true (has_name (names_known entry.explicit) e.prerequisite))
      by false true false = refl
      by false false d = refl

pub edges_are : (m : StateMap) (counts : Bool) (drawn : List (List ℕ)) → IsDistinct bytes_eq drawn → AreEdges m counts drawn (edges_among m counts drawn)
edges_are m counts drawn distinct e =
    times_users e (edges_from m counts drawn) (has_name drawn e.prerequisite && is_named counts (map.get m e.user) e.hidden e.prerequisite)
    (λ user. times_by counts drawn e user (map.get m user) ∙ by user (bytes_eq e.user user) refl)
    drawn distinct
  where
    by : (user : List ℕ) (a : Bool) → bytes_eq e.user user ≡ a
        → one_if (a && (has_name drawn e.prerequisite && is_named counts (map.get m user) e.hidden e.prerequisite))
        ≡ one_if (a && (has_name drawn e.prerequisite && is_named counts (map.get m e.user) e.hidden e.prerequisite))
    by user true s = ap (λ u. one_if (has_name drawn e.prerequisite && is_named counts (map.get m u) e.hidden e.prerequisite)) (sym (same_bytes e.user user s))
    by user false s = refl
