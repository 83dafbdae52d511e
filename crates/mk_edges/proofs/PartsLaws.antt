-- The parts of a node's row of hard prerequisites.
use Rattle.std.proofs.Common.{arith, ◌≡◌, ℕ, Bool, true, false, not, ◌||◌, ◌==◌, cond, List, [], ◌∷◌, ◌++◌, length, map, filter, drop, Some, None, refl, sym, ap, ◌∙◌}
use Rattle.std.specs.Prelude.{bytes_eq, slice_get, option_map, option_to_list}
use Rattle.std.proofs.lemmas.Bool.{false_from_ne_true, eqb-true}
use Rattle.std.proofs.lemmas.List.Folds.{list_any-append}
use Rattle.mk_names.specs.Names.{has_name, name_at}
use Rattle.mk_nodes.specs.Node.{first_number, later_numbers, source_by, explicit_by}
use Rattle.mk_nodes.specs.Prerequisites.{Inputs, distinct, made_from, source_name, implicit_source, hard_of, explicit_names}
use Rattle.mk_rule_lines.specs.Explicit.{explicit_of}
use Rattle.mk_rule_lines.specs.Rules.{has}
use Rattle.mk_nodes.proofs.FreshLemmas.{fresh, added_fresh}
use Rattle.mk_rule_lines.proofs.NameLemmas.{bytes_eq-same}

has_more : (names : List (List ℕ)) (x q : List ℕ) → has q (names ++ x ∷ []) ≡ (has q names || (bytes_eq q x || false))
has_more names x q = list_any-append (bytes_eq q) names (x ∷ [])

-- the second names are the first ones and all that fail a test
abbrev HasFailing : (p : List ℕ → Bool) (names more : List (List ℕ)) → Type 0
HasFailing p names more = (q : List ℕ) → has q more ≡ (has q names || not (p q))

module _ (p : List ℕ → Bool) where
  middle_last : (a b c : Bool) → ((a || c) || (b || false)) ≡ ((a || (b || false)) || c)
  middle_last true b c = refl
  middle_last false true true = refl
  middle_last false true false = refl
  middle_last false false true = refl
  middle_last false false false = refl

  both_more : (names more : List (List ℕ)) (x : List ℕ) → HasFailing p names more → HasFailing p (names ++ x ∷ []) (more ++ x ∷ [])
  both_more names more x so q =
      has_more more x q ∙ ap (λ b. b || (bytes_eq q x || false)) (so q) ∙ middle_last (has q names) (bytes_eq q x) (not (p q))
      ∙ ap (λ b. b || not (p q)) (sym (has_more names x q))

  or_true : (a b : Bool) → b ≡ true → (a || b) ≡ true
  or_true true b e = refl
  or_true false b e = e

  or_off : (b : Bool) → (b || false) ≡ b
  or_off true = refl
  or_off false = refl

  one_more_at : (names more : List (List ℕ)) (x q : List ℕ) → p x ≡ false → has q more ≡ (has q names || not (p q)) → (t : Bool) → bytes_eq q x ≡ t →
      has q more ≡ (has q (names ++ x ∷ []) || not (p q))
  one_more_at names more x q fails so true e =
      let gone : not (p q) ≡ true = ap (λ n. not (p n)) (bytes_eq-same q x e) ∙ ap not fails in
      so ∙ or_true (has q names) (not (p q)) gone ∙ sym (or_true (has q (names ++ x ∷ [])) (not (p q)) gone)
  one_more_at names more x q fails so false e =
      let same : has q (names ++ x ∷ []) ≡ has q names = has_more names x q ∙ ap (λ b. has q names || (b || false)) e ∙ or_off (has q names) in
      so ∙ ap (λ b. b || not (p q)) (sym same)

  left_at : (names more : List (List ℕ)) (x : List ℕ) (xs : List (List ℕ)) → HasFailing p names more →
      ((n m : List (List ℕ)) → HasFailing p n m → filter p (fresh n xs) ≡ fresh m xs) → (b t : Bool) → has_name names x ≡ b → p x ≡ t →
      filter p (fresh names (x ∷ xs)) ≡ fresh more (x ∷ xs)
  left_at names more x xs so step true t known e =
      let there : has_name more x ≡ true = so x ∙ ap (λ b. b || not (p x)) known in
      simp (known, there) (step names more so)
  left_at names more x xs so step false true known e =
      let there : has_name more x ≡ false = so x ∙ ap (λ b. b || not (p x)) known ∙ ap not e in
      simp (known, there, e) (ap (λ l. x ∷ l) (step (names ++ x ∷ []) (more ++ x ∷ []) (both_more names more x so)))
  left_at names more x xs so step false false known e =
      let there : has_name more x ≡ true = so x ∙ ap (λ b. b || not (p x)) known ∙ ap not e in
      simp (known, there, e) (step (names ++ x ∷ []) more (λ q. one_more_at names more x q e (so q) (bytes_eq q x) refl))

  -- the names that pass are those that are new behind all that fail
  left : (xs names more : List (List ℕ)) → HasFailing p names more → filter p (fresh names xs) ≡ fresh more xs
  left [] names more so = refl
  left (x ∷ xs) names more so = left_at names more x xs so (λ n m is. left xs n m is) (has_name names x) (p x) refl refl

twice : (b : Bool) → b ≡ not (not b)
twice true = refl
twice false = refl

-- behind a source stand the names that are mentioned, each once and without it
behind_source : (s : List ℕ) (xs : List (List ℕ)) → fresh (s ∷ []) xs ≡ filter (λ w. not (has w (s ∷ []))) (distinct xs)
behind_source s xs =
    sym (ap (filter (λ w. not (has w (s ∷ [])))) (added_fresh [] xs) ∙ left (λ w. not (has w (s ∷ []))) xs [] (s ∷ []) (λ q. twice (has q (s ∷ []))))

all_pass : (xs : List (List ℕ)) → filter (λ w. not (has w [])) xs ≡ xs
all_pass [] = refl
all_pass (x ∷ xs) = ap (λ l. x ∷ l) (all_pass xs)

-- where a rule has a name, it gives some
some_given : (m : List ℕ) (made : List (List ℕ)) (implied : ℕ) → implied ≡ length (distinct (m ∷ made)) → (implied == 0) ≡ false
some_given m made implied is =
    false_from_ne_true (implied == 0) (λ e.
    let none : implied ≡ 0 = eqb-true implied 0 e in
    let some : length (distinct (m ∷ made)) ≡ length (m ∷ fresh (m ∷ []) made) = ap length (added_fresh (m ∷ []) made) in
    absurd (omega (arith, is)))

module _ (names : List (List ℕ)) (explicit : List (List ℕ)) where
  first_at : (m : List ℕ) (made : List (List ℕ)) (hard : List ℕ) → map (name_at names) hard ≡ distinct ((m ∷ made) ++ explicit) →
      option_map (name_at names) (first_number hard) ≡ Some m
  first_at m made [] row = let whole = row ∙ added_fresh (m ∷ []) (made ++ explicit) in cc
  first_at m made (n ∷ ns) row =
      let whole : name_at names n ∷ map (name_at names) ns ≡ m ∷ fresh (m ∷ []) (made ++ explicit) = row ∙ added_fresh (m ∷ []) (made ++ explicit) in
      let first : name_at names n ≡ m = cc in
      ap Some first

  source_at : (made : List (List ℕ)) (implied : ℕ) (hard : List ℕ) → implied ≡ length (distinct made) →
      map (name_at names) hard ≡ distinct (made ++ explicit) → option_map (name_at names) (source_by implied hard) ≡ slice_get made 0
  source_at [] implied hard is row = ap (λ n. option_map (name_at names) (source_by n hard)) is
  source_at (m ∷ made) implied hard is row =
      ap (λ (b : Bool). option_map (name_at names) (cond b None (first_number hard))) (some_given m made implied is) ∙ first_at m made hard row

  later_at : (m : List ℕ) (made : List (List ℕ)) (hard : List ℕ) → map (name_at names) hard ≡ distinct ((m ∷ made) ++ explicit) →
      map (name_at names) (later_numbers hard) ≡ filter (λ w. not (has w (m ∷ []))) (distinct (made ++ explicit))
  later_at m made [] row = let whole = row ∙ added_fresh (m ∷ []) (made ++ explicit) in cc
  later_at m made (n ∷ ns) row =
      let whole : name_at names n ∷ map (name_at names) ns ≡ m ∷ fresh (m ∷ []) (made ++ explicit) = row ∙ added_fresh (m ∷ []) (made ++ explicit) in
      let rest : map (name_at names) ns ≡ fresh (m ∷ []) (made ++ explicit) = cc in
      rest ∙ behind_source m (made ++ explicit)

  explicit_at : (made : List (List ℕ)) (implied : ℕ) (hard : List ℕ) → implied ≡ length (distinct made) →
      map (name_at names) hard ≡ distinct (made ++ explicit) →
      map (name_at names) (explicit_by implied hard)
      ≡ filter (λ w. not (has w (option_to_list (slice_get made 0)))) (distinct (drop 1 made ++ explicit))
  explicit_at [] implied hard is row = ap (λ n. map (name_at names) (explicit_by n hard)) is ∙ row ∙ sym (all_pass (distinct explicit))
  explicit_at (m ∷ made) implied hard is row =
      ap (λ (b : Bool). map (name_at names) (cond b hard (later_numbers hard))) (some_given m made implied is) ∙ later_at m made hard row

module _ (inputs : Inputs) (names : List (List ℕ)) (name : List ℕ) (implied : ℕ) (implied_is : implied ≡ length (distinct (made_from (implicit_source inputs name))))
    (hard : List ℕ) (hard_is : map (name_at names) hard ≡ hard_of inputs name) where
  -- the source of a node is that of its name
  pub source_is : option_map (name_at names) (source_by implied hard) ≡ source_name (implicit_source inputs name)
  source_is = source_at names (explicit_of inputs.lines name) (made_from (implicit_source inputs name)) implied hard implied_is hard_is

  -- and what is left are the prerequisites by name
  pub explicit_is : map (name_at names) (explicit_by implied hard) ≡ explicit_names inputs name
  explicit_is = explicit_at names (explicit_of inputs.lines name) (made_from (implicit_source inputs name)) implied hard implied_is hard_is
