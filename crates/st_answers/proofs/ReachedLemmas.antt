-- Names are reached edge by edge.
use Rattle.std.proofs.Common.{◌≡◌, ◌∙◌, ◌+◌, ◌<◌, ◌≤◌, ◌⊎◌, ◌||◌, ℕ, zero, suc, Bool, true, false, Option, None, Some, List, [], ◌∷◌, ◌++◌, length, take, drop, append_assoc, append-nil, inl, inr, refl, sym, ap, subst, ⊎_elim, arith}
use Rattle.std.proofs.lemmas.Bool.{cases_lt}
use Rattle.std.proofs.lemmas.List.{drop_more, take_all, take-append-drop, take-append-le}
use Rattle.std.proofs.lemmas.List.Folds.{list_any-append}
use Rattle.std.proofs.lemmas.Grind.{flat_map-append}
use Rattle.std.specs.Bool.{if◌then◌else◌}
use Rattle.std.specs.List.{flat_map, IsDistinct}
use Rattle.std.specs.Str.{bytes_eq}
use Rattle.mk_names.specs.Names.{name_at, has_name, added, all_added}
use Rattle.mk_names.proofs.NameLemmas.{Begins, begins_all_added, all_added-append, length_from_begins, name_at-begins, same_bytes, bytes_same, distinct_none, distinct_all_added}
use Rattle.st_answers.specs.Reached.{ReachesAlong, IsWithin, AreDrawn}

-- ---- a name among others

either : (a b : Bool) → (a || b) ≡ true → (a ≡ true) ⊎ (b ≡ true)
either true b h = inl refl
either false b h = inr h

or_left : (a b : Bool) → a ≡ true → (a || b) ≡ true
or_left a b h = ap (λ t. t || b) h

or_right : (a b : Bool) → b ≡ true → (a || b) ≡ true
or_right true b h = refl
or_right false b h = h

in_both : (xs ys : List (List ℕ)) (name : List ℕ) → has_name (xs ++ ys) name ≡ true → (has_name xs name ≡ true) ⊎ (has_name ys name ≡ true)
in_both xs ys name h = either (has_name xs name) (has_name ys name) (sym (list_any-append (bytes_eq name) xs ys) ∙ h)

in_first : (xs ys : List (List ℕ)) (name : List ℕ) → has_name xs name ≡ true → has_name (xs ++ ys) name ≡ true
in_first xs ys name h = list_any-append (bytes_eq name) xs ys ∙ or_left (has_name xs name) (has_name ys name) h

in_second : (xs ys : List (List ℕ)) (name : List ℕ) → has_name ys name ≡ true → has_name (xs ++ ys) name ≡ true
in_second xs ys name h = list_any-append (bytes_eq name) xs ys ∙ or_right (has_name xs name) (has_name ys name) h

-- ---- names that are added

-- those from before stay
pub still_there : (names mentioned : List (List ℕ)) (name : List ℕ) → has_name names name ≡ true → has_name (all_added names mentioned) name ≡ true
still_there names mentioned name h =
    let b = begins_all_added names mentioned in
    subst (λ l. has_name l name ≡ true) b.1 (in_first names b.0 name h)

added_there : (names : List (List ℕ)) (name : List ℕ) → has_name (added names name) name ≡ true
added_there names name = by (has_name names name) refl
  where
    by : (b : Bool) → has_name names name ≡ b → has_name (if b then names else names ++ name ∷ []) name ≡ true
    by true e = e
    by false e = in_second names (name ∷ []) name (or_left (bytes_eq name name) false (bytes_same name name refl))

-- what is mentioned is there
pub mentioned_there : (names mentioned : List (List ℕ)) (name : List ℕ) → has_name mentioned name ≡ true → has_name (all_added names mentioned) name ≡ true
mentioned_there names (x ∷ xs) name h =
    ⊎_elim
    (λ e. still_there (added names x) xs name (subst (λ n. has_name (added names x) n ≡ true) (sym (same_bytes name x e)) (added_there names x)))
    (λ later. mentioned_there (added names x) xs name later)
    (either (bytes_eq name x) (has_name xs name) h)
mentioned_there names [] name h = absurd (cc)

added_from : (names : List (List ℕ)) (x name : List ℕ) → has_name (added names x) name ≡ true → (has_name names name ≡ true) ⊎ (bytes_eq name x ≡ true)
added_from names x name = by (has_name names x)
  where
    by : (b : Bool) → has_name (if b then names else names ++ x ∷ []) name ≡ true → (has_name names name ≡ true) ⊎ (bytes_eq name x ≡ true)
    by true h = inl h
    by false h =
        ⊎_elim inl (λ last. inr (⊎_elim (λ e. e) (λ none. absurd (cc)) (either (bytes_eq name x) false last))) (in_both names (x ∷ []) name h)

-- and nothing else
pub from_all_added : (names mentioned : List (List ℕ)) (name : List ℕ) → has_name (all_added names mentioned) name ≡ true → (has_name names name ≡ true) ⊎ (has_name mentioned name ≡ true)
from_all_added names [] name h = inl h
from_all_added names (x ∷ xs) name h =
    ⊎_elim
    (λ before. ⊎_elim inl (λ e. inr (or_left (bytes_eq name x) (has_name xs name) e)) (added_from names x name before))
    (λ later. inr (or_right (bytes_eq name x) (has_name xs name) later))
    (from_all_added (added names x) xs name h)

-- ---- prerequisites of names

module _ (of : List ℕ → List (List ℕ)) where
  -- a prerequisite of one of them
  pub of_one : (users : List (List ℕ)) (user name : List ℕ) → has_name users user ≡ true → has_name (of user) name ≡ true → has_name (flat_map of users) name ≡ true
  of_one [] user name h k = absurd (cc)
  of_one (u ∷ us) user name h k =
      ⊎_elim
      (λ e. in_first (of u) (flat_map of us) name (subst (λ n. has_name (of n) name ≡ true) (same_bytes user u e) k))
      (λ later. in_second (of u) (flat_map of us) name (of_one us user name later k))
      (either (bytes_eq user u) (has_name us user) h)

  pub one_of : (users : List (List ℕ)) (name : List ℕ) → has_name (flat_map of users) name ≡ true → (user : List ℕ) × ((has_name users user ≡ true) × (has_name (of user) name ≡ true))
  one_of [] name h = absurd (cc)
  one_of (u ∷ us) name h =
      ⊎_elim
      (λ here. (u, (or_left (bytes_eq u u) (has_name us u) (bytes_same u u refl), here)))
      (λ later. let found = one_of us name later in (found.0, (or_right (bytes_eq found.0 u) (has_name us found.0) found.1.0, found.1.1)))
      (in_both (of u) (flat_map of us) name h)

-- ---- names so far

-- those that are reached along so many edges at most, of which the first `looked_at` were looked at
pub record AreReached (of : List ℕ → List (List ℕ)) (starts : List (List ℕ)) (depth : Option ℕ) (names : List (List ℕ)) (looked_at edges : ℕ) : Type 0 where
  pub looked : looked_at ≤ length names
  pub few : edges ≤ looked_at
  pub within : IsWithin depth edges
  pub order : names ≡ all_added [] (starts ++ flat_map of (take looked_at names))
  pub reached : (name : List ℕ) → has_name names name ≡ true → (k : ℕ) × ((k ≤ edges) × ReachesAlong of starts k name)
  pub all : (k : ℕ) (name : List ℕ) → k ≤ edges → ReachesAlong of starts k name → has_name names name ≡ true

any_depth : (depth : Option ℕ) → IsWithin depth 0
any_depth None = tt
any_depth (Some depth) = omega arith

pub fewer_within : (depth : Option ℕ) (k edges : ℕ) → k ≤ edges → IsWithin depth edges → IsWithin depth k
fewer_within None k edges h w = tt
fewer_within (Some depth) k edges h w = omega arith

module _ (of : List ℕ → List (List ℕ)) (starts : List (List ℕ)) (depth : Option ℕ) where
  pub AreReached-start : (names : List (List ℕ)) → names ≡ all_added [] starts → AreReached of starts depth names 0 0
  AreReached-start names is = record {
    looked = omega arith;
    few = omega arith;
    within = any_depth depth;
    order = is ∙ ap (all_added []) (sym (append-nil starts));
    reached = λ name h. (0, (omega arith, ⊎_elim (λ none. absurd (cc)) (λ there. there) (from_all_added [] starts name (subst (λ l. has_name l name ≡ true) is h))));
    all = start_all names is;
  }
    where
      start_all : (names : List (List ℕ)) → names ≡ all_added [] starts → (k : ℕ) (name : List ℕ) → k ≤ 0 → ReachesAlong of starts k name → has_name names name ≡ true
      start_all names is zero name h r = subst (λ l. has_name l name ≡ true) (sym is) (mentioned_there [] starts name r)
      start_all names is (suc k) name h r = absurd (omega arith)

  module _ (names : List (List ℕ)) (looked_at edges : ℕ) (before : AreReached of starts depth names looked_at edges) where
    -- what all of them mention, and what those do that weren't looked at yet
    turned : all_added [] (starts ++ flat_map of names) ≡ all_added names (flat_map of (drop looked_at names))
    turned =
        ap (all_added [])
        (ap (λ l. starts ++ l) (ap (flat_map of) (sym (take-append-drop looked_at names)) ∙ flat_map-append of (take looked_at names) (drop looked_at names))
        ∙ sym (append_assoc starts (flat_map of (take looked_at names)) (flat_map of (drop looked_at names))))
        ∙ all_added-append [] (starts ++ flat_map of (take looked_at names)) (flat_map of (drop looked_at names))
        ∙ ap (λ l. all_added l (flat_map of (drop looked_at names))) (sym before.order)

    front : (whole : List (List ℕ)) → Begins names whole → take (length names) whole ≡ names
    front whole b = ap (take (length names)) (sym b.1) ∙ take-append-le (length names) names b.0 (omega arith) ∙ take_all (length names) names (omega arith)

    -- one more edge
    module _ (grown : List (List ℕ)) (is : grown ≡ all_added names (flat_map of (drop looked_at names))) where
      begins : Begins names grown
      begins = subst (Begins names) (sym is) (begins_all_added names (flat_map of (drop looked_at names)))

      whole : grown ≡ all_added [] (starts ++ flat_map of names)
      whole = is ∙ sym turned

      reached_more : (name : List ℕ) → has_name grown name ≡ true → (k : ℕ) × ((k ≤ edges + 1) × ReachesAlong of starts k name)
      reached_more name h =
          ⊎_elim
          (λ old. let r = before.reached name old in (r.0, (omega arith, r.1.1)))
          (λ new.
          let found = one_of of (drop looked_at names) name new in
          let there : has_name names found.0 ≡ true =
          subst (λ l. has_name l found.0 ≡ true) (take-append-drop looked_at names) (in_second (take looked_at names) (drop looked_at names) found.0 found.1.0) in
          let r = before.reached found.0 there in
          (suc r.0, (omega arith, (found.0, (r.1.1, found.1.1)))))
          (from_all_added names (flat_map of (drop looked_at names)) name (subst (λ l. has_name l name ≡ true) is h))

      all_more : (k : ℕ) (name : List ℕ) → k ≤ edges + 1 → ReachesAlong of starts k name → has_name grown name ≡ true
      all_more zero name h r = subst (λ l. has_name l name ≡ true) begins.1 (in_first names begins.0 name (before.all 0 name (omega arith) r))
      all_more (suc k) name h r =
          let there = before.all k r.0 (omega arith) r.1.0 in
          subst (λ l. has_name l name ≡ true) (sym whole)
          (mentioned_there [] (starts ++ flat_map of names) name (in_second starts (flat_map of names) name (of_one of names r.0 name there r.1.1)))

      pub AreReached-more : looked_at < length names → IsWithin depth (edges + 1) → AreReached of starts depth grown (length names) (edges + 1)
      AreReached-more some deeper = record {
        looked = length_from_begins names grown begins;
        few = let f = before.few in omega arith;
        within = deeper;
        order = whole ∙ ap (λ l. all_added [] (starts ++ flat_map of l)) (sym (front grown begins));
        reached = reached_more;
        all = all_more;
      }

    -- the end: all were looked at, or there are no more edges
    all_at_end : length names ≤ looked_at → (k : ℕ) (name : List ℕ) → ReachesAlong of starts k name → has_name names name ≡ true
    all_at_end past zero name r = before.all 0 name (omega arith) r
    all_at_end past (suc k) name r =
        let there = all_at_end past k r.0 r.1.0 in
        let order : names ≡ all_added [] (starts ++ flat_map of names) = before.order ∙ ap (λ l. all_added [] (starts ++ flat_map of l)) (take_all looked_at names past) in
        subst (λ l. has_name l name ≡ true) (sym order)
        (mentioned_there [] (starts ++ flat_map of names) name (in_second starts (flat_map of names) name (of_one of names r.0 name there r.1.1)))

    pub AreReached-end : (length names ≤ looked_at) ⊎ (IsWithin depth (edges + 1) → ⊥) → AreDrawn of starts depth names
    AreReached-end last = record {
      reached = λ name h. let r = before.reached name h in record { edges = r.0; within = fewer_within depth r.0 edges r.1.0 before.within; along = r.1.1 };
      all = λ name r.
          ⊎_elim
          (λ past. all_at_end past r.edges name r.along)
          (λ deep. before.all r.edges name (no_deeper depth r.edges edges r.within deep) r.along)
          last;
      once = subst (IsDistinct bytes_eq) (sym before.order) (distinct_all_added [] (starts ++ flat_map of (take looked_at names)) distinct_none);
      order = sym (ap (take (length names)) turned ∙ front (all_added names (flat_map of (drop looked_at names))) (begins_all_added names (flat_map of (drop looked_at names))));
    }
      where
        no_deeper : (depth : Option ℕ) (k edges : ℕ) → IsWithin depth k → (IsWithin depth (edges + 1) → ⊥) → k ≤ edges
        no_deeper None k edges w deep = absurd (deep tt)
        no_deeper (Some depth) k edges w deep = ⊎_elim (λ lt. absurd (deep (omega arith))) (λ le. omega arith) (cases_lt edges depth)

-- the prerequisites of one more name are mentioned
pub mentioned_more : (of : List ℕ → List (List ℕ)) (first names before found : List (List ℕ)) (number : ℕ) → Begins first names → number < length first → found ≡ of (name_at names number)
    → all_added names (flat_map of (drop number first)) ≡ before → all_added (all_added names found) (flat_map of (drop (number + 1) first)) ≡ before
mentioned_more of first names before found number begins within is so_far =
    let rest = flat_map of (drop (number + 1) first) in
    let here : found ≡ of (name_at first number) = is ∙ ap of (name_at-begins first names number begins within) in
    ap (λ l. all_added (all_added names l) rest) here
    ∙ sym (all_added-append names (of (name_at first number)) rest)
    ∙ ap (λ l. all_added names (flat_map of l)) (sym (drop_more first number [] within))
    ∙ so_far
