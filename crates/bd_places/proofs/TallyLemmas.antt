-- Counting one more node as settled.
use Rattle.std.proofs.Common.{◌≡◌, ◌≢◌, ℕ, suc, ◌+◌, ◌<◌, ◌≤◌, Bool, true, false, cond, not, ◌&&◌, ◌||◌, eqb, nat_eq, List, [], ◌∷◌, ◌++◌, length, slice_index, slice_index_or, Option, None, refl, sym, ap, ◌∙◌, subst, ⊎_elim, arith, eq-eqb, ne_eqb, true≢false}
use Rattle.std.proofs.lemmas.Bool.{cases_eq, cases_lt}
use Rattle.std.proofs.lemmas.List.{get_or_past}
use Rattle.std.proofs.lemmas.List.Sums.{sum_by-cons}
use Rattle.std.proofs.lemmas.List.Folds.{list_any-append}
use Rattle.std.specs.List.{list_any}
use Rattle.mk_graph.specs.Edges.{row, has, times, AreUsers}
use Rattle.bd_places.specs.declared.end.End.{End}
use Rattle.bd_places.specs.declared.tally.Tally.{Tally}
use Rattle.bd_places.specs.Settling.{is_lost}
use Rattle.bd_places.specs.Tally.{lacking, IsTallied}
use Rattle.bd_links.proofs.ListLemmas.{times-cons}

pub lacking-cons : (s : List ℕ) (x : ℕ) (xs : List ℕ) → lacking s (x ∷ xs) ≡ cond (not (has s x)) 1 0 + lacking s xs
lacking-cons s x xs = sum_by-cons (λ y. cond (not (has s y)) 1 0) x xs

pub has-push : (xs : List ℕ) (x n : ℕ) → has (xs ++ x ∷ []) n ≡ (has xs n || nat_eq n x)
has-push xs x n = list_any-append (nat_eq n) xs (x ∷ []) ∙ ap (λ b. has xs n || b) (or_false (nat_eq n x))
  where
    or_false : (b : Bool) → (b || false) ≡ b
    or_false true = refl
    or_false false = refl

-- a node that settles is lacked no more, as often as it was named
pub lacking-push : (s : List ℕ) (n : ℕ) (xs : List ℕ) → has s n ≡ false → lacking (s ++ n ∷ []) xs + times n xs ≡ lacking s xs
lacking-push s n [] fresh = refl
lacking-push s n (x ∷ xs) fresh =
    let inner = lacking-push s n xs fresh in
    let one = ⊎_elim same other (cases_eq n x) in
    rw (lacking-cons (s ++ n ∷ []) x xs, times-cons n x xs, lacking-cons s x xs) (omega arith)
  where
    same : n ≡ x → cond {A = ℕ} (not (has (s ++ n ∷ []) x)) 1 0 + cond {A = ℕ} (nat_eq n x) 1 0 ≡ cond {A = ℕ} (not (has s x)) 1 0
    same e = rw (has-push s n x, eq-eqb x n (sym e), eq-eqb n x e, ap (has s) (sym e) ∙ fresh) refl

    other : n ≢ x → cond {A = ℕ} (not (has (s ++ n ∷ []) x)) 1 0 + cond {A = ℕ} (nat_eq n x) 1 0 ≡ cond {A = ℕ} (not (has s x)) 1 0
    other apart_from = rw (has-push s n x, ne_eqb x n (λ e. apart_from (sym e)), ne_eqb n x apart_from) (by (has s x))
      where
        by : (b : Bool) → cond {A = ℕ} (not (b || false)) 1 0 + 0 ≡ cond {A = ℕ} (not b) 1 0
        by true = refl
        by false = refl

-- one more node, in a test of all
pub any-push : (p : ℕ → Bool) (s : List ℕ) (n : ℕ) (xs : List ℕ)
    → list_any (λ m. has (s ++ n ∷ []) m && p m) xs ≡ (list_any (λ m. has s m && p m) xs || (p n && has xs n))
any-push p s n [] = by (p n)
  where
    by : (b : Bool) → false ≡ (b && false)
    by true = refl
    by false = refl
any-push p s n (x ∷ xs) =
    ap (λ b. (has (s ++ n ∷ []) x && p x) || b) (any-push p s n xs)
    ∙ ap (λ b. (b && p x) || (list_any (λ m. has s m && p m) xs || (p n && has xs n))) (has-push s n x)
    ∙ ⊎_elim same other (cases_eq n x)
  where
    mixed : (a b c d : Bool) → ((a || true) && b) || (c || (b && d)) ≡ ((a && b) || c) || (b && true)
    mixed true true c d = refl
    mixed true false true d = refl
    mixed true false false d = refl
    mixed false true true d = refl
    mixed false true false d = refl
    mixed false false true d = refl
    mixed false false false d = refl

    plain : (a b c d : Bool) → ((a || false) && b) || (c || d) ≡ ((a && b) || c) || d
    plain true true c d = refl
    plain true false c d = refl
    plain false b c d = refl

    same : n ≡ x → ((has s x || nat_eq x n) && p x) || (list_any (λ m. has s m && p m) xs || (p n && has xs n))
        ≡ ((has s x && p x) || list_any (λ m. has s m && p m) xs) || (p n && (nat_eq n x || has xs n))
    same e =
        ap (λ b. ((has s x || b) && p x) || (list_any (λ m. has s m && p m) xs || (p n && has xs n))) (eq-eqb x n (sym e))
        ∙ ap (λ b. ((has s x || true) && p x) || (list_any (λ m. has s m && p m) xs || (b && has xs n))) (ap p e)
        ∙ mixed (has s x) (p x) (list_any (λ m. has s m && p m) xs) (has xs n)
        ∙ ap (λ b. ((has s x && p x) || list_any (λ m. has s m && p m) xs) || (b && true)) (ap p (sym e))
        ∙ ap (λ b. ((has s x && p x) || list_any (λ m. has s m && p m) xs) || (p n && (b || has xs n))) (sym (eq-eqb n x e))

    other : n ≢ x → ((has s x || nat_eq x n) && p x) || (list_any (λ m. has s m && p m) xs || (p n && has xs n))
        ≡ ((has s x && p x) || list_any (λ m. has s m && p m) xs) || (p n && (nat_eq n x || has xs n))
    other ne =
        ap (λ b. ((has s x || b) && p x) || (list_any (λ m. has s m && p m) xs || (p n && has xs n))) (ne_eqb x n (λ e. ne (sym e)))
        ∙ plain (has s x) (p x) (list_any (λ m. has s m && p m) xs) (p n && has xs n)
        ∙ ap (λ b. ((has s x && p x) || list_any (λ m. has s m && p m) xs) || (p n && (b || has xs n))) (sym (ne_eqb n x ne))

-- what is in a list by how often it is
pub has-times : (xs : List ℕ) (n : ℕ) → has xs n ≡ not (eqb (times n xs) 0)
has-times [] n = refl
has-times (x ∷ xs) n = by (has-times xs n) (nat_eq n x) refl
  where
    one_more : (k : ℕ) → cond {A = ℕ} true 1 0 + k ≡ suc k
    one_more k = omega arith

    none_more : (k : ℕ) → cond {A = ℕ} false 1 0 + k ≡ k
    none_more k = omega arith

    positive : (k : ℕ) → true ≡ not (eqb (suc k) 0)
    positive k = sym (ap not (ne_eqb (suc k) 0 (λ e. absurd (omega arith))))

    by : has xs n ≡ not (eqb (times n xs) 0) → (b : Bool) → nat_eq n x ≡ b → has (x ∷ xs) n ≡ not (eqb (times n (x ∷ xs)) 0)
    by rest true e = ap (λ b. b || has xs n) e ∙ positive (times n xs)
        ∙ ap (λ k. not (eqb k 0)) (sym (times-cons n x xs ∙ ap (λ b. cond {A = ℕ} b 1 0 + times n xs) e ∙ one_more (times n xs)))
    by rest false e = ap (λ b. b || has xs n) e ∙ rest
        ∙ ap (λ k. not (eqb k 0)) (sym (times-cons n x xs ∙ ap (λ b. cond {A = ℕ} b 1 0 + times n xs) e ∙ none_more (times n xs)))

module _ (t : Tally) (n : ℕ) (settled : List ℕ) (ends : List (Option End)) (in_n : n < length t.counted) (was : IsTallied t settled ends) where
  pub counts_enough : has settled n ≡ false → (u : ℕ) → times u (row t.users n) ≤ slice_index t.missing.items u
  counts_enough fresh u =
      let users = was.users.counts u n in_n in
      let push = lacking-push settled n (row t.counted u) fresh in
      let is = was.missing u in
      omega arith

  pub hard_user : (u : ℕ) → has (row t.hard_users n) u ≡ has (row t.hard u) n
  hard_user u =
      has-times (row t.hard_users n) u ∙ ap (λ k. not (eqb k 0)) (was.hard_users.counts u n (let h = was.nodes in omega arith)) ∙ sym (has-times (row t.hard u) n)

  pub dooms_nodes : (u : ℕ) → has (row t.hard_users n) u ≡ true → u < length t.doomed.items
  dooms_nodes u h = ⊎_elim (λ lt. let k = was.nodes in let m = was.doomed_nodes in omega arith)
      (λ past. absurd (true≢false (sym h ∙ hard_user u ∙ ap (λ l. has l n) (get_or_past t.hard u [] past)))) (cases_lt u (length t.hard))

  pub IsTallied-count : (next : Tally) → next.counted ≡ t.counted → next.hard ≡ t.hard → next.users ≡ t.users → next.hard_users ≡ t.hard_users
      → length next.missing.items ≡ length t.missing.items → length next.doomed.items ≡ length t.doomed.items
      → ((u : ℕ) → slice_index next.missing.items u + times u (row t.users n) ≡ slice_index t.missing.items u)
      → ((u : ℕ) → slice_index_or next.doomed.items u false
      ≡ (slice_index_or t.doomed.items u false || (is_lost (slice_index_or ends n None) && has (row t.hard_users n) u)))
      → has settled n ≡ false → IsTallied next (settled ++ n ∷ []) ends
  IsTallied-count next counted hard users hard_users missing_length doomed_length missing doomed fresh = record {
    nodes = ap length hard ∙ was.nodes ∙ sym (ap length counted);
    users = subst (λ g. AreUsers g next.users) (sym counted) (subst (AreUsers t.counted) (sym users) was.users);
    hard_users = subst (λ g. AreUsers g next.hard_users) (sym hard) (subst (AreUsers t.hard) (sym hard_users) was.hard_users);
    once = λ u m. subst (λ g. times m (row g u) ≤ 1) (sym counted) (was.once u m);
    missing_nodes = missing_length ∙ was.missing_nodes ∙ sym (ap length counted);
    doomed_nodes = doomed_length ∙ was.doomed_nodes ∙ sym (ap length counted);
    missing = λ u. subst (λ g. slice_index next.missing.items u ≡ lacking (settled ++ n ∷ []) (row g u)) (sym counted)
        (let of_users = was.users.counts u n in_n in
        let push = lacking-push settled n (row t.counted u) fresh in
        let is = was.missing u in
        let now = missing u in
        omega arith);
    doomed = λ u. subst (λ g. slice_index_or next.doomed.items u false ≡ list_any (λ m. has (settled ++ n ∷ []) m && is_lost (slice_index_or ends m None)) (row g u)) (sym hard)
        (doomed u
        ∙ ap (λ b. b || (is_lost (slice_index_or ends n None) && has (row t.hard_users n) u)) (was.doomed u)
        ∙ ap (λ b. list_any (λ m. has settled m && is_lost (slice_index_or ends m None)) (row t.hard u) || (is_lost (slice_index_or ends n None) && b)) (hard_user u)
        ∙ sym (any-push (λ m. is_lost (slice_index_or ends m None)) settled n (row t.hard u)));
  }
