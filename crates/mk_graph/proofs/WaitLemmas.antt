-- Groups that wait, group by group, and rows that take more numbers.
use Rattle.std.proofs.Common.{append_assoc, ◌≡◌, ◌≢◌, ℕ, ◌+◌, ◌<◌, Bool, true, false, ◌&&◌, ◌||◌, nat_eq, List, [], ◌∷◌, ◌++◌, length, get_or, set, take, refl, sym, ap, ◌∙◌, ⊎_elim, eq-eqb, ne_eqb, get_or-set_same, get_or-set_other, append-nil}
use Rattle.std.proofs.lemmas.Bool.{cases_eq}
use Rattle.std.proofs.lemmas.Grind.{flat_map-append}
use Rattle.std.proofs.lemmas.List.Folds.{list_any-append}
use Rattle.mk_graph.specs.Edges.{row, has}
use Rattle.mk_graph.specs.Waits.{BeginWith, all_of, waits}
use Rattle.mk_graph.proofs.RowLemmas.{has-more}

pub has-append : (xs ys : List ℕ) (n : ℕ) → has (xs ++ ys) n ≡ (has xs n || has ys n)
has-append xs ys n = list_any-append (nat_eq n) xs ys

pub all_of-push : (groups : List (List ℕ)) (group : List ℕ) → all_of (groups ++ group ∷ []) ≡ all_of groups ++ group
all_of-push groups group = flat_map-append (λ g. g) groups (group ∷ []) ∙ ap (λ l. all_of groups ++ l) (append-nil group)

-- one more group: its nodes wait for all before
pub waits-push : (groups : List (List ℕ)) (group : List ℕ) (n m : ℕ) → waits (groups ++ group ∷ []) n m ≡ (waits groups n m || (has group n && has (all_of groups) m))
waits-push [] group n m = by (has group m) (has group n)
  where
    by : (a b : Bool) → ((a && false) || false) ≡ (false || (b && false))
    by true true = refl
    by true false = refl
    by false true = refl
    by false false = refl
waits-push (first ∷ groups) group n m =
    ap (λ b. (has first m && b) || waits (groups ++ group ∷ []) n m) (ap (λ l. has l n) (all_of-push groups group) ∙ has-append (all_of groups) group n)
    ∙ ap (λ b. (has first m && (has (all_of groups) n || has group n)) || b) (waits-push groups group n m)
    ∙ by (has first m) (has (all_of groups) n) (has group n) (waits groups n m) (has (all_of groups) m)
    ∙ ap (λ b. ((has first m && has (all_of groups) n) || waits groups n m) || (has group n && b)) (sym (has-append first (all_of groups) m))
  where
    by : (f a g w b : Bool) → ((f && (a || g)) || (w || (g && b))) ≡ (((f && a) || w) || (g && (f || b)))
    by true true g w b = refl
    by true false true true b = refl
    by true false true false b = refl
    by true false false true b = refl
    by true false false false b = refl
    by false a true true b = refl
    by false a true false b = refl
    by false a false true b = refl
    by false a false false b = refl

-- one more row that takes the numbers
module _ (base rows : List (List ℕ)) (nodes : List ℕ) (i : ℕ) (more : List ℕ) (within : i < length nodes) (place : get_or nodes i 0 < length rows)
    (so_far : (n m : ℕ) → has (row rows n) m ≡ (has (row base n) m || (has (take i nodes) n && has more m))) where
  pub row_added : (n m : ℕ) → has (row (set rows (get_or nodes i 0) (row rows (get_or nodes i 0) ++ more)) n) m ≡ (has (row base n) m || (has (take (i + 1) nodes) n && has more m))
  row_added n m = ⊎_elim same other (cases_eq n (get_or nodes i 0))
    where
      same : n ≡ get_or nodes i 0 → has (row (set rows (get_or nodes i 0) (row rows (get_or nodes i 0) ++ more)) n) m ≡ (has (row base n) m || (has (take (i + 1) nodes) n && has more m))
      same e =
          ap (λ l. has l m) (ap (row (set rows (get_or nodes i 0) (row rows (get_or nodes i 0) ++ more))) e
          ∙ get_or-set_same rows (get_or nodes i 0) (row rows (get_or nodes i 0) ++ more) [] place
          ∙ ap (λ k. row rows k ++ more) (sym e))
          ∙ has-append (row rows n) more m
          ∙ ap (λ b. b || has more m) (so_far n m)
          ∙ by (has (row base n) m) (has (take i nodes) n) (has more m)
          ∙ ap (λ b. has (row base n) m || (b && has more m)) (sym (has-more nodes i n within ∙ ap (λ b. has (take i nodes) n || b) (eq-eqb n (get_or nodes i 0) e)))
        where
          by : (b t h : Bool) → ((b || (t && h)) || h) ≡ (b || ((t || true) && h))
          by true t h = refl
          by false true true = refl
          by false true false = refl
          by false false h = refl

      other : n ≢ get_or nodes i 0 → has (row (set rows (get_or nodes i 0) (row rows (get_or nodes i 0) ++ more)) n) m ≡ (has (row base n) m || (has (take (i + 1) nodes) n && has more m))
      other apart =
          ap (λ l. has l m) (get_or-set_other rows (get_or nodes i 0) n (row rows (get_or nodes i 0) ++ more) [] apart)
          ∙ so_far n m
          ∙ ap (λ b. has (row base n) m || (b && has more m)) (sym (has-more nodes i n within ∙ ap (λ b. has (take i nodes) n || b) (ne_eqb n (get_or nodes i 0) apart) ∙ or_false (has (take i nodes) n)))
        where
          or_false : (b : Bool) → (b || false) ≡ b
          or_false true = refl
          or_false false = refl

-- rows that begin so
pub begin_same : (g : List (List ℕ)) → BeginWith g g
begin_same g n = ([], sym (append-nil (row g n)))

pub begin_through : (g more all : List (List ℕ)) → BeginWith g more → BeginWith more all → BeginWith g all
begin_through g more all first then n =
    ((first n).0 ++ (then n).0, (then n).1 ∙ ap (λ l. l ++ (then n).0) (first n).1 ∙ append_assoc (row g n) (first n).0 (then n).0)

-- one row that takes more numbers
module _ (rows : List (List ℕ)) (p : ℕ) (more : List ℕ) (place : p < length rows) where
  pub begin_added : BeginWith rows (set rows p (row rows p ++ more))
  begin_added n = ⊎_elim same other (cases_eq n p)
    where
      same : n ≡ p → (behind : List ℕ) × (row (set rows p (row rows p ++ more)) n ≡ row rows n ++ behind)
      same e = (more, ap (row (set rows p (row rows p ++ more))) e ∙ get_or-set_same rows p (row rows p ++ more) [] place ∙ ap (λ k. row rows k ++ more) (sym e))

      other : n ≢ p → (behind : List ℕ) × (row (set rows p (row rows p ++ more)) n ≡ row rows n ++ behind)
      other apart = ([], get_or-set_other rows p n (row rows p ++ more) [] apart ∙ sym (append-nil (row rows n)))
