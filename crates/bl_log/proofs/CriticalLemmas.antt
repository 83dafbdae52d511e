-- Paths, and the greatest sums of those that end with a recipe.
use Rattle.std.proofs.Common.{◌≡◌, ◌∙◌, ◌+◌, ◌<◌, ◌≤◌, ◌⊎◌, ℕ, List, [], ◌∷◌, ◌++◌, Option, None, Some, length, get_or, ap, sym, subst, inl, inr, ⊎_elim, append_assoc, append-nil, length-append, arith}
use Rattle.std.proofs.Math.ListN.{get_or-append}
use Rattle.std.proofs.Math.Seq.{get_or-append_seam}
use Rattle.std.proofs.lemmas.Bool.{cases_lt}
use Rattle.std.proofs.lemmas.List.Sums.{sum_by-append}
use Rattle.std.specs.Prelude.{IfSome, MatchOption}
use Rattle.mk_graph.specs.Edges.{row}
use Rattle.bl_log.specs.declared.span.Span.{Span}
use Rattle.bl_log.specs.Spans.{begin_of, end_of, time_of}
use Rattle.bl_log.specs.Critical.{Precedes, LeadsFrom, IsPathFrom, IsPath, path_time}
use Rattle.bl_log.specs.Reached.{IsLast, IsReached, AreReached}

-- ---- the last prerequisite

-- with a greatest sum among all that lead to a recipe
pub last_is_greatest : (spans : List Span) (named sums : List ℕ) (recipe last : ℕ) → IsLast spans named sums recipe (length named) (Some last)
    → (first : ℕ) → LeadsFrom spans named first recipe → get_or sums first 0 ≤ get_or sums last 0
last_is_greatest spans named sums recipe last is first leads =
    let k = leads.is_named.0 in
    let named_so = leads.is_named.2 in
    subst (λ n. get_or sums n 0 ≤ get_or sums last 0) named_so
    (is.1 k leads.is_named.1 (subst (λ n. Precedes spans n recipe) (sym named_so) leads.precedes))

-- none leads to it
pub none_leads : (spans : List Span) (named sums : List ℕ) (recipe : ℕ) → IsLast spans named sums recipe (length named) None
    → (first : ℕ) → LeadsFrom spans named first recipe → ⊥
none_leads spans named sums recipe is first leads =
    is leads.is_named.0 leads.is_named.1 (subst (λ n. Precedes spans n recipe) (sym leads.is_named.2) leads.precedes)

-- ---- one sum more

-- what a recipe's sum is made from: that of the last prerequisite, if there is one
abbrev pub SumsTo : List Span → (named sums : List ℕ) → (recipe : ℕ) → Option ℕ → (sum : ℕ) → Type 0
SumsTo spans named sums recipe None sum = sum ≡ time_of spans recipe
SumsTo spans named sums recipe (Some last) sum = sum ≡ get_or sums last 0 + time_of spans recipe

old_sum : (sums : List ℕ) (sum count i : ℕ) → length sums ≡ count → i < count → get_or (sums ++ sum ∷ []) i 0 ≡ get_or sums i 0
old_sum sums sum count i each h = let k : i < length sums = omega arith in get_or-append sums (sum ∷ []) 0 i k

new_sum : (sums : List ℕ) (sum count : ℕ) → length sums ≡ count → get_or (sums ++ sum ∷ []) count 0 ≡ sum
new_sum sums sum count each = subst (λ n. get_or (sums ++ sum ∷ []) n 0 ≡ sum) each (get_or-append_seam sums sum [] 0)

still_reached : (spans : List Span) (prerequisites : List (List ℕ)) (sums : List ℕ) (sum count recipe : ℕ) → length sums ≡ count → recipe < count
    → IsReached spans prerequisites sums recipe → IsReached spans prerequisites (sums ++ sum ∷ []) recipe
still_reached spans prerequisites sums sum count recipe each h r =
    let all = sums ++ sum ∷ [] in
    let here : get_or all recipe 0 ≡ get_or sums recipe 0 = old_sum sums sum count recipe each h in
    record {
      within = subst (λ n. n ≤ end_of spans recipe) (sym here) r.within;
      own = subst (λ n. time_of spans recipe ≤ n) (sym here) r.own;
      over = λ first leads.
          let k : first < count = let b : first < recipe = leads.precedes.before in omega arith in
          let there : get_or all first 0 ≡ get_or sums first 0 = old_sum sums sum count first each k in
          let old = r.over first leads in
          omega arith;
      by =
          ⊎_elim
          (λ own. inl (here ∙ own))
          (λ w.
          let k : w.0 < count = let b : w.0 < recipe = w.1.precedes.before in omega arith in
          inr (w.0, w.1, here ∙ w.2 ∙ ap (λ n. n + time_of spans recipe) (sym (old_sum sums sum count w.0 each k))))
          r.by;
    }

-- the sum of the recipe behind those that have theirs
now_reached : (spans : List Span) (prerequisites : List (List ℕ)) (sums : List ℕ) (sum count : ℕ) → AreReached spans prerequisites sums count
    → begin_of spans count + time_of spans count ≡ end_of spans count → (last : Option ℕ)
    → IsLast spans (row prerequisites count) sums count (length (row prerequisites count)) last
    → SumsTo spans (row prerequisites count) sums count last sum → IsReached spans prerequisites (sums ++ sum ∷ []) count
now_reached spans prerequisites sums sum count r forward None is made =
    let here : get_or (sums ++ sum ∷ []) count 0 ≡ sum = new_sum sums sum count r.each in
    record {
      within = omega arith;
      own = omega arith;
      over = λ first leads. absurd (none_leads spans (row prerequisites count) sums count is first leads);
      by = inl (here ∙ made);
    }
now_reached spans prerequisites sums sum count r forward (Some last) is made =
    let all = sums ++ sum ∷ [] in
    let here : get_or all count 0 ≡ sum = new_sum sums sum count r.each in
    let k : last < count = is.0.precedes.before in
    let there : get_or all last 0 ≡ get_or sums last 0 = old_sum sums sum count last r.each k in
    let ended : end_of spans last ≤ begin_of spans count = is.0.precedes.ended in
    let within : get_or sums last 0 ≤ end_of spans last = (r.all last k).within in
    record {
      within = omega arith;
      own = omega arith;
      over = λ first leads.
          let b : first < count = leads.precedes.before in
          let there : get_or all first 0 ≡ get_or sums first 0 = old_sum sums sum count first r.each b in
          let less : get_or sums first 0 ≤ get_or sums last 0 = last_is_greatest spans (row prerequisites count) sums count last is first leads in
          omega arith;
      by = inr (last, is.0, here ∙ made ∙ ap (λ n. n + time_of spans count) (sym there));
    }

pub reached_more : (spans : List Span) (prerequisites : List (List ℕ)) (sums : List ℕ) (sum count : ℕ) → AreReached spans prerequisites sums count
    → begin_of spans count + time_of spans count ≡ end_of spans count → (last : Option ℕ)
    → IsLast spans (row prerequisites count) sums count (length (row prerequisites count)) last
    → SumsTo spans (row prerequisites count) sums count last sum → AreReached spans prerequisites (sums ++ sum ∷ []) (count + 1)
reached_more spans prerequisites sums sum count r forward last is made = record {
  each = simp length-append (omega (arith, r.each));
  all = λ recipe h.
      ⊎_elim
      (λ old. still_reached spans prerequisites sums sum count recipe r.each old (r.all recipe old))
      (λ past.
      let e : recipe ≡ count = omega arith in
      subst (λ n. IsReached spans prerequisites (sums ++ sum ∷ []) n) (sym e) (now_reached spans prerequisites sums sum count r forward last is made))
      (cases_lt recipe count);
}

-- ---- no path is longer

pub path_within : (spans : List Span) (prerequisites : List (List ℕ)) (sums : List ℕ) → AreReached spans prerequisites sums (length spans)
    → (recipe : ℕ) (rest : List ℕ) → recipe < length spans → IsPathFrom spans prerequisites recipe rest → path_time spans (recipe ∷ rest) ≤ get_or sums recipe 0
path_within spans prerequisites sums r recipe [] h is = let own : time_of spans recipe ≤ get_or sums recipe 0 = (r.all recipe h).own in omega arith
path_within spans prerequisites sums r recipe (first ∷ rest) h is =
    let k : first < length spans = let b : first < recipe = is.0.precedes.before in omega arith in
    let more : path_time spans (first ∷ rest) ≤ get_or sums first 0 = path_within spans prerequisites sums r first rest k is.1 in
    let over : get_or sums first 0 + time_of spans recipe ≤ get_or sums recipe 0 = (r.all recipe h).over first is.0 in
    let step : path_time spans (recipe ∷ first ∷ rest) ≡ path_time spans (recipe ∷ []) + path_time spans (first ∷ rest) = sum_by-append (time_of spans) (recipe ∷ []) (first ∷ rest) in
    let one : path_time spans (recipe ∷ []) ≡ time_of spans recipe = omega arith in
    omega arith

pub greatest_of_all : (spans : List Span) (prerequisites : List (List ℕ)) (sums : List ℕ) → AreReached spans prerequisites sums (length spans) → (last : ℕ)
    → ((k : ℕ) → k < length sums → get_or sums k 0 ≤ get_or sums last 0) → (other : List ℕ) → IsPath spans prerequisites other → path_time spans other ≤ get_or sums last 0
greatest_of_all spans prerequisites sums r last most [] is = omega arith
greatest_of_all spans prerequisites sums r last most (recipe ∷ rest) is =
    let k : recipe < length sums = let h : recipe < length spans = is.0 in omega (arith, r.each) in
    let less : get_or sums recipe 0 ≤ get_or sums last 0 = most recipe k in
    let path : path_time spans (recipe ∷ rest) ≤ get_or sums recipe 0 = path_within spans prerequisites sums r recipe rest is.0 is.1 in
    omega arith

-- without recipes there is no path but that of none
pub no_recipes : (spans : List Span) (prerequisites : List (List ℕ)) → length spans ≡ 0 → (other : List ℕ) → IsPath spans prerequisites other → path_time spans other ≤ 0
no_recipes spans prerequisites none [] is = omega arith
no_recipes spans prerequisites none (recipe ∷ rest) is = let h : recipe < length spans = is.0 in absurd (omega arith)

-- ---- the path back

-- so far the path is whole, whatever path is put behind its first recipe, and that one's sum is what is left of the sum
pub record IsTraced (spans : List Span) (prerequisites : List (List ℕ)) (sums path : List ℕ) (last first : ℕ) : Type 0 where
  pub here : first < length spans
  pub whole : (rest : List ℕ) → IsPathFrom spans prerequisites first rest → IsPath spans prerequisites (path ++ rest)
  pub left : path_time spans path + get_or sums first 0 ≡ get_or sums last 0 + time_of spans first

-- where some lead to a recipe its sum is that of the last prerequisite and its own time
pub sum_by_last : (spans : List Span) (prerequisites : List (List ℕ)) (sums : List ℕ) (recipe last : ℕ) → IsReached spans prerequisites sums recipe
    → IsLast spans (row prerequisites recipe) sums recipe (length (row prerequisites recipe)) (Some last)
    → get_or sums recipe 0 ≡ get_or sums last 0 + time_of spans recipe
sum_by_last spans prerequisites sums recipe last r is =
    let over : get_or sums last 0 + time_of spans recipe ≤ get_or sums recipe 0 = r.over last is.0 in
    ⊎_elim
    (λ (own : get_or sums recipe 0 ≡ time_of spans recipe). omega arith)
    (λ w.
    let sum : get_or sums recipe 0 ≡ get_or sums w.0 0 + time_of spans recipe = w.2 in
    let less : get_or sums w.0 0 ≤ get_or sums last 0 = last_is_greatest spans (row prerequisites recipe) sums recipe last is w.0 w.1 in
    omega arith)
    r.by

pub traced_more : (spans : List Span) (prerequisites : List (List ℕ)) (sums path : List ℕ) (last first before : ℕ)
    → AreReached spans prerequisites sums (length spans) → IsTraced spans prerequisites sums path last first
    → IsLast spans (row prerequisites first) sums first (length (row prerequisites first)) (Some before)
    → IsTraced spans prerequisites sums (path ++ before ∷ []) last before
traced_more spans prerequisites sums path last first before r t is =
    let b : before < first = is.0.precedes.before in
    let h : first < length spans = t.here in
    let sum : get_or sums first 0 ≡ get_or sums before 0 + time_of spans first = sum_by_last spans prerequisites sums first before (r.all first h) is in
    let more : path_time spans (path ++ before ∷ []) ≡ path_time spans path + path_time spans (before ∷ []) = sum_by-append (time_of spans) path (before ∷ []) in
    let one : path_time spans (before ∷ []) ≡ time_of spans before = omega arith in
    let left : path_time spans path + get_or sums first 0 ≡ get_or sums last 0 + time_of spans first = t.left in
    record {
      here = omega arith;
      whole = λ rest from. subst (IsPath spans prerequisites) (sym (append_assoc path (before ∷ []) rest)) (t.whole (before ∷ rest) (is.0, from));
      left = omega arith;
    }

pub traced_path : (spans : List Span) (prerequisites : List (List ℕ)) (sums path : List ℕ) (last first : ℕ) → IsTraced spans prerequisites sums path last first
    → IsPath spans prerequisites path
traced_path spans prerequisites sums path last first t = subst (IsPath spans prerequisites) (append-nil path) (t.whole [] tt)

-- ---- one name more

pub last_known : (spans : List Span) (named sums : List ℕ) (recipe count : ℕ) (last : Option ℕ) → recipe ≤ length sums
    → IsLast spans named sums recipe count last → IfSome last (λ f. f < length sums)
last_known spans named sums recipe count None room is = tt
last_known spans named sums recipe count (Some f) room is = let b : f < recipe = is.0.precedes.before in omega arith

-- ---- the sum that comes before

abbrev pub IsBefore : (sums : List ℕ) → Option ℕ → (before : ℕ) → Type 0
IsBefore sums None before = before ≡ 0
IsBefore sums (Some last) before = before ≡ get_or sums last 0

pub sums_to : (spans : List Span) (named sums : List ℕ) (recipe : ℕ) (last : Option ℕ) (before sum : ℕ) → IsBefore sums last before
    → sum ≡ before + time_of spans recipe → SumsTo spans named sums recipe last sum
sums_to spans named sums recipe None before sum at is = omega arith
sums_to spans named sums recipe (Some last) before sum at is = omega arith

pub as_before : (sums : List ℕ) (last : Option ℕ) (before : ℕ) → MatchOption last (before ≡ 0) (λ l. before ≡ get_or sums l 0) → IsBefore sums last before
as_before sums None before at = at
as_before sums (Some last) before at = at
