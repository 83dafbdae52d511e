-- Lines that are cut, byte by byte; and such as have nothing at which they could be.
use Rattle.std.proofs.Common.{◌≡◌, ℕ, zero, suc, ◌+◌, ◌-◌, ◌<◌, Bool, true, false, cond, ◌||◌, ◌==◌, List, [], ◌∷◌, ◌++◌, refl, sym, ap, ◌∙◌, eqb-true, arith, append_assoc, append-nil, Option, Some, None}
use Rattle.std.specs.List.{list_any}
use Rattle.mk_lines.specs.Text.{is_hash, is_semicolon}
use Rattle.mk_lines.proofs.ReferenceLemmas.{or_false}
use Rattle.mk_statements.specs.Cut.{closed, in_brackets, behind_dollar, backslashes, Step, at_mark, place_behind, step, left_over, Cut, onto, behind_step, cut_from, cut, recipe_at}
use Rattle.mk_statements.specs.declared.place.Place.{Place}
use Rattle.mk_statements.specs.declared.place.Place.TheVariants.{Outside, Dollar, Within}

pub one_more : (left : ℕ) (text : List ℕ) → 0 < left → (text ++ 92 ∷ []) ++ backslashes (left - 1) ≡ text ++ backslashes left
one_more zero text h = absurd (omega (arith, h))
one_more (suc n) text h =
    let e : suc n - 1 ≡ n = omega arith in
    ap (λ k. (text ++ 92 ∷ []) ++ backslashes k) e ∙ append_assoc text (92 ∷ []) (backslashes n)

cut_with : List ℕ → Option (ℕ × List ℕ) → Cut
cut_with front behind = record { front = front; behind = behind }

onto_both : (old added : List ℕ) (c : Cut) → onto (old ++ added) c ≡ onto old (onto added c)
unfolding cut_with
onto_both old added c = ap (λ f. cut_with f c.behind) (append_assoc old added c.front)

-- what comes behind a byte that doesn't cut the line
went_on : (w : Step) (next : Place) (b : ℕ) (bs old new : List ℕ) (further : Place → Cut) → w.1 ≡ Some next → new ≡ old ++ w.0 →
    onto new (further next) ≡ onto old (behind_step w b bs further)
went_on (added, None) next b bs old new further e more = absurd (cc)
went_on (added, Some place) next b bs old new further e more =
    let same : next ≡ place = cc in
    ap (λ f. onto f (further next)) more ∙ ap (λ p. onto (old ++ added) (further p)) same ∙ onto_both old added (further place)

pub goes_on : (semicolons : Bool) (place next : Place) (b : ℕ) (bs old new : List ℕ) → new ≡ old ++ (step semicolons place b).0 →
    Some next ≡ (step semicolons place b).1 → onto new (cut_from semicolons next bs) ≡ onto old (cut_from semicolons place (b ∷ bs))
goes_on semicolons place next b bs old new more e =
    went_on (step semicolons place b) next b bs old new (λ n. cut_from semicolons n bs) (sym e) more

stopped : (w : Step) (b : ℕ) (bs old new : List ℕ) (further : Place → Cut) → w.1 ≡ None → new ≡ old ++ w.0 →
    cut_with new (Some (b, bs)) ≡ onto old (behind_step w b bs further)
unfolding cut_with
stopped (added, None) b bs old new further e more = ap (λ f. cut_with f (Some (b, bs))) more
stopped (added, Some place) b bs old new further e more = absurd (cc)

-- the line is cut at this byte
pub stops : (semicolons : Bool) (place : Place) (b : ℕ) (bs old new : List ℕ) → new ≡ old ++ (step semicolons place b).0 →
    None ≡ (step semicolons place b).1 → record { front = new; behind = Some (b, bs) } ≡ onto old (cut_from semicolons place (b ∷ bs))
unfolding cut_with
stops semicolons place b bs old new more e = stopped (step semicolons place b) b bs old new (λ n. cut_from semicolons n bs) (sym e) more

-- Lines without a `#`

slashes_more : (run : ℕ) (bs : List ℕ) → backslashes (run + 1) ++ bs ≡ backslashes run ++ 92 ∷ bs
slashes_more zero bs = refl
slashes_more (suc run) bs =
    let e : suc run + 1 ≡ suc (run + 1) = omega arith in
    ap (λ k. backslashes k ++ bs) e ∙ ap (λ t. 92 ∷ t) (slashes_more run bs)

nothing_left : (opening close depth b : ℕ) → left_over (in_brackets opening close depth b) ≡ []
nothing_left opening close depth b = by_both (b == opening) (b == close)
  where
    closed_left : (depth : ℕ) → left_over (closed opening close depth) ≡ []
    closed_left zero = refl
    closed_left (suc depth) = refl

    by_both : (t u : Bool) → left_over (cond t (Within opening close (depth + 1)) (cond u (closed opening close depth) (Within opening close depth))) ≡ []
    by_both true u = refl
    by_both false true = closed_left depth
    by_both false false = refl

place_left : (b : ℕ) → left_over (place_behind b) ≡ []
place_left b = elim (b == 36) as (λ t. left_over (cond t Dollar (Outside 0)) ≡ []) [ true ↦ refl | false ↦ refl ]

-- a step that takes a byte as it stands leaves the text as it is
abbrev Stands : Place → (b : ℕ) → Step → Type 0
Stands place b (added, None) = ⊥
Stands place b (added, Some next) = (bs : List ℕ) → added ++ (left_over next ++ bs) ≡ left_over place ++ b ∷ bs

stands_outside : (t u : Bool) (run b : ℕ) → (b == 92) ≡ t → u ≡ false →
    Stands (Outside run) b (cond t ([], Some (Outside (run + 1))) (cond u (at_mark run b) (backslashes run ++ b ∷ [], Some (place_behind b))))
stands_outside true u run b e f = λ bs. slashes_more run bs ∙ ap (λ x. backslashes run ++ x ∷ bs) (sym (eqb-true b 92 e))
stands_outside false true run b e f = absurd (cc)
stands_outside false false run b e f = λ bs.
    ap (λ l. (backslashes run ++ b ∷ []) ++ (l ++ bs)) (place_left b) ∙ append_assoc (backslashes run) (b ∷ []) bs

stands_dollar : (t u v : Bool) (b : ℕ) → (b == 92) ≡ v →
    Stands Dollar b (cond v ([], Some (Outside 1)) (b ∷ [], Some (cond t (Within 40 41 0) (cond u (Within 123 125 0) (cond v (Outside 1) (Outside 0))))))
stands_dollar t u true b e = λ bs. ap (λ x. x ∷ bs) (sym (eqb-true b 92 e))
stands_dollar true u false b e = λ bs. refl
stands_dollar false true false b e = λ bs. refl
stands_dollar false false false b e = λ bs. refl

stands : (place : Place) (b : ℕ) → (b == 35) ≡ false → Stands place b (step false place b)
stands (Outside run) b e = stands_outside (b == 92) (b == 35 || false) run b refl (ap (λ t. t || false) e)
stands Dollar b e = stands_dollar (b == 40) (b == 123) (b == 92) b refl
stands (Within opening close depth) b e = λ bs. ap (λ l. (b ∷ []) ++ (l ++ bs)) (nothing_left opening close depth b)

uncut_behind : (w : Step) (place : Place) (b : ℕ) (bs : List ℕ) (further : Place → Cut) → Stands place b w →
    ((next : Place) → further next ≡ cut_with (left_over next ++ bs) None) → behind_step w b bs further ≡ cut_with (left_over place ++ b ∷ bs) None
unfolding cut_with
uncut_behind (added, None) place b bs further is same = absurd is
uncut_behind (added, Some next) place b bs further is same = ap (onto added) (same next) ∙ ap (λ f. cut_with f None) (is bs)

uncut : (place : Place) (text : List ℕ) → list_any is_hash text ≡ false → cut_from false place text ≡ cut_with (left_over place ++ text) None
unfolding cut_with
uncut place [] h = ap (λ f. cut_with f None) (sym (append-nil (left_over place)))
uncut place (b ∷ bs) h =
    let parts = or_false (b == 35) (list_any is_hash bs) h in
    uncut_behind (step false place b) place b bs (λ n. cut_from false n bs) (stands place b parts.0) (λ next. uncut next bs parts.1)

pub whole : (text : List ℕ) → list_any is_hash text ≡ false → (cut false text).front ≡ text
unfolding cut_with
whole text h = ap (λ (c : Cut). c.front) (uncut (Outside 0) text h)

-- Lines without a `;`

step_same : (place : Place) (b : ℕ) → (b == 59) ≡ false → step true place b ≡ step false place b
step_same (Outside run) b e =
    ap (λ t. cond (b == 92) ([], Some (Outside (run + 1))) (cond (b == 35 || t) (at_mark run b) (backslashes run ++ b ∷ [], Some (place_behind b)))) e
step_same Dollar b e = refl
step_same (Within opening close depth) b e = refl

further_same : (w : Step) (b : ℕ) (bs : List ℕ) (one other : Place → Cut) → ((next : Place) → one next ≡ other next) → behind_step w b bs one ≡ behind_step w b bs other
further_same (added, None) b bs one other same = refl
further_same (added, Some next) b bs one other same = ap (onto added) (same next)

same_from : (place : Place) (text : List ℕ) → list_any is_semicolon text ≡ false → cut_from true place text ≡ cut_from false place text
same_from place [] h = refl
same_from place (b ∷ bs) h =
    let parts = or_false (b == 59) (list_any is_semicolon bs) h in
    ap (λ w. behind_step w b bs (λ n. cut_from true n bs)) (step_same place b parts.0)
    ∙ further_same (step false place b) b bs (λ n. cut_from true n bs) (λ n. cut_from false n bs) (λ next. same_from next bs parts.1)

pub same_cut : (text : List ℕ) → list_any is_semicolon text ≡ false → (cut true text).front ≡ (cut false text).front
same_cut text h = ap (λ (c : Cut). c.front) (same_from (Outside 0) text h)

at_hash : (t u : Bool) (run b : ℕ) → (b == 92) ≡ t → (b == 35) ≡ u →
    (cond t ([], Some (Outside (run + 1))) (cond (u || false) (at_mark run b) (backslashes run ++ b ∷ [], Some (place_behind b)))).1 ≡ None → (b == 59) ≡ false
at_hash true u run b e f h = absurd (cc)
at_hash false true run b e f h = ap (λ x. x == 59) (eqb-true b 35 f)
at_hash false false run b e f h = absurd (cc)

at_dollar : (t : Bool) (b : ℕ) → (let w : Step = cond t ([], Some (Outside 1)) (b ∷ [], Some (behind_dollar b)) in w).1 ≡ None → (b == 59) ≡ false
at_dollar true b h = absurd (cc)
at_dollar false b h = absurd (cc)

stops_at : (place : Place) (b : ℕ) → (step false place b).1 ≡ None → (b == 59) ≡ false
stops_at (Outside run) b h = at_hash (b == 92) (b == 35) run b refl refl h
stops_at Dollar b h = at_dollar (b == 92) b h
stops_at (Within opening close depth) b h = absurd (cc)

none_behind : (w : Step) (b : ℕ) (bs : List ℕ) (further : Place → Cut) → (w.1 ≡ None → (b == 59) ≡ false) →
    ((next : Place) → recipe_at (further next).behind ≡ None) → recipe_at (behind_step w b bs further).behind ≡ None
none_behind (added, None) b bs further at none = ap (λ t. cond t (Some bs) None) (at refl)
none_behind (added, Some next) b bs further at none = none next

no_recipe_from : (place : Place) (text : List ℕ) → recipe_at (cut_from false place text).behind ≡ None
no_recipe_from place [] = refl
no_recipe_from place (b ∷ bs) =
    none_behind (step false place b) b bs (λ n. cut_from false n bs) (stops_at place b) (λ next. no_recipe_from next bs)

pub no_recipe : (text : List ℕ) → list_any is_semicolon text ≡ false → recipe_at (cut true text).behind ≡ None
no_recipe text h = ap (λ (c : Cut). recipe_at c.behind) (same_from (Outside 0) text h) ∙ no_recipe_from (Outside 0) text
