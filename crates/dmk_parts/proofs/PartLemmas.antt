-- Goals that are cut into parts.
use Rattle.std.proofs.Common.{◌≡◌, ◌≢◌, ◌⊎◌, inl, inr, ◌∙◌, ℕ, List, [], ◌∷◌, ◌++◌, length, append_assoc, refl, sym, ap, subst, arith}
use Rattle.std.proofs.lemmas.List.{append-nil}
use Rattle.dmk_parts.specs.Parts.{AreParts, at_once, in_turn}

pub no_items : (xs : List (List (List ℕ))) → length xs ≡ 0 → xs ≡ []
no_items [] none = refl
no_items (x ∷ xs) none = absurd (omega (arith, none))

some_behind : (xs ys : List (List ℕ)) → ys ≢ [] → xs ++ ys ≢ []
some_behind [] ys some = some
some_behind (x ∷ xs) ys some = λ none. cc

some_before : (xs ys : List (List ℕ)) → xs ≢ [] → xs ++ ys ≢ []
some_before [] ys some = λ none. absurd (some refl)
some_before (x ∷ xs) ys some = λ none. cc

-- a part behind others
put_behind : {goals : List (List ℕ)} {parts : List (List (List ℕ))} (part : List (List ℕ)) → AreParts goals parts → goals ≢ [] → part ≢ [] →
    AreParts (goals ++ part) (parts ++ part ∷ [])
put_behind part (at_once goals) some more = in_turn goals part (part ∷ []) some more (at_once part)
put_behind part (in_turn first behind parts some_first some_more are) some more =
    subst (λ goals. AreParts goals (first ∷ (parts ++ part ∷ []))) (sym (append_assoc first behind part))
    (in_turn first (behind ++ part) (parts ++ part ∷ []) some_first (some_before behind part some_more) (put_behind part are some_more more))

no_parts : (goals : List (List ℕ)) → AreParts goals [] → ⊥
no_parts goals are = elim are [ ]

-- goals are cut so far: some are in parts, behind them stands one that isn't whole yet, and these are left
pub record AreCut (goals left : List (List ℕ)) (parts : List (List (List ℕ))) (part : List (List ℕ)) : Type 0 where
  pub done : List (List ℕ)
  pub whole : done ++ (part ++ left) ≡ goals
  pub so_far : ((parts ≡ []) × (done ≡ [])) ⊎ ((done ≢ []) × AreParts done parts)

pub one_cut : (goals left : List (List ℕ)) (goal : List ℕ) (parts : List (List (List ℕ))) (part : List (List ℕ)) → AreCut goals (goal ∷ left) parts part →
    AreCut goals left parts (part ++ goal ∷ [])
one_cut goals left goal parts part cut = record {
  done = cut.done;
  whole = ap (λ behind. cut.done ++ behind) (append_assoc part (goal ∷ []) left) ∙ cut.whole;
  so_far = cut.so_far;
}

part_behind : (done part : List (List ℕ)) (parts : List (List (List ℕ))) → part ≢ [] →
    ((parts ≡ []) × (done ≡ [])) ⊎ ((done ≢ []) × AreParts done parts) → AreParts (done ++ part) (parts ++ part ∷ [])
part_behind done part parts some (inl (none, nothing)) =
    subst (λ p. AreParts (done ++ part) (p ++ part ∷ [])) (sym none) (subst (λ d. AreParts (d ++ part) (part ∷ [])) (sym nothing) (at_once part))
part_behind done part parts some (inr (more, are)) = put_behind part are more some

pub part_cut : (goals left : List (List ℕ)) (parts : List (List (List ℕ))) (part : List (List ℕ)) → part ≢ [] → AreCut goals left parts part →
    AreCut goals left (parts ++ part ∷ []) []
part_cut goals left parts part some cut = record {
  done = cut.done ++ part;
  whole = append_assoc cut.done part left ∙ cut.whole;
  so_far = inr (some_behind cut.done part some, part_behind cut.done part parts some cut.so_far);
}

-- a goal ends a part
pub part_ended : (goals before left : List (List ℕ)) (goal : List ℕ) (parts more : List (List (List ℕ))) (part full next : List (List ℕ)) →
    before ≡ goal ∷ left → full ≡ part ++ goal ∷ [] → more ≡ parts ++ full ∷ [] → next ≡ [] → AreCut goals before parts part →
    AreCut goals left more next
part_ended goals before left goal parts more part full next is_left is_full is_more is_next cut =
    let some : full ≢ [] = subst (λ f. f ≢ []) (sym is_full) (some_behind part (goal ∷ []) (λ none. cc)) in
    subst (AreCut goals left more) (sym is_next)
    (subst (λ m. AreCut goals left m []) (sym is_more)
    (part_cut goals left parts full some
    (subst (AreCut goals left parts) (sym is_full)
    (one_cut goals left goal parts part (subst (λ l. AreCut goals l parts part) is_left cut)))))

pub last_cut : (goals : List (List ℕ)) (parts : List (List (List ℕ))) (part : List (List ℕ)) → (part ≢ []) ⊎ (parts ≡ []) → AreCut goals [] parts part →
    AreParts goals (parts ++ part ∷ [])
last_cut goals parts part (inl some) cut =
    subst (λ g. AreParts g (parts ++ part ∷ [])) (ap (λ p. cut.done ++ p) (sym (append-nil part)) ∙ cut.whole)
    (part_behind cut.done part parts some cut.so_far)
last_cut goals parts part (inr none) cut = elim cut.so_far [
  | inl nothing ↦
      subst (λ p. AreParts goals (p ++ part ∷ [])) (sym none)
      (subst (λ g. AreParts g (part ∷ []))
      (sym (append-nil part) ∙ ap (λ d. d ++ (part ++ [])) (sym nothing.1) ∙ cut.whole) (at_once part))
  | inr more ↦ absurd (no_parts cut.done (subst (AreParts cut.done) none more.1))
]
