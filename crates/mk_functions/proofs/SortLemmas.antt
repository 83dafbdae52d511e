-- Words put in order are a sort.
use Rattle.std.proofs.Common.{◌≡◌, ℕ, ◌||◌, Bool, true, false, List, [], ◌∷◌, refl, sym, ap, ◌∙◌, bytes_eq}
use Rattle.std.specs.declared.cmp.Ordering.{Ordering}
use Rattle.std.specs.declared.cmp.Ordering.TheVariants.{Less, Equal, Greater}
use Rattle.std.specs.Ordering.{nat_cmp, ordering_reverse, is_eq}
use Rattle.std.specs.List.{AllByRecursion}
use Rattle.std.specs.List.Sorted.{IsStrictlySortedBy}
use Rattle.std.specs.Cmp.Lexicographic.{slice_cmp}
use Rattle.std.proofs.lemmas.Cmp.{nat_list_cmp_total}
use Rattle.std.proofs.lemmas.Map.Text.{is_eq-slice_cmp}
use Rattle.std.proofs.lemmas.Slice.Eq.{bytes_eq-Decides}
use Rattle.mk_words.specs.Sorted.{is_among, IsSortOf}
use Rattle.mk_functions.specs.Values.{placed_by, placed, sorted_words}

all_by : (P : List ℕ → Type 0) (word w : List ℕ) (ws rest : List (List ℕ)) → P word → AllByRecursion P (w ∷ ws) → AllByRecursion P rest → (o : Ordering) →
    AllByRecursion P (placed_by o word w ws rest)
all_by P word w ws rest h all more Less = (h, all)
all_by P word w ws rest h all more Equal = all
all_by P word w ws rest h all more Greater = (all.0, more)

-- what holds of a word and of others holds where it is put among them
all_placed : (P : List ℕ → Type 0) (word : List ℕ) (ws : List (List ℕ)) → P word → AllByRecursion P ws → AllByRecursion P (placed word ws)
all_placed P word [] h all = (h, tt)
all_placed P word (w ∷ ws) h all = all_by P word w ws (placed word ws) h all (all_placed P word ws h all.1) (slice_cmp nat_cmp word w)

below_all : (word w : List ℕ) (ws : List (List ℕ)) → slice_cmp nat_cmp word w ≡ Less → AllByRecursion (λ y. slice_cmp nat_cmp w y ≡ Less) ws →
    AllByRecursion (λ y. slice_cmp nat_cmp word y ≡ Less) ws
below_all word w [] e all = tt
below_all word w (v ∷ ws) e all = (nat_list_cmp_total.trans word w v e all.0, below_all word w ws e all.1)

flipped : (word w : List ℕ) → slice_cmp nat_cmp word w ≡ Greater → slice_cmp nat_cmp w word ≡ Less
flipped word w e = nat_list_cmp_total.antisymm w word ∙ ap ordering_reverse e

order_by : (word w : List ℕ) (ws rest : List (List ℕ)) → IsStrictlySortedBy (slice_cmp nat_cmp) (w ∷ ws) → IsStrictlySortedBy (slice_cmp nat_cmp) rest →
    (slice_cmp nat_cmp word w ≡ Greater → AllByRecursion (λ y. slice_cmp nat_cmp w y ≡ Less) rest) → (o : Ordering) → slice_cmp nat_cmp word w ≡ o →
    IsStrictlySortedBy (slice_cmp nat_cmp) (placed_by o word w ws rest)
unfolding IsStrictlySortedBy
order_by word w ws rest h more above Less e = ((e, below_all word w ws e h.0), h)
order_by word w ws rest h more above Equal e = h
order_by word w ws rest h more above Greater e = (above e, more)

placed-order : (word : List ℕ) (ws : List (List ℕ)) → IsStrictlySortedBy (slice_cmp nat_cmp) ws → IsStrictlySortedBy (slice_cmp nat_cmp) (placed word ws)
unfolding IsStrictlySortedBy
placed-order word [] h = (tt, tt)
placed-order word (w ∷ ws) h =
    order_by word w ws (placed word ws) h (placed-order word ws h.1)
    (λ e. all_placed (λ y. slice_cmp nat_cmp w y ≡ Less) word ws (flipped word w e) h.0) (slice_cmp nat_cmp word w) refl

or_twice : (a b : Bool) → (a || b) ≡ (a || (a || b))
or_twice true b = refl
or_twice false b = refl

or_swap : (a b c : Bool) → (a || (b || c)) ≡ (b || (a || c))
or_swap true true c = refl
or_swap true false c = refl
or_swap false b c = refl

equal_words : (word w : List ℕ) → slice_cmp nat_cmp word w ≡ Equal → word ≡ w
equal_words word w e = (bytes_eq-Decides word w).0 (sym (is_eq-slice_cmp word w) ∙ ap is_eq e)

among_by : (word w x : List ℕ) (ws rest : List (List ℕ)) → is_among rest x ≡ (bytes_eq x word || is_among ws x) → (o : Ordering) → slice_cmp nat_cmp word w ≡ o →
    is_among (placed_by o word w ws rest) x ≡ (bytes_eq x word || is_among (w ∷ ws) x)
among_by word w x ws rest more Less e = refl
among_by word w x ws rest more Equal e =
    or_twice (bytes_eq x w) (is_among ws x) ∙ ap (λ v. bytes_eq x v || (bytes_eq x w || is_among ws x)) (sym (equal_words word w e))
among_by word w x ws rest more Greater e = ap (λ b. bytes_eq x w || b) more ∙ or_swap (bytes_eq x w) (bytes_eq x word) (is_among ws x)

among_placed : (word x : List ℕ) (ws : List (List ℕ)) → is_among (placed word ws) x ≡ (bytes_eq x word || is_among ws x)
among_placed word x [] = refl
among_placed word x (w ∷ ws) = among_by word w x ws (placed word ws) (among_placed word x ws) (slice_cmp nat_cmp word w) refl

sorted-order : (ws : List (List ℕ)) → IsStrictlySortedBy (slice_cmp nat_cmp) (sorted_words ws)
unfolding IsStrictlySortedBy
sorted-order [] = tt
sorted-order (w ∷ ws) = placed-order w (sorted_words ws) (sorted-order ws)

sorted-among : (ws : List (List ℕ)) (x : List ℕ) → is_among (sorted_words ws) x ≡ is_among ws x
sorted-among [] x = refl
sorted-among (w ∷ ws) x = among_placed w x (sorted_words ws) ∙ ap (λ b. bytes_eq x w || b) (sorted-among ws x)

pub sorts : (ws : List (List ℕ)) → IsSortOf ws (sorted_words ws)
sorts ws = record { in_order = sorted-order ws; same_words = sorted-among ws }
