-- Names put in order, one by one.
use Rattle.std.proofs.Common.{◌≡◌, ℕ, true, cond, List, [], ◌∷◌, map, filter, refl, sym, ap, ◌∙◌, Vec}
use Rattle.std.specs.declared.alloc.Global.{Global}
use Rattle.std.specs.declared.cmp.Ordering.{Ordering}
use Rattle.std.specs.declared.cmp.Ordering.TheVariants.{Less, Equal, Greater}
use Rattle.std.specs.Ordering.{nat_cmp, match_ordering}
use Rattle.std.specs.Cmp.Lexicographic.{slice_cmp}
use Rattle.std.specs.BTreeSet.{insert_key}
use Rattle.mk_wildcards.specs.Found.{is_word, ordered_behind}

abbrev pub bytes_of : Vec ℕ Global → List ℕ
bytes_of v = v.items

abbrev pub by_bytes : Vec ℕ Global → Vec ℕ Global → Ordering
by_bytes a b = slice_cmp nat_cmp a.items b.items

insert_step : (o : Ordering) (x k : Vec ℕ Global) (xs inserted : List (Vec ℕ Global)) →
    map bytes_of (match_ordering o (k ∷ x ∷ xs) (x ∷ xs) (x ∷ inserted)) ≡ match_ordering o (k.items ∷ x.items ∷ map bytes_of xs) (x.items ∷ map bytes_of xs) (x.items ∷ map bytes_of inserted)
insert_step Less x k xs inserted = refl
insert_step Equal x k xs inserted = refl
insert_step Greater x k xs inserted = refl

pub bytes_inserted : (ks : List (Vec ℕ Global)) (k : Vec ℕ Global) → map bytes_of (insert_key by_bytes ks k) ≡ insert_key (slice_cmp nat_cmp) (map bytes_of ks) k.items
bytes_inserted [] k = refl
bytes_inserted (x ∷ xs) k =
    insert_step (by_bytes k x) x k xs (insert_key by_bytes xs k)
    ∙ ap (λ ys. match_ordering (by_bytes k x) (k.items ∷ x.items ∷ map bytes_of xs) (x.items ∷ map bytes_of xs) (x.items ∷ ys)) (bytes_inserted xs k)

-- a name more that is a word, and one that is none
pub word_ordered : (ks new : List (Vec ℕ Global)) (k : Vec ℕ Global) (name : List ℕ) (left more all : List (List ℕ)) → left ≡ name ∷ more → is_word name ≡ true → k.items ≡ name →
    new ≡ insert_key by_bytes ks k → ordered_behind (map bytes_of ks) (filter is_word left) ≡ all → ordered_behind (map bytes_of new) (filter is_word more) ≡ all
word_ordered ks new k name left more all at word is e gathered =
    ap (λ ys. ordered_behind ys (filter is_word more)) (ap (map bytes_of) e ∙ bytes_inserted ks k ∙ ap (insert_key (slice_cmp nat_cmp) (map bytes_of ks)) is)
    ∙ ap (λ t. ordered_behind (map bytes_of ks) (cond t (name ∷ filter is_word more) (filter is_word more))) (sym word)
    ∙ ap (λ ns. ordered_behind (map bytes_of ks) (filter is_word ns)) (sym at) ∙ gathered
