-- Names at their first mention, found one by one.
use Rattle.std.proofs.Common.{◌≡◌, ◌∙◌, ℕ, ◌+◌, ◌<◌, ◌≤◌, Bool, true, false, cond, not, ◌&&◌, ◌||◌, List, [], ◌∷◌, ◌++◌, length, filter, refl, sym, ap, subst, arith, append_assoc, length-append}
use Rattle.std.specs.Prelude.{bytes_eq}
use Rattle.std.specs.List.{list_any}
use Rattle.std.specs.Cmp.Lexicographic.{bytes_decides}
use Rattle.st_records.specs.declared.limits.TheConstants.{MAX_HIDDEN_NAMES}
use Rattle.mk_recipe.specs.Report.{has, first_mentions}
use Rattle.mk_recipe.specs.Reading.{new_names, is_long, any_long, Reads}

clash : (b : Bool) → b ≡ true → b ≡ false → ⊥
clash b e f = cc

same_name : (a b : List ℕ) → bytes_eq a b ≡ true → a ≡ b
same_name a b e = (bytes_decides a b).0 e

-- ---- one name more

or_false : (b : Bool) → (b || false) ≡ b
or_false true = refl
or_false false = refl

or_behind : (b c x y : Bool) → c ≡ (x || y) → (b || c) ≡ ((b || x) || y)
or_behind true c x y e = refl
or_behind false c x y e = e

pub has-behind : (name other : List ℕ) (names : List (List ℕ)) → has name (names ++ other ∷ []) ≡ (has name names || bytes_eq name other)
has-behind name other [] = or_false (bytes_eq name other)
has-behind name other (n ∷ names) =
    or_behind (bytes_eq name n) (has name (names ++ other ∷ [])) (has name names) (bytes_eq name other) (has-behind name other names)

-- ---- filters

pub filter-same : (p q : List ℕ → Bool) → ((name : List ℕ) → p name ≡ q name) → (names : List (List ℕ)) → filter p names ≡ filter q names
filter-same p q same [] = refl
filter-same p q same (name ∷ names) =
    ap (λ (b : Bool). cond b (name ∷ filter p names) (filter p names)) (same name)
    ∙ ap (λ (l : List (List ℕ)). cond (q name) (name ∷ l) l) (filter-same p q same names)

twice_by : (p q r : List ℕ → Bool) (name : List ℕ) (names : List (List ℕ)) (x z : Bool) → (x && p name) ≡ z → filter p (filter q names) ≡ filter r names
    → filter p (cond x (name ∷ filter q names) (filter q names)) ≡ cond z (name ∷ filter r names) (filter r names)
twice_by p q r name names true z both rest =
    ap (λ (l : List (List ℕ)). cond (p name) (name ∷ l) l) rest ∙ ap (λ (b : Bool). cond b (name ∷ filter r names) (filter r names)) both
twice_by p q r name names false z both rest =
    rest ∙ ap (λ (b : Bool). cond b (name ∷ filter r names) (filter r names)) both

-- two filters, one after the other, are one
filter-twice : (p q r : List ℕ → Bool) → ((name : List ℕ) → (q name && p name) ≡ r name) → (names : List (List ℕ)) → filter p (filter q names) ≡ filter r names
filter-twice p q r both [] = refl
filter-twice p q r both (name ∷ names) = twice_by p q r name names (q name) (r name) (both name) (filter-twice p q r both names)

any_by : (p : List ℕ → Bool) (b : Bool) (name : List ℕ) (names : List (List ℕ)) → list_any p (cond b (name ∷ names) names) ≡ ((b && p name) || list_any p names)
any_by p true name names = refl
any_by p false name names = refl

-- what is kept or not makes no difference, if it fails the test
any-filter : (p q r : List ℕ → Bool) → ((name : List ℕ) → (q name && p name) ≡ (r name && p name)) → (names : List (List ℕ)) → list_any p (filter q names) ≡ list_any p (filter r names)
any-filter p q r same [] = refl
any-filter p q r same (name ∷ names) =
    any_by p (q name) name (filter q names)
    ∙ ap (λ (b : Bool). b || list_any p (filter q names)) (same name)
    ∙ ap (λ (b : Bool). (r name && p name) || b) (any-filter p q r same names)
    ∙ sym (any_by p (r name) name (filter r names))

-- ---- the names that are new

-- the name wasn't seen
abbrev unseen : (seen : List (List ℕ)) (name : List ℕ) → Bool
unseen seen name = not (has name seen)

seen_by : (x y : Bool) → (x ≡ true → y ≡ true) → (not x && not y) ≡ not y
seen_by true y h = sym (ap not (h refl))
seen_by false y h = refl

neither : (x y z : Bool) → z ≡ (y || x) → (not x && not y) ≡ not z
neither true true z e = sym (ap not e)
neither true false z e = sym (ap not e)
neither false true z e = sym (ap not e)
neither false false z e = sym (ap not e)

new_by : (seen : List (List ℕ)) (name : List ℕ) (names : List (List ℕ)) (b : Bool) → has name seen ≡ b
    → new_names seen names ≡ filter (unseen seen) (first_mentions names)
    → new_names (seen ++ name ∷ []) names ≡ filter (unseen (seen ++ name ∷ [])) (first_mentions names)
    → cond b (new_names seen names) (name ∷ new_names (seen ++ name ∷ []) names)
    ≡ cond (not b) (name ∷ filter (unseen seen) (filter (λ other. not (bytes_eq other name)) (first_mentions names)))
    (filter (unseen seen) (filter (λ other. not (bytes_eq other name)) (first_mentions names)))
new_by seen name names true e old new =
    old ∙ sym (filter-twice (unseen seen) (λ other. not (bytes_eq other name)) (unseen seen)
    (λ n. seen_by (bytes_eq n name) (has n seen) (λ same. ap (λ (m : List ℕ). has m seen) (same_name n name same) ∙ e)) (first_mentions names))
new_by seen name names false e old new =
    ap (λ (l : List (List ℕ)). name ∷ l) (new ∙ sym (filter-twice (unseen seen) (λ other. not (bytes_eq other name)) (unseen (seen ++ name ∷ []))
    (λ n. neither (bytes_eq n name) (has n seen) (has n (seen ++ name ∷ [])) (has-behind n name seen)) (first_mentions names)))

-- they are those of the first mentions that weren't seen
pub new_names-are : (seen names : List (List ℕ)) → new_names seen names ≡ filter (unseen seen) (first_mentions names)
new_names-are seen [] = refl
new_names-are seen (name ∷ names) =
    new_by seen name names (has name seen) refl (new_names-are seen names) (new_names-are (seen ++ name ∷ []) names)

-- only which names were seen counts, not in which order
pub new_names-same : (seen others : List (List ℕ)) → ((name : List ℕ) → has name seen ≡ has name others) → (names : List (List ℕ)) → new_names seen names ≡ filter (unseen others) (first_mentions names)
new_names-same seen others same names =
    new_names-are seen names ∙ filter-same (unseen seen) (unseen others) (λ n. ap not (same n)) (first_mentions names)

new_adds : (seen names : List (List ℕ)) (name : List ℕ) → has name seen ≡ false → new_names seen (name ∷ names) ≡ name ∷ new_names (seen ++ name ∷ []) names
new_adds seen names name e = ap (λ (b : Bool). cond b (new_names seen names) (name ∷ new_names (seen ++ name ∷ []) names)) e

pass_over : (y e l : Bool) → (e ≡ true → l ≡ false) → (not (y || e) && l) ≡ (not y && l)
pass_over true e l h = refl
pass_over false true l h = sym (h refl)
pass_over false false l h = refl

-- whether a name that isn't too long was seen makes no difference to whether one is
long_same : (seen names : List (List ℕ)) (name : List ℕ) → is_long name ≡ false → any_long (new_names (seen ++ name ∷ []) names) ≡ any_long (new_names seen names)
long_same seen names name short =
    ap any_long (new_names-are (seen ++ name ∷ []) names)
    ∙ any-filter is_long (unseen (seen ++ name ∷ [])) (unseen seen)
    (λ n. ap (λ (b : Bool). not b && is_long n) (has-behind n name seen)
    ∙ pass_over (has n seen) (bytes_eq n name) (is_long n) (λ same. ap is_long (same_name n name same) ∙ short)) (first_mentions names)
    ∙ sym (ap any_long (new_names-are seen names))

-- ---- one name is read

true_false : true ≡ false → ⊥
true_false e = cc

false_true : false ≡ true → ⊥
false_true e = cc

long_behind : (name : List ℕ) (b : Bool) (names : List (List ℕ)) → is_long name ≡ b → any_long (name ∷ names) ≡ (b || any_long names)
long_behind name b names e = ap (λ (c : Bool). c || any_long names) e

pub reads_no_more : (name : List ℕ) (seen hidden : List (List ℕ)) → has name seen ≡ false → is_long name ≡ false → MAX_HIDDEN_NAMES ≤ length hidden
    → Reads (name ∷ []) seen hidden seen hidden true
reads_no_more name seen hidden e short full = record {
  short = λ rest. sym (ap any_long (new_adds seen rest name e) ∙ long_behind name false (new_names (seen ++ name ∷ []) rest) short ∙ long_same seen rest name short);
  all = λ none rest. absurd (true_false none);
  more = λ some rest.
      let longer : length (hidden ++ new_names seen (name ∷ rest)) ≡ length hidden + length (name ∷ new_names (seen ++ name ∷ []) rest) =
      length-append hidden (new_names seen (name ∷ rest)) ∙ ap (λ (l : List (List ℕ)). length hidden + length l) (new_adds seen rest name e) in
      omega arith;
  within = λ h. h;
}

-- ---- one after the other

none_left_out : (a b : Bool) → (a || b) ≡ false → (a ≡ false) × (b ≡ false)
none_left_out true b e = absurd (true_false e)
none_left_out false b e = (refl, e)

more_by : (xs ys seen hidden seen' hidden' seen'' hidden'' : List (List ℕ)) (a b : Bool) → Reads xs seen hidden seen' hidden' a → Reads ys seen' hidden' seen'' hidden'' b
    → (a || b) ≡ true → (rest : List (List ℕ)) → MAX_HIDDEN_NAMES < length (hidden ++ new_names seen (xs ++ (ys ++ rest)))
more_by xs ys seen hidden seen' hidden' seen'' hidden'' true b one other e rest = one.more refl (ys ++ rest)
more_by xs ys seen hidden seen' hidden' seen'' hidden'' false b one other e rest =
    subst (λ (l : List (List ℕ)). MAX_HIDDEN_NAMES < length l) (one.all refl (ys ++ rest)) (other.more e rest)

pub reads_both : (xs ys seen hidden seen' hidden' seen'' hidden'' : List (List ℕ)) (a b : Bool) → Reads xs seen hidden seen' hidden' a → Reads ys seen' hidden' seen'' hidden'' b
    → Reads (xs ++ ys) seen hidden seen'' hidden'' (a || b)
reads_both xs ys seen hidden seen' hidden' seen'' hidden'' a b one other = record {
  short = λ rest. other.short rest ∙ one.short (ys ++ rest) ∙ ap (λ (l : List (List ℕ)). any_long (new_names seen l)) (sym (append_assoc xs ys rest));
  all = λ none rest.
      let both = none_left_out a b none in
      other.all both.1 rest ∙ one.all both.0 (ys ++ rest) ∙ ap (λ (l : List (List ℕ)). hidden ++ new_names seen l) (sym (append_assoc xs ys rest));
  more = λ some rest.
      subst (λ (l : List (List ℕ)). MAX_HIDDEN_NAMES < length (hidden ++ new_names seen l)) (sym (append_assoc xs ys rest))
      (more_by xs ys seen hidden seen' hidden' seen'' hidden'' a b one other some rest);
  within = λ h. other.within (one.within h);
}
