-- Names that were seen, as keys of a set.
use Rattle.std.proofs.Common.{◌≡◌, ℕ, Bool, true, false, cond, not, ◌||◌, List, [], ◌∷◌, ◌++◌, map, refl, sym, ap, ◌∙◌, Vec}
use Rattle.std.specs.Str.{bytes_eq}
use Rattle.std.specs.List.{list_any}
use Rattle.std.specs.declared.alloc.Global.{Global}
use Rattle.std.specs.declared.cmp.Ordering.{Ordering}
use Rattle.std.specs.declared.cmp.Ordering.TheVariants.{Less, Equal, Greater}
use Rattle.std.specs.Ordering.{is_eq, nat_cmp, match_ordering}
use Rattle.std.specs.Cmp.Lexicographic.{slice_cmp, bytes_decides}
use Rattle.std.specs.BTreeSet.{insert_key}
use Rattle.std.specs.BTreeMap.{is_at}
use Rattle.std.proofs.lemmas.Map.Text.{is_eq-slice_cmp}
use Rattle.mk_short_names.specs.Short.{short_name}
use Rattle.mk_depfiles.specs.Depfile.{has, first_mentions}
use Rattle.mk_depfiles.specs.Gathering.{mentioned}

abbrev pub by_bytes : Vec ℕ Global → Vec ℕ Global → Ordering
by_bytes a b = slice_cmp nat_cmp a.items b.items

-- a key has these bytes
abbrev pub is_key : (name : List ℕ) → List (Vec ℕ Global) → Bool
is_key name keys = list_any (λ k. bytes_eq name k.items) keys

or_swapped : (a b c : Bool) → (a || (b || c)) ≡ (b || (a || c))
or_swapped true true c = refl
or_swapped true false c = refl
or_swapped false b c = refl

or_same : (a c : Bool) → (a || c) ≡ (a || (a || c))
or_same true c = refl
or_same false c = refl

found_equal : (q : List ℕ) (x k : Vec ℕ Global) (c : Bool) → k.items ≡ x.items → (bytes_eq q x.items || c) ≡ (bytes_eq q k.items || (bytes_eq q x.items || c))
found_equal q x k c e = or_same (bytes_eq q x.items) c ∙ ap (λ bs. bytes_eq q bs || (bytes_eq q x.items || c)) (sym e)

inserted_by : (o : Ordering) (q : List ℕ) (x k : Vec ℕ Global) (xs inserted : List (Vec ℕ Global)) → by_bytes k x ≡ o →
    is_key q inserted ≡ (bytes_eq q k.items || is_key q xs) →
    is_key q (match_ordering o (k ∷ x ∷ xs) (x ∷ xs) (x ∷ inserted)) ≡ (bytes_eq q k.items || is_key q (x ∷ xs))
inserted_by Less q x k xs inserted e h = refl
inserted_by Equal q x k xs inserted e h =
    found_equal q x k (is_key q xs) ((bytes_decides k.items x.items).0 (sym (is_eq-slice_cmp k.items x.items) ∙ ap is_eq e))
inserted_by Greater q x k xs inserted e h =
    ap (λ t. bytes_eq q x.items || t) h ∙ or_swapped (bytes_eq q x.items) (bytes_eq q k.items) (is_key q xs)

pub key_inserted : (q : List ℕ) (ks : List (Vec ℕ Global)) (k : Vec ℕ Global) → is_key q (insert_key by_bytes ks k) ≡ (bytes_eq q k.items || is_key q ks)
key_inserted q [] k = refl
key_inserted q (x ∷ xs) k = inserted_by (by_bytes k x) q x k xs (insert_key by_bytes xs k) refl (key_inserted q xs k)

-- a key is there by its bytes
pub key_by_bytes : (k : Vec ℕ Global) (ks : List (Vec ℕ Global)) → list_any (is_at (by_bytes k)) ks ≡ is_key k.items ks
key_by_bytes k [] = refl
key_by_bytes k (x ∷ xs) =
    ap (λ t. t || list_any (is_at (by_bytes k)) xs) (is_eq-slice_cmp k.items x.items) ∙ ap (λ t. bytes_eq k.items x.items || t) (key_by_bytes k xs)

abbrev pub AreKeys : (names : List (List ℕ)) (keys : List (Vec ℕ Global)) → Type 0
AreKeys names keys = (q : List ℕ) → is_key q keys ≡ has q names

has_push : (q : List ℕ) (names : List (List ℕ)) (name : List ℕ) → has q (names ++ name ∷ []) ≡ (bytes_eq q name || has q names)
has_push q [] name = refl
has_push q (n ∷ names) name = ap (λ t. bytes_eq q n || t) (has_push q names name) ∙ or_swapped (bytes_eq q n) (bytes_eq q name) (has q names)

has_known_by : (t : Bool) (q name : List ℕ) (names : List (List ℕ)) → bytes_eq q name ≡ t → has name names ≡ true → (t || has q names) ≡ has q names
has_known_by true q name names e h = sym (ap (λ bs. has bs names) ((bytes_decides q name).0 e) ∙ h)
has_known_by false q name names e h = refl

has_mentioned : (q name : List ℕ) (names : List (List ℕ)) (t : Bool) → has name names ≡ t → (bytes_eq q name || has q names) ≡ has q (mentioned (not t) names name)
has_mentioned q name names true e = has_known_by (bytes_eq q name) q name names refl e
has_mentioned q name names false e = sym (has_push q names name)

abbrev first : (seen names : List (List ℕ)) → List (List ℕ)
first seen names = first_mentions seen (map short_name names)

first_by : (name : List ℕ) (names seen : List (List ℕ)) (t : Bool) → has (short_name name) seen ≡ t → first (mentioned (not t) seen (short_name name)) names ≡ first seen (name ∷ names)
first_by name names seen true e = ap (λ t. cond t (first seen names) (first (seen ++ short_name name ∷ []) names)) (sym e)
first_by name names seen false e = ap (λ t. cond t (first seen names) (first (seen ++ short_name name ∷ []) names)) (sym e)

-- one name more
pub record Mentions (once : List (List ℕ)) (keys : List (Vec ℕ Global)) (left all : List (List ℕ)) : Type 0 where
  pub value : first once left ≡ first [] all
  pub same : AreKeys once keys

pub mentions_more : (once new : List (List ℕ)) (keys new_keys : List (Vec ℕ Global)) (key : Vec ℕ Global) (name short : List ℕ) (is_new : Bool) (left more all : List (List ℕ)) →
    Mentions once keys left all → left ≡ name ∷ more → short ≡ short_name name → key.items ≡ short → is_new ≡ not (list_any (is_at (by_bytes key)) keys) →
    new_keys ≡ insert_key by_bytes keys key → new ≡ mentioned is_new once short → Mentions new new_keys more all
mentions_more once new keys new_keys key name short is_new left more all m at is_short is_key_of told is_keys is_once =
    let bytes : key.items ≡ short_name name = is_key_of ∙ is_short in
    let known : list_any (is_at (by_bytes key)) keys ≡ has (short_name name) once =
    key_by_bytes key keys ∙ ap (λ bs. is_key bs keys) bytes ∙ m.same (short_name name) in
    let whole : new ≡ mentioned (not (has (short_name name) once)) once (short_name name) =
    is_once ∙ ap (λ bs. mentioned is_new once bs) is_short ∙ ap (λ t. mentioned t once (short_name name)) (told ∙ ap not known) in
    record {
      value = ap (λ ns. first ns more) whole ∙ first_by name more once (has (short_name name) once) refl ∙ ap (first once) (sym at) ∙ m.value;
      same = λ q.
          ap (is_key q) is_keys ∙ key_inserted q keys key
          ∙ ap (λ bs. bytes_eq q bs || is_key q keys) bytes
          ∙ ap (λ t. bytes_eq q (short_name name) || t) (m.same q)
          ∙ has_mentioned q (short_name name) once (has (short_name name) once) refl
          ∙ ap (has q) (sym whole);
    }
