-- The kept records of a state: they make it again, each is good where it can be, and how many bytes they are.
use Rattle.std.proofs.Common.{◌≡◌, ◌∙◌, ℕ, ◌+◌, List, [], ◌∷◌, None, Some, T, ◌&&◌, Bool, cond, true, false, length, refl, sym, ap, arith}
use Rattle.std.proofs.Common.{map as list_map}
use Rattle.std.specs.List.{flat_map, AllByRecursion, IsDistinct}
use Rattle.std.specs.Ordering.{is_eq, is_lt, eq_by_cmp}
use Rattle.std.specs.declared.cmp.Ordering.{Ordering}
use Rattle.std.specs.declared.cmp.Ordering.TheVariants.{Less, Equal, Greater}
use Rattle.std.specs.Cmp.Lexicographic.{nat_list_cmp_total}
use Rattle.std.specs.FinMap as map
use Rattle.std.specs.FinMap.{find, put, is_sorted, get-entries, get-from_entries, entries-insert, entries_sorted, len-entries, len-empty, same_map}
use Rattle.std.specs.FinMap.Entries.{by_order, below_all}
use Rattle.std.specs.Map.{keys_of}
use Rattle.std.proofs.lemmas.List.{length-append, nil_from_length}
use Rattle.std.proofs.lemmas.Map.Keys.{IsDistinct-head, IsDistinct-tail, IsDistinct-cons}
use Rattle.st_records.specs.declared.version.Form.{Form}
use Rattle.st_records.specs.declared.record.Entry.{Entry}
use Rattle.st_records.specs.Encoding.{encoding_in}
use Rattle.st_records.specs.Limits.{IsGoodIn}
use Rattle.st_state.specs.State.{StateMap, replay}
use Rattle.st_state.specs.Keepable.{kept_record, kept_records, kept_bytes_in, AllCanBeKeptIn}
use Rattle.st_state.proofs.StateLemmas.{by_bytes, by_bytes-exact, by_bytes-same, same_bytes, AreApart, absent, with_entries, with_entries-empty}

-- ---- how many bytes

-- the bytes of the kept records of some entries
abbrev pub bytes_of : Form → List (List ℕ × Entry) → ℕ
bytes_of form es = length (flat_map (encoding_in form) (list_map kept_record es))

pub bytes_of-more : (form : Form) (e : List ℕ × Entry) (es : List (List ℕ × Entry)) → bytes_of form (e ∷ es) ≡ length (encoding_in form (kept_record e)) + bytes_of form es
bytes_of-more form e es = length-append (encoding_in form (kept_record e)) (flat_map (encoding_in form) (list_map kept_record es))

nothing : {A : Type 0} (x : A) → Some x ≡ None → ⊥
nothing x e = cc

-- one entry of a new name more
bytes_of-put : (form : Form) (name : List ℕ) (entry : Entry) (es : List (List ℕ × Entry)) → find by_bytes name es ≡ None → bytes_of form (put by_bytes name entry es) ≡ length (encoding_in form (kept_record (name, entry))) + bytes_of form es
bytes_of-put form name entry [] missing = bytes_of-more form (name, entry) []
bytes_of-put form name entry (e ∷ es) missing =
    elim (by_bytes name e.0) as (λ o. cond (is_eq o) (Some e.1) (find by_bytes name es) ≡ None
    → bytes_of form (by_order o ((name, entry) ∷ e ∷ es) ((e.0, entry) ∷ es) (e ∷ put by_bytes name entry es)) ≡ length (encoding_in form (kept_record (name, entry))) + bytes_of form (e ∷ es)) [
      | Less ↦ λ _. bytes_of-more form (name, entry) (e ∷ es)
      | Equal ↦ λ found. absurd (nothing e.1 found)
      | Greater ↦ λ later. omega (arith, bytes_of-more form e (put by_bytes name entry es), bytes_of-more form e es, bytes_of-put form name entry es later)
    ] missing

-- a map's kept records have the bytes of those of its entries, in whatever order these stand
pub bytes_from_entries : (form : Form) (es : List (List ℕ × Entry)) → AreApart (keys_of es) → kept_bytes_in form (map.from_entries {R = by_bytes} es) ≡ bytes_of form es
bytes_from_entries form [] apart =
    let none : map.entries (map.empty {X = Entry} {R = by_bytes}) ≡ [] = nil_from_length _ (sym (len-entries (map.empty {X = Entry} {R = by_bytes})) ∙ len-empty by_bytes Entry) in
    ap (bytes_of form) none
bytes_from_entries form (e ∷ es) apart =
    let m = map.from_entries {R = by_bytes} es in
    let missing : find by_bytes e.0 (map.entries m) ≡ None =
    sym (get-entries m e.0) ∙ get-from_entries nat_list_cmp_total es e.0 ∙ absent e.0 es (IsDistinct-head _ _ _ apart) in
    let one : kept_bytes_in form (map.insert m e.0 e.1) ≡ length (encoding_in form (kept_record e)) + kept_bytes_in form m =
    ap (bytes_of form) (entries-insert nat_list_cmp_total m e.0 e.1) ∙ bytes_of-put form e.0 e.1 (map.entries m) missing in
    omega (arith, one, bytes_of-more form e es, bytes_from_entries form es (IsDistinct-tail _ _ _ apart))

-- ---- the same state again

first : (a b : Bool) → T (a && b) → T a
first true b h = tt
first false b h = absurd h

second : (a b : Bool) → T (a && b) → T b
second true b h = h
second false b h = absurd h

untied : (o : Ordering) → T (is_lt o) → is_eq o ≡ false
untied Less h = refl
untied Equal h = absurd h
untied Greater h = refl

apart_above : (name : List ℕ) (es : List (List ℕ × Entry)) → T (below_all by_bytes name es) → AllByRecursion (λ y. eq_by_cmp by_bytes name y ≡ false) (keys_of es)
apart_above name [] h = tt
apart_above name (e ∷ es) h = (untied (by_bytes name e.0) (first _ _ h), apart_above name es (second _ _ h))

apart_sorted : (es : List (List ℕ × Entry)) → T (is_sorted by_bytes es) → AreApart (keys_of es)
unfolding IsDistinct
apart_sorted [] h = tt
apart_sorted (e ∷ es) h = IsDistinct-cons (eq_by_cmp by_bytes) e.0 (keys_of es) (apart_above e.0 es (first _ _ h)) (apart_sorted es (second _ _ h))

apart_entries : (m : StateMap) → AreApart (keys_of (map.entries m))
apart_entries m = apart_sorted (map.entries m) (entries_sorted m)

replay-kept : (m : StateMap) (es : List (List ℕ × Entry)) → replay m (list_map kept_record es) ≡ with_entries m es
replay-kept m [] = refl
replay-kept m (e ∷ es) = replay-kept (map.insert m e.0 e.1) es

-- the kept records of a state make it of the empty one
pub kept_again : (m : StateMap) → replay map.empty (kept_records m) ≡ m
kept_again m =
    replay-kept map.empty (map.entries m)
    ∙ with_entries-empty (map.entries m) (apart_entries m)
    ∙ same_map nat_list_cmp_total by_bytes-exact _ _ (λ q. get-from_entries nat_list_cmp_total (map.entries m) q ∙ sym (get-entries m q))

-- ---- and each of them is good

found_behind : (e : List ℕ × Entry) (es : List (List ℕ × Entry)) (q : List ℕ) (v : Entry) → AreApart (keys_of (e ∷ es)) → find by_bytes q es ≡ Some v → find by_bytes q (e ∷ es) ≡ Some v
found_behind e es q v apart found =
    elim (is_eq (by_bytes q e.0)) as (λ b. is_eq (by_bytes q e.0) ≡ b → cond b (Some e.1) (find by_bytes q es) ≡ Some v) [
      | true ↦ λ same.
          let here : find by_bytes e.0 es ≡ Some v = ap (λ n. find by_bytes n es) (sym (same_bytes q e.0 same)) ∙ found in
          absurd (nothing v (sym here ∙ absent e.0 es (IsDistinct-head _ _ _ apart)))
      | false ↦ λ _. found
    ] refl

good_entries : (form : Form) (es : List (List ℕ × Entry)) → AreApart (keys_of es) → ((q : List ℕ) (v : Entry) → find by_bytes q es ≡ Some v → IsGoodIn form (kept_record (q, v))) → AllByRecursion (IsGoodIn form) (list_map kept_record es)
good_entries form [] apart each = tt
good_entries form (e ∷ es) apart each = (
  each e.0 e.1 (ap (λ b. cond b (Some e.1) (find by_bytes e.0 es)) (by_bytes-same e.0)),
  good_entries form es (IsDistinct-tail _ _ _ apart) (λ q v found. each q v (found_behind e es q v apart found)),
)

pub good_kept_in : (form : Form) (m : StateMap) → AllCanBeKeptIn form m → AllByRecursion (IsGoodIn form) (kept_records m)
good_kept_in form m all = good_entries form (map.entries m) (apart_entries m) (λ q v found. all q v (get-entries m q ∙ found))
