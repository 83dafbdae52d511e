-- Readers and what is written for them: what is read was written so, and what is written is read again.
use Rattle.std.proofs.Common.{◌≡◌, ℕ, zero, suc, ◌+◌, ◌^◌, ◌<◌, ◌≤◌, Bool, true, false, cond, ltb, List, [], ◌∷◌, ◌++◌, length, get_or, take, drop, Result, Ok, Err, refl, sym, ap, subst, ◌∙◌, append_assoc, arith, inl, inr}
use Rattle.std.specs.Int.{Width, w32, byte_len, from_le_bytes, to_le_bytes}
use Rattle.std.specs.List.{flat_map, AllByRecursion}
use Rattle.std.proofs.lemmas.Bool.{cases_lt, ltb-false, le-ltb}
use Rattle.std.proofs.lemmas.List.{take_at, drop_at, take-append-drop, length-append, length-take, get_or-drop, get_or-take, get_or_past}
use Rattle.std.proofs.lemmas.Nat.{le_bytes_4, from_le_bytes-to_le_bytes_4}
use Rattle.st_records.specs.declared.fault.DecodeFault.{DecodeFault}
use Rattle.st_records.specs.declared.fault.DecodeFault.TheVariants.{Short, BadKind}
use Rattle.st_records.specs.Encoding.{number, string, strings, FitsString, FitsStrings}
use Rattle.st_records.specs.Reading.{◌>>=◌, Reader, then_at, made_at, tested_at, uint_at, number_at, bytes_at, string_at, items_at, strings_at}

abbrev pub IsBytes : List ℕ → Type 0
IsBytes bytes = (i : ℕ) → get_or bytes i 0 < 256

pub IsBytes-drop : (n : ℕ) (bytes : List ℕ) → IsBytes bytes → IsBytes (drop n bytes)
IsBytes-drop n bytes h i = rw get_or-drop (h (n + i))

pub IsBytes-take : (n : ℕ) (bytes : List ℕ) → IsBytes bytes → IsBytes (take n bytes)
IsBytes-take n bytes h i =
    elim (cases_lt i n) [
      | inl lt ↦ rw (get_or-take n bytes i 0 lt) (h i)
      | inr le ↦ rw (get_or_past (take n bytes) i 0 (omega (arith, length-take n bytes))) (omega arith)
    ]

pub IsBytes-rest : (b : ℕ) (bytes : List ℕ) → IsBytes (b ∷ bytes) → IsBytes bytes
IsBytes-rest b bytes h i = h (suc i)

-- the value of a step that did not fail
pub bind_ok : {A B : Type 0} (r : Result A DecodeFault) (f : A → Result B DecodeFault) (y : B) → (r >>= f) ≡ Ok y → (x : A) × (r ≡ Ok x) × (f x ≡ Ok y)
bind_ok (Ok x) f y e = (x, refl, e)
bind_ok (Err d) f y e = absurd cc

-- a test that did not fail
pub guard_ok : {A : Type 0} (b : Bool) (d : DecodeFault) (x y : A) → cond b (Err d) (Ok x) ≡ Ok y → (b ≡ false) × (x ≡ y)
guard_ok true d x y e = absurd cc
guard_ok false d x y e = (refl, cc)

-- a test that was passed
pub passed_ok : {A : Type 0} (b : Bool) (d : DecodeFault) (x y : A) → cond b (Ok x) (Err d) ≡ Ok y → (b ≡ true) × (x ≡ y)
passed_ok true d x y e = (refl, cc)
passed_ok false d x y e = absurd cc

abbrev done : {A : Type 0} → A → Result A DecodeFault
done x = Ok x

pub ok_is : {A : Type 0} (x y : A) → done x ≡ done y → x ≡ y
ok_is x y e = cc

-- what a reader took from the front
pub record Takes (bytes text rest : List ℕ) : Type 0 where
  pub parts : bytes ≡ text ++ rest
  pub rest_fits : IsBytes rest

pub Takes-then : (a x b y c : List ℕ) → Takes a x b → Takes b y c → Takes a (x ++ y) c
Takes-then a x b y c p q = record { parts = p.parts ∙ ap (λ (t : List ℕ). x ++ t) q.parts ∙ sym (append_assoc x y c); rest_fits = q.rest_fits }

-- a reader of what is spelled so, for the values that fit
pub record Reads {A : Type 0} (spell : A → List ℕ) (Fits : A → Type 0) (read : Reader A) : Type 0 where
  pub takes : (bytes : List ℕ) (x : A × List ℕ) → IsBytes bytes → read bytes ≡ Ok x → Takes bytes (spell x.0) x.1 × Fits x.0
  pub again : (a : A) (rest : List ℕ) → Fits a → read (spell a ++ rest) ≡ Ok (a, rest)

-- ---- combinators

pub then_reads : {A B : Type 0} (s : A → List ℕ) (F : A → Type 0) (a : Reader A) (t : B → List ℕ) (G : B → Type 0) (b : Reader B) → Reads s F a → Reads t G b → Reads {A = A × B} (λ x. s x.0 ++ t x.1) (λ x. F x.0 × G x.1) (then_at a b)
then_reads {A} {B} s F a t G b ra rb = record {
  takes = λ bytes x fits e.
      let p = bind_ok (a bytes) (λ x. (b x.1 >>= λ y. Ok ((x.0, y.0), y.1))) x e in
      let q = bind_ok (b p.0.1) (λ y. Ok ((p.0.0, y.0), y.1)) x p.2 in
      let first = ra.takes bytes p.0 fits p.1 in
      let second = rb.takes p.0.1 q.0 first.0.rest_fits q.1 in
      let made : (A × B) × List ℕ = ((p.0.0, q.0.0), q.0.1) in
      subst (λ (y : (A × B) × List ℕ). Takes bytes (s y.0.0 ++ t y.0.1) y.1 × (F y.0.0 × G y.0.1)) (ok_is made x q.2) (Takes-then bytes (s p.0.0) p.0.1 (t q.0.0) q.0.1 first.0 second.0, (first.1, second.1));
  again = λ x rest fits.
      rw (append_assoc (s x.0) (t x.1) rest, ra.again x.0 (t x.1 ++ rest) fits.0, rb.again x.1 rest fits.1) refl;
}

pub made_takes : {A B : Type 0} (s : A → List ℕ) (F : A → Type 0) (a : Reader A) (f : A → B) → Reads s F a → (bytes : List ℕ) (x : B × List ℕ) → IsBytes bytes → made_at f a bytes ≡ Ok x → (y : A) × (x.0 ≡ f y) × Takes bytes (s y) x.1 × F y
made_takes {A} {B} s F a f ra bytes x fits e =
    let p = bind_ok (a bytes) (λ x. Ok (f x.0, x.1)) x e in
    let t = ra.takes bytes p.0 fits p.1 in
    let made : B × List ℕ = (f p.0.0, p.0.1) in
    let same = ok_is made x p.2 in
    (p.0.0, ap (λ (y : B × List ℕ). y.0) (sym same), subst (λ (y : B × List ℕ). Takes bytes (s p.0.0) y.1) same t.0, t.1)

pub made_again : {A B : Type 0} (s : A → List ℕ) (F : A → Type 0) (a : Reader A) (f : A → B) → Reads s F a → (y : A) (rest : List ℕ) → F y → made_at f a (s y ++ rest) ≡ Ok (f y, rest)
made_again s F a f ra y rest fits = rw (ra.again y rest fits) refl

pub tested_reads : {A : Type 0} (s : A → List ℕ) (F : A → Type 0) (a : Reader A) (test : A → Bool) (G : A → Type 0) → ((x : A) → F x → test x ≡ true → G x) → ((x : A) → G x → F x × (test x ≡ true)) → Reads s F a → Reads s G (tested_at test a)
tested_reads {A} s F a test G to from ra = record {
  takes = λ bytes x fits e.
      let p = bind_ok (a bytes) (λ x. cond (test x.0) (Ok x) (Err BadKind)) x e in
      let g = passed_ok (test p.0.0) BadKind p.0 x p.2 in
      let t = ra.takes bytes p.0 fits p.1 in
      subst (λ (y : A × List ℕ). Takes bytes (s y.0) y.1 × G y.0) g.1 (t.0, to p.0.0 t.1 g.0);
  again = λ x rest fits. rw (ra.again x rest (from x fits).0, (from x fits).1) refl;
}

-- ---- numbers

-- what is known of numbers of a width
record IsWide (w : Width) (limit : ℕ) : Type 0 where
  len : (n : ℕ) → length (to_le_bytes w n) ≡ byte_len w
  back : (bytes : List ℕ) → length bytes ≡ byte_len w → IsBytes bytes → to_le_bytes w (from_le_bytes w bytes) ≡ bytes
  again : (n : ℕ) → n < limit → from_le_bytes w (to_le_bytes w n) ≡ n
  below : (bytes : List ℕ) → IsBytes bytes → from_le_bytes w bytes < limit

wide32 : IsWide w32 (2 ^ 32)
wide32 = record {
  len = λ n. refl;
  back = λ bytes len fits. le_bytes_4 bytes _ len fits refl;
  again = λ n lt. from_le_bytes-to_le_bytes_4 n lt;
  below = λ bytes fits. omega (arith, fits 0, fits 1, fits 2, fits 3);
}

uint_takes : (w : Width) (limit : ℕ) (wide : IsWide w limit) (bytes : List ℕ) (x : ℕ × List ℕ) → IsBytes bytes → uint_at w bytes ≡ Ok x → Takes bytes (to_le_bytes w x.0) x.1 × (x.0 < limit)
uint_takes w limit wide bytes x fits e =
    let read : ℕ × List ℕ = (from_le_bytes w (take (byte_len w) bytes), drop (byte_len w) bytes) in
    let g = guard_ok (ltb (length bytes) (byte_len w)) Short read x e in
    let long : byte_len w ≤ length bytes = ltb-false _ _ g.0 in
    let front = wide.back (take (byte_len w) bytes) (omega (arith, length-take (byte_len w) bytes)) (IsBytes-take (byte_len w) bytes fits) in
    let taken : Takes bytes (to_le_bytes w read.0) read.1 = record { parts = rw front (sym (take-append-drop (byte_len w) bytes)); rest_fits = IsBytes-drop (byte_len w) bytes fits } in
    subst (λ (y : ℕ × List ℕ). Takes bytes (to_le_bytes w y.0) y.1 × (y.0 < limit)) g.1 (taken, wide.below (take (byte_len w) bytes) (IsBytes-take (byte_len w) bytes fits))

uint_again : (w : Width) (limit : ℕ) (wide : IsWide w limit) (n : ℕ) (rest : List ℕ) → n < limit → uint_at w (to_le_bytes w n ++ rest) ≡ Ok (n, rest)
uint_again w limit wide n rest lt =
    let len = wide.len n in
    let long : ltb (length (to_le_bytes w n ++ rest)) (byte_len w) ≡ false = le-ltb _ _ (omega (arith, length-append (to_le_bytes w n) rest)) in
    rw (long, take_at (to_le_bytes w n) rest (byte_len w) len, drop_at (to_le_bytes w n) rest (byte_len w) len, wide.again n lt) refl

pub number_reads : Reads number (λ n. n < 2 ^ 32) number_at
number_reads = record { takes = uint_takes w32 (2 ^ 32) wide32; again = uint_again w32 (2 ^ 32) wide32 }

-- ---- strings

string_takes : (bytes : List ℕ) (x : List ℕ × List ℕ) → IsBytes bytes → string_at bytes ≡ Ok x → Takes bytes (string x.0) x.1 × FitsString x.0
unfolding string_at
string_takes bytes x fits e =
    let p = bind_ok (number_at bytes) (λ n. bytes_at n.0 n.1) x e in
    let n = p.0 in
    let t = number_reads.takes bytes n fits p.1 in
    let read : List ℕ × List ℕ = (take n.0 n.1, drop n.0 n.1) in
    let g = guard_ok (ltb (length n.1) n.0) Short read x p.2 in
    let long : n.0 ≤ length n.1 = ltb-false _ _ g.0 in
    let len : length (take n.0 n.1) ≡ n.0 = omega (arith, length-take n.0 n.1) in
    let second : Takes n.1 (take n.0 n.1) (drop n.0 n.1) = record { parts = sym (take-append-drop n.0 n.1); rest_fits = IsBytes-drop n.0 n.1 t.0.rest_fits } in
    let both = Takes-then bytes (number n.0) n.1 (take n.0 n.1) (drop n.0 n.1) t.0 second in
    let whole : Takes bytes (string (take n.0 n.1)) (drop n.0 n.1) = subst (λ (k : ℕ). Takes bytes (number k ++ take n.0 n.1) (drop n.0 n.1)) (sym len) both in
    subst (λ (y : List ℕ × List ℕ). Takes bytes (string y.0) y.1 × FitsString y.0) g.1 (whole, omega (arith, t.1))

string_again : (text rest : List ℕ) → FitsString text → string_at (string text ++ rest) ≡ Ok (text, rest)
unfolding string_at
string_again text rest lt =
    let long : ltb (length (text ++ rest)) (length text) ≡ false = le-ltb _ _ (omega (arith, length-append text rest)) in
    rw (uint_again w32 (2 ^ 32) wide32 (length text) (text ++ rest) lt, long, take_at text rest (length text) refl, drop_at text rest (length text) refl) refl

pub string_reads : Reads string FitsString string_at
string_reads = record { takes = string_takes; again = string_again }

-- ---- lists of strings

items_take : (n : ℕ) (bytes : List ℕ) (x : List (List ℕ) × List ℕ) → IsBytes bytes → items_at n bytes ≡ Ok x → Takes bytes (flat_map string x.0) x.1 × (length x.0 ≡ n) × AllByRecursion FitsString x.0
unfolding items_at
items_take zero bytes x fits e =
    subst (λ (y : List (List ℕ) × List ℕ). Takes bytes (flat_map string y.0) y.1 × (length y.0 ≡ 0) × AllByRecursion FitsString y.0) (ok_is ([], bytes) x e) (record { parts = refl; rest_fits = fits }, refl, tt)
items_take (suc n) bytes x fits e =
    let p = bind_ok (string_at bytes) (λ first. items_at n first.1 >>= λ others. Ok (first.0 ∷ others.0, others.1)) x e in
    let q = bind_ok (items_at n p.0.1) (λ others. Ok (p.0.0 ∷ others.0, others.1)) x p.2 in
    let first = string_takes bytes p.0 fits p.1 in
    let second = items_take n p.0.1 q.0 first.0.rest_fits q.1 in
    let both = Takes-then bytes (string p.0.0) p.0.1 (flat_map string q.0.0) q.0.1 first.0 second.0 in
    let made : List (List ℕ) × List ℕ = (p.0.0 ∷ q.0.0, q.0.1) in
    subst (λ (y : List (List ℕ) × List ℕ). Takes bytes (flat_map string y.0) y.1 × (length y.0 ≡ suc n) × AllByRecursion FitsString y.0) (ok_is made x q.2) (both, ap suc second.1, (first.1, second.2))

items_again : (items : List (List ℕ)) (rest : List ℕ) → AllByRecursion FitsString items → items_at (length items) (flat_map string items ++ rest) ≡ Ok (items, rest)
unfolding items_at
items_again [] rest fits = refl
items_again (x ∷ items) rest fits =
    let regrouped : flat_map string (x ∷ items) ++ rest ≡ string x ++ (flat_map string items ++ rest) = append_assoc (string x) (flat_map string items) rest in
    ap (items_at (suc (length items))) regrouped ∙ rw (string_again x (flat_map string items ++ rest) fits.0, items_again items rest fits.1) refl

strings_take : (bytes : List ℕ) (x : List (List ℕ) × List ℕ) → IsBytes bytes → strings_at bytes ≡ Ok x → Takes bytes (strings x.0) x.1 × FitsStrings x.0
unfolding strings_at
strings_take bytes x fits e =
    let p = bind_ok (number_at bytes) (λ n. items_at n.0 n.1) x e in
    let t = number_reads.takes bytes p.0 fits p.1 in
    let u = items_take p.0.0 p.0.1 x t.0.rest_fits p.2 in
    let both = Takes-then bytes (number p.0.0) p.0.1 (flat_map string x.0) x.1 t.0 u.0 in
    (subst (λ (k : ℕ). Takes bytes (number k ++ flat_map string x.0) x.1) (sym u.1) both, (omega (arith, t.1, u.1), u.2))

strings_again : (items : List (List ℕ)) (rest : List ℕ) → FitsStrings items → strings_at (strings items ++ rest) ≡ Ok (items, rest)
unfolding strings_at
strings_again items rest fits =
    rw (uint_again w32 (2 ^ 32) wide32 (length items) (flat_map string items ++ rest) fits.0) (items_again items rest fits.1)

pub strings_reads : Reads strings FitsStrings strings_at
strings_reads = record { takes = strings_take; again = strings_again }
