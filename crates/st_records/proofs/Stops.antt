-- Where a reader meets a fault, and which.
use Rattle.std.proofs.Common.{◌≡◌, ℕ, zero, suc, ◌<◌, ◌⊎◌, Bool, true, false, cond, ltb, eqb, List, [], ◌∷◌, length, Result, Ok, Err, refl, sym, ap, ◌∙◌, inl, inr, arith}
use Rattle.std.proofs.lemmas.Bool.{ltb-false, le-ltb, eqb-false, ne_eqb}
use Rattle.st_records.specs.declared.version.Form.{Form}
use Rattle.st_records.specs.declared.version.Form.TheVariants as forms
use Rattle.st_records.specs.declared.record.Explicit.{Explicit}
use Rattle.st_records.specs.declared.record.Explicit.TheVariants.{Unknown, Known, Marked}
use Rattle.st_records.specs.declared.fault.DecodeFault.{DecodeFault}
use Rattle.st_records.specs.declared.fault.DecodeFault.TheVariants.{Short, BadKind}
use Rattle.st_records.specs.Encoding.{string, strings, FitsString, FitsStrings}
use Rattle.st_records.specs.Reading.{◌>>=◌, Reader, then_at, made_at, tested_at, number_at, bytes_at, string_at, items_at, strings_at, status_at, no_status_at, marked_at, done_explicit_at, kept_explicit_at, lists_at}
use Rattle.st_records.specs.Faults.{After, AfterNumber, EndsInNumber, EndsInString, EndsInItems, EndsInStrings, EndsInMarked, EndsInDoneExplicit, EndsInKeptExplicit, EndsInLists, AfterLists, HasUnlistedStatus, HasNeedlessStatus, HasUnlistedMarked, HasUnlistedKnown}
use Rattle.st_records.proofs.Fields.{IsBytes, IsBytes-rest, Reads, number_reads, string_reads, strings_reads}
use Rattle.st_records.proofs.Unfinished.{number_cases, bytes_cases}

-- a reader that meets no other faults than these two, each just where this holds of the bytes
pub record Stops {A : Type 0} (Ends Unlisted : List ℕ → Type 0) (read : Reader A) : Type 0 where
  pub short : (bytes : List ℕ) → IsBytes bytes → read bytes ≡ Err Short → Ends bytes
  pub unlisted : (bytes : List ℕ) → IsBytes bytes → read bytes ≡ Err BadKind → Unlisted bytes
  pub only : (bytes : List ℕ) (f : DecodeFault) → read bytes ≡ Err f → (f ≡ Short) ⊎ (f ≡ BadKind)
  pub short_again : (bytes : List ℕ) → Ends bytes → read bytes ≡ Err Short
  pub unlisted_again : (bytes : List ℕ) → Unlisted bytes → read bytes ≡ Err BadKind

abbrev pub Never : List ℕ → Type 0
Never bytes = ⊥

-- where a chain failed
pub bind_err : {A B : Type 0} (r : Result A DecodeFault) (f : A → Result B DecodeFault) (d : DecodeFault) → (r >>= f) ≡ Err d → (r ≡ Err d) ⊎ ((x : A) × (r ≡ Ok x) × (f x ≡ Err d))
bind_err (Ok x) f d e = inr (x, refl, e)
bind_err (Err g) f d e = inl cc

pub bind_at_ok : {A B : Type 0} (r : Result A DecodeFault) (f : A → Result B DecodeFault) (x : A) → r ≡ Ok x → (r >>= f) ≡ f x
bind_at_ok r f x e = rw e refl

pub bind_at_err : {A B : Type 0} (r : Result A DecodeFault) (f : A → Result B DecodeFault) (d : DecodeFault) → r ≡ Err d → (r >>= f) ≡ Err d
bind_at_err r f d e = rw e refl

pub ok_is_not_err : {A : Type 0} (r : Result A DecodeFault) (x : A) (d : DecodeFault) → r ≡ Ok x → r ≡ Err d → ⊥
ok_is_not_err r x d e h = cc

-- ---- combinators

-- two values put together
abbrev joined_at : {A B C : Type 0} → (A → B → C) → Reader A → Reader B → Reader C
joined_at f a b bytes = a bytes >>= λ x. (b x.1 >>= λ y. Ok (f x.0 y.0, y.1))

abbrev second_of : {A B C : Type 0} → (A → B → C) → Reader B → A × List ℕ → Result (C × List ℕ) DecodeFault
second_of f b x = b x.1 >>= λ y. Ok (f x.0 y.0, y.1)

abbrev pub Either : {A : Type 0} → (List ℕ → Type 0) → (A → List ℕ) → (A → Type 0) → (List ℕ → Type 0) → List ℕ → Type 0
Either P s F Q bytes = P bytes ⊎ After s F (λ _. Q) bytes

joined_forward : {A B C : Type 0} (f : A → B → C) (s : A → List ℕ) (F : A → Type 0) (a : Reader A) (b : Reader B) (P Q : List ℕ → Type 0) (d : DecodeFault) → Reads s F a
    → ((bytes : List ℕ) → IsBytes bytes → a bytes ≡ Err d → P bytes) → ((bytes : List ℕ) → IsBytes bytes → b bytes ≡ Err d → Q bytes)
    → (bytes : List ℕ) → IsBytes bytes → joined_at f a b bytes ≡ Err d → Either P s F Q bytes
joined_forward {A} {B} {C} f s F a b P Q d ra first second bytes fits e =
    elim (bind_err (a bytes) (second_of f b) d e) [
      | inl p ↦ inl (first bytes fits p)
      | inr p ↦
          let t = ra.takes bytes p.0 fits p.1 in
          elim (bind_err (b p.0.1) (λ y. Ok (f p.0.0 y.0, y.1)) d p.2) [
            | inl q ↦ inr (record { value = p.0.0; rest = p.0.1; fits = t.1; bytes_are = t.0.parts; holds = second p.0.1 t.0.rest_fits q })
            | inr q ↦ absurd (ok_is_not_err (Ok (f p.0.0 q.0.0, q.0.1)) (f p.0.0 q.0.0, q.0.1) d refl q.2)
          ]
    ]

joined_back : {A B C : Type 0} (f : A → B → C) (s : A → List ℕ) (F : A → Type 0) (a : Reader A) (b : Reader B) (P Q : List ℕ → Type 0) (d : DecodeFault) → Reads s F a
    → ((bytes : List ℕ) → P bytes → a bytes ≡ Err d) → ((bytes : List ℕ) → Q bytes → b bytes ≡ Err d)
    → (bytes : List ℕ) → Either P s F Q bytes → joined_at f a b bytes ≡ Err d
joined_back f s F a b P Q d ra first second bytes (inl p) = bind_at_err (a bytes) (second_of f b) d (first bytes p)
joined_back f s F a b P Q d ra first second bytes (inr p) =
    bind_at_ok (a bytes) (second_of f b) (p.value, p.rest) (ap a p.bytes_are ∙ ra.again p.value p.rest p.fits)
    ∙ bind_at_err (b p.rest) (λ y. Ok (f p.value y.0, y.1)) d (second p.rest p.holds)

joined_only : {A B C : Type 0} (f : A → B → C) (a : Reader A) (b : Reader B) → ((bytes : List ℕ) (d : DecodeFault) → a bytes ≡ Err d → (d ≡ Short) ⊎ (d ≡ BadKind)) → ((bytes : List ℕ) (d : DecodeFault) → b bytes ≡ Err d → (d ≡ Short) ⊎ (d ≡ BadKind))
    → (bytes : List ℕ) (d : DecodeFault) → joined_at f a b bytes ≡ Err d → (d ≡ Short) ⊎ (d ≡ BadKind)
joined_only f a b first second bytes d e =
    elim (bind_err (a bytes) (second_of f b) d e) [
      | inl p ↦ first bytes d p
      | inr p ↦ elim (bind_err (b p.0.1) (λ y. Ok (f p.0.0 y.0, y.1)) d p.2) [
        | inl q ↦ second p.0.1 d q
        | inr q ↦ absurd (ok_is_not_err (Ok (f p.0.0 q.0.0, q.0.1)) (f p.0.0 q.0.0, q.0.1) d refl q.2)
      ]
    ]

pub joined_stops : {A B C : Type 0} (f : A → B → C) (s : A → List ℕ) (F : A → Type 0) (a : Reader A) (b : Reader B) (E U G V : List ℕ → Type 0) → Reads s F a → Stops E U a → Stops G V b → Stops (Either E s F G) (Either U s F V) (joined_at f a b)
joined_stops f s F a b E U G V ra sa sb = record {
  short = joined_forward f s F a b E G Short ra sa.short sb.short;
  unlisted = joined_forward f s F a b U V BadKind ra sa.unlisted sb.unlisted;
  only = joined_only f a b sa.only sb.only;
  short_again = joined_back f s F a b E G Short ra sa.short_again sb.short_again;
  unlisted_again = joined_back f s F a b U V BadKind ra sa.unlisted_again sb.unlisted_again;
}

made_err : {A B : Type 0} (f : A → B) (a : Reader A) (bytes : List ℕ) (d : DecodeFault) → made_at f a bytes ≡ Err d → a bytes ≡ Err d
made_err f a bytes d e =
    elim (bind_err (a bytes) (λ x. Ok (f x.0, x.1)) d e) [
      | inl p ↦ p
      | inr p ↦ absurd (ok_is_not_err (Ok (f p.0.0, p.0.1)) (f p.0.0, p.0.1) d refl p.2)
    ]

pub made_stops : {A B : Type 0} (f : A → B) (a : Reader A) (E U : List ℕ → Type 0) → Stops E U a → Stops E U (made_at f a)
made_stops f a E U sa = record {
  short = λ bytes fits e. sa.short bytes fits (made_err f a bytes Short e);
  unlisted = λ bytes fits e. sa.unlisted bytes fits (made_err f a bytes BadKind e);
  only = λ bytes d e. sa.only bytes d (made_err f a bytes d e);
  short_again = λ bytes h. bind_at_err (a bytes) (λ x. Ok (f x.0, x.1)) Short (sa.short_again bytes h);
  unlisted_again = λ bytes h. bind_at_err (a bytes) (λ x. Ok (f x.0, x.1)) BadKind (sa.unlisted_again bytes h);
}

-- the same, with the unlisted values said in another way
pub restated : {A : Type 0} (read : Reader A) (E U V : List ℕ → Type 0) → ((bytes : List ℕ) → U bytes → V bytes) → ((bytes : List ℕ) → V bytes → U bytes) → Stops E U read → Stops E V read
restated read E U V to from s = record {
  short = s.short;
  unlisted = λ bytes fits e. to bytes (s.unlisted bytes fits e);
  only = s.only;
  short_again = s.short_again;
  unlisted_again = λ bytes h. s.unlisted_again bytes (from bytes h);
}

-- where only the second has
pub second_alone : {A : Type 0} (s : A → List ℕ) (F : A → Type 0) (V : List ℕ → Type 0) (bytes : List ℕ) → Either Never s F V bytes → After s F (λ _. V) bytes
second_alone s F V bytes (inl h) = absurd h
second_alone s F V bytes (inr h) = h

-- ---- numbers

abbrev failed : DecodeFault → Result (ℕ × List ℕ) DecodeFault
failed d = Err d

abbrev text_failed : DecodeFault → Result (List ℕ × List ℕ) DecodeFault
text_failed d = Err d

text_err : (d : DecodeFault) → text_failed d ≡ text_failed Short → d ≡ Short
text_err d h = cc

err_is : (d e : DecodeFault) → failed d ≡ failed e → d ≡ e
err_is d e h = cc

no_number : (bytes : List ℕ) (d : DecodeFault) → number_at bytes ≡ Err d → (d ≡ Short) × (length bytes < 4)
no_number bytes d e =
    elim (number_cases bytes) [
      | inl n ↦ absurd (ok_is_not_err (number_at bytes) n.0 d n.1 e)
      | inr s ↦ (err_is d Short (sym e ∙ s.0), s.1)
    ]

short_number : (bytes : List ℕ) → length bytes < 4 → number_at bytes ≡ Err Short
short_number bytes lt =
    elim (number_cases bytes) [
      | inl n ↦ absurd (omega (arith, n.2))
      | inr s ↦ s.0
    ]

bad_is_not_short : BadKind ≡ Short → ⊥
bad_is_not_short e = cc

abbrev judge : (ℕ → Bool) → ℕ × List ℕ → Result (ℕ × List ℕ) DecodeFault
judge test x = cond (test x.0) (Ok x) (Err BadKind)

passed_err : (b : Bool) (x : ℕ × List ℕ) (d : DecodeFault) → cond b (Ok x) (Err BadKind) ≡ failed d → (b ≡ false) × (d ≡ BadKind)
passed_err true x d e = absurd cc
passed_err false x d e = (refl, cc)

tested_err : (test : ℕ → Bool) (bytes : List ℕ) (d : DecodeFault) → tested_at test number_at bytes ≡ Err d → (number_at bytes ≡ Err d) ⊎ ((x : ℕ × List ℕ) × (number_at bytes ≡ Ok x) × ((test x.0 ≡ false) × (d ≡ BadKind)))
tested_err test bytes d e =
    elim (bind_err (number_at bytes) (judge test) d e) [
      | inl p ↦ inl p
      | inr p ↦ inr (p.0, p.1, passed_err (test p.0.0) p.0 d p.2)
    ]

-- a number that is read and then tested
tested_number : (test : ℕ → Bool) (Bad : ℕ → Type 0) → ((n : ℕ) → test n ≡ false → Bad n) → ((n : ℕ) → Bad n → test n ≡ false) → Stops EndsInNumber (AfterNumber (λ n _. Bad n)) (tested_at test number_at)
tested_number test Bad to from = record {
  short = λ bytes fits e. elim (tested_err test bytes Short e) [
    | inl p ↦ (no_number bytes Short p).1
    | inr p ↦ absurd (bad_is_not_short (sym p.2.1))
  ];
  unlisted = λ bytes fits e. elim (tested_err test bytes BadKind e) [
    | inl p ↦ absurd (bad_is_not_short (no_number bytes BadKind p).0)
    | inr p ↦
        let t = number_reads.takes bytes p.0 fits p.1 in
        record { value = p.0.0; rest = p.0.1; fits = t.1; bytes_are = t.0.parts; holds = to p.0.0 p.2.0 }
  ];
  only = λ bytes d e. elim (tested_err test bytes d e) [
    | inl p ↦ inl (no_number bytes d p).0
    | inr p ↦ inr p.2.1
  ];
  short_again = λ bytes lt. bind_at_err (number_at bytes) (judge test) Short (short_number bytes lt);
  unlisted_again = λ bytes h.
      bind_at_ok (number_at bytes) (judge test) (h.value, h.rest) (ap number_at h.bytes_are ∙ number_reads.again h.value h.rest h.fits)
      ∙ ap (λ (b : Bool). cond b (Ok (h.value, h.rest)) (Err BadKind)) (from h.value h.holds);
}

pub status_stops : Stops EndsInNumber HasUnlistedStatus status_at
unfolding status_at
status_stops = tested_number (λ n. ltb n 257) (λ n. 256 < n) (λ n failed. omega (arith, ltb-false n 257 failed)) (λ n h. le-ltb n 257 (omega arith))

pub no_status_stops : Stops EndsInNumber HasNeedlessStatus no_status_at
unfolding no_status_at
no_status_stops = tested_number (λ n. eqb n 0) (λ n. 0 < n) (λ n failed. (let h = eqb-false n 0 failed in omega arith)) (λ n h. ne_eqb n 0 (λ e. omega arith))

-- ---- strings

string_err : (bytes : List ℕ) (d : DecodeFault) → string_at bytes ≡ Err d → (number_at bytes ≡ Err d) ⊎ ((x : ℕ × List ℕ) × (number_at bytes ≡ Ok x) × ((length x.1 < x.0) × (d ≡ Short)))
unfolding string_at
string_err bytes d e =
    elim (bind_err (number_at bytes) (λ n. bytes_at n.0 n.1) d e) [
      | inl p ↦ inl p
      | inr p ↦ elim (bytes_cases p.0.0 p.0.1) [
        | inl b ↦ absurd (ok_is_not_err (bytes_at p.0.0 p.0.1) _ d b.0 p.2)
        | inr b ↦ inr (p.0, p.1, (b.1, text_err d (sym p.2 ∙ b.0)))
      ]
    ]

short_bytes : (n : ℕ) (bytes : List ℕ) → length bytes < n → bytes_at n bytes ≡ Err Short
short_bytes n bytes lt =
    elim (bytes_cases n bytes) [
      | inl b ↦ absurd (omega (arith, b.1))
      | inr b ↦ b.0
    ]

short_string : (bytes : List ℕ) → EndsInString bytes → string_at bytes ≡ Err Short
unfolding string_at
short_string bytes (inl h) = bind_at_err (number_at bytes) (λ n. bytes_at n.0 n.1) Short (short_number bytes h)
short_string bytes (inr h) =
    bind_at_ok (number_at bytes) (λ n. bytes_at n.0 n.1) (h.value, h.rest) (ap number_at h.bytes_are ∙ number_reads.again h.value h.rest h.fits)
    ∙ short_bytes h.value h.rest h.holds

pub string_stops : Stops EndsInString Never string_at
string_stops = record {
  short = λ bytes fits e. elim (string_err bytes Short e) [
    | inl p ↦ inl (no_number bytes Short p).1
    | inr p ↦
        let t = number_reads.takes bytes p.0 fits p.1 in
        inr (record { value = p.0.0; rest = p.0.1; fits = t.1; bytes_are = t.0.parts; holds = p.2.0 })
  ];
  unlisted = λ bytes fits e. elim (string_err bytes BadKind e) [
    | inl p ↦ bad_is_not_short (no_number bytes BadKind p).0
    | inr p ↦ bad_is_not_short p.2.1
  ];
  only = λ bytes d e. elim (string_err bytes d e) [
    | inl p ↦ inl (no_number bytes d p).0
    | inr p ↦ inl p.2.1
  ];
  short_again = short_string;
  unlisted_again = λ bytes h. absurd h;
}

-- ---- lists of strings

pub never_two : {A : Type 0} (s : A → List ℕ) (F : A → Type 0) (bytes : List ℕ) → Either Never s F Never bytes → ⊥
never_two s F bytes (inl h) = h
never_two s F bytes (inr h) = h.holds

items_stops : (n : ℕ) → Stops (EndsInItems n) Never (items_at n)
unfolding items_at
items_stops zero = record {
  short = λ bytes fits e. ok_is_not_err (Ok ([], bytes)) ([], bytes) Short refl e;
  unlisted = λ bytes fits e. ok_is_not_err (Ok ([], bytes)) ([], bytes) BadKind refl e;
  only = λ bytes d e. absurd (ok_is_not_err (Ok ([], bytes)) ([], bytes) d refl e);
  short_again = λ bytes h. absurd h;
  unlisted_again = λ bytes h. absurd h;
}
items_stops (suc n) =
    restated (items_at (suc n)) (EndsInItems (suc n)) (Either Never string FitsString Never) Never (never_two string FitsString) (λ bytes h. absurd h)
    (joined_stops (λ x xs. x ∷ xs) string FitsString string_at (items_at n) EndsInString Never (EndsInItems n) Never string_reads string_stops (items_stops n))

strings_err : (bytes : List ℕ) (d : DecodeFault) → strings_at bytes ≡ Err d → (number_at bytes ≡ Err d) ⊎ ((x : ℕ × List ℕ) × (number_at bytes ≡ Ok x) × (items_at x.0 x.1 ≡ Err d))
unfolding strings_at
strings_err bytes d e = bind_err (number_at bytes) (λ n. items_at n.0 n.1) d e

short_strings : (bytes : List ℕ) → EndsInStrings bytes → strings_at bytes ≡ Err Short
unfolding strings_at
short_strings bytes (inl h) = bind_at_err (number_at bytes) (λ n. items_at n.0 n.1) Short (short_number bytes h)
short_strings bytes (inr h) =
    bind_at_ok (number_at bytes) (λ n. items_at n.0 n.1) (h.value, h.rest) (ap number_at h.bytes_are ∙ number_reads.again h.value h.rest h.fits)
    ∙ (items_stops h.value).short_again h.rest h.holds

strings_stops : Stops EndsInStrings Never strings_at
strings_stops = record {
  short = λ bytes fits e. elim (strings_err bytes Short e) [
    | inl p ↦ inl (no_number bytes Short p).1
    | inr p ↦
        let t = number_reads.takes bytes p.0 fits p.1 in
        inr (record { value = p.0.0; rest = p.0.1; fits = t.1; bytes_are = t.0.parts; holds = (items_stops p.0.0).short p.0.1 t.0.rest_fits p.2 })
  ];
  unlisted = λ bytes fits e. elim (strings_err bytes BadKind e) [
    | inl p ↦ bad_is_not_short (no_number bytes BadKind p).0
    | inr p ↦
        let t = number_reads.takes bytes p.0 fits p.1 in
        (items_stops p.0.0).unlisted p.0.1 t.0.rest_fits p.2
  ];
  only = λ bytes d e. elim (strings_err bytes d e) [
    | inl p ↦ inl (no_number bytes d p).0
    | inr p ↦ (items_stops p.0.0).only p.0.1 d p.2
  ];
  short_again = short_strings;
  unlisted_again = λ bytes h. absurd h;
}

-- commands, hidden names, and a last field
after_strings_stops : {A : Type 0} (b : Reader A) (G V : List ℕ → Type 0) → Stops G V b → Stops (Either EndsInStrings strings FitsStrings G) (After strings FitsStrings (λ _. V)) (then_at strings_at b)
after_strings_stops b G V sb =
    restated (then_at strings_at b) (Either EndsInStrings strings FitsStrings G) (Either Never strings FitsStrings V) (After strings FitsStrings (λ _. V)) (second_alone strings FitsStrings V) (λ bytes h. inr h)
    (joined_stops (λ x y. (x, y)) strings FitsStrings strings_at b EndsInStrings Never G V strings_reads strings_stops sb)

pub lists_stops : (last : Reader Explicit) (Last U : List ℕ → Type 0) → Stops Last U last → Stops (EndsInLists Last) (AfterLists U) (lists_at last)
lists_stops last Last U s =
    after_strings_stops (then_at strings_at last) (Either EndsInStrings strings FitsStrings Last) (After strings FitsStrings (λ _. U)) (after_strings_stops last Last U s)

-- ---- explicit names

none_stops : Stops {A = Explicit} Never Never (λ bytes. Ok (Unknown, bytes))
none_stops = record {
  short = λ bytes fits e. ok_is_not_err (Ok (Unknown, bytes)) (Unknown, bytes) Short refl e;
  unlisted = λ bytes fits e. ok_is_not_err (Ok (Unknown, bytes)) (Unknown, bytes) BadKind refl e;
  only = λ bytes d e. absurd (ok_is_not_err (Ok (Unknown, bytes)) (Unknown, bytes) d refl e);
  short_again = λ bytes h. absurd h;
  unlisted_again = λ bytes h. absurd h;
}

names_stops : Stops EndsInStrings Never (made_at Known strings_at)
names_stops = made_stops Known strings_at EndsInStrings Never strings_stops

marked_stops : Stops EndsInMarked Never marked_at
marked_stops =
    made_stops (λ x. Marked x.0 x.1) (then_at strings_at string_at) EndsInMarked Never
    (restated (then_at strings_at string_at) EndsInMarked (Either Never strings FitsStrings Never) Never (never_two strings FitsStrings) (λ bytes h. absurd h)
    (joined_stops (λ x y. (x, y)) strings FitsStrings strings_at string_at EndsInStrings Never EndsInString Never strings_reads strings_stops string_stops))

pub named_stops : Stops (EndsInDoneExplicit forms.Plain) Never (done_explicit_at forms.Plain)
unfolding done_explicit_at
named_stops = names_stops

pub unnamed_stops : Stops (EndsInDoneExplicit forms.Old) Never (done_explicit_at forms.Old)
unfolding done_explicit_at
unnamed_stops = none_stops

done_short : (bytes : List ℕ) → IsBytes bytes → done_explicit_at forms.Marked bytes ≡ Err Short → EndsInDoneExplicit forms.Marked bytes
unfolding done_explicit_at
done_short [] fits e = tt
done_short (zero ∷ rest) fits e = absurd cc
done_short (suc zero ∷ rest) fits e = absurd cc
done_short (suc (suc zero) ∷ rest) fits e = (marked_stops).short rest (IsBytes-rest 2 rest fits) e
done_short (suc (suc (suc b)) ∷ rest) fits e = absurd cc

done_unlisted : (bytes : List ℕ) → IsBytes bytes → done_explicit_at forms.Marked bytes ≡ Err BadKind → HasUnlistedMarked bytes
unfolding done_explicit_at
done_unlisted [] fits e = absurd cc
done_unlisted (zero ∷ rest) fits e = tt
done_unlisted (suc zero ∷ rest) fits e = tt
done_unlisted (suc (suc zero) ∷ rest) fits e = (marked_stops).unlisted rest (IsBytes-rest 2 rest fits) e
done_unlisted (suc (suc (suc b)) ∷ rest) fits e = tt

done_only : (bytes : List ℕ) (d : DecodeFault) → done_explicit_at forms.Marked bytes ≡ Err d → (d ≡ Short) ⊎ (d ≡ BadKind)
unfolding done_explicit_at
done_only [] d e = inl cc
done_only (zero ∷ rest) d e = inr cc
done_only (suc zero ∷ rest) d e = inr cc
done_only (suc (suc zero) ∷ rest) d e = (marked_stops).only rest d e
done_only (suc (suc (suc b)) ∷ rest) d e = inr cc

done_short_again : (bytes : List ℕ) → EndsInDoneExplicit forms.Marked bytes → done_explicit_at forms.Marked bytes ≡ Err Short
unfolding done_explicit_at
done_short_again [] h = refl
done_short_again (zero ∷ rest) h = absurd h
done_short_again (suc zero ∷ rest) h = absurd h
done_short_again (suc (suc zero) ∷ rest) h = (marked_stops).short_again rest h
done_short_again (suc (suc (suc b)) ∷ rest) h = absurd h

done_unlisted_again : (bytes : List ℕ) → HasUnlistedMarked bytes → done_explicit_at forms.Marked bytes ≡ Err BadKind
unfolding done_explicit_at
done_unlisted_again [] h = absurd h
done_unlisted_again (zero ∷ rest) h = refl
done_unlisted_again (suc zero ∷ rest) h = refl
done_unlisted_again (suc (suc zero) ∷ rest) h = absurd h
done_unlisted_again (suc (suc (suc b)) ∷ rest) h = refl

pub done_marked_stops : Stops (EndsInDoneExplicit forms.Marked) HasUnlistedMarked (done_explicit_at forms.Marked)
done_marked_stops = record { short = done_short; unlisted = done_unlisted; only = done_only; short_again = done_short_again; unlisted_again = done_unlisted_again }

kept_short : (form : Form) (bytes : List ℕ) → IsBytes bytes → kept_explicit_at form bytes ≡ Err Short → EndsInKeptExplicit form bytes
unfolding kept_explicit_at
kept_short forms.Old bytes fits e = (none_stops).short bytes fits e
kept_short forms.Plain [] fits e = tt
kept_short forms.Plain (zero ∷ rest) fits e = absurd cc
kept_short forms.Plain (suc zero ∷ rest) fits e = (names_stops).short rest (IsBytes-rest 1 rest fits) e
kept_short forms.Plain (suc (suc b) ∷ rest) fits e = absurd cc
kept_short forms.Marked [] fits e = tt
kept_short forms.Marked (zero ∷ rest) fits e = absurd cc
kept_short forms.Marked (suc zero ∷ rest) fits e = (names_stops).short rest (IsBytes-rest 1 rest fits) e
kept_short forms.Marked (suc (suc zero) ∷ rest) fits e = (marked_stops).short rest (IsBytes-rest 2 rest fits) e
kept_short forms.Marked (suc (suc (suc b)) ∷ rest) fits e = absurd cc

kept_unlisted : (form : Form) (bytes : List ℕ) → IsBytes bytes → kept_explicit_at form bytes ≡ Err BadKind → HasUnlistedKnown form bytes
unfolding kept_explicit_at
kept_unlisted forms.Old bytes fits e = (none_stops).unlisted bytes fits e
kept_unlisted forms.Plain [] fits e = absurd cc
kept_unlisted forms.Plain (zero ∷ rest) fits e = absurd cc
kept_unlisted forms.Plain (suc zero ∷ rest) fits e = (names_stops).unlisted rest (IsBytes-rest 1 rest fits) e
kept_unlisted forms.Plain (suc (suc b) ∷ rest) fits e = tt
kept_unlisted forms.Marked [] fits e = absurd cc
kept_unlisted forms.Marked (zero ∷ rest) fits e = absurd cc
kept_unlisted forms.Marked (suc zero ∷ rest) fits e = (names_stops).unlisted rest (IsBytes-rest 1 rest fits) e
kept_unlisted forms.Marked (suc (suc zero) ∷ rest) fits e = (marked_stops).unlisted rest (IsBytes-rest 2 rest fits) e
kept_unlisted forms.Marked (suc (suc (suc b)) ∷ rest) fits e = tt

kept_only : (form : Form) (bytes : List ℕ) (d : DecodeFault) → kept_explicit_at form bytes ≡ Err d → (d ≡ Short) ⊎ (d ≡ BadKind)
unfolding kept_explicit_at
kept_only forms.Old bytes d e = (none_stops).only bytes d e
kept_only forms.Plain [] d e = inl cc
kept_only forms.Plain (zero ∷ rest) d e = absurd cc
kept_only forms.Plain (suc zero ∷ rest) d e = (names_stops).only rest d e
kept_only forms.Plain (suc (suc b) ∷ rest) d e = inr cc
kept_only forms.Marked [] d e = inl cc
kept_only forms.Marked (zero ∷ rest) d e = absurd cc
kept_only forms.Marked (suc zero ∷ rest) d e = (names_stops).only rest d e
kept_only forms.Marked (suc (suc zero) ∷ rest) d e = (marked_stops).only rest d e
kept_only forms.Marked (suc (suc (suc b)) ∷ rest) d e = inr cc

kept_short_again : (form : Form) (bytes : List ℕ) → EndsInKeptExplicit form bytes → kept_explicit_at form bytes ≡ Err Short
unfolding kept_explicit_at
kept_short_again forms.Old bytes h = absurd h
kept_short_again forms.Plain [] h = refl
kept_short_again forms.Plain (zero ∷ rest) h = absurd h
kept_short_again forms.Plain (suc zero ∷ rest) h = (names_stops).short_again rest h
kept_short_again forms.Plain (suc (suc b) ∷ rest) h = absurd h
kept_short_again forms.Marked [] h = refl
kept_short_again forms.Marked (zero ∷ rest) h = absurd h
kept_short_again forms.Marked (suc zero ∷ rest) h = (names_stops).short_again rest h
kept_short_again forms.Marked (suc (suc zero) ∷ rest) h = (marked_stops).short_again rest h
kept_short_again forms.Marked (suc (suc (suc b)) ∷ rest) h = absurd h

kept_unlisted_again : (form : Form) (bytes : List ℕ) → HasUnlistedKnown form bytes → kept_explicit_at form bytes ≡ Err BadKind
unfolding kept_explicit_at
kept_unlisted_again forms.Old bytes h = absurd h
kept_unlisted_again forms.Plain [] h = absurd h
kept_unlisted_again forms.Plain (zero ∷ rest) h = absurd h
kept_unlisted_again forms.Plain (suc zero ∷ rest) h = absurd h
kept_unlisted_again forms.Plain (suc (suc b) ∷ rest) h = refl
kept_unlisted_again forms.Marked [] h = absurd h
kept_unlisted_again forms.Marked (zero ∷ rest) h = absurd h
kept_unlisted_again forms.Marked (suc zero ∷ rest) h = absurd h
kept_unlisted_again forms.Marked (suc (suc zero) ∷ rest) h = absurd h
kept_unlisted_again forms.Marked (suc (suc (suc b)) ∷ rest) h = refl

pub kept_explicit_stops : (form : Form) → Stops (EndsInKeptExplicit form) (HasUnlistedKnown form) (kept_explicit_at form)
kept_explicit_stops form = record { short = kept_short form; unlisted = kept_unlisted form; only = kept_only form; short_again = kept_short_again form; unlisted_again = kept_unlisted_again form }
