-- Where brackets that may hold references are closed: just behind what such brackets hold.
use Rattle.std.proofs.Common.{◌≡◌, ℕ, zero, suc, ◌+◌, ◌-◌, Bool, true, false, cond, not, ◌&&◌, ◌==◌, List, [], ◌∷◌, ◌++◌, length, Option, Some, None, option_map, refl, sym, ap, subst, ◌∙◌, ◌⊎◌, inl, inr, arith, length-append}
use Rattle.std.proofs.lemmas.Bool.Decides.{nat_tests, Decides-eqb}
use Rattle.std.proofs.lemmas.List.{append_assoc}
use Rattle.mk_macros.specs.Reference.{closing_from}
use Rattle.mk_macros.specs.Spelled.{HoldsWhole, holds_nothing, holds_byte, holds_dollar, holds_reference}

-- a place that stands so many bytes further on
abbrev on : ℕ → Option ℕ → Option ℕ
on k place = option_map (λ n. n + k) place

on-zero : (place : Option ℕ) → on 0 place ≡ place
on-zero None = refl
on-zero (Some n) = let e : n + 0 ≡ n = omega arith in ap Some e

on-on : (a b k : ℕ) (place : Option ℕ) → a + b ≡ k → on a (on b place) ≡ on k place
on-on a b k None e = refl
on-on a b k (Some n) e = let m : n + b + a ≡ n + k = omega (arith, e) in ap Some m

on-some : (k n : ℕ) (place : Option ℕ) → on k place ≡ Some n → (m : ℕ) × (place ≡ Some m)
on-some k n None e = absurd (cc e)
on-some k n (Some m) e = (m, refl)

same_byte : (b : ℕ) → (b == b) ≡ true
same_byte b = (Decides-eqb b b).1 refl

pub either : (P : Type 0) (t : Bool) → (t ≡ true → P) → (t ≡ false → P) → P
either P true holds fails = holds refl
either P false holds fails = fails refl

module _ (opening close : ℕ) (apart : (close == 36) ≡ false) where
  abbrev from : ℕ → Bool → List ℕ → Option ℕ
  from depth dollar text = closing_from opening close depth dollar text

  -- One byte is read

  from-close : (depth : ℕ) (xs : List ℕ) → from (depth + 1) false (close ∷ xs) ≡ on 1 (from depth false xs)
  from-close depth xs =
      let deep : (depth + 1 == 0) ≡ false = grind (arith, nat_tests) in
      let back : depth + 1 - 1 ≡ depth = omega arith in
      ap (λ t. cond (t && (depth + 1 == 0)) (Some 0) (on 1 (from (cond t (depth + 1 - 1) (depth + 1)) (close == 36) xs))) (same_byte close)
      ∙ ap (λ t. cond t (Some 0) (on 1 (from (depth + 1 - 1) (close == 36) xs))) deep
      ∙ ap (λ d. on 1 (from d (close == 36) xs)) back ∙ ap (λ t. on 1 (from depth t xs)) apart

  from-end : (xs : List ℕ) → from 0 false (close ∷ xs) ≡ Some 0
  from-end xs = ap (λ t. cond (t && (0 == 0)) (Some 0) (on 1 (from (cond t (0 - 1) 0) (close == 36) xs))) (same_byte close)

  from-byte : (depth b : ℕ) (xs : List ℕ) → (b == close) ≡ false → from depth false (b ∷ xs) ≡ on 1 (from depth (b == 36) xs)
  from-byte depth b xs other =
      ap (λ t. cond (t && (depth == 0)) (Some 0) (on 1 (from (cond t (depth - 1) depth) (b == 36) xs))) other

  from-plain : (depth b : ℕ) (xs : List ℕ) → (b == close) ≡ false → (b == 36) ≡ false → from depth false (b ∷ xs) ≡ on 1 (from depth false xs)
  from-plain depth b xs other no_dollar = from-byte depth b xs other ∙ ap (λ t. on 1 (from depth t xs)) no_dollar

  dollar_other : (36 == close) ≡ false
  dollar_other = grind (arith, nat_tests, apart)

  from-dollar : (depth b : ℕ) (xs : List ℕ) → (b == opening) ≡ false → from depth false (36 ∷ b ∷ xs) ≡ on 2 (from depth false xs)
  from-dollar depth b xs other =
      from-byte depth 36 (b ∷ xs) dollar_other
      ∙ ap (λ t. on 1 (on 1 (from (cond t (depth + 1) depth) false xs))) other
      ∙ on-on 1 1 2 (from depth false xs) refl

  from-opening : (depth : ℕ) (xs : List ℕ) → from depth false (36 ∷ opening ∷ xs) ≡ on 2 (from (depth + 1) false xs)
  from-opening depth xs =
      from-byte depth 36 (opening ∷ xs) dollar_other
      ∙ ap (λ t. on 1 (on 1 (from (cond t (depth + 1) depth) false xs))) (same_byte opening)
      ∙ on-on 1 1 2 (from (depth + 1) false xs) refl

  -- What brackets hold is passed over

  passes : {inner : List ℕ} → HoldsWhole opening close inner → (depth : ℕ) (xs : List ℕ) → from depth false (inner ++ xs) ≡ on (length inner) (from depth false xs)
  passes holds_nothing depth xs = sym (on-zero (from depth false xs))
  passes (holds_byte {rest} b other no_dollar h) depth xs =
      from-plain depth b (rest ++ xs) other no_dollar ∙ ap (on 1) (passes h depth xs)
      ∙ on-on 1 (length rest) (length (b ∷ rest)) (from depth false xs) (omega arith)
  passes (holds_dollar {rest} b other h) depth xs =
      from-dollar depth b (rest ++ xs) other ∙ ap (on 2) (passes h depth xs)
      ∙ on-on 2 (length rest) (length (36 ∷ b ∷ rest)) (from depth false xs) (omega arith)
  passes (holds_reference {text} inner rest e h more) depth xs =
      let behind = close ∷ (rest ++ xs) in
      let spelled : text ++ xs ≡ 36 ∷ opening ∷ (inner ++ behind) =
      ap (λ t. t ++ xs) e ∙ ap (λ t. 36 ∷ opening ∷ t) (append_assoc inner (close ∷ rest) xs) in
      let long = ap length e in
      let size : length inner + (1 + length rest) + 2 ≡ length text = omega (arith, long, length-append inner (close ∷ rest)) in
      ap (from depth false) spelled ∙ from-opening depth (inner ++ behind)
      ∙ ap (on 2) (passes h (depth + 1) behind
      ∙ ap (on (length inner)) (from-close depth (rest ++ xs) ∙ ap (on 1) (passes more depth xs)))
      ∙ ap (λ o. on 2 (on (length inner) o)) (on-on 1 (length rest) (1 + length rest) (from depth false xs) refl)
      ∙ ap (on 2) (on-on (length inner) (1 + length rest) (length inner + (1 + length rest)) (from depth false xs) refl)
      ∙ on-on 2 (length inner + (1 + length rest)) (length text) (from depth false xs) (omega (arith, size))

  pub closing-some : (inner rest : List ℕ) → HoldsWhole opening close inner → from 0 false (inner ++ close ∷ rest) ≡ Some (length inner)
  closing-some inner rest h =
      let none : 0 + length inner ≡ length inner = omega arith in
      passes h 0 (close ∷ rest) ∙ ap (on (length inner)) (from-end rest) ∙ ap Some none

  -- A text that closes so many brackets

  abbrev Parts : (depth : ℕ) (text : List ℕ) → Type 0
  Parts zero text = (inner : List ℕ) × (rest : List ℕ) × HoldsWhole opening close inner × (text ≡ inner ++ close ∷ rest)
  Parts (suc depth) text = (inner : List ℕ) × (rest : List ℕ) × HoldsWhole opening close inner × (text ≡ inner ++ close ∷ rest) × Parts depth rest

  add_byte : (b : ℕ) (text : List ℕ) (depth : ℕ) → (b == close) ≡ false → (b == 36) ≡ false → Parts depth text → Parts depth (b ∷ text)
  add_byte b text zero other no_dollar (inner, rest, h, e) = (b ∷ inner, rest, holds_byte b other no_dollar h, ap (λ t. b ∷ t) e)
  add_byte b text (suc depth) other no_dollar (inner, rest, h, e, more) = (b ∷ inner, rest, holds_byte b other no_dollar h, ap (λ t. b ∷ t) e, more)

  add_dollar : (b : ℕ) (text : List ℕ) (depth : ℕ) → (b == opening) ≡ false → Parts depth text → Parts depth (36 ∷ b ∷ text)
  add_dollar b text zero other (inner, rest, h, e) = (36 ∷ b ∷ inner, rest, holds_dollar b other h, ap (λ t. 36 ∷ b ∷ t) e)
  add_dollar b text (suc depth) other (inner, rest, h, e, more) = (36 ∷ b ∷ inner, rest, holds_dollar b other h, ap (λ t. 36 ∷ b ∷ t) e, more)

  spelled_on : (text inner behind more rest : List ℕ) → text ≡ inner ++ close ∷ behind → behind ≡ more ++ close ∷ rest →
      36 ∷ opening ∷ text ≡ (36 ∷ opening ∷ (inner ++ close ∷ more)) ++ close ∷ rest
  spelled_on text inner behind more rest e d =
      ap (λ t. 36 ∷ opening ∷ t) (e ∙ ap (λ t. inner ++ close ∷ t) d ∙ sym (append_assoc inner (close ∷ more) (close ∷ rest)))

  add_reference : (text : List ℕ) (depth : ℕ) → Parts (suc depth) text → Parts depth (36 ∷ opening ∷ text)
  add_reference text zero (inner, behind, h, e, (more, rest, g, d)) =
      (36 ∷ opening ∷ (inner ++ close ∷ more), rest, holds_reference inner more refl h g, spelled_on text inner behind more rest e d)
  add_reference text (suc depth) (inner, behind, h, e, (more, rest, g, d, last)) =
      (36 ∷ opening ∷ (inner ++ close ∷ more), rest, holds_reference inner more refl h g, spelled_on text inner behind more rest e d, last)

  abbrev Found : (depth : ℕ) (text : List ℕ) → Type 0
  Found depth text = (n : ℕ) → from depth false text ≡ Some n → Parts depth text

  -- behind a closing byte
  found_close : (depth : ℕ) (text : List ℕ) → ((d : ℕ) → Found d text) → Found depth (close ∷ text)
  found_close zero text later n e = ([], text, holds_nothing, refl)
  found_close (suc depth) text later n e =
      let deep : suc depth ≡ depth + 1 = omega arith in
      let same : from (depth + 1) false (close ∷ text) ≡ Some n = subst (λ d. from d false (close ∷ text) ≡ Some n) deep e in
      let at = on-some 1 n (from depth false text) (sym (from-close depth text) ∙ same) in
      ([], text, holds_nothing, refl, later depth at.0 at.1)

  found_behind_dollar : (depth b : ℕ) (text : List ℕ) → ((d : ℕ) → Found d text) → Found depth (36 ∷ b ∷ text)
  found_behind_dollar depth b text later n e =
      either _ (b == opening)
      (λ same.
      let is : b ≡ opening = (Decides-eqb b opening).0 same in
      let f : from depth false (36 ∷ opening ∷ text) ≡ Some n = subst (λ x. from depth false (36 ∷ x ∷ text) ≡ Some n) is e in
      let at = on-some 2 n (from (depth + 1) false text) (sym (from-opening depth text) ∙ f) in
      let more : depth + 1 ≡ suc depth = omega arith in
      subst (λ x. Parts depth (36 ∷ x ∷ text)) (sym is) (add_reference text depth (subst (λ d. Parts d text) more (later (depth + 1) at.0 at.1))))
      (λ other.
      let at = on-some 2 n (from depth false text) (sym (from-dollar depth b text other) ∙ e) in
      add_dollar b text depth other (later depth at.0 at.1))

  found_byte : (depth b : ℕ) (text : List ℕ) → (b == close) ≡ false → (b == 36) ≡ false → ((d : ℕ) → Found d text) → Found depth (b ∷ text)
  found_byte depth b text other no_dollar later n e =
      let at = on-some 1 n (from depth false text) (sym (from-plain depth b text other no_dollar) ∙ e) in
      add_byte b text depth other no_dollar (later depth at.0 at.1)

  dollar_alone : (depth : ℕ) → Found depth (36 ∷ [])
  dollar_alone depth n e = let none : from depth false (36 ∷ []) ≡ None = from-byte depth 36 [] dollar_other in absurd (cc (e, none))

  found_next : (depth b : ℕ) (text : List ℕ) → ((d : ℕ) → Found d text) → ((b ≡ 36) → Found depth (36 ∷ text)) → Found depth (b ∷ text)
  found_next depth b text later dollar =
      either _ (b == close)
      (λ same. subst (λ x. Found depth (x ∷ text)) (sym ((Decides-eqb b close).0 same)) (found_close depth text later))
      (λ other. either _ (b == 36)
      (λ same. let is : b ≡ 36 = (Decides-eqb b 36).0 same in subst (λ x. Found depth (x ∷ text)) (sym is) (dollar is))
      (λ no_dollar. found_byte depth b text other no_dollar later))

  found : (text : List ℕ) (depth : ℕ) → Found depth text
  found [] depth = λ n e. absurd (cc e)
  found (b ∷ []) depth = found_next depth b [] (λ d. found [] d) (λ is. dollar_alone depth)
  found (b ∷ c ∷ text) depth =
      found_next depth b (c ∷ text) (λ d. found (c ∷ text) d) (λ is. found_behind_dollar depth c text (λ d. found text d))

  -- Nothing closes the brackets, or they are closed behind what they hold

  abbrev Open : List ℕ → Type 0
  Open behind = (inner rest : List ℕ) → HoldsWhole opening close inner → behind ≡ inner ++ close ∷ rest → ⊥

  abbrev Closed : List ℕ → Type 0
  Closed behind = (inner : List ℕ) × (rest : List ℕ) × (behind ≡ inner ++ close ∷ rest) × HoldsWhole opening close inner

  parts_closed : (behind : List ℕ) → Parts 0 behind → Closed behind
  parts_closed behind (inner, rest, h, e) = (inner, rest, e, h)

  pub closing-none : (behind : List ℕ) → Open behind → from 0 false behind ≡ None
  closing-none behind h = none_at (from 0 false behind) refl
    where
      none_at : (place : Option ℕ) → from 0 false behind ≡ place → place ≡ None
      none_at None e = refl
      none_at (Some n) e = let parts = parts_closed behind (found behind 0 n e) in absurd (h parts.0 parts.1 parts.3 parts.2)

  pub cut_whole : (behind : List ℕ) → Open behind ⊎ Closed behind
  cut_whole behind = cut_at (from 0 false behind) refl
    where
      cut_at : (place : Option ℕ) → from 0 false behind ≡ place → Open behind ⊎ Closed behind
      cut_at None none = inl (λ inner rest h e. let some = closing-some inner rest h in let same = ap (from 0 false) e in absurd (cc (none, some, same)))
      cut_at (Some n) e = inr (parts_closed behind (found behind 0 n e))
