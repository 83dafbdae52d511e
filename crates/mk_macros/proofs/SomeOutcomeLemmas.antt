-- A text has an outcome, for what definitions and a line give: each macro that is opened has one text less to open.
use Rattle.std.proofs.Common.{◌≡◌, ℕ, zero, suc, ◌+◌, ◌<◌, ◌≤◌, nat_lt, Bool, true, false, cond, ◌||◌, List, [], ◌∷◌, ◌++◌, take, drop, length, Option, Some, None, refl, sym, ap, subst, ◌∙◌, ◌⊎◌, inl, inr, arith, bytes_eq}
use Rattle.std.proofs.lemmas.Bool.Decides.{nat_tests}
use Rattle.std.proofs.lemmas.Slice.Eq.{bytes_eq-Decides}
use Rattle.mk_macros.specs.declared.dynamic.Dynamic.{Dynamic}
use Rattle.mk_macros.specs.Dynamic.{dynamic_value}
use Rattle.mk_macros.specs.Function.{function_in}
use Rattle.mk_macros.specs.Reference.{Use, whole, words_changed, used, Piece, plain, reference, unclosed, nested, after_colon, at_colon, named, Front, nothing, first, front}
use Rattle.mk_macros.specs.Words.{place_of, by_pattern, pattern_of}
use Rattle.mk_macros.specs.Ranks.{Ranks, in_force, ranks_at, meaning_from, meaning_of}
use Rattle.mk_macros.specs.Expansion.{Meaning, undefined, dynamic, defined, refers_to_itself, not_closed, dollar_in_brackets, too_long, calls_function, Outcome, gives, fails, limit, IsOneOf, Expands, ends, goes_on, is_too_long, meets_fault, Adds, adds_bytes, is_unclosed, is_nested, is_undefined, is_function, is_dynamic, is_long_dynamic, is_loop, has_value, has_fault, has_name, has_no_name}
use Rattle.mk_macros.specs.Spelled.{SpellsFront}
use Rattle.mk_macros.specs.Lookup.{Progress, unseen, opened}
use Rattle.mk_macros.proofs.ExpansionLemmas.{SetsProgress}
use Rattle.mk_macros.proofs.StateLemmas.{unseen_cost, unseen_cost-enter}
use Rattle.mk_macros.proofs.BracketLemmas.{either}
use Rattle.mk_macros.proofs.SpelledLemmas.{front_said, piece_shorter, inner_shorter}

or_true : (a b : Bool) → b ≡ true → (a || b) ≡ true
or_true true b h = refl
or_true false b h = h

lt_or_le : (a b : ℕ) → (a < b) ⊎ (b ≤ a)
lt_or_le a b = either _ (nat_lt a b) (λ t. inl (grind (arith, nat_tests))) (λ f. inr (grind (arith, nat_tests)))

-- The names that are opened

abbrev is_one : (name : List ℕ) (names : List (List ℕ)) → Bool
is_one name [] = false
is_one name (n ∷ names) = bytes_eq name n || is_one name names

one_said : (name : List ℕ) (names : List (List ℕ)) → is_one name names ≡ true → IsOneOf name names
one_said name [] h = absurd (cc h)
one_said name (n ∷ names) h =
    either _ (bytes_eq name n)
    (λ e. inl ((bytes_eq-Decides name n).0 e))
    (λ e. inr (one_said name names (ap (λ t. t || is_one name names) (sym e) ∙ h)))

one_back : (name : List ℕ) (names : List (List ℕ)) → IsOneOf name names → is_one name names ≡ true
one_back name [] h = absurd h
one_back name (n ∷ names) (inl e) = ap (λ t. t || is_one name names) ((bytes_eq-Decides name n).1 e)
one_back name (n ∷ names) (inr h) = or_true (bytes_eq name n) (is_one name names) (one_back name names h)

bytes_apart : (a b : List ℕ) → (a ≡ b → ⊥) → bytes_eq a b ≡ false
bytes_apart a b apart = either _ (bytes_eq a b) (λ e. absurd (apart ((bytes_eq-Decides a b).0 e))) (λ e. e)

abbrev progress_of : List (List ℕ) → List ℕ → Progress
progress_of names name = cond (is_one name names) opened unseen

opens : (names : List (List ℕ)) (name : List ℕ) → SetsProgress (progress_of names) name opened (progress_of (name ∷ names))
opens names name = record {
  at = ap (λ t. cond (t || is_one name names) opened unseen) ((bytes_eq-Decides name name).1 refl);
  others = λ n apart. ap (λ t. cond (t || is_one n names) opened unseen) (bytes_apart n name apart);
}

defined_from : (value text : Option (List ℕ)) (bytes : List ℕ) → meaning_from value text ≡ defined bytes → text ≡ Some bytes
defined_from (Some value) text bytes e = cc
defined_from None (Some text) bytes e = let same : text ≡ bytes = cc in ap Some same
defined_from None None bytes e = cc

module _ (wide : Bool) (definitions : List (List ℕ × Ranks)) (line : Dynamic) where
  abbrev meaning : List ℕ → Meaning
  meaning name = meaning_of (ranks_at definitions) line name

  -- what is left to open
  abbrev cost : List (List ℕ) → ℕ
  cost names = unseen_cost (progress_of names) definitions

  abbrev Has : (names : List (List ℕ)) (made text : List ℕ) → Type 0
  Has names made text = (o : Outcome) × Expands wide meaning names made text o

  -- texts have outcomes where less is left to open
  abbrev Deeper : ℕ → Type 0
  Deeper fuel = (names : List (List ℕ)) (text : List ℕ) → cost names < fuel → Has names [] text

  entered : (names : List (List ℕ)) (name text : List ℕ) → meaning name ≡ defined text → is_one name names ≡ false → cost (name ∷ names) < cost names
  entered names name text is apart =
      let new : progress_of names name ≡ unseen = ap (λ t. cond t opened unseen) apart in
      let has : in_force (ranks_at definitions name) ≡ Some text = defined_from (dynamic_value line name) (in_force (ranks_at definitions name)) text is in
      let pays = unseen_cost-enter (progress_of names) (progress_of (name ∷ names)) name text new (opens names name) definitions has in
      omega (arith, pays)

  module _ (fuel : ℕ) (deeper : Deeper fuel) (names : List (List ℕ)) (h : cost names ≤ fuel) where
    valued : (name : List ℕ) (use_of : Use) (text : List ℕ) → meaning name ≡ defined text → (IsOneOf name names → ⊥) → Has (name ∷ names) [] text → (o : Outcome) × Adds wide meaning names (reference name use_of) o
    valued name use_of text e apart (gives value, x) = (gives (used use_of value), has_value text value e apart x)
    valued name use_of text e apart (fails fault, x) = (fails fault, has_fault text fault e apart x)

    dynamic_some : (name : List ℕ) (use_of : Use) (value : List ℕ) → meaning name ≡ dynamic value → (limit wide < length value) ⊎ (length value ≤ limit wide) → (o : Outcome) × Adds wide meaning names (reference name use_of) o
    dynamic_some name use_of value e (inl long) = (fails too_long, is_long_dynamic value e long)
    dynamic_some name use_of value e (inr fits) = (gives (used use_of value), is_dynamic value e fits)

    undefined_some : (name : List ℕ) (use_of : Use) → meaning name ≡ undefined → (function : Option (List ℕ)) → function_in wide name ≡ function → (o : Outcome) × Adds wide meaning names (reference name use_of) o
    undefined_some name use_of e None f = (gives [], is_undefined e f)
    undefined_some name use_of e (Some word) f = (fails (calls_function word), is_function word e f)

    reference_some : (name : List ℕ) (use_of : Use) (m : Meaning) → meaning name ≡ m → (o : Outcome) × Adds wide meaning names (reference name use_of) o
    reference_some name use_of undefined e = undefined_some name use_of e (function_in wide name) refl
    reference_some name use_of (dynamic value) e = dynamic_some name use_of value e (lt_or_le (limit wide) (length value))
    reference_some name use_of (defined text) e =
        either _ (is_one name names)
        (λ t. (fails (refers_to_itself name), is_loop text e (one_said name names t)))
        (λ f. valued name use_of text e (λ one. absurd (cc (one_back name names one, f)))
        (deeper (name ∷ names) text (let less = entered names name text e f in omega (arith, less, h))))

    -- what stands behind a piece has an outcome
    abbrev Later : List ℕ → Type 0
    Later text = (made rest : List ℕ) → length rest < length text → Has names made rest

    -- the reference that comes of the brackets' expansion
    colon_some : (inner : List ℕ) (colon : ℕ) (change : List ℕ) (equals : Option ℕ) → (o : Outcome) × Adds wide meaning names (after_colon inner colon change equals) o
    colon_some inner colon change None = reference_some inner whole (meaning inner) refl
    colon_some inner colon change (Some equals) =
        let name = take colon inner in
        reference_some name (words_changed (by_pattern (pattern_of (take equals change) (drop (equals + 1) change)))) (meaning name) refl

    at_colon_some : (inner : List ℕ) (colon : Option ℕ) → (o : Outcome) × Adds wide meaning names (at_colon inner colon) o
    at_colon_some inner None = reference_some inner whole (meaning inner) refl
    at_colon_some inner (Some colon) = let change = drop (colon + 1) inner in colon_some inner colon change (place_of 61 change)

    inner_some : (inner : List ℕ) → wide ≡ true → Has names [] inner → (o : Outcome) × Adds wide meaning names (nested inner) o
    inner_some inner w (gives bytes, e) = let more = at_colon_some bytes (place_of 58 bytes) in (more.0, has_name bytes w e more.1)
    inner_some inner w (fails fault, e) = (fails fault, has_no_name fault w e)

    piece_some : (text : List ℕ) → Later text → (piece : Piece) (rest : List ℕ) → front wide text ≡ first piece rest → (o : Outcome) × Adds wide meaning names piece o
    piece_some text later (plain bytes) rest e = (gives bytes, adds_bytes)
    piece_some text later (reference name use_of) rest e = reference_some name use_of (meaning name) refl
    piece_some text later unclosed rest e = (fails not_closed, is_unclosed)
    piece_some text later (nested inner) rest e =
        either _ wide
        (λ w. inner_some inner w (later [] inner (inner_shorter wide text inner rest (subst (SpellsFront wide text) e (front_said wide text)))))
        (λ w. (fails dollar_in_brackets, is_nested w))

    sized : (made text : List ℕ) → Later text → (piece : Piece) (rest : List ℕ) → front wide text ≡ first piece rest → (bytes : List ℕ) → Adds wide meaning names piece (gives bytes) →
        (limit wide < length (made ++ bytes)) ⊎ (length (made ++ bytes) ≤ limit wide) → Has names made text
    sized made text later piece rest e bytes a (inl long) = (fails too_long, is_too_long piece rest bytes e a long)
    sized made text later piece rest e bytes a (inr fits) =
        let more = later (made ++ bytes) rest (piece_shorter wide text piece rest (subst (SpellsFront wide text) e (front_said wide text))) in
        (more.0, goes_on piece rest bytes e a fits more.1)

    added : (made text : List ℕ) → Later text → (piece : Piece) (rest : List ℕ) → front wide text ≡ first piece rest → ((o : Outcome) × Adds wide meaning names piece o) → Has names made text
    added made text later piece rest e (gives bytes, a) = sized made text later piece rest e bytes a (lt_or_le (limit wide) (length (made ++ bytes)))
    added made text later piece rest e (fails fault, a) = (fails fault, meets_fault piece rest fault e a)

    front_some : (made text : List ℕ) → Later text → (f : Front) → front wide text ≡ f → Has names made text
    front_some made text later nothing e = (gives made, ends e)
    front_some made text later (first piece rest) e = added made text later piece rest e (piece_some text later piece rest e)

    text_some : (n : ℕ) (made text : List ℕ) → length text ≤ n → Has names made text
    text_some zero made text short = front_some made text (λ m rest l. absurd (omega (arith, l, short))) (front wide text) refl
    text_some (suc n) made text short = front_some made text (λ m rest l. text_some n m rest (omega (arith, l, short))) (front wide text) refl

  all_some : (fuel : ℕ) → Deeper fuel
  all_some zero names text h = absurd (omega (arith, h))
  all_some (suc fuel) names text h = text_some fuel (all_some fuel) names (omega (arith, h)) (length text) [] text (omega arith)

  pub outcome_some : (text : List ℕ) → (o : Outcome) × Expands wide meaning [] [] text o
  outcome_some text = all_some (suc (cost [])) [] text (omega arith)
