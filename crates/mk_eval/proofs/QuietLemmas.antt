-- Rules whose texts have no sign give themselves.
use Rattle.std.proofs.Common.{◌≡◌, ℕ, Bool, true, false, cond, ◌&&◌, ◌||◌, ◌==◌, List, [], ◌∷◌, ◌++◌, filter, flat_map, refl, sym, ap, subst, ◌∙◌, append-nil}
use Rattle.std.specs.List.{list_any, slice_split, onto_first}
use Rattle.byte_strings.specs.Blanks.{is_blank, is_nonempty, first_word, words}
use Rattle.mk_profile.specs.Profile.{is_wide}
use Rattle.mk_macros.specs.Ranks.{Defined}
use Rattle.mk_lines.specs.Text.{is_dollar, is_backslash, begins_with}
use Rattle.mk_lines.specs.References.{plain, nothing, Whole, Without}
use Rattle.mk_lines.proofs.QuotedLemmas.{all_seen}
use Rattle.mk_lines.proofs.ReferenceLemmas.{either, or_false}
use Rattle.mk_short_names.specs.Short.{begins_here}
use Rattle.mk_wildcards.specs.Pattern.{is_wildcard}
use Rattle.mk_reader.specs.declared.item.Rule.{Rule}
use Rattle.mk_reader.specs.declared.item.Item.TheVariants as item
use Rattle.mk_reader.proofs.WordLemmas.{begins_with_first_word}
use Rattle.mk_reader.proofs.SpecialLemmas.{without_dot}
use Rattle.mk_eval.specs.Makefile.{behind}
use Rattle.mk_eval.specs.Short.{has_quoted}
use Rattle.mk_eval.specs.PlainRules.{IsPlainText}
use Rattle.mk_eval.specs.Quiet.{is_sign, has_sign_behind, GivesItself}
use Rattle.mk_eval.proofs.BehindLemmas.{behind_wide, behind_strict}
use Rattle.mk_eval.proofs.OutcomeLemmas.{rule_given}
use Rattle.mk_eval.proofs.RuleLemmas.{macro_never}
use Rattle.mk_eval.proofs.ShortLemmas.{none_quoted}

and_false : (t : Bool) → (t && false) ≡ false
and_false true = refl
and_false false = refl

-- No byte is a sign

record Quiet (b : ℕ) : Type 0 where
  star : (b == 42) ≡ false
  colon : (b == 58) ≡ false
  equals : (b == 61) ≡ false
  question : (b == 63) ≡ false
  bracket : (b == 91) ≡ false
  backslash : (b == 92) ≡ false
  dollar : (b == 36) ≡ false

quiet : (b : ℕ) → is_sign b ≡ false → Quiet b
quiet b h =
    let four = or_false (b == 42 || b == 58 || (b == 61 || b == 63) || (b == 91 || b == 92)) (b == 36) h in
    let three = or_false (b == 42 || b == 58 || (b == 61 || b == 63)) (b == 91 || b == 92) four.0 in
    let two = or_false (b == 42 || b == 58) (b == 61 || b == 63) three.0 in
    let one = or_false (b == 42) (b == 58) two.0 in
    let middle = or_false (b == 61) (b == 63) two.1 in
    let last = or_false (b == 91) (b == 92) three.1 in
    record { star = one.0; colon = one.1; equals = middle.0; question = middle.1; bracket = last.0; backslash = last.1; dollar = four.1 }

no_sign : (before : ℕ) (text : List ℕ) → has_sign_behind before text ≡ false → list_any is_sign text ≡ false
no_sign before [] h = refl
no_sign before (b ∷ bs) h =
    let parts = or_false (is_sign b || (before == 46 && b == 47)) (has_sign_behind b bs) h in
    ap (λ t. t || list_any is_sign bs) (or_false (is_sign b) (before == 46 && b == 47) parts.0).0 ∙ no_sign b bs parts.1

none_of : (p : ℕ → Bool) → ((b : ℕ) → Quiet b → p b ≡ false) → (text : List ℕ) → list_any is_sign text ≡ false → list_any p text ≡ false
none_of p f [] h = refl
none_of p f (b ∷ bs) h =
    let parts = or_false (is_sign b) (list_any is_sign bs) h in
    ap (λ t. t || list_any p bs) (f b (quiet b parts.0)) ∙ none_of p f bs parts.1

no_wildcard : (b : ℕ) → Quiet b → is_wildcard b ≡ false
no_wildcard b q = ap (λ t. t || (b == 63 || b == 91)) q.star ∙ ap (λ t. t || b == 91) q.question ∙ q.bracket

whole : (byte : ℕ) → ((b : ℕ) → Quiet b → (b == byte) ≡ false) → (text : List ℕ) → list_any is_sign text ≡ false → Whole byte byte text
whole byte f [] h = ([], refl, tt)
whole byte f (b ∷ bs) h =
    let parts = or_false (is_sign b) (list_any is_sign bs) h in
    let q = quiet b parts.0 in
    let more = whole byte f bs parts.1 in
    (plain b ∷ more.0, ap (λ xs. b ∷ xs) more.1, ((q.dollar, ap (λ t. t || b == byte) (f b q) ∙ f b q), more.2))

without : (byte : ℕ) → ((b : ℕ) → Quiet b → (b == byte) ≡ false) → (text : List ℕ) → list_any is_sign text ≡ false → Without byte byte text
without byte f text h = let w = whole byte f text h in (w.0, nothing, w.1 ∙ sym (append-nil (flat_map _ w.0)), w.2, tt)

-- No word begins with `./`

abbrev first_of : List (List ℕ) → List ℕ
first_of [] = []
first_of (w ∷ ws) = w

slash_first : (bs : List ℕ) → begins_with 47 bs ≡ false → begins_with 47 (first_of (slice_split is_blank bs)) ≡ false
slash_first [] h = refl
slash_first (b ∷ bs) h = at (is_blank b) (slice_split is_blank bs)
  where
    at : (t : Bool) (ys : List (List ℕ)) → begins_with 47 (first_of (cond t ([] ∷ ys) (onto_first b ys))) ≡ false
    at true ys = refl
    at false [] = h
    at false (y ∷ ys) = h

here_or_not : (b : ℕ) (w : List ℕ) → begins_here (b ∷ w) ≡ (b == 46 && begins_with 47 w)
here_or_not b [] = sym (and_false (b == 46))
here_or_not b (c ∷ more) = refl

slash_next : (b : ℕ) (bs : List ℕ) → has_sign_behind b bs ≡ false → (b == 46 && begins_with 47 bs) ≡ false
slash_next b [] h = and_false (b == 46)
slash_next b (c ∷ cs) h = (or_false (is_sign c) (b == 46 && c == 47) (or_false (is_sign c || (b == 46 && c == 47)) (has_sign_behind c cs) h).0).1

none_here : (b : ℕ) (bs : List ℕ) → has_sign_behind b bs ≡ false → (b == 46 && begins_with 47 (first_of (slice_split is_blank bs))) ≡ false
none_here b bs h =
    let w = first_of (slice_split is_blank bs) in
    either _ (b == 46)
    (λ dot. ap (λ t. t && begins_with 47 w) dot ∙ slash_first bs (sym (ap (λ t. t && begins_with 47 bs) dot) ∙ slash_next b bs h))
    (λ other. ap (λ t. t && begins_with 47 w) other)

none_split : (before : ℕ) (text : List ℕ) → has_sign_behind before text ≡ false → list_any begins_here (slice_split is_blank text) ≡ false
none_split before [] h = refl
none_split before (b ∷ bs) h = at (is_blank b) (slice_split is_blank bs) (none_here b bs behind_b) (none_split b bs behind_b)
  where
    behind_b : has_sign_behind b bs ≡ false
    behind_b = (or_false (is_sign b || (before == 46 && b == 47)) (has_sign_behind b bs) h).1

    at : (t : Bool) (ys : List (List ℕ)) → (b == 46 && begins_with 47 (first_of ys)) ≡ false → list_any begins_here ys ≡ false → list_any begins_here (cond t ([] ∷ ys) (onto_first b ys)) ≡ false
    at true ys first more = more
    at false [] first more = refl
    at false (y ∷ ys) first more =
        ap (λ t. t || list_any begins_here ys) (here_or_not b y ∙ first) ∙ (or_false (begins_here y) (list_any begins_here ys) more).1

none_filtered : (p q : List ℕ → Bool) (xs : List (List ℕ)) → list_any p xs ≡ false → list_any p (filter q xs) ≡ false
none_filtered p q [] h = refl
none_filtered p q (x ∷ xs) h =
    let parts = or_false (p x) (list_any p xs) h in
    at (q x) parts.0 (none_filtered p q xs parts.1)
  where
    at : (t : Bool) → p x ≡ false → list_any p (filter q xs) ≡ false → list_any p (cond t (x ∷ filter q xs) (filter q xs)) ≡ false
    at true first more = ap (λ t. t || list_any p (filter q xs)) first ∙ more
    at false first more = more

no_word_here : (text : List ℕ) → has_sign_behind 0 text ≡ false → list_any begins_here (words text) ≡ false
unfolding words
no_word_here text h = none_filtered begins_here is_nonempty (slice_split is_blank text) (none_split 0 text h)

-- Texts and rules

text_plain : (text : List ℕ) → has_sign_behind 0 text ≡ false → IsPlainText text
text_plain text h =
    let none = no_sign 0 text h in (
      none_of is_dollar (λ b q. q.dollar) text none,
      none_of is_wildcard no_wildcard text none,
      ap (λ t. t || has_quoted text) (no_word_here text h) ∙ none_quoted text (none_of is_backslash (λ b q. q.backslash) text none),
    )

front_begins : (byte : ℕ) (word rest : List ℕ) → begins_with byte (word ++ rest) ≡ false → begins_with byte word ≡ false
front_begins byte [] rest h = refl
front_begins byte (b ∷ word) rest h = h

dot_first : (text : List ℕ) → begins_with 46 text ≡ false → begins_with 46 (first_word text) ≡ false
dot_first text h = let own = begins_with_first_word text in front_begins 46 (first_word text) own.0 (ap (begins_with 46) (sym own.1) ∙ h)

behind_rule : (given : Defined) (rule : Rule) → behind given (item.Rule rule ∷ []) ≡ given
behind_rule given rule = either _ (is_wide given.language) (behind_wide given (item.Rule rule ∷ [])) (behind_strict given (item.Rule rule ∷ []))

pub rule_itself : (rule : Rule) → begins_with 46 rule.targets ≡ false → has_sign_behind 0 rule.targets ≡ false → has_sign_behind 0 rule.prerequisites ≡ false → GivesItself (item.Rule rule)
rule_itself rule dot targets prerequisites =
    let none = no_sign 0 rule.prerequisites prerequisites in
    let macro_free = macro_never rule.prerequisites (without 61 (λ b q. q.equals) rule.prerequisites none) in
    let seen = all_seen rule.prerequisites (none_of is_backslash (λ b q. q.backslash) rule.prerequisites none) in
    let colon_free = subst (Without 58 58) (sym seen) (without 58 (λ b q. q.colon) rule.prerequisites none) in (
      (λ given. behind_rule given rule),
      (λ world given.
          rule_given world (is_wide given.language) rule given (without_dot given.language (first_word rule.targets) (dot_first rule.targets dot))
          (λ wide. ((λ defines. cc (macro_free.1 defines)), colon_free, text_plain rule.targets targets, text_plain rule.prerequisites prerequisites))),
    )
