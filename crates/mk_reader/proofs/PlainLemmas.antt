-- Plain rule lines: read in one go they are what the grammar says of them.
use Rattle.std.proofs.Common.{◌≡◌, ℕ, Bool, true, false, not, ◌&&◌, ◌||◌, ◌==◌, List, [], ◌∷◌, ◌++◌, length, drop, flat_map, refl, sym, ap, subst, ◌∙◌, inl, inr, append-nil, Option, Some, None, Ok}
use Rattle.std.proofs.lemmas.Bool.Decides.{Decides-eqb}
use Rattle.std.proofs.lemmas.List.Folds.{list_all-append, list_any-append}
use Rattle.std.specs.List.{list_any, list_all}
use Rattle.byte_strings.specs.Blanks.{is_blank, trimmed, first_word}
use Rattle.mk_profile.specs.declared.profile.Profile.{Profile}
use Rattle.mk_profile.specs.Profile.{is_wide}
use Rattle.mk_lines.specs.Text.{is_backslash, is_empty, begins_with, is_plain, is_text}
use Rattle.mk_lines.specs.Quoted.{signs_in}
use Rattle.mk_reader.specs.Form.{include_kind}
use Rattle.mk_reader.specs.Plain.{is_sign, is_quiet, may_include, IsPlainLine, plain_rule, IsPlainRule}
use Rattle.mk_lines.specs.References.{plain, nothing, Lacks, Whole, Without}
use Rattle.mk_reader.specs.Spelled.{Padded, BeginsInclude, IsInclude, IsNoInclude, IsRuleEnd, IsShell, SpellsRule}
use Rattle.mk_reader.specs.Grammar.{IsStatement}
use Rattle.mk_reader.specs.Comments.{HasContent}
use Rattle.mk_reader.specs.declared.form.Form.TheVariants as form
use Rattle.mk_lines.proofs.QuotedLemmas.{none_quoted}
use Rattle.mk_lines.proofs.ReferenceLemmas.{either, or_false, and_true}
use Rattle.mk_reader.proofs.BlankLemmas.{trimmed_padded}
use Rattle.mk_reader.proofs.WordLemmas.{begins_with_first_word, has_special, opens_kind, kind_opens}
use Rattle.mk_reader.proofs.SpecialLemmas.{without_dot}
use Rattle.mk_lines.proofs.TextLemmas.{all_plain}
use Rattle.mk_reader.proofs.ContentLemmas.{content_said, alone}
use Rattle.mk_reader.proofs.GrammarLemmas.{text_back}

-- Bytes

turned : (t : Bool) → not t ≡ true → t ≡ false
turned true h = absurd (cc h)
turned false h = refl

-- none of the signs is a quiet byte
record Quiet (b : ℕ) : Type 0 where
  plain : is_plain b ≡ true
  hash : (b == 35) ≡ false
  dollar : (b == 36) ≡ false
  colon : (b == 58) ≡ false
  semicolon : (b == 59) ≡ false
  equals : (b == 61) ≡ false
  backslash : (b == 92) ≡ false

quiet : (b : ℕ) → is_quiet b ≡ true → Quiet b
quiet b h =
    let parts = and_true (is_plain b) (not (is_sign b)) h in
    let five = or_false (b == 35 || b == 36 || b == 58 || b == 59 || b == 61) (b == 92) (turned (is_sign b) parts.1) in
    let four = or_false (b == 35 || b == 36 || b == 58 || b == 59) (b == 61) five.0 in
    let three = or_false (b == 35 || b == 36 || b == 58) (b == 59) four.0 in
    let two = or_false (b == 35 || b == 36) (b == 58) three.0 in
    let one = or_false (b == 35) (b == 36) two.0 in
    record { plain = parts.0; hash = one.0; dollar = one.1; colon = two.1; semicolon = three.1; equals = four.1; backslash = five.1 }

-- a byte of text that begins no comment
abbrev is_clean : ℕ → Bool
is_clean b = is_plain b && not (b == 35)

quiet_clean : (b : ℕ) → is_quiet b ≡ true → is_clean b ≡ true
quiet_clean b h = let q = quiet b h in ap (λ t. t && not (b == 35)) q.plain ∙ ap not q.hash

blank_clean : (b : ℕ) → is_blank b ≡ true → is_clean b ≡ true
blank_clean b h =
    either _ (b == 32)
    (λ e. ap is_clean ((Decides-eqb b 32).0 e))
    (λ f. ap is_clean ((Decides-eqb b 9).0 (ap (λ t. t || b == 9) (sym f) ∙ h)))

clean_no_hash : (b : ℕ) → is_clean b ≡ true → (b == 35) ≡ false
clean_no_hash b h = turned (b == 35) (and_true (is_plain b) (not (b == 35)) h).1

-- Lists of bytes

all_more : (p q : ℕ → Bool) → ((b : ℕ) → p b ≡ true → q b ≡ true) → (xs : List ℕ) → list_all p xs ≡ true → list_all q xs ≡ true
all_more p q f [] h = refl
all_more p q f (b ∷ bs) h = let parts = and_true (p b) (list_all p bs) h in ap (λ t. t && list_all q bs) (f b parts.0) ∙ all_more p q f bs parts.1

all_both : (p : ℕ → Bool) (xs ys : List ℕ) → list_all p xs ≡ true → list_all p ys ≡ true → list_all p (xs ++ ys) ≡ true
all_both p xs ys h g = list_all-append p xs ys ∙ ap (λ t. t && list_all p ys) h ∙ g

lacks : (p : ℕ → Bool) (byte : ℕ) → ((b : ℕ) → p b ≡ true → (b == byte) ≡ false) → (xs : List ℕ) → list_all p xs ≡ true → Lacks byte xs
lacks p byte f [] h = refl
lacks p byte f (b ∷ bs) h = let parts = and_true (p b) (list_all p bs) h in ap (λ t. t || list_any (λ c. c == byte) bs) (f b parts.0) ∙ lacks p byte f bs parts.1

whole : (one other : ℕ) → ((b : ℕ) → is_quiet b ≡ true → (b == one || b == other) ≡ false) → (xs : List ℕ) → list_all is_quiet xs ≡ true → Whole one other xs
whole one other f [] h = ([], refl, tt)
whole one other f (b ∷ bs) h =
    let parts = and_true (is_quiet b) (list_all is_quiet bs) h in
    let more = whole one other f bs parts.1 in
    (plain b ∷ more.0, ap (λ xs. b ∷ xs) more.1, (((quiet b parts.0).dollar, f b parts.0), more.2))

no_colon_or_equals : (b : ℕ) → is_quiet b ≡ true → (b == 61 || b == 58) ≡ false
no_colon_or_equals b h = let q = quiet b h in ap (λ t. t || b == 58) q.equals ∙ q.colon

no_semicolon : (b : ℕ) → is_quiet b ≡ true → (b == 59 || b == 59) ≡ false
no_semicolon b h = let q = quiet b h in ap (λ t. t || b == 59) q.semicolon ∙ q.semicolon

without : (xs : List ℕ) → list_all is_quiet xs ≡ true → Without 59 59 xs
without xs h = let w = whole 59 59 no_semicolon xs h in (w.0, nothing, w.1 ∙ sym (append-nil (flat_map _ w.0)), w.2, tt)

-- The colon

begins_quiet : (byte : ℕ) → ((b : ℕ) → is_quiet b ≡ true → (b == byte) ≡ false) → (xs : List ℕ) → list_all is_quiet xs ≡ true → begins_with byte xs ≡ false
begins_quiet byte f [] h = refl
begins_quiet byte f (b ∷ bs) h = f b (and_true (is_quiet b) (list_all is_quiet bs) h).0

or_true : (t : Bool) → (t || true) ≡ true
or_true true = refl
or_true false = refl

has_equals : (front rest : List ℕ) → list_any (λ b. b == 61) (front ++ 61 ∷ rest) ≡ true
has_equals front rest = list_any-append (λ b. b == 61) front (61 ∷ rest) ∙ or_true (list_any (λ b. b == 61) front)

no_shell : (right : List ℕ) → Lacks 61 right → IsShell right → ⊥
no_shell right none (blanks, rest, e, _) =
    let some : list_any (λ b. b == 61) right ≡ true = ap (list_any (λ b. b == 61)) e ∙ has_equals blanks rest in
    absurd (cc (some, none))

rule_end : (right : List ℕ) → list_all is_quiet right ≡ true → IsRuleEnd right
rule_end right h = (
  begins_quiet 58 (λ b q. (quiet b q).colon) right h,
  begins_quiet 61 (λ b q. (quiet b q).equals) right h,
  no_shell right (lacks is_quiet 61 (λ b q. (quiet b q).equals) right h),
)

behind_some : (xs rest : List ℕ) (b : ℕ) → is_empty (xs ++ b ∷ rest) ≡ false
behind_some [] rest b = refl
behind_some (c ∷ cs) rest b = refl

front_begins : (byte : ℕ) (word rest : List ℕ) → begins_with byte (word ++ rest) ≡ false → begins_with byte word ≡ false
front_begins byte [] rest h = refl
front_begins byte (b ∷ word) rest h = h

-- a target that begins with no dot is no special name
word_without_dot : (targets : List ℕ) → begins_with 46 targets ≡ false → begins_with 46 (first_word targets) ≡ false
word_without_dot targets h = let own = begins_with_first_word targets in front_begins 46 (first_word targets) own.0 (ap (begins_with 46) (sym own.1) ∙ h)

-- Include lines

may_begin : (profile : Profile) (line : List ℕ) (required : Bool) (names : List ℕ) → IsInclude profile line required names → may_include line ≡ true
may_begin profile line required names (word, begins, e, ends) = ap may_include e ∙ word_may required begins
  where
    word_may : (required : Bool) → BeginsInclude profile word required → may_include (word ++ names) ≡ true
    word_may true is = ap (λ w. may_include (w ++ names)) is
    word_may false (wide, inl is) = ap (λ w. may_include (w ++ names)) is
    word_may false (wide, inr is) = ap (λ w. may_include (w ++ names)) is

-- a line that begins otherwise is none
pub not_opened : (profile : Profile) (line : List ℕ) → may_include line ≡ false → include_kind profile (first_word line) ≡ None
not_opened profile line h = none_left (include_kind profile (first_word line)) refl
  where
    none_left : (o : Option Bool) → include_kind profile (first_word line) ≡ o → include_kind profile (first_word line) ≡ None
    none_left None e = e
    none_left (Some required) e =
        absurd (cc (may_begin profile line required (drop (length (first_word line)) line) (kind_opens profile line required e), h))

-- The line

bare : (wide some : Bool) → some ≡ false → (wide && some) ≡ false
bare true some h = h
bare false some h = refl

module _ (profile : Profile) (text line left right : List ℕ) (at : line ≡ trimmed text) (is : IsPlainLine line left right) where
  all_seen : signs_in profile line ≡ left ++ 58 ∷ right
  all_seen =
      let front = lacks is_quiet 92 (λ b q. (quiet b q).backslash) left is.1 in
      let back = lacks is_quiet 92 (λ b q. (quiet b q).backslash) right is.2 in
      none_quoted profile line (bare (is_wide profile) (list_any is_backslash line) (ap (list_any is_backslash) is.0 ∙ list_any-append is_backslash left (58 ∷ right) ∙ ap (λ t. t || list_any is_backslash right) front ∙ back)) ∙ is.0

  spelled : is_empty (trimmed left) ≡ false → SpellsRule profile false line (trimmed left) (trimmed right) None
  spelled some = (left, right, ((is.0, left, right, (all_seen, whole 61 58 no_colon_or_equals left is.1), refl), rule_end right is.2), trimmed_padded left, some, (without right is.2, trimmed_padded right))

  padded : Padded text line
  padded = subst (Padded text) (sym at) (trimmed_padded text)

  line_clean : list_all is_clean line ≡ true
  line_clean =
      ap (list_all is_clean) is.0
      ∙ all_both is_clean left (58 ∷ right) (all_more is_quiet is_clean quiet_clean left is.1) (all_more is_quiet is_clean quiet_clean right is.2)

  text_clean : list_all is_clean text ≡ true
  text_clean =
      let (front, back, e, f, b, _, _) = padded in
      ap (list_all is_clean) e
      ∙ all_both is_clean front (line ++ back) (all_more is_blank is_clean blank_clean front f)
      (all_both is_clean line back line_clean (all_more is_blank is_clean blank_clean back b))

  has_content : HasContent profile text text
  has_content = subst (HasContent profile text) (alone profile text (lacks is_clean 35 clean_no_hash text text_clean)) (content_said profile text)

  good : is_text text ≡ true
  good = all_plain text (all_more is_clean is_plain (λ b h. (and_true (is_plain b) (not (b == 35)) h).0) text text_clean)

  line_some : is_empty line ≡ false
  line_some = ap is_empty is.0 ∙ behind_some left right 58

  none_included : include_kind profile (first_word line) ≡ None → IsNoInclude profile line
  none_included kind required names h = absurd (cc ((opens_kind profile line required names h).0, kind))

  pub plain_is : include_kind profile (first_word line) ≡ None → is_empty (trimmed left) ≡ false → begins_with 46 (trimmed left) ≡ false → IsPlainRule profile text (trimmed left) (trimmed right)
  plain_is kind some bare file number =
      let rule = plain_rule file number (trimmed left) (trimmed right) in
      let told = Ok (form.Rule (record { special = None; rule = rule })) in
      let special = has_special profile (trimmed left) None (without_dot profile (first_word (trimmed left)) (word_without_dot (trimmed left) bare)) in
      let said : IsStatement profile file number line told = (refl, refl, None, refl, spelled some, special, refl) in
      text_back file number profile text told (text, has_content, inr (good, (line, padded, (told, inr (inr (line_some, none_included kind, (told, said, refl))), refl))))
