-- Plain lines are read back as what they were printed of, and a comment changes nothing.
use Rattle.std.proofs.Common.{◌≡◌, ℕ, Bool, true, false, ◌&&◌, ◌||◌, ◌==◌, List, [], ◌∷◌, ◌++◌, length, reverse, flat_map, refl, sym, ap, subst, ◌∙◌, inr, arith, append_assoc, append-nil, length-append, Option, None, Result, Ok}
use Rattle.std.specs.List.{list_any}
use Rattle.std.proofs.lemmas.List.{reverse-append}
use Rattle.std.proofs.lemmas.List.Folds.{list_any-append}
use Rattle.byte_strings.specs.Blanks.{is_blank, first_word}
use Rattle.mk_profile.specs.Profile.{is_wide}
use Rattle.mk_profile.specs.declared.profile.Profile.{Profile}
use Rattle.mk_lines.specs.Text.{is_backslash, is_empty, begins_with, ends_with, is_text}
use Rattle.mk_lines.specs.Quoted.{signs_in}
use Rattle.mk_lines.specs.References.{Piece, plain, piece_text, IsPiece, ArePieces, nothing, Lacks, Whole, Without}
use Rattle.mk_reader.specs.Spelled.{begins_blank, Padded, BeginsWithWord, BeginsInclude, IsNoInclude, SpellsName, SpellsAssignment, SpellsDefinition, IsCut, IsRuleEnd, SpellsRuleSign, SpellsEnd, SpellsRule, HasSpecial, is_refused_with}
use Rattle.mk_lines.specs.Semicolon.{ends_sign, OpensRecipe}
use Rattle.mk_reader.specs.Grammar.{IsStatement, IsTextLine, IsForm}
use Rattle.mk_reader.specs.Comments.{HasContent}
use Rattle.mk_reader.specs.Form.{line_content}
use Rattle.mk_reader.specs.Printed.{line_of_text, HasBareEnds, IsPlainName, IsPlainValue, ArePlainTargets, ArePlainPrerequisites, sign, spaced, definition_text, rule_text, HasSign, definition_on, rule_on}
use Rattle.mk_reader.specs.declared.special.SpecialName.{SpecialName}
use Rattle.mk_reader.specs.declared.fault.Refusal.{Refusal}
use Rattle.mk_reader.specs.declared.form.Form.{Form}
use Rattle.mk_reader.specs.declared.form.Form.TheVariants as form
use Rattle.mk_lines.proofs.ReferenceLemmas.{or_false}
use Rattle.mk_reader.proofs.WordLemmas.{word_is, begins_with_first_word, include_bare}
use Rattle.mk_lines.proofs.QuotedLemmas.{seen_apart, seen_first, seen_length}
use Rattle.mk_reader.proofs.ContentLemmas.{content_said, content_is, never_opens, alone, commented}

abbrev Told : Type 0
Told = Result Form Refusal

-- Texts that are joined

lacks_both : (byte : ℕ) (xs ys : List ℕ) → Lacks byte xs → Lacks byte ys → Lacks byte (xs ++ ys)
lacks_both byte xs ys h g = list_any-append (λ b. b == byte) xs ys ∙ ap (λ t. t || list_any (λ b. b == byte) ys) h ∙ g

pub begins_more : (xs ys : List ℕ) → is_empty xs ≡ false → begins_blank xs ≡ false → begins_blank (xs ++ ys) ≡ false
begins_more [] ys e h = absurd (cc e)
begins_more (b ∷ bs) ys e h = h

empty_more : (xs ys : List ℕ) → is_empty xs ≡ false → is_empty (xs ++ ys) ≡ false
empty_more [] ys e = absurd (cc e)
empty_more (b ∷ bs) ys e = refl

behind_some : (xs : List ℕ) (b : ℕ) → is_empty (xs ++ b ∷ []) ≡ false
behind_some [] b = refl
behind_some (c ∷ cs) b = refl

turned_some : (xs : List ℕ) → is_empty xs ≡ false → is_empty (reverse xs) ≡ false
turned_some [] e = absurd (cc e)
turned_some (b ∷ bs) e = ap is_empty (reverse-append (b ∷ []) bs) ∙ behind_some (reverse bs) b

ends_more : (xs ys : List ℕ) → is_empty ys ≡ false → begins_blank (reverse ys) ≡ false → begins_blank (reverse (xs ++ ys)) ≡ false
ends_more xs ys e h = ap begins_blank (reverse-append xs ys) ∙ begins_more (reverse ys) (reverse xs) (turned_some ys e) h

-- the byte that stands last
last_is : (byte : ℕ) (xs : List ℕ) (b : ℕ) → begins_with byte (reverse (xs ++ b ∷ [])) ≡ (b == byte)
last_is byte xs b = ap (begins_with byte) (reverse-append xs (b ∷ []))

pub no_blank_first : (xs : List ℕ) → list_any is_blank xs ≡ false → begins_blank xs ≡ false
no_blank_first [] h = refl
no_blank_first (b ∷ bs) h = (or_false (is_blank b) (list_any is_blank bs) h).0

no_blank_turned : (xs : List ℕ) → list_any is_blank xs ≡ false → list_any is_blank (reverse xs) ≡ false
no_blank_turned [] h = refl
no_blank_turned (b ∷ bs) h =
    let parts = or_false (is_blank b) (list_any is_blank bs) h in
    ap (list_any is_blank) (reverse-append (b ∷ []) bs) ∙ list_any-append is_blank (reverse bs) (b ∷ [])
    ∙ ap (λ t. t || (is_blank b || false)) (no_blank_turned bs parts.1) ∙ ap (λ t. t || false) parts.0

bare_word : (xs : List ℕ) → list_any is_blank xs ≡ false → HasBareEnds xs
bare_word xs h = (no_blank_first xs h, no_blank_first (reverse xs) (no_blank_turned xs h))

padded_itself : (text : List ℕ) → HasBareEnds text → Padded text text
padded_itself text h = ([], [], sym (append-nil text), refl, refl, h.0, h.1)

-- a text with a space behind it
padded_space : (core : List ℕ) → HasBareEnds core → Padded (core ++ 32 ∷ []) core
padded_space core h = ([], 32 ∷ [], refl, refl, refl, h.0, h.1)

padded_spaced : (core : List ℕ) → HasBareEnds core → Padded (spaced core) core
padded_spaced [] h = ([], [], refl, refl, refl, refl, refl)
padded_spaced (b ∷ bs) h = (32 ∷ [], [], ap (λ xs. 32 ∷ xs) (sym (append-nil (b ∷ bs))), refl, refl, h.0, h.1)

-- Pieces

pieces_more : (ps : List Piece) (p : Piece) → flat_map piece_text (ps ++ p ∷ []) ≡ flat_map piece_text ps ++ piece_text p
pieces_more [] p = append-nil (piece_text p)
pieces_more (q ∷ qs) p = ap (λ xs. piece_text q ++ xs) (pieces_more qs p) ∙ sym (append_assoc (piece_text q) (flat_map piece_text qs) (piece_text p))

are_more : (one other : ℕ) (ps : List Piece) (p : Piece) → ArePieces one other ps → IsPiece one other p → ArePieces one other (ps ++ p ∷ [])
are_more one other [] p h is = (is, tt)
are_more one other (q ∷ qs) p h is = (h.0, are_more one other qs p h.1 is)

whole_more : (one other : ℕ) (text : List ℕ) (b : ℕ) → Whole one other text → (b == 36) ≡ false → (b == one || b == other) ≡ false → Whole one other (text ++ b ∷ [])
whole_more one other text b w d o =
    (w.0 ++ plain b ∷ [], ap (λ xs. xs ++ b ∷ []) w.1 ∙ sym (pieces_more w.0 (plain b)), are_more one other w.0 (plain b) w.2 (d, o))

without_spaced : (text : List ℕ) → Without 59 59 text → Without 59 59 (spaced text)
without_spaced [] w = ([], nothing, refl, tt, tt)
without_spaced (b ∷ bs) w = (plain 32 ∷ w.0, w.1, ap (λ xs. 32 ∷ xs) w.2, ((refl, refl), w.3), w.4)

-- A whole line

-- a text without a comment or blanks at its ends is its own line
itself_read : (profile : Profile) (file : List ℕ) (number : ℕ) (text : List ℕ) (f : Form) → Lacks 35 text → is_text text ≡ true → HasBareEnds text → is_empty text ≡ false → IsNoInclude profile text → IsStatement profile file number text (Ok f) →
    IsTextLine profile file number text (Ok f)
itself_read profile file number text f hash good bare some none is =
    (text, subst (HasContent profile text) (alone profile text hash) (content_said profile text), inr (good, (text, padded_itself text bare, (Ok f, inr (inr (some, none, (Ok f, is, refl))), refl))))

-- a line whose words before a space begin no include line is none
no_include : (profile : Profile) (front rest : List ℕ) → ((word : List ℕ) (required : Bool) → BeginsInclude profile word required → BeginsWithWord front word → ⊥) → IsNoInclude profile (front ++ 32 ∷ rest)
no_include profile front rest none required names (opens, begins, is, closes) =
    let line = front ++ 32 ∷ rest in
    let own = begins_with_first_word front in
    let word = first_word front in
    let ends : (xs : List ℕ) → (is_empty xs || begins_blank xs) ≡ true → (is_empty (xs ++ 32 ∷ rest) || begins_blank (xs ++ 32 ∷ rest)) ≡ true = blank_behind in
    let whole : BeginsWithWord line word = (own.0 ++ 32 ∷ rest, ap (λ xs. xs ++ 32 ∷ rest) own.1 ∙ append_assoc word own.0 (32 ∷ rest), own.2, ends own.0 own.3) in
    let same : word ≡ opens = sym (word_is line word whole) ∙ word_is line opens (names, is, include_bare profile opens required begins, closes) in
    none opens required begins (subst (BeginsWithWord front) same own)
  where
    blank_behind : (xs : List ℕ) → (is_empty xs || begins_blank xs) ≡ true → (is_empty (xs ++ 32 ∷ rest) || begins_blank (xs ++ 32 ∷ rest)) ≡ true
    blank_behind [] e = refl
    blank_behind (b ∷ bs) e = e

-- Definitions

plain_no_include : (profile : Profile) (name : List ℕ) → IsPlainName profile name → (word : List ℕ) (required : Bool) → BeginsInclude profile word required → BeginsWithWord name word → ⊥
plain_no_include profile name h word required begins first =
    let own : BeginsWithWord name name = ([], sym (append-nil name), h.1, refl) in
    let same : word ≡ name = sym (word_is name word first) ∙ word_is name name own in
    h.4 required (subst (λ w. BeginsInclude profile w required) same begins)

-- what stands before the `=`
abbrev before_sign : (name : List ℕ) (append : Bool) → List ℕ
before_sign name false = name ++ 32 ∷ []
before_sign name true = (name ++ 32 ∷ []) ++ 43 ∷ []

sign_cuts : (name value : List ℕ) (append : Bool) → definition_text name append value ≡ before_sign name append ++ 61 ∷ spaced value
sign_cuts name value false = sym (append_assoc name (32 ∷ []) (61 ∷ spaced value))
sign_cuts name value true =
    sym (append_assoc (name ++ 32 ∷ []) (43 ∷ []) (61 ∷ spaced value) ∙ append_assoc name (32 ∷ []) (43 ∷ 61 ∷ spaced value))

-- a sign that stands behind a space
spaced_cut : (profile : Profile) (front : List ℕ) (sign : ℕ) (rest : List ℕ) → is_backslash sign ≡ false → Whole 61 58 (signs_in profile front) →
    IsCut profile sign (front ++ 32 ∷ sign ∷ rest) (front ++ 32 ∷ []) rest
spaced_cut profile front sign rest none w =
    let seen : signs_in profile (front ++ 32 ∷ sign ∷ rest) ≡ (signs_in profile front ++ 32 ∷ []) ++ sign ∷ signs_in profile rest =
    seen_apart profile front 32 (sign ∷ rest) refl refl ∙ ap (λ xs. signs_in profile front ++ 32 ∷ xs) (seen_first profile sign rest none)
    ∙ sym (append_assoc (signs_in profile front) (32 ∷ []) (sign ∷ signs_in profile rest)) in
    let long : length (signs_in profile front ++ 32 ∷ []) ≡ length (front ++ 32 ∷ []) =
    omega (arith, seen_length profile front, length-append (signs_in profile front) (32 ∷ []), length-append front (32 ∷ [])) in
    (sym (append_assoc front (32 ∷ []) (sign ∷ rest)), signs_in profile front ++ 32 ∷ [], signs_in profile rest, (seen, whole_more 61 58 (signs_in profile front) 32 w refl refl), long)

sign_cut : (profile : Profile) (name value : List ℕ) (append : Bool) → Whole 61 58 (signs_in profile name) → IsCut profile 61 (definition_text name append value) (before_sign name append) (spaced value)
sign_cut profile name value false w = spaced_cut profile name 61 (spaced value) refl w
sign_cut profile name value true w =
    let seen : signs_in profile (definition_text name true value) ≡ (signs_in profile name ++ 32 ∷ 43 ∷ []) ++ 61 ∷ signs_in profile (spaced value) =
    seen_apart profile name 32 (43 ∷ 61 ∷ spaced value) refl refl
    ∙ ap (λ xs. signs_in profile name ++ 32 ∷ xs) (seen_first profile 43 (61 ∷ spaced value) refl ∙ ap (λ xs. 43 ∷ xs) (seen_first profile 61 (spaced value) refl))
    ∙ sym (append_assoc (signs_in profile name) (32 ∷ 43 ∷ []) (61 ∷ signs_in profile (spaced value))) in
    let long : length (signs_in profile name ++ 32 ∷ 43 ∷ []) ≡ length (before_sign name true) =
    omega (arith, seen_length profile name, length-append (signs_in profile name) (32 ∷ 43 ∷ []), length-append (name ++ 32 ∷ []) (43 ∷ []), length-append name (32 ∷ [])) in
    let whole : Whole 61 58 (signs_in profile name ++ 32 ∷ 43 ∷ []) =
    subst (Whole 61 58) (append_assoc (signs_in profile name) (32 ∷ []) (43 ∷ [])) (whole_more 61 58 (signs_in profile name ++ 32 ∷ []) 43 (whole_more 61 58 (signs_in profile name) 32 w refl refl) refl refl) in
    (sign_cuts name value true, signs_in profile name ++ 32 ∷ 43 ∷ [], signs_in profile (spaced value), (seen, whole), long)

never : (t : Bool) → (t && false) ≡ false
never true = refl
never false = refl

no_question : (name : List ℕ) (append : Bool) → begins_with 63 (reverse (before_sign name append)) ≡ false
no_question name false = last_is 63 name 32
no_question name true = last_is 63 (name ++ 32 ∷ []) 43

no_mark : (profile : Profile) (name : List ℕ) (append : Bool) → (is_wide profile && begins_with 33 (reverse (before_sign name append))) ≡ false
no_mark profile name false = ap (λ t. is_wide profile && t) (last_is 33 name 32) ∙ never (is_wide profile)
no_mark profile name true = ap (λ t. is_wide profile && t) (last_is 33 (name ++ 32 ∷ []) 43) ∙ never (is_wide profile)

name_spelled : (name : List ℕ) (append : Bool) → HasBareEnds name → SpellsName (before_sign name append) name append
name_spelled name false h = (last_is 43 name 32, padded_space name h)
name_spelled name true h = (name ++ 32 ∷ [], refl, padded_space name h)

signed_some : (append : Bool) (value : List ℕ) → is_empty (sign append ++ spaced value) ≡ false
signed_some false value = refl
signed_some true value = refl

signed_end : (append : Bool) (value : List ℕ) → begins_blank (reverse value) ≡ false → begins_blank (reverse (sign append ++ spaced value)) ≡ false
signed_end false [] h = refl
signed_end true [] h = refl
signed_end false (b ∷ bs) h = ends_more (32 ∷ 61 ∷ 32 ∷ []) (b ∷ bs) refl h
signed_end true (b ∷ bs) h = ends_more (32 ∷ 43 ∷ 61 ∷ 32 ∷ []) (b ∷ bs) refl h

signed_plain : (append : Bool) (value : List ℕ) → Lacks 35 value → Lacks 35 (sign append ++ spaced value)
signed_plain false [] h = refl
signed_plain true [] h = refl
signed_plain false (b ∷ bs) h = h
signed_plain true (b ∷ bs) h = h

-- the sign begins with a space
signed : (append : Bool) (value : List ℕ) → (rest : List ℕ) × (sign append ++ spaced value ≡ 32 ∷ rest)
signed false value = (61 ∷ spaced value, refl)
signed true value = (43 ∷ 61 ∷ spaced value, refl)

pub definition_read : (profile : Profile) (file name value : List ℕ) (number : ℕ) (append : Bool) → IsPlainName profile name → IsPlainValue value → is_text (definition_text name append value) ≡ true →
    IsForm profile file (line_of_text number (definition_text name append value)) (Ok (form.Definition (definition_on file number name append value)))
definition_read profile file name value number append n v good =
    let text = definition_text name append value in
    let bare = bare_word name n.1 in
    let behind = signed append value in
    let ends : HasBareEnds text = (
      begins_more name (sign append ++ spaced value) n.0 bare.0,
      ends_more name (sign append ++ spaced value) (signed_some append value) (signed_end append value v.1.1),
    ) in
    let assigns : SpellsAssignment profile text (before_sign name append) (spaced value) = (sign_cut profile name value append n.3, no_question name append, no_mark profile name append) in
    let spells : SpellsDefinition profile text name append value =
    (before_sign name append, spaced value, assigns, name_spelled name append bare, n.0, n.1, padded_spaced value v.1) in
    let none : IsNoInclude profile text = subst (λ xs. IsNoInclude profile (name ++ xs)) (sym behind.1) (no_include profile name behind.0 (plain_no_include profile name n)) in
    itself_read profile file number text _ (lacks_both 35 name (sign append ++ spaced value) n.2 (signed_plain append value v.0)) good ends
    (empty_more name (sign append ++ spaced value) n.0) none (refl, refl, refl, spells)

-- Rules

no_rule_sign : (prerequisites : List ℕ) → IsRuleEnd (spaced prerequisites)
no_rule_sign [] = (refl, refl, (λ s. absurd (cc s.2)))
no_rule_sign (b ∷ bs) = (refl, refl, (λ s. absurd (cc (ap (begins_with 32) s.2))))

colon_end : (prerequisites : List ℕ) → begins_blank (reverse prerequisites) ≡ false → begins_blank (reverse (32 ∷ 58 ∷ spaced prerequisites)) ≡ false
colon_end [] h = refl
colon_end (b ∷ bs) h = ends_more (32 ∷ 58 ∷ 32 ∷ []) (b ∷ bs) refl h

colon_plain : (prerequisites : List ℕ) → Lacks 35 prerequisites → Lacks 35 (32 ∷ 58 ∷ spaced prerequisites)
colon_plain [] h = refl
colon_plain (b ∷ bs) h = h

double_end : (prerequisites : List ℕ) → begins_blank (reverse prerequisites) ≡ false → begins_blank (reverse (32 ∷ 58 ∷ 58 ∷ spaced prerequisites)) ≡ false
double_end [] h = refl
double_end (b ∷ bs) h = ends_more (32 ∷ 58 ∷ 58 ∷ 32 ∷ []) (b ∷ bs) refl h

double_plain : (prerequisites : List ℕ) → Lacks 35 prerequisites → Lacks 35 (32 ∷ 58 ∷ 58 ∷ spaced prerequisites)
double_plain [] h = refl
double_plain (b ∷ bs) h = h

no_sign_more : (prerequisites : List ℕ) → ends_sign (spaced prerequisites) ≡ false
no_sign_more [] = refl
no_sign_more (b ∷ bs) = refl

-- a rule whose sign stands in front of this
module _ (profile : Profile) (file targets prerequisites : List ℕ) (number : ℕ) (special : Option SpecialName) (t : ArePlainTargets profile targets)
    (p : ArePlainPrerequisites prerequisites) (has : HasSpecial profile targets special) (taken : is_refused_with profile prerequisites special ≡ false) where
  signed_read : (double : Bool) (rest : List ℕ) → begins_blank (reverse (32 ∷ rest)) ≡ false → Lacks 35 (32 ∷ rest) →
      SpellsRuleSign profile double (targets ++ 32 ∷ rest) (targets ++ 32 ∷ []) (spaced prerequisites) → is_text (targets ++ 32 ∷ rest) ≡ true →
      IsForm profile file (line_of_text number (targets ++ 32 ∷ rest)) (Ok (form.Rule (rule_on file number special double targets prerequisites)))
  signed_read double rest bare no_hash sign good =
      let text = targets ++ 32 ∷ rest in
      let ends : HasBareEnds text = (begins_more targets (32 ∷ rest) t.0 t.1.0, ends_more targets (32 ∷ rest) refl bare) in
      let end : SpellsEnd (spaced prerequisites) prerequisites None = (without_spaced prerequisites p.2, padded_spaced prerequisites p.1) in
      let spells : SpellsRule profile double text targets prerequisites None = (targets ++ 32 ∷ [], spaced prerequisites, sign, padded_space targets t.1, t.0, end) in
      itself_read profile file number text _ (lacks_both 35 targets (32 ∷ rest) t.2 no_hash) good ends
      (empty_more targets (32 ∷ rest) t.0) (no_include profile targets rest t.4) (refl, refl, None, refl, spells, has, taken)

  abbrev IsReadAs : (double : Bool) → Type 0
  IsReadAs double = IsForm profile file (line_of_text number (rule_text double targets prerequisites)) (Ok (form.Rule (rule_on file number special double targets prerequisites)))

  read_as : (double : Bool) → is_text (rule_text double targets prerequisites) ≡ true → HasSign profile double → IsReadAs double
  read_as false good is =
      let colon = spaced_cut profile targets 58 (spaced prerequisites) refl t.3 in
      signed_read false (58 ∷ spaced prerequisites) (colon_end prerequisites p.1.1) (colon_plain prerequisites p.0) (colon, no_rule_sign prerequisites) good
  read_as true good is =
      let colon = spaced_cut profile targets 58 (58 ∷ spaced prerequisites) refl t.3 in
      signed_read true (58 ∷ 58 ∷ spaced prerequisites) (double_end prerequisites p.1.1) (double_plain prerequisites p.0)
      (colon, is refl, no_sign_more prerequisites) good

pub rule_read : (profile : Profile) (file targets prerequisites : List ℕ) (number : ℕ) (special : Option SpecialName) (double : Bool) →
    ArePlainTargets profile targets → ArePlainPrerequisites prerequisites → HasSpecial profile targets special →
    is_refused_with profile prerequisites special ≡ false → is_text (rule_text double targets prerequisites) ≡ true → HasSign profile double →
    IsForm profile file (line_of_text number (rule_text double targets prerequisites)) (Ok (form.Rule (rule_on file number special double targets prerequisites)))
rule_read profile file targets prerequisites number special double t p has taken good sign =
    read_as profile file targets prerequisites number special t p has taken double good sign

-- Comments

-- lines that hold the same are told the same
same_content : (profile : Profile) (file : List ℕ) (number : ℕ) (one other : List ℕ) (told : Told) → line_content profile one ≡ line_content profile other →
    IsTextLine profile file number one told → IsTextLine profile file number other told
same_content profile file number one other told same (content, has, is) =
    let at : line_content profile other ≡ content = sym same ∙ content_is profile one content has in
    (content, subst (HasContent profile other) at (content_said profile other), is)

comment_alike : (profile : Profile) (text comment : List ℕ) → Lacks 35 text → (is_wide profile && ends_with 92 text) ≡ false → (is_wide profile ≡ true → OpensRecipe (text ++ 35 ∷ comment) → ⊥) →
    line_content profile (text ++ 35 ∷ comment) ≡ line_content profile text
comment_alike profile text comment none bare unopened =
    commented profile text (35 ∷ comment) none refl bare (never_opens profile (text ++ 35 ∷ comment) unopened) ∙ sym (alone profile text none)

pub comment_dropped : (profile : Profile) (file : List ℕ) (number : ℕ) (text comment : List ℕ) (told : Told) → Lacks 35 text → (is_wide profile && ends_with 92 text) ≡ false →
    (is_wide profile ≡ true → OpensRecipe (text ++ 35 ∷ comment) → ⊥) → IsForm profile file (line_of_text number (text ++ 35 ∷ comment)) told → IsForm profile file (line_of_text number text) told
comment_dropped profile file number text comment told none bare unopened h =
    same_content profile file number (text ++ 35 ∷ comment) text told (comment_alike profile text comment none bare unopened) h

pub comment_added : (profile : Profile) (file : List ℕ) (number : ℕ) (text comment : List ℕ) (told : Told) → Lacks 35 text → (is_wide profile && ends_with 92 text) ≡ false →
    (is_wide profile ≡ true → OpensRecipe (text ++ 35 ∷ comment) → ⊥) → IsForm profile file (line_of_text number text) told → IsForm profile file (line_of_text number (text ++ 35 ∷ comment)) told
comment_added profile file number text comment told none bare unopened h =
    same_content profile file number text (text ++ 35 ∷ comment) told (sym (comment_alike profile text comment none bare unopened)) h
