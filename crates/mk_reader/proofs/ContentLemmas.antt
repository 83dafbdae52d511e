-- What a line holds before its comment: the code's definition gives what the grammar says, and nothing else is.
use Rattle.std.proofs.Common.{◌≡◌, ℕ, Bool, true, false, cond, not, ◌&&◌, ◌||◌, ◌==◌, List, [], ◌∷◌, ◌++◌, reverse, flat_map, refl, sym, ap, subst, ◌∙◌, inl, inr, append_assoc, append-nil}
use Rattle.std.proofs.lemmas.Bool.Decides.{Decides-eqb}
use Rattle.std.proofs.lemmas.List.{reverse-append, reverse-reverse}
use Rattle.std.specs.List.{list_any, before_first}
use Rattle.mk_profile.specs.Profile.{is_wide}
use Rattle.mk_profile.specs.declared.profile.Profile.{Profile}
use Rattle.mk_lines.specs.Text.{is_hash, is_empty, begins_with, ends_with}
use Rattle.mk_lines.specs.References.{Lacks}
use Rattle.mk_reader.specs.Comments.{IsComment, Written, byte, backslash_and, hash, written_as, stands_for, AreWritten, IsLastOf, ContentIn, HasContent}
use Rattle.mk_lines.specs.Semicolon.{OpensRecipe, opens_recipe}
use Rattle.mk_reader.specs.Form.{unescaped_from, content_in, line_content}
use Rattle.mk_lines.proofs.ReferenceLemmas.{either, or_false, and_true}
use Rattle.mk_reader.proofs.BlankLemmas.{starts, before_first_is, before_first_cuts}
use Rattle.mk_lines.proofs.OpensLemmas.{opens_said, opens_is}

hash_start : (rest : List ℕ) → (is_empty rest || starts is_hash rest) ≡ true → IsComment rest
hash_start [] h = h
hash_start (b ∷ bs) h = h

hash_start_back : (rest : List ℕ) → IsComment rest → (is_empty rest || starts is_hash rest) ≡ true
hash_start_back [] h = h
hash_start_back (b ∷ bs) h = h

-- The wide profile

abbrev waiting : (behind : Bool) → List ℕ
waiting false = []
waiting true = 92 ∷ []

both_false : (a b : Bool) → a ≡ false → b ≡ false → (a || b) ≡ false
both_false a b e f = ap (λ t. t || b) e ∙ f

-- what the rest of a text holds, where a backslash before it isn't read to its end
abbrev Held : (behind : Bool) → List ℕ → Type 0
Held behind text = ContentIn true (waiting behind ++ text) (unescaped_from behind text)

one_part : (part : Written) (text rest : List ℕ) → AreWritten (part ∷ []) → ContentIn true text rest → ContentIn true (written_as part ++ text) (stands_for part ++ rest)
one_part part text rest (is, none) (parts, last, comment, e, c, are, ends, begins) = (
  part ∷ parts,
  last,
  comment,
  ap (λ xs. written_as part ++ xs) e ∙ sym (append_assoc (written_as part) (flat_map written_as parts) (last ++ comment)),
  ap (λ xs. stands_for part ++ xs) c ∙ sym (append_assoc (stands_for part) (flat_map stands_for parts) last),
  (is, are),
  ends,
  begins,
)

unescaped_said : (text : List ℕ) (behind : Bool) → Held behind text
unescaped_said [] false = ([], [], [], refl, refl, tt, inl refl, refl)
unescaped_said [] true = ([], 92 ∷ [], [], refl, refl, tt, inr (refl, refl), refl)
unescaped_said (b ∷ bs) false =
    either _ (b == 35)
    (λ e. subst (ContentIn true (b ∷ bs)) (ap (λ t. cond t [] (cond (b == 92) (unescaped_from true bs) (b ∷ unescaped_from false bs))) (sym e))
    ([], [], b ∷ bs, refl, refl, tt, inl refl, e))
    (λ f. either _ (b == 92)
    (λ e.
    let is : b ≡ 92 = (Decides-eqb b 92).0 e in
    subst (λ c. ContentIn true (c ∷ bs) (unescaped_from false (c ∷ bs))) (sym is) (unescaped_said bs true))
    (λ g. subst (ContentIn true (b ∷ bs)) (ap (λ t. cond t (unescaped_from true bs) (b ∷ unescaped_from false bs)) (sym g) ∙ ap (λ t. cond t [] (cond (b == 92) (unescaped_from true bs) (b ∷ unescaped_from false bs))) (sym f))
    (one_part (byte b) bs (unescaped_from false bs) (both_false (b == 35) (b == 92) f g, tt) (unescaped_said bs false))))
unescaped_said (b ∷ bs) true =
    either _ (b == 35)
    (λ e.
    let is : b ≡ 35 = (Decides-eqb b 35).0 e in
    subst (λ c. ContentIn true (92 ∷ c ∷ bs) (unescaped_from true (c ∷ bs))) (sym is) (one_part hash bs (unescaped_from false bs) (tt, tt) (unescaped_said bs false)))
    (λ f. subst (ContentIn true (92 ∷ b ∷ bs)) (ap (λ t. cond t (35 ∷ unescaped_from false bs) (92 ∷ b ∷ unescaped_from false bs)) (sym f))
    (one_part (backslash_and b) bs (unescaped_from false bs) (f, tt) (unescaped_said bs false)))

-- a comment gives nothing
comment_is : (comment : List ℕ) → IsComment comment → unescaped_from false comment ≡ []
comment_is [] h = refl
comment_is (b ∷ bs) h = ap (λ t. cond t [] (cond (b == 92) (unescaped_from true bs) (b ∷ unescaped_from false bs))) h

last_is : (last comment : List ℕ) → IsLastOf last comment → IsComment comment → unescaped_from false (last ++ comment) ≡ last
last_is last comment (inl e) begins = ap (λ xs. unescaped_from false (xs ++ comment)) e ∙ comment_is comment begins ∙ sym e
last_is last comment (inr (e, none)) begins = ap (λ xs. unescaped_from false (xs ++ comment)) e ∙ ap (λ xs. unescaped_from false (92 ∷ xs)) none ∙ sym e

parts_are : (parts : List Written) (last comment : List ℕ) → AreWritten parts → IsLastOf last comment → IsComment comment →
    unescaped_from false (flat_map written_as parts ++ (last ++ comment)) ≡ flat_map stands_for parts ++ last
parts_are [] last comment are ends begins = last_is last comment ends begins
parts_are (byte b ∷ more) last comment (is, are) ends begins =
    let rest = flat_map written_as more ++ (last ++ comment) in
    let each = or_false (b == 35) (b == 92) is in
    ap (λ t. cond t [] (cond (b == 92) (unescaped_from true rest) (b ∷ unescaped_from false rest))) each.0
    ∙ ap (λ t. cond t (unescaped_from true rest) (b ∷ unescaped_from false rest)) each.1
    ∙ ap (λ xs. b ∷ xs) (parts_are more last comment are ends begins)
parts_are (backslash_and b ∷ more) last comment (is, are) ends begins =
    let rest = flat_map written_as more ++ (last ++ comment) in
    ap (λ t. cond t (35 ∷ unescaped_from false rest) (92 ∷ b ∷ unescaped_from false rest)) is ∙ ap (λ xs. 92 ∷ b ∷ xs) (parts_are more last comment are ends begins)
parts_are (hash ∷ more) last comment (is, are) ends begins = ap (λ xs. 35 ∷ xs) (parts_are more last comment are ends begins)

-- Both profiles

said_in : (wide : Bool) (text : List ℕ) → ContentIn wide text (content_in wide text)
said_in false text = let cut = before_first_cuts is_hash text in (cut.0, cut.1.0, cut.1.1, hash_start cut.0 cut.1.2)
said_in true text = unescaped_said text false

is_in : (wide : Bool) (text content : List ℕ) → ContentIn wide text content → content_in wide text ≡ content
is_in false text content has = before_first_is is_hash text content has.0 (has.1, has.2, hash_start_back has.0 has.3)
is_in true text content (parts, last, comment, e, c, are, ends, begins) = ap (unescaped_from false) e ∙ parts_are parts last comment are ends begins ∙ sym c

opened_content : (profile : Profile) (text : List ℕ) → (is_wide profile && opens_recipe text) ≡ true → line_content profile text ≡ text
unfolding line_content
opened_content profile text h = ap (λ t. cond t text (content_in (is_wide profile) text)) h

plain_content : (profile : Profile) (text : List ℕ) → (is_wide profile && opens_recipe text) ≡ false → line_content profile text ≡ content_in (is_wide profile) text
unfolding line_content
plain_content profile text h = ap (λ t. cond t text (content_in (is_wide profile) text)) h

none_opens : (profile : Profile) (text : List ℕ) → (is_wide profile && opens_recipe text) ≡ false → is_wide profile ≡ true → OpensRecipe text → ⊥
none_opens profile text h wide opens =
    let both : (is_wide profile && opens_recipe text) ≡ true = ap (λ w. w && opens_recipe text) wide ∙ opens_is text opens in
    absurd (cc (both, h))

pub never_opens : (profile : Profile) (text : List ℕ) → (is_wide profile ≡ true → OpensRecipe text → ⊥) → (is_wide profile && opens_recipe text) ≡ false
never_opens profile text none =
    either _ (is_wide profile && opens_recipe text)
    (λ h. let both = and_true (is_wide profile) (opens_recipe text) h in absurd (none both.0 (opens_said text both.1)))
    (λ f. f)

pub content_said : (profile : Profile) (text : List ℕ) → HasContent profile text (line_content profile text)
content_said profile text =
    either _ (is_wide profile && opens_recipe text)
    (λ h. let both = and_true (is_wide profile) (opens_recipe text) h in inl (both.0, opens_said text both.1, opened_content profile text h))
    (λ f. inr (none_opens profile text f, subst (ContentIn (is_wide profile) text) (sym (plain_content profile text f)) (said_in (is_wide profile) text)))

pub content_is : (profile : Profile) (text content : List ℕ) → HasContent profile text content → line_content profile text ≡ content
content_is profile text content (inl (wide, opens, e)) = opened_content profile text (ap (λ w. w && opens_recipe text) wide ∙ opens_is text opens) ∙ sym e
content_is profile text content (inr (none, has)) = plain_content profile text (never_opens profile text none) ∙ is_in (is_wide profile) text content has

-- Texts without a `#`

-- a backslash is left over behind the text
abbrev left_over : (behind : Bool) → List ℕ → Bool
left_over behind [] = behind
left_over behind (b ∷ bs) = left_over (not behind && b == 92) bs

left_over-append : (behind : Bool) (front : List ℕ) (b : ℕ) → (b == 92) ≡ false → left_over behind (front ++ b ∷ []) ≡ false
left_over-append behind [] b e = ap (λ t. not behind && t) e ∙ none behind
  where
    none : (t : Bool) → (not t && false) ≡ false
    none true = refl
    none false = refl
left_over-append behind (x ∷ xs) b e = left_over-append (not behind && x == 92) xs b e

none_over : (text front : List ℕ) → reverse text ≡ front → begins_with 92 front ≡ false → left_over false text ≡ false
none_over text [] e h = ap (left_over false) (sym (reverse-reverse text) ∙ ap reverse e)
none_over text (b ∷ bs) e h =
    let whole : text ≡ reverse bs ++ b ∷ [] = sym (reverse-reverse text) ∙ ap reverse e ∙ reverse-append (b ∷ []) bs in
    ap (left_over false) whole ∙ left_over-append false (reverse bs) b h

unescaped_itself : (behind : Bool) (text comment : List ℕ) → Lacks 35 text → IsComment comment → (left_over behind text ≡ false) → unescaped_from behind (text ++ comment) ≡ waiting behind ++ text
unescaped_itself false [] comment none begins over = comment_is comment begins
unescaped_itself true [] comment none begins over = absurd (cc over)
unescaped_itself false (b ∷ bs) comment none begins over =
    let each = or_false (b == 35) (list_any (λ x. x == 35) bs) none in
    let rest = bs ++ comment in
    ap (λ t. cond t [] (cond (b == 92) (unescaped_from true rest) (b ∷ unescaped_from false rest))) each.0
    ∙ either _ (b == 92)
    (λ e.
    let is : b ≡ 92 = (Decides-eqb b 92).0 e in
    ap (λ t. cond t (unescaped_from true rest) (b ∷ unescaped_from false rest)) e ∙ unescaped_itself true bs comment each.1 begins (ap (λ t. left_over t bs) (sym e) ∙ over) ∙ ap (λ c. c ∷ bs) (sym is))
    (λ f. ap (λ t. cond t (unescaped_from true rest) (b ∷ unescaped_from false rest)) f ∙ ap (λ xs. b ∷ xs) (unescaped_itself false bs comment each.1 begins (ap (λ t. left_over t bs) (sym f) ∙ over)))
unescaped_itself true (b ∷ bs) comment none begins over =
    let each = or_false (b == 35) (list_any (λ x. x == 35) bs) none in
    let rest = bs ++ comment in
    ap (λ t. cond t (35 ∷ unescaped_from false rest) (92 ∷ b ∷ unescaped_from false rest)) each.0 ∙ ap (λ xs. 92 ∷ b ∷ xs) (unescaped_itself false bs comment each.1 begins over)

-- at its end a backslash stays
unescaped_alone : (behind : Bool) (text : List ℕ) → Lacks 35 text → unescaped_from behind text ≡ waiting behind ++ text
unescaped_alone false [] none = refl
unescaped_alone true [] none = refl
unescaped_alone false (b ∷ bs) none =
    let each = or_false (b == 35) (list_any (λ x. x == 35) bs) none in
    ap (λ t. cond t [] (cond (b == 92) (unescaped_from true bs) (b ∷ unescaped_from false bs))) each.0
    ∙ either _ (b == 92)
    (λ e.
    let is : b ≡ 92 = (Decides-eqb b 92).0 e in
    ap (λ t. cond t (unescaped_from true bs) (b ∷ unescaped_from false bs)) e ∙ unescaped_alone true bs each.1 ∙ ap (λ c. c ∷ bs) (sym is))
    (λ f. ap (λ t. cond t (unescaped_from true bs) (b ∷ unescaped_from false bs)) f ∙ ap (λ xs. b ∷ xs) (unescaped_alone false bs each.1))
unescaped_alone true (b ∷ bs) none =
    let each = or_false (b == 35) (list_any (λ x. x == 35) bs) none in
    ap (λ t. cond t (35 ∷ unescaped_from false bs) (92 ∷ b ∷ unescaped_from false bs)) each.0 ∙ ap (λ xs. 92 ∷ b ∷ xs) (unescaped_alone false bs each.1)

alone_in : (wide : Bool) (text : List ℕ) → Lacks 35 text → content_in wide text ≡ text
alone_in false text none = before_first_is is_hash text text [] (sym (append-nil text), none, refl)
alone_in true text none = unescaped_alone false text none

commented_in : (wide : Bool) (text comment : List ℕ) → Lacks 35 text → IsComment comment → (wide && ends_with 92 text) ≡ false → content_in wide (text ++ comment) ≡ text
unfolding ends_with
commented_in false text comment none begins bare = before_first_is is_hash (text ++ comment) text comment (refl, none, hash_start_back comment begins)
commented_in true text comment none begins bare = unescaped_itself false text comment none begins (none_over text (reverse text) refl bare)

-- a line without a comment
pub alone : (profile : Profile) (text : List ℕ) → Lacks 35 text → line_content profile text ≡ text
alone profile text none =
    either _ (is_wide profile && opens_recipe text)
    (λ h. opened_content profile text h)
    (λ f. plain_content profile text f ∙ alone_in (is_wide profile) text none)

-- a comment behind no backslash, and in no recipe
pub commented : (profile : Profile) (text comment : List ℕ) → Lacks 35 text → IsComment comment → (is_wide profile && ends_with 92 text) ≡ false →
    (is_wide profile && opens_recipe (text ++ comment)) ≡ false → line_content profile (text ++ comment) ≡ text
commented profile text comment none begins bare unopened =
    plain_content profile (text ++ comment) unopened ∙ commented_in (is_wide profile) text comment none begins bare

-- a text that is cut at its first `#`, behind no backslash
pub cut_is : (profile : Profile) (text : List ℕ) → (is_wide profile && opens_recipe text) ≡ false → (is_wide profile && ends_with 92 (before_first is_hash text)) ≡ false →
    before_first is_hash text ≡ line_content profile text
cut_is profile text unopened bare =
    let cut = before_first_cuts is_hash text in
    sym (plain_content profile text unopened ∙ ap (content_in (is_wide profile)) cut.1.0
    ∙ commented_in (is_wide profile) (before_first is_hash text) cut.0 cut.1.1 (hash_start cut.0 cut.1.2) bare)

-- one that is the shell's behind its `;`
pub opened_is : (profile : Profile) (text : List ℕ) → (is_wide profile && opens_recipe text) ≡ true → text ≡ line_content profile text
opened_is profile text h = sym (opened_content profile text h)

-- one with a `\#`
pub unescaped_is : (profile : Profile) (text content : List ℕ) → (is_wide profile && opens_recipe text) ≡ false → is_wide profile ≡ true → content ≡ unescaped_from false text → content ≡ line_content profile text
unescaped_is profile text content unopened wide e = e ∙ sym (plain_content profile text unopened ∙ ap (λ w. content_in w text) wide)
