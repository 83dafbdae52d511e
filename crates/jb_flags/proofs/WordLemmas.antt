-- The words of MAKEFLAGS are read in one way, and as they were written.
use Rattle.std.proofs.Common.{◌≡◌, ◌≢◌, ℕ, suc, ◌+◌, ◌<◌, ◌≤◌, ◌||◌, Bool, true, false, nat_eq, List, [], ◌∷◌, ◌++◌, length, Some, None, refl, sym, ap, ◌∙◌, subst, arith, append_assoc}
use Rattle.std.specs.List.{AllByRecursion}
use Rattle.std.proofs.lemmas.List.{append-nil}
use Rattle.std.proofs.lemmas.Bool.{eqb-true}
use Rattle.jb_flags.specs.Words.{is_blank, is_pair, spelled_with, spelled, IsWord, behind_blanks, Reads, quoted_byte, quoted, written}

no_some : (found : ℕ × List ℕ) → None ≡ Some found → ⊥
no_some found e = cc

some_once : (a b : ℕ × List ℕ) → Some a ≡ Some b → a ≡ b
some_once a b e = cc

one_word : (word other text rest last : List ℕ) → IsWord word text rest → IsWord other text last → (word ≡ other) × (rest ≡ last)
one_word [] [] text rest last is was = (refl, is.1 ∙ sym was.1)
one_word [] (b ∷ other) text rest last is (behind, e, more) = absurd (no_some (b, behind) (sym is.0 ∙ e))
one_word (b ∷ word) [] text rest last (behind, e, more) was = absurd (no_some (b, behind) (sym was.0 ∙ e))
one_word (b ∷ word) (c ∷ other) text rest last (behind, e, more) (after, f, others) =
    let same : (b, behind) ≡ (c, after) = some_once (b, behind) (c, after) (sym e ∙ f) in
    let head : b ≡ c = ap (λ (p : ℕ × List ℕ). p.0) same in
    let tail : after ≡ behind = sym (ap (λ (p : ℕ × List ℕ). p.1) same) in
    let P : List ℕ → Type 0 = λ t. IsWord other t last in
    let both = one_word word other behind rest last more (subst P tail others) in
    let own : word ≡ other = both.0 in (cc, both.1)

no_word : (word text rest : List ℕ) → text ≡ [] → word ≢ [] → IsWord word text rest → ⊥
no_word [] text rest e some is = some refl
no_word (b ∷ word) text rest e some (behind, f, is) = no_some (b, behind) (ap spelled (sym e) ∙ f)

pub one_reading : (text : List ℕ) (words others : List (List ℕ)) → Reads text words → Reads text others → words ≡ others
one_reading text [] [] none nothing = refl
one_reading text [] (word ∷ others) none (some, (rest, is, more)) = absurd (no_word word (behind_blanks text) rest none some is)
one_reading text (word ∷ words) [] (some, (rest, is, more)) none = absurd (no_word word (behind_blanks text) rest none some is)
one_reading text (word ∷ words) (other ∷ others) (some, (rest, is, more)) (some', (last, was, more')) =
    let both = one_word word other (behind_blanks text) rest last is was in
    let P : List ℕ → Type 0 = λ t. Reads t others in
    let tail : words ≡ others = one_reading rest words others more (subst P (sym both.1) more') in
    let head : word ≡ other = both.0 in cc

-- a byte as it is written
spelled_plain : (b : ℕ) (rest : List ℕ) → is_blank b ≡ false → nat_eq b 92 ≡ false → nat_eq b 36 ≡ false → spelled (b ∷ rest) ≡ Some (b, rest)
spelled_plain b [] blank backslash dollar = rw blank refl
spelled_plain b (second ∷ rest) blank backslash dollar = rw blank (rw backslash (rw dollar refl))

quoted_as : (b : ℕ) (rest : List ℕ) (dollar blank backslash other : Bool) → nat_eq b 36 ≡ dollar → is_blank b ≡ blank → nat_eq b 92 ≡ backslash
    → (nat_eq b 39 || (nat_eq b 34 || nat_eq b 35)) ≡ other → spelled (quoted_byte b ++ rest) ≡ Some (b, rest)
quoted_as b rest true blank backslash other d k s q =
    let twice : quoted_byte b ≡ 36 ∷ 36 ∷ [] = rw d refl in
    ap (λ t. spelled (t ++ rest)) twice ∙ ap (λ x. Some (x, rest)) (sym (eqb-true b 36 d))
quoted_as b rest false true backslash other d k s q =
    let taken : quoted_byte b ≡ 92 ∷ b ∷ [] = rw d (rw k refl) in ap (λ t. spelled (t ++ rest)) taken
quoted_as b rest false false true other d k s q =
    let taken : quoted_byte b ≡ 92 ∷ b ∷ [] = rw d (rw k (rw s refl)) in ap (λ t. spelled (t ++ rest)) taken
quoted_as b rest false false false true d k s q =
    let taken : quoted_byte b ≡ 92 ∷ b ∷ [] = rw d (rw k (rw s (rw q refl))) in ap (λ t. spelled (t ++ rest)) taken
quoted_as b rest false false false false d k s q =
    let itself : quoted_byte b ≡ b ∷ [] = rw d (rw k (rw s (rw q refl))) in ap (λ t. spelled (t ++ rest)) itself ∙ spelled_plain b rest k s d

spelled_quoted : (b : ℕ) (rest : List ℕ) → spelled (quoted_byte b ++ rest) ≡ Some (b, rest)
spelled_quoted b rest =
    quoted_as b rest (nat_eq b 36) (is_blank b) (nat_eq b 92) (nat_eq b 39 || (nat_eq b 34 || nat_eq b 35)) refl refl refl refl

word_quoted : (word rest : List ℕ) → spelled rest ≡ None → IsWord word (quoted word ++ rest) rest
word_quoted [] rest ends = (ends, refl)
word_quoted (b ∷ word) rest ends =
    let P : List ℕ → Type 0 = λ t. spelled t ≡ Some (b, quoted word ++ rest) in
    (quoted word ++ rest, subst P (sym (append_assoc (quoted_byte b) (quoted word) rest)) (spelled_quoted b (quoted word ++ rest)), word_quoted word rest ends)

stays_as : (b : ℕ) (text : List ℕ) (found : ℕ × List ℕ) (blank : Bool) → is_blank b ≡ blank → spelled (b ∷ text) ≡ Some found
    → behind_blanks (b ∷ text) ≡ b ∷ text
stays_as b text found true k e =
    let ends : spelled (b ∷ text) ≡ None = rw k refl in absurd (no_some found (sym ends ∙ e))
stays_as b text found false k e = rw k refl

stays : (text : List ℕ) (found : ℕ × List ℕ) → spelled text ≡ Some found → behind_blanks text ≡ text
stays [] found e = refl
stays (b ∷ text) found e = stays_as b text found (is_blank b) refl e

written_ends : (words : List (List ℕ)) → spelled (written words) ≡ None
written_ends [] = refl
written_ends (word ∷ words) = refl

pub read_as_written : (words : List (List ℕ)) → AllByRecursion (λ word. word ≢ []) words → Reads (written words) words
read_as_written [] all = refl
read_as_written ([] ∷ words) all = absurd (all.0 refl)
read_as_written ((b ∷ word) ∷ words) all =
    let own : List ℕ = quoted (b ∷ word) ++ written words in
    let is : IsWord (b ∷ word) own (written words) = word_quoted (b ∷ word) (written words) (written_ends words) in
    let P : List ℕ → Type 0 = λ t. IsWord (b ∷ word) t (written words) in
    (all.0, (written words, subst P (sym (stays own (b, is.0) is.1)) is, read_as_written words all.1))

-- What the loops have taken.

-- a word of the text begins with what was made, and goes on with what is left
abbrev pub Leads : (made text left : List ℕ) → Type 0
Leads made text left = (word rest : List ℕ) → IsWord word left rest → IsWord (made ++ word) text rest

pub leads_start : (made text : List ℕ) → made ≡ [] → Leads made text text
leads_start made text e =
    let P : List ℕ → Type 0 = λ m. Leads m text text in subst P (sym e) (λ word rest is. is)

pub leads_on : (made more text left : List ℕ) (b : ℕ) (behind : List ℕ) → more ≡ made ++ b ∷ [] → spelled left ≡ Some (b, behind) → Leads made text left
    → Leads more text behind
leads_on made more text left b behind m e leads = λ word rest is.
    let P : List ℕ → Type 0 = λ w. IsWord w text rest in
    subst P (sym (ap (λ w. w ++ word) m ∙ append_assoc made (b ∷ []) word)) (leads (b ∷ word) rest (behind, e, is))

pub leads_to : (made text left : List ℕ) → spelled left ≡ None → Leads made text left → IsWord made text left
leads_to made text left e leads =
    let P : List ℕ → Type 0 = λ w. IsWord w text left in
    subst P (append-nil made) (leads [] left (e, refl))

-- words of the text are those that were found and those of what is left
abbrev pub Finds : (found : List (List ℕ)) (text left : List ℕ) → Type 0
Finds found text left = (words : List (List ℕ)) → Reads left words → Reads text (found ++ words)

again_as : (b : ℕ) (text : List ℕ) (blank : Bool) → is_blank b ≡ blank → behind_blanks (behind_blanks text) ≡ behind_blanks text
    → behind_blanks (behind_blanks (b ∷ text)) ≡ behind_blanks (b ∷ text)
again_as b text true k same = rw k same
again_as b text false k same = rw k (rw k refl)

again : (text : List ℕ) → behind_blanks (behind_blanks text) ≡ behind_blanks text
again [] = refl
again (b ∷ text) = again_as b text (is_blank b) refl (again text)

reads_behind : (text : List ℕ) (words : List (List ℕ)) → Reads (behind_blanks text) words → Reads text words
reads_behind text [] none = sym (again text) ∙ none
reads_behind text (word ∷ words) (some, (rest, is, more)) =
    let P : List ℕ → Type 0 = λ t. IsWord word t rest in (some, (rest, subst P (again text) is, more))

reads_more : (text word rest : List ℕ) (words : List (List ℕ)) → behind_blanks text ≡ text → word ≢ [] → IsWord word text rest → Reads rest words → Reads text (word ∷ words)
reads_more text word rest words same some is more =
    let P : List ℕ → Type 0 = λ t. IsWord word t rest in (some, (rest, subst P (sym same) is, more))

finds_on : (found : List (List ℕ)) (text left word rest : List ℕ) → behind_blanks left ≡ left → word ≢ [] → IsWord word left rest
    → Finds found text left → Finds (found ++ word ∷ []) text (behind_blanks rest)
finds_on found text left word rest same some is finds = λ words reads.
    let P : List (List ℕ) → Type 0 = Reads text in
    subst P (sym (append_assoc found (word ∷ []) words)) (finds (word ∷ words) (reads_more left word rest words same some is (reads_behind rest words reads)))

finds_all : (found : List (List ℕ)) (text : List ℕ) → Finds found text [] → Reads text found
finds_all found text finds =
    let P : List (List ℕ) → Type 0 = Reads text in subst P (append-nil found) (finds [] refl)

-- What is left becomes shorter.

shorter_pair : (first second : ℕ) (rest : List ℕ) (pair : Bool) → is_pair first second ≡ pair → length (spelled_with first (second ∷ rest)).1 ≤ suc (length rest)
shorter_pair first second rest true e = rw e (omega arith)
shorter_pair first second rest false e = rw e (omega arith)

shorter_with : (first : ℕ) (behind : List ℕ) → length (spelled_with first behind).1 ≤ length behind
shorter_with first [] = omega arith
shorter_with first (second ∷ rest) = shorter_pair first second rest (is_pair first second) refl

shorter_as : (first : ℕ) (behind : List ℕ) (b : ℕ) (rest : List ℕ) (blank : Bool) → is_blank first ≡ blank → spelled (first ∷ behind) ≡ Some (b, rest)
    → length rest < suc (length behind)
shorter_as first behind b rest true k e =
    let ends : spelled (first ∷ behind) ≡ None = rw k refl in absurd (no_some (b, rest) (sym ends ∙ e))
shorter_as first behind b rest false k e =
    let found : spelled (first ∷ behind) ≡ Some (spelled_with first behind) = rw k refl in
    let pair : spelled_with first behind ≡ (b, rest) = some_once (spelled_with first behind) (b, rest) (sym found ∙ e) in
    let lengths : length (spelled_with first behind).1 ≡ length rest = ap (λ (p : ℕ × List ℕ). length p.1) pair in
    omega (arith, shorter_with first behind, lengths)

pub spelled_shorter : (text : List ℕ) (b : ℕ) (rest : List ℕ) → spelled text ≡ Some (b, rest) → length rest < length text
spelled_shorter [] b rest e = absurd (no_some (b, rest) e)
spelled_shorter (first ∷ behind) b rest e = shorter_as first behind b rest (is_blank first) refl e

word_shorter : (word text rest : List ℕ) → IsWord word text rest → length rest + length word ≤ length text
word_shorter [] text rest is = let same : length rest ≡ length text = ap length is.1 in omega (arith, same)
word_shorter (b ∷ word) text rest (behind, e, is) = omega (arith, spelled_shorter text b behind e, word_shorter word behind rest is)

blanks_as : (b : ℕ) (text : List ℕ) (blank : Bool) → is_blank b ≡ blank → length (behind_blanks text) ≤ length text → length (behind_blanks (b ∷ text)) ≤ suc (length text)
blanks_as b text true k h = rw k (omega (arith, h))
blanks_as b text false k h = rw k (omega arith)

blanks_shorter : (text : List ℕ) → length (behind_blanks text) ≤ length text
blanks_shorter [] = omega arith
blanks_shorter (b ∷ text) = blanks_as b text (is_blank b) refl (blanks_shorter text)

word_of_some : (b : ℕ) (text : List ℕ) (blank : Bool) → is_blank b ≡ blank → behind_blanks (b ∷ text) ≡ b ∷ text → spelled (b ∷ text) ≡ None → ⊥
word_of_some b text true k same ends =
    let skipped : behind_blanks (b ∷ text) ≡ behind_blanks text = rw k refl in
    let lengths : length (behind_blanks text) ≡ suc (length text) = ap length (sym skipped ∙ same) in
    omega (arith, lengths, blanks_shorter text)
word_of_some b text false k same ends =
    let found : spelled (b ∷ text) ≡ Some (spelled_with b text) = rw k refl in no_some (spelled_with b text) (sym ends ∙ found)

some_word : (word text rest : List ℕ) → behind_blanks text ≡ text → 0 < length text → IsWord word text rest → word ≢ []
some_word [] [] rest same some is = absurd (omega (arith, some))
some_word [] (b ∷ text) rest same some is = λ nothing. word_of_some b text (is_blank b) refl same is.0
some_word (c ∷ word) text rest same some is = λ nothing. let e : c ∷ word ≡ [] = nothing in cc

left_shorter : (word text rest : List ℕ) → word ≢ [] → IsWord word text rest → length (behind_blanks rest) < length text
left_shorter [] text rest some is = absurd (some refl)
left_shorter (b ∷ word) text rest some is = omega (arith, word_shorter (b ∷ word) text rest is, blanks_shorter rest)

-- The loop of `words_of`.

pub finds_start : (text left : List ℕ) (found : List (List ℕ)) → left ≡ behind_blanks text → found ≡ [] → Finds found text left × (behind_blanks left ≡ left)
finds_start text left found e f =
    let P : List ℕ → Type 0 = λ l. Finds found text l × (behind_blanks l ≡ l) in
    let Q : List (List ℕ) → Type 0 = λ fs. Finds fs text (behind_blanks text) × (behind_blanks (behind_blanks text) ≡ behind_blanks text) in
    subst P (sym e) (subst Q (sym f) (reads_behind text, again text))

pub finds_next : (found more : List (List ℕ)) (text left word pushed rest behind : List ℕ) → more ≡ found ++ pushed ∷ [] → pushed ≡ word → behind ≡ behind_blanks rest
    → 0 < length left → IsWord word left rest → Finds found text left × (behind_blanks left ≡ left) → Finds more text behind × (behind_blanks behind ≡ behind)
finds_next found more text left word pushed rest behind e f g some is (finds, same) =
    let made : more ≡ found ++ word ∷ [] = e ∙ ap (λ w. found ++ w ∷ []) f in
    let P : List ℕ → Type 0 = λ l. Finds more text l × (behind_blanks l ≡ l) in
    let Q : List (List ℕ) → Type 0 = λ fs. Finds fs text (behind_blanks rest) in
    subst P (sym g) (subst Q (sym made) (finds_on found text left word rest same (some_word word left rest same some is) is finds), again rest)

pub left_smaller : (word left rest behind : List ℕ) → behind ≡ behind_blanks rest → 0 < length left → IsWord word left rest → behind_blanks left ≡ left
    → length behind < length left
left_smaller word left rest behind g some is same =
    let P : List ℕ → Type 0 = λ l. length l < length left in
    subst P (sym g) (left_shorter word left rest (some_word word left rest same some is) is)

pub finds_end : (found : List (List ℕ)) (text left : List ℕ) → length left ≡ 0 → Finds found text left × (behind_blanks left ≡ left) → Reads text found
finds_end found text [] none (finds, same) = finds_all found text finds
finds_end found text (b ∷ left) none all = absurd (omega (arith, none))
