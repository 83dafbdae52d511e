-- The front that is computed of a text is the one that the text spells, and each text spells one.
use Rattle.std.proofs.Common.{◌≡◌, ℕ, suc, ◌+◌, ◌<◌, ◌≤◌, nat_lt, Bool, true, false, cond, not, ◌||◌, ◌==◌, List, [], ◌∷◌, ◌++◌, take, drop, length, Option, Some, None, is_some, refl, sym, ap, subst, ◌∙◌, ◌⊎◌, inl, inr, arith, append-nil, length-append}
use Rattle.std.specs.List.{list_any, prefix_len}
use Rattle.std.proofs.lemmas.Bool.Decides.{nat_tests, Decides-eqb}
use Rattle.std.proofs.lemmas.List.{take_at, drop_at, take-append-drop, length-take-le}
use Rattle.byte_strings.specs.Blanks.{is_nonempty}
use Rattle.bstr.specs.Utf8.{decoded}
use Rattle.bstr.proofs.lemmas.PieceLemmas.{piece-bounds}
use Rattle.mk_macros.specs.Words.{is_byte, place_of, WordChange, by_pattern, pattern_of}
use Rattle.mk_macros.specs.Reference.{Use, whole, words_changed, Piece, plain, reference, unclosed, nested, Front, nothing, first, after_colon, at_colon, in_brackets, named, closed_at, character_len, closing, behind_dollar, plain_until, front}
use Rattle.mk_macros.specs.Spelled.{Lacks, Fits, IsNotClosed, IsBeforeDollar, SpellsPlain, SpellsBrackets, SpellsOpen, SpellsShort, SpellsUse, SpellsReference, SpellsPiece, SpellsFront}
pub use Rattle.mk_macros.proofs.BracketLemmas.{either}
use Rattle.mk_macros.proofs.BracketLemmas.{closing-some, closing-none, cut_whole}
use Rattle.mk_macros.proofs.PatternLemmas.{place_of-at, drop-behind}

or_false : (a b : Bool) → (a || b) ≡ false → (a ≡ false) × (b ≡ false)
or_false true b h = absurd (cc h)
or_false false b h = (refl, h)

-- The first place of a byte

len_without : (c : ℕ) (xs : List ℕ) → Lacks c xs → prefix_len (λ x. not (is_byte c x)) xs ≡ length xs
len_without c [] h = refl
len_without c (b ∷ bs) h =
    let parts = or_false (b == c) (list_any (λ x. x == c) bs) h in
    let more : 1 + length bs ≡ suc (length bs) = omega arith in
    ap (λ t. cond (not t) (1 + prefix_len (λ x. not (is_byte c x)) bs) 0) parts.0 ∙ ap (λ n. 1 + n) (len_without c bs parts.1) ∙ more

pub place_of-none : (c : ℕ) (xs : List ℕ) → Lacks c xs → place_of c xs ≡ None
place_of-none c xs h =
    let end : prefix_len (λ x. not (is_byte c x)) xs ≡ length xs = len_without c xs h in
    let within : nat_lt (length xs) (length xs) ≡ false = grind (arith, nat_tests) in
    rw end (rw within refl)

place_of-some : (c : ℕ) (before after : List ℕ) → Lacks c before → place_of c (before ++ c ∷ after) ≡ Some (length before)
place_of-some c before after h = place_of-at c before after (place_of-none c before h)

-- a text lacks a byte, or is cut at the first
abbrev IsCut : (c : ℕ) (text : List ℕ) → Type 0
IsCut c text = Lacks c text ⊎ ((before : List ℕ) × (after : List ℕ) × (text ≡ before ++ c ∷ after) × Lacks c before)

cut_more : (c b : ℕ) (bs : List ℕ) → (b == c) ≡ false → IsCut c bs → IsCut c (b ∷ bs)
cut_more c b bs e (inl lacks) = inl (ap (λ t. t || list_any (λ x. x == c) bs) e ∙ lacks)
cut_more c b bs e (inr (before, after, is, lacks)) =
    inr (b ∷ before, after, ap (λ xs. b ∷ xs) is, ap (λ t. t || list_any (λ x. x == c) before) e ∙ lacks)

cut : (c : ℕ) (text : List ℕ) → IsCut c text
cut c [] = inl refl
cut c (b ∷ bs) =
    either _ (b == c)
    (λ e. inr ([], bs, ap (λ x. x ∷ bs) ((Decides-eqb b c).0 e), refl))
    (λ e. cut_more c b bs e (cut c bs))

-- What is spelled is computed

module _ (wide : Bool) (opening close : ℕ) (apart : (close == 36) ≡ false) where
  closing_fits : (inner rest : List ℕ) → Fits wide opening close inner → closing wide opening close (inner ++ close ∷ rest) ≡ Some (length inner)
  closing_fits inner rest h = fits_at wide inner rest h
    where
      fits_at : (w : Bool) (inner rest : List ℕ) → Fits w opening close inner → closing w opening close (inner ++ close ∷ rest) ≡ Some (length inner)
      fits_at false inner rest h = place_of-some close inner rest h
      fits_at true inner rest h = closing-some opening close apart inner rest h

  closing_none : (behind : List ℕ) → IsNotClosed wide opening close behind → closing wide opening close behind ≡ None
  closing_none behind h = none_at wide behind h
    where
      none_at : (w : Bool) (behind : List ℕ) → IsNotClosed w opening close behind → closing w opening close behind ≡ None
      none_at false behind h = place_of-none close behind h
      none_at true behind h = closing-none opening close apart behind h

  -- nothing closes the brackets, or they are closed behind what they hold
  abbrev IsParted : List ℕ → Type 0
  IsParted behind = IsNotClosed wide opening close behind
      ⊎ ((inner : List ℕ) × (rest : List ℕ) × (behind ≡ inner ++ close ∷ rest) × Fits wide opening close inner)

  parted : (behind : List ℕ) → IsParted behind
  parted behind = parted_at wide behind
    where
      parted_at : (w : Bool) (behind : List ℕ) → IsNotClosed w opening close behind
          ⊎ ((inner : List ℕ) × (rest : List ℕ) × (behind ≡ inner ++ close ∷ rest) × Fits w opening close inner)
      parted_at false behind = cut close behind
      parted_at true behind = cut_whole opening close apart behind

  closed : (inner rest : List ℕ) → Fits wide opening close inner → closed_at (inner ++ close ∷ rest) (closing wide opening close (inner ++ close ∷ rest)) ≡ first (in_brackets inner) rest
  closed inner rest h =
      ap (closed_at (inner ++ close ∷ rest)) (closing_fits inner rest h)
      ∙ ap (λ xs. first (in_brackets xs) (drop (length inner + 1) (inner ++ close ∷ rest))) (take_at inner (close ∷ rest) (length inner) refl)
      ∙ ap (first (in_brackets inner)) (drop-behind inner close rest)

brackets_front : (wide : Bool) (text inner rest : List ℕ) → SpellsBrackets wide text inner rest → front wide text ≡ first (in_brackets inner) rest
brackets_front wide text inner rest (inl (e, h)) = ap (front wide) e ∙ closed wide 40 41 refl inner rest h
brackets_front wide text inner rest (inr (e, h)) = ap (front wide) e ∙ closed wide 123 125 refl inner rest h

pub use_computed : (inner name : List ℕ) (use_of : Use) → SpellsUse inner name use_of → named inner ≡ reference name use_of
use_computed inner name whole (e, inl h) = ap (at_colon inner) (place_of-none 58 inner h) ∙ ap (λ n. reference n whole) (sym e)
use_computed inner name whole (e, inr (before, after, is, h, none)) =
    ap (λ xs. at_colon xs (place_of 58 xs)) is
    ∙ ap (at_colon (before ++ 58 ∷ after)) (place_of-some 58 before after h)
    ∙ ap (λ xs. after_colon (before ++ 58 ∷ after) (length before) xs (place_of 61 xs)) (drop-behind before 58 after)
    ∙ ap (after_colon (before ++ 58 ∷ after) (length before) after) (place_of-none 61 after none)
    ∙ ap (λ n. reference n whole) (sym (e ∙ is))
use_computed inner name (words_changed change) (old, new, is, h, none, c) =
    let parts = old ++ 61 ∷ new in
    let text = name ++ 58 ∷ parts in
    let changed : List ℕ → List ℕ → List ℕ → Piece = λ n x y. reference n (words_changed (by_pattern (pattern_of x y))) in
    ap (λ xs. at_colon xs (place_of 58 xs)) is
    ∙ ap (at_colon text) (place_of-some 58 name parts h)
    ∙ ap (λ xs. after_colon text (length name) xs (place_of 61 xs)) (drop-behind name 58 parts)
    ∙ ap (after_colon text (length name) parts) (place_of-some 61 old new none)
    ∙ ap (λ n. changed n (take (length old) parts) (drop (length old + 1) parts)) (take_at name (58 ∷ parts) (length name) refl)
    ∙ ap (λ x. changed name x (drop (length old + 1) parts)) (take_at old (61 ∷ new) (length old) refl)
    ∙ ap (changed name old) (drop-behind old 61 new)
    ∙ ap (λ x. reference name (words_changed x)) (sym c)

brackets_computed : (inner : List ℕ) (o : Option ℕ) → place_of 36 inner ≡ o → in_brackets inner ≡ cond (is_some o) (nested inner) (named inner)
brackets_computed inner o e = ap (λ p. cond (is_some p) (nested inner) (named inner)) e

nested_computed : (inner : List ℕ) → list_any (λ b. b == 36) inner ≡ true → IsCut 36 inner → in_brackets inner ≡ nested inner
nested_computed inner h (inl lacks) = absurd (cc (h, lacks))
nested_computed inner h (inr (before, after, e, lacks)) =
    brackets_computed inner (Some (length before)) (ap (place_of 36) e ∙ place_of-some 36 before after lacks)

run_computed : (wide : Bool) (text bytes rest : List ℕ) → text ≡ bytes ++ rest → is_nonempty bytes ≡ true → Lacks 36 bytes → IsBeforeDollar rest → front wide text ≡ first (plain bytes) rest
run_computed wide text [] rest e some h ends = absurd (cc some)
run_computed wide text (b ∷ bs) rest e some h (inl end) =
    let line = b ∷ bs in
    let none = (or_false (b == 36) (list_any (λ x. x == 36) bs) h).0 in
    ap (front wide) (e ∙ ap (λ xs. line ++ xs) end ∙ append-nil line)
    ∙ ap (λ t. cond t (behind_dollar wide bs) (plain_until line (place_of 36 line))) none
    ∙ ap (plain_until line) (place_of-none 36 line h) ∙ ap (first (plain line)) (sym end)
run_computed wide text (b ∷ bs) rest e some h (inr (more, at)) =
    let line = b ∷ bs in
    let all = line ++ 36 ∷ more in
    let none = (or_false (b == 36) (list_any (λ x. x == 36) bs) h).0 in
    ap (front wide) (e ∙ ap (λ xs. line ++ xs) at)
    ∙ ap (λ t. cond t (behind_dollar wide (bs ++ 36 ∷ more)) (plain_until all (place_of 36 all))) none
    ∙ ap (plain_until all) (place_of-some 36 line more h)
    ∙ ap (λ xs. first (plain xs) (drop (length line) all)) (take_at line (36 ∷ more) (length line) refl)
    ∙ ap (first (plain line)) (drop_at line (36 ∷ more) (length line) refl ∙ sym at)

short_computed : (wide : Bool) (text name rest : List ℕ) → SpellsShort text name rest → front wide text ≡ first (reference name whole) rest
short_computed wide text name rest (b, bs, e, dollar, round, curly, is, long) =
    let after = b ∷ bs in
    let n = character_len after in
    let short : Front = first (reference (take n after) whole) (drop n after) in
    ap (front wide) e
    ∙ ap (λ t. cond t (first (plain (36 ∷ [])) bs) (cond (b == 40) (closed_at bs (closing wide 40 41 bs)) (cond (b == 123) (closed_at bs (closing wide 123 125 bs)) short))) dollar
    ∙ ap (λ t. cond t (closed_at bs (closing wide 40 41 bs)) (cond (b == 123) (closed_at bs (closing wide 123 125 bs)) short)) round
    ∙ ap (λ t. cond t (closed_at bs (closing wide 123 125 bs)) short) curly
    ∙ ap (λ xs. first (reference xs whole) (drop n after)) (ap (take n) is ∙ take_at name rest n long)
    ∙ ap (first (reference name whole)) (ap (drop n) is ∙ drop_at name rest n long)

piece_computed : (wide : Bool) (text : List ℕ) (piece : Piece) (rest : List ℕ) → SpellsPiece wide text piece rest → front wide text ≡ first piece rest
piece_computed wide text (plain bytes) rest (inl (e, inl is)) = ap (front wide) is ∙ ap (λ xs. first (plain xs) rest) (sym e)
piece_computed wide text (plain bytes) rest (inl (e, inr (is, end))) =
    ap (front wide) is ∙ ap (λ xs. first (plain xs) []) (sym e) ∙ ap (first (plain bytes)) (sym end)
piece_computed wide text (plain bytes) rest (inr (e, some, h, ends)) = run_computed wide text bytes rest e some h ends
piece_computed wide text (reference name use_of) rest (inl (inner, brackets, h, spells)) =
    brackets_front wide text inner rest brackets
    ∙ ap (λ p. first p rest) (brackets_computed inner None (place_of-none 36 inner h) ∙ use_computed inner name use_of spells)
piece_computed wide text (reference name use_of) rest (inr (e, short)) =
    short_computed wide text name rest short ∙ ap (λ u. first (reference name u) rest) (sym e)
piece_computed wide text unclosed rest (inl (inner, e, h), end) =
    ap (front wide) e ∙ ap (closed_at inner) (closing_none wide 40 41 refl inner h) ∙ ap (first unclosed) (sym end)
piece_computed wide text unclosed rest (inr (inner, e, h), end) =
    ap (front wide) e ∙ ap (closed_at inner) (closing_none wide 123 125 refl inner h) ∙ ap (first unclosed) (sym end)
piece_computed wide text (nested inner) rest (brackets, h) =
    brackets_front wide text inner rest brackets ∙ ap (λ p. first p rest) (nested_computed inner h (cut 36 inner))

pub front_back : (wide : Bool) (text : List ℕ) (f : Front) → SpellsFront wide text f → front wide text ≡ f
front_back wide text nothing h = ap (front wide) h
front_back wide text (first piece rest) h = piece_computed wide text piece rest h

-- Each text spells a front

abbrev Spelled : (wide : Bool) → List ℕ → Type 0
Spelled wide text = (f : Front) × SpellsFront wide text f

abbrev UseSpelled : List ℕ → Type 0
UseSpelled inner = (name : List ℕ) × (use_of : Use) × SpellsUse inner name use_of

use_some : (inner : List ℕ) → IsCut 58 inner → UseSpelled inner
use_some inner (inl none) = (inner, whole, (refl, inl none))
use_some inner (inr (before, after, e, none)) = change (cut 61 after)
  where
    change : IsCut 61 after → UseSpelled inner
    change (inl lacks) = (inner, whole, (refl, inr (before, after, e, none, lacks)))
    change (inr (old, new, is, lacks)) =
        (before, words_changed (by_pattern (pattern_of old new)), (old, new, e ∙ ap (λ xs. before ++ 58 ∷ xs) is, none, lacks, refl))

brackets_spelled : (wide : Bool) (text inner rest : List ℕ) → SpellsBrackets wide text inner rest → Spelled wide text
brackets_spelled wide text inner rest brackets =
    either _ (list_any (λ b. b == 36) inner)
    (λ e. (first (nested inner) rest, (brackets, e)))
    (λ e. let of = use_some inner (cut 58 inner) in (first (reference of.0 of.1) rest, inl (inner, brackets, e, of.2)))

round_spelled : (wide : Bool) (behind : List ℕ) → IsParted wide 40 41 refl behind → Spelled wide (36 ∷ 40 ∷ behind)
round_spelled wide behind (inl never) = (first unclosed [], (inl (behind, refl, never), refl))
round_spelled wide behind (inr (inner, rest, e, fits)) = brackets_spelled wide (36 ∷ 40 ∷ behind) inner rest (inl (ap (λ xs. 36 ∷ 40 ∷ xs) e, fits))

curly_spelled : (wide : Bool) (behind : List ℕ) → IsParted wide 123 125 refl behind → Spelled wide (36 ∷ 123 ∷ behind)
curly_spelled wide behind (inl never) = (first unclosed [], (inr (behind, refl, never), refl))
curly_spelled wide behind (inr (inner, rest, e, fits)) = brackets_spelled wide (36 ∷ 123 ∷ behind) inner rest (inr (ap (λ xs. 36 ∷ 123 ∷ xs) e, fits))

-- a character lies within the text, and takes at least one byte
len_cases : (text : List ℕ) → 0 < length text → (t : Bool) → (0 < cond t (decoded text).size 1) × (cond t (decoded text).size 1 ≤ length text)
len_cases text h true = let bounds = piece-bounds text h in (omega (arith, bounds.0), bounds.2)
len_cases text h false = (omega arith, omega arith)

character_within : (text : List ℕ) → 0 < length text → (0 < character_len text) × (character_len text ≤ length text)
character_within text h = len_cases text h (is_some (decoded text).char)

dollar_spelled : (wide : Bool) (behind : List ℕ) → Spelled wide (36 ∷ behind)
dollar_spelled wide [] = (first (plain (36 ∷ [])) [], inl (refl, inr (refl, refl)))
dollar_spelled wide (b ∷ bs) =
    let after = b ∷ bs in
    let n = character_len after in
    either _ (b == 36)
    (λ e. (first (plain (36 ∷ [])) bs, inl (refl, inl (ap (λ x. 36 ∷ x ∷ bs) ((Decides-eqb b 36).0 e)))))
    (λ dollar. either _ (b == 40)
    (λ e. subst (λ x. Spelled wide (36 ∷ x ∷ bs)) (sym ((Decides-eqb b 40).0 e)) (round_spelled wide bs (parted wide 40 41 refl bs)))
    (λ round. either _ (b == 123)
    (λ e. subst (λ x. Spelled wide (36 ∷ x ∷ bs)) (sym ((Decides-eqb b 123).0 e)) (curly_spelled wide bs (parted wide 123 125 refl bs)))
    (λ curly. (
      first (reference (take n after) whole) (drop n after),
      inr (refl, (b, bs, refl, dollar, round, curly, sym (take-append-drop n after), length-take-le n after (character_within after (omega arith)).1)),
    ))))

abbrev begins_dollar : List ℕ → Bool
begins_dollar [] = false
begins_dollar (b ∷ bs) = b == 36

some_before : (b : ℕ) (bs before after : List ℕ) → (b == 36) ≡ false → b ∷ bs ≡ before ++ 36 ∷ after → is_nonempty before ≡ true
some_before b bs [] after e is = let head : (b == 36) ≡ true = ap begins_dollar is in absurd (cc (e, head))
some_before b bs (c ∷ cs) after e is = refl

run_spelled : (wide : Bool) (b : ℕ) (bs : List ℕ) → (b == 36) ≡ false → IsCut 36 (b ∷ bs) → Spelled wide (b ∷ bs)
run_spelled wide b bs e (inl lacks) = (first (plain (b ∷ bs)) [], inr (sym (append-nil (b ∷ bs)), refl, lacks, inl refl))
run_spelled wide b bs e (inr (before, after, is, lacks)) =
    (first (plain before) (36 ∷ after), inr (is, some_before b bs before after e is, lacks, inr (after, refl)))

pub some_front : (wide : Bool) (text : List ℕ) → Spelled wide text
some_front wide [] = (nothing, refl)
some_front wide (b ∷ bs) =
    either _ (b == 36)
    (λ e. subst (λ x. Spelled wide (x ∷ bs)) (sym ((Decides-eqb b 36).0 e)) (dollar_spelled wide bs))
    (λ e. run_spelled wide b bs e (cut 36 (b ∷ bs)))

pub front_said : (wide : Bool) (text : List ℕ) → SpellsFront wide text (front wide text)
front_said wide text = let found = some_front wide text in subst (SpellsFront wide text) (sym (front_back wide text found.0 found.1)) found.1

-- the reference that a text in brackets is read as, and no other
pub named_said : (inner name : List ℕ) (use_of : Use) → named inner ≡ reference name use_of → SpellsUse inner name use_of
named_said inner name use_of e =
    let of = use_some inner (cut 58 inner) in
    let same : reference of.0 of.1 ≡ reference name use_of = sym (use_computed inner of.0 of.1 of.2) ∙ e in
    let name_is : of.0 ≡ name = cc in
    let use_is : of.1 ≡ use_of = cc in
    subst (λ u. SpellsUse inner name u) use_is (subst (λ n. SpellsUse inner n of.1) name_is of.2)

-- What is left is shorter

brackets_shorter : (wide : Bool) (text inner rest : List ℕ) → SpellsBrackets wide text inner rest → (length rest < length text) × (length inner < length text)
brackets_shorter wide text inner rest (inl (e, h)) = let long = ap length e in let parts = length-append inner (41 ∷ rest) in (omega (arith, long, parts), omega (arith, long, parts))
brackets_shorter wide text inner rest (inr (e, h)) = let long = ap length e in let parts = length-append inner (125 ∷ rest) in (omega (arith, long, parts), omega (arith, long, parts))

run_shorter : (text bytes rest : List ℕ) → text ≡ bytes ++ rest → is_nonempty bytes ≡ true → length rest < length text
run_shorter text [] rest e some = absurd (cc some)
run_shorter text (b ∷ bs) rest e some = let long = ap length e in omega (arith, long, length-append (b ∷ bs) rest)

open_shorter : (wide : Bool) (text : List ℕ) → SpellsOpen wide text → 0 < length text
open_shorter wide text (inl (inner, e, h)) = let long = ap length e in omega (arith, long)
open_shorter wide text (inr (inner, e, h)) = let long = ap length e in omega (arith, long)

pub piece_shorter : (wide : Bool) (text : List ℕ) (piece : Piece) (rest : List ℕ) → SpellsPiece wide text piece rest → length rest < length text
piece_shorter wide text (plain bytes) rest (inl (e, inl is)) = let long = ap length is in omega (arith, long)
piece_shorter wide text (plain bytes) rest (inl (e, inr (is, end))) = let long = ap length is in let short = ap length end in omega (arith, long, short)
piece_shorter wide text (plain bytes) rest (inr (e, some, h, ends)) = run_shorter text bytes rest e some
piece_shorter wide text (reference name use_of) rest (inl (inner, brackets, h, spells)) = (brackets_shorter wide text inner rest brackets).0
piece_shorter wide text (reference name use_of) rest (inr (e, (b, bs, is, dollar, round, curly, both, long))) =
    let whole_len = ap length is in
    let after_len = ap length both in
    omega (arith, whole_len, after_len, length-append name rest)
piece_shorter wide text unclosed rest (h, end) = let short = ap length end in omega (arith, short, open_shorter wide text h)
piece_shorter wide text (nested inner) rest (brackets, h) = (brackets_shorter wide text inner rest brackets).0

pub inner_shorter : (wide : Bool) (text inner rest : List ℕ) → SpellsPiece wide text (nested inner) rest → length inner < length text
inner_shorter wide text inner rest (brackets, h) = (brackets_shorter wide text inner rest brackets).1
