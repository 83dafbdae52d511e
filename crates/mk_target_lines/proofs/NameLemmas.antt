-- The names of a text, one after the other.
use Rattle.std.proofs.Common.{◌≡◌, ℕ, zero, suc, ◌+◌, ◌<◌, ◌≤◌, Bool, true, false, cond, not, ◌||◌, ◌&&◌, ◌==◌, ◌/◌, ◌%◌, nat_le, List, [], ◌∷◌, ◌++◌, length, get_or, refl, sym, ap, ◌∙◌, subst, Option, Some, None, eqb-true, append_assoc, append-nil, arith}
use Rattle.byte_strings.specs.Blanks.{is_blank}
use Rattle.mk_words.specs.Words.{is_space, behind_spaces}
use Rattle.mk_words.proofs.WordLemmas.{behind_spaces-first, length-behind_spaces}
use Rattle.mk_target_lines.specs.Cut.{Cut, is_mark, onto, backslashes, cut_behind, cut}
use Rattle.mk_target_lines.specs.Names.{end_mark, is_stop, with_names, at_name, names_within, names_of}
use Rattle.mk_target_lines.specs.declared.mark.Mark.{Mark}

by_three : (t u v : Bool) (n : ℕ) (a b c d : Cut) → length a.1 ≤ n → length b.1 ≤ n → length c.1 ≤ suc n → length d.1 ≤ n →
    length (cond t a (cond u b (cond v c d))).1 ≤ suc n
by_three true u v n a b c d p q r s = omega (arith, p)
by_three false true v n a b c d p q r s = omega (arith, q)
by_three false false true n a b c d p q r s = r
by_three false false false n a b c d p q r s = omega (arith, s)

-- nothing is longer where it is cut
left_within : (mark : Mark) (held : ℕ) (text : List ℕ) → length (cut_behind mark held text).1 ≤ length text
left_within mark held [] = omega arith
left_within mark held (b ∷ bs) =
    by_three (b == 92) (not (is_mark mark b)) (held % 2 == 0) (length bs) (cut_behind mark (held + 1) bs)
    (onto (backslashes held ++ b ∷ []) (cut_behind mark 0 bs)) (backslashes (held / 2), b ∷ bs) (onto (backslashes (held / 2) ++ b ∷ []) (cut_behind mark 0 bs))
    (left_within mark (held + 1) bs) (left_within mark 0 bs) (omega arith) (left_within mark 0 bs)

by_two : (t u v : Bool) (n : ℕ) (a b c : Cut) → u ≡ false → length a.1 ≤ n → length b.1 ≤ n → length (cond t a (cond (not u) b c)).1 ≤ n
by_two true u v n a b c e p q = p
by_two false true v n a b c e p q = absurd (cc)
by_two false false v n a b c e p q = q

left_behind : (mark : Mark) (b : ℕ) (bs : List ℕ) → is_mark mark b ≡ false → length (cut mark (b ∷ bs)).1 ≤ length bs
left_behind mark b bs e =
    by_two (b == 92) (is_mark mark b) true (length bs) (cut_behind mark 1 bs) (onto (b ∷ []) (cut_behind mark 0 bs)) ([], b ∷ bs) e
    (left_within mark 1 bs) (left_within mark 0 bs)

or_false : (t u : Bool) → (t || u) ≡ false → (t ≡ false) × (u ≡ false)
or_false true u e = absurd (cc)
or_false false u e = (refl, e)

tab : (t : Bool) (b : ℕ) → (b == 9) ≡ t → is_space b ≡ false → t ≡ false
tab true b e h = let nine : b ≡ 9 = eqb-true b 9 e in absurd (let space : true ≡ false = ap is_space (sym nine) ∙ h in cc)
tab false b e h = refl

not_blank : (b : ℕ) → is_space b ≡ false → is_blank b ≡ false
not_blank b h = ap (λ t. t || b == 9) (or_false (b == 32) (nat_le 9 b && nat_le b 13) h).0 ∙ tab (b == 9) b refl h

not_mark : (stop : Option ℕ) (b : ℕ) → is_space b ≡ false → is_stop stop b ≡ false → is_mark (end_mark stop) b ≡ false
not_mark None b h e = not_blank b h
not_mark (Some stop) b h e = ap (λ t. t || b == stop) (not_blank b h) ∙ e

first_byte : (rest bs : List ℕ) (b : ℕ) → b ∷ bs ≡ behind_spaces rest → is_space b ≡ false
first_byte rest bs b is =
    let some : 0 < length (behind_spaces rest) = subst (λ t. 0 < length t) is (omega arith) in
    subst (λ t. is_space (get_or t 0 0) ≡ false) (sym is) (behind_spaces-first rest some)

-- these names stand in front of what is left, which is this without the spaces in front
abbrev pub IsLeft : (stop : Option ℕ) (text : List ℕ) (names : List (List ℕ)) (start : List ℕ) → Type 0
IsLeft stop text names start =
    (rest : List ℕ) × (size : ℕ) × (start ≡ behind_spaces rest) × (length rest ≤ size) × (with_names names (names_within size stop rest) ≡ names_of stop text)

pub begins : (stop : Option ℕ) (text start : List ℕ) (names : List (List ℕ)) → names ≡ [] → start ≡ behind_spaces text → IsLeft stop text names start
begins stop text start names none is =
    subst (λ ns. IsLeft stop text ns start) (sym none) (text, length text, is, omega arith, refl)

ends_within : (stop : Option ℕ) (size : ℕ) (rest : List ℕ) → [] ≡ behind_spaces rest → names_within size stop rest ≡ ([], None)
ends_within stop zero rest is = refl
ends_within stop (suc size) rest is = ap (λ t. at_name stop t (names_within size stop)) (sym is)

with_none : (names : List (List ℕ)) (behind : Option (List ℕ)) → with_names names ([], behind) ≡ (names, behind)
with_none names behind = ap (λ ns. (ns, behind)) (append-nil names)

pub ends : (stop : Option ℕ) (text start : List ℕ) (names : List (List ℕ)) → IsLeft stop text names start → start ≡ [] → (names, None) ≡ names_of stop text
ends stop text start names (rest, size, is, within, same) none =
    sym (with_none names None) ∙ ap (with_names names) (sym (ends_within stop size rest (sym none ∙ is))) ∙ same

-- how many bytes are left at a name
some_size : (rest bs : List ℕ) (b size : ℕ) → b ∷ bs ≡ behind_spaces rest → length rest ≤ size → (n : ℕ) × (size ≡ suc n) × (length bs ≤ n)
some_size rest bs b zero is within =
    let left : length (b ∷ bs) ≤ length rest = subst (λ t. length t ≤ length rest) (sym is) (length-behind_spaces rest) in
    absurd (omega (arith, left, within))
some_size rest bs b (suc n) is within =
    let left : length (b ∷ bs) ≤ length rest = subst (λ t. length t ≤ length rest) (sym is) (length-behind_spaces rest) in
    (n, refl, omega (arith, left, within))

pub stops : (stop : Option ℕ) (text start : List ℕ) (names : List (List ℕ)) (b : ℕ) (bs : List ℕ) → IsLeft stop text names start → start ≡ b ∷ bs →
    is_stop stop b ≡ true → (names, Some bs) ≡ names_of stop text
stops stop text start names b bs (rest, size, is, within, same) at e =
    let here_is : b ∷ bs ≡ behind_spaces rest = sym at ∙ is in
    let some = some_size rest bs b size here_is within in
    let here : names_within size stop rest ≡ ([], Some bs) =
    ap (λ n. names_within n stop rest) some.1 ∙ ap (λ t. at_name stop t (names_within some.0 stop)) (sym here_is)
    ∙ ap (λ u. cond u ([], Some bs) (with_names ((cut (end_mark stop) (b ∷ bs)).0 ∷ []) (names_within some.0 stop (cut (end_mark stop) (b ∷ bs)).1))) e in
    sym (with_none names (Some bs)) ∙ ap (with_names names) (sym here) ∙ same

-- the name at which a text begins is taken off
pub shorter : (stop : Option ℕ) (text start : List ℕ) (names : List (List ℕ)) (b : ℕ) (bs : List ℕ) (front left later : List ℕ) → IsLeft stop text names start →
    start ≡ b ∷ bs → is_stop stop b ≡ false → (front, left) ≡ cut (end_mark stop) start → later ≡ behind_spaces left → length later < length start
shorter stop text start names b bs front left later (rest, size, is, within, same) at e found behind =
    let first = first_byte rest bs b (sym at ∙ is) in
    let whole : left ≡ (cut (end_mark stop) (b ∷ bs)).1 = ap (λ (c : Cut). c.1) (found ∙ ap (cut (end_mark stop)) at) in
    let less = left_behind (end_mark stop) b bs (not_mark stop b first e) in
    let same_left : length left ≡ length (cut (end_mark stop) (b ∷ bs)).1 = ap length whole in
    let same_start : length start ≡ length (b ∷ bs) = ap length at in
    let same_later : length later ≡ length (behind_spaces left) = ap length behind in
    omega (arith, less, length-behind_spaces left, same_left, same_start, same_later)

pub next : (stop : Option ℕ) (text start : List ℕ) (names now : List (List ℕ)) (b : ℕ) (bs : List ℕ) (front left later : List ℕ) →
    IsLeft stop text names start → start ≡ b ∷ bs → is_stop stop b ≡ false → (front, left) ≡ cut (end_mark stop) start → now ≡ names ++ front ∷ [] →
    later ≡ behind_spaces left → IsLeft stop text now later
next stop text start names now b bs front left later (rest, size, is, within, same) at e found more behind =
    let here_is : b ∷ bs ≡ behind_spaces rest = sym at ∙ is in
    let some = some_size rest bs b size here_is within in
    let it : (front, left) ≡ cut (end_mark stop) (b ∷ bs) = found ∙ ap (cut (end_mark stop)) at in
    let less = left_behind (end_mark stop) b bs (not_mark stop b (first_byte rest bs b here_is) e) in
    let same_left : length left ≡ length (cut (end_mark stop) (b ∷ bs)).1 = ap (λ (c : Cut). length c.1) it in
    let here : names_within size stop rest ≡ with_names (front ∷ []) (names_within some.0 stop left) =
    ap (λ n. names_within n stop rest) some.1 ∙ ap (λ t. at_name stop t (names_within some.0 stop)) (sym here_is)
    ∙ ap (λ u. cond u ([], Some bs) (with_names ((cut (end_mark stop) (b ∷ bs)).0 ∷ []) (names_within some.0 stop (cut (end_mark stop) (b ∷ bs)).1))) e
    ∙ ap (λ (c : Cut). with_names (c.0 ∷ []) (names_within some.0 stop c.1)) (sym it) in (
      left,
      some.0,
      behind,
      omega (arith, less, some.2, same_left),
      ap (λ ns. with_names ns (names_within some.0 stop left)) more
          ∙ ap (λ ns. (ns, (names_within some.0 stop left).1)) (append_assoc names (front ∷ []) (names_within some.0 stop left).0)
          ∙ ap (with_names names) (sym here) ∙ same,
    )
