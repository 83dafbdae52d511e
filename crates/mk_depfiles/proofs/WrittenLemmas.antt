-- A line is written for one answer, and for each line there is one.
use Rattle.std.proofs.Common.{◌≡◌, ◌⊎◌, inl, inr, ℕ, zero, suc, ◌+◌, ◌-◌, ◌/◌, ◌%◌, Bool, true, false, cond, ◌&&◌, ◌||◌, ◌==◌, List, [], ◌∷◌, ◌++◌, Result, Ok, Err, refl, sym, ap, subst, ◌∙◌, append_assoc, arith, eqb-true, eq-eqb}
use Rattle.std.proofs.lemmas.List.{append-nil, replicate_more}
use Rattle.byte_strings.specs.Blanks.{is_blank}
use Rattle.mk_depfiles.specs.Lines.{begins_with}
use Rattle.mk_depfiles.specs.Words.{is_gap, is_odd, backslashes, ended, in_front, words_behind, words}
use Rattle.mk_depfiles.specs.Written.{Part, plain, blank, hash, dollar, gap, joint, part_text, is_sign, IsPart, AreParts, parts_text, spoken, Writes}
use Rattle.mk_depfiles.specs.declared.refusal.Cause.{Cause}
use Rattle.mk_depfiles.specs.declared.refusal.Cause.TheVariants.{Nul, Unfinished, RecipeLine, LoneDollar, BareHash, NoColon, NoTarget}
use Rattle.mk_depfiles.specs.declared.gathering.Held.TheVariants.{Backslashes, Dollar}

abbrev Told : Type 0
Told = Result (List (List ℕ)) Cause

-- Read by the code's definition

run : (k n : ℕ) (w rest : List ℕ) → words_behind w (Backslashes n) (backslashes k ++ rest) ≡ words_behind w (Backslashes (n + k)) rest
run zero n w rest = let e : n ≡ n + 0 = omega arith in ap (λ m. words_behind w (Backslashes m) rest) e
run (suc k) n w rest = let e : n + 1 + k ≡ n + suc k = omega arith in run k (n + 1) w rest ∙ ap (λ m. words_behind w (Backslashes m) rest) e

run_then : (k : ℕ) (w tail rest : List ℕ) → words_behind w (Backslashes 0) ((backslashes k ++ tail) ++ rest) ≡ words_behind w (Backslashes k) (tail ++ rest)
run_then k w tail rest =
    let e : 0 + k ≡ k = omega arith in
    ap (words_behind w (Backslashes 0)) (append_assoc (backslashes k) tail rest) ∙ run k 0 w (tail ++ rest) ∙ ap (λ m. words_behind w (Backslashes m) (tail ++ rest)) e

blank_by : (t : Bool) (b : ℕ) → (b == 32) ≡ t → (t || b == 9) ≡ true → (b ≡ 32) ⊎ (b ≡ 9)
blank_by true b e h = inl (eqb-true b 32 e)
blank_by false b e h = inr (eqb-true b 9 h)

blank_cases : (b : ℕ) → is_blank b ≡ true → (b ≡ 32) ⊎ (b ≡ 9)
blank_cases b h = blank_by (b == 32) b refl h

none_of : (a g h d : Bool) → (a || (g || (h || d))) ≡ false → (a ≡ false) × (g ≡ false) × (h ≡ false) × (d ≡ false)
none_of false false false d e = (refl, refl, refl, e)
none_of true g h d e = absurd (cc)
none_of false true h d e = absurd (cc)
none_of false false true d e = absurd (cc)

left_none : (a c : Bool) → (a || c) ≡ false → a ≡ false
left_none false c e = refl
left_none true c e = e

and_none : (a c : Bool) → a ≡ false → (a && c) ≡ false
and_none a c e = ap (λ t. t && c) e

own_step : (w rest : List ℕ) (n b : ℕ) → is_sign b ≡ false → words_behind w (Backslashes n) (b ∷ rest) ≡ words_behind ((w ++ backslashes n) ++ b ∷ []) (Backslashes 0) rest
own_step w rest n b own =
    let parts = none_of (b == 92) (is_gap b) (b == 35) (b == 36) own in
    let slash : (b == 92) ≡ false = parts.0 in
    let no_gap : is_gap b ≡ false = parts.1 in
    let quoted : (is_blank b && is_odd n) ≡ false = and_none (is_blank b) (is_odd n) (left_none (is_blank b) (b == 10) no_gap) in
    let no_hash : (b == 35) ≡ false = parts.2 in
    let no_dollar : (b == 36) ≡ false = parts.3 in
    rw (slash, quoted, no_gap, no_hash, no_dollar) refl

blank_step : (w rest : List ℕ) (n b : ℕ) → is_blank b ≡ true → is_odd n ≡ true → words_behind w (Backslashes n) (b ∷ rest) ≡ words_behind ((w ++ backslashes (n / 2)) ++ b ∷ []) (Backslashes 0) rest
blank_step w rest n b is odd =
    let P : ℕ → Type 0 = λ x. words_behind w (Backslashes n) (x ∷ rest) ≡ words_behind ((w ++ backslashes (n / 2)) ++ x ∷ []) (Backslashes 0) rest in
    let other : Told = in_front (ended (w ++ backslashes (n / 2))) (words_behind [] (Backslashes 0) rest) in
    let at : (x : ℕ) → cond (is_odd n) (words_behind ((w ++ backslashes (n / 2)) ++ x ∷ []) (Backslashes 0) rest) other ≡ words_behind ((w ++ backslashes (n / 2)) ++ x ∷ []) (Backslashes 0) rest =
    λ x. ap (λ t. cond t (words_behind ((w ++ backslashes (n / 2)) ++ x ∷ []) (Backslashes 0) rest) other) odd in
    elim (blank_cases b is) [ inl e ↦ subst P (sym e) (at 32) | inr e ↦ subst P (sym e) (at 9) ]

gap_step : (w rest : List ℕ) (n b : ℕ) → is_blank b ≡ true → is_odd n ≡ false → words_behind w (Backslashes n) (b ∷ rest) ≡ in_front (ended (w ++ backslashes (n / 2))) (words_behind [] (Backslashes 0) rest)
gap_step w rest n b is even =
    let other : Told = in_front (ended (w ++ backslashes (n / 2))) (words_behind [] (Backslashes 0) rest) in
    let P : ℕ → Type 0 = λ x. words_behind w (Backslashes n) (x ∷ rest) ≡ other in
    let at : (x : ℕ) → cond (is_odd n) (words_behind ((w ++ backslashes (n / 2)) ++ x ∷ []) (Backslashes 0) rest) other ≡ other =
    λ x. ap (λ t. cond t (words_behind ((w ++ backslashes (n / 2)) ++ x ∷ []) (Backslashes 0) rest) other) even in
    elim (blank_cases b is) [ inl e ↦ subst P (sym e) (at 32) | inr e ↦ subst P (sym e) (at 9) ]

some_by : (t : Bool) (m : ℕ) → (m == 0) ≡ t → (m ≡ 0 → ⊥) → (m == 0) ≡ false
some_by true m e some = absurd (some (eqb-true m 0 e))
some_by false m e some = e

some : (n : ℕ) → (n + 1 == 0) ≡ false
some n = some_by (n + 1 == 0) (n + 1) refl (λ (e : n + 1 ≡ 0). omega (arith, e))

hash_step : (w rest : List ℕ) (n : ℕ) → words_behind w (Backslashes (n + 1)) (35 ∷ rest) ≡ words_behind ((w ++ backslashes n) ++ 35 ∷ []) (Backslashes 0) rest
hash_step w rest n =
    let less : n + 1 - 1 ≡ n = omega arith in
    ap (λ (t : Bool). cond t (Err BareHash) (words_behind ((w ++ backslashes (n + 1 - 1)) ++ 35 ∷ []) (Backslashes 0) rest)) (some n)
    ∙ ap (λ m. words_behind ((w ++ backslashes m) ++ 35 ∷ []) (Backslashes 0) rest) less

odd_double : (n : ℕ) → is_odd (n + n + 1) ≡ true
odd_double n = eq-eqb ((n + n + 1) % 2) 1 (omega arith)

even_double : (n : ℕ) → is_odd (n + n) ≡ false
even_double n = let e : (n + n) % 2 ≡ 0 = omega arith in ap (λ m. m == 1) e

-- what comes behind parts, by the word that is begun there
abbrev after : (w : List ℕ) → List Part → (List ℕ → Told) → Told
after w [] rest = rest w
after w (plain n b ∷ parts) rest = after ((w ++ backslashes n) ++ b ∷ []) parts rest
after w (blank n b ∷ parts) rest = after ((w ++ backslashes n) ++ b ∷ []) parts rest
after w (hash n ∷ parts) rest = after ((w ++ backslashes n) ++ 35 ∷ []) parts rest
after w (dollar n ∷ parts) rest = after ((w ++ backslashes n) ++ 36 ∷ []) parts rest
after w (gap n b ∷ parts) rest = in_front (ended (w ++ backslashes n)) (after [] parts rest)
after w (joint n ∷ parts) rest = in_front (ended (w ++ backslashes (n / 2))) (after [] parts rest)

part_read : (p : Part) (w rest : List ℕ) → IsPart p → words_behind w (Backslashes 0) (part_text p ++ rest) ≡ after w (p ∷ []) (λ v. words_behind v (Backslashes 0) rest)
part_read (plain n b) w rest is = run_then n w (b ∷ []) rest ∙ own_step w rest n b is
part_read (blank n b) w rest is =
    let half : (n + n + 1) / 2 ≡ n = omega arith in
    run_then (n + n + 1) w (b ∷ []) rest ∙ blank_step w rest (n + n + 1) b is (odd_double n)
    ∙ ap (λ m. words_behind ((w ++ backslashes m) ++ b ∷ []) (Backslashes 0) rest) half
part_read (hash n) w rest is = run_then (n + 1) w (35 ∷ []) rest ∙ hash_step w rest n
part_read (dollar n) w rest is =
    ap (words_behind w (Backslashes 0)) (append_assoc (backslashes n ++ 36 ∷ []) (36 ∷ []) rest) ∙ run_then n w (36 ∷ []) (36 ∷ rest)
part_read (gap n b) w rest is =
    let half : (n + n) / 2 ≡ n = omega arith in
    run_then (n + n) w (b ∷ []) rest ∙ gap_step w rest (n + n) b is (even_double n)
    ∙ ap (λ m. in_front (ended (w ++ backslashes m)) (words_behind [] (Backslashes 0) rest)) half
part_read (joint n) w rest is = run_then n w (10 ∷ []) rest

part_then : (p : Part) (parts : List Part) (w rest : List ℕ) →
    ((v : List ℕ) → words_behind v (Backslashes 0) (parts_text parts ++ rest) ≡ after v parts (λ u. words_behind u (Backslashes 0) rest)) →
    after w (p ∷ []) (λ v. words_behind v (Backslashes 0) (parts_text parts ++ rest)) ≡ after w (p ∷ parts) (λ v. words_behind v (Backslashes 0) rest)
part_then (plain n b) parts w rest more = more ((w ++ backslashes n) ++ b ∷ [])
part_then (blank n b) parts w rest more = more ((w ++ backslashes n) ++ b ∷ [])
part_then (hash n) parts w rest more = more ((w ++ backslashes n) ++ 35 ∷ [])
part_then (dollar n) parts w rest more = more ((w ++ backslashes n) ++ 36 ∷ [])
part_then (gap n b) parts w rest more = ap (in_front (ended (w ++ backslashes n))) (more [])
part_then (joint n) parts w rest more = ap (in_front (ended (w ++ backslashes (n / 2)))) (more [])

parts_read : (parts : List Part) (w rest : List ℕ) → AreParts parts → words_behind w (Backslashes 0) (parts_text parts ++ rest) ≡ after w parts (λ v. words_behind v (Backslashes 0) rest)
parts_read [] w rest are = refl
parts_read (p ∷ parts) w rest are =
    ap (words_behind w (Backslashes 0)) (append_assoc (part_text p) (parts_text parts) rest) ∙ part_read p w (parts_text parts ++ rest) are.0
    ∙ part_then p parts w rest (λ v. parts_read parts v rest are.1)

after_words : (parts : List Part) (w : List ℕ) (last : ℕ) → after w parts (λ v. Ok (ended (v ++ backslashes (last / 2)))) ≡ Ok (spoken w parts last)
after_words [] w last = refl
after_words (plain n b ∷ parts) w last = after_words parts ((w ++ backslashes n) ++ b ∷ []) last
after_words (blank n b ∷ parts) w last = after_words parts ((w ++ backslashes n) ++ b ∷ []) last
after_words (hash n ∷ parts) w last = after_words parts ((w ++ backslashes n) ++ 35 ∷ []) last
after_words (dollar n ∷ parts) w last = after_words parts ((w ++ backslashes n) ++ 36 ∷ []) last
after_words (gap n b ∷ parts) w last = ap (in_front (ended (w ++ backslashes n))) (after_words parts [] last)
after_words (joint n ∷ parts) w last = ap (in_front (ended (w ++ backslashes (n / 2)))) (after_words parts [] last)

after_refused : (parts : List Part) (w : List ℕ) (rest : List ℕ → Told) (cause : Cause) → ((v : List ℕ) → rest v ≡ Err cause) → after w parts rest ≡ Err cause
after_refused [] w rest cause h = h w
after_refused (plain n b ∷ parts) w rest cause h = after_refused parts ((w ++ backslashes n) ++ b ∷ []) rest cause h
after_refused (blank n b ∷ parts) w rest cause h = after_refused parts ((w ++ backslashes n) ++ b ∷ []) rest cause h
after_refused (hash n ∷ parts) w rest cause h = after_refused parts ((w ++ backslashes n) ++ 35 ∷ []) rest cause h
after_refused (dollar n ∷ parts) w rest cause h = after_refused parts ((w ++ backslashes n) ++ 36 ∷ []) rest cause h
after_refused (gap n b ∷ parts) w rest cause h = ap (in_front (ended (w ++ backslashes n))) (after_refused parts [] rest cause h)
after_refused (joint n ∷ parts) w rest cause h = ap (in_front (ended (w ++ backslashes (n / 2)))) (after_refused parts [] rest cause h)

after_same : (parts : List Part) (w : List ℕ) (one other : List ℕ → Told) → ((v : List ℕ) → one v ≡ other v) → after w parts one ≡ after w parts other
after_same [] w one other h = h w
after_same (plain n b ∷ parts) w one other h = after_same parts ((w ++ backslashes n) ++ b ∷ []) one other h
after_same (blank n b ∷ parts) w one other h = after_same parts ((w ++ backslashes n) ++ b ∷ []) one other h
after_same (hash n ∷ parts) w one other h = after_same parts ((w ++ backslashes n) ++ 35 ∷ []) one other h
after_same (dollar n ∷ parts) w one other h = after_same parts ((w ++ backslashes n) ++ 36 ∷ []) one other h
after_same (gap n b ∷ parts) w one other h = ap (in_front (ended (w ++ backslashes n))) (after_same parts [] one other h)
after_same (joint n ∷ parts) w one other h = ap (in_front (ended (w ++ backslashes (n / 2)))) (after_same parts [] one other h)

last_read : (last : ℕ) (v : List ℕ) → words_behind v (Backslashes 0) (backslashes last) ≡ Ok (ended (v ++ backslashes (last / 2)))
last_read last v =
    let e : 0 + last ≡ last = omega arith in
    ap (words_behind v (Backslashes 0)) (sym (append-nil (backslashes last))) ∙ run last 0 v [] ∙ ap (λ m. words_behind v (Backslashes m) []) e

lone : (v rest : List ℕ) → begins_with 36 rest ≡ false → words_behind v Dollar rest ≡ Err LoneDollar
lone v [] h = refl
lone v (c ∷ cs) h = ap (λ t. cond t (words_behind (v ++ c ∷ []) (Backslashes 0) cs) (Err LoneDollar)) h

lone_read : (n : ℕ) (v rest : List ℕ) → begins_with 36 rest ≡ false → words_behind v (Backslashes 0) (backslashes n ++ 36 ∷ rest) ≡ Err LoneDollar
lone_read n v rest h = run n 0 v (36 ∷ rest) ∙ lone (v ++ backslashes (0 + n)) rest h

pub written_read : (text : List ℕ) (told : Told) → Writes text told → words text ≡ told
written_read text (Ok ws) w =
    ap words w.2 ∙ parts_read w.0 [] (backslashes w.1) w.3 ∙ after_same w.0 [] (λ v. words_behind v (Backslashes 0) (backslashes w.1)) (λ v. Ok (ended (v ++ backslashes (w.1 / 2)))) (last_read w.1)
    ∙ after_words w.0 [] w.1 ∙ ap Ok (sym w.4)
written_read text (Err BareHash) w =
    ap words w.2 ∙ parts_read w.0 [] (35 ∷ w.1) w.3 ∙ after_refused w.0 [] (λ v. words_behind v (Backslashes 0) (35 ∷ w.1)) BareHash (λ v. refl)
written_read text (Err LoneDollar) w =
    ap words w.3 ∙ parts_read w.0 [] (backslashes w.1 ++ 36 ∷ w.2) w.4
    ∙ after_refused w.0 [] (λ v. words_behind v (Backslashes 0) (backslashes w.1 ++ 36 ∷ w.2)) LoneDollar (λ v. lone_read w.1 v w.2 w.5)
written_read text (Err Nul) w = absurd w
written_read text (Err Unfinished) w = absurd w
written_read text (Err RecipeLine) w = absurd w
written_read text (Err NoColon) w = absurd w
written_read text (Err NoTarget) w = absurd w

-- Each text is written so, or isn't

abbrev IsTold : (text : List ℕ) → Type 0
IsTold text = (told : Told) × Writes text told

part_more : (p : Part) (ps : List Part) (rest text tail : List ℕ) → part_text p ++ rest ≡ text → rest ≡ parts_text ps ++ tail → text ≡ parts_text (p ∷ ps) ++ tail
part_more p ps rest text tail e at = sym e ∙ ap (λ bs. part_text p ++ bs) at ∙ sym (append_assoc (part_text p) (parts_text ps) tail)

prepend : (p : Part) (rest text : List ℕ) → IsPart p → part_text p ++ rest ≡ text → (told : Told) → Writes rest told → IsTold text
prepend p rest text is e (Ok ws) w =
    (Ok (spoken [] (p ∷ w.0) w.1), (p ∷ w.0, w.1, part_more p w.0 rest text (backslashes w.1) e w.2, (is, w.3), refl))
prepend p rest text is e (Err BareHash) w = (Err BareHash, (p ∷ w.0, w.1, part_more p w.0 rest text (35 ∷ w.1) e w.2, (is, w.3)))
prepend p rest text is e (Err LoneDollar) w =
    (Err LoneDollar, (p ∷ w.0, w.1, w.2, part_more p w.0 rest text (backslashes w.1 ++ 36 ∷ w.2) e w.3, (is, w.4), w.5))
prepend p rest text is e (Err Nul) w = absurd w
prepend p rest text is e (Err Unfinished) w = absurd w
prepend p rest text is e (Err RecipeLine) w = absurd w
prepend p rest text is e (Err NoColon) w = absurd w
prepend p rest text is e (Err NoTarget) w = absurd w

-- what is told of the text behind backslashes, and behind backslashes and a `$`
abbrev Both : (text : List ℕ) → Type 0
Both text = ((n : ℕ) → IsTold (backslashes n ++ text)) × ((n : ℕ) → IsTold (backslashes n ++ 36 ∷ text))

one_more : (n : ℕ) (bs : List ℕ) → backslashes (n + 1) ++ bs ≡ backslashes n ++ 92 ∷ bs
one_more n bs = ap (λ xs. xs ++ bs) (sym (replicate_more n 92)) ∙ append_assoc (backslashes n) (92 ∷ []) bs

-- a part that so many backslashes and a byte are, and what stands behind it
put : (p : Part) (n b : ℕ) (bs : List ℕ) → IsPart p → part_text p ≡ backslashes n ++ b ∷ [] → IsTold bs → IsTold (backslashes n ++ b ∷ bs)
put p n b bs is e told =
    prepend p bs (backslashes n ++ b ∷ bs) is (ap (λ xs. xs ++ bs) e ∙ append_assoc (backslashes n) (b ∷ []) bs) told.0 told.1

halves : (n : ℕ) → is_odd n ≡ true → n / 2 + n / 2 + 1 ≡ n
halves n odd = let e : n % 2 ≡ 1 = eqb-true (n % 2) 1 odd in omega arith

not_one : (m : ℕ) → (m == 1) ≡ false → m ≡ 1 → ⊥
not_one m e h = let t : (m == 1) ≡ true = eq-eqb m 1 h in absurd (cc)

even_halves : (n : ℕ) → is_odd n ≡ false → n / 2 + n / 2 ≡ n
even_halves n even = let h : n % 2 ≡ 1 → ⊥ = not_one (n % 2) even in omega arith

sign_false : (a g h d : Bool) → a ≡ false → g ≡ false → h ≡ false → d ≡ false → (a || (g || (h || d))) ≡ false
sign_false a g h d p q r s = rw (p, q, r, s) refl

hash_told : (n : ℕ) (bs : List ℕ) → IsTold bs → IsTold (backslashes n ++ 35 ∷ bs)
hash_told zero bs told = (Err BareHash, ([], bs, refl, tt))
hash_told (suc n) bs told = let e : n + 1 ≡ suc n = omega arith in put (hash n) (suc n) 35 bs tt (ap (λ m. backslashes m ++ 35 ∷ []) e) told

at_byte : (b n : ℕ) (bs : List ℕ) → (c : ℕ) → b ≡ c → IsTold (backslashes n ++ c ∷ bs) → IsTold (backslashes n ++ b ∷ bs)
at_byte b n bs c e told = subst (λ x. IsTold (backslashes n ++ x ∷ bs)) (sym e) told

module _ (b : ℕ) (bs : List ℕ) (both : Both bs) (n : ℕ) where
  by_dollar : (t : Bool) → (b == 36) ≡ t → (b == 92) ≡ false → is_gap b ≡ false → (b == 35) ≡ false → IsTold (backslashes n ++ b ∷ bs)
  by_dollar true e slash no_gap no_hash = at_byte b n bs 36 (eqb-true b 36 e) (both.1 n)
  by_dollar false e slash no_gap no_hash = put (plain n b) n b bs (sign_false (b == 92) (is_gap b) (b == 35) (b == 36) slash no_gap no_hash e) refl (both.0 0)

  by_hash : (t : Bool) → (b == 35) ≡ t → (b == 92) ≡ false → is_gap b ≡ false → IsTold (backslashes n ++ b ∷ bs)
  by_hash true e slash no_gap = at_byte b n bs 35 (eqb-true b 35 e) (hash_told n bs (both.0 0))
  by_hash false e slash no_gap = by_dollar (b == 36) refl slash no_gap e

  by_newline : (t : Bool) → (b == 10) ≡ t → (b == 92) ≡ false → is_blank b ≡ false → IsTold (backslashes n ++ b ∷ bs)
  by_newline true e slash no_blank = at_byte b n bs 10 (eqb-true b 10 e) (put (joint n) n 10 bs tt refl (both.0 0))
  by_newline false e slash no_blank = let no_gap : is_gap b ≡ false = ap (λ t. t || b == 10) no_blank ∙ e in by_hash (b == 35) refl slash no_gap

  by_odd : (t : Bool) → is_odd n ≡ t → is_blank b ≡ true → IsTold (backslashes n ++ b ∷ bs)
  by_odd true e is = put (blank (n / 2) b) n b bs is (ap (λ m. backslashes m ++ b ∷ []) (halves n e)) (both.0 0)
  by_odd false e is = put (gap (n / 2) b) n b bs is (ap (λ m. backslashes m ++ b ∷ []) (even_halves n e)) (both.0 0)

  by_blank : (t : Bool) → is_blank b ≡ t → (b == 92) ≡ false → IsTold (backslashes n ++ b ∷ bs)
  by_blank true e slash = by_odd (is_odd n) refl e
  by_blank false e slash = by_newline (b == 10) refl slash e

  by_slash : (t : Bool) → (b == 92) ≡ t → IsTold (backslashes n ++ b ∷ bs)
  by_slash true e = at_byte b n bs 92 (eqb-true b 92 e) (subst IsTold (one_more n bs) (both.0 (n + 1)))
  by_slash false e = by_blank (is_blank b) refl e

  behind_dollar : (t : Bool) → (b == 36) ≡ t → IsTold (backslashes n ++ 36 ∷ b ∷ bs)
  behind_dollar true e =
      let told = both.0 0 in
      prepend (dollar n) bs (backslashes n ++ 36 ∷ b ∷ bs) tt
      (append_assoc (backslashes n ++ 36 ∷ []) (36 ∷ []) bs ∙ append_assoc (backslashes n) (36 ∷ []) (36 ∷ bs) ∙ ap (λ x. backslashes n ++ 36 ∷ x ∷ bs) (sym (eqb-true b 36 e)))
      told.0 told.1
  behind_dollar false e = (Err LoneDollar, ([], n, b ∷ bs, refl, tt, e))

both_told : (text : List ℕ) → Both text
both_told [] =
    ((λ n. (Ok (spoken [] [] n), ([], n, append-nil (backslashes n), tt, refl))), (λ n. (Err LoneDollar, ([], n, [], refl, tt, refl))))
both_told (b ∷ bs) =
    let both = both_told bs in ((λ n. by_slash b bs both n (b == 92) refl), (λ n. behind_dollar b bs both n (b == 36) refl))

pub words_written : (text : List ℕ) → Writes text (words text)
words_written text =
    let told = both_told text in let found = told.0 0 in subst (Writes text) (sym (written_read text found.0 found.1)) found.1
