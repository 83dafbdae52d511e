-- The first place of a byte outside references, and the pieces that stand before it.
use Rattle.std.proofs.Common.{◌≡◌, ℕ, ◌+◌, Bool, true, false, cond, ◌&&◌, ◌||◌, ◌==◌, List, [], ◌∷◌, ◌++◌, length, flat_map, refl, sym, ap, subst, ◌∙◌, arith, append_assoc, append-nil, Option, Some, None, option_map, length-append}
use Rattle.std.proofs.lemmas.Bool.Decides.{Decides-eqb}
use Rattle.std.specs.List.{list_any}
use Rattle.mk_lines.specs.declared.reference.Place.{Place}
use Rattle.mk_lines.specs.declared.reference.Place.TheVariants.{Outside, Dollar, Within}
use Rattle.mk_lines.specs.References.{next_place, first_outside, Piece, plain, short, round, curly, piece_text, IsPiece, ArePieces, Lacks, Whole, Tail, nothing, lone, open_round, open_curly, tail_text, IsTail, Without}

-- a test is one or the other
pub either : (P : Type 0) (t : Bool) → (t ≡ true → P) → (t ≡ false → P) → P
either P true holds fails = holds refl
either P false holds fails = fails refl

pub or_false : (a b : Bool) → (a || b) ≡ false → (a ≡ false) × (b ≡ false)
or_false true b h = absurd (cc h)
or_false false b h = (refl, h)

pub and_true : (a b : Bool) → (a && b) ≡ true → (a ≡ true) × (b ≡ true)
and_true true b h = (refl, h)
and_true false b h = absurd (cc h)

shifted : (k j : ℕ) (o : Option ℕ) → option_map (λ i. i + j) (option_map (λ i. i + k) o) ≡ option_map (λ i. i + (k + j)) o
shifted k j None = refl
shifted k j (Some i) = let e : i + k + j ≡ i + (k + j) = omega arith in ap Some e

shift_by : (j k : ℕ) (o : Option ℕ) → j ≡ k → option_map (λ i. i + j) o ≡ option_map (λ i. i + k) o
shift_by j k o e = ap (λ n. option_map (λ i. i + n) o) e

unshifted : (o : Option ℕ) → option_map (λ i. i + 0) o ≡ o
unshifted None = refl
unshifted (Some i) = let e : i + 0 ≡ i = omega arith in ap Some e

pub lacks_more : (byte b : ℕ) (bs : List ℕ) → Lacks byte bs → (b == byte) ≡ false → Lacks byte (bs ++ b ∷ [])
lacks_more byte b [] h e = ap (λ t. t || false) e
lacks_more byte b (c ∷ cs) h e =
    let parts = or_false (c == byte) (list_any (λ x. x == byte) cs) h in
    ap (λ t. t || list_any (λ x. x == byte) (cs ++ b ∷ [])) parts.0 ∙ lacks_more byte b cs parts.1 e

module _ (one other : ℕ) (dollar : (36 == one || 36 == other) ≡ false) where
  abbrev find : Place → List ℕ → Option ℕ
  find place bs = first_outside one other place bs

  -- From pieces to the place

  within_skipped : (close : ℕ) (inside rest : List ℕ) → Lacks close inside →
      find (Within close) (inside ++ close ∷ rest) ≡ option_map (λ i. i + (length inside + 1)) (find Outside rest)
  unfolding next_place
  within_skipped close [] rest h =
      ap (λ t. option_map (λ i. i + 1) (find (cond t Outside (Within close)) rest)) ((Decides-eqb close close).1 refl)
  within_skipped close (b ∷ bs) rest h =
      let parts = or_false (b == close) (list_any (λ x. x == close) bs) h in
      ap (λ t. option_map (λ i. i + 1) (find (cond t Outside (Within close)) (bs ++ close ∷ rest))) parts.0
      ∙ ap (option_map (λ i. i + 1)) (within_skipped close bs rest parts.1)
      ∙ shifted (length bs + 1) 1 (find Outside rest)
      ∙ shift_by (length bs + 1 + 1) (length (b ∷ bs) + 1) (find Outside rest) (omega arith)

  piece_skipped : (p : Piece) (rest : List ℕ) → IsPiece one other p →
      find Outside (piece_text p ++ rest) ≡ option_map (λ i. i + length (piece_text p)) (find Outside rest)
  unfolding next_place
  piece_skipped (plain b) rest h =
      ap (λ t. cond t (Some 0) (option_map (λ i. i + 1) (find (next_place Outside b) rest))) h.1
      ∙ ap (λ t. option_map (λ i. i + 1) (find (cond t Dollar Outside) rest)) h.0
  piece_skipped (short b) rest h =
      ap (λ t. cond t (Some 0) (option_map (λ i. i + 1) (find Dollar (b ∷ rest)))) dollar
      ∙ ap (λ t. option_map (λ i. i + 1) (option_map (λ i. i + 1) (find (cond t (Within 41) (cond (b == 123) (Within 125) Outside)) rest))) h.0
      ∙ ap (λ t. option_map (λ i. i + 1) (option_map (λ i. i + 1) (find (cond t (Within 125) Outside) rest))) h.1
      ∙ shifted 1 1 (find Outside rest)
  piece_skipped (round inside) rest h =
      ap (λ xs. find Outside (36 ∷ 40 ∷ xs)) (append_assoc inside (41 ∷ []) rest)
      ∙ ap (λ t. cond t (Some 0) (option_map (λ i. i + 1) (find Dollar (40 ∷ (inside ++ 41 ∷ rest))))) dollar
      ∙ ap (λ o. option_map (λ i. i + 1) (option_map (λ i. i + 1) o)) (within_skipped 41 inside rest h)
      ∙ ap (option_map (λ i. i + 1)) (shifted (length inside + 1) 1 (find Outside rest))
      ∙ shifted (length inside + 1 + 1) 1 (find Outside rest)
      ∙ shift_by (length inside + 1 + 1 + 1) (length (36 ∷ 40 ∷ (inside ++ 41 ∷ []))) (find Outside rest) (omega (arith, length-append inside (41 ∷ [])))
  piece_skipped (curly inside) rest h =
      ap (λ xs. find Outside (36 ∷ 123 ∷ xs)) (append_assoc inside (125 ∷ []) rest)
      ∙ ap (λ t. cond t (Some 0) (option_map (λ i. i + 1) (find Dollar (123 ∷ (inside ++ 125 ∷ rest))))) dollar
      ∙ ap (λ o. option_map (λ i. i + 1) (option_map (λ i. i + 1) o)) (within_skipped 125 inside rest h)
      ∙ ap (option_map (λ i. i + 1)) (shifted (length inside + 1) 1 (find Outside rest))
      ∙ shifted (length inside + 1 + 1) 1 (find Outside rest)
      ∙ shift_by (length inside + 1 + 1 + 1) (length (36 ∷ 123 ∷ (inside ++ 125 ∷ []))) (find Outside rest) (omega (arith, length-append inside (125 ∷ [])))

  pieces_skipped : (ps : List Piece) (rest : List ℕ) → ArePieces one other ps →
      find Outside (flat_map piece_text ps ++ rest) ≡ option_map (λ i. i + length (flat_map piece_text ps)) (find Outside rest)
  pieces_skipped [] rest h = sym (unshifted (find Outside rest))
  pieces_skipped (p ∷ ps) rest h =
      let front = piece_text p in
      let back = flat_map piece_text ps in
      ap (find Outside) (append_assoc front back rest)
      ∙ piece_skipped p (back ++ rest) h.0
      ∙ ap (option_map (λ i. i + length front)) (pieces_skipped ps rest h.1)
      ∙ shifted (length back) (length front) (find Outside rest)
      ∙ shift_by (length back + length front) (length (front ++ back)) (find Outside rest) (omega (arith, length-append front back))

  -- the byte at which a text is cut
  pub cut_found : (text left : List ℕ) (b : ℕ) (right : List ℕ) → text ≡ left ++ b ∷ right → Whole one other left →
      ((b == one || b == other) ≡ true) → first_outside one other Outside text ≡ Some (length left)
  cut_found text left b right e whole is_one =
      ap (find Outside) (e ∙ ap (λ xs. xs ++ b ∷ right) whole.1)
      ∙ pieces_skipped whole.0 (b ∷ right) whole.2
      ∙ ap (λ t. option_map (λ i. i + length (flat_map piece_text whole.0)) (cond t (Some 0) (option_map (λ i. i + 1) (find (next_place Outside b) right)))) is_one
      ∙ (let n : 0 + length (flat_map piece_text whole.0) ≡ length left = omega (arith, ap length whole.1) in ap Some n)

  never : (close : ℕ) (inside : List ℕ) → Lacks close inside → find (Within close) inside ≡ None
  unfolding next_place
  never close [] h = refl
  never close (b ∷ bs) h =
      let parts = or_false (b == close) (list_any (λ x. x == close) bs) h in
      ap (λ t. option_map (λ i. i + 1) (find (cond t Outside (Within close)) bs)) parts.0
      ∙ ap (option_map (λ i. i + 1)) (never close bs parts.1)

  tail_found : (tail : Tail) → IsTail tail → find Outside (tail_text tail) ≡ None
  unfolding next_place
  tail_found nothing h = refl
  tail_found lone h = ap (λ t. cond t (Some 0) None) dollar
  tail_found (open_round inside) h =
      ap (λ t. cond t (Some 0) (option_map (λ i. i + 1) (find Dollar (40 ∷ inside)))) dollar
      ∙ ap (λ o. option_map (λ i. i + 1) (option_map (λ i. i + 1) o)) (never 41 inside h)
  tail_found (open_curly inside) h =
      ap (λ t. cond t (Some 0) (option_map (λ i. i + 1) (find Dollar (123 ∷ inside)))) dollar
      ∙ ap (λ o. option_map (λ i. i + 1) (option_map (λ i. i + 1) o)) (never 125 inside h)

  pub none_found : (text : List ℕ) → Without one other text → first_outside one other Outside text ≡ None
  none_found text w =
      ap (find Outside) w.2 ∙ pieces_skipped w.0 (tail_text w.1) w.3
      ∙ ap (option_map (λ i. i + length (flat_map piece_text w.0))) (tail_found w.1 w.4)

  -- From the place to pieces

  -- what the place that was found says of a text
  abbrev pub Said : Option ℕ → List ℕ → Type 0
  Said None text = Without one other text
  Said (Some n) text = (left : List ℕ) × (b : ℕ) × (right : List ℕ) × (text ≡ left ++ b ∷ right) × Whole one other left
      × ((b == one || b == other) ≡ true) × (length left ≡ n)

  said_as : (o p : Option ℕ) (text other_text : List ℕ) → o ≡ p → text ≡ other_text → Said o text → Said p other_text
  said_as o p text other_text e f s = subst (λ t. Said p t) f (subst (λ q. Said q text) e s)

  with_piece : (p : Piece) → IsPiece one other p → (o : Option ℕ) (text : List ℕ) → Said o text →
      Said (option_map (λ i. i + length (piece_text p)) o) (piece_text p ++ text)
  with_piece p h None text s =
      (p ∷ s.0, s.1, ap (λ xs. piece_text p ++ xs) s.2 ∙ sym (append_assoc (piece_text p) (flat_map piece_text s.0) (tail_text s.1)), (h, s.3), s.4)
  with_piece p h (Some n) text s = (
    piece_text p ++ s.0,
    s.1,
    s.2,
    ap (λ xs. piece_text p ++ xs) s.3 ∙ sym (append_assoc (piece_text p) s.0 (s.1 ∷ s.2)),
    (p ∷ s.4.0, ap (λ xs. piece_text p ++ xs) s.4.1, (h, s.4.2)),
    s.5,
    omega (arith, length-append (piece_text p) s.0, s.6),
  )

  abbrev place_of : Tail → Place
  place_of nothing = Outside
  place_of lone = Dollar
  place_of (open_round inside) = Within 41
  place_of (open_curly inside) = Within 125

  abbrev Reads : List ℕ → Type 0
  Reads bs = (tail : Tail) → IsTail tail → Said (option_map (λ i. i + length (tail_text tail)) (find (place_of tail) bs)) (tail_text tail ++ bs)

  -- a piece ends with this byte, or the tail goes on
  ended : (p : Piece) → IsPiece one other p → (bs : List ℕ) → Reads bs → (o : Option ℕ) (text : List ℕ) →
      option_map (λ i. i + length (piece_text p)) (find Outside bs) ≡ o → piece_text p ++ bs ≡ text → Said o text
  ended p h bs reads o text e f =
      said_as _ o _ text (ap (option_map (λ i. i + length (piece_text p))) (unshifted (find Outside bs)) ∙ e) f
      (with_piece p h (option_map (λ i. i + 0) (find Outside bs)) bs (reads nothing tt))

  within_read : (close : ℕ) (start : List ℕ → Tail) (whole : List ℕ → Piece) (opening inside : List ℕ) (b : ℕ) (bs : List ℕ) → Lacks close inside → Reads bs →
      ((xs : List ℕ) → Lacks close xs → IsTail (start xs)) → ((xs : List ℕ) → Lacks close xs → IsPiece one other (whole xs)) →
      ((xs : List ℕ) → tail_text (start xs) ≡ opening ++ xs) → ((xs : List ℕ) → place_of (start xs) ≡ Within close) →
      ((xs : List ℕ) → piece_text (whole xs) ≡ opening ++ (xs ++ close ∷ [])) →
      Said (option_map (λ i. i + length (opening ++ inside)) (find (Within close) (b ∷ bs))) ((opening ++ inside) ++ b ∷ bs)
  unfolding next_place
  within_read close start whole opening inside b bs h reads is_tail is_piece text_of at spelled =
      either _ (b == close)
      (λ e.
      let same : b ≡ close = (Decides-eqb b close).0 e in
      let long : length (piece_text (whole inside)) ≡ length (opening ++ inside) + 1 =
      ap length (spelled inside) ∙ omega (arith, length-append opening (inside ++ close ∷ []), length-append inside (close ∷ []), length-append opening inside) in
      ended (whole inside) (is_piece inside h) bs reads _ _
      (shift_by _ (1 + length (opening ++ inside)) (find Outside bs) (omega (arith, long))
      ∙ sym (shifted 1 (length (opening ++ inside)) (find Outside bs))
      ∙ ap (λ t. option_map (λ i. i + length (opening ++ inside)) (option_map (λ i. i + 1) (find (cond t Outside (Within close)) bs))) (sym e))
      (ap (λ xs. xs ++ bs) (spelled inside) ∙ append_assoc opening (inside ++ close ∷ []) bs
      ∙ ap (λ xs. opening ++ xs) (append_assoc inside (close ∷ []) bs ∙ ap (λ c. inside ++ c ∷ bs) (sym same))
      ∙ sym (append_assoc opening inside (b ∷ bs))))
      (λ e.
      let more = inside ++ b ∷ [] in
      let long : length (tail_text (start more)) ≡ 1 + length (opening ++ inside) =
      ap length (text_of more) ∙ omega (arith, length-append opening more, length-append inside (b ∷ []), length-append opening inside) in
      said_as _ _ _ _
      (shift_by _ (1 + length (opening ++ inside)) (find (place_of (start more)) bs) long
      ∙ ap (λ place. option_map (λ i. i + (1 + length (opening ++ inside))) (find place bs)) (at more)
      ∙ sym (shifted 1 (length (opening ++ inside)) (find (Within close) bs))
      ∙ ap (λ t. option_map (λ i. i + length (opening ++ inside)) (option_map (λ i. i + 1) (find (cond t Outside (Within close)) bs))) (sym e))
      (ap (λ xs. xs ++ bs) (text_of more) ∙ append_assoc opening more bs
      ∙ ap (λ xs. opening ++ xs) (append_assoc inside (b ∷ []) bs) ∙ sym (append_assoc opening inside (b ∷ bs)))
      (reads (start more) (is_tail more (lacks_more close b inside h e))))

  outside_read : (b : ℕ) (bs : List ℕ) → Reads bs → Said (option_map (λ i. i + 0) (find Outside (b ∷ bs))) (b ∷ bs)
  unfolding next_place
  outside_read b bs reads =
      either _ (b == one || b == other)
      (λ e. said_as (Some 0) _ (b ∷ bs) _ (ap (λ t. option_map (λ i. i + 0) (cond t (Some 0) (option_map (λ i. i + 1) (find (next_place Outside b) bs)))) (sym e)) refl
      ([], b, bs, refl, ([], refl, tt), e, refl))
      (λ e.
      let on : option_map (λ i. i + 0) (find Outside (b ∷ bs)) ≡ option_map (λ i. i + 1) (find (next_place Outside b) bs) =
      ap (λ t. option_map (λ i. i + 0) (cond t (Some 0) (option_map (λ i. i + 1) (find (next_place Outside b) bs)))) e
      ∙ unshifted (option_map (λ i. i + 1) (find (next_place Outside b) bs)) in
      either _ (b == 36)
      (λ d. said_as _ _ (36 ∷ bs) (b ∷ bs)
      (ap (λ t. option_map (λ i. i + 1) (find (cond t Dollar Outside) bs)) (sym d) ∙ sym on)
      (ap (λ c. c ∷ bs) (sym ((Decides-eqb b 36).0 d))) (reads lone tt))
      (λ d. ended (plain b) (d, e) bs reads _ (b ∷ bs)
      (ap (λ t. option_map (λ i. i + 1) (find (cond t Dollar Outside) bs)) (sym d) ∙ sym on) refl))

  lone_read : (b : ℕ) (bs : List ℕ) → Reads bs → Said (option_map (λ i. i + 1) (find Dollar (b ∷ bs))) (36 ∷ b ∷ bs)
  unfolding next_place
  lone_read b bs reads =
      let after : Place → Option ℕ = λ place. option_map (λ i. i + 1) (option_map (λ i. i + 1) (find place bs)) in
      either _ (b == 40)
      (λ d. said_as _ _ (36 ∷ 40 ∷ bs) (36 ∷ b ∷ bs)
      (sym (shifted 1 1 (find (Within 41) bs)) ∙ ap (λ t. after (cond t (Within 41) (cond (b == 123) (Within 125) Outside))) (sym d))
      (ap (λ c. 36 ∷ c ∷ bs) (sym ((Decides-eqb b 40).0 d))) (reads (open_round []) refl))
      (λ d. either _ (b == 123)
      (λ e. said_as _ _ (36 ∷ 123 ∷ bs) (36 ∷ b ∷ bs)
      (sym (shifted 1 1 (find (Within 125) bs)) ∙ ap (λ t. after (cond t (Within 125) Outside)) (sym e)
      ∙ ap (λ t. after (cond t (Within 41) (cond (b == 123) (Within 125) Outside))) (sym d))
      (ap (λ c. 36 ∷ c ∷ bs) (sym ((Decides-eqb b 123).0 e))) (reads (open_curly []) refl))
      (λ e. ended (short b) (d, e) bs reads _ (36 ∷ b ∷ bs)
      (sym (shifted 1 1 (find Outside bs)) ∙ ap (λ t. after (cond t (Within 125) Outside)) (sym e)
      ∙ ap (λ t. after (cond t (Within 41) (cond (b == 123) (Within 125) Outside))) (sym d)) refl))

  reads : (bs : List ℕ) → Reads bs
  reads [] tail h = ([], tail, append-nil (tail_text tail), tt, h)
  reads (b ∷ bs) nothing h = outside_read b bs (reads bs)
  reads (b ∷ bs) lone h = lone_read b bs (reads bs)
  reads (b ∷ bs) (open_round inside) h =
      within_read 41 (λ xs. open_round xs) (λ xs. round xs) (36 ∷ 40 ∷ []) inside b bs h (reads bs) (λ xs l. l) (λ xs l. l) (λ xs. refl) (λ xs. refl) (λ xs. refl)
  reads (b ∷ bs) (open_curly inside) h =
      within_read 125 (λ xs. open_curly xs) (λ xs. curly xs) (36 ∷ 123 ∷ []) inside b bs h (reads bs) (λ xs l. l) (λ xs l. l) (λ xs. refl) (λ xs. refl) (λ xs. refl)

  -- what the place that is found says of the text
  pub said : (text : List ℕ) → Said (first_outside one other Outside text) text
  said text = said_as _ _ text text (unshifted (find Outside text)) refl (reads text nothing tt)
