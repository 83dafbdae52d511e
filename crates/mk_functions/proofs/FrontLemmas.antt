-- What stands at the front of a text is shorter than the text, and what stands behind it ends the text.
use Rattle.std.proofs.Common.{◌≡◌, ℕ, suc, ◌+◌, ◌-◌, ◌<◌, ◌≤◌, Bool, true, false, cond, ◌==◌, List, [], ◌∷◌, take, drop, length, position, Option, Some, None, is_some, refl, sym, ap, subst, ◌∙◌, arith}
use Rattle.std.proofs.Math.Seq.{drop-length}
use Rattle.std.proofs.lemmas.List.{length-take, length-drop, drop-drop}
use Rattle.std.specs.List.{prefix_len}
use Rattle.mk_words.specs.Words.{is_space, behind_spaces}
use Rattle.mk_pieces.specs.Brackets.{place_of, closing, is_parting, next_depth, with_byte, parted}
use Rattle.mk_pieces.specs.Function.{function_named, most}
use Rattle.mk_pieces.specs.Piece.{Piece, plain, reference, unclosed, computed, call, Front, after_colon, at_colon, named, call_at, computed_at, reference_at, called_or_named, bracketed_at, behind_dollar, plain_until, front}
use Rattle.mk_pieces.specs.declared.function.Function.{Function}

pub take-shorter : (n : ℕ) (bs : List ℕ) → length (take n bs) ≤ length bs
take-shorter n bs = grind (arith, length-take)

pub drop-shorter : (n : ℕ) (bs : List ℕ) → length (drop n bs) ≤ length bs
drop-shorter n bs = grind (arith, length-drop)

-- each is shorter than this
abbrev pub AllShort : ℕ → List (List ℕ) → Type 0
AllShort n [] = Unit {0}
AllShort n (x ∷ xs) = (length x < n) × AllShort n xs

pub weaker : (m n : ℕ) → m ≤ n → (xs : List (List ℕ)) → AllShort m xs → AllShort n xs
weaker m n le [] h = tt
weaker m n le (x ∷ xs) h = (omega (arith, le, h.0), weaker m n le xs h.1)

with_byte-short : (m b : ℕ) (xs : List (List ℕ)) → AllShort (m + 1) xs → AllShort (m + 2) (with_byte b xs)
with_byte-short m b [] h = (omega arith, tt)
with_byte-short m b (x ∷ xs) h = (omega (arith, h.0), weaker (m + 1) (m + 2) (omega arith) xs h.1)

cond_short : (n : ℕ) (t : Bool) (xs ys : List (List ℕ)) → AllShort n xs → AllShort n ys → AllShort n (cond t xs ys)
cond_short n true xs ys h k = h
cond_short n false xs ys h k = k

pub parted-short : (opening close m depth : ℕ) (bs : List ℕ) → AllShort (length bs + 1) (parted opening close m depth bs)
parted-short opening close m depth [] = (omega arith, tt)
parted-short opening close m depth (b ∷ bs) =
    let n = length bs in
    let grown : n + 2 ≡ length (b ∷ bs) + 1 = omega arith in
    cond_short (length (b ∷ bs) + 1) (is_parting m depth b)
    ([] ∷ parted opening close (m - 1) 0 bs) (with_byte b (parted opening close m (next_depth opening close depth b) bs))
    (omega arith, weaker (n + 1) (length (b ∷ bs) + 1) (omega arith) (parted opening close (m - 1) 0 bs) (parted-short opening close (m - 1) 0 bs))
    (subst (λ k. AllShort k (with_byte b (parted opening close m (next_depth opening close depth b) bs))) grown
    (with_byte-short n b (parted opening close m (next_depth opening close depth b) bs) (parted-short opening close m (next_depth opening close depth b) bs)))

-- the text ends with it
abbrev pub IsEnd : (rest text : List ℕ) → Type 0
IsEnd rest text = (k : ℕ) × (rest ≡ drop k text)

end-none : (text : List ℕ) → IsEnd [] text
end-none text = (length text, sym (drop-length text))

end-more : (b : ℕ) (rest text : List ℕ) → IsEnd rest text → IsEnd rest (b ∷ text)
end-more b rest text (k, e) = (suc k, e)

abbrev pub SizedPiece : ℕ → Piece → Type 0
SizedPiece n (plain bytes) = Unit {0}
SizedPiece n (reference name use_of) = Unit {0}
SizedPiece n unclosed = Unit {0}
SizedPiece n (computed inner) = length inner < n
SizedPiece n (call f arguments) = AllShort n arguments

-- what stands behind the front ends the text, and both are shorter than this
abbrev pub Sized : ℕ → (text : List ℕ) → Front → Type 0
Sized n text None = Unit {0}
Sized n text (Some f) = IsEnd f.1 text × (length f.1 < n) × SizedPiece n f.0

cond_sized : (n : ℕ) (text : List ℕ) (t : Bool) (f g : Front) → Sized n text f → Sized n text g → Sized n text (cond t f g)
cond_sized n text true f g h k = h
cond_sized n text false f g h k = k

sized-more : (n b : ℕ) (text : List ℕ) (f : Front) → Sized n text f → Sized n (b ∷ text) f
sized-more n b text None h = tt
sized-more n b text (Some f) h = (end-more b f.1 text h.0, h.1, h.2)

module _ (n : ℕ) where
  after_colon-sized : (inner : List ℕ) (colon : ℕ) (change : List ℕ) (equals : Option ℕ) → SizedPiece n (after_colon inner colon change equals)
  after_colon-sized inner colon change None = tt
  after_colon-sized inner colon change (Some equals) = tt

  at_colon-sized : (inner : List ℕ) (colon : Option ℕ) → SizedPiece n (at_colon inner colon)
  at_colon-sized inner None = tt
  at_colon-sized inner (Some colon) = after_colon-sized inner colon (drop (colon + 1) inner) (place_of 61 (drop (colon + 1) inner))

  call-sized : (opening close : ℕ) (f : Function) (text behind : List ℕ) → IsEnd behind text → length behind + 1 < n → (end : Option ℕ) →
      Sized n text (call_at opening close f behind end)
  call-sized opening close f text behind ends h None = (end-none text, omega (arith, h), tt)
  call-sized opening close f text behind ends h (Some end) = (
    (ends.0 + (end + 1), ap (drop (end + 1)) ends.1 ∙ drop-drop (end + 1) ends.0 text),
    (let s = drop-shorter (end + 1) behind in omega (arith, h, s)),
    weaker (length (take end behind) + 1) n (let s = take-shorter end behind in omega (arith, h, s)) _ (parted-short opening close (most f) 0 (take end behind)),
  )

  computed-sized : (text : List ℕ) → length text + 1 < n → (end : Option ℕ) → Sized n text (computed_at text end)
  computed-sized text h None = (end-none text, omega (arith, h), tt)
  computed-sized text h (Some end) =
      ((end + 1, refl), (let s = drop-shorter (end + 1) text in omega (arith, h, s)), (let s = take-shorter end text in omega (arith, h, s)))

  reference-sized : (opening close : ℕ) (text : List ℕ) → length text + 1 < n → (end : Option ℕ) → Sized n text (reference_at opening close text end)
  reference-sized opening close text h None = (end-none text, omega (arith, h), tt)
  reference-sized opening close text h (Some end) =
      cond_sized n text (is_some (place_of 36 (take end text))) (computed_at text (closing opening close text)) (Some (named (take end text), drop (end + 1) text))
      (computed-sized text h (closing opening close text))
      ((end + 1, refl), (let s = drop-shorter (end + 1) text in omega (arith, h, s)), at_colon-sized (take end text) (place_of 58 (take end text)))

  spaces-end : (space : ℕ) (text : List ℕ) → IsEnd (behind_spaces (drop space text)) text
  unfolding behind_spaces
  spaces-end space text = (space + prefix_len is_space (drop space text), drop-drop (prefix_len is_space (drop space text)) space text)

  end-shorter : (rest text : List ℕ) → IsEnd rest text → length rest ≤ length text
  end-shorter rest text (k, e) = let s = drop-shorter k text in let l = ap length e in omega (arith, s, l)

  by-sized : (opening close : ℕ) (text behind : List ℕ) → length text + 1 < n → IsEnd behind text → (f : Option Function) →
      Sized n text (called_or_named opening close text behind f)
  by-sized opening close text behind h ends None = reference-sized opening close text h (place_of close text)
  by-sized opening close text behind h ends (Some f) =
      call-sized opening close f text behind ends (let s = end-shorter behind text ends in omega (arith, h, s)) (closing opening close behind)

  bracketed-sized : (opening close : ℕ) (text : List ℕ) → length text + 1 < n → (space : Option ℕ) → Sized n text (bracketed_at opening close text space)
  bracketed-sized opening close text h None = reference-sized opening close text h (place_of close text)
  bracketed-sized opening close text h (Some space) =
      by-sized opening close text (behind_spaces (drop space text)) h (spaces-end space text) (function_named (take space text))

  dollar-sized : (text : List ℕ) → length text < n → Sized n text (behind_dollar text)
  dollar-sized [] h = ((0, refl), omega (arith, h), tt)
  dollar-sized (c ∷ text) h =
      cond_sized n (c ∷ text) (c == 36) _ _ ((1, refl), omega (arith, h), tt)
      (cond_sized n (c ∷ text) (c == 40) _ _ (sized-more n c text _ (bracketed-sized 40 41 text (omega (arith, h)) (position is_space text)))
      (cond_sized n (c ∷ text) (c == 123) _ _ (sized-more n c text _ (bracketed-sized 123 125 text (omega (arith, h)) (position is_space text)))
      ((1, refl), omega (arith, h), tt)))

  plain-sized : (b : ℕ) (text : List ℕ) → length text < n → (end : Option ℕ) → Sized n text (plain_until b text end)
  plain-sized b text h None = (end-none text, omega (arith, h), tt)
  plain-sized b text h (Some end) = ((end, refl), (let s = drop-shorter end text in omega (arith, h, s)), tt)

pub front-sized : (text : List ℕ) → Sized (length text) text (front text)
front-sized [] = tt
front-sized (b ∷ text) =
    cond_sized (length (b ∷ text)) (b ∷ text) (b == 36) (behind_dollar text) (plain_until b text (place_of 36 text))
    (sized-more (length (b ∷ text)) b text (behind_dollar text) (dollar-sized (length (b ∷ text)) text (omega arith)))
    (sized-more (length (b ∷ text)) b text (plain_until b text (place_of 36 text)) (plain-sized (length (b ∷ text)) b text (omega arith) (place_of 36 text)))
