-- Where a text is cut by a test of its bytes, and what is left of it without the blanks at its ends.
use Rattle.std.proofs.Common.{◌≡◌, ℕ, suc, ◌+◌, ◌-◌, Bool, true, false, cond, not, ◌&&◌, ◌||◌, List, [], ◌∷◌, ◌++◌, length, take, drop, reverse, refl, sym, ap, subst, ◌∙◌, arith, append-nil, length-append}
use Rattle.std.proofs.lemmas.Bool.Decides.{Decides-eqb}
use Rattle.std.specs.List.{list_any, list_all, prefix_len, before_first}
use Rattle.std.proofs.lemmas.List.{take-append-drop, take_at, reverse-append, reverse-reverse, length-reverse}
use Rattle.std.proofs.lemmas.List.Folds.{list_all-append}
use Rattle.std.proofs.Math.Seq.{drop-append_seam}
use Rattle.byte_strings.specs.Blanks.{is_blank, trimmed_start, trimmed_end, trimmed}
use Rattle.mk_lines.specs.Text.{is_empty, begins_with}
use Rattle.mk_reader.specs.Spelled.{AllBlank, begins_blank, Padded}
use Rattle.mk_lines.proofs.ReferenceLemmas.{either, or_false, and_true}

module _ (p : ℕ → Bool) where
  abbrev pub starts : List ℕ → Bool
  starts [] = false
  starts (b ∷ bs) = p b

  prefix_cut : (front rest : List ℕ) → list_all p front ≡ true → starts rest ≡ false → prefix_len p (front ++ rest) ≡ length front
  prefix_cut [] [] h e = refl
  prefix_cut [] (b ∷ bs) h e = ap (λ t. cond t (1 + prefix_len p bs) 0) e
  prefix_cut (b ∷ bs) rest h e =
      let parts = and_true (p b) (list_all p bs) h in
      let more : 1 + length bs ≡ suc (length bs) = omega arith in
      ap (λ t. cond t (1 + prefix_len p (bs ++ rest)) 0) parts.0 ∙ ap (λ n. 1 + n) (prefix_cut bs rest parts.1 e) ∙ more

  -- a text is cut behind the bytes that pass
  pub prefix_parts : (text : List ℕ) → (list_all p (take (prefix_len p text) text) ≡ true) × (starts (drop (prefix_len p text) text) ≡ false)
  prefix_parts [] = (refl, refl)
  prefix_parts (b ∷ bs) =
      let more : 1 + prefix_len p bs ≡ suc (prefix_len p bs) = omega arith in
      either _ (p b)
      (λ e.
      let at : prefix_len p (b ∷ bs) ≡ suc (prefix_len p bs) = ap (λ t. cond t (1 + prefix_len p bs) 0) e ∙ more in
      let rest = prefix_parts bs in (
        ap (λ n. list_all p (take n (b ∷ bs))) at ∙ ap (λ t. t && list_all p (take (prefix_len p bs) bs)) e ∙ rest.0,
        ap (λ n. starts (drop n (b ∷ bs))) at ∙ rest.1,
      ))
      (λ e.
      let at : prefix_len p (b ∷ bs) ≡ 0 = ap (λ t. cond t (1 + prefix_len p bs) 0) e in
      (ap (λ n. list_all p (take n (b ∷ bs))) at, ap (λ n. starts (drop n (b ∷ bs))) at ∙ e))

  all_reversed : (xs : List ℕ) → list_all p xs ≡ true → list_all p (reverse xs) ≡ true
  all_reversed [] h = refl
  all_reversed (b ∷ bs) h =
      let parts = and_true (p b) (list_all p bs) h in
      ap (list_all p) (reverse-append (b ∷ []) bs) ∙ list_all-append p (reverse bs) (b ∷ [])
      ∙ ap (λ t. t && (p b && true)) (all_reversed bs parts.1) ∙ ap (λ t. t && true) parts.0

-- Blanks

pub trimmed_start_of : (front rest : List ℕ) → AllBlank front → begins_blank rest ≡ false → trimmed_start (front ++ rest) ≡ rest
unfolding trimmed_start
trimmed_start_of front rest h e = ap (λ n. drop n (front ++ rest)) (prefix_cut is_blank front rest h (same_start rest ∙ e)) ∙ drop-append_seam front rest
  where
    same_start : (xs : List ℕ) → starts is_blank xs ≡ begins_blank xs
    same_start [] = refl
    same_start (b ∷ bs) = refl

trimmed_end_of : (core back : List ℕ) → AllBlank back → begins_blank (reverse core) ≡ false → trimmed_end (core ++ back) ≡ core
unfolding trimmed_end
trimmed_end_of core back h e =
    let count : prefix_len is_blank (reverse (core ++ back)) ≡ length back =
    ap (prefix_len is_blank) (reverse-append core back)
    ∙ prefix_cut is_blank (reverse back) (reverse core) (all_reversed is_blank back h) (same_start (reverse core) ∙ e)
    ∙ length-reverse back in
    ap (λ n. take (length (core ++ back) - n) (core ++ back)) count
    ∙ take_at core back (length (core ++ back) - length back) (omega (arith, length-append core back))
  where
    same_start : (xs : List ℕ) → starts is_blank xs ≡ begins_blank xs
    same_start [] = refl
    same_start (b ∷ bs) = refl

-- the blanks at the start, and what stands behind them
pub start_cut : (text : List ℕ) → (blanks : List ℕ) × (text ≡ blanks ++ trimmed_start text) × AllBlank blanks
unfolding trimmed_start
start_cut text = (take (prefix_len is_blank text) text, sym (take-append-drop (prefix_len is_blank text) text), (prefix_parts is_blank text).0)

pub begins_is : (byte : ℕ) (text : List ℕ) → begins_with byte text ≡ true → (rest : List ℕ) × (text ≡ byte ∷ rest)
begins_is byte [] h = absurd (cc h)
begins_is byte (b ∷ bs) h = (bs, ap (λ c. c ∷ bs) ((Decides-eqb b byte).0 h))

-- a text has one core
pub trimmed_is : (text core : List ℕ) → Padded text core → trimmed text ≡ core
unfolding trimmed
trimmed_is text [] (front, back, e, f, b, first, last) =
    let blank : AllBlank (front ++ back) = list_all-append is_blank front back ∙ ap (λ t. t && list_all is_blank back) f ∙ b in
    let whole : text ≡ (front ++ back) ++ [] = e ∙ sym (append-nil (front ++ back)) in
    ap (λ t. trimmed_end (trimmed_start t)) whole ∙ ap trimmed_end (trimmed_start_of (front ++ back) [] blank refl) ∙ trimmed_end_of [] [] refl refl
trimmed_is text (c ∷ cs) (front, back, e, f, b, first, last) =
    ap (λ t. trimmed_end (trimmed_start t)) e
    ∙ ap trimmed_end (trimmed_start_of front ((c ∷ cs) ++ back) f first)
    ∙ trimmed_end_of (c ∷ cs) back b last

padded_with : (front core back text : List ℕ) → text ≡ front ++ (core ++ back) → AllBlank front → AllBlank back → begins_blank (core ++ back) ≡ false → begins_blank (reverse core) ≡ false → Padded text core
padded_with front [] back text e f b first last = (front, back, e, f, b, refl, last)
padded_with front (c ∷ cs) back text e f b first last = (front, back, e, f, b, first, last)

same_start : (xs : List ℕ) → begins_blank xs ≡ starts is_blank xs
same_start [] = refl
same_start (b ∷ bs) = refl

has_core : (text : List ℕ) → (core : List ℕ) × Padded text core
has_core text =
    let n = prefix_len is_blank text in
    let rest = drop n text in
    let front = prefix_parts is_blank text in
    let turned = reverse rest in
    let k = prefix_len is_blank turned in
    let back = prefix_parts is_blank turned in
    let core = reverse (drop k turned) in
    let behind = reverse (take k turned) in
    let whole : rest ≡ core ++ behind =
    sym (reverse-reverse rest) ∙ ap reverse (sym (take-append-drop k turned)) ∙ reverse-append (take k turned) (drop k turned) in (
      core,
      padded_with (take n text) core behind text
          (sym (take-append-drop n text) ∙ ap (λ xs. take n text ++ xs) whole) front.0 (all_reversed is_blank (take k turned) back.0)
          (ap begins_blank (sym whole) ∙ same_start rest ∙ front.1)
          (ap begins_blank (reverse-reverse (drop k turned)) ∙ same_start (drop k turned) ∙ back.1),
    )

pub trimmed_padded : (text : List ℕ) → Padded text (trimmed text)
trimmed_padded text = let found = has_core text in subst (Padded text) (sym (trimmed_is text found.0 found.1)) found.1

-- What stands before the first byte that passes

module _ (p : ℕ → Bool) where
  -- the text is cut at the first byte that passes, or at its end
  abbrev pub IsCut : (text front rest : List ℕ) → Type 0
  IsCut text front rest = (text ≡ front ++ rest) × (list_any p front ≡ false) × ((is_empty rest || starts p rest) ≡ true)

  none_from_all : (xs : List ℕ) → list_all (λ x. not (p x)) xs ≡ true → list_any p xs ≡ false
  none_from_all [] h = refl
  none_from_all (b ∷ bs) h =
      let parts = and_true (not (p b)) (list_all (λ x. not (p x)) bs) h in
      either _ (p b) (λ e. absurd (cc (e, parts.0))) (λ e. ap (λ t. t || list_any p bs) e ∙ none_from_all bs parts.1)

  all_from_none : (xs : List ℕ) → list_any p xs ≡ false → list_all (λ x. not (p x)) xs ≡ true
  all_from_none [] h = refl
  all_from_none (b ∷ bs) h =
      let parts = or_false (p b) (list_any p bs) h in
      ap (λ t. not t && list_all (λ x. not (p x)) bs) parts.0 ∙ all_from_none bs parts.1

  starts_not : (rest : List ℕ) → (is_empty rest || starts p rest) ≡ true → starts (λ x. not (p x)) rest ≡ false
  starts_not [] h = refl
  starts_not (b ∷ bs) h = ap not h

  starts_not_back : (rest : List ℕ) → starts (λ x. not (p x)) rest ≡ false → (is_empty rest || starts p rest) ≡ true
  starts_not_back [] h = refl
  starts_not_back (b ∷ bs) h = either _ (p b) (λ e. e) (λ e. absurd (cc (e, h)))

  pub before_first_is : (text front rest : List ℕ) → IsCut text front rest → before_first p text ≡ front
  before_first_is text front rest (e, none, ends) =
      let count : prefix_len (λ x. not (p x)) text ≡ length front =
      ap (prefix_len (λ x. not (p x))) e ∙ prefix_cut (λ x. not (p x)) front rest (all_from_none front none) (starts_not rest ends) in
      ap (λ n. take n text) count ∙ ap (take (length front)) e ∙ take_at front rest (length front) refl

  pub before_first_cuts : (text : List ℕ) → (rest : List ℕ) × IsCut text (before_first p text) rest
  before_first_cuts text =
      let n = prefix_len (λ x. not (p x)) text in
      let parts = prefix_parts (λ x. not (p x)) text in
      (drop n text, (sym (take-append-drop n text), none_from_all (take n text) parts.0, starts_not_back (drop n text) parts.1))
