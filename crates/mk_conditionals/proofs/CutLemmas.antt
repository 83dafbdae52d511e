-- Texts are cut in one way.
use Rattle.std.proofs.Common.{◌≡◌, ℕ, ◌+◌, ◌-◌, Bool, true, false, cond, not, ◌&&◌, ◌||◌, ◌==◌, nat_le, List, [], ◌∷◌, ◌++◌, length, take, Option, Some, None, refl, sym, ap, ◌∙◌, subst, eq-eqb, eqb-true, arith, length-append}
use Rattle.std.proofs.Math.Seq.{take-append_seam}
use Rattle.std.proofs.lemmas.Bool.{and_parts}
use Rattle.mk_conditionals.specs.Cut.{counted, is_level, behind_mark, cut_before, cut}
use Rattle.mk_conditionals.specs.Cuts.{IsCutFrom, IsCut}

true_of_both : (a b : Bool) → a ≡ true → b ≡ true → (a && b) ≡ true
true_of_both a b p q = ap (λ x. x && b) p ∙ q

module _ (nested : Bool) (mark : ℕ) where
  -- the byte is one at which the text is cut
  abbrev ends : (opened closed b : ℕ) → Bool
  ends opened closed b = b == mark && (not nested || nat_le opened closed)

  no_place : (before behind : List ℕ) → [] ≡ before ++ mark ∷ behind → ⊥
  no_place [] behind h = cc
  no_place (b ∷ bs) behind h = cc

  ends_at : (opened closed b : ℕ) → b ≡ mark → is_level nested opened closed [] ≡ true → ends opened closed b ≡ true
  ends_at opened closed b p q = true_of_both (b == mark) (not nested || nat_le opened closed) (eq-eqb b mark p) q

  earlier : (opened closed b : ℕ) (bs rest first : List ℕ) → ends opened closed b ≡ false → IsCutFrom nested mark (counted 40 b opened) (counted 41 b closed) bs first rest →
      (before behind : List ℕ) → b ∷ first ≡ before ++ mark ∷ behind → is_level nested opened closed before ≡ true → ⊥
  earlier opened closed b bs rest first e cut [] behind h level =
      let same : b ≡ mark = cc in
      let ended = ends_at opened closed b same level in cc
  earlier opened closed b bs rest first e cut (x ∷ xs) behind h level =
      let same : x ≡ b = cc in
      let left : first ≡ xs ++ mark ∷ behind = cc in
      cut.2 xs behind left (subst (λ y. is_level nested (counted 40 y opened) (counted 41 y closed) xs ≡ true) same level)

  found_by : (t : Bool) (opened closed b : ℕ) (bs rest : List ℕ) → ends opened closed b ≡ t →
      cond t (Some bs) (behind_mark nested mark (counted 40 b opened) (counted 41 b closed) bs) ≡ Some rest →
      (behind_mark nested mark (counted 40 b opened) (counted 41 b closed) bs ≡ Some rest →
      (first : List ℕ) × IsCutFrom nested mark (counted 40 b opened) (counted 41 b closed) bs first rest) →
      (first : List ℕ) × IsCutFrom nested mark opened closed (b ∷ bs) first rest
  found_by true opened closed b bs rest e h further =
      let parts = and_parts (b == mark) (not nested || nat_le opened closed) e in
      let same : b ≡ mark = eqb-true b mark parts.0 in
      let left : bs ≡ rest = cc in
      let whole : b ∷ bs ≡ mark ∷ rest = cc in
      ([], (whole, parts.1, λ before behind at level. no_place before behind at))
  found_by false opened closed b bs rest e h further =
      let w = further h in
      (b ∷ w.0, (ap (λ t. b ∷ t) w.1.0, w.1.1, earlier opened closed b bs rest w.0 e w.1))

  -- what is found is a cut
  pub found : (text : List ℕ) (opened closed : ℕ) (rest : List ℕ) → behind_mark nested mark opened closed text ≡ Some rest →
      (first : List ℕ) × IsCutFrom nested mark opened closed text first rest
  found [] opened closed rest h = absurd (cc)
  found (b ∷ bs) opened closed rest h =
      found_by (ends opened closed b) opened closed b bs rest refl h (λ e. found bs (counted 40 b opened) (counted 41 b closed) rest e)

  met_by : (t : Bool) (opened closed b : ℕ) (bs rest first : List ℕ) → ends opened closed b ≡ t → IsCutFrom nested mark opened closed (b ∷ bs) (b ∷ first) rest →
      behind_mark nested mark (counted 40 b opened) (counted 41 b closed) bs ≡ Some rest →
      cond t (Some bs) (behind_mark nested mark (counted 40 b opened) (counted 41 b closed) bs) ≡ Some rest
  met_by true opened closed b bs rest first e cut h =
      let parts = and_parts (b == mark) (not nested || nat_le opened closed) e in
      let same : b ≡ mark = eqb-true b mark parts.0 in
      absurd (cut.2 [] first (ap (λ x. x ∷ first) same) parts.1)
  met_by false opened closed b bs rest first e cut h = h

  -- and each cut is found
  pub met : (text : List ℕ) (opened closed : ℕ) (first rest : List ℕ) → IsCutFrom nested mark opened closed text first rest → behind_mark nested mark opened closed text ≡ Some rest
  met [] opened closed first rest cut = absurd (no_place first rest cut.0)
  met (b ∷ bs) opened closed [] rest cut =
      let same : b ≡ mark = cc (cut.0) in
      let left : bs ≡ rest = cc (cut.0) in
      ap (λ t. cond t (Some bs) (behind_mark nested mark (counted 40 b opened) (counted 41 b closed) bs)) (ends_at opened closed b same cut.1) ∙ ap Some left
  met (b ∷ bs) opened closed (f ∷ fs) rest cut =
      let same : f ≡ b = cc (cut.0) in
      let left : bs ≡ fs ++ mark ∷ rest = cc (cut.0) in
      let here : IsCutFrom nested mark opened closed (b ∷ bs) (b ∷ fs) rest = subst (λ x. IsCutFrom nested mark opened closed (b ∷ bs) (x ∷ fs) rest) same cut in
      met_by (ends opened closed b) opened closed b bs rest fs refl here
      (met bs (counted 40 b opened) (counted 41 b closed) fs rest (left, here.1, λ before behind h level. here.2 (b ∷ before) behind (ap (λ t. b ∷ t) h) level))

  front_of : (text first rest : List ℕ) → text ≡ first ++ mark ∷ rest → take (length text - (length rest + 1)) text ≡ first
  front_of text first rest h =
      let size : length text - (length rest + 1) ≡ length first = omega (arith, ap length h, length-append first (mark ∷ rest)) in
      ap (λ n. take n text) size ∙ ap (take (length first)) h ∙ take-append_seam first (mark ∷ rest)

  pub cut_met : (text first rest : List ℕ) → IsCut nested mark text first rest → cut nested mark text ≡ Some (first, rest)
  unfolding cut
  cut_met text first rest h = ap (cut_before text) (met text 0 0 first rest h) ∙ ap (λ f. Some (f, rest)) (front_of text first rest h.0)

  said_at : (text : List ℕ) (found_rest : Option (List ℕ)) (parts : List ℕ × List ℕ) → behind_mark nested mark 0 0 text ≡ found_rest → cut_before text found_rest ≡ Some parts → IsCut nested mark text parts.0 parts.1
  said_at text None parts e h = absurd (cc)
  said_at text (Some rest) parts e h =
      let w = found text 0 0 rest e in
      let whole : parts ≡ (w.0, rest) = cc (front_of text w.0 rest w.1.0) in
      subst (λ (p : List ℕ × List ℕ). IsCut nested mark text p.0 p.1) (sym whole) w.1

  pub cut_said : (text : List ℕ) (parts : List ℕ × List ℕ) → cut nested mark text ≡ Some parts → IsCut nested mark text parts.0 parts.1
  unfolding cut
  cut_said text parts h = said_at text (behind_mark nested mark 0 0 text) parts refl h
