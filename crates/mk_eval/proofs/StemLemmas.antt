-- A pattern with a `%` has at most one stem for a target, and it can be found out.
use Rattle.std.proofs.Common.{◌≡◌, ℕ, ◌-◌, true, false, cond, ◌||◌, ◌==◌, List, [], ◌∷◌, ◌++◌, length, take, drop, inl, inr, ◌⊎◌, refl, sym, ap, ◌∙◌, arith, length-append, bytes_eq, ◌≢◌, Option, Some, None, MatchOption}
use denote.Ref.{Bor}
use Rattle.std.proofs.lemmas.Bool.Decides.{Decides-eqb}
use Rattle.std.proofs.lemmas.List.{take_at, drop_at, take-append-drop}
use Rattle.std.proofs.lemmas.Slice.Eq.{bytes_eq-Decides}
use Rattle.mk_lines.proofs.ReferenceLemmas.{either}
use Rattle.mk_eval.specs.Static.{is_percent, has_percent, with_stem}

-- the head of a list
abbrev first_of : List ℕ → ℕ
first_of [] = 0
first_of (b ∷ bs) = b

-- the target is this pattern with this stem
abbrev pub IsStem : (pattern target stem : List ℕ) → Type 0
IsStem pattern target stem = target ≡ with_stem stem pattern

pub at_percent : (b : ℕ) (bs stem : List ℕ) → is_percent b ≡ true → with_stem stem (b ∷ bs) ≡ stem ++ bs
at_percent b bs stem e = ap (λ t. cond t (stem ++ bs) (b ∷ with_stem stem bs)) e

pub at_other : (b : ℕ) (bs stem : List ℕ) → is_percent b ≡ false → with_stem stem (b ∷ bs) ≡ b ∷ with_stem stem bs
at_other b bs stem e = ap (λ t. cond t (stem ++ bs) (b ∷ with_stem stem bs)) e

pub percent_further : (b : ℕ) (bs : List ℕ) → is_percent b ≡ false → has_percent (b ∷ bs) ≡ true → has_percent bs ≡ true
percent_further b bs e h = ap (λ t. t || has_percent bs) (sym e) ∙ h

front_one : (s t rest : List ℕ) → s ++ rest ≡ t ++ rest → s ≡ t
front_one s t rest e =
    let long : length s ≡ length t = (let n : length (s ++ rest) ≡ length (t ++ rest) = ap length e in omega (arith, n, length-append s rest, length-append t rest)) in
    sym (take_at s rest (length s) refl) ∙ ap (take (length s)) e ∙ take_at t rest (length s) (sym long)

pub stem_one : (pattern s t : List ℕ) → has_percent pattern ≡ true → with_stem s pattern ≡ with_stem t pattern → s ≡ t
stem_one [] s t h e = absurd (cc h)
stem_one (b ∷ bs) s t h e =
    either _ (is_percent b)
    (λ p. front_one s t bs (sym (at_percent b bs s p) ∙ e ∙ at_percent b bs t p))
    (λ p. stem_one bs s t (percent_further b bs p h) (ap (drop 1) (sym (at_other b bs s p) ∙ e ∙ at_other b bs t p)))

abbrev pub Found : (pattern target : List ℕ) → Type 0
Found pattern target = ((stem : List ℕ) × IsStem pattern target stem) ⊎ ((stem : List ℕ) → IsStem pattern target stem → ⊥)

ends_so : (target after : List ℕ) → ((stem : List ℕ) × (target ≡ stem ++ after)) ⊎ ((stem : List ℕ) → target ≡ stem ++ after → ⊥)
ends_so target after =
    let n = length target - length after in
    either _ (bytes_eq (drop n target) after)
    (λ t. inl (take n target, sym (take-append-drop n target) ∙ ap (λ xs. take n target ++ xs) ((bytes_eq-Decides (drop n target) after).0 t)))
    (λ f. inr (λ stem e.
    let long : length stem ≡ n = (let l : length target ≡ length (stem ++ after) = ap length e in omega (arith, l, length-append stem after)) in
    let end : drop n target ≡ after = ap (drop n) e ∙ drop_at stem after n long in
    absurd (cc (sym ((bytes_eq-Decides (drop n target) after).1 end) ∙ f))))

-- one byte that is no `%` in front of both
pub stem_more : (b c : ℕ) (bs cs stem : List ℕ) → is_percent b ≡ false → c ≡ b → IsStem bs cs stem → IsStem (b ∷ bs) (c ∷ cs) stem
stem_more b c bs cs stem p e h = ap (λ x. x ∷ cs) e ∙ ap (λ xs. b ∷ xs) h ∙ sym (at_other b bs stem p)

pub stem_rest : (b c : ℕ) (bs cs stem : List ℕ) → is_percent b ≡ false → IsStem (b ∷ bs) (c ∷ cs) stem → (c ≡ b) × IsStem bs cs stem
stem_rest b c bs cs stem p h =
    let whole : c ∷ cs ≡ b ∷ with_stem stem bs = h ∙ at_other b bs stem p in
    (ap first_of whole, ap (drop 1) whole)

pub stem_none : (b : ℕ) (bs stem : List ℕ) → is_percent b ≡ false → IsStem (b ∷ bs) [] stem → ⊥
stem_none b bs stem p h = let e : [] ≡ b ∷ with_stem stem bs = h ∙ at_other b bs stem p in cc e

pub stem_found : (pattern target : List ℕ) → has_percent pattern ≡ true → Found pattern target
stem_found [] target h = absurd (cc h)
stem_found (b ∷ bs) target h =
    either _ (is_percent b)
    (λ p. found_at p (ends_so target bs))
    (λ p. further p (λ cs. stem_found bs cs (percent_further b bs p h)) target)
  where
    found_at : is_percent b ≡ true → ((stem : List ℕ) × (target ≡ stem ++ bs)) ⊎ ((stem : List ℕ) → target ≡ stem ++ bs → ⊥) → Found (b ∷ bs) target
    found_at p (inl (stem, e)) = inl (stem, e ∙ sym (at_percent b bs stem p))
    found_at p (inr none) = inr (λ stem e. none stem (e ∙ at_percent b bs stem p))

    later : (c : ℕ) (cs : List ℕ) → is_percent b ≡ false → c ≡ b → Found bs cs → Found (b ∷ bs) (c ∷ cs)
    later c cs p e (inl (stem, is)) = inl (stem, stem_more b c bs cs stem p e is)
    later c cs p e (inr none) = inr (λ stem is. none stem (stem_rest b c bs cs stem p is).1)

    further : is_percent b ≡ false → ((cs : List ℕ) → Found bs cs) → (text : List ℕ) → Found (b ∷ bs) text
    further p found [] = inr (λ stem is. stem_none b bs stem p is)
    further p found (c ∷ cs) =
        either _ (c == b)
        (λ e. later c cs p ((Decides-eqb c b).0 e) (found cs))
        (λ f. inr (λ stem is. absurd (cc (sym ((Decides-eqb c b).1 (stem_rest b c bs cs stem p is).0) ∙ f))))

-- what is left of the target ends with what stands behind the `%`
pub stem_ends : (byte : ℕ) (after left rest pattern target : List ℕ) → left ≡ byte ∷ after → is_percent byte ≡ true →
    ((stem : List ℕ) → IsStem pattern target stem → IsStem left rest stem) → ((stem : List ℕ) → IsStem left rest stem → IsStem pattern target stem) →
    (r : Option (Bor (List ℕ))) → MatchOption r ((front : List ℕ) → rest ≢ front ++ after) (λ x. rest ≡ x.now ++ after) →
    MatchOption r ((stem : List ℕ) → IsStem pattern target stem → ⊥) (λ stem. IsStem pattern target stem.now)
stem_ends byte after left rest pattern target at p narrows widens None h =
    λ stem is. h stem (narrows stem is ∙ ap (with_stem stem) at ∙ at_percent byte after stem p)
stem_ends byte after left rest pattern target at p narrows widens (Some x) h =
    widens x.now (h ∙ sym (at_percent byte after x.now p) ∙ ap (with_stem x.now) (sym at))
