-- One recipe after the other gets its lane.
use Rattle.std.proofs.Common.{◌≡◌, ◌≢◌, ◌∙◌, ◌+◌, ◌<◌, ◌≤◌, ◌⊎◌, ℕ, List, [], ◌∷◌, ◌++◌, length, get_or, max, ap, sym, subst, ⊎_elim, inl, inr, length-append, arith}
use Rattle.std.proofs.Math.ListN.{get_or-append}
use Rattle.std.proofs.Math.Seq.{get_or-append_seam}
use Rattle.std.proofs.lemmas.Bool.{cases_lt, cases_order}
use Rattle.bl_log.specs.declared.span.Span.{Span}
use Rattle.bl_log.specs.Spans.{begin_of, end_of}
use Rattle.bl_log.specs.Lanes.{IsTaken}

-- so many recipes have lanes, each of which is free from the end of its last recipe on
pub record ArePlaced (spans : List Span) (lanes free : List ℕ) (count : ℕ) : Type 0 where
  pub each : length lanes ≡ count
  pub apart : (i j : ℕ) → i < j → j < count → get_or lanes i 0 ≡ get_or lanes j 0 → end_of spans i ≤ begin_of spans j
  pub needed : (recipe lane : ℕ) → recipe < count → lane < get_or lanes recipe 0 → IsTaken spans lanes recipe lane
  pub within : (i : ℕ) → i < count → get_or lanes i 0 < length free
  pub last : (i : ℕ) → i < count → end_of spans i ≤ get_or free (get_or lanes i 0) 0
  pub by : (lane : ℕ) → lane < length free → (i : ℕ) × (i < count) × (get_or lanes i 0 ≡ lane) × (end_of spans i ≡ get_or free lane 0)

-- what is free after a recipe got its lane
pub record IsGiven (free new : List ℕ) (lane time : ℕ) : Type 0 where
  pub count : length new ≡ max (length free) (lane + 1)
  pub here : get_or new lane 0 ≡ time
  pub others : (other : ℕ) → other ≢ lane → get_or new other 0 ≡ get_or free other 0

-- the lane is the first that is free at a time
pub record IsFirstFree (free : List ℕ) (time lane : ℕ) : Type 0 where
  pub room : lane ≤ length free
  pub taken : (l : ℕ) → l < lane → time < get_or free l 0
  pub is_free : lane < length free → get_or free lane 0 ≤ time

old_lane : (lanes : List ℕ) (lane count i : ℕ) → length lanes ≡ count → i < count → get_or (lanes ++ lane ∷ []) i 0 ≡ get_or lanes i 0
old_lane lanes lane count i each h = let k : i < length lanes = omega arith in get_or-append lanes (lane ∷ []) 0 i k

new_lane : (lanes : List ℕ) (lane count : ℕ) → length lanes ≡ count → get_or (lanes ++ lane ∷ []) count 0 ≡ lane
new_lane lanes lane count each = subst (λ n. get_or (lanes ++ lane ∷ []) n 0 ≡ lane) each (get_or-append_seam lanes lane [] 0)

-- a recipe is one of the first, or the one behind them
one_more : (i count : ℕ) → i < count + 1 → (i < count) ⊎ (i ≡ count)
one_more i count h = ⊎_elim (λ b. inl b) (λ past. let e : i ≡ count = omega arith in inr e) (cases_lt i count)

placed_apart : (spans : List Span) (lanes free : List ℕ) (count lane : ℕ) → ArePlaced spans lanes free count → IsFirstFree free (begin_of spans count) lane
    → (i j : ℕ) → i < j → j < count + 1 → get_or (lanes ++ lane ∷ []) i 0 ≡ get_or (lanes ++ lane ∷ []) j 0 → end_of spans i ≤ begin_of spans j
placed_apart spans lanes free count lane p f i j before within same =
    ⊎_elim
    (λ old.
    let hi : i < count = omega arith in
    p.apart i j before old (sym (old_lane lanes lane count i p.each hi) ∙ same ∙ old_lane lanes lane count j p.each old))
    (λ (last : j ≡ count).
    let hi : i < count = omega arith in
    let at_last : get_or (lanes ++ lane ∷ []) j 0 ≡ lane = ap (λ n. get_or (lanes ++ lane ∷ []) n 0) last ∙ new_lane lanes lane count p.each in
    let is_lane : get_or lanes i 0 ≡ lane = sym (old_lane lanes lane count i p.each hi) ∙ same ∙ at_last in
    let there : lane < length free = subst (λ n. n < length free) is_lane (p.within i hi) in
    let ended : end_of spans i ≤ get_or free lane 0 = subst (λ n. end_of spans i ≤ get_or free n 0) is_lane (p.last i hi) in
    let now : get_or free lane 0 ≤ begin_of spans count = f.is_free there in
    let done : end_of spans i ≤ begin_of spans count = omega arith in
    subst (λ n. end_of spans i ≤ begin_of spans n) (sym last) done)
    (one_more j count within)

-- what was taken stays so
still_taken : (spans : List Span) (lanes : List ℕ) (count lane recipe l : ℕ) → length lanes ≡ count → recipe ≤ count
    → IsTaken spans lanes recipe l → IsTaken spans (lanes ++ lane ∷ []) recipe l
still_taken spans lanes count lane recipe l each h t =
    let hb : t.0 < count = let b : t.0 < recipe = t.1 in omega arith in
    (t.0, t.1, old_lane lanes lane count t.0 each hb ∙ t.2, t.3)

placed_needed : (spans : List Span) (lanes free : List ℕ) (count lane : ℕ) → ArePlaced spans lanes free count → IsFirstFree free (begin_of spans count) lane
    → (recipe l : ℕ) → recipe < count + 1 → l < get_or (lanes ++ lane ∷ []) recipe 0 → IsTaken spans (lanes ++ lane ∷ []) recipe l
placed_needed spans lanes free count lane p f recipe l within below =
    ⊎_elim
    (λ old.
    let le : recipe ≤ count = omega arith in
    still_taken spans lanes count lane recipe l p.each le (p.needed recipe l old (subst (λ n. l < n) (old_lane lanes lane count recipe p.each old) below)))
    (λ (last : recipe ≡ count).
    let at_last : get_or (lanes ++ lane ∷ []) recipe 0 ≡ lane = ap (λ n. get_or (lanes ++ lane ∷ []) n 0) last ∙ new_lane lanes lane count p.each in
    let under : l < lane = subst (λ n. l < n) at_last below in
    let le : count ≤ count = omega arith in
    let room : lane ≤ length free = f.room in
    let there : l < length free = omega arith in
    let w = p.by l there in
    let late : begin_of spans count < end_of spans w.0 = subst (λ n. begin_of spans count < n) (sym w.3) (f.taken l under) in
    subst (λ n. IsTaken spans (lanes ++ lane ∷ []) n l) (sym last)
    (still_taken spans lanes count lane count l p.each le (w.0, w.1, w.2, late)))
    (one_more recipe count within)

pub placed_more : (spans : List Span) (lanes free new : List ℕ) (count lane : ℕ) → begin_of spans count ≤ end_of spans count → ArePlaced spans lanes free count
    → IsFirstFree free (begin_of spans count) lane → IsGiven free new lane (end_of spans count) → ArePlaced spans (lanes ++ lane ∷ []) new (count + 1)
placed_more spans lanes free new count lane forward p f g =
    let all = lanes ++ lane ∷ [] in
    let here = new_lane lanes lane count p.each in
    record {
      each = simp length-append (omega (arith, p.each));
      apart = placed_apart spans lanes free count lane p f;
      needed = placed_needed spans lanes free count lane p f;
      within = λ i h.
          ⊎_elim
          (λ old. subst (λ n. n < length new) (sym (old_lane lanes lane count i p.each old)) (let k = p.within i old in omega (arith, g.count, k)))
          (λ (last : i ≡ count). subst (λ n. n < length new) (sym (ap (λ n. get_or all n 0) last ∙ here)) (omega (arith, g.count)))
          (one_more i count h);
      last = λ i h.
          ⊎_elim
          (λ old. subst (λ n. end_of spans i ≤ get_or new n 0) (sym (old_lane lanes lane count i p.each old)) (ended_by spans lanes free new count lane forward p f g i old))
          (λ (last : i ≡ count).
          subst (λ n. end_of spans i ≤ get_or new n 0) (sym (ap (λ n. get_or all n 0) last ∙ here))
          (let e : end_of spans i ≡ get_or new lane 0 = ap (end_of spans) last ∙ sym g.here in omega arith))
          (one_more i count h);
      by = λ l h. held_by spans lanes free new count lane p f g l h;
    }
  where
    ended_by : (spans : List Span) (lanes free new : List ℕ) (count lane : ℕ) → begin_of spans count ≤ end_of spans count → ArePlaced spans lanes free count
        → IsFirstFree free (begin_of spans count) lane → IsGiven free new lane (end_of spans count) → (i : ℕ) → i < count → end_of spans i ≤ get_or new (get_or lanes i 0) 0
    ended_by spans lanes free new count lane forward p f g i old =
        ⊎_elim
        (λ (same : get_or lanes i 0 ≡ lane).
        let there : lane < length free = subst (λ n. n < length free) same (p.within i old) in
        let ended : end_of spans i ≤ get_or free lane 0 = subst (λ n. end_of spans i ≤ get_or free n 0) same (p.last i old) in
        let now : get_or free lane 0 ≤ begin_of spans count = f.is_free there in
        let is : get_or new (get_or lanes i 0) 0 ≡ end_of spans count = ap (λ n. get_or new n 0) same ∙ g.here in
        omega arith)
        (λ other.
        let ne : get_or lanes i 0 ≢ lane = ⊎_elim (λ a e. omega arith) (λ b e. omega arith) other in
        let is : get_or new (get_or lanes i 0) 0 ≡ get_or free (get_or lanes i 0) 0 = g.others (get_or lanes i 0) ne in
        let ended : end_of spans i ≤ get_or free (get_or lanes i 0) 0 = p.last i old in
        omega arith)
        (cases_order (get_or lanes i 0) lane)

    held_by : (spans : List Span) (lanes free new : List ℕ) (count lane : ℕ) → ArePlaced spans lanes free count → IsFirstFree free (begin_of spans count) lane
        → IsGiven free new lane (end_of spans count) → (l : ℕ) → l < length new
        → (i : ℕ) × (i < count + 1) × (get_or (lanes ++ lane ∷ []) i 0 ≡ l) × (end_of spans i ≡ get_or new l 0)
    held_by spans lanes free new count lane p f g l h =
        ⊎_elim
        (λ (same : l ≡ lane). let k : count < count + 1 = omega arith in (count, k, new_lane lanes lane count p.each ∙ sym same, sym g.here ∙ ap (λ n. get_or new n 0) (sym same)))
        (λ other.
        let ne : l ≢ lane = ⊎_elim (λ a e. omega arith) (λ b e. omega arith) other in
        let room : lane ≤ length free = f.room in
        let there : l < length free = ⊎_elim (λ a. omega arith) (λ b. omega (arith, g.count)) other in
        let w = p.by l there in
        let k : w.0 < count + 1 = let b : w.0 < count = w.1 in omega arith in
        (w.0, k, old_lane lanes lane count w.0 p.each w.1 ∙ w.2, w.3 ∙ sym (g.others l ne)))
        (cases_order l lane)
