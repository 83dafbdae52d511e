-- What the two steps on links do to rings and to the paths along them.
use Rattle.std.proofs.Common.{◌≡◌, ◌≢◌, ℕ, ◌<◌, List, [], ◌∷◌, ◌++◌, sym, ap, ◌∙◌, subst, ⊎_elim, append-nil}
use Rattle.std.proofs.lemmas.Bool.{cases_eq}
use Rattle.bd_links.specs.Ring.{IsRing, Leads}
use Rattle.mk_graph.specs.Edges.{times}
use Rattle.bd_links.specs.SixLists.{without}
use Rattle.bd_links.proofs.ListLemmas.{apart, without-head, without-other}

-- what taking the place p out of its ring does to the links
pub record Unlinks (f b g c : ℕ → ℕ) (p : ℕ) : Type 0 where
  pub next_own : g p ≡ p
  pub next_over : b p ≢ p → g (b p) ≡ f p
  pub next_same : (y : ℕ) → y ≢ p → y ≢ b p → g y ≡ f y
  pub prev_own : c p ≡ p
  pub prev_over : f p ≢ p → c (f p) ≡ b p
  pub prev_same : (y : ℕ) → y ≢ p → y ≢ f p → c y ≡ b y

-- what putting the ring that begins at s before e does to the links
pub record Splices (f b g c : ℕ → ℕ) (e s : ℕ) : Type 0 where
  pub next_tail : g (b s) ≡ e
  pub next_last : b e ≢ b s → g (b e) ≡ s
  pub next_same : (y : ℕ) → y ≢ b s → y ≢ b e → g y ≡ f y
  pub prev_end : c e ≡ b s
  pub prev_start : s ≢ e → c s ≡ b e
  pub prev_same : (y : ℕ) → y ≢ e → y ≢ s → c y ≡ b y

turned : {f b g c : ℕ → ℕ} {p : ℕ} → Unlinks f b g c p → Unlinks b f c g p
turned u = record {
  next_own = u.prev_own;
  next_over = u.prev_over;
  next_same = u.prev_same;
  prev_own = u.next_own;
  prev_over = u.next_over;
  prev_same = u.next_same;
}

ring_turned : {f b : ℕ → ℕ} {n : ℕ} → IsRing f b n → IsRing b f n
ring_turned r = record { next_in = r.prev_in; prev_in = r.next_in; there_and_back = r.back_and_there; back_and_there = r.there_and_back }

-- ---- taking a place out

module _ (f b g c : ℕ → ℕ) (n p : ℕ) (ring : IsRing f b n) (in_p : p < n) (u : Unlinks f b g c p) where
  unlinked_in : (y : ℕ) → y < n → g y < n
  unlinked_in y in_y = ⊎_elim own other (cases_eq y p)
    where
      own : y ≡ p → g y < n
      own e = subst (λ k. k < n) (sym (ap g e ∙ u.next_own)) in_p

      other : y ≢ p → g y < n
      other ne = ⊎_elim over same (cases_eq y (b p))
        where
          over : y ≡ b p → g y < n
          over e = subst (λ k. k < n) (sym (ap g e ∙ u.next_over (λ h. ne (e ∙ h)))) (ring.next_in p in_p)

          same : y ≢ b p → g y < n
          same apart_from = subst (λ k. k < n) (sym (u.next_same y ne apart_from)) (ring.next_in y in_y)

  unlinked_undone : (y : ℕ) → y < n → c (g y) ≡ y
  unlinked_undone y in_y = ⊎_elim own other (cases_eq y p)
    where
      own : y ≡ p → c (g y) ≡ y
      own e = cc (u.next_own, u.prev_own)

      other : y ≢ p → c (g y) ≡ y
      other ne = ⊎_elim over same (cases_eq y (b p))
        where
          over : y ≡ b p → c (g y) ≡ y
          over e =
              let q : b p ≢ p = λ h. ne (e ∙ h) in
              let back = ring.back_and_there p in_p in
              let there = ring.there_and_back p in_p in
              let fp : f p ≢ p = λ h. q (cc) in
              let one = u.next_over q in
              let two = u.prev_over fp in
              cc

          same : y ≢ b p → c (g y) ≡ y
          same apart_from =
              let one = u.next_same y ne apart_from in
              let at_y = ring.there_and_back y in_y in
              let at_p = ring.there_and_back p in_p in
              let not_p : f y ≢ p = λ h. apart_from (cc) in
              let not_next : f y ≢ f p = λ h. ne (cc) in
              let two = u.prev_same (f y) not_p not_next in
              cc

-- the links are rings again
pub IsRing-unlink : (f b g c : ℕ → ℕ) (n p : ℕ) → IsRing f b n → p < n → Unlinks f b g c p → IsRing g c n
IsRing-unlink f b g c n p ring in_p u = record {
  next_in = unlinked_in f b g c n p ring in_p u;
  prev_in = unlinked_in b f c g n p (ring_turned ring) in_p (turned u);
  there_and_back = unlinked_undone f b g c n p ring in_p u;
  back_and_there = unlinked_undone b f c g n p (ring_turned ring) in_p (turned u);
}

-- a path that begins and ends elsewhere passes over the place
module _ (f b g c : ℕ → ℕ) (n p z : ℕ) (ring : IsRing f b n) (in_p : p < n) (u : Unlinks f b g c p) (not_z : z ≢ p) where
  before_p : (y : ℕ) → y < n → f y ≢ p → y ≢ b p
  before_p y in_y ne e = let h = ring.back_and_there p in_p in ne (cc)

  pub Leads-unlink : (s : ℕ) (ys : List ℕ) → s < n → s ≢ p → Leads f s ys z → Leads g s (without p ys) z
  Leads-unlink s [] in_s ne path = u.next_same s ne (before_p s in_s (λ h. not_z (sym path ∙ h))) ∙ path
  Leads-unlink s (a ∷ []) in_s ne path =
      ⊎_elim here (on (Leads-unlink a [] (subst (λ k. k < n) path.0 (ring.next_in s in_s)))) (cases_eq p a)
    where
      here : p ≡ a → Leads g s (without p (a ∷ [])) z
      here e =
          let back = ring.there_and_back s in_s in
          let first = path.0 in
          let s_is : s ≡ b p = cc in
          subst (λ l. Leads g s l z) (sym (ap (λ k. without p (k ∷ [])) (sym e) ∙ without-head p []))
          (ap g s_is ∙ u.next_over (λ h. ne (s_is ∙ h)) ∙ ap f e ∙ path.1)

      on : (a ≢ p → Leads f a [] z → Leads g a [] z) → p ≢ a → Leads g s (without p (a ∷ [])) z
      on rest apart_from =
          let go : g s ≡ f s = u.next_same s ne (before_p s in_s (λ h. apart_from (sym h ∙ path.0))) in
          subst (λ l. Leads g s l z) (sym (without-other p a [] apart_from)) (go ∙ path.0, rest (λ h. apart_from (sym h)) path.1)
  Leads-unlink s (a ∷ d ∷ ys) in_s ne path =
      let in_a : a < n = subst (λ k. k < n) path.0 (ring.next_in s in_s) in
      let in_d : d < n = subst (λ k. k < n) path.1.0 (ring.next_in a in_a) in
      ⊎_elim (here (Leads-unlink d ys in_d)) (on (Leads-unlink a (d ∷ ys) in_a)) (cases_eq p a)
    where
      here : (d ≢ p → Leads f d ys z → Leads g d (without p ys) z) → p ≡ a → Leads g s (without p (a ∷ d ∷ ys)) z
      here rest e =
          let back = ring.there_and_back s in_s in
          let first = path.0 in
          let second = path.1.0 in
          let s_is : s ≡ b p = cc in
          let own = ring.there_and_back p in_p in
          let d_not : p ≢ d = λ h. ne (cc) in
          subst (λ l. Leads g s l z) (sym (ap (λ k. without p (k ∷ d ∷ ys)) (sym e) ∙ without-head p (d ∷ ys) ∙ without-other p d ys d_not))
          (ap g s_is ∙ u.next_over (λ h. ne (s_is ∙ h)) ∙ ap f e ∙ path.1.0, rest (λ h. d_not (sym h)) path.1.1)

      on : (a ≢ p → Leads f a (d ∷ ys) z → Leads g a (without p (d ∷ ys)) z) → p ≢ a → Leads g s (without p (a ∷ d ∷ ys)) z
      on rest apart_from =
          let go : g s ≡ f s = u.next_same s ne (before_p s in_s (λ h. apart_from (sym h ∙ path.0))) in
          subst (λ l. Leads g s l z) (sym (without-other p a (d ∷ ys) apart_from)) (go ∙ path.0, rest (λ h. apart_from (sym h)) path.1)

-- ---- putting a ring in

module _ (f b g c : ℕ → ℕ) (n e s : ℕ) (ring : IsRing f b n) (in_e : e < n) (in_s : s < n) (two_rings : s ≢ e) (u : Splices f b g c e s) where
  -- what is behind the last of a ring is its first
  not_tail : (y : ℕ) → f y ≢ s → y ≢ b s
  not_tail y ne h = let back = ring.back_and_there s in_s in ne (cc)

  not_last : (y : ℕ) → f y ≢ e → y ≢ b e
  not_last y ne h = let back = ring.back_and_there e in_e in ne (cc)

  two_tails : b e ≢ b s
  two_tails h = let one = ring.back_and_there e in_e in let two = ring.back_and_there s in_s in two_rings (cc)

  spliced_in : (y : ℕ) → y < n → g y < n
  spliced_in y in_y = ⊎_elim tail other (cases_eq y (b s))
    where
      tail : y ≡ b s → g y < n
      tail h = subst (λ k. k < n) (sym (ap g h ∙ u.next_tail)) in_e

      other : y ≢ b s → g y < n
      other ne = ⊎_elim (λ h. subst (λ k. k < n) (sym (ap g h ∙ u.next_last two_tails)) in_s)
          (λ me. subst (λ k. k < n) (sym (u.next_same y ne me)) (ring.next_in y in_y)) (cases_eq y (b e))

  spliced_back_in : (y : ℕ) → y < n → c y < n
  spliced_back_in y in_y = ⊎_elim at_end other (cases_eq y e)
    where
      at_end : y ≡ e → c y < n
      at_end h = subst (λ k. k < n) (sym (ap c h ∙ u.prev_end)) (ring.prev_in s in_s)

      other : y ≢ e → c y < n
      other ne = ⊎_elim (λ h. subst (λ k. k < n) (sym (ap c h ∙ u.prev_start two_rings)) (ring.prev_in e in_e))
          (λ me. subst (λ k. k < n) (sym (u.prev_same y ne me)) (ring.prev_in y in_y)) (cases_eq y s)

  spliced_there : (y : ℕ) → y < n → c (g y) ≡ y
  spliced_there y in_y = ⊎_elim tail other (cases_eq y (b s))
    where
      tail : y ≡ b s → c (g y) ≡ y
      tail h = let one = u.next_tail in let two = u.prev_end in cc

      other : y ≢ b s → c (g y) ≡ y
      other ne = ⊎_elim last same (cases_eq y (b e))
        where
          last : y ≡ b e → c (g y) ≡ y
          last h = let one = u.next_last two_tails in let two = u.prev_start two_rings in cc

          same : y ≢ b e → c (g y) ≡ y
          same me =
              let one = u.next_same y ne me in
              let at_y = ring.there_and_back y in_y in
              let two = u.prev_same (f y) (λ h. me (cc)) (λ h. ne (cc)) in
              cc

  spliced_back : (y : ℕ) → y < n → g (c y) ≡ y
  spliced_back y in_y = ⊎_elim at_end other (cases_eq y e)
    where
      at_end : y ≡ e → g (c y) ≡ y
      at_end h = let one = u.prev_end in let two = u.next_tail in cc

      other : y ≢ e → g (c y) ≡ y
      other ne = ⊎_elim start same (cases_eq y s)
        where
          start : y ≡ s → g (c y) ≡ y
          start h = let one = u.prev_start two_rings in let two = u.next_last two_tails in cc

          same : y ≢ s → g (c y) ≡ y
          same me =
              let one = u.prev_same y ne me in
              let at_y = ring.back_and_there y in_y in
              let at_s = ring.back_and_there s in_s in
              let at_e = ring.back_and_there e in_e in
              let two = u.next_same (b y) (λ h. me (cc)) (λ h. ne (cc)) in
              cc

  pub IsRing-splice : IsRing g c n
  IsRing-splice = record { next_in = spliced_in; prev_in = spliced_back_in; there_and_back = spliced_there; back_and_there = spliced_back }

  -- a path that meets neither ring's first goes on as it did up to its last step
  on_as_before : (z t : ℕ) (more : List ℕ) → ((y : ℕ) → y < n → f y ≡ z → Leads g y more t)
      → (a : ℕ) (ys : List ℕ) → a < n → times e ys ≡ 0 → times s ys ≡ 0 → Leads f a ys z → Leads g a (ys ++ more) t
  on_as_before z t more rest a [] in_a no_e no_s path = rest a in_a path
  on_as_before z t more rest a (d ∷ ys) in_a no_e no_s path =
      let h = apart e d ys no_e in
      let k = apart s d ys no_s in
      let same : g a ≡ f a = u.next_same a (not_tail a (λ q. k.0 (sym q ∙ path.0))) (not_last a (λ q. h.0 (sym q ∙ path.0))) in
      (same ∙ path.0, on_as_before z t more rest d ys (subst (λ q. q < n) path.0 (ring.next_in a in_a)) h.1 k.1 path.1)

  -- another ring stays
  pub Leads-splice_other : (z a : ℕ) (ys : List ℕ) → z ≢ e → z ≢ s → a < n → times e ys ≡ 0 → times s ys ≡ 0 → Leads f a ys z → Leads g a ys z
  Leads-splice_other z a ys not_e not_s in_a no_e no_s path =
      subst (λ l. Leads g a l z) (append-nil ys)
      (on_as_before z z [] (λ y in_y h. u.next_same y (not_tail y (λ q. not_s (sym h ∙ q))) (not_last y (λ q. not_e (sym h ∙ q))) ∙ h) a ys in_a no_e no_s path)

  -- the two rings are one
  pub Leads-splice : (a : ℕ) (ys ws : List ℕ) → a < n → times e ys ≡ 0 → times s ys ≡ 0 → times e ws ≡ 0 → times s ws ≡ 0
      → Leads f a ys e → Leads f s ws s → Leads g a (ys ++ s ∷ ws) e
  Leads-splice a ys ws in_a no_e no_s no_e_in no_s_in path inner = on_as_before e e (s ∷ ws) last a ys in_a no_e no_s path
    where
      tail : Leads g s ws e
      tail =
          subst (λ l. Leads g s l e) (append-nil ws)
          (on_as_before s e [] (λ y in_y h. let there = ring.there_and_back y in_y in let at = u.next_tail in let y_is : y ≡ b s = cc in ap g y_is ∙ at) s ws in_s no_e_in no_s_in inner)

      last : (y : ℕ) → y < n → f y ≡ e → Leads g y (s ∷ ws) e
      last y in_y h = let there = ring.there_and_back y in_y in let y_is : y ≡ b e = cc in (ap g y_is ∙ u.next_last two_tails, tail)
