-- The prerequisites of a name's lines, by the numbers of the lines.
use Rattle.std.proofs.Common.{◌≡◌, ℕ, ◌+◌, Bool, true, false, ◌&&◌, List, [], ◌∷◌, ◌++◌, length, filter, Option, Some, None, refl, sym, ap, ◌∙◌}
use Rattle.std.specs.Prelude.{slice_get}
use Rattle.std.specs.List.{flat_map, list_any}
use Rattle.std.specs.Option.{option_map_or}
use Rattle.std.proofs.lemmas.List.{append_assoc, length-append}
use Rattle.mk_rule_lines.specs.Rules.{places}
use Rattle.mk_rule_lines.specs.declared.rule_line.RuleLine.{RuleLine}

-- what the line with a number has of this
abbrev pub names_at : {A : Type 0} → (of : RuleLine → List A) → List RuleLine → (k : ℕ) → List A
names_at of lines k = option_map_or of (slice_get lines k) []

-- the line behind some others is read by their number
read_behind : (done : List RuleLine) (l : RuleLine) (left : List RuleLine) → slice_get (done ++ l ∷ left) (length done) ≡ Some l
read_behind [] l left = refl
read_behind (d ∷ done) l left = read_behind done l left

module _ {A : Type 0} (of : RuleLine → List A) (p : RuleLine → Bool) where
  at_places : (done : List RuleLine) (l : RuleLine) (left : List RuleLine) (t : Bool) → p l ≡ t →
      flat_map (names_at of (done ++ l ∷ left)) (places p (length done + 1) left) ≡ flat_map of (filter p left) →
      flat_map (names_at of (done ++ l ∷ left)) (places p (length done) (l ∷ left)) ≡ flat_map of (filter p (l ∷ left))
  at_places done l left true e more =
      let here : names_at of (done ++ l ∷ left) (length done) ≡ of l = ap (λ (o : Option RuleLine). option_map_or of o []) (read_behind done l left) in
      simp (e, here, more) refl
  at_places done l left false e more = simp (e, more) refl

  -- the lines that pass, and the numbers of these lines, have the same prerequisites
  pub names-places : (done left : List RuleLine) → flat_map (names_at of (done ++ left)) (places p (length done) left) ≡ flat_map of (filter p left)
  names-places done [] = refl
  names-places done (l ∷ left) =
      at_places done l left (p l) refl
      (let more = names-places (done ++ l ∷ []) left in
      let whole : (done ++ l ∷ []) ++ left ≡ done ++ l ∷ left = append_assoc done (l ∷ []) left in
      let count : length (done ++ l ∷ []) ≡ length done + 1 = length-append done (l ∷ []) in
      rw whole at (rw count at more))

module _ (p q : RuleLine → Bool) where
  abbrev at_number : List RuleLine → (k : ℕ) → Bool
  at_number lines k = option_map_or q (slice_get lines k) false

  any_at : (done : List RuleLine) (l : RuleLine) (left : List RuleLine) (t : Bool) → p l ≡ t →
      list_any (at_number (done ++ l ∷ left)) (places p (length done + 1) left) ≡ list_any (λ l. p l && q l) left →
      list_any (at_number (done ++ l ∷ left)) (places p (length done) (l ∷ left)) ≡ list_any (λ l. p l && q l) (l ∷ left)
  any_at done l left true e more =
      let here : at_number (done ++ l ∷ left) (length done) ≡ q l = ap (λ (o : Option RuleLine). option_map_or q o false) (read_behind done l left) in
      simp (e, here, more) refl
  any_at done l left false e more = simp (e, more) refl

  -- among the lines that pass, and among the numbers of these lines, there is the same
  pub any-places : (done left : List RuleLine) → list_any (at_number (done ++ left)) (places p (length done) left) ≡ list_any (λ l. p l && q l) left
  any-places done [] = refl
  any-places done (l ∷ left) =
      any_at done l left (p l) refl
      (let more = any-places (done ++ l ∷ []) left in
      let whole : (done ++ l ∷ []) ++ left ≡ done ++ l ∷ left = append_assoc done (l ∷ []) left in
      let count : length (done ++ l ∷ []) ≡ length done + 1 = length-append done (l ∷ []) in
      rw whole at (rw count at more))

-- once the prerequisites of the next line are added, what is left to add are those of the lines behind it
pub names-next : {A : Type 0} (of : RuleLine → List A) (before after whole : List A) (lines : List RuleLine) (k : ℕ) (l : RuleLine) (more : List ℕ) → slice_get lines k ≡ Some l →
    after ≡ before ++ of l → before ++ flat_map (names_at of lines) (k ∷ more) ≡ whole → after ++ flat_map (names_at of lines) more ≡ whole
names-next of before after whole lines k l more read adds so =
    let here : names_at of lines k ≡ of l = ap (λ (o : Option RuleLine). option_map_or of o []) read in
    ap (λ ns. ns ++ flat_map (names_at of lines) more) adds
    ∙ append_assoc before (of l) (flat_map (names_at of lines) more)
    ∙ ap (λ ns. before ++ (ns ++ flat_map (names_at of lines) more)) (sym here)
    ∙ so

-- a number past the lines has no prerequisites
pub names-none : {A : Type 0} (of : RuleLine → List A) (before whole : List A) (lines : List RuleLine) (k : ℕ) (more : List ℕ) → slice_get lines k ≡ None →
    before ++ flat_map (names_at of lines) (k ∷ more) ≡ whole → before ++ flat_map (names_at of lines) more ≡ whole
names-none of before whole lines k more read so =
    let here : names_at of lines k ≡ [] = ap (λ (o : Option RuleLine). option_map_or of o []) read in
    ap (λ ns. before ++ (ns ++ flat_map (names_at of lines) more)) (sym here) ∙ so
