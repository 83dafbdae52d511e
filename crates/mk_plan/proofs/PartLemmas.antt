-- The parts of a recipe that were expanded so far, and the words of a line with `::`.
use Rattle.std.specs.Prelude.{Result, Ok, Err, IsErrAnd, IfErr}
use Rattle.std.proofs.Common.{◌≡◌, ◌∙◌, ◌+◌, ◌<◌, ◌≤◌, ℕ, suc, add-one, get_or, length, Bool, true, false, cond, ◌&&◌, List, [], ◌∷◌, ◌++◌, map, filter, drop, Some, None, inl, inr, refl, sym, ap, subst}
use Rattle.std.proofs.Math.Seq.{drop-cons}
use Rattle.std.proofs.lemmas.List.{append_assoc, append-nil, drop_all, drop-map}
use Rattle.mk_names.specs.Names.{name_at, has_name}
use Rattle.mk_profile.specs.Profile.{is_wide}
use Rattle.mk_profile.specs.declared.profile.Profile.{Profile}
use Rattle.mk_recipe.specs.declared.line.Line.{Line}
use Rattle.mk_rule_lines.specs.declared.fault.TextFault.{TextFault}
use Rattle.mk_rule_lines.specs.declared.rule_line.RuleLine.{RuleLine}
use Rattle.mk_nodes.specs.declared.graph.Graph.{Graph}
use Rattle.mk_seen.specs.Marks.{hard_marked}
use Rattle.mk_plan.specs.Nodes.{AreNewer}
use Rattle.mk_plan.specs.PartTests.{newer_among}
use Rattle.mk_plan.specs.PartWords.{hard_among}
use Rattle.mk_plan.specs.Parts.{is_part}
use Rattle.mk_plan.specs.Recipe.{AreLinesIn, AreLinesOf, IsFaultOfPart, HasFaultyPart, IsFaultOf}
use Rattle.mk_plan.specs.Tests.{is_newer_word}
use Rattle.mk_plan.specs.Words.{in_wide}
use Rattle.mk_plan.specs.declared.fault.RecipeFault.{RecipeFault}
use Rattle.mk_plan.specs.declared.fault.RecipeFault.TheVariants as fault
use Rattle.mk_plan.proofs.NodeLemmas.{newer_by}

-- ---- parts, one more at a time

module _ (graph : Graph) (marks : List Bool) (n : ℕ) where
  -- these lines are what the first parts give: with what the others give they are what all give
  abbrev pub LinesSoFar : (recipe : List RuleLine) (i : ℕ) (lines : List Line) → Type 0
  LinesSoFar recipe i lines = (rest : List Line) → AreLinesOf graph marks n (drop i recipe) rest → AreLinesOf graph marks n recipe (lines ++ rest)

  pub lines_more : (recipe : List RuleLine) (i : ℕ) (lines own : List Line) (l : RuleLine) → drop i recipe ≡ l ∷ drop (i + 1) recipe →
      AreLinesIn graph marks n l own → LinesSoFar recipe i lines → LinesSoFar recipe (i + 1) (lines ++ own)
  lines_more recipe i lines own l here is before = λ rest are.
      subst (AreLinesOf graph marks n recipe) (sym (append_assoc lines own rest))
      (before (own ++ rest) (subst (λ left. AreLinesOf graph marks n left (own ++ rest)) (sym here) (own, rest, is, are, refl)))

  pub lines_all : (recipe : List RuleLine) (i : ℕ) (lines : List Line) → drop i recipe ≡ [] → LinesSoFar recipe i lines → AreLinesOf graph marks n recipe lines
  lines_all recipe i lines none before =
      subst (AreLinesOf graph marks n recipe) (append-nil lines) (before [] (subst (λ left. AreLinesOf graph marks n left []) (sym none) refl))

  -- the first faulty part of those that are left is that of all
  abbrev pub NoneSoFar : (recipe : List RuleLine) (i : ℕ) → Type 0
  NoneSoFar recipe i = (f : TextFault) → HasFaultyPart graph marks n (drop i recipe) f → HasFaultyPart graph marks n recipe f

  pub none_more : (recipe : List RuleLine) (i : ℕ) (own : List Line) (l : RuleLine) → drop i recipe ≡ l ∷ drop (i + 1) recipe →
      AreLinesIn graph marks n l own → NoneSoFar recipe i → NoneSoFar recipe (i + 1)
  none_more recipe i own l here is before = λ f behind.
      before f (subst (λ left. HasFaultyPart graph marks n left f) (sym here) (inr (own, is, behind)))

  pub faulty_here : (recipe : List RuleLine) (i : ℕ) (l : RuleLine) (f : RecipeFault) → drop i recipe ≡ l ∷ drop (i + 1) recipe →
      IsFaultOfPart graph marks n l f → NoneSoFar recipe i → IsFaultOf graph marks n recipe f
  faulty_here recipe i l fault.OutOfMemory here has before = tt
  faulty_here recipe i l (fault.Macro f) here has before = before f (subst (λ left. HasFaultyPart graph marks n left f) (sym here) (inl has))

-- what is next among the parts, and that none is left
pub drop_mapped : {X Y : Type 0} (f : X → Y) (xs : List X) (k : ℕ) (x : X) → k < length xs → x ≡ get_or xs k x →
    drop k (map f xs) ≡ f x ∷ drop (k + 1) (map f xs)
drop_mapped f xs k x within is =
    let at : drop k xs ≡ x ∷ drop (k + 1) xs = drop-cons xs k x within ∙ ap (λ m. m ∷ drop (suc k) xs) (sym is) ∙ rw add-one refl in
    drop-map f k xs ∙ ap (map f) at ∙ ap (λ ys. f x ∷ ys) (sym (drop-map f (k + 1) xs))

pub none_mapped : {X Y : Type 0} (f : X → Y) (xs : List X) (k : ℕ) → length xs ≤ k → drop k (map f xs) ≡ []
none_mapped f xs k past = drop-map f k xs ∙ ap (map f) (drop_all k xs past)

-- a fault that is handed on
pub handed_on : {T : Type 0} (result : Result T RecipeFault) (P : RecipeFault → Type 0) (f : RecipeFault) → IsErrAnd result (λ g. g ≡ f) → P f → IfErr result P
handed_on (Ok x) P f is p = tt
handed_on (Err g) P f is p = subst P (sym is) p

-- ---- words

both_tests : {A : Type 0} (p q : A → Bool) (x : A) (xs : List A) (b c : Bool) → p x ≡ b → q x ≡ c → filter (λ y. p y && q y) xs ≡ filter q (filter p xs) →
    filter (λ y. p y && q y) (x ∷ xs) ≡ filter q (filter p (x ∷ xs))
both_tests p q x xs true true e f more = simp (e, f) (ap (λ ys. x ∷ ys) more)
both_tests p q x xs true false e f more = simp (e, f) more
both_tests p q x xs false c e f more = simp e more

filter_both : {A : Type 0} (p q : A → Bool) (xs : List A) → filter (λ x. p x && q x) xs ≡ filter q (filter p xs)
filter_both p q [] = refl
filter_both p q (x ∷ xs) = both_tests p q x xs (p x) (q x) refl refl (filter_both p q xs)

-- the words of `$?` that a line with `::` has
pub among_newer : (graph : Graph) (marks : List Bool) (n : ℕ) (names words : List (List ℕ)) → words ≡ newer_among graph marks n names →
    AreNewer graph marks n (hard_among graph n names) words
among_newer graph marks n names words is =
    subst (AreNewer graph marks n (hard_among graph n names))
    (sym (is
    ∙ ap (map (λ p. name_at graph.names p.0))
    (filter_both (λ p. has_name names (name_at graph.names p.0)) (is_newer_word graph marks n) (hard_marked graph n))))
    (newer_by graph marks n (hard_among graph n names))

-- what a line has of its own, and what it hasn't
pub own_value : {A : Type 0} (own whole : A) (profile : Profile) (l : RuleLine) → is_part profile l ≡ true → cond (is_part profile l) own whole ≡ own
own_value own whole profile l part = ap (λ b. cond b own whole) part

pub whole_value : {A : Type 0} (own whole : A) (profile : Profile) (l : RuleLine) → is_part profile l ≡ false → cond (is_part profile l) own whole ≡ whole
whole_value own whole profile l alone = ap (λ b. cond b own whole) alone

part_wide : (wide double : Bool) → (wide && double) ≡ true → wide ≡ true
part_wide true double e = refl
part_wide false double e = cc

-- it is in the wide profile
pub own_in_wide : {A : Type 0} (own whole : A) (profile : Profile) (l : RuleLine) → is_part profile l ≡ true →
    Some own ≡ in_wide profile (cond (is_part profile l) own whole)
own_in_wide own whole profile l part =
    ap Some (sym (own_value own whole profile l part))
    ∙ sym (ap (λ b. cond b (Some (cond (is_part profile l) own whole)) None) (part_wide (is_wide profile) l.is_double part))
