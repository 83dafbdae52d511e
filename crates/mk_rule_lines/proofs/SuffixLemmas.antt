-- The suffixes of all lines are those of the last list.
use Rattle.std.specs.Bool.{Decides}
use Rattle.std.specs.List.{All}
use Rattle.std.proofs.Common.{◌≡◌, ◌∙◌, ℕ, Bool, false, cond, ◌&&◌, List, [], ◌∷◌, ◌++◌, Option, Some, None, inl, inr, refl, sym, ap, subst}
use Rattle.std.proofs.lemmas.Bool.{both_ways, false_from_ne_true}
use Rattle.std.proofs.lemmas.Bool.Decides.{Decides-and}
use Rattle.std.proofs.lemmas.List.{append-nil, append_assoc}
use Rattle.std.proofs.lemmas.List.Elements.{All-nil, All-cons, All-head, All-tail}
use Rattle.mk_macros.proofs.SpelledLemmas.{either}
use Rattle.mk_lines.specs.Text.{is_empty}
use Rattle.mk_reader.specs.declared.special.SpecialName.{SpecialName}
use Rattle.mk_reader.specs.declared.special.SpecialName.TheVariants.{Suffixes}
use Rattle.mk_rule_lines.specs.Rules.{has, added, with_names, is_suffix_list, suffixes_after, suffixes_of}
use Rattle.mk_rule_lines.specs.Suffixes.{IsSuffixList, Clears, EndCleared, AreListed, no_lines, a_list, no_list, AreFirst, no_names, new, known, AreSuffixes}
use Rattle.mk_rule_lines.specs.declared.rule_line.RuleLine.{RuleLine}
use Rattle.mk_rule_lines.proofs.KindLemmas.{has_decides, empty_decides}

-- ---- one line

list_at : (o : Option SpecialName) → Decides (is_suffix_list o) (o ≡ Some Suffixes)
list_at None = ((λ e. absurd cc), λ e. absurd cc)
list_at (Some Suffixes) = ((λ e. refl), λ e. refl)
list_at (Some other) = ((λ e. absurd cc), λ e. absurd cc)

list_decides : (l : RuleLine) → Decides (is_suffix_list l.special) (IsSuffixList l)
list_decides l = list_at l.special

clears_decides : (l : RuleLine) → Decides (is_suffix_list l.special && is_empty l.prerequisites) (Clears l)
clears_decides l = Decides-and (is_suffix_list l.special) (is_empty l.prerequisites) (list_decides l) (empty_decides l.prerequisites)

abbrev behind : (suffixes : List (List ℕ)) → RuleLine → List (List ℕ)
behind suffixes l = cond (is_suffix_list l.special) (with_names suffixes l.prerequisites) suffixes

with_some : (suffixes names : List (List ℕ)) → (names ≡ [] → ⊥) → with_names suffixes names ≡ added suffixes names
with_some suffixes [] some = absurd (some refl)
with_some suffixes (name ∷ names) some = refl

module _ (suffixes : List (List ℕ)) (l : RuleLine) where
  behind_list : IsSuffixList l → behind suffixes l ≡ with_names suffixes l.prerequisites
  behind_list is = ap (λ (b : Bool). cond b (with_names suffixes l.prerequisites) suffixes) ((list_decides l).1 is)

  behind_other : (IsSuffixList l → ⊥) → behind suffixes l ≡ suffixes
  behind_other other =
      ap (λ (b : Bool). cond b (with_names suffixes l.prerequisites) suffixes)
      (false_from_ne_true (is_suffix_list l.special) (λ e. other ((list_decides l).0 e)))

-- ---- several lines

after-append : (suffixes : List (List ℕ)) (above below : List RuleLine) →
    suffixes_after suffixes (above ++ below) ≡ suffixes_after (suffixes_after suffixes above) below
after-append suffixes [] below = refl
after-append suffixes (l ∷ above) below = after-append (behind suffixes l) above below

added-append : (suffixes names more : List (List ℕ)) → added suffixes (names ++ more) ≡ added (added suffixes names) more
added-append suffixes [] more = refl
added-append suffixes (name ∷ names) more = added-append (cond (has name suffixes) suffixes (suffixes ++ name ∷ [])) names more

listed_after : (suffixes : List (List ℕ)) (lines : List RuleLine) (names : List (List ℕ)) → All (λ l. Clears l → ⊥) lines → AreListed lines names →
    suffixes_after suffixes lines ≡ added suffixes names
listed_after suffixes [] names all no_lines = refl
listed_after suffixes (l ∷ lines) names all (a_list {names = more} is listed) =
    let none = All-head (λ (l : RuleLine). Clears l → ⊥) l lines all in
    let step : behind suffixes l ≡ added suffixes l.prerequisites = behind_list suffixes l is ∙ with_some suffixes l.prerequisites (λ e. none (is, e)) in
    ap (λ (start : List (List ℕ)). suffixes_after start lines) step
    ∙ listed_after (added suffixes l.prerequisites) lines more (All-tail (λ (l : RuleLine). Clears l → ⊥) l lines all) listed
    ∙ sym (added-append suffixes l.prerequisites more)
listed_after suffixes (l ∷ lines) names all (no_list other listed) =
    ap (λ (start : List (List ℕ)). suffixes_after start lines) (behind_other suffixes l other)
    ∙ listed_after suffixes lines names (All-tail (λ (l : RuleLine). Clears l → ⊥) l lines all) listed

cleared_after : (lines : List RuleLine) → EndCleared lines → suffixes_after [] lines ≡ []
cleared_after lines (inl none) = ap (suffixes_after []) none
cleared_after lines (inr (above, l, is, clears)) =
    let front : List (List ℕ) = suffixes_after [] above in
    ap (suffixes_after []) is ∙ after-append [] above (l ∷ []) ∙ behind_list front l clears.0 ∙ ap (with_names front) clears.1

first_added : (before names found : List (List ℕ)) → AreFirst before names found → added before names ≡ before ++ found
first_added before [] found no_names = sym (append-nil before)
first_added before (name ∷ names) found (new {found = more} other first) =
    let step : has name before ≡ false = false_from_ne_true (has name before) (λ e. other ((has_decides name before).0 e)) in
    ap (λ (b : Bool). added (cond b before (before ++ name ∷ [])) names) step ∙ first_added (before ++ name ∷ []) names more first
    ∙ append_assoc before (name ∷ []) more
first_added before (name ∷ names) found (known is first) =
    ap (λ (b : Bool). added (cond b before (before ++ name ∷ [])) names) ((has_decides name before).1 is) ∙ first_added before names found first

pub suffixes_told : (lines : List RuleLine) (suffixes : List (List ℕ)) → AreSuffixes lines suffixes → suffixes_of lines ≡ suffixes
suffixes_told lines suffixes are =
    ap (suffixes_after []) are.whole ∙ after-append [] are.above are.below
    ∙ ap (λ (start : List (List ℕ)). suffixes_after start are.below) (cleared_after are.above are.cleared)
    ∙ listed_after [] are.below are.names are.not_cleared are.listed ∙ first_added [] are.names suffixes are.first

-- ---- there are such lists

some_first : (before names : List (List ℕ)) → (found : List (List ℕ)) × AreFirst before names found
some_first before [] = ([], no_names)
some_first before (name ∷ names) =
    either ((found : List (List ℕ)) × AreFirst before (name ∷ names) found) (has name before)
    (λ e. let (found, first) = some_first before names in (found, known ((has_decides name before).0 e) first))
    (λ e. let (found, first) = some_first (before ++ name ∷ []) names in
    (name ∷ found, new (λ is. both_ways (has name before) e ((has_decides name before).1 is)) first))

some_listed : (lines : List RuleLine) → (names : List (List ℕ)) × AreListed lines names
some_listed [] = ([], no_lines)
some_listed (l ∷ lines) =
    let (names, listed) = some_listed lines in
    either ((names : List (List ℕ)) × AreListed (l ∷ lines) names) (is_suffix_list l.special)
    (λ e. (l.prerequisites ++ names, a_list ((list_decides l).0 e) listed))
    (λ e. (names, no_list (λ is. both_ways (is_suffix_list l.special) e ((list_decides l).1 is)) listed))

abbrev Parted : List RuleLine → Type 0
Parted lines =
    (above : List RuleLine) × (below : List RuleLine) × (lines ≡ above ++ below) × EndCleared above × All (λ (l : RuleLine). Clears l → ⊥) below

parted_at : (l : RuleLine) (lines above below : List RuleLine) → lines ≡ above ++ below → EndCleared above → All (λ (l : RuleLine). Clears l → ⊥) below → Parted (l ∷ lines)
parted_at l lines above below whole (inr (front, c, is, clears)) all =
    (l ∷ above, below, ap (λ ls. l ∷ ls) whole, inr (l ∷ front, c, ap (λ ls. l ∷ ls) is, clears), all)
parted_at l lines above below whole (inl none) all =
    let same : below ≡ lines = sym (whole ∙ ap (λ ls. ls ++ below) none) in
    let rest : All (λ (l : RuleLine). Clears l → ⊥) lines = subst (λ (ls : List RuleLine). All (λ (l : RuleLine). Clears l → ⊥) ls) same all in
    either (Parted (l ∷ lines)) (is_suffix_list l.special && is_empty l.prerequisites)
    (λ e. (l ∷ [], lines, refl, inr ([], l, refl, (clears_decides l).0 e), rest))
    (λ e. (
      [],
      l ∷ lines,
      refl,
      inl refl,
      All-cons (λ (l : RuleLine). Clears l → ⊥) l lines
          (λ is. both_ways (is_suffix_list l.special && is_empty l.prerequisites) e ((clears_decides l).1 is)) rest,
    ))

parted : (lines : List RuleLine) → Parted lines
parted [] = ([], [], refl, inl refl, All-nil (λ (l : RuleLine). Clears l → ⊥))
parted (l ∷ lines) = let (above, below, whole, cleared, all) = parted lines in parted_at l lines above below whole cleared all

pub some_suffixes : (lines : List RuleLine) → (suffixes : List (List ℕ)) × AreSuffixes lines suffixes
some_suffixes lines =
    let (above, below, whole, cleared, all) = parted lines in
    let (names, listed) = some_listed below in
    let (found, first) = some_first [] names in
    (found, record { above = above; below = below; whole = whole; cleared = cleared; not_cleared = all; names = names; listed = listed; first = first })

-- the suffixes that are computed are those of the last list
pub suffixes_are : (lines : List RuleLine) (suffixes : List (List ℕ)) → suffixes_of lines ≡ suffixes → AreSuffixes lines suffixes
suffixes_are lines suffixes e =
    let (found, are) = some_suffixes lines in subst (AreSuffixes lines) (sym (suffixes_told lines found are) ∙ e) are
