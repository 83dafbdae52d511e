-- Names that are mentioned word by word, and line by line.
use Rattle.std.proofs.Common.{◌≡◌, ℕ, false, List, [], ◌∷◌, ◌++◌, Option, Some, None, refl, sym, ap, ◌∙◌}
use Rattle.std.specs.Prelude.{slice_get}
use Rattle.std.specs.List.{flat_map}
use Rattle.std.specs.Option.{option_map_or}
use Rattle.mk_profile.specs.declared.profile.Profile.{Profile}
use Rattle.mk_names.specs.Names.{all_added}
use Rattle.mk_names.proofs.NameLemmas.{all_added-append}
use Rattle.mk_rule_lines.specs.Explicit.{is_bar, is_wait, before_bar, without_waits, names_in}
use Rattle.mk_rule_lines.specs.declared.rule_line.RuleLine.{RuleLine}
use Rattle.mk_rule_lines.proofs.ExplicitLemmas.{names_at}

-- the prerequisites among the words that are left of a line
abbrev pub left_in : Profile → (words : List (List ℕ)) → List (List ℕ)
left_in profile words = without_waits (before_bar profile words)

pub word_taken : (profile : Profile) (word : List ℕ) (left : List (List ℕ)) → is_bar profile word ≡ false → is_wait word ≡ false → left_in profile (word ∷ left) ≡ word ∷ left_in profile left
word_taken profile word left no_bar no_wait = simp (no_bar, no_wait) refl

-- the prerequisites of a line are mentioned
pub mentioned_line : (before after whole : List (List ℕ)) (lines : List RuleLine) (k : ℕ) (l : RuleLine) (more : List ℕ) → slice_get lines k ≡ Some l →
    after ≡ all_added before (names_in l) → all_added before (flat_map (names_at names_in lines) (k ∷ more)) ≡ whole →
    all_added after (flat_map (names_at names_in lines) more) ≡ whole
mentioned_line before after whole lines k l more read adds so =
    let rest = flat_map (names_at names_in lines) more in
    let here : names_at names_in lines k ≡ names_in l = ap (λ (o : Option RuleLine). option_map_or names_in o []) read in
    ap (λ ns. all_added ns rest) adds ∙ sym (all_added-append before (names_in l) rest)
    ∙ ap (λ ns. all_added before (ns ++ rest)) (sym here) ∙ so

-- a number past the lines
pub mentioned_none : (before whole : List (List ℕ)) (lines : List RuleLine) (k : ℕ) (more : List ℕ) → slice_get lines k ≡ None →
    all_added before (flat_map (names_at names_in lines) (k ∷ more)) ≡ whole → all_added before (flat_map (names_at names_in lines) more) ≡ whole
mentioned_none before whole lines k more read so =
    let here : names_at names_in lines k ≡ [] = ap (λ (o : Option RuleLine). option_map_or names_in o []) read in
    ap (λ ns. all_added before (ns ++ flat_map (names_at names_in lines) more)) (sym here) ∙ so
