-- The texts of a logical line, from those of its physical ones.
use Rattle.std.proofs.Common.{◌≡◌, ℕ, zero, suc, ◌+◌, ◌-◌, ◌/◌, min, Bool, true, false, cond, List, [], ◌∷◌, ◌++◌, length, take, flat_map, refl, sym, ap, ◌∙◌, inl, append_assoc, append-nil, add-one, Option, Some}
use Rattle.byte_strings.specs.Blanks.{trimmed_end}
use Rattle.std.specs.List.{suffix_len}
use Rattle.mk_lines.specs.Text.{is_backslash, without_last}
use Rattle.mk_lines.specs.Lines.{Physical, goes_on, body, joint, lines_left, groups, rest_of_group, after_group, number_after}
use Rattle.mk_lines.proofs.LinesLemmas.{groups-cons, group_ends}
use Rattle.mk_statements.specs.Logical.{kept, before_newline, with_line, joined_behind, joined, IsNext}
use Rattle.mk_statements.specs.declared.logical.LogicalText.{LogicalText}

take_again : (n : ℕ) (xs : List ℕ) → take (length (take n xs)) xs ≡ take n xs
take_again zero xs = refl
take_again (suc n) [] = refl
take_again (suc n) (x ∷ xs) = ap (λ t. x ∷ t) (take_again n xs)

pub trimmed_again : (xs : List ℕ) → take (length (trimmed_end xs)) xs ≡ trimmed_end xs
unfolding trimmed_end
trimmed_again xs = take_again _ xs

pub line_added : (old : List ℕ) (n : ℕ) (rest : List ℕ) → n ≡ length (trimmed_end old) → (take n old ++ 32 ∷ []) ++ rest ≡ trimmed_end old ++ 32 ∷ rest
line_added old n rest e =
    append_assoc (take n old) (32 ∷ []) rest ∙ ap (λ k. take k old ++ 32 ∷ rest) e ∙ ap (λ xs. xs ++ 32 ∷ rest) (trimmed_again old)

rest_more : (p q : Physical) (ps qs : List Physical) → goes_on p ≡ true → ps ≡ q ∷ qs → rest_of_group p ps ≡ q ∷ rest_of_group q qs
rest_more p q ps qs e at = ap (rest_of_group p) at ∙ ap (λ b. cond b (q ∷ rest_of_group q qs) []) e

pub kept_more : (p q : Physical) (ps qs : List Physical) (old new : List ℕ) → goes_on p ≡ true → ps ≡ q ∷ qs → new ≡ old ++ joint true q →
    new ++ flat_map (joint true) (rest_of_group q qs) ≡ old ++ flat_map (joint true) (rest_of_group p ps)
kept_more p q ps qs old new e at more =
    ap (λ xs. xs ++ flat_map (joint true) (rest_of_group q qs)) more
    ∙ append_assoc old (joint true q) (flat_map (joint true) (rest_of_group q qs))
    ∙ ap (λ (ls : List Physical). old ++ flat_map (joint true) ls) (sym (rest_more p q ps qs e at))

pub joined_more : (p q : Physical) (ps qs : List Physical) (old new : List ℕ) → goes_on p ≡ true → ps ≡ q ∷ qs → new ≡ with_line old q →
    joined_behind new (rest_of_group q qs) ≡ joined_behind old (rest_of_group p ps)
joined_more p q ps qs old new e at more =
    ap (λ xs. joined_behind xs (rest_of_group q qs)) more ∙ ap (λ (ls : List Physical). joined_behind old ls) (sym (rest_more p q ps qs e at))

pub is_next : (number : ℕ) (bytes : List ℕ) (text : LogicalText) (next : ℕ) (left after : Option (List ℕ)) (p : Physical) →
    lines_left (Some bytes) ≡ p ∷ lines_left left → lines_left after ≡ after_group p (lines_left left) →
    text.kept ≡ body p ++ flat_map (joint true) (rest_of_group p (lines_left left)) → text.joined ≡ joined_behind (before_newline p) (rest_of_group p (lines_left left)) →
    next ≡ number_after number (length (rest_of_group p (lines_left left)) + 1) → IsNext number bytes text next after
unfolding kept joined
is_next number bytes text next left after p at behind stands one numbers = record {
  group = p ∷ rest_of_group p (lines_left left);
  front = ap groups at ∙ groups-cons p (lines_left left) ∙ ap (λ ls. (p ∷ rest_of_group p (lines_left left)) ∷ groups ls) (sym behind);
  as_it_stands = stands;
  in_one = one;
  numbers = numbers ∙ ap (number_after number) (add-one (length (rest_of_group p (lines_left left))));
}

one_or_one : (t : Bool) (x y z : List ℕ) → t ≡ false → cond t x z ≡ cond t y z
one_or_one true x y z e = absurd (cc)
one_or_one false x y z e = refl

all_of_it : (p : Physical) → goes_on p ≡ false → body p ≡ before_newline p
unfolding body before_newline
all_of_it p e = one_or_one (goes_on p) (without_last p.text) (take (length p.text - (suffix_len is_backslash p.text - suffix_len is_backslash p.text / 2)) p.text) p.text e

-- a line that doesn't go on is a logical line

pub kept_alone : (p : Physical) (ps : List Physical) (text : List ℕ) → goes_on p ≡ false → text ≡ body p → text ≡ body p ++ flat_map (joint true) (rest_of_group p ps)
kept_alone p ps text ends e =
    e ∙ sym (append-nil (body p)) ∙ ap (λ (ls : List Physical). body p ++ flat_map (joint true) ls) (sym (group_ends p ps (inl ends)).0)

pub joined_alone : (p : Physical) (ps : List Physical) (text : List ℕ) → goes_on p ≡ false → text ≡ body p → text ≡ joined_behind (before_newline p) (rest_of_group p ps)
joined_alone p ps text ends e =
    e ∙ all_of_it p ends ∙ ap (λ (ls : List Physical). joined_behind (before_newline p) ls) (sym (group_ends p ps (inl ends)).0)

pub number_alone : (number next : ℕ) (p : Physical) (ps : List Physical) → goes_on p ≡ false → next ≡ min (number + 1) 18446744073709551615 →
    next ≡ number_after number (length (rest_of_group p ps) + 1)
unfolding number_after
number_alone number next p ps ends e = e ∙ ap (λ (ls : List Physical). number_after number (length ls + 1)) (sym (group_ends p ps (inl ends)).0)
