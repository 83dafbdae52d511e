-- The forms of lines, one line at a time.
use Rattle.std.proofs.Common.{◌≡◌, ℕ, ◌+◌, false, List, [], ◌∷◌, ◌++◌, append-nil, drop, refl, sym, ap, ◌∙◌}
use Rattle.std.proofs.lemmas.List.{append_assoc}
use Rattle.mk_makefile.specs.Forms.{forms_of_line, pattern_forms}
use Rattle.mk_rule_lines.specs.Rules.{is_pattern_rule}
use Rattle.mk_makefile.specs.declared.form.Form.{Form}
use Rattle.mk_rule_lines.specs.declared.rule_line.RuleLine.{RuleLine}

-- once the form of line k is added, what is left to add are the forms of the lines behind it
pub pattern_forms-next : (before after whole : List Form) (k : ℕ) (l : RuleLine) (lines : List RuleLine) → after ≡ before ++ forms_of_line k l →
    drop k lines ≡ l ∷ drop (k + 1) lines → before ++ pattern_forms k (drop k lines) ≡ whole → after ++ pattern_forms (k + 1) (drop (k + 1) lines) ≡ whole
pattern_forms-next before after whole k l lines adds at so =
    let left : List RuleLine = drop (k + 1) lines in
    let apart : (before ++ forms_of_line k l) ++ pattern_forms (k + 1) left ≡ before ++ (forms_of_line k l ++ pattern_forms (k + 1) left) = append_assoc before (forms_of_line k l) (pattern_forms (k + 1) left) in
    ap (λ fs. fs ++ pattern_forms (k + 1) left) adds ∙ apart ∙ ap (λ (ls : List RuleLine). before ++ pattern_forms k ls) (sym at) ∙ so

-- a line that is no pattern rule adds none
pub no_forms : (forms : List Form) (k : ℕ) (l : RuleLine) → is_pattern_rule l ≡ false → forms ≡ forms ++ forms_of_line k l
no_forms forms k l e =
    let none : forms_of_line k l ≡ [] = simp e refl in
    sym (ap (λ (fs : List Form). forms ++ fs) none ∙ append-nil forms)
