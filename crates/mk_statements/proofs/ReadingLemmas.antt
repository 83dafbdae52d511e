-- The statements of a text, from its front.
use Rattle.std.proofs.Common.{◌≡◌, ℕ, zero, suc, ◌+◌, ◌≤◌, Bool, true, false, cond, not, ◌&&◌, List, [], ◌∷◌, ◌++◌, length, drop, map, append_assoc, refl, sym, ap, ◌∙◌, arith, codes, Option, Some, None}
use Rattle.std.specs.Str.{bytes_eq}
use Rattle.std.specs.List.{list_any}
use Rattle.std.proofs.lemmas.List.{map-append}
use Rattle.mk_lines.specs.Text.{is_nul, begins_with}
use Rattle.mk_lines.specs.Lines.{lines_left, groups, number_after}
use Rattle.mk_conditionals.specs.Cut.{front_word, behind_word}
use Rattle.mk_conditionals.specs.Define.{ends, told_by, body_line}
use Rattle.mk_conditionals.specs.Define as bodies
use Rattle.mk_conditionals.specs.declared.define.BodyLine.{BodyLine}
use Rattle.mk_conditionals.specs.declared.define.BodyLine.TheVariants.{Inside, Ends}
use Rattle.mk_assignments.specs.Line as variables
use Rattle.mk_statements.specs.Logical.{joined, IsNext}
use Rattle.mk_statements.specs.Told.{Told, nothing, conditional, variable, define, includes, searches, loads, expands, refused, told_of, kind_of, or_rule, behind_tab}
use Rattle.mk_statements.specs.Reading.{plain, tab, Stated, stated_at, uncommented, rule_of, meaning, is_begun, begins_define, defined, Place, outside, within, in_body, at_line, reading, statements_left, meaning_of, stated, IsBegun}
use Rattle.mk_statements.specs.declared.said.Fault.TheVariants.{HasNul, MissingEndef}
use Rattle.mk_statements.specs.declared.said.Kind.{Kind}
use Rattle.mk_statements.specs.declared.said.Kind.TheVariants.{Says, Begins, Rule}
use Rattle.mk_statements.specs.declared.content.Content.{Content}
use Rattle.mk_statements.specs.declared.content.Content.TheVariants as content
use Rattle.mk_statements.specs.declared.content.Line.{Line}
use Rattle.mk_statements.specs.declared.content.Begun.TheVariants.{Whole, Opens}
use Rattle.mk_statements.specs.declared.logical.LogicalText.{LogicalText}

-- What a line means, case by case

says_some : (told : Option Told) (one other : Told) → kind_of told ≡ Says → or_rule told one ≡ or_rule told other
says_some None one other e = absurd (cc)
says_some (Some told) one other e = refl

rule_none : (told : Option Told) → kind_of told ≡ Rule → told ≡ None
rule_none None e = refl
rule_none (Some (variable (variables.begins modifiers line))) e = absurd (cc)
rule_none (Some (variable (variables.defines modifiers d))) e = absurd (cc)
rule_none (Some (variable (variables.undefines modifiers name))) e = absurd (cc)
rule_none (Some (variable (variables.exports names))) e = absurd (cc)
rule_none (Some (variable (variables.unexports names))) e = absurd (cc)
rule_none (Some nothing) e = absurd (cc)
rule_none (Some (conditional said)) e = absurd (cc)
rule_none (Some (define modifiers line body text_behind)) e = absurd (cc)
rule_none (Some (includes required names)) e = absurd (cc)
rule_none (Some (searches text)) e = absurd (cc)
rule_none (Some (loads required names)) e = absurd (cc)
rule_none (Some (expands text recipe)) e = absurd (cc)
rule_none (Some (refused fault)) e = absurd (cc)

module _ (kept joined : List ℕ) where
  told : Option Told
  told = told_of (uncommented joined)

  means : (nul tabbed : Bool) → list_any is_nul kept ≡ nul → begins_with 9 kept ≡ tabbed →
      meaning kept joined ≡ cond nul (plain (refused HasNul)) (cond tabbed (tab (drop 1 kept) (behind_tab (kind_of told) told)) (plain (or_rule told (rule_of kept joined))))
  unfolding meaning told
  means nul tabbed e f =
      ap (λ t. cond t (plain (refused HasNul)) (cond (begins_with 9 kept) (tab (drop 1 kept) (behind_tab (kind_of told) told)) (plain (or_rule told (rule_of kept joined))))) e
      ∙ ap (λ t. cond nul (plain (refused HasNul)) (cond t (tab (drop 1 kept) (behind_tab (kind_of told) told)) (plain (or_rule told (rule_of kept joined))))) f

  opens : (nul tabbed : Bool) (kind : Kind) → list_any is_nul kept ≡ nul → begins_with 9 kept ≡ tabbed → kind_of told ≡ kind →
      begins_define kept joined ≡ (not nul && (not tabbed && is_begun kind))
  unfolding begins_define told
  opens nul tabbed kind e f g =
      ap (λ t. not t && (not (begins_with 9 kept) && is_begun (kind_of told))) e
      ∙ ap (λ t. not nul && (not t && is_begun (kind_of told))) f
      ∙ ap (λ k. not nul && (not tabbed && is_begun k)) g

  pub with_nul : list_any is_nul kept ≡ true → IsBegun kept joined (Whole (content.Refused HasNul))
  with_nul e = (opens true (begins_with 9 kept) (kind_of told) e refl refl, sym (means true (begins_with 9 kept) e refl))

  pub with_tab : (text : List ℕ) → list_any is_nul kept ≡ false → begins_with 9 kept ≡ true → text ≡ uncommented joined → IsBegun kept joined (Whole (content.Tab kept text))
  unfolding told
  with_tab text e f same = (
    opens false true (kind_of told) e f refl,
    ap (λ t. tab (drop 1 kept) (behind_tab (kind_of (told_of t)) (told_of t))) same ∙ sym (means false true e f),
  )

  module _ (no_nul : list_any is_nul kept ≡ false) (no_tab : begins_with 9 kept ≡ false) where
    pub with_text : (text : List ℕ) → kind_of (told_of text) ≡ Says → text ≡ uncommented joined → IsBegun kept joined (Whole (content.Text text))
    unfolding told
    with_text text says same =
        let is : kind_of (told_of (uncommented joined)) ≡ Says = ap (λ t. kind_of (told_of t)) (sym same) ∙ says in (
          opens false false Says no_nul no_tab is,
          ap (λ t. plain (or_rule (told_of t) nothing)) same
              ∙ ap plain (says_some (told_of (uncommented joined)) nothing (rule_of kept joined) is) ∙ sym (means false false no_nul no_tab),
        )

    pub with_define : (text : List ℕ) → kind_of (told_of text) ≡ Begins → text ≡ uncommented joined → IsBegun kept joined (Opens text)
    unfolding told
    with_define text begins same =
        let is : kind_of (told_of (uncommented joined)) ≡ Begins = ap (λ t. kind_of (told_of t)) (sym same) ∙ begins in
        (opens false false Begins no_nul no_tab is, same)

    pub with_rule : (text : List ℕ) (what : Content) → kind_of (told_of text) ≡ Rule → text ≡ uncommented joined → meaning_of what ≡ plain (rule_of kept joined) →
        IsBegun kept joined (Whole what)
    unfolding told
    with_rule text what rule same means_rule =
        let is : kind_of (told_of (uncommented joined)) ≡ Rule = ap (λ t. kind_of (told_of t)) (sym same) ∙ rule in (
          opens false false Rule no_nul no_tab is,
          means_rule ∙ ap (λ t. plain (or_rule t (rule_of kept joined))) (sym (rule_none (told_of (uncommented joined)) is)) ∙ sym (means false false no_nul no_tab),
        )

-- Lines one by one

module _ (number : ℕ) (bytes : List ℕ) (text : LogicalText) (next : ℕ) (after : Option (List ℕ)) (is : IsNext number bytes text next after) where
  -- the statements behind the first logical line
  further : Place → List Stated
  further p = reading p (number_after number (length is.group)) (groups (lines_left after))

  further_is : (p : Place) → further p ≡ statements_left p next after
  unfolding statements_left further
  further_is p = ap (λ n. reading p n (groups (lines_left after))) (sym is.numbers)

  outside_is : statements_left outside number (Some bytes) ≡ at_line number text.kept text.joined further
  unfolding statements_left further
  outside_is =
      ap (reading outside number) is.front
      ∙ ap (λ k. at_line number k (joined is.group) further) (sym is.as_it_stands)
      ∙ ap (λ j. at_line number text.kept j further) (sym is.in_one)

  pub whole : (what : Content) → IsBegun text.kept text.joined (Whole what) →
      statements_left outside number (Some bytes) ≡ stated_at number (meaning_of what) ∷ statements_left outside next after
  whole what begun =
      outside_is
      ∙ ap (λ t. cond t (further (within number (uncommented text.joined) 0 [])) (stated_at number (meaning text.kept text.joined) ∷ further outside)) begun.0
      ∙ ap (λ m. stated_at number m ∷ further outside) (sym begun.1)
      ∙ ap (λ (ls : List Stated). stated_at number (meaning_of what) ∷ ls) (further_is outside)

  pub opened : (line : List ℕ) → IsBegun text.kept text.joined (Opens line) →
      statements_left outside number (Some bytes) ≡ statements_left (within number line 0 []) next after
  opened line begun =
      outside_is
      ∙ ap (λ t. cond t (further (within number (uncommented text.joined) 0 [])) (stated_at number (meaning text.kept text.joined) ∷ further outside)) begun.0
      ∙ ap (λ l. further (within number l 0 [])) (sym begun.1)
      ∙ further_is (within number line 0 [])

  within_is : (line : ℕ) (opening lines : List ℕ) (depth : ℕ) (what : BodyLine) → what ≡ body_line depth text.joined →
      statements_left (within line opening depth lines) number (Some bytes) ≡ in_body line opening lines what text.joined further
  unfolding statements_left further
  within_is line opening lines depth what e =
      ap (reading (within line opening depth lines) number) is.front
      ∙ ap (λ j. in_body line opening lines (body_line depth j) j further) (sym is.in_one)
      ∙ ap (λ b. in_body line opening lines b text.joined further) (sym e)

  pub body_more : (line : ℕ) (opening lines new : List ℕ) (depth now : ℕ) → Inside now ≡ body_line depth text.joined → new ≡ lines ++ text.joined ++ 10 ∷ [] →
      statements_left (within line opening depth lines) number (Some bytes) ≡ statements_left (within line opening now new) next after
  body_more line opening lines new depth now e more =
      within_is line opening lines depth (Inside now) e
      ∙ ap (λ ls. further (within line opening now ls)) (sym more)
      ∙ further_is (within line opening now new)

  pub body_ends : (line : ℕ) (opening lines : List ℕ) (depth : ℕ) (text_behind : Bool) → Ends text_behind ≡ body_line depth text.joined →
      statements_left (within line opening depth lines) number (Some bytes) ≡ stated_at line (plain (defined opening lines text_behind)) ∷ statements_left outside next after
  body_ends line opening lines depth text_behind e =
      within_is line opening lines depth (Ends text_behind) e
      ∙ ap (λ (ls : List Stated). stated_at line (plain (defined opening lines text_behind)) ∷ ls) (further_is outside)

-- at the end of the text
pub none_left : (number : ℕ) → statements_left outside number None ≡ []
unfolding statements_left lines_left
none_left number = refl

pub body_none : (line : ℕ) (opening lines : List ℕ) (depth number : ℕ) →
    statements_left (within line opening depth lines) number None ≡ stated_at line (plain (refused MissingEndef)) ∷ statements_left outside number None
unfolding statements_left lines_left
body_none line opening lines depth number = refl

-- one more of them
pub stated_more : (old new : List Line) (line : Line) (left after : List Stated) → new ≡ old ++ line ∷ [] → left ≡ stated line ∷ after →
    map stated new ++ after ≡ map stated old ++ left
stated_more old new line left after more here =
    ap (λ ls. map stated ls ++ after) more
    ∙ ap (λ (ls : List Stated). ls ++ after) (map-append stated old (line ∷ []))
    ∙ append_assoc (map stated old) (stated line ∷ []) after
    ∙ ap (λ (ls : List Stated). map stated old ++ ls) (sym here)

-- How many inner ones are open

deeper_by : (tabbed defined_there other : Bool) (depth now : ℕ) (rest : List ℕ) →
    Inside now ≡ cond tabbed (Inside depth) (cond defined_there (Inside (depth + 1)) (cond other (Inside depth) (ends depth rest))) → now ≤ depth + 1
deeper_by true another other depth now rest e = let same : now ≡ depth = cc in omega (arith, same)
deeper_by false true other depth now rest e = let same : now ≡ depth + 1 = cc in omega (arith, same)
deeper_by false false true depth now rest e = let same : now ≡ depth = cc in omega (arith, same)
deeper_by false false false zero now rest e = absurd (cc)
deeper_by false false false (suc depth) now rest e = let same : now ≡ depth = cc in omega (arith, same)

pub deeper : (depth now : ℕ) (line : List ℕ) → Inside now ≡ body_line depth line → now ≤ depth + 1
unfolding body_line
deeper depth now line e =
    deeper_by (bodies.begins_with 9 line) (bytes_eq (front_word line) (codes "define")) (not (bytes_eq (front_word line) (codes "endef"))) depth now (behind_word line) e
