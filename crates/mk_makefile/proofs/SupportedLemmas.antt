-- What the tests by which a line is refused mean.
use Rattle.std.specs.Prelude.{codes, is_none, Option, Some, None}
use Rattle.std.specs.Bool.{Decides}
use Rattle.std.specs.List.{All, Any, list_all, list_any, count_by}
use Rattle.std.proofs.Common.{arith, ◌≡◌, ◌⊎◌, ◌∙◌, ℕ, ◌+◌, Bool, true, false, not, cond, ◌&&◌, ◌||◌, ◌==◌, List, [], ◌∷◌, ◌++◌, length, inl, inr, refl, sym, ap, subst, bytes_eq}
use Rattle.std.proofs.lemmas.Bool.{both_ways, not-true, not_from_false, false_from_ne_true, and_parts, and_from, or_parts, or_from, or_left, or_cases, eqb-true, eq-eqb}
use Rattle.std.proofs.lemmas.Bool.Decides.{Decides-and, Decides-or, Decides-not, Decides-eqb, Decides-like}
use Rattle.std.proofs.lemmas.List.Sums.{sum_by-cons, sum_by-append}
use Rattle.std.proofs.lemmas.List.Elements.{All-nil, All-cons}
use Rattle.std.proofs.lemmas.Slice.Eq.{bytes_eq-Decides}
use Rattle.mk_macros.specs.Spelled.{Lacks}
use Rattle.mk_profile.specs.declared.profile.Profile.{Profile}
use Rattle.mk_profile.specs.declared.profile.Profile.TheVariants.{Strict, Posix}
use Rattle.mk_macros.specs.Words.{is_byte}
use Rattle.mk_lines.specs.Text.{is_empty, begins_with}
use Rattle.mk_makefile.specs.Doubles.{IsImplicitTarget}
use Rattle.mk_rule_lines.specs.Kinds.{IsRule, IsPattern, IsOnePattern, HasSlash, BeginsWithPattern, MayBeMade, MayMake, IsWholeDefault, IsWholePatternRule}
use Rattle.mk_rule_lines.specs.Rules.{has, is_percent, has_percent, is_rule, is_pattern_rule, is_default_rule, lacks_single}
use Rattle.mk_makefile.specs.Supported.{HasBracket, IsRefused, IsSupported}
use Rattle.mk_makefile.specs.Tests.{is_pattern, is_one_pattern, begins_with_pattern, is_bare, may_be_made, may_make, is_whole_pattern_rule, is_alone, is_whole_default, has_bracket, is_implicit_target, is_refused}
use Rattle.mk_rule_lines.specs.Patterns.{has_slash}
use Rattle.mk_rule_lines.specs.declared.fault.Unsupported.{Unsupported}
use Rattle.mk_rule_lines.specs.declared.fault.Unsupported.TheVariants.{TargetGroup, LibraryMember, DoubleColon, PatternRule, DefaultRule}
use Rattle.mk_reader.specs.declared.special.SpecialName.{SpecialName}
use Rattle.mk_rule_lines.specs.declared.rule_line.RuleLine.{RuleLine}
use Rattle.mk_rule_lines.proofs.KindLemmas.{all_decides, any_decides, has_decides, byte_decides, rule_decides, pattern_rule_decides, recipe_decides, single_decides, empty_decides, default_rule_at}

-- ---- one `%`

abbrev count : List ℕ → ℕ
count name = count_by is_percent name

count-cons : (b : ℕ) (bs : List ℕ) → count (b ∷ bs) ≡ cond (b == 37) 1 0 + count bs
count-cons b bs = sum_by-cons (λ x. cond (is_percent x) 1 0) b bs

count-append : (xs ys : List ℕ) → count (xs ++ ys) ≡ count xs + count ys
count-append xs ys = sum_by-append (λ x. cond (is_percent x) 1 0) xs ys

lacks_at : (b : ℕ) (bs : List ℕ) (t : Bool) → (b == 37) ≡ t → (count bs ≡ 0 → Lacks 37 bs) → cond t 1 0 + count bs ≡ 0 → Lacks 37 (b ∷ bs)
lacks_at b bs true e more h = absurd (omega arith)
lacks_at b bs false e more h = or_from (b == 37) (list_any (λ x. x == 37) bs) e (more (omega arith))

-- a name without a `%`
lacks_percent : (name : List ℕ) → count name ≡ 0 → Lacks 37 name
lacks_percent [] h = refl
lacks_percent (b ∷ bs) h = lacks_at b bs (b == 37) refl (lacks_percent bs) (sym (count-cons b bs) ∙ h)

none_counted : (name : List ℕ) → Lacks 37 name → count name ≡ 0
none_counted [] h = refl
none_counted (b ∷ bs) h =
    let parts = or_parts (b == 37) (list_any (λ x. x == 37) bs) h in
    count-cons b bs ∙ ap (λ (t : Bool). cond t 1 0 + count bs) parts.0 ∙ ap (λ n. 0 + n) (none_counted bs parts.1)

abbrev Parts : List ℕ → Type 0
Parts name = (before : List ℕ) × (after : List ℕ) × (name ≡ before ++ 37 ∷ after) × Lacks 37 before × Lacks 37 after

parts_at : (b : ℕ) (bs : List ℕ) (t : Bool) → (b == 37) ≡ t → (count bs ≡ 1 → Parts bs) → cond t 1 0 + count bs ≡ 1 → Parts (b ∷ bs)
parts_at b bs true e more h = ([], bs, ap (λ x. x ∷ bs) ((Decides-eqb b 37).0 e), refl, lacks_percent bs (omega arith))
parts_at b bs false e more h =
    let (before, after, is, lacks, behind) = more (omega arith) in
    (b ∷ before, after, ap (λ xs. b ∷ xs) is, or_from (b == 37) (list_any (λ x. x == 37) before) e lacks, behind)

parts_of : (name : List ℕ) → count name ≡ 1 → Parts name
parts_of [] h = absurd (omega arith)
parts_of (b ∷ bs) h = parts_at b bs (b == 37) refl (parts_of bs) (sym (count-cons b bs) ∙ h)

pattern_is : (before after : List ℕ) → Lacks 37 before → Lacks 37 after → is_pattern (before ++ 37 ∷ after) ≡ true
pattern_is before after front back =
    let whole : count (before ++ 37 ∷ after) ≡ count before + count (37 ∷ after) = count-append before (37 ∷ after) in
    let behind : count (37 ∷ after) ≡ 1 + count after = count-cons 37 after in
    let a : count before ≡ 0 = none_counted before front in
    let b : count after ≡ 0 = none_counted after back in
    eq-eqb (count (before ++ 37 ∷ after)) 1 (omega arith)

-- ---- just one name

one_name : (names : List (List ℕ)) → is_one_pattern names ≡ true → (name : List ℕ) × (names ≡ name ∷ []) × (is_pattern name ≡ true)
one_name [] h = absurd (both_ways false refl h)
one_name (name ∷ []) h =
    let passes = (and_parts (length (name ∷ []) == 1) (list_any is_pattern (name ∷ [])) h).1 in
    (name, refl, elim (or_cases (is_pattern name) false passes) [ inl one ↦ one | inr none ↦ absurd (both_ways false refl none) ])
one_name (name ∷ other ∷ names) h =
    let n : length (name ∷ other ∷ names) ≡ 1 = eqb-true (length (name ∷ other ∷ names)) 1 (and_parts (length (name ∷ other ∷ names) == 1) (list_any is_pattern (name ∷ other ∷ names)) h).0 in
    absurd (omega arith)

one_name_is : (before after : List ℕ) → Lacks 37 before → Lacks 37 after → is_one_pattern ((before ++ 37 ∷ after) ∷ []) ≡ true
one_name_is before after front back =
    and_from (length ((before ++ 37 ∷ after) ∷ []) == 1) (list_any is_pattern ((before ++ 37 ∷ after) ∷ [])) refl
    (or_left (is_pattern (before ++ 37 ∷ after)) false (pattern_is before after front back))

pub one_pattern_decides : (names : List (List ℕ)) → Decides (is_one_pattern names) (IsOnePattern names)
one_pattern_decides names = (
  (λ e.
      let (name, are, t) = one_name names e in
      let (before, after, is, b, a) = parts_of name (eqb-true (count name) 1 t) in
      (before, after, are ∙ ap (λ n. n ∷ []) is, b, a)),
  λ (before, after, is, b, a). ap is_one_pattern is ∙ one_name_is before after b a,
)

-- ---- the targets of a pattern rule

pattern_decides : (name : List ℕ) → Decides (is_pattern name) (IsPattern name)
pattern_decides name = (
  (λ e. parts_of name (eqb-true (count name) 1 e)),
  λ (before, after, is, b, a). ap is_pattern is ∙ pattern_is before after b a,
)

alike_decides : (names : List (List ℕ)) → Decides (list_all has_slash names || not (list_any has_slash names)) (All HasSlash names ⊎ (Any HasSlash names → ⊥))
alike_decides names =
    Decides-or (list_all has_slash names) (not (list_any has_slash names)) (all_decides has_slash HasSlash (byte_decides 47) names)
    (Decides-not (list_any has_slash names) (any_decides has_slash HasSlash (byte_decides 47) names))

made_decides : (profile : Profile) (names : List (List ℕ)) → Decides (may_be_made profile names) (MayBeMade profile names)
made_decides Strict names = one_pattern_decides names
made_decides Posix names =
    Decides-and (list_all is_pattern names) (list_all has_slash names || not (list_any has_slash names))
    (all_decides is_pattern IsPattern pattern_decides names) (alike_decides names)

patterns_in : (profile : Profile) (names : List (List ℕ)) → MayBeMade profile names → All IsPattern names
patterns_in Strict names (before, after, is, b, a) = subst (All IsPattern) (sym is) (All-cons IsPattern (before ++ 37 ∷ after) [] (before, after, refl, b, a) (All-nil IsPattern))
patterns_in Posix names is = is.0

-- ---- the prerequisites of a pattern rule

begins_decides : (names : List (List ℕ)) → Decides (begins_with_pattern names) (BeginsWithPattern names)
begins_decides [] = (λ e. both_ways false refl e, λ none. absurd none)
begins_decides (name ∷ names) = byte_decides 37 name

make_decides : (profile : Profile) (targets names : List (List ℕ)) → Decides (may_make profile targets names) (MayMake profile targets names)
make_decides Strict targets names = one_pattern_decides names
make_decides Posix targets names =
    Decides-and (not (has (codes ".WAIT") names)) (not (is_bare targets) || begins_with_pattern names)
    (Decides-not (has (codes ".WAIT") names) (has_decides (codes ".WAIT") names))
    (Decides-or (not (is_bare targets)) (begins_with_pattern names) (Decides-not (is_bare targets) (has_decides (37 ∷ []) targets)) (begins_decides names))

-- ---- pattern rules

module _ (l : RuleLine) where
  pub whole_rule : IsRule l → is_whole_pattern_rule l ≡ true → IsWholePatternRule l
  whole_rule rule h =
      let parts = and_parts (may_be_made l.profile l.targets) (may_make l.profile l.targets l.prerequisites && not (is_empty l.recipe)) h in
      let more = and_parts (may_make l.profile l.targets l.prerequisites) (not (is_empty l.recipe)) parts.1 in
      record {
        rule = rule;
        targets = (made_decides l.profile l.targets).0 parts.0;
        prerequisites = (make_decides l.profile l.targets l.prerequisites).0 more.0;
        recipe = (recipe_decides l).0 more.1;
      }

  pub whole_rule_is : IsWholePatternRule l → is_whole_pattern_rule l ≡ true
  whole_rule_is is =
      and_from (may_be_made l.profile l.targets) (may_make l.profile l.targets l.prerequisites && not (is_empty l.recipe))
      ((made_decides l.profile l.targets).1 is.targets)
      (and_from (may_make l.profile l.targets l.prerequisites) (not (is_empty l.recipe))
      ((make_decides l.profile l.targets l.prerequisites).1 is.prerequisites) ((recipe_decides l).1 is.recipe))

  -- each of its targets has one `%`
  pub patterns : IsWholePatternRule l → All IsPattern l.targets
  patterns is = patterns_in l.profile l.targets is.targets

-- ---- the line of `.DEFAULT`

alone_first : (name first : List ℕ) → is_alone name (first ∷ []) ≡ true → first ∷ [] ≡ name ∷ []
alone_first name first e =
    let same : (bytes_eq name first || false) ≡ true = (and_parts (length (first ∷ []) == 1) (has name (first ∷ [])) e).1 in
    elim (or_cases (bytes_eq name first) false same) [
      | inl found ↦ ap (λ x. x ∷ []) (sym ((bytes_eq-Decides name first).0 found))
      | inr none ↦ absurd (both_ways false refl none)
    ]

alone_decides : (name : List ℕ) (names : List (List ℕ)) → Decides (is_alone name names) (names ≡ name ∷ [])
alone_decides name [] = ((λ e. absurd (both_ways false refl e)), λ is. absurd cc)
alone_decides name (first ∷ []) = (
  alone_first name first,
  λ is.
      let same : first ≡ name = cc in
      or_left (bytes_eq name first) false ((bytes_eq-Decides name first).1 (sym same)),
)
alone_decides name (first ∷ second ∷ names) = (
  (λ e.
      let n : length (first ∷ second ∷ names) ≡ 1
      = eqb-true (length (first ∷ second ∷ names)) 1 (and_parts (length (first ∷ second ∷ names) == 1) (has name (first ∷ second ∷ names)) e).0 in
      absurd (omega arith)),
  λ is. absurd cc,
)

whole_default_decides : (l : RuleLine) → Decides (is_whole_default l) (IsWholeDefault l)
whole_default_decides l =
    Decides-like (is_whole_default l) (λ h. record { targets = h.0; prerequisites = h.1.0; recipe = h.1.1 }) (λ is. (is.targets, (is.prerequisites, is.recipe)))
    (Decides-and (is_alone (codes ".DEFAULT") l.targets) (is_empty l.prerequisites && not (lacks_single l)) (alone_decides (codes ".DEFAULT") l.targets)
    (Decides-and (is_empty l.prerequisites) (not (lacks_single l)) (empty_decides l.prerequisites) (single_decides l)))

-- ---- refused lines

bracket_decides : (name : List ℕ) → Decides (has_bracket name) (HasBracket name)
bracket_decides name = byte_decides 40 name

implicit_decides : (name : List ℕ) → Decides (is_implicit_target name) (IsImplicitTarget name)
implicit_decides name =
    Decides-or (has_percent name) (begins_with 46 name && not (list_any (is_byte 47) name)) (byte_decides 37 name)
    (Decides-and (begins_with 46 name) (not (list_any (is_byte 47) name)) ((λ e. e), λ e. e)
    ((λ e. not-true (list_any (is_byte 47) name) e), λ e. not_from_false (list_any (is_byte 47) name) e))

pub refused_decides : (what : Unsupported) (l : RuleLine) → Decides (is_refused what l) (IsRefused what l)
refused_decides TargetGroup l = Decides-and (is_rule l) (has (codes "+") l.targets) (rule_decides l) (has_decides (codes "+") l.targets)
refused_decides LibraryMember l =
    Decides-and (is_rule l) (list_any has_bracket l.targets || list_any has_bracket l.prerequisites) (rule_decides l)
    (Decides-or (list_any has_bracket l.targets) (list_any has_bracket l.prerequisites)
    (any_decides has_bracket HasBracket bracket_decides l.targets) (any_decides has_bracket HasBracket bracket_decides l.prerequisites))
refused_decides DoubleColon l =
    Decides-and (is_rule l) (l.is_double && list_any is_implicit_target l.targets) (rule_decides l)
    (Decides-and l.is_double (list_any is_implicit_target l.targets) ((λ e. e), λ e. e)
    (any_decides is_implicit_target IsImplicitTarget implicit_decides l.targets))
refused_decides PatternRule l = (
  (λ e. let parts = and_parts (is_pattern_rule l) (not (is_whole_pattern_rule l)) e in (
    (pattern_rule_decides l).0 parts.0,
    λ is. both_ways (is_whole_pattern_rule l) (not-true (is_whole_pattern_rule l) parts.1) (whole_rule_is l is),
  )),
  λ h. and_from (is_pattern_rule l) (not (is_whole_pattern_rule l)) ((pattern_rule_decides l).1 h.0)
      (not_from_false (is_whole_pattern_rule l) (false_from_ne_true (is_whole_pattern_rule l)
      (λ e. h.1 (whole_rule l h.0.0 e)))),
)
refused_decides DefaultRule l =
    Decides-and (is_default_rule l.special) (not (is_whole_default l)) (default_rule_at l.special) (Decides-not (is_whole_default l) (whole_default_decides l))

pub refused : (what : Unsupported) (l : RuleLine) → true ≡ is_refused what l → IsRefused what l
refused what l e = (refused_decides what l).0 (sym e)

passed : (what : Unsupported) (l : RuleLine) → false ≡ is_refused what l → IsRefused what l → ⊥
passed what l e is = both_ways (is_refused what l) (sym e) ((refused_decides what l).1 is)

pub supported : (l : RuleLine) → false ≡ is_refused TargetGroup l → false ≡ is_refused LibraryMember l → false ≡ is_refused DoubleColon l → false ≡ is_refused PatternRule l →
    false ≡ is_refused DefaultRule l → IsSupported l
supported l group member double pattern default = record {
  group = passed TargetGroup l group;
  member = passed LibraryMember l member;
  double = passed DoubleColon l double;
  pattern = passed PatternRule l pattern;
  default = passed DefaultRule l default;
}

-- ---- lines without the bytes that are looked for

no_plus_at : (word : List ℕ) (t : Bool) → bytes_eq (codes "+") word ≡ t → list_any (λ b. b == 43) word ≡ false → bytes_eq (codes "+") word ≡ false
no_plus_at word true e none =
    let is : codes "+" ≡ word = (bytes_eq-Decides (codes "+") word).0 e in
    let lacks : list_any (λ b. b == 43) (codes "+") ≡ false = ap (list_any (λ b. b == 43)) is ∙ none in
    absurd (both_ways (list_any (λ b. b == 43) (codes "+")) lacks refl)
no_plus_at word false e none = e

no_plus : (words : List (List ℕ)) → list_any (list_any (λ b. b == 43)) words ≡ false → has (codes "+") words ≡ false
no_plus [] none = refl
no_plus (word ∷ words) none =
    let parts = or_parts (list_any (λ b. b == 43) word) (list_any (list_any (λ b. b == 43)) words) none in
    or_from (bytes_eq (codes "+") word) (has (codes "+") words) (no_plus_at word (bytes_eq (codes "+") word) refl parts.0) (no_plus words parts.1)

no_default : (special : Option SpecialName) → is_none special ≡ true → is_default_rule special ≡ false
no_default None is = refl
no_default (Some name) is = cc

pub plain_supported : (l : RuleLine) → is_rule l ≡ true → l.is_double ≡ false → list_any (list_any (λ b. b == 43)) l.targets ≡ false →
    list_any (list_any (λ b. b == 40)) l.targets ≡ false → list_any (list_any (λ b. b == 37)) l.targets ≡ false →
    list_any has_bracket l.prerequisites ≡ false → IsSupported l
plain_supported l rule single plus bracket percent below =
    let group : has (codes "+") l.targets ≡ false = no_plus l.targets plus in
    let default : is_default_rule l.special ≡ false = no_default l.special rule in
    supported l (simp (rule, group) refl) (simp (rule, bracket, below) refl) (simp (rule, single) refl) (simp (rule, percent) refl) (simp default refl)
