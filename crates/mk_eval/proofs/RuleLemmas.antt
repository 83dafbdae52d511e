-- What a rule gives is one outcome, and there is one.
use Rattle.std.proofs.Common.{◌≡◌, ℕ, Bool, true, false, ◌||◌, ◌==◌, List, [], ◌∷◌, ◌++◌, length, inl, inr, ◌⊎◌, refl, sym, ap, subst, ◌∙◌, Option, Some, None, Result, Ok, Err, Vec, cond}
use Rattle.std.specs.Bool.{Decides}
use Rattle.std.specs.List.{list_any}
use Rattle.std.specs.declared.alloc.Global.{Global}
use Rattle.mk_reader.specs.declared.fault.ReadFault.{ReadFault}
use Rattle.byte_strings.specs.Blanks.{words}
use Rattle.mk_profile.specs.Profile.{is_wide}
use Rattle.mk_macros.specs.Expansion as expansion
use Rattle.mk_macros.specs.Expansion.{gives, fails, ExpandsTo}
use Rattle.mk_macros.specs.Ranks.{Defined, rule_meanings}
use Rattle.mk_macros.proofs.OutcomeLemmas.{expands_once}
use Rattle.mk_lines.specs.References.{Without, first_outside}
use Rattle.mk_lines.specs.Quoted.{IsColonCut, without_quoted}
use Rattle.mk_lines.specs.Text.{is_dollar}
use Rattle.mk_reader.specs.Form.{Refuses}
use Rattle.mk_lines.specs.declared.reference.Place.TheVariants.{Outside}
use Rattle.mk_reader.specs.declared.item.Item.{Item}
use Rattle.mk_reader.specs.declared.item.Item.TheVariants as item
use Rattle.mk_reader.specs.declared.item.Rule.{Rule}
use Rattle.mk_reader.specs.declared.fault.Cause.{Cause}
use Rattle.mk_reader.specs.declared.fault.Cause.TheVariants.{Static, Unsupported}
use Rattle.mk_reader.specs.declared.fault.Feature.TheVariants.{TargetMacro, SpecialName as SpecialRule}
use Rattle.mk_reader.specs.declared.fault.Refusal.{Refusal}
use Rattle.mk_reader.specs.declared.fault.ReadFault.TheVariants.{OutOfMemory, Refused}
use Rattle.mk_reader.specs.Special.{is_refused}
use Rattle.mk_profile.specs.declared.profile.Profile.{Profile}
use Rattle.mk_reader.specs.declared.fault.StaticCause.TheVariants.{NoPercent}
use Rattle.mk_lines.proofs.ReferenceLemmas.{either, cut_found, none_found, Said, said}
use Rattle.mk_lines.proofs.CutLemmas.{one_of, cut_left, cut_right}
use Rattle.mk_lines.proofs.QuotedLemmas.{one_colon, no_colon, colon_found}
use Rattle.mk_eval.specs.Static.{IsCutAt, name_macro, DefinesMacro, has_percent, pattern_fault, rule_for}
use Rattle.mk_eval.specs.Output.{World}
use Rattle.mk_eval.specs.Listed.{listed, listed_rule}
use Rattle.mk_eval.specs.Short.{renamed}
use Rattle.mk_reader.specs.declared.item.Special.{Special}
use Rattle.mk_reader.specs.declared.special.SpecialName.{SpecialName}
use Rattle.mk_eval.specs.Makefile.{Outcome, GivesItems, refused_rule, TargetItems, unmoved, JudgedItems, PatternItems, Behind, WithText, StaticItems, NamesIn, LineNames, special_in, named_rule, IsListed, PlainItems, WideRuleItems, RuleItems, SpecialItems}
use Rattle.mk_eval.proofs.MakefileLemmas.{items_passed_on}
use Rattle.mk_eval.proofs.OrderLemmas.{IsOne, order_one, Some_of, order_some}
use Rattle.mk_eval.proofs.StemLemmas.{stem_one, Found, stem_found}

-- Where a text is cut

abbrev length_of : Option ℕ → ℕ
length_of None = 0
length_of (Some n) = n

module _ (byte : ℕ) (dollar : (36 == byte || 36 == byte) ≡ false) (is : (byte == byte || byte == byte) ≡ true) where
  cut_place : (text left right : List ℕ) → IsCutAt byte text left right → first_outside byte byte Outside text ≡ Some (length left)
  cut_place text left right (e, whole) = cut_found byte byte dollar text left byte right e whole is

  pub cut_one : (text left right l r : List ℕ) → IsCutAt byte text left right → IsCutAt byte text l r → (left ≡ l) × (right ≡ r)
  cut_one text left right l r a b =
      let long : length left ≡ length l = ap length_of (sym (cut_place text left right a) ∙ cut_place text l r b) in (
        sym (cut_left text left byte right (length l) a.0 long) ∙ cut_left text l byte r (length l) b.0 refl,
        sym (cut_right text left byte right (length l) a.0 long) ∙ cut_right text l byte r (length l) b.0 refl,
      )

  pub cut_none : (text left right : List ℕ) → IsCutAt byte text left right → Without byte byte text → ⊥
  cut_none text left right a w = let e : Some (length left) ≡ None = sym (cut_place text left right a) ∙ none_found byte byte dollar text w in cc e

  pub cut_some : (text : List ℕ) → Without byte byte text ⊎ ((left : List ℕ) × (right : List ℕ) × IsCutAt byte text left right)
  cut_some text = at (first_outside byte byte Outside text) refl
    where
      at : (o : Option ℕ) → first_outside byte byte Outside text ≡ o → Without byte byte text ⊎ ((left : List ℕ) × (right : List ℕ) × IsCutAt byte text left right)
      at None e = inl (subst (λ o. Said byte byte dollar o text) e (said byte byte dollar text))
      at (Some n) e =
          let s = subst (λ o. Said byte byte dollar o text) e (said byte byte dollar text) in
          inr (s.0, s.2, (s.3 ∙ ap (λ b. s.0 ++ b ∷ s.2) (one_of byte s.1 s.5), s.4))

pub macro_no : (text left value : List ℕ) → IsCutAt 61 text left value → name_macro (words left) ≡ false → DefinesMacro text → ⊥
macro_no text left value cut none (l, v, is, named) =
    let same = (cut_one 61 refl refl text left value l v cut is).0 in
    cc (sym named ∙ ap (λ xs. name_macro (words xs)) (sym same) ∙ none)

pub macro_decides : (text left value : List ℕ) → IsCutAt 61 text left value → (r : Bool) → r ≡ name_macro (words left) → Decides r (DefinesMacro text)
macro_decides text left value cut r e = (
  (λ t. (left, value, cut, sym e ∙ t)),
  (λ h. e ∙ ap (λ xs. name_macro (words xs)) (cut_one 61 refl refl text left value h.0 h.1 cut h.2).0 ∙ h.3),
)

pub macro_never : (text : List ℕ) → Without 61 61 text → Decides false (DefinesMacro text)
macro_never text without = ((λ t. absurd (cc t)), (λ h. absurd (cut_none 61 refl refl text h.0 h.1 h.2 without)))

macro_found : (text : List ℕ) → DefinesMacro text ⊎ (DefinesMacro text → ⊥)
macro_found text = at (cut_some 61 refl refl text)
  where
    at : Without 61 61 text ⊎ ((left : List ℕ) × (right : List ℕ) × IsCutAt 61 text left right) → DefinesMacro text ⊎ (DefinesMacro text → ⊥)
    at (inl without) = inr (λ h. cut_none 61 refl refl text h.0 h.1 h.2 without)
    at (inr (left, value, cut)) =
        either _ (name_macro (words left)) (λ named. inl (left, value, cut, named)) (λ none. inr (λ h. macro_no text left value cut none h))

-- One outcome

pub names_one : (given : Defined) (text : List ℕ) (one other : expansion.Outcome) → LineNames given text one → LineNames given text other → one ≡ other
names_one given text one other = either_way (list_any is_dollar text)
  where
    either_way : (refers : Bool) → NamesIn refers given text one → NamesIn refers given text other → one ≡ other
    either_way true a b = expands_once (rule_meanings given) a b
    either_way false a b = a ∙ sym b

module _ (rule : Rule) where
  target_one : (pattern : List ℕ) (prerequisites : List (List ℕ)) → has_percent pattern ≡ true → (target : List ℕ) → IsOne (TargetItems rule pattern prerequisites target)
  target_one pattern prerequisites h target one other (inl (s, is, a)) (inl (t, was, b)) =
      a ∙ ap (λ stem. Ok (item.Rule (rule_for rule target stem prerequisites) ∷ [])) (stem_one pattern s t h (sym is ∙ was)) ∙ sym b
  target_one pattern prerequisites h target one other (inl (s, is, a)) (inr (none, b)) = absurd (none s is)
  target_one pattern prerequisites h target one other (inr (none, a)) (inl (t, was, b)) = absurd (none t was)
  target_one pattern prerequisites h target one other (inr (none, a)) (inr (also, b)) = a ∙ sym b

  target_some : (pattern : List ℕ) (prerequisites : List (List ℕ)) → has_percent pattern ≡ true → (target : List ℕ) → Some_of (TargetItems rule pattern prerequisites target)
  target_some pattern prerequisites h target = at (stem_found pattern target h)
    where
      at : Found pattern target → Some_of (TargetItems rule pattern prerequisites target)
      at (inl (stem, is)) = (_, inl (stem, is, refl))
      at (inr none) = (_, inr (none, refl))

  -- a pattern that isn't refused has a place for the stem
  pub judged_percent : (targets : List (List ℕ)) (pattern : List ℕ) (prerequisites : List (List ℕ)) → pattern_fault targets pattern prerequisites ≡ None → has_percent pattern ≡ true
  judged_percent targets pattern prerequisites e = at (has_percent pattern) refl
    where
      at : (t : Bool) → has_percent pattern ≡ t → has_percent pattern ≡ true
      at true h = h
      at false h = let none : Some (Static NoPercent) ≡ None = sym (percent_lacks h) ∙ e in absurd (cc none)
        where
          percent_lacks : has_percent pattern ≡ false → pattern_fault targets pattern prerequisites ≡ Some (Static NoPercent)
          percent_lacks h = rw h refl

  judged_one : (why : Option Cause) (pattern : List ℕ) (prerequisites targets : List (List ℕ)) → pattern_fault targets pattern prerequisites ≡ why → IsOne (JudgedItems why rule pattern prerequisites targets)
  judged_one (Some why) pattern prerequisites targets e one other a b = a ∙ sym b
  judged_one None pattern prerequisites targets e one other a b =
      order_one unmoved (λ _. TargetItems rule pattern prerequisites) (λ _. target_one pattern prerequisites (judged_percent targets pattern prerequisites e)) tt targets one other a b

  pattern_one : (targets patterns prerequisites : List (List ℕ)) → IsOne (PatternItems rule targets patterns prerequisites)
  pattern_one targets [] prerequisites one other a b = a ∙ sym b
  pattern_one targets (pattern ∷ []) prerequisites one other a b = judged_one (pattern_fault targets pattern prerequisites) pattern prerequisites targets refl one other a b
  pattern_one targets (first ∷ second ∷ more) prerequisites one other a b = a ∙ sym b

  behind_one : (told : expansion.Outcome) (Rest : List ℕ → Outcome → Type 0) → ((text : List ℕ) → IsOne (Rest text)) → IsOne (Behind rule told Rest)
  behind_one (gives text) Rest h one other a b = h text one other a b
  behind_one (fails fault) Rest h one other a b = a ∙ sym b

  with_text_one : (given : Defined) (text : List ℕ) (Rest : List ℕ → Outcome → Type 0) → ((bytes : List ℕ) → IsOne (Rest bytes)) → IsOne (WithText rule given text Rest)
  with_text_one given text Rest h one other (told, is, a) (also, was, b) =
      behind_one also Rest h one other (subst (λ t. Behind rule t Rest one) (expands_once (rule_meanings given) is was) a) b

  static_one : (world : World) (left right : List ℕ) (given : Defined) → IsOne (StaticItems world rule left right given)
  static_one world left right given =
      with_text_one given rule.targets _ (λ targets. with_text_one given left _ (λ patterns. with_text_one given right _ (λ prerequisites.
      pattern_one (words (listed world.folders targets)) (words (renamed patterns)) (words (listed world.folders prerequisites)))))

  -- the rule with names in the place of wildcards
  listed_one : (world : World) (given : Defined) (targets also : expansion.Outcome) (one other : Rule) → LineNames given rule.targets targets → LineNames given rule.targets also →
      IsListed world rule given targets one → IsListed world rule given also other → one ≡ other
  listed_one world given targets also one other are were (prerequisites, is, a) (others, was, b) =
      a ∙ ap (λ t. listed_rule world.folders rule t prerequisites) (names_one given rule.targets targets also are were)
      ∙ ap (listed_rule world.folders rule also) (names_one given rule.prerequisites prerequisites others is was) ∙ sym b

  plain_one : (world : World) (given : Defined) → IsOne (PlainItems world rule given)
  plain_one world given one other (targets, are, found, is, a) (also, were, again, was, b) =
      a ∙ ap (λ t. named_rule given.language found (special_in given.language t)) (names_one given rule.targets targets also are were)
      ∙ ap (λ r. named_rule given.language r (special_in given.language also)) (listed_one world given targets also found again are were is was) ∙ sym b

  wide_one : (world : World) (given : Defined) → IsOne (WideRuleItems world rule given)
  wide_one world given one other (inl (defines, a)) (inl (also, b)) = a ∙ sym b
  wide_one world given one other (inl (defines, a)) (inr (inl h)) = absurd (h.0 defines)
  wide_one world given one other (inl (defines, a)) (inr (inr h)) = absurd (h.0 defines)
  wide_one world given one other (inr (inl h)) (inl (defines, b)) = absurd (h.0 defines)
  wide_one world given one other (inr (inr h)) (inl (defines, b)) = absurd (h.0 defines)
  wide_one world given one other (inr (inl (never, without, a))) (inr (inl (also, lacks, b))) = plain_one world given one other a b
  wide_one world given one other (inr (inl (never, without, a))) (inr (inr (also, left, right, cut, b))) = absurd (no_colon rule.prerequisites left right cut without)
  wide_one world given one other (inr (inr (never, left, right, cut, a))) (inr (inl (also, without, b))) = absurd (no_colon rule.prerequisites left right cut without)
  wide_one world given one other (inr (inr (never, left, right, cut, a))) (inr (inr (also, l, r, is, b))) =
      let same = one_colon rule.prerequisites left right l r cut is in
      static_one world l r given one other (subst (λ x. StaticItems world rule x r given one) same.0 (subst (λ y. StaticItems world rule left y given one) same.1 a)) b

  pub rule_one : (world : World) (wide : Bool) (given : Defined) → IsOne (RuleItems world wide rule given)
  rule_one world true given one other a b = wide_one world given one other a b
  rule_one world false given one other a b = a ∙ sym b

  -- An outcome

  judged_some : (why : Option Cause) (pattern : List ℕ) (prerequisites targets : List (List ℕ)) → pattern_fault targets pattern prerequisites ≡ why → Some_of (JudgedItems why rule pattern prerequisites targets)
  judged_some (Some why) pattern prerequisites targets e = (_, refl)
  judged_some None pattern prerequisites targets e =
      order_some unmoved (λ _. Unit {0}) (λ _ _ _. tt) (λ _. TargetItems rule pattern prerequisites) (λ _ _. target_some pattern prerequisites (judged_percent targets pattern prerequisites e)) tt tt targets

  pattern_some : (targets patterns prerequisites : List (List ℕ)) → Some_of (PatternItems rule targets patterns prerequisites)
  pattern_some targets [] prerequisites = (_, refl)
  pattern_some targets (pattern ∷ []) prerequisites = judged_some (pattern_fault targets pattern prerequisites) pattern prerequisites targets refl
  pattern_some targets (first ∷ second ∷ more) prerequisites = (_, refl)

  -- where each text has an expansion
  module _ (given : Defined) (expands : (text : List ℕ) → (o : expansion.Outcome) × ExpandsTo (rule_meanings given) text o) where
    behind_some : (told : expansion.Outcome) (Rest : List ℕ → Outcome → Type 0) → ((text : List ℕ) → Some_of (Rest text)) → Some_of (Behind rule told Rest)
    behind_some (gives text) Rest h = h text
    behind_some (fails fault) Rest h = (_, refl)

    with_text_some : (text : List ℕ) (Rest : List ℕ → Outcome → Type 0) → ((bytes : List ℕ) → Some_of (Rest bytes)) → Some_of (WithText rule given text Rest)
    with_text_some text Rest h =
        let told = expands text in
        let whole = behind_some told.0 Rest h in
        (whole.0, (told.0, told.1, whole.1))

    static_some : (world : World) (left right : List ℕ) → Some_of (StaticItems world rule left right given)
    static_some world left right =
        with_text_some rule.targets _ (λ targets. with_text_some left _ (λ patterns. with_text_some right _ (λ prerequisites.
        pattern_some (words (listed world.folders targets)) (words (renamed patterns)) (words (listed world.folders prerequisites)))))

    pub names_told : (text : List ℕ) → (names : expansion.Outcome) × LineNames given text names
    names_told text = either_way (list_any is_dollar text)
      where
        either_way : (refers : Bool) → (names : expansion.Outcome) × NamesIn refers given text names
        either_way true = expands text
        either_way false = (gives text, refl)

    pub listed_some : (world : World) (targets : expansion.Outcome) → (found : Rule) × IsListed world rule given targets found
    listed_some world targets =
        let prerequisites = names_told rule.prerequisites in (listed_rule world.folders rule targets prerequisites.0, (prerequisites.0, prerequisites.1, refl))

    plain_some : (world : World) → Some_of (PlainItems world rule given)
    plain_some world =
        let targets = names_told rule.targets in
        let found = listed_some world targets.0 in
        (named_rule given.language found.0 (special_in given.language targets.0), (targets.0, targets.1, found.0, found.1, refl))

    wide_some : (world : World) → Some_of (WideRuleItems world rule given)
    wide_some world = at (macro_found rule.prerequisites) (colon_found rule.prerequisites)
      where
        at : DefinesMacro rule.prerequisites ⊎ (DefinesMacro rule.prerequisites → ⊥) → Without 58 58 (without_quoted rule.prerequisites) ⊎ ((left : List ℕ) × (right : List ℕ) × IsColonCut rule.prerequisites left right) → Some_of (WideRuleItems world rule given)
        at (inl defines) cut = (refused_rule rule (Unsupported TargetMacro), inl (defines, refl))
        at (inr never) (inl without) = let whole = plain_some world in (whole.0, inr (inl (never, without, whole.1)))
        at (inr never) (inr (left, right, cut)) = let whole = static_some world left right in (whole.0, inr (inr (never, left, right, cut, whole.1)))

    pub rule_some : (world : World) (wide : Bool) → Some_of (RuleItems world wide rule given)
    rule_some world true = wide_some world
    rule_some world false = (_, refl)

-- what a special rule gives is one outcome, and there is one
pub special_one : (world : World) (wide : Bool) (special : Special) (given : Defined) → IsOne (SpecialItems world wide special given)
special_one world true special given one other (targets, are, found, is, a) (also, were, again, was, b) =
    a ∙ ap (λ r. Ok (item.Special (record special { rule = r }) ∷ [])) (listed_one special.rule world given targets also found again are were is was) ∙ sym b
special_one world false special given one other a b = a ∙ sym b

pub special_some : (world : World) (wide : Bool) (special : Special) (given : Defined) → ((text : List ℕ) → (o : expansion.Outcome) × ExpandsTo (rule_meanings given) text o) → Some_of (SpecialItems world wide special given)
special_some world true special given expands =
    let targets = names_told special.rule given expands special.rule.targets in
    let found = listed_some special.rule given expands world targets.0 in
    (_, (targets.0, targets.1, found.0, found.1, refl))
special_some world false special given expands = (_, refl)

-- what a static pattern rule gives is what the rule gives
pub static_given : (world : World) (rule : Rule) (given : Defined) (left right : List ℕ) (r : Result (Vec Item Global) ReadFault) → is_wide given.language ≡ true → (DefinesMacro rule.prerequisites → ⊥) → IsColonCut rule.prerequisites left right →
    GivesItems r (StaticItems world rule left right given) → GivesItems r (RuleItems world (is_wide given.language) rule given)
static_given world rule given left right r wide never cut h =
    items_passed_on r (StaticItems world rule left right given) (RuleItems world (is_wide given.language) rule given) h (λ o s. subst (λ w. RuleItems world w rule given o) (sym wide) (inr (inr (never, left, right, cut, s))))

-- so is what a plain rule gives
pub plain_given : (world : World) (rule : Rule) (given : Defined) (r : Result (Vec Item Global) ReadFault) → is_wide given.language ≡ true → (DefinesMacro rule.prerequisites → ⊥) → Without 58 58 (without_quoted rule.prerequisites) →
    GivesItems r (PlainItems world rule given) → GivesItems r (RuleItems world (is_wide given.language) rule given)
plain_given world rule given r wide never without h =
    items_passed_on r (PlainItems world rule given) (RuleItems world (is_wide given.language) rule given) h (λ o s. subst (λ w. RuleItems world w rule given o) (sym wide) (inr (inl (never, without, s))))

-- a plain rule's outcome by the name among its targets and by its texts
pub plain_of : (world : World) (rule found : Rule) (given : Defined) (name : Option SpecialName) (outcome : Outcome) →
    ((targets : expansion.Outcome) × LineNames given rule.targets targets × (name ≡ special_in given.language targets)) →
    ((targets : expansion.Outcome) × LineNames given rule.targets targets × IsListed world rule given targets found) →
    outcome ≡ named_rule given.language found name → PlainItems world rule given outcome
plain_of world rule found given name outcome (targets, are, named) (also, were, is) e =
    let same = names_one given rule.targets also targets were are in
    (targets, are, found, subst (λ t. IsListed world rule given t found) same is, e ∙ ap (named_rule given.language found) named)

pub named_refused : (profile : Profile) (rule : Rule) (name : SpecialName) → is_refused profile name ≡ true → named_rule profile rule (Some name) ≡ refused_rule rule (Unsupported (SpecialRule name))
named_refused profile rule name e = ap (λ t. cond t (refused_rule rule (Unsupported (SpecialRule name))) (Ok (item.Special (record { name = name; rule = rule }) ∷ []))) e

pub named_taken : (profile : Profile) (rule : Rule) (name : SpecialName) → is_refused profile name ≡ false → named_rule profile rule (Some name) ≡ Ok (item.Special (record { name = name; rule = rule }) ∷ [])
named_taken profile rule name e = ap (λ t. cond t (refused_rule rule (Unsupported (SpecialRule name))) (Ok (item.Special (record { name = name; rule = rule }) ∷ []))) e

-- a refusal is a fault
pub refused_given : (P : Outcome → Type 0) (told : ReadFault) (refused : Refusal) → Refuses told refused → P (Err refused) → GivesItems (Err told) P
refused_given P OutOfMemory refused h is = tt
refused_given P (Refused r) refused h is = subst (λ x. P (Err x)) h is
