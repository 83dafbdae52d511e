-- Lines of `.POOL`: their numbers, their names, and why one is refused.
use Rattle.std.specs.Bool.{Decides}
use Rattle.std.specs.Prelude.{is_some}
use Rattle.std.specs.List.{Any, list_any, flat_map}
use Rattle.std.proofs.Common.{◌≡◌, ◌∙◌, ℕ, ◌+◌, ◌<◌, Bool, true, false, cond, ◌||◌, List, [], ◌∷◌, ◌++◌, bytes_eq, length, take, drop, get_or, append_assoc, append-nil, Option, Some, refl, sym, ap, subst}
use Rattle.std.proofs.lemmas.Bool.{both_ways}
use Rattle.std.proofs.lemmas.List.{take_more, take-append-drop}
use Rattle.std.proofs.lemmas.List.Folds.{list_any-append}
use Rattle.mk_names.specs.Names.{has_name, all_added}
use Rattle.mk_names.proofs.NameLemmas.{all_added-append, has_all_added, same_bytes}
use Rattle.mk_reader.specs.declared.special.SpecialName.{SpecialName}
use Rattle.mk_reader.specs.declared.special.SpecialName.TheVariants.{Pool as PoolName}
use Rattle.mk_rule_lines.specs.Pools.{is_pool, most_said, members_in, HasMember, names_in_pool, names_in_pools, HasPoolFault, HasNoPoolFault, IsPoolCause, HasNoPoolCause}
use Rattle.mk_rule_lines.specs.Rules.{has, has_percent}
use Rattle.mk_rule_lines.specs.declared.pool_faults.PoolCause.TheVariants.{NoNumber, OfPattern, InTwo}
use Rattle.mk_rule_lines.specs.declared.pool_faults.PoolFault.{PoolFault}
use Rattle.mk_rule_lines.specs.declared.rule_line.RuleLine.{RuleLine}
use Rattle.mk_rule_lines.proofs.KindLemmas.{any_decides}

-- ---- names of lines

pub pool_is : (o : Option SpecialName) → is_pool o ≡ true → o ≡ Some PoolName
pool_is (Some PoolName) e = refl
pool_is o e = absurd (cc e)

member_decides : (name : List ℕ) (l : RuleLine) → Decides (has name (names_in_pool l)) (HasMember l name)
member_decides name l = by (is_pool l.special) refl
  where
    by : (b : Bool) → is_pool l.special ≡ b → Decides (has name (names_in_pool l)) (HasMember l name)
    by true e = (
      (λ h. (pool_is l.special e, sym (ap (λ b. has name (cond b (members_in l.prerequisites) [])) e) ∙ h)),
      λ is. ap (λ b. has name (cond b (members_in l.prerequisites) [])) e ∙ is.1,
    )
    by false e = (
      (λ h. absurd (both_ways (has name (names_in_pool l)) (ap (λ b. has name (cond b (members_in l.prerequisites) [])) e) h)),
      λ is. absurd (both_ways (is_pool l.special) e (ap is_pool is.0)),
    )

any-flat_map : (p : List ℕ → Bool) (of : RuleLine → List (List ℕ)) (lines : List RuleLine) →
    list_any p (flat_map of lines) ≡ list_any (λ l. list_any p (of l)) lines
any-flat_map p of [] = refl
any-flat_map p of (l ∷ lines) = list_any-append p (of l) (flat_map of lines) ∙ ap (λ b. list_any p (of l) || b) (any-flat_map p of lines)

-- a name of lines is one of some line
pub named_above : (lines : List RuleLine) (name : List ℕ) → has_name (names_in_pools lines) name ≡ true → Any (λ l. HasMember l name) lines
named_above lines name h =
    (any_decides (λ l. has name (names_in_pool l)) (λ l. HasMember l name) (member_decides name) lines).0
    (sym (has_all_added [] (flat_map names_in_pool lines) name ∙ any-flat_map (bytes_eq name) names_in_pool lines) ∙ h)

-- ---- line by line

flat_map-one : (xs : List RuleLine) (l : RuleLine) → flat_map names_in_pool (xs ++ l ∷ []) ≡ flat_map names_in_pool xs ++ names_in_pool l
flat_map-one [] l = append-nil (names_in_pool l)
flat_map-one (x ∷ xs) l = ap (λ ns. names_in_pool x ++ ns) (flat_map-one xs l) ∙ sym (append_assoc (names_in_pool x) (flat_map names_in_pool xs) (names_in_pool l))

-- the names above the next line, where this one's are taken in
pub above_more : (lines : List RuleLine) (k : ℕ) (l : RuleLine) (seen next : List (List ℕ)) → k < length lines → l ≡ get_or lines k l
    → seen ≡ names_in_pools (take k lines) → next ≡ all_added seen (names_in_pool l) → next ≡ names_in_pools (take (k + 1) lines)
above_more lines k l seen next within at are e =
    e ∙ ap (λ ns. all_added ns (names_in_pool l)) are
    ∙ sym (all_added-append [] (flat_map names_in_pool (take k lines)) (names_in_pool l))
    ∙ ap (all_added []) (sym (flat_map-one (take k lines) l))
    ∙ ap (λ line. names_in_pools (take k lines ++ line ∷ [])) at
    ∙ sym (ap names_in_pools (take_more lines k l within))

-- a line that is of no pool adds none
pub no_names : (l : RuleLine) → is_pool l.special ≡ false → names_in_pool l ≡ []
no_names l e = ap (λ b. cond b (members_in l.prerequisites) []) e

pub its_names : (l : RuleLine) → is_pool l.special ≡ true → names_in_pool l ≡ members_in l.prerequisites
its_names l e = ap (λ b. cond b (members_in l.prerequisites) []) e

-- a line that is refused stands in the makefile
pub pool_refused : (lines : List RuleLine) (k : ℕ) (l : RuleLine) (told : PoolFault) → drop k lines ≡ l ∷ drop (k + 1) lines
    → IsPoolCause (take k lines) l told.cause → told.place.file ≡ l.file → told.place.line ≡ l.line → HasPoolFault lines told
pool_refused lines k l told at cause file number = record {
  above = take k lines;
  line = l;
  below = drop (k + 1) lines;
  whole = sym (take-append-drop k lines) ∙ ap (λ ls. take k lines ++ ls) at;
  cause = cause;
  file = file;
  number = number;
}

-- ---- what is refused for no cause

one_of : (p : List ℕ → Bool) (n name : List ℕ) (has_rest any_rest : Bool) → (bytes_eq name n || has_rest) ≡ true → p name ≡ true
    → (has_rest ≡ true → any_rest ≡ true) → (p n || any_rest) ≡ true
one_of p n name has_rest any_rest h is rest = by (bytes_eq name n) refl
  where
    or_true : (q : Bool) → (q || true) ≡ true
    or_true true = refl
    or_true false = refl

    by : (b : Bool) → bytes_eq name n ≡ b → (p n || any_rest) ≡ true
    by true e = ap (λ q. q || any_rest) (sym (ap p (same_bytes name n e)) ∙ is)
    by false e = ap (λ q. p n || q) (rest (sym (ap (λ b. b || has_rest) e) ∙ h)) ∙ or_true (p n)

-- a name among others that passes a test makes one pass
any_of : (p : List ℕ → Bool) (names : List (List ℕ)) (name : List ℕ) → has name names ≡ true → p name ≡ true → list_any p names ≡ true
any_of p [] name h is = absurd (cc h)
any_of p (n ∷ names) name h is = one_of p n name (has name names) (list_any p names) h is (λ there. any_of p names name there is)

-- a name of some line above is one of the names above
named_in : (lines : List RuleLine) (name : List ℕ) → Any (λ l. HasMember l name) lines → has_name (names_in_pools lines) name ≡ true
named_in lines name some =
    has_all_added [] (flat_map names_in_pool lines) name ∙ any-flat_map (bytes_eq name) names_in_pool lines
    ∙ (any_decides (λ l. has name (names_in_pool l)) (λ l. HasMember l name) (member_decides name) lines).1 some

-- a line that says how many, and whose names are no patterns and in no pool above, is refused for no cause
pub no_cause : (above : List RuleLine) (l : RuleLine) → is_some (most_said l.prerequisites) ≡ true
    → list_any has_percent (members_in l.prerequisites) ≡ false → list_any (has_name (names_in_pools above)) (members_in l.prerequisites) ≡ false
    → HasNoPoolCause above l
no_cause above l said plain fresh NoNumber (is, none) = let no : true ≡ false = sym said ∙ ap is_some none in absurd (cc no)
no_cause above l said plain fresh (OfPattern name) ((is, h), percent) =
    let no : true ≡ false = sym (any_of has_percent (members_in l.prerequisites) name h percent) ∙ plain in absurd (cc no)
no_cause above l said plain fresh (InTwo name) ((is, h), some) =
    let no : true ≡ false = sym (any_of (has_name (names_in_pools above)) (members_in l.prerequisites) name h (named_in above name some)) ∙ fresh in absurd (cc no)

-- a line that is of no pool is refused for no cause
pub no_pool : (above : List RuleLine) (l : RuleLine) → is_pool l.special ≡ false → HasNoPoolCause above l
no_pool above l e NoNumber (is, none) = absurd (both_ways (is_pool l.special) e (ap is_pool is))
no_pool above l e (OfPattern name) ((is, h), percent) = absurd (both_ways (is_pool l.special) e (ap is_pool is))
no_pool above l e (InTwo name) ((is, h), some) = absurd (both_ways (is_pool l.special) e (ap is_pool is))

-- a line of some lines and one more is the one more, or one of them
data Split (lines : List RuleLine) (l : RuleLine) (above : List RuleLine) (line : RuleLine) : Type 0 where
  at_end : above ≡ lines → line ≡ l → Split lines l above line
  before : (below : List RuleLine) → lines ≡ above ++ line ∷ below → Split lines l above line

further : (x a : RuleLine) (lines : List RuleLine) (l : RuleLine) (above : List RuleLine) (line : RuleLine) → x ≡ a → Split lines l above line
    → Split (x ∷ lines) l (a ∷ above) line
further x a lines l above line same (at_end is one) = at_end (ap (λ m. m ∷ above) (sym same) ∙ ap (λ ls. x ∷ ls) is) one
further x a lines l above line same (before below is) = before below (ap (λ m. m ∷ lines) same ∙ ap (λ ls. a ∷ ls) is)

split : (lines : List RuleLine) (l : RuleLine) (above : List RuleLine) (line : RuleLine) (below : List RuleLine)
    → lines ++ l ∷ [] ≡ above ++ line ∷ below → Split lines l above line
split [] l [] line below e = at_end refl (cc e)
split [] l (a ∷ []) line below e = absurd (cc e)
split [] l (a ∷ b ∷ above) line below e = absurd (cc e)
split (x ∷ lines) l [] line below e = let same : x ≡ line = cc e in before lines (ap (λ m. m ∷ lines) same)
split (x ∷ lines) l (a ∷ above) line below e =
    let same : x ≡ a = cc e in
    let rest : lines ++ l ∷ [] ≡ above ++ line ∷ below = cc e in
    further x a lines l above line same (split lines l above line below rest)

-- lines of which none is refused, and one more that is refused for no cause
pub none_more : (lines : List RuleLine) (k : ℕ) (l : RuleLine) → k < length lines → l ≡ get_or lines k l
    → HasNoPoolFault (take k lines) → HasNoPoolCause (take k lines) l → HasNoPoolFault (take (k + 1) lines)
none_more lines k l within at none clear told refused = by (split (take k lines) l refused.above refused.line refused.below
    (ap (λ line. take k lines ++ line ∷ []) at ∙ sym (take_more lines k l within) ∙ refused.whole))
  where
    by : Split (take k lines) l refused.above refused.line → ⊥
    by (at_end is one) = clear told.cause (subst (λ (ls : List RuleLine). IsPoolCause ls l told.cause) is (subst (λ (m : RuleLine). IsPoolCause refused.above m told.cause) one refused.cause))
    by (before below is) = none told (record {
      above = refused.above;
      line = refused.line;
      below = below;
      whole = is;
      cause = refused.cause;
      file = refused.file;
      number = refused.number;
    })
