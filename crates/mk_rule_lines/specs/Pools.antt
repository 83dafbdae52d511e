-- What lines of `.POOL` say, and which are refused. Own, as ninja's pools: `.POOL: NUMBER TARGET ..`, and each line is a pool of its own.
use Rattle.std.specs.Prelude.{◌≡◌, ℕ, Bool, true, false, ◌&&◌, List, [], ◌∷◌, ◌++◌, drop, Option, Some, None, option_and_then, nat_le, if◌then◌else◌}
use Rattle.std.specs.List.{Any, flat_map}
use Rattle.byte_strings.specs.Digits.{number_of}
use Rattle.mk_names.specs.Names.{all_added}
use Rattle.mk_reader.specs.declared.special.SpecialName.{SpecialName}
use Rattle.mk_reader.specs.declared.special.SpecialName.TheVariants.{Pool as PoolName}
use Rattle.mk_rule_lines.specs.Rules.{has, has_percent}
use Rattle.mk_rule_lines.specs.declared.fault.RuleFault.{RuleFault}
use Rattle.mk_rule_lines.specs.declared.fault.RuleFault.TheVariants as fault
use Rattle.mk_rule_lines.specs.declared.pool_faults.PoolCause.{PoolCause}
use Rattle.mk_rule_lines.specs.declared.pool_faults.PoolCause.TheVariants.{NoNumber, OfPattern, InTwo}
use Rattle.mk_rule_lines.specs.declared.pool_faults.PoolFault.{PoolFault}
use Rattle.mk_rule_lines.specs.declared.rule_line.RuleLine.{RuleLine}

-- the line is one of `.POOL`
abbrev pub IsPoolLine : RuleLine → Type 0
IsPoolLine l = l.special ≡ Some PoolName

abbrev pub is_pool : Option SpecialName → Bool
is_pool (Some PoolName) = true
is_pool _ = false

-- a number of recipes that may run at once: 1 to 256, as of a `-j`
abbrev pub if_of_recipes : ℕ → Option ℕ
if_of_recipes number = if nat_le 1 number && nat_le number 256 then Some number else None

-- how many recipes of its targets may run at once, as the line's first word says
abbrev pub most_said : (words : List (List ℕ)) → Option ℕ
most_said [] = None
most_said (word ∷ words) = option_and_then if_of_recipes (number_of word)

-- the targets that the line names
abbrev pub members_in : (words : List (List ℕ)) → List (List ℕ)
members_in words = drop 1 words

-- Which lines are refused

-- the line names the target
abbrev pub HasMember : RuleLine → (target : List ℕ) → Type 0
HasMember l target = IsPoolLine l × (has target (members_in l.prerequisites) ≡ true)

-- a line of `.POOL`, with those before it, is refused for this cause: its first word is no number of recipes, a name that it has is a pattern,
-- or is one of a line before it
abbrev pub IsPoolCause : (above : List RuleLine) → RuleLine → PoolCause → Type 0
IsPoolCause above l NoNumber = IsPoolLine l × (most_said l.prerequisites ≡ None)
IsPoolCause above l (OfPattern name) = HasMember l name × (has_percent name ≡ true)
IsPoolCause above l (InTwo name) = HasMember l name × Any (λ other. HasMember other name) above

-- it is refused for none
abbrev pub HasNoPoolCause : (above : List RuleLine) → RuleLine → Type 0
HasNoPoolCause above l = (cause : PoolCause) → IsPoolCause above l cause → ⊥

-- some line is refused so, which stands there
pub record HasPoolFault (lines : List RuleLine) (told : PoolFault) : Type 0 where
  pub above : List RuleLine
  pub line : RuleLine
  pub below : List RuleLine
  pub whole : lines ≡ above ++ line ∷ below
  pub cause : IsPoolCause above line told.cause
  pub file : told.place.file ≡ line.file
  pub number : told.place.line ≡ line.line

-- no line is refused
abbrev pub HasNoPoolFault : List RuleLine → Type 0
HasNoPoolFault lines = (told : PoolFault) → HasPoolFault lines told → ⊥

abbrev pub IsPoolFault : List RuleLine → RuleFault → Type 0
IsPoolFault lines fault.OutOfMemory = Unit {0}
IsPoolFault lines (fault.Pool told) = HasPoolFault lines told
IsPoolFault lines _ = ⊥

-- the targets that a line of `.POOL` names
abbrev pub names_in_pool : RuleLine → List (List ℕ)
names_in_pool l = if is_pool l.special then members_in l.prerequisites else []

-- those of all lines, each once
abbrev pub names_in_pools : List RuleLine → List (List ℕ)
names_in_pools lines = all_added [] (flat_map names_in_pool lines)
