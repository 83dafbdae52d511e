-- How faults name what isn't supported.
use Rattle.std.specs.Prelude.{ℕ, List, [], ◌∷◌, codes}
use Rattle.mk_reader.specs.Directive.{directive_text}
use Rattle.mk_reader.specs.Special.{name_text}
use Rattle.mk_reader.specs.declared.fault.Feature.{Feature}
use Rattle.mk_reader.specs.declared.fault.Feature.TheVariants as feature

-- the name of a feature in a fault's text (own)
abbrev pub feature_text : Feature → List ℕ
feature_text feature.Include = codes "include"
feature_text feature.OptionalDefinition = codes "?="
feature_text feature.DoubleColon = codes "::"
feature_text feature.ColonDefinition = codes ":="
feature_text feature.ShellDefinition = codes ":sh"
feature_text (feature.SpecialName name) = name_text name
feature_text (feature.Directive directive) = directive_text directive
feature_text feature.TargetMacro = codes "target-specific macro"
feature_text feature.QuotedPercent = 92 ∷ 37 ∷ []
feature_text feature.GroupedTargets = codes "&:"
feature_text feature.ShellFlags = codes ".SHELLFLAGS"
feature_text feature.IncludeWildcard = codes "wildcard in include"
feature_text feature.RecipePrefix = codes ".RECIPEPREFIX"
feature_text feature.SearchPath = codes "VPATH"
