-- Words that begin lines of GNU make which POSIX make doesn't have, and how a line is told that begins with one.
use Rattle.std.specs.Prelude.{ℕ, List, [], ◌∷◌, Option, Some, None, Result, Ok, Err, bytes_eq, codes, find, if◌then◌else◌}
use Rattle.byte_strings.specs.Blanks.{first_word}
use Rattle.mk_profile.specs.Profile.{is_wide}
use Rattle.mk_profile.specs.declared.profile.Profile.{Profile}
use Rattle.mk_reader.specs.declared.directive.Directive.{Directive}
use Rattle.mk_reader.specs.declared.directive.Directive.TheVariants.{Ifeq, Ifneq, Ifdef, Ifndef, Else, Endif, Define, Endef, Undefine, Export, Unexport, Override, Private, Vpath, Load}
use Rattle.mk_reader.specs.declared.fault.Cause.{Cause}
use Rattle.mk_reader.specs.declared.fault.Cause.TheVariants.{Unsupported}
use Rattle.mk_reader.specs.declared.fault.Feature.TheVariants as feature
use Rattle.mk_reader.specs.declared.fault.Refusal.{Refusal}
use Rattle.mk_reader.specs.declared.form.Form.{Form}

-- how the word is written (GNU make manual, "Summary of Directives")
abbrev pub directive_text : Directive → List ℕ
directive_text Ifeq = codes "ifeq"
directive_text Ifneq = codes "ifneq"
directive_text Ifdef = codes "ifdef"
directive_text Ifndef = codes "ifndef"
directive_text Else = codes "else"
directive_text Endif = codes "endif"
directive_text Define = codes "define"
directive_text Endef = codes "endef"
directive_text Undefine = codes "undefine"
directive_text Export = codes "export"
directive_text Unexport = codes "unexport"
directive_text Override = codes "override"
directive_text Private = codes "private"
directive_text Vpath = codes "vpath"
directive_text Load = codes "load"

abbrev pub all_directives : List Directive
all_directives = Ifeq ∷ Ifneq ∷ Ifdef ∷ Ifndef ∷ Else ∷ Endif ∷ Define ∷ Endef ∷ Undefine ∷ Export ∷ Unexport ∷ Override ∷ Private ∷ Vpath ∷ Load ∷ []

-- the directive that a word is, if it is one
unfoldable pub directive_of : List ℕ → Option Directive
directive_of word = find (λ directive. bytes_eq (directive_text directive) word) all_directives

-- a line that is refused is told by the directive that it begins with, whatever else is wrong with it
abbrev pub cause_by : Option Directive → Cause → Cause
cause_by None cause = cause
cause_by (Some directive) cause = Unsupported (feature.Directive directive)

-- so it is in the wide profile (own)
unfoldable pub told_cause : Profile → (line : List ℕ) → Cause → Cause
told_cause profile line cause = if is_wide profile then cause_by (directive_of (first_word line)) cause else cause

-- a line that is taken is taken as what it is
abbrev pub told_as : Profile → (line : List ℕ) → Result Form Refusal → Result Form Refusal
told_as profile line (Ok form) = Ok form
told_as profile line (Err refused) = Err (record { file = refused.file; line = refused.line; cause = told_cause profile line refused.cause })
