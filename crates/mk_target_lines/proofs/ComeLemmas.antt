-- What isn't had of a line, and why.
use Rattle.std.proofs.Common.{◌≡◌, ℕ, Bool, List, [], ◌∷◌, ◌++◌, length, IfOk, IfErr, refl, sym, ap, ◌∙◌, subst, Option, Some, None, is_some, option_copied, Result, Ok, Err}
use Rattle.std.specs.Borrow.{Bor}
use Rattle.mk_words.specs.Words.{behind_spaces}
use Rattle.mk_functions.specs.Variables.{Variables}
use Rattle.mk_functions.specs.Outcome as values
use Rattle.mk_functions.specs.Outcome.{gives}
use Rattle.mk_functions.specs.Expansion.{ExpandsTo}
use Rattle.mk_functions.specs.Values.{Answers}
use Rattle.mk_functions.specs.Shown.{fault_of}
use Rattle.mk_functions.specs.declared.fault.Stop as code_stop
use Rattle.mk_functions.specs.declared.fault.Stop.TheVariants as stop
use Rattle.mk_target_lines.specs.Comes.{Told, refused, has_no_value, rule_cut, rule_of, without_colon, Says, AtTargets, Comes}
use Rattle.mk_target_lines.specs.Cut.{unquoted}
use Rattle.mk_target_lines.specs.Rule.{Definition, behind_colons, defined}
use Rattle.mk_target_lines.specs.declared.fault.Fault.{Fault}
use Rattle.mk_target_lines.specs.declared.fault.Refusal as code_refusal
use Rattle.mk_target_lines.specs.declared.mark.Mark.TheVariants.{Byte}
use Rattle.mk_target_lines.specs.Names.{names_of}
use Rattle.mk_target_lines.specs.Parts.{Line, ended, colon, meets, Parts}
use Rattle.mk_target_lines.specs.Shown.{line_of, parted_of, NoValue, IsFaulty, IsRefused}
use Rattle.mk_target_lines.specs.declared.parts.Line as code_line
use Rattle.mk_target_lines.specs.declared.fault.Refusal.TheVariants as refusal

pub no_value_map : (P Q : values.Fault → Type 0) → ((fault : values.Fault) → P fault → Q fault) → (none : code_stop.Stop) → NoValue P none → NoValue Q none
no_value_map P Q f stop.OutOfMemory h = tt
no_value_map P Q f stop.TakesTooLong h = tt
no_value_map P Q f (stop.Fault fault) h = f (fault_of fault) h

-- a line that isn't parted comes to nothing
pub unparted : (w : Answers) (variables : Variables) (recipe : Option (List ℕ)) (text : List ℕ) (none : code_stop.Stop) →
    NoValue (λ fault. Parts w variables (is_some recipe) (length text) [] text (meets fault)) none → IsRefused (Comes w variables recipe text) (refusal.Stop none)
unparted w variables recipe text stop.OutOfMemory h = tt
unparted w variables recipe text stop.TakesTooLong h = tt
unparted w variables recipe text (stop.Fault fault) h = (meets (fault_of fault), h, refl)

pub if_err_then : {X Y : Type 0} (r : Result X Y) (P Q : Y → Type 0) → ((y : Y) → P y → Q y) → IfErr r P → IfErr r Q
if_err_then (Ok x) P Q f p = tt
if_err_then (Err y) P Q f p = f y p

pub faulty_refused : (P : Fault → Type 0) (Q : Told → Type 0) → ((fault : Fault) → P fault → Q (refused fault)) → (none : code_refusal.Refusal) → IsFaulty P none → IsRefused Q none
faulty_refused P Q f (refusal.Stop stop.OutOfMemory) h = tt
faulty_refused P Q f (refusal.Stop stop.TakesTooLong) h = absurd h
faulty_refused P Q f (refusal.Stop (stop.Fault fault)) h = absurd h
faulty_refused P Q f (refusal.Fault fault) h = f fault h

pub refused_then : (P Q : Told → Type 0) → ((told : Told) → P told → Q told) → (none : code_refusal.Refusal) → IsRefused P none → IsRefused Q none
refused_then P Q f (refusal.Stop stop.OutOfMemory) h = tt
refused_then P Q f (refusal.Stop stop.TakesTooLong) h = tt
refused_then P Q f (refusal.Stop (stop.Fault fault)) h = f (has_no_value (fault_of fault)) h
refused_then P Q f (refusal.Fault fault) h = f (refused fault) h

-- a rule, of which what isn't expanded yet came to this
pub rule_told : (w : Answers) (variables : Variables) (recipe : Option (List ℕ)) (targets : List (List ℕ)) (b : Bool × List ℕ) (line : Line) (rest more text : List ℕ) (is_double : Bool)
    (told : Told) → rest ≡ unquoted (Byte 61) line.rest → ExpandsTo w variables rest (gives more) → is_double ≡ b.0 → text ≡ b.1 ++ more →
    rule_of targets is_double recipe line (rule_cut (is_some recipe) line text) ≡ told → Says w variables recipe targets b line (Ok None) told
rule_told w variables recipe targets b line rest more text is_double told is expands double whole same = (
  gives more,
  subst (λ r. ExpandsTo w variables r (gives more)) is expands,
  sym (ap (λ d. rule_of targets d recipe line (rule_cut (is_some recipe) line (b.1 ++ more))) (sym double)
      ∙ ap (λ t. rule_of targets is_double recipe line (rule_cut (is_some recipe) line t)) (sym whole) ∙ same),
)

-- a line with targets of which this is the definition
pub at_targets : (w : Answers) (variables : Variables) (recipe : Option (List ℕ)) (targets : List (List ℕ)) (line : Line) (d : Definition) (told : Told) →
    (targets ≡ [] → ⊥) → defined ((behind_colons line.behind).1 ++ line.rest) ≡ d → Says w variables recipe targets (behind_colons line.behind) line d told →
    AtTargets w variables recipe targets line told
at_targets w variables recipe [] line d told some is says = absurd (some refl)
at_targets w variables recipe (target ∷ more) line d told some is says =
    subst (λ it. Says w variables recipe (target ∷ more) (behind_colons line.behind) line it told) (sym is) says

pub some_copied : {A : Type 0} (o : Option (Bor A)) → is_some o ≡ is_some (option_copied o)
some_copied None = refl
some_copied (Some it) = refl

pub at_end : (w : Answers) (variables : Variables) (recipe : Option (List ℕ)) (text names : List ℕ) (has : Bool) (it : Option code_line.Line) (told : Told) →
    Parts w variables has (length text) [] text (parted_of names it) → has ≡ is_some recipe → it ≡ None → without_colon (behind_spaces names) ≡ told → Comes w variables recipe text told
at_end w variables recipe text names has it told parts same none is = (
  ended names,
  subst (λ i. Parts w variables (is_some recipe) (length text) [] text (parted_of names i)) none
      (subst (λ s. Parts w variables s (length text) [] text (parted_of names it)) same parts),
  sym is,
)

pub at_line : (w : Answers) (variables : Variables) (recipe : Option (List ℕ)) (text names : List ℕ) (targets : List (List ℕ)) (has : Bool) (it : Option code_line.Line) (line : code_line.Line)
    (told : Told) → Parts w variables has (length text) [] text (parted_of names it) → has ≡ is_some recipe → it ≡ Some line → targets ≡ (names_of None names).0 →
    AtTargets w variables recipe targets (line_of names line) told → Comes w variables recipe text told
at_line w variables recipe text names targets has it line told parts same some is h = (
  colon (line_of names line),
  subst (λ i. Parts w variables (is_some recipe) (length text) [] text (parted_of names i)) some
      (subst (λ s. Parts w variables s (length text) [] text (parted_of names it)) same parts),
  subst (λ ts. AtTargets w variables recipe ts (line_of names line) told) is h,
)

pub if_ok_then : {X Y : Type 0} (r : Result X Y) (P Q : X → Type 0) → ((x : X) → P x → Q x) → IfOk r P → IfOk r Q
if_ok_then (Ok x) P Q f p = f x p
if_ok_then (Err y) P Q f p = tt
