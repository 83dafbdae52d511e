-- What is known of commands once one more is known.
use Rattle.std.proofs.Common.{◌≡◌, ℕ, Bool, true, false, cond, ◌&&◌, List, [], ◌∷◌, ◌++◌, Option, Some, None, refl, sym, ap, subst, ◌∙◌}
use Rattle.std.specs.Prelude.{IfSome}
use Rattle.std.specs.Str.{bytes_eq}
use Rattle.std.proofs.lemmas.Bool.Decides.{Decides-eqb}
use Rattle.std.proofs.lemmas.Slice.Eq.{bytes_eq-Decides}
use Rattle.dmk_files.specs.Commands.{is_command, known_output, AgreeOn}
use Rattle.dmk_files.specs.declared.commands.RunCommand.{RunCommand}

one_more : (is_it : Bool) (output : List ℕ) (after before : Option (List ℕ)) (P : List ℕ → Type 0) → (IfSome after P → IfSome before P) →
    IfSome (cond is_it (Some output) after) P → IfSome (cond is_it (Some output) before) P
one_more true output after before P rest h = h
one_more false output after before P rest h = rest h

-- what holds of what is known later holds of what was known before
known_before : (run more : List RunCommand) (file : List ℕ) (line : ℕ) (text : List ℕ) (P : List ℕ → Type 0) →
    IfSome (known_output (run ++ more) file line text) P → IfSome (known_output run file line text) P
known_before [] more file line text P h = tt
known_before (one ∷ run) more file line text P h =
    one_more (is_command one file line text) one.output (known_output (run ++ more) file line text) (known_output run file line text) P (known_before run more file line text P) h

pub agree_before : (run more after : List RunCommand) (outputs : List ℕ → ℕ → List ℕ → List ℕ) → after ≡ run ++ more → AgreeOn after outputs → AgreeOn run outputs
agree_before run more after outputs is agree file line text =
    known_before run more file line text (λ output. outputs file line text ≡ output) (subst (λ rs. IfSome (known_output rs file line text) (λ output. outputs file line text ≡ output)) is (agree file line text))

itself : (one : RunCommand) → is_command one one.file one.line one.text ≡ true
itself one =
    ap (λ t. t && (bytes_eq one.text one.text && bytes_eq one.file one.file)) ((Decides-eqb one.line one.line).1 refl)
    ∙ ap (λ t. t && bytes_eq one.file one.file) ((bytes_eq-Decides one.text one.text).1 refl)
    ∙ (bytes_eq-Decides one.file one.file).1 refl

past : (is_it : Bool) (other output : List ℕ) (after before : Option (List ℕ)) → (before ≡ None → after ≡ Some output) → cond is_it (Some other) before ≡ None →
    cond is_it (Some other) after ≡ Some output
past true other output after before rest h = absurd (cc h)
past false other output after before rest h = rest h

-- a command that wasn't known is known once it is added
known_then : (run : List RunCommand) (one : RunCommand) → known_output run one.file one.line one.text ≡ None → known_output (run ++ one ∷ []) one.file one.line one.text ≡ Some one.output
known_then [] one absent = ap (λ t. cond t (Some one.output) None) (itself one)
known_then (first ∷ run) one absent =
    past (is_command first one.file one.line one.text) first.output one.output (known_output (run ++ one ∷ []) one.file one.line one.text) (known_output run one.file one.line one.text)
    (known_then run one) absent

-- so an output that agrees is this one
pub output_is : (known : List RunCommand) (file : List ℕ) (line : ℕ) (text output : List ℕ) (outputs : List ℕ → ℕ → List ℕ → List ℕ) →
    known_output known file line text ≡ Some output → AgreeOn known outputs → output ≡ outputs file line text
output_is known file line text output outputs is agree =
    sym (subst (λ (found : Option (List ℕ)). IfSome found (λ o. outputs file line text ≡ o)) is (agree file line text))

pub new_output_is : (run after : List RunCommand) (one : RunCommand) (outputs : List ℕ → ℕ → List ℕ → List ℕ) → after ≡ run ++ one ∷ [] →
    known_output run one.file one.line one.text ≡ None → AgreeOn after outputs → one.output ≡ outputs one.file one.line one.text
new_output_is run after one outputs is absent agree =
    output_is after one.file one.line one.text one.output outputs (ap (λ rs. known_output rs one.file one.line one.text) is ∙ known_then run one absent) agree
