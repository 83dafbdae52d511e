-- What is asked for, by how the words and MAKEFLAGS are read.
use Rattle.std.proofs.Common.{◌≡◌, ◌⊎◌, ◌∙◌, inl, inr, ℕ, List, sym, subst}
use Rattle.dmk_reading.specs.Asked.{AsksFor, AsksToLook, AsksToRun}
use Rattle.dmk_reading.specs.declared.options.Mode.{Mode}
use Rattle.dmk_reading.specs.declared.options.Mode.TheVariants as mode
use Rattle.dmk_reading.specs.declared.options.Options.{Options}

no_dry_run : mode.DryRun ≡ mode.Run → ⊥
no_dry_run is = cc

no_question : mode.Question ≡ mode.Run → ⊥
no_question is = cc

pub runs : (options : Options) (flags wanted : List ℕ) → flags ≡ wanted → AsksFor options flags mode.Run → AsksToRun options wanted
runs options flags wanted same asks = subst (λ f. AsksFor options f mode.Run) same asks

pub looks : (options : Options) (flags wanted : List ℕ) (m : Mode) → flags ≡ wanted → (m ≡ mode.DryRun) ⊎ (m ≡ mode.Question) →
    AsksFor options flags m → AsksToLook options wanted
looks options flags wanted m same (inl is) asks =
    (m, (λ run. no_dry_run (sym is ∙ run)), subst (λ f. AsksFor options f m) same asks)
looks options flags wanted m same (inr is) asks =
    (m, (λ run. no_question (sym is ∙ run)), subst (λ f. AsksFor options f m) same asks)
