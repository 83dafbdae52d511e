-- Which prerequisites agree with all that a tree answered.
use Rattle.std.specs.Prelude.{◌≡◌, ℕ, List, Option, refl}
use Rattle.st_records.specs.declared.record.Entry.{Entry}
use Rattle.mk_nodes.specs.Prerequisites.{inputs_of, prerequisites_of}
use Rattle.mk_rule_lines.specs.declared.rule_line.RuleLine.{RuleLine}
use Rattle.mk_nodes.specs.declared.file_look.FileLook.{FileLook}

-- the prerequisites are those that the inputs give, for some looks that are still possible
pub record IsAllowed (allowed : (List ℕ → Option FileLook) → Type 0) (lines : List RuleLine) (entries : (name : List ℕ) → Option Entry) (of : List ℕ → List (List ℕ)) : Type 0 where
  pub looks : List ℕ → Option FileLook
  pub now : allowed looks
  pub is : of ≡ prerequisites_of (inputs_of lines entries looks)

-- some prerequisites are always allowed: those by looks that are
pub allowed_by : (allowed : (List ℕ → Option FileLook) → Type 0) (lines : List RuleLine) (entries : (name : List ℕ) → Option Entry) (looks : List ℕ → Option FileLook) → allowed looks →
    IsAllowed allowed lines entries (prerequisites_of (inputs_of lines entries looks))
allowed_by allowed lines entries looks now = record { looks = looks; now = now; is = refl }
