-- Looks at names, one after the other.
use Rattle.std.proofs.Common.{arith}
use Rattle.std.specs.Prelude.{ℕ, ◌≤◌, max, List, Option}
use Rattle.mk_sources.specs.Looks.{Looks, any_name}
use Rattle.mk_nodes.specs.declared.file_look.FileLook.{FileLook}

no_more : (a : ℕ) → a ≤ max a 1
no_more a = omega arith

once_on : (a b c : ℕ) → b ≤ max a 1 → c ≤ max b 1 → c ≤ max a 1
once_on a b c first next = omega (arith, first, next)

-- nothing was looked at
pub looks_none : (allowed : (List ℕ → Option FileLook) → Type 0) (refuses : List ℕ → Type 0) (looked : List ℕ → ℕ) (firsts : List ℕ → Type 0) →
    Looks allowed allowed refuses refuses looked looked firsts firsts
looks_none allowed refuses looked firsts = record {
  narrows = λ looks now. now;
  kept = λ n refused. refused;
  once = λ name. no_more (looked name);
  firsts_stay = λ n first. first;
}

-- one look after the other
pub looks_on : (allowed allowed_b allowed_c : (List ℕ → Option FileLook) → Type 0) (refuses refuses_b refuses_c : List ℕ → Type 0) (looked looked_b looked_c : List ℕ → ℕ)
    (firsts firsts_b firsts_c : List ℕ → Type 0) →
    Looks allowed allowed_b refuses refuses_b looked looked_b firsts firsts_b → Looks allowed_b allowed_c refuses_b refuses_c looked_b looked_c firsts_b firsts_c →
    Looks allowed allowed_c refuses refuses_c looked looked_c firsts firsts_c
looks_on allowed allowed_b allowed_c refuses refuses_b refuses_c looked looked_b looked_c firsts firsts_b firsts_c first next = record {
  narrows = λ looks now. first.narrows looks (next.narrows looks now);
  kept = λ n refused. next.kept n (first.kept n refused);
  once = λ name. once_on (looked name) (looked_b name) (looked_c name) (first.once name) (next.once name);
  firsts_stay = λ n last. first.firsts_stay n (next.firsts_stay n last);
}

-- looks, whichever names were asked for first
pub looks_of_any : (allowed allowed_after : (List ℕ → Option FileLook) → Type 0) (refuses refuses_after : List ℕ → Type 0) (looked looked_after : List ℕ → ℕ)
    (firsts firsts_after : List ℕ → Type 0) → Looks allowed allowed_after refuses refuses_after looked looked_after firsts firsts_after →
    Looks allowed allowed_after refuses refuses_after looked looked_after any_name any_name
looks_of_any allowed allowed_after refuses refuses_after looked looked_after firsts firsts_after looks = record {
  narrows = looks.narrows;
  kept = looks.kept;
  once = looks.once;
  firsts_stay = λ n named. named;
}
