-- Steps along a line, for its colon.
use Rattle.std.proofs.Common.{◌≡◌, ◌∙◌, ℕ, ◌+◌, ◌<◌, Bool, false, cond, ◌&&◌, ◌==◌, List, length, drop, get_or, refl, ap, arith, Option, Some, None, option_map}
use Rattle.std.proofs.lemmas.List.{drop_more}
use Rattle.mk_recipe.specs.Report.{ends_here, colon_at}

shifted_more : (at : ℕ) (o : Option ℕ) → option_map (λ n. n + at) (option_map (λ n. n + 1) o) ≡ option_map (λ n. n + (at + 1)) o
shifted_more at None = refl
shifted_more at (Some n) = let e : n + 1 + at ≡ n + (at + 1) = omega arith in ap Some e

step : (line : List ℕ) (at : ℕ) (b : Bool) → at < length line → (get_or line at 0 == 58 && ends_here (drop (at + 1) line)) ≡ b
    → option_map (λ n. n + at) (colon_at (drop at line)) ≡ option_map (λ n. n + at) (cond b (Some 0) (option_map (λ n. n + 1) (colon_at (drop (at + 1) line))))
step line at b h test =
    ap (λ bs. option_map (λ n. n + at) (colon_at bs)) (drop_more line at 0 h)
    ∙ ap (λ t. option_map (λ n. n + at) (cond t (Some 0) (option_map (λ n. n + 1) (colon_at (drop (at + 1) line))))) test

-- it stands further on
pub colon-further : (line : List ℕ) (at : ℕ) → at < length line → (get_or line at 0 == 58 && ends_here (drop (at + 1) line)) ≡ false
    → option_map (λ n. n + at) (colon_at (drop at line)) ≡ option_map (λ n. n + (at + 1)) (colon_at (drop (at + 1) line))
colon-further line at h test = step line at false h test ∙ shifted_more at (colon_at (drop (at + 1) line))
