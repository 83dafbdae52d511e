-- Tables that are looked through.
use Rattle.std.proofs.Common.{◌≡◌, ℕ, suc, ◌+◌, ◌<◌, Bool, true, false, cond, List, drop, length, get_or, Some, sym, ap, ◌∙◌, arith}
use Rattle.std.proofs.Math.Seq.{drop-cons}
use Rattle.std.specs.Map.{lookup}

module _ {K X : Type 0} (p : K → Bool) (xs : List (K × X)) (i : ℕ) (d : K × X) (within : i < length xs) where
  front : lookup p (drop i xs) ≡ cond (p (get_or xs i d).0) (Some (get_or xs i d).1) (lookup p (drop (suc i) xs))
  front = ap (lookup p) (drop-cons xs i d within)

  pub lookup-passes : p (get_or xs i d).0 ≡ true → lookup p (drop i xs) ≡ Some (get_or xs i d).1
  lookup-passes is = front ∙ ap (λ t. cond t (Some (get_or xs i d).1) (lookup p (drop (suc i) xs))) is

  pub lookup-fails : p (get_or xs i d).0 ≡ false → lookup p (drop (i + 1) xs) ≡ lookup p (drop i xs)
  lookup-fails is =
      let one : suc i ≡ i + 1 = omega arith in
      sym (front ∙ ap (λ t. cond t (Some (get_or xs i d).1) (lookup p (drop (suc i) xs))) is ∙ ap (λ n. lookup p (drop n xs)) one)
