-- A text has one outcome.
use Rattle.std.proofs.Common.{◌≡◌, ℕ, List, ◌++◌, length, Some, None, refl, sym, ap, ◌∙◌, subst, arith}
use Rattle.mk_pieces.specs.Piece.{Piece, Front}
use Rattle.mk_functions.specs.Variables.{Variables}
use Rattle.mk_functions.specs.Scope.{Site}
use Rattle.mk_functions.specs.Outcome.{Outcome, gives, fails}
use Rattle.mk_functions.specs.Values.{Answers}
use Rattle.mk_functions.specs.Steps.{Step, piece_step, resumed}
use Rattle.mk_functions.specs.Expansion.{Expands, ends, goes_on, is_long, meets_fault, ComesTo, has_answer, is_resumed, is_stopped, is_deep}

abbrev piece_at : Piece → Front → Piece
piece_at p None = p
piece_at p (Some f) = f.0

abbrev rest_at : List ℕ → Front → List ℕ
rest_at r None = r
rest_at r (Some f) = f.1

same_first : {p q : Piece} {r s : List ℕ} {f : Front} → f ≡ Some (p, r) → f ≡ Some (q, s) → (p ≡ q) × (r ≡ s)
same_first {p} {r} a b = let e = sym a ∙ b in (ap (piece_at p) e, ap (rest_at r) e)

module _ (w : Answers) (variables : Variables) where
  mutual
    pub same_outcome : {site : Site} {made text : List ℕ} {a b : Outcome} → Expands w variables site made text a → Expands w variables site made text b → a ≡ b
    same_outcome (ends x) (ends y) = refl
    same_outcome (ends x) (goes_on p r added y ad le e) = let h = sym x ∙ y in cc
    same_outcome (ends x) (is_long p r added y ad lt) = let h = sym x ∙ y in cc
    same_outcome (ends x) (meets_fault p r f y ad) = let h = sym x ∙ y in cc
    same_outcome (goes_on p r added x ad le e) (ends y) = let h = sym x ∙ y in cc
    same_outcome {site} {made} {b} (goes_on p r added x ad le e) (goes_on q s more y bd ge d) =
        let same = same_first x y in
        let gave : gives added ≡ gives more = comes_once ad (subst (λ v. ComesTo w variables site (piece_step w variables site v) (gives more)) (sym same.0) bd) in
        let added_same : added ≡ more = cc in
        same_outcome e (subst (λ v. Expands w variables site (made ++ v) r b) (sym added_same) (subst (λ v. Expands w variables site (made ++ more) v b) (sym same.1) d))
    same_outcome {site} {made} (goes_on p r added x ad le e) (is_long q s more y bd lt) =
        let same = same_first x y in
        let gave : gives added ≡ gives more = comes_once ad (subst (λ v. ComesTo w variables site (piece_step w variables site v) (gives more)) (sym same.0) bd) in
        let added_same : length (made ++ added) ≡ length (made ++ more) = ap (λ v. length (made ++ v)) (cc) in
        absurd (omega arith)
    same_outcome {site} (goes_on p r added x ad le e) (meets_fault q s f y bd) =
        let same = same_first x y in
        let gave : gives added ≡ fails f = comes_once ad (subst (λ v. ComesTo w variables site (piece_step w variables site v) (fails f)) (sym same.0) bd) in cc
    same_outcome (is_long p r added x ad lt) (ends y) = let h = sym x ∙ y in cc
    same_outcome {site} {made} (is_long p r added x ad lt) (goes_on q s more y bd ge d) =
        let same = same_first x y in
        let gave : gives added ≡ gives more = comes_once ad (subst (λ v. ComesTo w variables site (piece_step w variables site v) (gives more)) (sym same.0) bd) in
        let added_same : length (made ++ added) ≡ length (made ++ more) = ap (λ v. length (made ++ v)) (cc) in
        absurd (omega arith)
    same_outcome (is_long p r added x ad lt) (is_long q s more y bd gt) = refl
    same_outcome {site} (is_long p r added x ad lt) (meets_fault q s f y bd) =
        let same = same_first x y in
        let gave : gives added ≡ fails f = comes_once ad (subst (λ v. ComesTo w variables site (piece_step w variables site v) (fails f)) (sym same.0) bd) in cc
    same_outcome (meets_fault p r f x ad) (ends y) = let h = sym x ∙ y in cc
    same_outcome {site} (meets_fault p r f x ad) (goes_on q s more y bd ge d) =
        let same = same_first x y in
        let gave : fails f ≡ gives more = comes_once ad (subst (λ v. ComesTo w variables site (piece_step w variables site v) (gives more)) (sym same.0) bd) in cc
    same_outcome {site} (meets_fault p r f x ad) (is_long q s more y bd gt) =
        let same = same_first x y in
        let gave : fails f ≡ gives more = comes_once ad (subst (λ v. ComesTo w variables site (piece_step w variables site v) (gives more)) (sym same.0) bd) in cc
    same_outcome {site} (meets_fault p r f x ad) (meets_fault q s g y bd) =
        let same = same_first x y in
        comes_once ad (subst (λ v. ComesTo w variables site (piece_step w variables site v) (fails g)) (sym same.0) bd)

    comes_once : {site : Site} {step : Step} {a b : Outcome} → ComesTo w variables site step a → ComesTo w variables site step b → a ≡ b
    comes_once has_answer has_answer = refl
    comes_once {site} {b} (is_resumed {state} u x d r) (is_resumed v y e s) =
        let uv : gives u ≡ gives v = same_outcome d e in
        let vu : v ≡ u = cc in
        comes_once r (subst (λ n. ComesTo w variables site (resumed w variables site state n) b) vu s)
    comes_once (is_resumed u x d r) (is_stopped f y e) = let uf : gives u ≡ fails f = same_outcome d e in cc
    comes_once (is_resumed u x d r) (is_deep y) = let h = sym x ∙ y in cc
    comes_once (is_stopped g x d) (is_resumed v y e s) = let gv : fails g ≡ gives v = same_outcome d e in cc
    comes_once (is_stopped g x d) (is_stopped f y e) = same_outcome d e
    comes_once (is_stopped g x d) (is_deep y) = let h = sym x ∙ y in cc
    comes_once (is_deep x) (is_resumed v y e s) = let h = sym x ∙ y in cc
    comes_once (is_deep x) (is_stopped f y e) = let h = sym x ∙ y in cc
    comes_once (is_deep x) (is_deep y) = refl
