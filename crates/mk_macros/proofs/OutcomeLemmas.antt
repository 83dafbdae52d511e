-- A text has one outcome.
use Rattle.std.proofs.Common.{◌≡◌, ℕ, Bool, true, false, List, [], ◌∷◌, ◌++◌, Some, length, refl, sym, ap, ◌∙◌, subst, arith}
use Rattle.mk_profile.specs.Profile.{is_wide}
use Rattle.mk_macros.specs.Reference.{used, Piece, reference, nested, named, Front, first}
use Rattle.mk_macros.specs.Expansion.{Meaning, Meanings, ExpandsTo, dynamic, defined, Outcome, gives, fails, Expands, ends, goes_on, is_too_long, meets_fault, Adds, adds_bytes, is_unclosed, is_nested, is_undefined, is_function, is_dynamic, is_long_dynamic, is_loop, has_value, has_fault, has_name, has_no_name}

pub same_first : {p q : Piece} {r s : List ℕ} {f : Front} → f ≡ first p r → f ≡ first q s → (p ≡ q) × (r ≡ s)
same_first a b = let e = sym a ∙ b in (cc, cc)

module _ (wide : Bool) (meaning : List ℕ → Meaning) where
  mutual
    pub same_outcome : {opened : List (List ℕ)} {made text : List ℕ} {a b : Outcome} → Expands wide meaning opened made text a → Expands wide meaning opened made text b → a ≡ b
    same_outcome (ends x) (ends y) = refl
    same_outcome (ends x) (goes_on p r added y ad le e) = let h = sym x ∙ y in cc
    same_outcome (ends x) (is_too_long p r added y ad lt) = let h = sym x ∙ y in cc
    same_outcome (ends x) (meets_fault p r f y ad) = let h = sym x ∙ y in cc
    same_outcome (goes_on p r added x ad le e) (ends y) = let h = sym x ∙ y in cc
    same_outcome {opened} {made} {b} (goes_on p r added x ad le e) (goes_on q s more y bd ge d) =
        let same = same_first x y in
        let gave : gives added ≡ gives more = adds_once ad (subst (λ v. Adds wide meaning opened v (gives more)) (sym same.0) bd) in
        let added_same : added ≡ more = cc in
        same_outcome e (subst (λ v. Expands wide meaning opened (made ++ v) r b) (sym added_same) (subst (λ v. Expands wide meaning opened (made ++ more) v b) (sym same.1) d))
    same_outcome {opened} {made} (goes_on p r added x ad le e) (is_too_long q s more y bd lt) =
        let same = same_first x y in
        let gave : gives added ≡ gives more = adds_once ad (subst (λ v. Adds wide meaning opened v (gives more)) (sym same.0) bd) in
        let added_same : length (made ++ added) ≡ length (made ++ more) = ap (λ v. length (made ++ v)) (cc) in
        absurd (omega arith)
    same_outcome {opened} (goes_on p r added x ad le e) (meets_fault q s f y bd) =
        let same = same_first x y in
        let gave : gives added ≡ fails f = adds_once ad (subst (λ v. Adds wide meaning opened v (fails f)) (sym same.0) bd) in cc
    same_outcome (is_too_long p r added x ad lt) (ends y) = let h = sym x ∙ y in cc
    same_outcome {opened} {made} (is_too_long p r added x ad lt) (goes_on q s more y bd ge d) =
        let same = same_first x y in
        let gave : gives added ≡ gives more = adds_once ad (subst (λ v. Adds wide meaning opened v (gives more)) (sym same.0) bd) in
        let added_same : length (made ++ added) ≡ length (made ++ more) = ap (λ v. length (made ++ v)) (cc) in
        absurd (omega arith)
    same_outcome (is_too_long p r added x ad lt) (is_too_long q s more y bd gt) = refl
    same_outcome {opened} (is_too_long p r added x ad lt) (meets_fault q s f y bd) =
        let same = same_first x y in
        let gave : gives added ≡ fails f = adds_once ad (subst (λ v. Adds wide meaning opened v (fails f)) (sym same.0) bd) in cc
    same_outcome (meets_fault p r f x ad) (ends y) = let h = sym x ∙ y in cc
    same_outcome {opened} (meets_fault p r f x ad) (goes_on q s more y bd ge d) =
        let same = same_first x y in
        let gave : fails f ≡ gives more = adds_once ad (subst (λ v. Adds wide meaning opened v (gives more)) (sym same.0) bd) in cc
    same_outcome {opened} (meets_fault p r f x ad) (is_too_long q s more y bd gt) =
        let same = same_first x y in
        let gave : fails f ≡ gives more = adds_once ad (subst (λ v. Adds wide meaning opened v (gives more)) (sym same.0) bd) in cc
    same_outcome {opened} (meets_fault p r f x ad) (meets_fault q s g y bd) =
        let same = same_first x y in
        adds_once ad (subst (λ v. Adds wide meaning opened v (fails g)) (sym same.0) bd)

    adds_once : {opened : List (List ℕ)} {piece : Piece} {a b : Outcome} → Adds wide meaning opened piece a → Adds wide meaning opened piece b → a ≡ b
    adds_once adds_bytes adds_bytes = refl
    adds_once is_unclosed is_unclosed = refl
    adds_once (is_nested w) (is_nested v) = refl
    adds_once (is_nested w) (has_name n v e ad) = cc
    adds_once (is_nested w) (has_no_name f v e) = cc
    adds_once (has_name m w d ad) (is_nested v) = cc
    adds_once {opened} {b} (has_name m w d ad) (has_name n v e bd) =
        let mn : gives m ≡ gives n = same_outcome d e in
        let nm : n ≡ m = cc in
        adds_once ad (subst (λ x. Adds wide meaning opened (named x) b) nm bd)
    adds_once (has_name m w d ad) (has_no_name f v e) = let mf : gives m ≡ fails f = same_outcome d e in cc
    adds_once (has_no_name g w d) (is_nested v) = cc
    adds_once (has_no_name g w d) (has_name n v e bd) = let gn : fails g ≡ gives n = same_outcome d e in cc
    adds_once (has_no_name g w d) (has_no_name f v e) = same_outcome d e
    adds_once (is_undefined x p) (is_undefined y q) = refl
    adds_once (is_undefined x p) (is_function w y q) = let h = sym p ∙ q in cc
    adds_once (is_undefined x p) (is_dynamic v y l) = let h = sym x ∙ y in cc
    adds_once (is_undefined x p) (is_long_dynamic v y l) = let h = sym x ∙ y in cc
    adds_once (is_undefined x p) (is_loop t y i) = let h = sym x ∙ y in cc
    adds_once (is_undefined x p) (has_value t v y n e) = let h = sym x ∙ y in cc
    adds_once (is_undefined x p) (has_fault t f y n e) = let h = sym x ∙ y in cc
    adds_once (is_function v x p) (is_undefined y q) = let h = sym p ∙ q in cc
    adds_once (is_function v x p) (is_function w y q) = let h : Some v ≡ Some w = sym p ∙ q in cc
    adds_once (is_function u x p) (is_dynamic v y l) = let h = sym x ∙ y in cc
    adds_once (is_function u x p) (is_long_dynamic v y l) = let h = sym x ∙ y in cc
    adds_once (is_function u x p) (is_loop t y i) = let h = sym x ∙ y in cc
    adds_once (is_function u x p) (has_value t v y n e) = let h = sym x ∙ y in cc
    adds_once (is_function u x p) (has_fault t f y n e) = let h = sym x ∙ y in cc
    adds_once (is_dynamic u x k) (is_undefined y q) = let h = sym x ∙ y in cc
    adds_once (is_dynamic u x k) (is_function w y q) = let h = sym x ∙ y in cc
    adds_once (is_dynamic u x k) (is_dynamic v y l) = let h : dynamic u ≡ dynamic v = sym x ∙ y in cc
    adds_once (is_dynamic u x k) (is_long_dynamic v y l) =
        let h : dynamic u ≡ dynamic v = sym x ∙ y in let s : length u ≡ length v = ap length (cc) in absurd (omega arith)
    adds_once (is_dynamic u x k) (is_loop t y i) = let h = sym x ∙ y in cc
    adds_once (is_dynamic u x k) (has_value t v y n e) = let h = sym x ∙ y in cc
    adds_once (is_dynamic u x k) (has_fault t f y n e) = let h = sym x ∙ y in cc
    adds_once (is_long_dynamic u x k) (is_undefined y q) = let h = sym x ∙ y in cc
    adds_once (is_long_dynamic u x k) (is_function w y q) = let h = sym x ∙ y in cc
    adds_once (is_long_dynamic u x k) (is_dynamic v y l) =
        let h : dynamic u ≡ dynamic v = sym x ∙ y in let s : length u ≡ length v = ap length (cc) in absurd (omega arith)
    adds_once (is_long_dynamic u x k) (is_long_dynamic v y l) = refl
    adds_once (is_long_dynamic u x k) (is_loop t y i) = let h = sym x ∙ y in cc
    adds_once (is_long_dynamic u x k) (has_value t v y n e) = let h = sym x ∙ y in cc
    adds_once (is_long_dynamic u x k) (has_fault t f y n e) = let h = sym x ∙ y in cc
    adds_once (is_loop s x j) (is_undefined y q) = let h = sym x ∙ y in cc
    adds_once (is_loop s x j) (is_function w y q) = let h = sym x ∙ y in cc
    adds_once (is_loop s x j) (is_dynamic v y l) = let h = sym x ∙ y in cc
    adds_once (is_loop s x j) (is_long_dynamic v y l) = let h = sym x ∙ y in cc
    adds_once (is_loop s x j) (is_loop t y i) = refl
    adds_once (is_loop s x j) (has_value t v y n e) = absurd (n j)
    adds_once (is_loop s x j) (has_fault t f y n e) = absurd (n j)
    adds_once (has_value s u x m d) (is_undefined y q) = let h = sym x ∙ y in cc
    adds_once (has_value s u x m d) (is_function w y q) = let h = sym x ∙ y in cc
    adds_once (has_value s u x m d) (is_dynamic v y l) = let h = sym x ∙ y in cc
    adds_once (has_value s u x m d) (is_long_dynamic v y l) = let h = sym x ∙ y in cc
    adds_once (has_value s u x m d) (is_loop t y i) = absurd (m i)
    adds_once {opened} {piece = reference name use_of} (has_value s u x m d) (has_value t v y n e) =
        let h : defined s ≡ defined t = sym x ∙ y in
        let st : t ≡ s = cc in
        let uv : gives u ≡ gives v = same_outcome d (subst (λ w. Expands wide meaning (name ∷ opened) [] w (gives v)) st e) in
        ap (λ w. gives (used use_of w)) (cc)
    adds_once {opened} {piece = reference name use_of} (has_value s u x m d) (has_fault t f y n e) =
        let h : defined s ≡ defined t = sym x ∙ y in
        let st : t ≡ s = cc in
        let uv : gives u ≡ fails f = same_outcome d (subst (λ w. Expands wide meaning (name ∷ opened) [] w (fails f)) st e) in cc
    adds_once (has_fault s g x m d) (is_undefined y q) = let h = sym x ∙ y in cc
    adds_once (has_fault s g x m d) (is_function w y q) = let h = sym x ∙ y in cc
    adds_once (has_fault s g x m d) (is_dynamic v y l) = let h = sym x ∙ y in cc
    adds_once (has_fault s g x m d) (is_long_dynamic v y l) = let h = sym x ∙ y in cc
    adds_once (has_fault s g x m d) (is_loop t y i) = absurd (m i)
    adds_once {opened} {piece = reference name use_of} (has_fault s g x m d) (has_value t v y n e) =
        let h : defined s ≡ defined t = sym x ∙ y in
        let st : t ≡ s = cc in
        let uv : fails g ≡ gives v = same_outcome d (subst (λ w. Expands wide meaning (name ∷ opened) [] w (gives v)) st e) in cc
    adds_once {opened} {piece = reference name use_of} (has_fault s g x m d) (has_fault t f y n e) =
        let h : defined s ≡ defined t = sym x ∙ y in
        let st : t ≡ s = cc in
        same_outcome d (subst (λ w. Expands wide meaning (name ∷ opened) [] w (fails f)) st e)

-- so a text that nothing has been read of
pub expands_once : (names : Meanings) {text : List ℕ} {a b : Outcome} → ExpandsTo names text a → ExpandsTo names text b → a ≡ b
expands_once names x y = same_outcome (is_wide names.language) names.meaning x y
