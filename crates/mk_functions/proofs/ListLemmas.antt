-- Lists of texts that grow and shrink at their ends, and what holds of an answer.
use Rattle.std.proofs.Common.{◌≡◌, ℕ, ◌+◌, ◌-◌, ◌<◌, List, [], ◌∷◌, ◌++◌, map, reverse, replicate, length, Result, Ok, Err, IfOk, refl, sym, ap, ◌∙◌, arith, Vec}
use Rattle.std.proofs.lemmas.List.{append_assoc, append-nil, map_push, reverse-append, reverse-reverse, length-map, length-append, replicate-append-replicate}
use Rattle.std.specs.declared.alloc.Global.{Global}
use Rattle.mk_functions.specs.Scope.{padded}
use Rattle.mk_functions.specs.Shown.{texts}

map-reverse : {X Y : Type 0} (f : X → Y) (xs : List X) → map f (reverse xs) ≡ reverse (map f xs)
map-reverse f [] = refl
map-reverse f (x ∷ xs) =
    ap (map f) (reverse-append (x ∷ []) xs) ∙ map_push f (reverse xs) x ∙ ap (λ l. l ++ f x ∷ []) (map-reverse f xs) ∙ sym (reverse-append (f x ∷ []) (map f xs))

texts-push : (vs : List (Vec ℕ Global)) (v : Vec ℕ Global) → texts (vs ++ v ∷ []) ≡ texts vs ++ v.items ∷ []
texts-push vs v = map_push (λ v. v.items) vs v

pub turned : (vs made : List (Vec ℕ Global)) (old all : List (List ℕ)) → made ≡ reverse vs → old ≡ [] → texts vs ++ old ≡ all → reverse (texts made) ≡ all
turned vs made old all is end h =
    ap (λ m. reverse (texts m)) is ∙ ap reverse (map-reverse (λ v. v.items) vs) ∙ reverse-reverse (texts vs) ∙ sym (append-nil (texts vs)) ∙ ap (λ e. texts vs ++ e) (sym end) ∙ h

pub padded-more : (count : ℕ) (vs : List (Vec ℕ Global)) (v : Vec ℕ Global) → length vs < count → v.items ≡ [] → padded count (texts (vs ++ v ∷ [])) ≡ padded count (texts vs)
padded-more count vs v less empty =
    let a = length-map vs (λ v. v.items) in
    let b = length-append (texts vs) ([] ∷ []) in
    let n : 1 + (count - length (texts vs ++ [] ∷ [])) ≡ count - length (texts vs) = omega (arith, a, b, less) in
    ap (padded count) (texts-push vs v ∙ ap (λ x. texts vs ++ x ∷ []) empty)
    ∙ append_assoc (texts vs) ([] ∷ []) (replicate (count - length (texts vs ++ [] ∷ [])) [])
    ∙ ap (λ t. texts vs ++ t) (replicate-append-replicate 1 (count - length (texts vs ++ [] ∷ [])) [] ∙ ap (λ n. replicate n []) n)

pub ok-map : {X E : Type 0} (P Q : X → Type 0) (r : Result X E) → ((x : X) → P x → Q x) → IfOk r P → IfOk r Q
ok-map P Q (Ok x) f h = f x h
ok-map P Q (Err e) f h = h
