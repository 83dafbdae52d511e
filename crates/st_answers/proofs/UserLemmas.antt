-- What was made of a name.
use Rattle.std.proofs.Common.{◌≡◌, ◌∙◌, ◌||◌, Some, ℕ, true, false, List, [], ◌∷◌, ◌++◌, ◌+◌, codes, drop, slice_get, append_assoc, append-nil, refl, sym, ap}
use Rattle.std.specs.Prelude.{filter, cond, map as list_map}
use Rattle.std.specs.List.{list_any}
use Rattle.st_records.specs.declared.record.Entry.{Entry}
use Rattle.st_answers.specs.Lines.{row, rows}
use Rattle.st_answers.specs.Users.{stands_on, user_rows}
use Rattle.st_answers.proofs.Loops.{behind}

-- ---- some entry

pub any_here : (name : List ℕ) (es : List (List ℕ × Entry)) (place : ℕ) (e : List ℕ × Entry) → slice_get es place ≡ Some e → true ≡ stands_on name e
    → list_any (stands_on name) (drop place es) ≡ list_any (stands_on name) es → true ≡ list_any (stands_on name) es
any_here name es place e found stands whole =
    ap (λ b. b || list_any (stands_on name) (drop (place + 1) es)) stands ∙ ap (list_any (stands_on name)) (sym (behind es place e found)) ∙ whole

pub none_here : (name : List ℕ) (es : List (List ℕ × Entry)) (place : ℕ) (e : List ℕ × Entry) → slice_get es place ≡ Some e → false ≡ stands_on name e
    → list_any (stands_on name) (drop place es) ≡ list_any (stands_on name) es → list_any (stands_on name) (drop (place + 1) es) ≡ list_any (stands_on name) es
none_here name es place e found stands whole =
    ap (λ b. b || list_any (stands_on name) (drop (place + 1) es)) stands ∙ ap (list_any (stands_on name)) (sym (behind es place e found)) ∙ whole

-- ---- rows of entries

pub one_user : (name : List ℕ) (e : List ℕ × Entry) → true ≡ stands_on name e → row (codes "user") e.0 ≡ user_rows name (e ∷ [])
one_user name e stands =
    sym (append-nil (row (codes "user") e.0)) ∙ ap (λ b. rows (codes "user") (list_map (λ x. x.0) (cond b (e ∷ []) []))) stands

pub no_user : (name : List ℕ) (e : List ℕ × Entry) → false ≡ stands_on name e → [] ≡ user_rows name (e ∷ [])
no_user name e stands = ap (λ b. rows (codes "user") (list_map (λ x. x.0) (cond b (e ∷ []) []))) stands

users_more : (name : List ℕ) (e : List ℕ × Entry) (es : List (List ℕ × Entry)) → user_rows name (e ∷ es) ≡ user_rows name (e ∷ []) ++ user_rows name es
users_more name e es =
    let behind_it = filter (stands_on name) es in
    elim (stands_on name e) as (λ b. rows (codes "user") (list_map (λ x. x.0) (cond b (e ∷ behind_it) behind_it)) ≡ rows (codes "user") (list_map (λ x. x.0) (cond b (e ∷ []) [])) ++ user_rows name es) [
      | true ↦ ap (λ t. t ++ user_rows name es) (sym (append-nil (row (codes "user") e.0)))
      | false ↦ refl
    ]

-- one more entry
pub users_moved : (name text old : List ℕ) (es : List (List ℕ × Entry)) (place : ℕ) (e : List ℕ × Entry) → slice_get es place ≡ Some e
    → text ++ user_rows name (drop place es) ≡ old ++ user_rows name es
    → (text ++ user_rows name (e ∷ [])) ++ user_rows name (drop (place + 1) es) ≡ old ++ user_rows name es
users_moved name text old es place e found whole =
    let rest = drop (place + 1) es in
    append_assoc text (user_rows name (e ∷ [])) (user_rows name rest)
    ∙ ap (λ t. text ++ t) (sym (users_more name e rest))
    ∙ ap (λ xs. text ++ user_rows name xs) (sym (behind es place e found))
    ∙ whole
