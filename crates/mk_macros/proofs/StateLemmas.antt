-- What the variables of `expand` hold, as the lemmas on its states see them, and how much is left to do.
use Rattle.std.proofs.Common.{◌≡◌, ℕ, ◌+◌, ◌≤◌, Bool, true, false, cond, List, [], ◌∷◌, ◌++◌, length, map, reverse, Option, Some, None, unwrap_or, refl, sym, ap, ◌∙◌, arith, nat_eq, bytes_eq, Bor}
use Rattle.std.specs.Map.{lookup}
use Rattle.std.specs.HashMap.{HashMap, get_by, UpdatesBy}
use Rattle.std.specs.Cmp.Lexicographic.{pointwise}
use Rattle.std.proofs.lemmas.Bool.{false≢true}
use Rattle.std.proofs.lemmas.Slice.Eq.{bytes_eq-Decides}
use Rattle.std.proofs.lemmas.List.{map_push, reverse-append}
use Rattle.mk_macros.specs.Ranks.{Ranks, no_ranks, in_force, ranks_at}
use Rattle.mk_macros.specs.Reference.{named}
use Rattle.mk_macros.specs.Lookup.{Progress, unseen, opened, known, shown_progress, progress_at}
use Rattle.mk_macros.specs.declared.lookup.Progress as own
use Rattle.mk_macros.specs.declared.expansion.Left.{Left as CodeLeft}
use Rattle.mk_macros.specs.declared.expansion.Left.TheVariants as left
use Rattle.mk_macros.specs.declared.expansion.Awaited.{Awaited as CodeAwaited}
use Rattle.mk_macros.specs.declared.expansion.Awaited.TheVariants as awaited
use Rattle.mk_macros.specs.declared.expansion.Caller.{Caller}
use Rattle.mk_macros.proofs.ExpansionLemmas.{Left, at_text, at_piece, Awaited, value_of, name_before, Waiting, SetsProgress}

abbrev pub left_shown : CodeLeft → Left
left_shown (left.Text rest) = at_text rest.now
left_shown (left.Name bytes after) = at_piece (named bytes.items) after.now

abbrev pub awaited_shown : CodeAwaited → Awaited
awaited_shown (awaited.Value name behind) = value_of name.now (left_shown behind)
awaited_shown (awaited.Name after) = name_before after.now

abbrev pub waiting_of : Caller → Waiting
waiting_of c = record { awaited = awaited_shown c.awaited; made = c.made.items }

-- the callers, innermost first
abbrev pub stack_of : List Caller → List Waiting
stack_of cs = reverse (map waiting_of cs)

pub stack_of-push : (cs : List Caller) (c : Caller) → stack_of (cs ++ c ∷ []) ≡ waiting_of c ∷ stack_of cs
stack_of-push cs c = ap reverse (map_push waiting_of cs c) ∙ reverse-append (map waiting_of cs) (waiting_of c ∷ [])

bytes_eq-other : (a b : List ℕ) → (b ≡ a → ⊥) → (t : Bool) → bytes_eq a b ≡ t → bytes_eq a b ≡ false
bytes_eq-other a b apart true e = absurd (apart (sym ((bytes_eq-Decides a b).0 e)))
bytes_eq-other a b apart false e = e

-- after `insert`
pub progress-insert : {S : Type 0} (m n : HashMap (Bor (List ℕ)) own.Progress S) (key : Bor (List ℕ)) (p : own.Progress) →
    UpdatesBy (λ x y. pointwise nat_eq x.now y.now) (λ k. pointwise nat_eq key.now k.now) m n (Some p) →
    SetsProgress (progress_at m) key.now (shown_progress (Some p)) (progress_at n)
progress-insert m n key p updates =
    let reads : (bs : List ℕ) → get_by (λ k. pointwise nat_eq bs k.now) n ≡ cond (bytes_eq key.now bs) (Some p) (get_by (λ k. pointwise nat_eq bs k.now) m) =
    λ bs. updates.0 (record { ref_ptr = (0, 0); now = bs }) in
    let itself : bytes_eq key.now key.now ≡ true = (bytes_eq-Decides key.now key.now).1 refl in
    record {
      at = ap shown_progress (reads key.now) ∙ rw itself refl;
      others = λ bs apart.
          let other : bytes_eq key.now bs ≡ false = bytes_eq-other key.now bs apart (bytes_eq key.now bs) refl in
          ap shown_progress (reads bs) ∙ rw other refl;
    }

-- what a macro that wasn't met yet still costs
abbrev pub weight : Progress → ℕ → ℕ
weight unseen n = n
weight opened n = 0
weight (known value) n = 0

abbrev pub text_size : Ranks → ℕ
text_size d = length (unwrap_or (in_force d) []) + 2

abbrev pub unseen_cost : (List ℕ → Progress) → List (List ℕ × Ranks) → ℕ
unseen_cost state [] = 0
unseen_cost state (e ∷ es) = weight (state e.0) (text_size e.1) + unseen_cost state es

pub unseen_cost-falls : (state state' : List ℕ → Progress) → ((n : List ℕ) (k : ℕ) → weight (state' n) k ≤ weight (state n) k) →
    (es : List (List ℕ × Ranks)) → unseen_cost state' es ≤ unseen_cost state es
unseen_cost-falls state state' falls [] = omega arith
unseen_cost-falls state state' falls (e ∷ es) =
    omega (arith, falls e.0 (text_size e.1), unseen_cost-falls state state' falls es)

pub has_definition : (o : Option Ranks) (text : List ℕ) → in_force (unwrap_or o no_ranks) ≡ Some text → (d : Ranks) × (o ≡ Some d) × (in_force d ≡ Some text)
has_definition None text e = cc
has_definition (Some d) text e = (d, refl, e)

module _ (state state' : List ℕ → Progress) (name text : List ℕ) (is_new : state name ≡ unseen) (sets : SetsProgress state name opened state') where
  opens : (n : List ℕ) (k : ℕ) → weight (state' n) k ≤ weight (state n) k
  opens n k = opens_at n k (bytes_eq n name) refl
    where
      opens_at : (n : List ℕ) (k : ℕ) (t : Bool) → bytes_eq n name ≡ t → weight (state' n) k ≤ weight (state n) k
      opens_at n k true e = let same = (bytes_eq-Decides n name).0 e in rw same (rw (sets.at, is_new) (omega arith))
      opens_at n k false e = rw (sets.others n (λ same. absurd (false≢true (sym e ∙ (bytes_eq-Decides n name).1 same)))) (omega arith)

  enter_at : (e : List ℕ × Ranks) (es : List (List ℕ × Ranks)) (d : Ranks) → in_force d ≡ Some text → (t : Bool) → bytes_eq name e.0 ≡ t →
      (lookup (bytes_eq name) es ≡ Some d → unseen_cost state' es + (length text + 2) ≤ unseen_cost state es) →
      lookup (bytes_eq name) (e ∷ es) ≡ Some d → unseen_cost state' (e ∷ es) + (length text + 2) ≤ unseen_cost state (e ∷ es)
  enter_at e es d has true here ih found =
      let first : Some e.1 ≡ Some d = simp here at found in
      let is_d : e.1 ≡ d = cc in
      let size : text_size e.1 ≡ length text + 2 = ap text_size is_d ∙ ap (λ o. length (unwrap_or o []) + 2) has in
      let key : e.0 ≡ name = sym ((bytes_eq-Decides name e.0).0 here) in
      let before : weight (state e.0) (text_size e.1) ≡ length text + 2 = rw (key, is_new) size in
      let after : weight (state' e.0) (text_size e.1) ≡ 0 = rw (key, sets.at) refl in
      omega (arith, before, after, unseen_cost-falls state state' opens es)
  enter_at e es d has false here ih found =
      let later : lookup (bytes_eq name) es ≡ Some d = simp here at found in
      omega (arith, ih later, opens e.0 (text_size e.1))

  unseen_cost-enter_from : (es : List (List ℕ × Ranks)) (d : Ranks) → in_force d ≡ Some text → lookup (bytes_eq name) es ≡ Some d → unseen_cost state' es + (length text + 2) ≤ unseen_cost state es
  unseen_cost-enter_from [] d has found = cc
  unseen_cost-enter_from (e ∷ es) d has found = enter_at e es d has (bytes_eq name e.0) refl (unseen_cost-enter_from es d has) found

  -- a macro that is entered pays for its text
  pub unseen_cost-enter : (es : List (List ℕ × Ranks)) → in_force (ranks_at es name) ≡ Some text → unseen_cost state' es + (length text + 2) ≤ unseen_cost state es
  unseen_cost-enter es has =
      let found = has_definition (lookup (bytes_eq name) es) text has in
      unseen_cost-enter_from es found.0 found.2 found.1

-- a macro whose value is known costs no more
pub unseen_cost-leave : (state state' : List ℕ → Progress) (name value : List ℕ) → SetsProgress state name (known value) state' →
    (es : List (List ℕ × Ranks)) → unseen_cost state' es ≤ unseen_cost state es
unseen_cost-leave state state' name value sets es = unseen_cost-falls state state' (λ n k. leaves n k (bytes_eq n name) refl) es
  where
    leaves : (n : List ℕ) (k : ℕ) (t : Bool) → bytes_eq n name ≡ t → weight (state' n) k ≤ weight (state n) k
    leaves n k true e = let same = (bytes_eq-Decides n name).0 e in rw same (rw sets.at (omega arith))
    leaves n k false e = rw (sets.others n (λ same. absurd (false≢true (sym e ∙ (bytes_eq-Decides n name).1 same)))) (omega arith)

-- a macro that is known without being begun pays for its text
pub unseen_cost-know : (state state' : List ℕ → Progress) (name text : List ℕ) → state name ≡ unseen → SetsProgress state name (known text) state' →
    (es : List (List ℕ × Ranks)) → in_force (ranks_at es name) ≡ Some text → unseen_cost state' es + (length text + 2) ≤ unseen_cost state es
unseen_cost-know state state' name text is_new sets es has =
    let between : List ℕ → Progress = λ n. cond (bytes_eq n name) opened (state n) in
    let itself : bytes_eq name name ≡ true = (bytes_eq-Decides name name).1 refl in
    let differs : (n : List ℕ) → (n ≡ name → ⊥) → bytes_eq n name ≡ false = λ n apart. bytes_eq-other n name (λ e. apart (sym e)) (bytes_eq n name) refl in
    let begins : SetsProgress state name opened between = record {
      at = ap (λ t. cond t opened (state name)) itself;
      others = λ n apart. ap (λ t. cond t opened (state n)) (differs n apart);
    } in
    let leaves : SetsProgress between name (known text) state' = record { at = sets.at; others = λ n apart. sets.others n apart ∙ sym (begins.others n apart) } in
    omega (arith, unseen_cost-enter state between name text is_new begins es has, unseen_cost-leave between state' name text leaves es)

-- what is left to read
abbrev pub left_cost : CodeLeft → ℕ
left_cost (left.Text rest) = length rest.now
left_cost (left.Name bytes after) = length after.now + 1

abbrev pub awaited_cost : CodeAwaited → ℕ
awaited_cost (awaited.Value name behind) = left_cost behind + 1
awaited_cost (awaited.Name after) = length after.now + 2

-- what the callers still have to read
abbrev pub callers_cost : List Caller → ℕ
callers_cost [] = 0
callers_cost (c ∷ cs) = awaited_cost c.awaited + callers_cost cs

pub callers_cost-push : (cs : List Caller) (c : Caller) → callers_cost (cs ++ c ∷ []) ≡ callers_cost cs + awaited_cost c.awaited
callers_cost-push [] c = omega arith
callers_cost-push (d ∷ cs) c = omega (arith, callers_cost-push cs c)
