-- Things in order have one outcome where each has one.
use Rattle.std.proofs.Common.{◌≡◌, List, [], ◌∷◌, refl, sym, ap, subst, ◌∙◌, Ok, Err}
use Rattle.mk_reader.specs.declared.item.Item.{Item}
use Rattle.mk_eval.specs.Makefile.{Outcome, with_front, Then, InOrder}

-- at most one outcome is of this kind
abbrev pub IsOne : (Outcome → Type 0) → Type 0
IsOne P = (one other : Outcome) → P one → P other → one ≡ other

module _ {W : Type 0} (after : W → List Item → W) where
  then_one : (world : W) (front : Outcome) (Rest : W → Outcome → Type 0) → ((now : W) → IsOne (Rest now)) → IsOne (Then after world front Rest)
  then_one world (Err fault) Rest h one other a b = a ∙ sym b
  then_one world (Ok items) Rest h one other a b = a.2 ∙ ap (with_front items) (h (after world items) a.0 b.0 a.1 b.1) ∙ sym b.2

  pub order_one : {A : Type 0} (One : W → A → Outcome → Type 0) → ((world : W) (thing : A) → IsOne (One world thing)) → (world : W) (things : List A) → IsOne (InOrder after One world things)
  order_one One h world [] one other a b = a ∙ sym b
  order_one One h world (thing ∷ more) one other a b =
      let Rest : W → Outcome → Type 0 = λ now. InOrder after One now more in
      then_one world b.0 Rest (λ now. order_one One h now more) one other (subst (λ front. Then after world front Rest one) (h world thing a.0 b.0 a.1 b.1) a.2) b.2

-- there is an outcome of this kind
abbrev pub Some_of : (Outcome → Type 0) → Type 0
Some_of P = (o : Outcome) × P o

-- worlds of this kind, which items leave so
module _ {W : Type 0} (after : W → List Item → W) (Fine : W → Type 0) (stays : (world : W) (items : List Item) → Fine world → Fine (after world items)) where
  then_some : (world : W) → Fine world → (front : Outcome) (Rest : W → Outcome → Type 0) → ((now : W) → Fine now → Some_of (Rest now)) → Some_of (Then after world front Rest)
  then_some world fine (Err fault) Rest h = (Err fault, refl)
  then_some world fine (Ok items) Rest h = let rest = h (after world items) (stays world items fine) in (with_front items rest.0, (rest.0, rest.1, refl))

  pub order_some : {A : Type 0} (One : W → A → Outcome → Type 0) → ((world : W) → Fine world → (thing : A) → Some_of (One world thing)) → (world : W) → Fine world → (things : List A) → Some_of (InOrder after One world things)
  order_some One h world fine [] = (Ok [], refl)
  order_some One h world fine (thing ∷ more) =
      let front = h world fine thing in
      let whole = then_some world fine front.0 (λ now. InOrder after One now more) (λ now well. order_some One h now well more) in
      (whole.0, (front.0, front.1, whole.1))
