-- What is told one behind the other.
use Rattle.std.proofs.Common.{◌≡◌, List, [], ◌∷◌, ◌++◌, Ok, Err, refl, sym, ap, ◌∙◌, append_assoc}
use Rattle.mk_reader.specs.declared.item.Item.{Item}
use Rattle.mk_gnu_items.specs.declared.fault.Refusal.{Refusal}
use Rattle.mk_gnu_items.specs.Rules.{Outcome, joined}

abbrev items_in : Outcome → List Item
items_in (Ok items) = items
items_in (Err why) = []

-- behind nothing it is the same
pub joined_nothing : (told : Outcome) → joined (Ok []) told ≡ told
joined_nothing (Ok items) = refl
joined_nothing (Err why) = refl

-- what was told so far, and then the next, is what is told behind that
pub joined_next : (made out : List Item) (told more : Outcome) → joined (Ok made) told ≡ Ok out → joined (Ok made) (joined told more) ≡ joined (Ok out) more
joined_next made out (Err why) more is = absurd (cc is)
joined_next made out (Ok items) (Err why) is = refl
joined_next made out (Ok items) (Ok more) is =
    ap Ok (sym (append_assoc made items more) ∙ ap (λ all. all ++ more) (ap items_in is))

-- the same of one item
pub joined_one : (made : List Item) (one : Item) (told more : Outcome) → told ≡ Ok (one ∷ []) →
    joined (Ok made) (joined told more) ≡ joined (Ok (made ++ one ∷ [])) more
joined_one made one told more is = joined_next made (made ++ one ∷ []) told more (ap (joined (Ok made)) is)

-- a refusal is that of what was told last
pub joined_refused : (made : List Item) (told : Outcome) (why : Refusal) → joined (Ok made) told ≡ Err why → told ≡ Err why
joined_refused made (Err other) why is = is
joined_refused made (Ok items) why is = absurd (cc is)

pub joined_fault : (made : List Item) (told more : Outcome) (why : Refusal) → told ≡ Err why → joined (Ok made) (joined told more) ≡ Err why
joined_fault made told more why is = ap (λ o. joined (Ok made) (joined o more)) is
