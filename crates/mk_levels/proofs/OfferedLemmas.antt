-- What is offered of a target, and that its record may stand in a state.
use Rattle.std.proofs.Common.{◌≡◌, ℕ, Bool, true, false, List, [], ◌∷◌, Option, None, Some, IfSome, find, cond, arith, refl, sym, ap, ◌∙◌}
use Rattle.std.specs.FinMap as map
use Rattle.std.specs.List.{list_all}
use Rattle.std.proofs.lemmas.Bool.{and_parts}
use Rattle.st_records.specs.Limits.{IsGoodIn, IsWithinIn}
use Rattle.st_records.specs.Parts.{IsMarked}
use Rattle.st_records.specs.declared.version.Form.TheVariants as forms
use Rattle.st_records.specs.declared.record.Explicit.{Explicit}
use Rattle.st_records.specs.declared.record.Explicit.TheVariants.{Unknown, Known, Marked}
use Rattle.st_records.specs.declared.record.Entry.{Entry}
use Rattle.st_state.specs.State.{StateMap}
use Rattle.mk_levels.specs.declared.level.Level.{Level}
use Rattle.mk_levels.specs.Offered.{is_done, has_marks, is_settled, is_settled_by, tells, knows, IsOffered}
use Rattle.mk_levels.specs.Picked.{done_of}

-- what the first level that knows the target has of it
pub offered : (own : StateMap) (levels : List Level) (name : List ℕ) (level : Level) (found : Option Entry) →
    is_settled (map.get own name) ≡ true → list_all (is_settled_by name) levels ≡ true → Some level ≡ find (knows name) levels →
    found ≡ map.get level.state name → IfSome found (IsOffered own levels name)
offered own levels name level None own_settled settled is_first known = tt
offered own levels name level (Some e) own_settled settled is_first known = record {
  own_settled = own_settled;
  levels_settled = settled;
  level = level;
  is_first = sym is_first;
  is_known = sym known;
}

first_passes : (p : Level → Bool) (ys : List Level) (y x : Level) (b : Bool) → p y ≡ b → find p (y ∷ ys) ≡ Some x → (find p ys ≡ Some x → p x ≡ true) → p x ≡ true
first_passes p ys y x true is found more =
    let same : Some y ≡ Some x = ap (λ (b : Bool). cond b (Some y) (find p ys)) (sym is) ∙ found in
    let one : y ≡ x = cc in
    ap p (sym one) ∙ is
first_passes p ys y x false is found more = more (ap (λ (b : Bool). cond b (Some y) (find p ys)) (sym is) ∙ found)

find_passes : (p : Level → Bool) (xs : List Level) (x : Level) → find p xs ≡ Some x → p x ≡ true
find_passes p [] x found = cc
find_passes p (y ∷ ys) x found = first_passes p ys y x (p y) refl found (find_passes p ys x)

marks_known : (e : Explicit) → has_marks e ≡ true → IsMarked e
marks_known Unknown is = cc
marks_known (Known names) is = cc
marks_known (Marked names marks) is = tt

-- what is offered says which files the target was made of
pub offer_marked : (own : StateMap) (levels : List Level) (name : List ℕ) (e : Entry) → IsOffered own levels name e → IsMarked e.explicit
offer_marked own levels name e is =
    let telling : tells (Some e) ≡ true = ap tells (sym is.is_known) ∙ find_passes (knows name) levels is.level is.is_first in
    marks_known e.explicit (and_parts (is_done e.phase) (has_marks e.explicit) telling).1

pub good_offer : (own : StateMap) (levels : List Level) (name : List ℕ) (e : Entry) → IsOffered own levels name e →
    IsWithinIn forms.Marked (done_of name e) → IsGoodIn forms.Marked (done_of name e)
good_offer own levels name e is within = record {
  within = within;
  status = omega (arith);
  explicit = offer_marked own levels name e is;
}
