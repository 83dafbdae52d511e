-- Texts that are sent one behind the other.
use Rattle.std.proofs.Common.{◌≡◌, ◌∙◌, Option, Result, Ok, Err, ℕ, List, [], ◌++◌, append_assoc, append-nil, length-append, sym, ap, arith, subst, OnOk, OnErr}
use Rattle.std.specs.Result.{IsErrAnd}
use Rattle.std.specs.Io.KnownBytes.{Appends}
use Rattle.std.proofs.KnownBytes.{Appends-nil, Appends-trans}
use Rattle.st_listing.specs.Writing.{AppendsPart, Sends, SendsOrPart}

-- nothing is sent, and nothing happens
pub sends_nothing : (a : Option (List ℕ)) (held : List ℕ) → Sends a a held held []
sends_nothing a held = record { front = []; parts = append-nil held; appended = Appends-nil a }

-- what waited went out, and then a text
pub sends_out : (a b c : Option (List ℕ)) (h k x : List ℕ) → Sends a b h k [] → k ≡ [] → Appends b c x → Sends a c h k x
sends_out a b c h k x p none out = record {
  front = p.front ++ x;
  parts = ap (λ t. t ++ x) (sym (append-nil h) ∙ p.parts)
      ∙ ap (λ t. (p.front ++ t) ++ x) none
      ∙ ap (λ t. t ++ x) (append-nil p.front)
      ∙ sym (append-nil (p.front ++ x))
      ∙ ap (λ t. (p.front ++ x) ++ t) (sym none);
  appended = Appends-trans a b c p.front x p.appended out;
}

pub sends_more : (a b c : Option (List ℕ)) (h k l x y : List ℕ) → Sends a b h k x → Sends b c k l y → Sends a c h l (x ++ y)
sends_more a b c h k l x y p q = record {
  front = p.front ++ q.front;
  parts = sym (append_assoc h x y)
      ∙ ap (λ t. t ++ y) p.parts
      ∙ append_assoc p.front k y
      ∙ ap (λ t. p.front ++ t) q.parts
      ∙ sym (append_assoc p.front q.front l);
  appended = Appends-trans a b c p.front q.front p.appended q.appended;
}

pub sends_nothing_more : (a b c : Option (List ℕ)) (h k l x : List ℕ) → Sends a b h k x → Sends b c k l [] → Sends a c h l x
sends_nothing_more a b c h k l x p q = subst (Sends a c h l) (append-nil x) (sends_more a b c h k l x [] p q)

-- a part of what waits and of a text, behind what was sent before
pub part_behind : (a b c : Option (List ℕ)) (h k x y : List ℕ) → Sends a b h k x → AppendsPart b c (k ++ y) → AppendsPart a c (h ++ (x ++ y))
part_behind a b c h k x y p q = record {
  front = p.front ++ q.front;
  rest = q.rest;
  parts = sym (append_assoc h x y)
      ∙ ap (λ t. t ++ y) p.parts
      ∙ append_assoc p.front k y
      ∙ ap (λ t. p.front ++ t) q.parts
      ∙ sym (append_assoc p.front q.front q.rest);
  missing = q.missing;
  appended = Appends-trans a b c p.front q.front p.appended q.appended;
}

-- a part of a text is a part of a longer one
pub part_of_more : (a b : Option (List ℕ)) (h x y : List ℕ) → AppendsPart a b (h ++ x) → AppendsPart a b (h ++ (x ++ y))
part_of_more a b h x y p = record {
  front = p.front;
  rest = p.rest ++ y;
  parts = sym (append_assoc h x y) ∙ ap (λ t. t ++ y) p.parts ∙ append_assoc p.front p.rest y;
  missing = let longer = length-append p.rest y in let some = p.missing in omega arith;
  appended = p.appended;
}

-- a part of a text in the midst of another
pub part_within : (a b c : Option (List ℕ)) (h k x y z all : List ℕ) → all ≡ x ++ (y ++ z) → Sends a b h k x → AppendsPart b c (k ++ y) → AppendsPart a c (h ++ all)
part_within a b c h k x y z all e p q =
    subst (λ t. AppendsPart a c (h ++ t)) (sym e) (part_behind a b c h k x (y ++ z) p (part_of_more b c k y z q))

-- two texts, the second sent by a call with this answer
pub sends_behind : {T E : Type 0} (r : Result T E) (a b c : Option (List ℕ)) (h k l x y : List ℕ) → Sends a b h k x → SendsOrPart r b c k l y → SendsOrPart r a c h l (x ++ y)
sends_behind (Ok v) a b c h k l x y p q = sends_more a b c h k l x y p q
sends_behind (Err e) a b c h k l x y p q = part_behind a b c h k x y p q

-- the exit of a `?`
pub at_error : {T E : Type 0} (Q : E → Type 0) (r : Result T E) (a b : Option (List ℕ)) (h k text : List ℕ) → IsErrAnd r Q → AppendsPart a b (h ++ text) → SendsOrPart r a b h k text
at_error Q (Ok v) a b h k text e p = absurd e
at_error Q (Err v) a b h k text e p = p

-- a text that was written by a call with this answer, when nothing waits any more
pub sends_out_behind : {T E : Type 0} (r : Result T E) (a b c : Option (List ℕ)) (h k x : List ℕ) → Sends a b h k [] → k ≡ [] → OnOk r (Appends b c x) → OnErr r (AppendsPart b c x)
    → SendsOrPart r a c h k x
sends_out_behind (Ok v) a b c h k x p none out part = sends_out a b c h k x p none out
sends_out_behind (Err e) a b c h k x p none out part =
    part_behind a b c h k [] x p (subst (λ t. AppendsPart b c (t ++ x)) (sym none) part)

-- what waited and a text that was sent, where a call with this answer writes what waits
pub all_but_a_part : {T E : Type 0} (r : Result T E) (a b c : Option (List ℕ)) (h k x : List ℕ) → Sends a b h k x → OnErr r (AppendsPart b c k) → OnErr r (AppendsPart a c (h ++ x))
all_but_a_part (Ok v) a b c h k x p part = tt
all_but_a_part (Err e) a b c h k x p part = record {
  front = p.front ++ part.front;
  rest = part.rest;
  parts = p.parts ∙ ap (λ t. p.front ++ t) part.parts ∙ sym (append_assoc p.front part.front part.rest);
  missing = part.missing;
  appended = Appends-trans a b c p.front part.front p.appended part.appended;
}

-- the last of the texts that a text consists of, sent by a call with this answer
pub sends_last : {T E : Type 0} (r : Result T E) (a b c : Option (List ℕ)) (h k l x y all : List ℕ) → all ≡ x ++ y → Sends a b h k x → SendsOrPart r b c k l y → SendsOrPart r a c h l all
sends_last r a b c h k l x y all e p q = subst (λ t. SendsOrPart r a c h l t) (sym e) (sends_behind r a b c h k l x y p q)
