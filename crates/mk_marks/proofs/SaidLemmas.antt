-- What is said of a text is what it is the text of.
use Rattle.std.proofs.Common.{◌≡◌, ◌∙◌, ℕ, List, [], ◌∷◌, length, Option, Some, None, Result, Ok, Err, refl, ap, subst}
use Rattle.st_records.specs.declared.fault.DecodeFault.{DecodeFault}
use Rattle.st_records.specs.Reading.{◌>>=◌, number_at}
use Rattle.st_records.proofs.Fields.{IsBytes, bind_ok, ok_is}
use Rattle.st_marks.specs.declared.mark.Mark.{Mark}
use Rattle.st_marks.specs.Encoding.{IsText}
use Rattle.st_marks.specs.Reading.{source_at, mark_at, many_at}
use Rattle.st_marks.proofs.TextLemmas.{text_from_parts, source_read, count_read, marks_read}
use Rattle.mk_marks.specs.Said.{alone, said_at, said}

-- what is said where the parts were read
said_parts : (text between rest behind : List ℕ) (source : Option (List ℕ)) (count : ℕ) (marks : List Mark) → source_at text ≡ Ok (source, between)
    → number_at between ≡ Ok (count, rest) → many_at mark_at count rest ≡ Ok (marks, behind) → said_at text ≡ Ok ((source, marks), behind)
said_parts text between rest behind source count marks s n m =
    ap (λ r. r >>= λ found. (number_at found.1 >>= λ c. (many_at mark_at c.0 c.1 >>= λ ms. Ok ((found.0, ms.0), ms.1)))) s
    ∙ ap (λ r. r >>= λ c. (many_at mark_at c.0 c.1 >>= λ ms. Ok ((source, ms.0), ms.1))) n
    ∙ ap (λ r. r >>= λ ms. Ok ((source, ms.0), ms.1)) m

pub said_of : (source : Option (List ℕ)) (marks : List Mark) (text : List ℕ) → IsText source marks text → said text ≡ Some (source, marks)
said_of source marks text is =
    ap alone (said_parts text _ _ [] source (length marks) marks (source_read source marks text is) (count_read source marks text is)
    (marks_read source marks text is))

alone_is : {A : Type 0} (r : Result (A × List ℕ) DecodeFault) (a : A) → alone r ≡ Some a → r ≡ Ok (a, [])
alone_is (Ok (b, [])) a e = let same : b ≡ a = cc in ap (λ x. Ok (x, [])) same
alone_is (Ok (b, c ∷ rest)) a e = absurd cc
alone_is (Err fault) a e = absurd cc

pub text_of_said : (source : Option (List ℕ)) (marks : List Mark) (text : List ℕ) → IsBytes text → said text ≡ Some (source, marks) → IsText source marks text
text_of_said source marks text fits e =
    let whole = alone_is (said_at text) (source, marks) e in
    let s = bind_ok (source_at text) (λ found. (number_at found.1 >>= λ c. (many_at mark_at c.0 c.1 >>= λ ms. Ok ((found.0, ms.0), ms.1)))) ((source, marks), []) whole in
    let n = bind_ok (number_at s.0.1) (λ c. (many_at mark_at c.0 c.1 >>= λ ms. Ok ((s.0.0, ms.0), ms.1))) ((source, marks), []) s.2 in
    let m = bind_ok (many_at mark_at n.0.0 n.0.1) (λ ms. Ok ((s.0.0, ms.0), ms.1)) ((source, marks), []) n.2 in
    let made : (Option (List ℕ) × List Mark) × List ℕ = ((s.0.0, m.0.0), m.0.1) in
    let same = ok_is made ((source, marks), []) m.2 in
    let source_is : s.0.0 ≡ source = ap (λ (x : (Option (List ℕ) × List Mark) × List ℕ). x.0.0) same in
    let marks_are : m.0.0 ≡ marks = ap (λ (x : (Option (List ℕ) × List Mark) × List ℕ). x.0.1) same in
    let rest_is : m.0.1 ≡ [] = ap (λ (x : (Option (List ℕ) × List Mark) × List ℕ). x.1) same in
    let read : many_at mark_at n.0.0 n.0.1 ≡ Ok (m.0.0, []) = subst (λ rest. many_at mark_at n.0.0 n.0.1 ≡ Ok (m.0.0, rest)) rest_is m.1 in
    let text_is : IsText s.0.0 m.0.0 text = text_from_parts text s.0.1 n.0.1 s.0.0 n.0.0 m.0.0 fits s.1 n.1 read in
    subst (λ ms. IsText source ms text) marks_are (subst (λ f. IsText f m.0.0 text) source_is text_is)

-- bytes that are no text say nothing
nothing_by : (text : List ℕ) → IsBytes text → (found : Option (Option (List ℕ) × List Mark)) → said text ≡ found
    → ((source : Option (List ℕ)) (marks : List Mark) → IsText source marks text → ⊥) → found ≡ None
nothing_by text fits None e none = refl
nothing_by text fits (Some (source, marks)) e none = absurd (none source marks (text_of_said source marks text fits e))

pub nothing_said : (text : List ℕ) → IsBytes text → ((source : Option (List ℕ)) (marks : List Mark) → IsText source marks text → ⊥) → said text ≡ None
nothing_said text fits none = nothing_by text fits (said text) refl none
