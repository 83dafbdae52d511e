-- What is read of a text is what it says, and of what it says all is read.
use Rattle.std.proofs.Common.{◌≡◌, ℕ, zero, suc, ◌<◌, ◌^◌, List, [], ◌∷◌, ◌++◌, length, Result, Ok, refl, sym, ap, ◌∙◌, subst}
use Rattle.std.specs.Prelude.{Option, IsErr, replicate}
use Rattle.std.specs.List.{flat_map}
use Rattle.std.proofs.lemmas.List.{append-nil}
use Rattle.st_records.specs.declared.fault.DecodeFault.{DecodeFault}
use Rattle.st_records.specs.Encoding.{number}
use Rattle.st_records.specs.Reading.{◌>>=◌, number_at}
use Rattle.st_records.proofs.Fields.{IsBytes, bind_ok, ok_is, number_reads}
use Rattle.st_marks.specs.declared.mark.Mark.{Mark}
use Rattle.st_marks.specs.declared.mark.Mark.TheVariants as mark
use Rattle.st_marks.specs.Encoding.{mark_fields, source_fields, FitsMark, IsText}
use Rattle.st_marks.specs.Reading.{source_at, mark_at, many_at, mark_or_unknown, marks_in}
use Rattle.st_marks.proofs.FaultLemmas.{gives_nothing}
use Rattle.st_marks.proofs.ManyLemmas.{many_take, many_again}
use Rattle.st_marks.proofs.FieldLemmas.{mark_reads, source_reads}

-- how many marks there are, and each of them
abbrev listed : List Mark → List ℕ
listed marks = number (length marks) ++ flat_map mark_fields marks

-- ---- what is read was written so

pub text_from_parts : (text between rest : List ℕ) (source : Option (List ℕ)) (count : ℕ) (marks : List Mark) → IsBytes text
    → source_at text ≡ Ok (source, between) → number_at between ≡ Ok (count, rest) → many_at mark_at count rest ≡ Ok (marks, []) → IsText source marks text
text_from_parts text between rest source count marks fits s n m =
    let first = source_reads.takes text (source, between) fits s in
    let second = number_reads.takes between (count, rest) first.0.rest_fits n in
    let third = many_take mark_fields FitsMark mark_at mark_reads count rest (marks, []) second.0.rest_fits m in
    let marks_are : rest ≡ flat_map mark_fields marks = third.0.parts ∙ append-nil (flat_map mark_fields marks) in
    let list_is : between ≡ listed marks =
    second.0.parts ∙ ap (λ (t : List ℕ). number count ++ t) marks_are ∙ ap (λ (k : ℕ). number k ++ flat_map mark_fields marks) (sym third.1) in
    record {
      source_fits = first.1;
      count_fits = subst (λ (k : ℕ). k < 2 ^ 32) (sym third.1) second.1;
      marks_fit = third.2;
      text_is = first.0.parts ∙ ap (λ (t : List ℕ). source_fields source ++ t) list_is;
    }

-- ---- what is written is read again

pub source_read : (source : Option (List ℕ)) (marks : List Mark) (text : List ℕ) → IsText source marks text → source_at text ≡ Ok (source, listed marks)
source_read source marks text is = ap source_at is.text_is ∙ source_reads.again source (listed marks) is.source_fits

pub count_read : (source : Option (List ℕ)) (marks : List Mark) (text : List ℕ) → IsText source marks text → number_at (listed marks) ≡ Ok (length marks, flat_map mark_fields marks)
count_read source marks text is = number_reads.again (length marks) (flat_map mark_fields marks) is.count_fits

pub marks_read : (source : Option (List ℕ)) (marks : List Mark) (text : List ℕ) → IsText source marks text → many_at mark_at (length marks) (flat_map mark_fields marks) ≡ Ok (marks, [])
marks_read source marks text is =
    ap (many_at mark_at (length marks)) (sym (append-nil (flat_map mark_fields marks)))
    ∙ many_again mark_fields FitsMark mark_at mark_reads marks [] is.marks_fit

-- two answers of one reading are the same
same_read : {A : Type 0} (r : Result (A × List ℕ) DecodeFault) (x y : A × List ℕ) → r ≡ Ok x → r ≡ Ok y → x ≡ y
same_read r x y p q = ok_is x y (sym p ∙ q)

-- what stands behind the source, where it was read
pub behind_source : (found source : Option (List ℕ)) (marks : List Mark) (text between : List ℕ) → IsText source marks text → source_at text ≡ Ok (found, between) → between ≡ listed marks
behind_source found source marks text between is s =
    ap (λ (x : Option (List ℕ) × List ℕ). x.1) (same_read (source_at text) (found, between) (source, listed marks) s (source_read source marks text is))

-- how many marks there are and their bytes, where the number was read
pub behind_count : (found source : Option (List ℕ)) (marks : List Mark) (text between rest : List ℕ) (count : ℕ) → IsText source marks text
    → source_at text ≡ Ok (found, between) → number_at between ≡ Ok (count, rest) → many_at mark_at count rest ≡ Ok (marks, [])
behind_count found source marks text between rest count is s n =
    let here : number_at between ≡ Ok (length marks, flat_map mark_fields marks) =
    ap number_at (behind_source found source marks text between is s) ∙ count_read source marks text is in
    let same = same_read (number_at between) (count, rest) (length marks, flat_map mark_fields marks) n here in
    ap (λ (x : ℕ × List ℕ). many_at mark_at x.0 x.1) same ∙ marks_read source marks text is

-- ---- what meets a fault isn't a text

pub no_text-source : (text : List ℕ) → IsErr (source_at text) → (source : Option (List ℕ)) (marks : List Mark) → IsText source marks text → ⊥
no_text-source text fails source marks is = gives_nothing (source_at text) (source, listed marks) fails (source_read source marks text is)

pub no_text-count : (text between : List ℕ) (found : Option (List ℕ)) → source_at text ≡ Ok (found, between) → IsErr (number_at between) → (source : Option (List ℕ)) (marks : List Mark) → IsText source marks text → ⊥
no_text-count text between found s fails source marks is =
    gives_nothing (number_at between) (length marks, flat_map mark_fields marks) fails
    (ap number_at (behind_source found source marks text between is s) ∙ count_read source marks text is)

-- ---- one text says one thing

pub same_said : (source other : Option (List ℕ)) (marks others : List Mark) (text : List ℕ) → IsText source marks text → IsText other others text → (source ≡ other) × (marks ≡ others)
same_said source other marks others text a b =
    let s = same_read (source_at text) (source, listed marks) (other, listed others) (source_read source marks text a) (source_read other others text b) in
    let n = behind_count source other others text (listed marks) (flat_map mark_fields marks) (length marks) b (source_read source marks text a) (count_read source marks text a) in
    let m = same_read (many_at mark_at (length marks) (flat_map mark_fields marks)) (marks, []) (others, []) (marks_read source marks text a) n in
    (ap (λ (x : Option (List ℕ) × List ℕ). x.0) s, ap (λ (x : List Mark × List ℕ). x.0) m)

-- ---- the list that is seen of marks in their bytes

pub marks_in-read : (count : ℕ) (bytes : List ℕ) (marks : List Mark) (rest : List ℕ) → many_at mark_at count bytes ≡ Ok (marks, rest) → marks_in count bytes ≡ marks
marks_in-read zero bytes marks rest e = ap (λ (x : List Mark × List ℕ). x.0) (ok_is ([], bytes) (marks, rest) e)
marks_in-read (suc count) bytes marks rest e =
    let p = bind_ok (mark_at bytes) (λ first. many_at mark_at count first.1 >>= λ others. Ok (first.0 ∷ others.0, others.1)) (marks, rest) e in
    let q = bind_ok (many_at mark_at count p.0.1) (λ others. Ok (p.0.0 ∷ others.0, others.1)) (marks, rest) p.2 in
    let made : List Mark × List ℕ = (p.0.0 ∷ q.0.0, q.0.1) in
    let others = marks_in-read count p.0.1 q.0.0 q.0.1 q.1 in
    let first = ap mark_or_unknown p.1 in
    ap (λ (x : Mark × List ℕ). x.0 ∷ marks_in count x.1) first
    ∙ ap (λ (ms : List Mark). p.0.0 ∷ ms) others
    ∙ ap (λ (x : List Mark × List ℕ). x.0) (ok_is made (marks, rest) q.2)

pub length-marks_in : (count : ℕ) (bytes : List ℕ) → length (marks_in count bytes) ≡ count
length-marks_in zero bytes = refl
length-marks_in (suc count) bytes = ap suc (length-marks_in count (mark_or_unknown (mark_at bytes)).1)

-- where there are no bytes all are unknown
pub marks_in-nothing : (count : ℕ) → marks_in count [] ≡ replicate count mark.Unknown
unfolding mark_at
marks_in-nothing zero = refl
marks_in-nothing (suc count) = ap (λ (ms : List Mark). mark.Unknown ∷ ms) (marks_in-nothing count)

-- what is left of one reading is the same
pub same_rest : (count : ℕ) (bytes : List ℕ) (marks others : List Mark) (rest more : List ℕ) → many_at mark_at count bytes ≡ Ok (marks, rest) → many_at mark_at count bytes ≡ Ok (others, more) → rest ≡ more
same_rest count bytes marks others rest more p q =
    ap (λ (x : List Mark × List ℕ). x.1) (same_read (many_at mark_at count bytes) (marks, rest) (others, more) p q)

-- where nothing is left, the list that is seen was read
pub all_read : (count : ℕ) (bytes : List ℕ) (marks : List Mark) (rest : List ℕ) → many_at mark_at count bytes ≡ Ok (marks, rest) → rest ≡ [] → many_at mark_at count bytes ≡ Ok (marks_in count bytes, [])
all_read count bytes marks rest e empty =
    let whole : many_at mark_at count bytes ≡ Ok (marks, []) = subst (λ (r : List ℕ). many_at mark_at count bytes ≡ Ok (marks, r)) empty e in
    subst (λ (ms : List Mark). many_at mark_at count bytes ≡ Ok (ms, [])) (sym (marks_in-read count bytes marks rest e)) whole
