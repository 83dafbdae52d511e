-- What a text says as a value, and the marks of which it says apart.
use Rattle.std.proofs.Common.{◌≡◌, ◌∙◌, ℕ, zero, suc, ◌≤◌, List, [], ◌∷◌, take, drop, Result, Ok, Err, refl, sym, ap, arith}
use Rattle.std.specs.Prelude.{Option, Some, None, IsErr, MatchOption, slice_get}
use Rattle.st_records.specs.declared.fault.DecodeFault.{DecodeFault}
use Rattle.st_records.specs.Reading.{◌>>=◌, number_at}
use Rattle.st_marks.specs.declared.mark.Mark.{Mark}
use Rattle.st_marks.specs.Reading.{source_at, mark_at, many_at, mark_or_unknown, marks_in}
use Rattle.st_marks.specs.Parts.{whole, listed_at, counted_at, said_at, said_of}
use Rattle.st_marks.proofs.FaultLemmas.{then_fails}

-- ---- what a text says

whole_fails : {A : Type 0} (r : Result (A × List ℕ) DecodeFault) → IsErr r → whole r ≡ None
whole_fails (Ok x) h = absurd cc
whole_fails (Err f) h = refl

behind_source : (text between : List ℕ) (source : Option (List ℕ)) → source_at text ≡ Ok (source, between) → said_of text ≡ whole (counted_at source between)
behind_source text between source s = ap (λ (r : Result (Option (List ℕ) × List ℕ) DecodeFault). whole (r >>= λ s. counted_at s.0 s.1)) s

behind_count : (text between rest : List ℕ) (source : Option (List ℕ)) (count : ℕ) → source_at text ≡ Ok (source, between) → number_at between ≡ Ok (count, rest) → said_of text ≡ whole (listed_at source count rest)
behind_count text between rest source count s n =
    behind_source text between source s ∙ ap (λ (r : Result (ℕ × List ℕ) DecodeFault). whole (r >>= λ n. listed_at source n.0 n.1)) n

pub nothing_said-source : (text : List ℕ) → IsErr (source_at text) → said_of text ≡ None
nothing_said-source text h = whole_fails (said_at text) (then_fails (source_at text) (λ s. counted_at s.0 s.1) h)

pub nothing_said-count : (text between : List ℕ) (source : Option (List ℕ)) → source_at text ≡ Ok (source, between) → IsErr (number_at between) → said_of text ≡ None
nothing_said-count text between source s h =
    behind_source text between source s ∙ whole_fails (counted_at source between) (then_fails (number_at between) (λ n. listed_at source n.0 n.1) h)

none_listed : (source : Option (List ℕ)) (r : Result (List Mark × List ℕ) DecodeFault) → ((marks : List Mark) → r ≡ Ok (marks, []) → ⊥) → whole {A = Option (List ℕ) × List Mark} (r >>= λ m. Ok ((source, m.0), m.1)) ≡ None
none_listed source (Ok (marks, [])) never = absurd (never marks refl)
none_listed source (Ok (marks, byte ∷ rest)) never = refl
none_listed source (Err f) never = refl

pub nothing_said-marks : (text between rest : List ℕ) (source : Option (List ℕ)) (count : ℕ) → source_at text ≡ Ok (source, between) → number_at between ≡ Ok (count, rest)
    → ((marks : List Mark) → many_at mark_at count rest ≡ Ok (marks, []) → ⊥) → said_of text ≡ None
nothing_said-marks text between rest source count s n never =
    behind_count text between rest source count s n ∙ none_listed source (many_at mark_at count rest) never

pub is_said : (text between rest : List ℕ) (source : Option (List ℕ)) (count : ℕ) (marks : List Mark) → source_at text ≡ Ok (source, between) → number_at between ≡ Ok (count, rest)
    → many_at mark_at count rest ≡ Ok (marks, []) → said_of text ≡ Some (source, marks)
is_said text between rest source count marks s n m =
    behind_count text between rest source count s n
    ∙ ap (λ (r : Result (List Mark × List ℕ) DecodeFault). whole {A = Option (List ℕ) × List Mark} (r >>= λ m. Ok ((source, m.0), m.1))) m

-- ---- marks in the midst of others

-- an iterator gave the first of them, and left those behind it
pub given_first : (given : Option Mark) (old new : List Mark) → MatchOption given ((old ≡ []) × (new ≡ [])) (λ mark. old ≡ mark ∷ new) → given ≡ slice_get old 0
given_first None old new h = sym (ap (λ (ms : List Mark). slice_get ms 0) h.0)
given_first (Some mark) old new h = sym (ap (λ (ms : List Mark). slice_get ms 0) h)

pub left_behind : (given : Option Mark) (old new : List Mark) → MatchOption given ((old ≡ []) × (new ≡ [])) (λ mark. old ≡ mark ∷ new) → new ≡ drop 1 old
left_behind None old new h = h.1 ∙ sym (ap (λ (ms : List Mark). drop 1 ms) h.0)
left_behind (Some mark) old new h = sym (ap (λ (ms : List Mark). drop 1 ms) h)

pub front_of : (wanted count : ℕ) (bytes : List ℕ) → wanted ≤ count → marks_in wanted bytes ≡ take wanted (marks_in count bytes)
front_of zero count bytes le = refl
front_of (suc wanted) zero bytes le = absurd (omega (arith, le))
front_of (suc wanted) (suc count) bytes le =
    ap (λ (ms : List Mark). (mark_or_unknown (mark_at bytes)).0 ∷ ms) (front_of wanted count (mark_or_unknown (mark_at bytes)).1 (omega (arith, le)))
