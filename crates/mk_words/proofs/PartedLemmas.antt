-- Patterns, of which those without a `%` are kept in order.
use Rattle.std.proofs.Common.{◌≡◌, ℕ, Bool, true, false, ◌||◌, List, map, sym, ap, ◌∙◌, bytes_eq, None, Vec}
use Rattle.std.specs.declared.alloc.Global.{Global}
use Rattle.std.specs.List.{list_any}
use Rattle.std.specs.Ordering.{nat_cmp}
use Rattle.std.specs.Cmp.Lexicographic.{slice_cmp}
use Rattle.std.specs.BTreeMap.{is_at}
use Rattle.std.specs.BTreeSet.{insert_key}
use Rattle.mk_words.specs.Patterns.{Pattern, fits, fits_any, fits_parted}
use Rattle.mk_words.proofs.KeyLemmas.{by_bytes, or_assoc, any_key, any_more}

abbrev pub bytes_of : Vec ℕ Global → List ℕ
bytes_of v = v.items

pub parted-literal : (ks new : List (Vec ℕ Global)) (k : Vec ℕ Global) (forms : List Pattern) (pattern : Pattern) → new ≡ insert_key (by_bytes bytes_of) ks k → pattern ≡ (k.items, None) →
    (word : List ℕ) → fits_parted (map bytes_of new) forms word ≡ (fits pattern word || fits_parted (map bytes_of ks) forms word)
parted-literal ks new k forms pattern e is word =
    ap (λ b. b || fits_any forms word) (any_more bytes_of ks new k e word)
    ∙ or_assoc (bytes_eq word k.items) (list_any (bytes_eq word) (map bytes_of ks)) (fits_any forms word)
    ∙ ap (λ p. fits p word || fits_parted (map bytes_of ks) forms word) (sym is)

-- a word is looked for among those first
pub parted-hit : (word : List ℕ) (ks : List (Vec ℕ Global)) (forms : List Pattern) (found : Bool) → found ≡ list_any (is_at (λ k. slice_cmp nat_cmp word k.items)) ks → found ≡ true →
    found ≡ fits_parted (map bytes_of ks) forms word
parted-hit word ks forms found is e = e ∙ ap (λ b. b || fits_any forms word) (sym e ∙ is ∙ any_key bytes_of word ks)

pub parted-miss : (word : List ℕ) (ks : List (Vec ℕ Global)) (forms : List Pattern) (found fitting : Bool) → found ≡ list_any (is_at (λ k. slice_cmp nat_cmp word k.items)) ks → found ≡ false →
    fitting ≡ fits_any forms word → fitting ≡ fits_parted (map bytes_of ks) forms word
parted-miss word ks forms found fitting is e fits = fits ∙ ap (λ b. b || fits_any forms word) (sym e ∙ is ∙ any_key bytes_of word ks)
