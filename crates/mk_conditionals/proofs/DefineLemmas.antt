-- Lines in which each `define` has its `endef` are passed over whole.
use Rattle.std.proofs.Common.{◌≡◌, ℕ, suc, List, [], ◌∷◌, ◌++◌, Some, refl, ap, ◌∙◌}
use Rattle.mk_conditionals.specs.Define.{body_line, open_after, open_behind, AreWhole, none, text, inner}
use Rattle.mk_conditionals.specs.declared.define.BodyLine.{BodyLine}
use Rattle.mk_conditionals.specs.declared.define.BodyLine.TheVariants.{Inside, Ends}

joined_by : (told : BodyLine) (now : ℕ) (lines more : List (List ℕ)) →
    ((depth : ℕ) → open_behind depth lines ≡ Some now → open_behind depth (lines ++ more) ≡ open_behind now more) →
    open_after told (λ n. open_behind n lines) ≡ Some now → open_after told (λ n. open_behind n (lines ++ more)) ≡ open_behind now more
joined_by (Inside n) now lines more further h = further n h
joined_by (Ends t) now lines more further h = absurd (cc)

joined : (lines more : List (List ℕ)) (now depth : ℕ) → open_behind depth lines ≡ Some now → open_behind depth (lines ++ more) ≡ open_behind now more
joined [] more now depth h = let same : depth ≡ now = cc in ap (λ n. open_behind n more) same
joined (line ∷ lines) more now depth h = joined_by (body_line depth line) now lines more (joined lines more now) h

pub whole : {lines : List (List ℕ)} (depth : ℕ) → AreWhole lines → open_behind depth lines ≡ Some depth
whole depth none = refl
whole depth (text {line} {more} is rest) = ap (λ t. open_after t (λ n. open_behind n more)) (is depth) ∙ whole depth rest
whole depth (inner first last body more begins within ends rest) =
    ap (λ t. open_after t (λ n. open_behind n (body ++ last ∷ more))) (begins depth)
    ∙ joined body (last ∷ more) (suc depth) (suc depth) (whole (suc depth) within)
    ∙ ap (λ t. open_after t (λ n. open_behind n more)) (ends depth)
    ∙ whole depth rest
