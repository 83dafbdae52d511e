-- Arguments are those that a text spells.
use Rattle.std.proofs.Common.{◌≡◌, inl, inr, ℕ, Bool, true, false, cond, ◌==◌, List, [], ◌∷◌, Option, Some, None, refl, sym, ap, ◌∙◌, subst, eqb-true}
use Rattle.byte_strings.specs.Blanks.{trimmed_start, trimmed_end}
use Rattle.mk_conditionals.specs.Cut.{cut}
use Rattle.mk_conditionals.specs.Spelled.{Arguments, with_first, second_in_parentheses, is_quote, quoted, second_in_quotes, arguments}
use Rattle.mk_conditionals.specs.Spelling.{InQuotes, SpellsArguments}
use Rattle.mk_conditionals.proofs.CutLemmas.{cut_met, cut_said}

quoted_met : (rest text behind : List ℕ) → InQuotes rest text behind → quoted rest ≡ Some (text, behind)
quoted_met rest text behind (quote, inner, at, is, parts) =
    ap quoted at ∙ ap (λ t. cond t (cut false quote inner) None) is ∙ cut_met false quote inner text behind parts

quoted_at : (t : Bool) (b : ℕ) (bs : List ℕ) (parts : List ℕ × List ℕ) → is_quote b ≡ t → cond t (cut false b bs) None ≡ Some parts → InQuotes (b ∷ bs) parts.0 parts.1
quoted_at true b bs parts e h = (b, bs, refl, e, cut_said false b bs parts h)
quoted_at false b bs parts e h = absurd (cc)

quoted_said : (rest : List ℕ) (parts : List ℕ × List ℕ) → quoted rest ≡ Some parts → InQuotes rest parts.0 parts.1
quoted_said [] parts h = absurd (cc)
quoted_said (b ∷ bs) parts h = quoted_at (is_quote b) b bs parts refl h

-- a quote isn't a parenthesis
not_open : (t : Bool) (quote : ℕ) → (quote == 40) ≡ t → is_quote quote ≡ true → t ≡ false
not_open true quote e h = let same : quote ≡ 40 = eqb-true quote 40 e in absurd (cc (subst (λ q. is_quote q ≡ true) same h))
not_open false quote e h = refl

pub arguments_met : (rest first second behind : List ℕ) → SpellsArguments rest first second behind → arguments rest ≡ Some (first, second, behind)
arguments_met rest first second behind (inl (inner, front, more, at, parts, is, others)) =
    ap arguments at ∙ ap second_in_parentheses (cut_met true 44 inner front more parts)
    ∙ ap (with_first (trimmed_end front)) (cut_met true 41 (trimmed_start more) second behind others)
    ∙ ap (λ f. Some (f, second, behind)) (sym is)
arguments_met rest first second behind (inr (more, one, other)) =
    ap arguments one.2
    ∙ ap (λ t. cond t (second_in_parentheses (cut true 44 one.1)) (second_in_quotes (quoted (one.0 ∷ one.1)))) (not_open (one.0 == 40) one.0 refl one.3)
    ∙ ap second_in_quotes (ap quoted (sym one.2) ∙ quoted_met rest first more one)
    ∙ ap (with_first first) (quoted_met (trimmed_start more) second behind other)

joined_said : (first : List ℕ) (found : Option (List ℕ × List ℕ)) (told : Arguments) → with_first first found ≡ Some told →
    (parts : List ℕ × List ℕ) × (found ≡ Some parts) × (told ≡ (first, parts.0, parts.1))
joined_said first None told h = absurd (cc)
joined_said first (Some parts) told h = let same : told ≡ (first, parts.0, parts.1) = cc in (parts, refl, same)

open_said : (bs : List ℕ) (found : Option (List ℕ × List ℕ)) (told : Arguments) → cut true 44 bs ≡ found → second_in_parentheses found ≡ Some told →
    SpellsArguments (40 ∷ bs) told.0 told.1 told.2
open_said bs None told e h = absurd (cc)
open_said bs (Some parts) told e h =
    let w = joined_said (trimmed_end parts.0) (cut true 41 (trimmed_start parts.1)) told h in
    let spelled : SpellsArguments (40 ∷ bs) (trimmed_end parts.0) w.0.0 w.0.1 =
    inl (bs, parts.0, parts.1, refl, cut_said true 44 bs parts e, refl, cut_said true 41 (trimmed_start parts.1) w.0 w.1) in
    subst (λ (a : Arguments). SpellsArguments (40 ∷ bs) a.0 a.1 a.2) (sym w.2) spelled

quotes_said : (rest : List ℕ) (found : Option (List ℕ × List ℕ)) (told : Arguments) → quoted rest ≡ found → second_in_quotes found ≡ Some told →
    SpellsArguments rest told.0 told.1 told.2
quotes_said rest None told e h = absurd (cc)
quotes_said rest (Some parts) told e h =
    let w = joined_said parts.0 (quoted (trimmed_start parts.1)) told h in
    let spelled : SpellsArguments rest parts.0 w.0.0 w.0.1 =
    inr (parts.1, quoted_said rest parts e, quoted_said (trimmed_start parts.1) w.0 w.1) in
    subst (λ (a : Arguments). SpellsArguments rest a.0 a.1 a.2) (sym w.2) spelled

said_at : (t : Bool) (b : ℕ) (bs : List ℕ) (told : Arguments) → (b == 40) ≡ t →
    cond t (second_in_parentheses (cut true 44 bs)) (second_in_quotes (quoted (b ∷ bs))) ≡ Some told → SpellsArguments (b ∷ bs) told.0 told.1 told.2
said_at true b bs told e h =
    subst (λ c. SpellsArguments (c ∷ bs) told.0 told.1 told.2) (sym (eqb-true b 40 e)) (open_said bs (cut true 44 bs) told refl h)
said_at false b bs told e h = quotes_said (b ∷ bs) (quoted (b ∷ bs)) told refl h

pub arguments_said : (rest : List ℕ) (told : Arguments) → arguments rest ≡ Some told → SpellsArguments rest told.0 told.1 told.2
arguments_said [] told h = absurd (cc)
arguments_said (b ∷ bs) told h = said_at (b == 40) b bs told refl h
