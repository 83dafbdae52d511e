-- Names are read as they are spelled.
use Rattle.std.proofs.Common.{◌≡◌, ℕ, zero, suc, ◌+◌, Bool, true, false, cond, ◌==◌, List, [], ◌∷◌, ◌++◌, Some, refl, sym, ap, ◌∙◌, subst, eqb-true, arith}
use Rattle.std.proofs.lemmas.List.{append_assoc}
use Rattle.mk_assignments.specs.Name.{opening, closing, IsPaired, nothing, other, pair, ends_name, IsName, byte, single, bracketed}
use Rattle.mk_assignments.specs.Reading.{Place, outside, behind_dollar, within, closed, place_within, behind_name}
use Rattle.mk_assignments.specs.declared.name.Brackets.{Brackets}
use Rattle.mk_assignments.specs.declared.name.Brackets.TheVariants.{Round, Curly}

opens : (kind : Brackets) (depth : ℕ) → place_within kind depth (opening kind) ≡ within kind (suc depth)
opens Round depth = let more : depth + 1 ≡ suc depth = omega arith in ap (within Round) more
opens Curly depth = let more : depth + 1 ≡ suc depth = omega arith in ap (within Curly) more

closes : (kind : Brackets) (depth : ℕ) → place_within kind depth (closing kind) ≡ closed kind depth
closes Round depth = refl
closes Curly depth = refl

in_brackets : (kind : Brackets) (text : List ℕ) → behind_name behind_dollar (opening kind ∷ text) ≡ behind_name (within kind 0) text
in_brackets Round text = refl
in_brackets Curly text = refl

paired_met : (kind : Brackets) (depth : ℕ) (more : List ℕ) {text : List ℕ} → IsPaired kind text →
    behind_name (within kind depth) (text ++ more) ≡ behind_name (within kind depth) more
paired_met kind depth more nothing = refl
paired_met kind depth more (other {text} b no_opening no_closing rest) =
    ap (λ t. behind_name (cond t (within kind (depth + 1)) (cond (b == closing kind) (closed kind depth) (within kind depth))) (text ++ more)) no_opening
    ∙ ap (λ t. behind_name (cond t (closed kind depth) (within kind depth)) (text ++ more)) no_closing
    ∙ paired_met kind depth more rest
paired_met kind depth more (pair {inner} {text} is rest) =
    ap (λ p. behind_name p ((inner ++ closing kind ∷ text) ++ more)) (opens kind depth)
    ∙ ap (behind_name (within kind (suc depth))) (append_assoc inner (closing kind ∷ text) more)
    ∙ paired_met kind (suc depth) (closing kind ∷ (text ++ more)) is
    ∙ ap (λ p. behind_name p (text ++ more)) (closes kind (suc depth))
    ∙ paired_met kind depth more rest

-- a text in front of which a name ends
abbrev pub Stops : List ℕ → Type 0
Stops [] = ⊥
Stops (b ∷ bs) = ((b == 36) ≡ false) × (ends_name b bs ≡ true)

pub name_met : (behind : List ℕ) {name : List ℕ} → IsName behind name → Stops behind → behind_name outside (name ++ behind) ≡ Some behind
name_met [] nothing stops = absurd stops
name_met (b ∷ bs) nothing stops =
    ap (λ t. cond t (behind_name behind_dollar bs) (cond (ends_name b bs) (Some (b ∷ bs)) (behind_name outside bs))) stops.0
    ∙ ap (λ t. cond t (Some (b ∷ bs)) (behind_name outside bs)) stops.1
name_met behind (byte {name} b plain goes_on rest) stops =
    ap (λ t. cond t (behind_name behind_dollar (name ++ behind)) (cond (ends_name b (name ++ behind)) (Some (b ∷ (name ++ behind))) (behind_name outside (name ++ behind)))) plain
    ∙ ap (λ t. cond t (Some (b ∷ (name ++ behind))) (behind_name outside (name ++ behind))) goes_on
    ∙ name_met behind rest stops
name_met behind (single {name} b no_round no_curly rest) stops =
    ap (λ t. behind_name (cond t (within Round 0) (cond (b == 123) (within Curly 0) outside)) (name ++ behind)) no_round
    ∙ ap (λ t. behind_name (cond t (within Curly 0) outside) (name ++ behind)) no_curly
    ∙ name_met behind rest stops
name_met behind (bracketed {name} kind inside paired rest) stops =
    in_brackets kind ((inside ++ closing kind ∷ name) ++ behind)
    ∙ ap (behind_name (within kind 0)) (append_assoc inside (closing kind ∷ name) behind)
    ∙ paired_met kind 0 (closing kind ∷ (name ++ behind)) paired
    ∙ ap (λ p. behind_name p (name ++ behind)) (closes kind 0)
    ∙ name_met behind rest stops

-- the text is a name with this behind it
abbrev pub Reads : (text behind : List ℕ) → Type 0
Reads text behind = (name : List ℕ) × (text ≡ name ++ behind) × IsName behind name

-- so many brackets are closed in the text, and then it is the rest of a name
abbrev After : (kind : Brackets) (depth : ℕ) (text behind : List ℕ) → Type 0
After kind zero text behind = Reads text behind
After kind (suc depth) text behind =
    (inside rest : List ℕ) × (text ≡ inside ++ closing kind ∷ rest) × IsPaired kind inside × After kind depth rest behind

abbrev ReadsAt : Place → (text behind : List ℕ) → Type 0
ReadsAt outside text behind = Reads text behind
ReadsAt behind_dollar text behind = (name : List ℕ) × (text ≡ name ++ behind) × IsName behind (36 ∷ name)
ReadsAt (within kind depth) text behind = After kind (suc depth) text behind

after_closed : (kind : Brackets) (depth : ℕ) (text behind : List ℕ) → ReadsAt (closed kind depth) text behind → After kind depth text behind
after_closed kind zero text behind h = h
after_closed kind (suc depth) text behind h = h

said_outside : (t u : Bool) (b : ℕ) (bs behind : List ℕ) → (b == 36) ≡ t → ends_name b bs ≡ u →
    ((p : Place) → behind_name p bs ≡ Some behind → ReadsAt p bs behind) →
    cond t (behind_name behind_dollar bs) (cond u (Some (b ∷ bs)) (behind_name outside bs)) ≡ Some behind → Reads (b ∷ bs) behind
said_outside true u b bs behind e f further h =
    let w = further behind_dollar h in
    (b ∷ w.0, ap (λ t. b ∷ t) w.1, subst (λ x. IsName behind (x ∷ w.0)) (sym (eqb-true b 36 e)) w.2)
said_outside false true b bs behind e f further h =
    let same : b ∷ bs ≡ behind = cc in
    ([], same, nothing)
said_outside false false b bs behind e f further h =
    let w = further outside h in
    (b ∷ w.0, ap (λ t. b ∷ t) w.1, byte b e (subst (λ x. ends_name b x ≡ false) w.1 f) w.2)

enclosed : (kind : Brackets) (b : ℕ) (bs behind : List ℕ) → b ≡ opening kind → After kind 1 bs behind → ReadsAt behind_dollar (b ∷ bs) behind
enclosed kind b bs behind e (inside, rest, at, paired, name) = (
  b ∷ (inside ++ closing kind ∷ name.0),
  ap (λ t. b ∷ t) (at ∙ ap (λ r. inside ++ closing kind ∷ r) name.1 ∙ sym (append_assoc inside (closing kind ∷ name.0) behind)),
  subst (λ x. IsName behind (36 ∷ x ∷ (inside ++ closing kind ∷ name.0))) (sym e) (bracketed kind inside paired name.2),
)

said_dollar : (t u : Bool) (b : ℕ) (bs behind : List ℕ) → (b == 40) ≡ t → (b == 123) ≡ u →
    ((p : Place) → behind_name p bs ≡ Some behind → ReadsAt p bs behind) →
    behind_name (cond t (within Round 0) (cond u (within Curly 0) outside)) bs ≡ Some behind → ReadsAt behind_dollar (b ∷ bs) behind
said_dollar true u b bs behind e f further h = enclosed Round b bs behind (eqb-true b 40 e) (further (within Round 0) h)
said_dollar false true b bs behind e f further h = enclosed Curly b bs behind (eqb-true b 123 f) (further (within Curly 0) h)
said_dollar false false b bs behind e f further h =
    let w = further outside h in
    (b ∷ w.0, ap (λ t. b ∷ t) w.1, single b e f w.2)

deeper : (kind : Brackets) (depth b : ℕ) (bs behind : List ℕ) → b ≡ opening kind → After kind (suc (suc depth)) bs behind → After kind (suc depth) (b ∷ bs) behind
deeper kind depth b bs behind e (inner, rest, at, paired, left) = (
  b ∷ (inner ++ closing kind ∷ left.0),
  left.1,
  ap (λ t. b ∷ t) (at ∙ ap (λ r. inner ++ closing kind ∷ r) left.2 ∙ sym (append_assoc inner (closing kind ∷ left.0) (closing kind ∷ left.1))),
  subst (λ x. IsPaired kind (x ∷ (inner ++ closing kind ∷ left.0))) (sym e) (pair paired left.3),
  left.4,
)

said_within : (t u : Bool) (kind : Brackets) (depth b : ℕ) (bs behind : List ℕ) → (b == opening kind) ≡ t → (b == closing kind) ≡ u →
    ((p : Place) → behind_name p bs ≡ Some behind → ReadsAt p bs behind) →
    behind_name (cond t (within kind (depth + 1)) (cond u (closed kind depth) (within kind depth))) bs ≡ Some behind → After kind (suc depth) (b ∷ bs) behind
said_within true u kind depth b bs behind e f further h =
    let more : depth + 1 ≡ suc depth = omega arith in
    deeper kind depth b bs behind (eqb-true b (opening kind) e)
    (further (within kind (suc depth)) (subst (λ d. behind_name (within kind d) bs ≡ Some behind) more h))
said_within false true kind depth b bs behind e f further h =
    ([], bs, ap (λ x. x ∷ bs) (eqb-true b (closing kind) f), nothing, after_closed kind depth bs behind (further (closed kind depth) h))
said_within false false kind depth b bs behind e f further h =
    let w = further (within kind depth) h in
    (b ∷ w.0, w.1, ap (λ t. b ∷ t) w.2, other b e f w.3, w.4)

said_at : (text behind : List ℕ) (place : Place) → behind_name place text ≡ Some behind → ReadsAt place text behind
said_at [] behind place h = absurd (cc)
said_at (b ∷ bs) behind outside h = said_outside (b == 36) (ends_name b bs) b bs behind refl refl (λ p e. said_at bs behind p e) h
said_at (b ∷ bs) behind behind_dollar h = said_dollar (b == 40) (b == 123) b bs behind refl refl (λ p e. said_at bs behind p e) h
said_at (b ∷ bs) behind (within kind depth) h =
    said_within (b == opening kind) (b == closing kind) kind depth b bs behind refl refl (λ p e. said_at bs behind p e) h

pub name_said : (text behind : List ℕ) → behind_name outside text ≡ Some behind → Reads text behind
name_said text behind h = said_at text behind outside h
