-- A line read byte by byte comes to its recipe where the definition by places says so, and stays there.
use Rattle.std.proofs.Common.{◌≡◌, ℕ, ◌+◌, Bool, true, false, cond, not, ◌&&◌, ◌||◌, ◌==◌, List, [], ◌∷◌, ◌++◌, drop, take, refl, sym, ap, ◌∙◌, add-one, append-nil, Option, Some, None, option_map, slice_index}
use Rattle.std.proofs.lemmas.Bool.Decides.{Decides-eqb}
use Rattle.std.specs.List.{list_any}
use Rattle.mk_lines.specs.Text.{is_hash, is_semicolon, begins_with}
use Rattle.mk_lines.specs.References.{Lacks, next_place, is_outside, first_outside}
use Rattle.mk_lines.specs.Semicolon.{ends_sign, ends_definition, recipe_behind, opens_at, opens_recipe}
use Rattle.mk_lines.specs.Lines.{in_recipe}
use Rattle.mk_lines.specs.Quoted.{seen, quotes, seen_from, without_quoted}
use Rattle.mk_lines.specs.Search.{before_sign, behind_sign, behind_colon, next_stage, stage_behind, is_in_recipe, is_settled, begun, comes_to, HasRead}
use Rattle.mk_lines.specs.declared.reference.Place.{Place}
use Rattle.mk_lines.specs.declared.reference.Place.TheVariants.{Outside}
use Rattle.mk_lines.specs.declared.recipe_search.RecipeSearch.{RecipeSearch}
use Rattle.mk_lines.specs.declared.recipe_search.Stage.{Stage}
use Rattle.mk_lines.specs.declared.recipe_search.Stage.TheVariants.{BeforeSign, FirstColon, SecondColon, ThirdColon, BehindSign, InRecipe, NoRecipe}
use Rattle.mk_lines.proofs.ReferenceLemmas.{either, or_false, and_true}
use Rattle.mk_lines.proofs.CutLemmas.{one_of}

-- Tests

and_false : (t : Bool) → (t && false) ≡ false
and_false true = refl
and_false false = refl

not_or : (a b : Bool) → not (a || b) ≡ (not a && not b)
not_or true b = refl
not_or false b = refl

or_same : (a : Bool) → (a || a) ≡ a
or_same true = refl
or_same false = refl

or_first : (a b : Bool) → (a || (a || b)) ≡ (a || b)
or_first true b = refl
or_first false b = refl

or_true : (a : Bool) → (a || true) ≡ true
or_true true = refl
or_true false = refl

neither : (p a b : Bool) → (p && (a || b)) ≡ false → ((p && a) ≡ false) × ((p && b) ≡ false)
neither true a b h = or_false a b h
neither false a b h = (refl, refl)

shuffled : (s d h t r : Bool) → (s && (d && (not (h || t) && r))) ≡ (not h && (s && (d && (not t && r))))
shuffled true true true t r = refl
shuffled true false true t r = refl
shuffled false d true t r = refl
shuffled s d false t r = refl

-- A byte further

taken_more : (b i : ℕ) (bs : List ℕ) → take (i + 1) (b ∷ bs) ≡ b ∷ take i bs
taken_more b i bs = ap (λ n. take n (b ∷ bs)) (add-one i)

dropped_more : (b i : ℕ) (bs : List ℕ) → drop (i + 1 + 1) (b ∷ bs) ≡ drop (i + 1) bs
dropped_more b i bs = ap (λ n. drop n (b ∷ bs)) (add-one (i + 1))

found_more : (b i : ℕ) (bs : List ℕ) → slice_index (b ∷ bs) (i + 1) ≡ slice_index bs i
found_more b i bs = ap (λ n. slice_index (b ∷ bs) n) (add-one i)

behind_more : (b : ℕ) (bs : List ℕ) (o : Option ℕ) → recipe_behind (b ∷ bs) (option_map (λ i. i + 1) o) ≡ (not (b == 35) && recipe_behind bs o)
behind_more b bs None = sym (and_false (not (b == 35)))
behind_more b bs (Some i) = ap (λ xs. not (list_any is_hash xs)) (taken_more b i bs) ∙ not_or (b == 35) (list_any is_hash (take i bs))

-- the recipe behind the first `;` of a text
abbrev ends : Place → List ℕ → Bool
ends place text = recipe_behind text (first_outside 59 59 place text)

opens_more : (b : ℕ) (bs : List ℕ) (o : Option ℕ) → opens_at (b ∷ bs) (option_map (λ i. i + 1) o) ≡ (not (b == 35) && opens_at bs o)
opens_more b bs None = sym (and_false (not (b == 35)))
opens_more b bs (Some i) =
    let sign = slice_index bs i == 58 in
    ap (λ c. c == 58 && (not (ends_definition (drop (i + 1 + 1) (b ∷ bs))) && (not (list_any is_hash (take (i + 1) (b ∷ bs))) && ends Outside (drop (i + 1 + 1) (b ∷ bs))))) (found_more b i bs)
    ∙ ap (λ xs. sign && (not (ends_definition xs) && (not (list_any is_hash (take (i + 1) (b ∷ bs))) && ends Outside xs))) (dropped_more b i bs)
    ∙ ap (λ xs. sign && (not (ends_definition (drop (i + 1) bs)) && (not (list_any is_hash xs) && ends Outside (drop (i + 1) bs)))) (taken_more b i bs)
    ∙ shuffled sign (not (ends_definition (drop (i + 1) bs))) (b == 35) (list_any is_hash (take i bs)) (ends Outside (drop (i + 1) bs))

-- Stages

pub in_stays : (text : List ℕ) → stage_behind InRecipe text ≡ InRecipe
unfolding next_stage
in_stays [] = refl
in_stays (b ∷ bs) = in_stays bs

none_stays : (text : List ℕ) → stage_behind NoRecipe text ≡ NoRecipe
unfolding next_stage
none_stays [] = refl
none_stays (b ∷ bs) = none_stays bs

never : (text : List ℕ) → is_in_recipe (stage_behind NoRecipe text) ≡ false
never text = ap is_in_recipe (none_stays text)

always : (text : List ℕ) → is_in_recipe (stage_behind InRecipe text) ≡ true
always text = ap is_in_recipe (in_stays text)

-- behind the sign of a rule
behind_is : (place : Place) (text : List ℕ) → is_in_recipe (stage_behind (BehindSign place) text) ≡ ends place text
unfolding next_stage behind_sign
behind_is place [] = refl
behind_is place (b ∷ bs) = either _ (is_outside place && (b == 59 || b == 59)) found (missed (behind_is (next_place place b) bs))
  where
    rest : Option ℕ
    rest = first_outside 59 59 (next_place place b) bs

    found : (is_outside place && (b == 59 || b == 59)) ≡ true → is_in_recipe (stage_behind (behind_sign place b) bs) ≡ ends place (b ∷ bs)
    found t =
        let parts = and_true (is_outside place) (b == 59 || b == 59) t in
        let same : b ≡ 59 = one_of 59 b parts.1 in
        let here : (is_outside place && b == 59) ≡ true = ap (λ p. p && b == 59) parts.0 ∙ ap (λ c. c == 59) same in
        ap (λ h. is_in_recipe (stage_behind (cond h NoRecipe (cond (is_outside place && b == 59) InRecipe (BehindSign (next_place place b)))) bs)) (ap (λ c. c == 35) same)
        ∙ ap (λ h. is_in_recipe (stage_behind (cond h InRecipe (BehindSign (next_place place b))) bs)) here
        ∙ always bs
        ∙ sym (ap (λ h. recipe_behind (b ∷ bs) (cond h (Some 0) (option_map (λ i. i + 1) rest))) t)

    missed : is_in_recipe (stage_behind (BehindSign (next_place place b)) bs) ≡ ends (next_place place b) bs → (is_outside place && (b == 59 || b == 59)) ≡ false →
        is_in_recipe (stage_behind (behind_sign place b) bs) ≡ ends place (b ∷ bs)
    missed further f =
        let none = (neither (is_outside place) (b == 59) (b == 59) f).0 in
        let there : ends place (b ∷ bs) ≡ (not (b == 35) && ends (next_place place b) bs) =
        ap (λ h. recipe_behind (b ∷ bs) (cond h (Some 0) (option_map (λ i. i + 1) rest))) f ∙ behind_more b bs rest in
        ap (λ h. is_in_recipe (stage_behind (cond (b == 35) NoRecipe (cond h InRecipe (BehindSign (next_place place b)))) bs)) none
        ∙ either (is_in_recipe (stage_behind (cond (b == 35) NoRecipe (BehindSign (next_place place b))) bs) ≡ (not (b == 35) && ends (next_place place b) bs)) (b == 35)
        (λ h. ap (λ t. is_in_recipe (stage_behind (cond t NoRecipe (BehindSign (next_place place b))) bs)) h ∙ never bs ∙ sym (ap (λ t. not t && ends (next_place place b) bs) h))
        (λ h. ap (λ t. is_in_recipe (stage_behind (cond t NoRecipe (BehindSign (next_place place b))) bs)) h ∙ further ∙ sym (ap (λ t. not t && ends (next_place place b) bs) h))
        ∙ sym there

-- a colon there is passed over
colon_first : (bs : List ℕ) → ends Outside (58 ∷ bs) ≡ ends Outside bs
unfolding next_place
colon_first bs = behind_more 58 bs (first_outside 59 59 Outside bs)

colon_passed : (b : ℕ) (bs : List ℕ) → b ≡ 58 → ends Outside (b ∷ bs) ≡ ends Outside bs
colon_passed b bs same = ap (λ c. ends Outside (c ∷ bs)) same ∙ colon_first bs

behind_said : (b : ℕ) (bs : List ℕ) → is_in_recipe (stage_behind (behind_sign Outside b) bs) ≡ ends Outside (b ∷ bs)
unfolding next_stage
behind_said b bs = behind_is Outside (b ∷ bs)

-- behind a colon, where another one leads to a stage that is this test's
colon_is : (another : Stage) (test : List ℕ → Bool) → ((bs : List ℕ) → is_in_recipe (stage_behind another bs) ≡ (not (test bs) && ends Outside bs)) →
    (b : ℕ) (bs : List ℕ) → is_in_recipe (stage_behind (behind_colon another b) bs) ≡ (not (b == 61 || (b == 58 && test bs)) && ends Outside (b ∷ bs))
unfolding behind_colon
colon_is another test same b bs =
    either _ (b == 61)
    (λ t. ap (λ h. is_in_recipe (stage_behind (cond h NoRecipe (cond (b == 58) another (behind_sign Outside b))) bs)) t ∙ never bs
    ∙ sym (ap (λ h. not (h || (b == 58 && test bs)) && ends Outside (b ∷ bs)) t))
    (λ f. ap (λ h. is_in_recipe (stage_behind (cond h NoRecipe (cond (b == 58) another (behind_sign Outside b))) bs)) f
    ∙ either (is_in_recipe (stage_behind (cond (b == 58) another (behind_sign Outside b)) bs) ≡ (not (b == 58 && test bs) && ends Outside (b ∷ bs))) (b == 58)
    (λ t. ap (λ h. is_in_recipe (stage_behind (cond h another (behind_sign Outside b)) bs)) t ∙ same bs
    ∙ ap (λ e. not (test bs) && e) (sym (colon_passed b bs ((Decides-eqb b 58).0 t)))
    ∙ sym (ap (λ h. not (h && test bs) && ends Outside (b ∷ bs)) t))
    (λ g. ap (λ h. is_in_recipe (stage_behind (cond h another (behind_sign Outside b)) bs)) g ∙ behind_said b bs
    ∙ sym (ap (λ h. not (h && test bs) && ends Outside (b ∷ bs)) g))
    ∙ sym (ap (λ h. not (h || (b == 58 && test bs)) && ends Outside (b ∷ bs)) f))

no_test : List ℕ → Bool
no_test text = false

third_is : (text : List ℕ) → is_in_recipe (stage_behind ThirdColon text) ≡ (not (begins_with 61 text) && ends Outside text)
unfolding next_stage no_test
third_is [] = refl
third_is (b ∷ bs) =
    colon_is (BehindSign Outside) no_test (behind_is Outside) b bs
    ∙ ap (λ t. not (b == 61 || t) && ends Outside (b ∷ bs)) (and_false (b == 58))
    ∙ ap (λ t. not t && ends Outside (b ∷ bs)) (or_none (b == 61))
  where
    or_none : (t : Bool) → (t || false) ≡ t
    or_none true = refl
    or_none false = refl

second_is : (text : List ℕ) → is_in_recipe (stage_behind SecondColon text) ≡ (not (ends_sign text) && ends Outside text)
unfolding next_stage
second_is [] = refl
second_is (b ∷ bs) = colon_is ThirdColon (begins_with 61) third_is b bs

first_is : (text : List ℕ) → is_in_recipe (stage_behind FirstColon text) ≡ (not (ends_definition text) && ends Outside text)
unfolding next_stage
first_is [] = refl
first_is (b ∷ bs) =
    colon_is SecondColon ends_sign second_is b bs
    ∙ ap (λ t. not t && ends Outside (b ∷ bs)) (sym (absorbed (b == 61) (b == 58) (begins_with 61 bs) (begins_with 58 bs && begins_with 61 (drop 1 bs))))
  where
    absorbed : (a c x y : Bool) → ((a || (c && x)) || (c && (x || y))) ≡ (a || (c && (x || y)))
    absorbed true c x y = refl
    absorbed false true x y = or_first x y
    absorbed false false x y = refl

-- before any sign
before_is : (place : Place) (text : List ℕ) → is_in_recipe (stage_behind (BeforeSign place) text) ≡ opens_at text (first_outside 61 58 place text)
unfolding next_stage before_sign
before_is place [] = refl
before_is place (b ∷ bs) = either _ (is_outside place && (b == 61 || b == 58)) found (missed (before_is (next_place place b) bs))
  where
    rest : Option ℕ
    rest = first_outside 61 58 (next_place place b) bs

    further : Stage
    further = BeforeSign (next_place place b)

    found : (is_outside place && (b == 61 || b == 58)) ≡ true → is_in_recipe (stage_behind (before_sign place b) bs) ≡ opens_at (b ∷ bs) (first_outside 61 58 place (b ∷ bs))
    found t =
        let parts = and_true (is_outside place) (b == 61 || b == 58) t in
        ap (λ p. is_in_recipe (stage_behind (cond (p && b == 58) FirstColon (cond (b == 35 || (p && b == 61)) NoRecipe further)) bs)) parts.0
        ∙ either (is_in_recipe (stage_behind (cond (b == 58) FirstColon (cond (b == 35 || b == 61) NoRecipe further)) bs) ≡ (b == 58 && (not (ends_definition bs) && ends Outside bs))) (b == 58)
        (λ c. ap (λ h. is_in_recipe (stage_behind (cond h FirstColon (cond (b == 35 || b == 61) NoRecipe further)) bs)) c ∙ first_is bs
        ∙ sym (ap (λ h. h && (not (ends_definition bs) && ends Outside bs)) c))
        (λ c.
        let equals : (b == 61) ≡ true = sym (or_none (b == 61)) ∙ ap (λ h. b == 61 || h) (sym c) ∙ parts.1 in
        ap (λ h. is_in_recipe (stage_behind (cond h FirstColon (cond (b == 35 || b == 61) NoRecipe further)) bs)) c
        ∙ ap (λ h. is_in_recipe (stage_behind (cond h NoRecipe further) bs)) (ap (λ h. b == 35 || h) equals ∙ or_true (b == 35)) ∙ never bs
        ∙ sym (ap (λ h. h && (not (ends_definition bs) && ends Outside bs)) c))
        ∙ sym (ap (λ h. opens_at (b ∷ bs) (cond h (Some 0) (option_map (λ i. i + 1) rest))) t)
      where
        or_none : (t : Bool) → (t || false) ≡ t
        or_none true = refl
        or_none false = refl

    missed : is_in_recipe (stage_behind further bs) ≡ opens_at bs rest → (is_outside place && (b == 61 || b == 58)) ≡ false →
        is_in_recipe (stage_behind (before_sign place b) bs) ≡ opens_at (b ∷ bs) (first_outside 61 58 place (b ∷ bs))
    missed same f =
        let none = neither (is_outside place) (b == 61) (b == 58) f in
        let there : opens_at (b ∷ bs) (first_outside 61 58 place (b ∷ bs)) ≡ (not (b == 35) && opens_at bs rest) =
        ap (λ h. opens_at (b ∷ bs) (cond h (Some 0) (option_map (λ i. i + 1) rest))) f ∙ opens_more b bs rest in
        ap (λ h. is_in_recipe (stage_behind (cond h FirstColon (cond (b == 35 || (is_outside place && b == 61)) NoRecipe further)) bs)) none.1
        ∙ ap (λ h. is_in_recipe (stage_behind (cond (b == 35 || h) NoRecipe further) bs)) none.0
        ∙ either (is_in_recipe (stage_behind (cond (b == 35 || false) NoRecipe further) bs) ≡ (not (b == 35) && opens_at bs rest)) (b == 35)
        (λ h. ap (λ t. is_in_recipe (stage_behind (cond (t || false) NoRecipe further) bs)) h ∙ never bs ∙ sym (ap (λ t. not t && opens_at bs rest) h))
        (λ h. ap (λ t. is_in_recipe (stage_behind (cond (t || false) NoRecipe further) bs)) h ∙ same ∙ sym (ap (λ t. not t && opens_at bs rest) h))
        ∙ sym there

-- The whole line

opens_as_read : (text : List ℕ) → is_in_recipe (comes_to (begun false true) text) ≡ opens_recipe text
unfolding opens_recipe
opens_as_read text = before_is Outside (without_quoted text)

pub in_recipe_as_read : (recipe wide : Bool) (text : List ℕ) → is_in_recipe (comes_to (begun recipe wide) text) ≡ in_recipe recipe wide text
unfolding in_recipe
in_recipe_as_read true wide text = always (without_quoted text)
in_recipe_as_read false true text = opens_as_read text
in_recipe_as_read false false text = never (without_quoted text)

pub settled_stays : (search : RecipeSearch) (text : List ℕ) → is_settled search.stage ≡ true → comes_to search text ≡ search.stage
settled_stays search text h = stays search.stage (seen_from search.is_quoted text) h
  where
    stays : (stage : Stage) (text : List ℕ) → is_settled stage ≡ true → stage_behind stage text ≡ stage
    stays (BeforeSign place) text h = absurd (cc h)
    stays FirstColon text h = absurd (cc h)
    stays SecondColon text h = absurd (cc h)
    stays ThirdColon text h = absurd (cc h)
    stays (BehindSign place) text h = absurd (cc h)
    stays InRecipe text h = in_stays text
    stays NoRecipe text h = none_stays text

-- Two texts

-- what is read behind a text is read from where that comes to
read_on : (stage : Stage) (quoted : Bool) (text : List ℕ) →
    (now : Bool) × ((more : List ℕ) → stage_behind stage (seen_from quoted (text ++ more)) ≡ stage_behind (stage_behind stage (seen_from quoted text)) (seen_from now more))
read_on stage quoted [] = (quoted, (λ more. refl))
read_on stage quoted (b ∷ bs) = read_on (next_stage stage (seen quoted b)) (quotes quoted b) bs

is_in : (stage : Stage) → is_in_recipe stage ≡ true → stage ≡ InRecipe
is_in (BeforeSign place) h = absurd (cc h)
is_in FirstColon h = absurd (cc h)
is_in SecondColon h = absurd (cc h)
is_in ThirdColon h = absurd (cc h)
is_in (BehindSign place) h = absurd (cc h)
is_in InRecipe h = refl
is_in NoRecipe h = absurd (cc h)

pub stays_open : (text more : List ℕ) → opens_recipe text ≡ true → opens_recipe (text ++ more) ≡ true
stays_open text more e =
    let (now, on) = read_on (BeforeSign Outside) false text in
    sym (opens_as_read (text ++ more)) ∙ ap is_in_recipe (on more)
    ∙ ap (λ stage. is_in_recipe (stage_behind stage (seen_from now more))) (is_in _ (opens_as_read text ∙ e))
    ∙ always (seen_from now more)

pub closed_before : (text more : List ℕ) → opens_recipe (text ++ more) ≡ false → opens_recipe text ≡ false
closed_before text more e = either (opens_recipe text ≡ false) (opens_recipe text) (λ t. absurd (cc (sym (stays_open text more t) ∙ e))) (λ f. f)

-- Texts without a `;`

still_lacks : (quoted : Bool) (text : List ℕ) → Lacks 59 text → Lacks 59 (seen_from quoted text)
still_lacks quoted [] h = refl
still_lacks quoted (b ∷ bs) h =
    let parts = or_false (b == 59) (list_any is_semicolon bs) h in
    ap (λ t. t || list_any is_semicolon (seen_from (quotes quoted b) bs)) (none (quoted && b == 58) parts.0) ∙ still_lacks (quotes quoted b) bs parts.1
  where
    none : (t : Bool) → (b == 59) ≡ false → (cond t 95 b == 59) ≡ false
    none true h = refl
    none false h = h

by_cond : (t : Bool) (one other : Stage) → is_in_recipe one ≡ false → is_in_recipe other ≡ false → is_in_recipe (cond t one other) ≡ false
by_cond true one other h g = h
by_cond false one other h g = g

not_behind : (place : Place) (b : ℕ) → (b == 59) ≡ false → is_in_recipe (behind_sign place b) ≡ false
unfolding behind_sign
not_behind place b h =
    by_cond (b == 35) NoRecipe _ refl
    (ap (λ t. is_in_recipe (cond (is_outside place && t) InRecipe (BehindSign (next_place place b)))) h ∙ ap (λ t. is_in_recipe (cond t InRecipe (BehindSign (next_place place b)))) (and_false (is_outside place)))

not_colon : (another : Stage) (b : ℕ) → is_in_recipe another ≡ false → (b == 59) ≡ false → is_in_recipe (behind_colon another b) ≡ false
unfolding behind_colon
not_colon another b shut h = by_cond (b == 61) NoRecipe _ refl (by_cond (b == 58) another _ shut (not_behind Outside b h))

not_before : (place : Place) (b : ℕ) → is_in_recipe (before_sign place b) ≡ false
unfolding before_sign
not_before place b = by_cond (is_outside place && b == 58) FirstColon _ refl (by_cond (b == 35 || (is_outside place && b == 61)) NoRecipe (BeforeSign (next_place place b)) refl refl)

not_by : (stage : Stage) (b : ℕ) → is_in_recipe stage ≡ false → (b == 59) ≡ false → is_in_recipe (next_stage stage b) ≡ false
unfolding next_stage
not_by (BeforeSign place) b shut h = not_before place b
not_by FirstColon b shut h = not_colon SecondColon b refl h
not_by SecondColon b shut h = not_colon ThirdColon b refl h
not_by ThirdColon b shut h = not_colon (BehindSign Outside) b refl h
not_by (BehindSign place) b shut h = not_behind place b h
not_by InRecipe b shut h = absurd (cc shut)
not_by NoRecipe b shut h = refl

not_in : (stage : Stage) (text : List ℕ) → is_in_recipe stage ≡ false → Lacks 59 text → is_in_recipe (stage_behind stage text) ≡ false
not_in stage [] shut h = shut
not_in stage (b ∷ bs) shut h =
    let parts = or_false (b == 59) (list_any is_semicolon bs) h in
    not_in (next_stage stage b) bs (not_by stage b shut parts.0) parts.1

pub opens_none : (text : List ℕ) → list_any is_semicolon text ≡ false → opens_recipe text ≡ false
opens_none text h = sym (opens_as_read text) ∙ not_in (BeforeSign Outside) (without_quoted text) refl (still_lacks false text h)

-- what has been read says whether a recipe is open
pub read_in : (recipe wide : Bool) (text : List ℕ) (now : RecipeSearch) → HasRead (begun recipe wide) text now → is_in_recipe now.stage ≡ in_recipe recipe wide text
read_in recipe wide text now read =
    ap is_in_recipe (read []) ∙ ap (λ xs. is_in_recipe (comes_to (begun recipe wide) xs)) (append-nil text) ∙ in_recipe_as_read recipe wide text

pub opens_by_reading : (text : List ℕ) (now : RecipeSearch) → HasRead (begun false true) text now → is_in_recipe now.stage ≡ opens_recipe text
opens_by_reading text now read =
    ap is_in_recipe (read []) ∙ ap (λ xs. is_in_recipe (comes_to (begun false true) xs)) (append-nil text) ∙ opens_as_read text
