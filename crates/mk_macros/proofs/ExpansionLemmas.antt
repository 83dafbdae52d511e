-- An expansion that keeps the callers of a text in a list: what each of its states stands for.
use Rattle.std.proofs.Common.{◌≡◌, ◌⊎◌, ℕ, ◌≤◌, ◌<◌, Bool, true, List, [], ◌∷◌, ◌++◌, length, refl, sym, ap, ◌∙◌, subst, inl, inr, ⊎_elim, bytes_eq, arith}
use Rattle.std.proofs.lemmas.Slice.Eq.{bytes_eq-Decides}
use Rattle.std.proofs.lemmas.Bool.{cases_Bool, false≢true}
use Rattle.mk_macros.specs.Reference.{Use, used, Piece, reference, nested, named, Front, nothing, first, front}
use Rattle.mk_macros.specs.Lookup.{Progress, unseen, opened, known}
use Rattle.mk_macros.specs.Expansion.{Meaning, defined, Fault, too_long, refers_to_itself, Outcome, gives, fails, limit, IsOneOf, Expands, ends, goes_on, is_too_long, meets_fault, Adds, has_value, has_fault, has_name, has_no_name, is_loop}

-- what is left to read: a text, or a piece that was read and the text behind it
pub data Left : Type 0 where
  at_text : (rest : List ℕ) → Left
  at_piece : (piece : Piece) (rest : List ℕ) → Left

abbrev pub ahead : (wide : Bool) → Left → Front
ahead wide (at_text rest) = front wide rest
ahead wide (at_piece piece rest) = first piece rest

-- what a text waits for: the value of the macro that stands ahead of what is left, or the name that stands in
-- brackets, behind which this is left
pub data Awaited : Type 0 where
  value_of : (name : List ℕ) (left : Left) → Awaited
  name_before : (rest : List ℕ) → Awaited

-- a text whose expansion waits
pub record Waiting : Type 0 where
  pub awaited : Awaited
  pub made : List ℕ

-- what is left of a text that waits for what this inner text gives
abbrev pub left_of : Awaited → (inner : List ℕ) → Left
left_of (value_of name left) inner = left
left_of (name_before rest) inner = at_piece (nested inner) rest

abbrev pub with_awaited : Awaited → List (List ℕ) → List (List ℕ)
with_awaited (value_of name left) outer = name ∷ outer
with_awaited (name_before rest) outer = outer

-- the names that are being expanded
abbrev pub names : List Waiting → List (List ℕ)
names [] = []
names (c ∷ cs) = with_awaited c.awaited (names cs)

-- after one macro's progress is set
pub record SetsProgress (state : List ℕ → Progress) (name : List ℕ) (progress : Progress) (state' : List ℕ → Progress) : Type 0 where
  pub at : state' name ≡ progress
  pub others : (n : List ℕ) → (n ≡ name → ⊥) → state' n ≡ state n

-- the ways on behind a piece
pub data Goes (wide : Bool) (meaning : List ℕ → Meaning) (all : List (List ℕ)) (made : List ℕ) (piece : Piece) (rest : List ℕ) : Outcome → Type 0 where
  then_on : {outcome : Outcome} (added : List ℕ) → Adds wide meaning all piece (gives added) → length (made ++ added) ≤ limit wide →
      Expands wide meaning all (made ++ added) rest outcome → Goes wide meaning all made piece rest outcome
  then_long : (added : List ℕ) → Adds wide meaning all piece (gives added) → limit wide < length (made ++ added) →
      Goes wide meaning all made piece rest (fails too_long)
  then_fault : (fault : Fault) → Adds wide meaning all piece (fails fault) → Goes wide meaning all made piece rest (fails fault)

module _ (wide : Bool) (meaning : List ℕ → Meaning) where
  -- the outcome of what is left
  abbrev pub ExpandsLeft : (all : List (List ℕ)) (made : List ℕ) → Left → Outcome → Type 0
  ExpandsLeft all made (at_text rest) outcome = Expands wide meaning all made rest outcome
  ExpandsLeft all made (at_piece piece rest) outcome = Goes wide meaning all made piece rest outcome

  goes : (all : List (List ℕ)) (made : List ℕ) (left : Left) (piece : Piece) (rest : List ℕ) {outcome : Outcome} →
      ahead wide left ≡ first piece rest → Goes wide meaning all made piece rest outcome → ExpandsLeft all made left outcome
  goes all made (at_text text) piece rest at (then_on added adds fits more) = goes_on piece rest added at adds fits more
  goes all made (at_text text) piece rest at (then_long added adds long) = is_too_long piece rest added at adds long
  goes all made (at_text text) piece rest at (then_fault fault adds) = meets_fault piece rest fault at adds
  goes all made (at_piece p r) piece rest {outcome} at g =
      let same : piece ≡ p = cc in
      let behind : rest ≡ r = cc in
      subst (λ q. Goes wide meaning all made q r outcome) same (subst (λ t. Goes wide meaning all made piece t outcome) behind g)

  left_ends : (all : List (List ℕ)) (made : List ℕ) (left : Left) → ahead wide left ≡ nothing → ExpandsLeft all made left (gives made)
  left_ends all made (at_text text) at = ends at
  left_ends all made (at_piece p r) at = absurd (cc at)

  -- what the name that was made goes on to, its brackets go on to
  widen : (all : List (List ℕ)) (made inner bytes rest : List ℕ) {outcome : Outcome} → wide ≡ true → Expands wide meaning all [] inner (gives bytes) →
      Goes wide meaning all made (named bytes) rest outcome → Goes wide meaning all made (nested inner) rest outcome
  widen all made inner bytes rest w e (then_on added adds fits more) = then_on added (has_name bytes w e adds) fits more
  widen all made inner bytes rest w e (then_long added adds long) = then_long added (has_name bytes w e adds) long
  widen all made inner bytes rest w e (then_fault fault adds) = then_fault fault (has_name bytes w e adds)

  -- the value of the macro is kept
  abbrev pub IsKnown : (List ℕ → Progress) → List ℕ → Type 0
  IsKnown state name = (value : List ℕ) × (state name ≡ known value)

  -- no macro of the list has a kept value
  abbrev pub Avoids : (List ℕ → Progress) → List (List ℕ) → Type 0
  Avoids state [] = Unit {0}
  Avoids state (n ∷ ns) = (IsKnown state n → ⊥) × Avoids state ns

  -- whatever comes of what is left, the whole text comes to, under any open names without kept values
  abbrev pub StandsFor : (List ℕ → Progress) → (own : List (List ℕ)) → (text made : List ℕ) → Left → Type 0
  StandsFor state own text made left =
      (outer : List (List ℕ)) → Avoids state outer → (outcome : Outcome) →
      ExpandsLeft (own ++ outer) made left outcome → Expands wide meaning (own ++ outer) [] text outcome

  -- a kept value is the macro's outcome, under any open names without kept values
  abbrev pub AreRight : (List ℕ → Progress) → Type 0
  AreRight state =
      (name value : List ℕ) → state name ≡ known value →
      (text : List ℕ) × (meaning name ≡ defined text)
      × ((outer : List (List ℕ)) → Avoids state outer → Expands wide meaning (name ∷ outer) [] text (gives value))

  -- the text of the macros `own` is what a caller waits for: the value of a macro, or a name in brackets
  abbrev pub LeadsBy : (List ℕ → Progress) → (outer : List (List ℕ)) → Awaited → (own : List (List ℕ)) → (text : List ℕ) → Type 0
  LeadsBy state outer (value_of name left) own text =
      (own ≡ name ∷ []) × (meaning name ≡ defined text) × (state name ≡ opened) × (IsOneOf name outer → ⊥)
      × ((use_of : Use) × (after : List ℕ) × (ahead wide left ≡ first (reference name use_of) after))
  LeadsBy state outer (name_before rest) own text = (own ≡ []) × (wide ≡ true)

  -- the callers, innermost first, lead from the text of the macros `own` to the root
  abbrev pub Leads : (List ℕ → Progress) → (root : List ℕ) → List Waiting → (own : List (List ℕ)) → (text : List ℕ) → Type 0
  Leads state root [] own text = (own ≡ []) × (text ≡ root)
  Leads state root (c ∷ cs) own text =
      LeadsBy state (names cs) c.awaited own text
      × ((own' : List (List ℕ)) × (text' : List ℕ) × (length c.made ≤ limit wide)
      × StandsFor state own' text' c.made (left_of c.awaited text) × Leads state root cs own' text')

  pub record IsExpanding (root : List ℕ) (state : List ℕ → Progress) (callers : List Waiting) (made : List ℕ) (left : Left) : Type 0 where
    pub own : List (List ℕ)
    pub text : List ℕ
    pub right : AreRight state
    pub open_among : (name : List ℕ) → state name ≡ opened → IsOneOf name (names callers)
    pub leads : Leads state root callers own text
    pub short : length made ≤ limit wide
    pub stands : StandsFor state own text made left

  module _ (state state' : List ℕ → Progress) (grows : (n : List ℕ) → IsKnown state n → IsKnown state' n) where
    avoids-grow : (ns : List (List ℕ)) → Avoids state' ns → Avoids state ns
    avoids-grow [] a = tt
    avoids-grow (n ∷ ns) a = (λ k. a.0 (grows n k), avoids-grow ns a.1)

    stands-grow : (own : List (List ℕ)) (text made : List ℕ) (left : Left) → StandsFor state own text made left → StandsFor state' own text made left
    stands-grow own text made left s = λ outer a. s outer (avoids-grow outer a)

    by-grow : (a : Awaited) (outer own : List (List ℕ)) (text : List ℕ) →
        ((n : List ℕ) → IsOneOf n (with_awaited a outer) → state n ≡ opened → state' n ≡ opened) →
        LeadsBy state outer a own text → LeadsBy state' outer a own text
    by-grow (value_of name left) outer own text keep l = (l.0, l.1, keep name (inl refl) l.2, l.3, l.4)
    by-grow (name_before rest) outer own text keep l = l

    among : (a : Awaited) (outer : List (List ℕ)) (n : List ℕ) → IsOneOf n outer → IsOneOf n (with_awaited a outer)
    among (value_of name left) outer n i = inr i
    among (name_before rest) outer n i = i

    leads-grow : (root : List ℕ) (cs : List Waiting) (own : List (List ℕ)) (text : List ℕ) →
        ((n : List ℕ) → IsOneOf n (names cs) → state n ≡ opened → state' n ≡ opened) →
        Leads state root cs own text → Leads state' root cs own text
    leads-grow root [] own text keep l = l
    leads-grow root (c ∷ cs) own text keep l =
        let inner = l.1 in (
          by-grow c.awaited (names cs) own text keep l.0,
          (
            inner.0,
            inner.1,
            inner.2,
            stands-grow inner.0 inner.1 c.made (left_of c.awaited text) inner.3,
            leads-grow root cs inner.0 inner.1 (λ n i. keep n (among c.awaited (names cs) n i)) inner.4,
          ),
        )

  module _ (state : List ℕ → Progress) where
    avoids-append : (xs ys : List (List ℕ)) → Avoids state xs → Avoids state ys → Avoids state (xs ++ ys)
    avoids-append [] ys a b = b
    avoids-append (x ∷ xs) ys a b = (a.0, avoids-append xs ys a.1 b)

    -- a macro with a kept value isn't among names that avoid those
    one_of-avoids : (name : List ℕ) (ns : List (List ℕ)) → IsOneOf name ns → Avoids state ns → IsKnown state name → ⊥
    one_of-avoids name [] i a k = i
    one_of-avoids name (n ∷ ns) i a k =
        ⊎_elim (λ e. a.0 (subst (λ m. IsKnown state m) e k)) (λ j. one_of-avoids name ns j a.1 k) i

    opened_is_no_value : (name : List ℕ) → state name ≡ opened → IsKnown state name → ⊥
    opened_is_no_value name o k = let e : opened ≡ known k.0 = sym o ∙ k.1 in cc

    by-avoids : (a : Awaited) (outer own : List (List ℕ)) (text : List ℕ) → LeadsBy state outer a own text → Avoids state outer → Avoids state (with_awaited a outer)
    by-avoids (value_of name left) outer own text l avoids = (opened_is_no_value name l.2, avoids)
    by-avoids (name_before rest) outer own text l avoids = avoids

    by-own : (a : Awaited) (outer own : List (List ℕ)) (text : List ℕ) → LeadsBy state outer a own text → (own ++ outer ≡ with_awaited a outer) × Avoids state own
    by-own (value_of name left) outer own text l = (ap (λ o. o ++ outer) l.0, subst (λ o. Avoids state o) (sym l.0) (opened_is_no_value name l.2, tt))
    by-own (name_before rest) outer own text l = (ap (λ o. o ++ outer) l.0, subst (λ o. Avoids state o) (sym l.0) tt)

    by-opened : (a : Awaited) (outer own : List (List ℕ)) (text : List ℕ) → LeadsBy state outer a own text → (n : List ℕ) →
        (IsOneOf n outer → state n ≡ opened) → IsOneOf n (with_awaited a outer) → state n ≡ opened
    by-opened (value_of name left) outer own text l n later i = ⊎_elim (λ e. ap state e ∙ l.2) later i
    by-opened (name_before rest) outer own text l n later i = later i

    -- a fault of the text that a caller waits for is one of what is left there
    by-fault : (a : Awaited) (outer own : List (List ℕ)) (text made : List ℕ) (fault : Fault) → LeadsBy state outer a own text →
        Expands wide meaning (with_awaited a outer) [] text (fails fault) → ExpandsLeft outer made (left_of a text) (fails fault)
    by-fault (value_of name left) outer own text made fault l e =
        goes outer made left (reference name l.4.0) l.4.1 l.4.2 (then_fault fault (has_fault text fault l.1 l.3 e))
    by-fault (name_before rest) outer own text made fault l e = then_fault fault (has_no_name fault l.1 e)

    module _ (root : List ℕ) where
      names-avoid : (cs : List Waiting) (own : List (List ℕ)) (text : List ℕ) → Leads state root cs own text → Avoids state (names cs)
      names-avoid [] own text l = tt
      names-avoid (c ∷ cs) own text l = by-avoids c.awaited (names cs) own text l.0 (names-avoid cs l.1.0 l.1.1 l.1.4)

      names-opened : (cs : List Waiting) (own : List (List ℕ)) (text : List ℕ) → Leads state root cs own text → (n : List ℕ) → IsOneOf n (names cs) → state n ≡ opened
      names-opened [] own text l n i = absurd i
      names-opened (c ∷ cs) own text l n i = by-opened c.awaited (names cs) own text l.0 n (λ j. names-opened cs l.1.0 l.1.1 l.1.4 n j) i

      -- the open names outside the innermost macro
      abbrev outer_names : List Waiting → List (List ℕ)
      outer_names [] = []
      outer_names (c ∷ cs) = names cs

      outer-avoid : (cs : List Waiting) (own : List (List ℕ)) (text : List ℕ) → Leads state root cs own text → Avoids state (outer_names cs)
      outer-avoid [] own text l = tt
      outer-avoid (c ∷ cs) own text l = names-avoid cs l.1.0 l.1.1 l.1.4

      own-append : (cs : List Waiting) (own : List (List ℕ)) (text : List ℕ) → Leads state root cs own text → own ++ outer_names cs ≡ names cs
      own-append [] own text l = ap (λ o. o ++ []) l.0
      own-append (c ∷ cs) own text l = (by-own c.awaited (names cs) own text l.0).0

      own-avoids : (cs : List Waiting) (own : List (List ℕ)) (text : List ℕ) → Leads state root cs own text → Avoids state own
      own-avoids [] own text l = subst (λ o. Avoids state o) (sym l.0) tt
      own-avoids (c ∷ cs) own text l = (by-own c.awaited (names cs) own text l.0).1

      -- a fault of the innermost text is a fault of the root
      climb : (cs : List Waiting) (own : List (List ℕ)) (text : List ℕ) (fault : Fault) → Leads state root cs own text →
          Expands wide meaning (names cs) [] text (fails fault) → Expands wide meaning [] [] root (fails fault)
      climb [] own text fault l e = subst (λ t. Expands wide meaning [] [] t (fails fault)) l.1 e
      climb (c ∷ cs) own text fault l e =
          let inner = l.1 in
          let left = left_of c.awaited text in
          let here : ExpandsLeft (names cs) c.made left (fails fault) = by-fault c.awaited (names cs) own text c.made fault l.0 e in
          let same = own-append cs inner.0 inner.1 inner.4 in
          let there = inner.3 (outer_names cs) (outer-avoid cs inner.0 inner.1 inner.4) (fails fault)
          (subst (λ o. ExpandsLeft o c.made left (fails fault)) (sym same) here) in
          climb cs inner.0 inner.1 fault inner.4 (subst (λ o. Expands wide meaning o [] inner.1 (fails fault)) same there)

      -- a piece adds these bytes under any open names without kept values
      abbrev pub AddsAnywhere : Piece → List ℕ → Type 0
      AddsAnywhere piece added = (all : List (List ℕ)) → Avoids state all → Adds wide meaning all piece (gives added)

      pub known_adds : AreRight state → (name value : List ℕ) (use_of : Use) → state name ≡ known value → AddsAnywhere (reference name use_of) (used use_of value)
      known_adds right name value use_of k =
          let r = right name value k in
          λ all a. has_value r.0 value r.1 (λ i. one_of-avoids name all i a (value, k)) (r.2 all a)

      module _ (cs : List Waiting) (made : List ℕ) (left : Left) (now : IsExpanding root state cs made left) where
        pub left_fault : (fault : Fault) → ExpandsLeft (names cs) made left (fails fault) → Expands wide meaning [] [] root (fails fault)
        left_fault fault e =
            let same = own-append cs now.own now.text now.leads in
            climb cs now.own now.text fault now.leads
            (subst (λ o. Expands wide meaning o [] now.text (fails fault)) same
            (now.stands (outer_names cs) (outer-avoid cs now.own now.text now.leads) (fails fault)
            (subst (λ o. ExpandsLeft o made left (fails fault)) (sym same) e)))

        pub piece_fault : (piece : Piece) (after : List ℕ) (fault : Fault) → ahead wide left ≡ first piece after →
            Adds wide meaning (names cs) piece (fails fault) → Expands wide meaning [] [] root (fails fault)
        piece_fault piece after fault at adds = left_fault fault (goes (names cs) made left piece after at (then_fault fault adds))

        pub piece_too_long : (piece : Piece) (after added : List ℕ) → ahead wide left ≡ first piece after →
            AddsAnywhere piece added → limit wide < length (made ++ added) → Expands wide meaning [] [] root (fails too_long)
        piece_too_long piece after added at adds long =
            left_fault too_long (goes (names cs) made left piece after at (then_long added (adds (names cs) (names-avoid cs now.own now.text now.leads)) long))

        pub loop_fault : (name : List ℕ) (use_of : Use) (after text : List ℕ) → ahead wide left ≡ first (reference name use_of) after →
            meaning name ≡ defined text → state name ≡ opened → Expands wide meaning [] [] root (fails (refers_to_itself name))
        loop_fault name use_of after text at is_defined is_open =
            piece_fault (reference name use_of) after (refers_to_itself name) at (is_loop text is_defined (now.open_among name is_open))

        -- the bytes of a piece are appended
        pub step : (piece : Piece) (after added : List ℕ) → ahead wide left ≡ first piece after →
            AddsAnywhere piece added → length (made ++ added) ≤ limit wide → IsExpanding root state cs (made ++ added) (at_text after)
        step piece after added at adds bound = record {
          own = now.own;
          text = now.text;
          right = now.right;
          open_among = now.open_among;
          leads = now.leads;
          short = bound;
          stands = λ outer a outcome e. now.stands outer a outcome
              (goes (now.own ++ outer) made left piece after at (then_on added (adds (now.own ++ outer) (avoids-append now.own outer (own-avoids cs now.own now.text now.leads) a)) bound e));
        }

        -- the name in brackets is begun
        pub enter_name : (inner after : List ℕ) → wide ≡ true → ahead wide left ≡ first (nested inner) after →
            IsExpanding root state (record { awaited = name_before after; made = made } ∷ cs) [] (at_text inner)
        enter_name inner after w at = record {
          own = [];
          text = inner;
          right = now.right;
          open_among = now.open_among;
          leads = (
            (refl, w),
            (now.own, now.text, now.short, (λ outer a outcome g. now.stands outer a outcome (goes (now.own ++ outer) made left (nested inner) after at g)), now.leads),
          );
          short = omega arith;
          stands = λ outer a outcome e. e;
        }

      -- the name in brackets is made, and stands for them
      pub leave_name : (cs : List Waiting) (made : List ℕ) (left : Left) (before after : List ℕ) →
          IsExpanding root state (record { awaited = name_before after; made = before } ∷ cs) made left → ahead wide left ≡ nothing →
          IsExpanding root state cs before (at_piece (named made) after)
      leave_name cs made left before after now at =
          let l = now.leads in
          let inner = l.1 in
          let name_made : (outer : List (List ℕ)) → Avoids state outer → Expands wide meaning outer [] now.text (gives made) = λ outer a.
          subst (λ o. Expands wide meaning (o ++ outer) [] now.text (gives made)) l.0.0 (now.stands outer a (gives made) (left_ends (now.own ++ outer) made left at)) in
          record {
            own = inner.0;
            text = inner.1;
            right = now.right;
            open_among = now.open_among;
            leads = inner.4;
            short = inner.2;
            stands = λ outer a outcome e. inner.3 outer a outcome
                (widen (inner.0 ++ outer) before now.text made after l.0.1
                (name_made (inner.0 ++ outer) (avoids-append inner.0 outer (own-avoids cs inner.0 inner.1 inner.4) a)) e);
          }

  same_or_not : (a b : List ℕ) → (a ≡ b) ⊎ (a ≡ b → ⊥)
  same_or_not a b =
      let d = bytes_eq-Decides a b in
      ⊎_elim (λ yes. inl (d.0 yes)) (λ no. inr (λ e. absurd (false≢true (sym no ∙ d.1 e)))) (cases_Bool (bytes_eq a b))

  -- nothing was read yet
  pub start : (root : List ℕ) (state : List ℕ → Progress) → ((n : List ℕ) → state n ≡ unseen) → IsExpanding root state [] [] (at_text root)
  start root state none = record {
    own = [];
    text = root;
    right = λ name value k. let e : unseen ≡ known value = sym (none name) ∙ k in absurd (cc);
    open_among = λ name o. let e : unseen ≡ opened = sym (none name) ∙ o in absurd (cc);
    leads = (refl, refl);
    short = omega arith;
    stands = λ outer a outcome e. e;
  }

  -- the whole text is read
  pub finish : (root : List ℕ) (state : List ℕ → Progress) (made : List ℕ) (left : Left) → IsExpanding root state [] made left → ahead wide left ≡ nothing →
      Expands wide meaning [] [] root (gives made)
  finish root state made left now at =
      let whole = now.stands [] tt (gives made) (left_ends (now.own ++ []) made left at) in
      let own_none : Expands wide meaning ([] ++ []) [] now.text (gives made) = subst (λ o. Expands wide meaning (o ++ []) [] now.text (gives made)) now.leads.0 whole in
      subst (λ t. Expands wide meaning [] [] t (gives made)) now.leads.1 own_none

  module _ (root : List ℕ) (state state' : List ℕ → Progress) (cs : List Waiting) (made : List ℕ) (left : Left) where
    -- a macro that wasn't met before is begun
    pub enter : (name : List ℕ) (use_of : Use) (after text : List ℕ) → IsExpanding root state cs made left → ahead wide left ≡ first (reference name use_of) after →
        meaning name ≡ defined text → state name ≡ unseen → SetsProgress state name opened state' →
        IsExpanding root state' (record { awaited = value_of name left; made = made } ∷ cs) [] (at_text text)
    enter name use_of after text now at is_defined is_new sets =
        let grows : (n : List ℕ) → IsKnown state n → IsKnown state' n = λ n k.
        ⊎_elim (λ e. let bad : unseen ≡ known k.0 = sym is_new ∙ sym (ap state e) ∙ k.1 in absurd (cc)) (λ ne. (k.0, sets.others n ne ∙ k.1)) (same_or_not n name) in
        let keep : (n : List ℕ) → IsOneOf n (names cs) → state n ≡ opened → state' n ≡ opened = λ n i o.
        ⊎_elim (λ e. ap state' e ∙ sets.at) (λ ne. sets.others n ne ∙ o) (same_or_not n name) in
        record {
          own = name ∷ [];
          text = text;
          right = λ n value k.
              ⊎_elim (λ e. let bad : opened ≡ known value = sym sets.at ∙ sym (ap state' e) ∙ k in absurd (cc))
              (λ ne. let r = now.right n value (sym (sets.others n ne) ∙ k) in (r.0, r.1, λ outer a. r.2 outer (avoids-grow state state' grows outer a)))
              (same_or_not n name);
          open_among = λ n o. ⊎_elim (λ e. inl e) (λ ne. inr (now.open_among n (sym (sets.others n ne) ∙ o))) (same_or_not n name);
          leads = (
            (
              refl,
              is_defined,
              sets.at,
              (λ i. let bad : unseen ≡ opened = sym is_new ∙ names-opened state root cs now.own now.text now.leads name i in absurd (cc)),
              (use_of, after, at),
            ),
            (now.own, now.text, now.short, stands-grow state state' grows now.own now.text made left now.stands, leads-grow state state' grows root cs now.own now.text keep now.leads),
          );
          short = omega arith;
          stands = λ outer a outcome e. e;
        }

    -- a macro's value is known, and its caller reads the reference again
    pub leave : (name before : List ℕ) (behind : Left) → IsExpanding root state (record { awaited = value_of name behind; made = before } ∷ cs) made left →
        ahead wide left ≡ nothing → SetsProgress state name (known made) state' → IsExpanding root state' cs before behind
    leave name before behind now at sets =
        let l = now.leads.0 in
        let inner = now.leads.1 in
        let grows : (n : List ℕ) → IsKnown state n → IsKnown state' n = λ n k.
        ⊎_elim (λ e. (made, ap state' e ∙ sets.at)) (λ ne. (k.0, sets.others n ne ∙ k.1)) (same_or_not n name) in
        let keep : (n : List ℕ) → IsOneOf n (names cs) → state n ≡ opened → state' n ≡ opened = λ n i o.
        ⊎_elim (λ e. absurd (l.3 (subst (λ m. IsOneOf m (names cs)) e i))) (λ ne. sets.others n ne ∙ o) (same_or_not n name) in
        let value : (outer : List (List ℕ)) → Avoids state' outer → Expands wide meaning (name ∷ outer) [] now.text (gives made) = λ outer a.
        subst (λ o. Expands wide meaning (o ++ outer) [] now.text (gives made)) l.0 (now.stands outer (avoids-grow state state' grows outer a) (gives made) (left_ends (now.own ++ outer) made left at)) in
        record {
          own = inner.0;
          text = inner.1;
          right = λ n v k.
              ⊎_elim
              (λ e. let same : known made ≡ known v = sym sets.at ∙ sym (ap state' e) ∙ k in
              let v_is : made ≡ v = cc in
              (now.text, ap meaning e ∙ l.1, λ outer a. subst (λ m. Expands wide meaning (m ∷ outer) [] now.text (gives v)) (sym e) (subst (λ w. Expands wide meaning (name ∷ outer) [] now.text (gives w)) v_is (value outer a))))
              (λ ne. let r = now.right n v (sym (sets.others n ne) ∙ k) in (r.0, r.1, λ outer a. r.2 outer (avoids-grow state state' grows outer a)))
              (same_or_not n name);
          open_among = λ n o.
              ⊎_elim (λ e. let bad : known made ≡ opened = sym sets.at ∙ sym (ap state' e) ∙ o in absurd (cc))
              (λ ne. ⊎_elim (λ e. absurd (ne e)) (λ i. i) (now.open_among n (sym (sets.others n ne) ∙ o)))
              (same_or_not n name);
          leads = leads-grow state state' grows root cs inner.0 inner.1 keep inner.4;
          short = inner.2;
          stands = stands-grow state state' grows inner.0 inner.1 before behind inner.3;
        }

    -- a macro whose text stands for itself is known without being begun
    pub know : (name text : List ℕ) → IsExpanding root state cs made left → meaning name ≡ defined text → state name ≡ unseen →
        ((opened : List (List ℕ)) → Expands wide meaning opened [] text (gives text)) → SetsProgress state name (known text) state' → IsExpanding root state' cs made left
    know name text now is_defined is_new expands sets =
        let grows : (n : List ℕ) → IsKnown state n → IsKnown state' n = λ n k.
        ⊎_elim (λ e. let bad : unseen ≡ known k.0 = sym is_new ∙ sym (ap state e) ∙ k.1 in absurd (cc)) (λ ne. (k.0, sets.others n ne ∙ k.1)) (same_or_not n name) in
        let keep : (n : List ℕ) → IsOneOf n (names cs) → state n ≡ opened → state' n ≡ opened = λ n i o.
        ⊎_elim (λ e. let bad : unseen ≡ opened = sym is_new ∙ sym (ap state e) ∙ o in absurd (cc)) (λ ne. sets.others n ne ∙ o) (same_or_not n name) in
        record {
          own = now.own;
          text = now.text;
          right = λ n v k.
              ⊎_elim
              (λ e. let same : known text ≡ known v = sym sets.at ∙ sym (ap state' e) ∙ k in
              let v_is : text ≡ v = cc in
              (text, ap meaning e ∙ is_defined, λ outer a. subst (λ w. Expands wide meaning (n ∷ outer) [] text (gives w)) v_is (expands (n ∷ outer))))
              (λ ne. let r = now.right n v (sym (sets.others n ne) ∙ k) in (r.0, r.1, λ outer a. r.2 outer (avoids-grow state state' grows outer a)))
              (same_or_not n name);
          open_among = λ n o.
              ⊎_elim (λ e. let bad : known text ≡ opened = sym sets.at ∙ sym (ap state' e) ∙ o in absurd (cc))
              (λ ne. now.open_among n (sym (sets.others n ne) ∙ o))
              (same_or_not n name);
          leads = leads-grow state state' grows root cs now.own now.text keep now.leads;
          short = now.short;
          stands = stands-grow state state' grows now.own now.text made left now.stands;
        }
