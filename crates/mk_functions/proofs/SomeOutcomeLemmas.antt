-- A text has an outcome: each call leaves fewer levels, each variable whose text is expanded one less to open, and what a piece asks for is
-- shorter than the text that it stands in.
use Rattle.std.proofs.Common.{◌≡◌, ℕ, zero, suc, ◌+◌, ◌-◌, ◌<◌, ◌≤◌, Bool, true, false, cond, ◌||◌, ◌==◌, List, [], ◌∷◌, ◌++◌, take, drop, length, Option, Some, None, option_map, refl, sym, ap, subst, ◌∙◌, ◌⊎◌, inl, inr, arith, bytes_eq, nat_lt}
use Rattle.std.proofs.lemmas.Bool.{cases_lt}
use Rattle.std.proofs.lemmas.Slice.Eq.{bytes_eq-Decides}
use Rattle.std.specs.List.{list_any, prefix_len, suffix_len}
use Rattle.byte_strings.specs.Blanks.{is_nonempty}
use Rattle.mk_words.specs.Words.{is_space, words_of, behind_spaces, before_spaces}
use Rattle.mk_words.specs.Counted.{first_word}
use Rattle.mk_pieces.specs.Brackets.{place_of}
use Rattle.mk_pieces.specs.Function.{function_named}
use Rattle.mk_pieces.specs.Piece.{Use, whole, substituted, Piece, plain, reference, unclosed, computed, call, Front, after_colon, at_colon, front}
use Rattle.mk_pieces.specs.declared.function.Function.{Function}
use Rattle.mk_pieces.specs.declared.function.Function.TheVariants.{OfWords, OfVariable, Asks, Says, Error, OfTwo, OfThree, If, Or, And, Foreach, Call}
use Rattle.mk_pieces.specs.declared.function.Function.TheVariants as function
use Rattle.mk_functions.proofs.FrontLemmas.{take-shorter, drop-shorter, AllShort, Sized, SizedPiece, front-sized}
use Rattle.mk_functions.specs.Variables.{Variable, Variables}
use Rattle.mk_functions.specs.declared.variable.Flavor.{Flavor}
use Rattle.mk_functions.specs.declared.variable.Flavor.TheVariants.{Recursive, Simple}
use Rattle.mk_functions.specs.Scope.{Scope, bound, called, Site, or_else, bound_in, bound_variable, variable_in, value_count, padded, Entry, stays, opens, binds, passes, inside, is_too_deep}
use Rattle.mk_functions.specs.Outcome.{Outcome, gives, fails, refers_to_itself, not_closed, too_long, too_deep, too_few, refuses, limit, given}
use Rattle.mk_functions.specs.Values.{Answers, applied}
use Rattle.mk_functions.specs.Steps.{State, value_of, name_in, argument, condition, last, or_argument, and_argument, loop_name, loop_list, loop_body, Step, asks, answers, trimmed, used, opened_step, flavor_step, variable_step, reference_step, named_step, branch_step, if_step, or_step, and_step, foreach_step, made_or_nothing, behind_made, loop_step, called_flavor, called_variable, called_step, call_step, applied_step, argument_step, started, piece_step, resumed}
use Rattle.mk_functions.specs.Expansion.{Expands, ends, goes_on, is_long, meets_fault, ComesTo, has_answer, is_resumed, is_stopped, is_deep}

either : (P : Type 0) (t : Bool) → (t ≡ true → P) → (t ≡ false → P) → P
either P true h k = h refl
either P false h k = k refl

-- Variables that aren't being expanded

abbrev left : Bool → ℕ
left true = 0
left false = 1

-- how many of these names aren't opened
abbrev unopened : (opened : List (List ℕ)) → List (List ℕ) → ℕ
unopened opened [] = 0
unopened opened (n ∷ ns) = left (list_any (bytes_eq n) opened) + unopened opened ns

left-more : (t i : Bool) → left (t || i) ≤ left i
left-more true true = omega arith
left-more true false = omega arith
left-more false i = omega arith

unopened-more : (name : List ℕ) (opened ns : List (List ℕ)) → unopened (name ∷ opened) ns ≤ unopened opened ns
unopened-more name opened [] = omega arith
unopened-more name opened (n ∷ ns) =
    let a = left-more (bytes_eq n name) (list_any (bytes_eq n) opened) in
    let b = unopened-more name opened ns in omega (arith, a, b)

same_name : (a b : List ℕ) → bytes_eq a b ≡ true → a ≡ b
same_name a b h = (bytes_eq-Decides a b).0 h

name_same : (a b : List ℕ) → a ≡ b → bytes_eq a b ≡ true
name_same a b h = (bytes_eq-Decides a b).1 h

entered_here : (name n : List ℕ) (opened ns : List (List ℕ)) → list_any (bytes_eq name) opened ≡ false → bytes_eq name n ≡ true →
    unopened (name ∷ opened) (n ∷ ns) < unopened opened (n ∷ ns)
entered_here name n opened ns apart e =
    let same : name ≡ n = same_name name n e in
    let new : left (bytes_eq n name || list_any (bytes_eq n) opened) ≡ 0 = ap (λ t. left (t || list_any (bytes_eq n) opened)) (name_same n name (sym same)) in
    let old : left (list_any (bytes_eq n) opened) ≡ 1 = ap (λ m. left (list_any (bytes_eq m) opened)) (sym same) ∙ ap left apart in
    let b = unopened-more name opened ns in omega (arith, new, old, b)

entered_further : (name n : List ℕ) (opened ns : List (List ℕ)) → unopened (name ∷ opened) ns < unopened opened ns →
    unopened (name ∷ opened) (n ∷ ns) < unopened opened (n ∷ ns)
entered_further name n opened ns less =
    let a = left-more (bytes_eq n name) (list_any (bytes_eq n) opened) in omega (arith, a, less)

-- a name more is opened
entered : (name : List ℕ) (opened ns : List (List ℕ)) → list_any (bytes_eq name) ns ≡ true → list_any (bytes_eq name) opened ≡ false →
    unopened (name ∷ opened) ns < unopened opened ns
entered name opened [] is apart = absurd (cc is)
entered name opened (n ∷ ns) is apart =
    either (unopened (name ∷ opened) (n ∷ ns) < unopened opened (n ∷ ns)) (bytes_eq name n)
    (λ e. entered_here name n opened ns apart e)
    (λ e. entered_further name n opened ns (entered name opened ns (sym (ap (λ t. t || list_any (bytes_eq name) ns) e) ∙ is) apart))

trimmed-shorter : (text : List ℕ) → length (trimmed text) ≤ length text
unfolding behind_spaces before_spaces
trimmed-shorter text =
    let t = drop (prefix_len is_space text) text in
    let a = drop-shorter (prefix_len is_space text) text in
    let b = take-shorter (length t - suffix_len is_space t) t in
    omega (arith, a, b)

module _ (w : Answers) (variables : Variables) where
  abbrev Has : (site : Site) (made text : List ℕ) → Type 0
  Has site made text = (o : Outcome) × Expands w variables site made text o

  abbrev Comes : Site → Step → Type 0
  Comes site step = (o : Outcome) × ComesTo w variables site step o

  answer_some : (site : Site) (outcome : Outcome) → Comes site (answers outcome)
  answer_some site outcome = (outcome, has_answer)

  cond_some : (site : Site) (t : Bool) (one other : Step) → Comes site one → Comes site other → Comes site (cond t one other)
  cond_some site true one other x y = x
  cond_some site false one other x y = y

  asked_by : (site : Site) (entry : Entry) (text : List ℕ) (state : State) → is_too_deep entry site ≡ false → Has (inside entry site) [] text →
      ((value : List ℕ) → Comes site (resumed w variables site state value)) → Comes site (asks entry text state)
  asked_by site entry text state h (gives value, e) next = let more = next value in (more.0, is_resumed value h e more.1)
  asked_by site entry text state h (fails fault, e) next = (fails fault, is_stopped fault h e)

  module _ (listed : List (List ℕ)) (known : (name : List ℕ) (v : Variable) → variables name ≡ Some v → v.flavor ≡ Recursive → list_any (bytes_eq name) listed ≡ true) where
    abbrev at : (levels : ℕ) (scope : Scope) (opened : List (List ℕ)) → Site
    at levels scope opened = record { levels = levels; scope = scope; opened = opened }

    abbrev cost : List (List ℕ) → ℕ
    cost opened = unopened opened listed

    -- texts have outcomes where one level less is allowed
    abbrev Lower : ℕ → Type 0
    Lower levels = (levels == 0) ≡ false → (scope : Scope) (opened : List (List ℕ)) (text : List ℕ) → Has (at (levels - 1) scope opened) [] text

    -- texts have outcomes where less is left to open
    abbrev Deeper : ℕ → ℕ → Type 0
    Deeper levels fuel = (scope : Scope) (opened : List (List ℕ)) (text : List ℕ) → cost opened < fuel → Has (at levels scope opened) [] text

    defined_outside : (found : Option (List ℕ)) (name : List ℕ) (v : Variable) → or_else (option_map bound_variable found) (variables name) ≡ Some v → v.flavor ≡ Recursive → variables name ≡ Some v
    defined_outside None name v e r = e
    defined_outside (Some value) name v e r =
        let same : bound_variable value ≡ v = cc in
        let wrong : Simple ≡ Recursive = ap (λ (u : Variable). u.flavor) same ∙ r in
        absurd (cc wrong)

    module _ (levels fuel : ℕ) (lower : Lower levels) (deeper : Deeper levels fuel) (opened : List (List ℕ)) (h : cost opened ≤ fuel) where
      abbrev here : Scope → Site
      here scope = at levels scope opened

      -- texts that are shorter than this have outcomes
      abbrev Shorter : ℕ → Type 0
      Shorter n = (scope : Scope) (made text : List ℕ) → length text < n → Has (here scope) made text

      -- References

      opened_some : (scope : Scope) (name : List ℕ) (v : Variable) (use_of : Use) → variable_in variables scope name ≡ Some v → v.flavor ≡ Recursive →
          Comes (here scope) (opened_step opened name v.text use_of)
      opened_some scope name v use_of e r =
          either (Comes (here scope) (opened_step opened name v.text use_of)) (list_any (bytes_eq name) opened)
          (λ t. subst (λ b. Comes (here scope) (cond b (answers (fails (refers_to_itself name))) (asks (opens name) v.text (value_of use_of)))) (sym t)
          (answer_some (here scope) (fails (refers_to_itself name))))
          (λ f. subst (λ b. Comes (here scope) (cond b (answers (fails (refers_to_itself name))) (asks (opens name) v.text (value_of use_of)))) (sym f)
          (asked_by (here scope) (opens name) v.text (value_of use_of) refl
          (deeper scope (name ∷ opened) v.text
          (let less = entered name opened listed (known name v (defined_outside (bound_in name scope) name v e r) r) f in omega (arith, less, h)))
          (λ value. answer_some (here scope) (gives (used use_of value)))))

      flavor_some : (scope : Scope) (name : List ℕ) (v : Variable) (use_of : Use) → variable_in variables scope name ≡ Some v → (f : Flavor) → v.flavor ≡ f →
          Comes (here scope) (flavor_step f opened name v.text use_of)
      flavor_some scope name v use_of e Simple r = answer_some (here scope) (gives (used use_of v.text))
      flavor_some scope name v use_of e Recursive r = opened_some scope name v use_of e r

      variable_some : (scope : Scope) (name : List ℕ) (use_of : Use) (found : Option Variable) → variable_in variables scope name ≡ found →
          Comes (here scope) (variable_step found opened name use_of)
      variable_some scope name use_of None e = answer_some (here scope) (gives [])
      variable_some scope name use_of (Some v) e = flavor_some scope name v use_of e v.flavor refl

      reference_some : (scope : Scope) (name : List ℕ) (use_of : Use) → Comes (here scope) (reference_step variables (here scope) name use_of)
      reference_some scope name use_of = variable_some scope name use_of (variable_in variables scope name) refl

      change_some : (scope : Scope) (inner : List ℕ) (colon : ℕ) (change : List ℕ) (equals : Option ℕ) → Comes (here scope) (named_step variables (here scope) (after_colon inner colon change equals))
      change_some scope inner colon change None = reference_some scope inner whole
      change_some scope inner colon change (Some equals) = reference_some scope (take colon inner) (substituted (take equals change) (drop (equals + 1) change))

      colon_some : (scope : Scope) (inner : List ℕ) (colon : Option ℕ) → Comes (here scope) (named_step variables (here scope) (at_colon inner colon))
      colon_some scope inner None = reference_some scope inner whole
      colon_some scope inner (Some colon) = change_some scope inner colon (drop (colon + 1) inner) (place_of 61 (drop (colon + 1) inner))

      -- Calls

      asked_some : (scope : Scope) (text : List ℕ) (state : State) → Has (here scope) [] text →
          ((value : List ℕ) → Comes (here scope) (resumed w variables (here scope) state value)) → Comes (here scope) (asks stays text state)
      asked_some scope text state found next = asked_by (here scope) stays text state refl found next

      below_some : (scope : Scope) (values : List (List ℕ)) (text : List ℕ) → Comes (here scope) (asks (passes values) text last)
      below_some scope values text =
          either (Comes (here scope) (asks (passes values) text last)) (levels == 0)
          (λ t. (fails (too_deep (first_word values)), is_deep t))
          (λ f. asked_by (here scope) (passes values) text last f (lower f (called values ∷ scope) opened text) (λ value. answer_some (here scope) (gives value)))

      called_some : (scope : Scope) (count : ℕ) (values : List (List ℕ)) (found : Option Variable) → Comes (here scope) (called_variable found count values)
      called_some scope count values None = answer_some (here scope) (gives [])
      called_some scope count values (Some v) = by v.flavor
        where
          by : (f : Flavor) → Comes (here scope) (called_flavor f count values v.text)
          by Simple = answer_some (here scope) (given v.text)
          by Recursive = below_some scope (padded count values) v.text

      step_some : (scope : Scope) (name : List ℕ) (values : List (List ℕ)) (f : Option Function) → Comes (here scope) (called_step w variables (here scope) f name values)
      step_some scope name values None = called_some scope (value_count scope) (name ∷ values) (variable_in variables scope name)
      step_some scope name values (Some f) = answer_some (here scope) (applied w (variable_in variables scope) f values)

      call_some : (scope : Scope) (values : List (List ℕ)) → Comes (here scope) (call_step w variables (here scope) values)
      call_some scope [] = answer_some (here scope) (gives [])
      call_some scope (value ∷ values) =
          let name = first_word (words_of value) in
          cond_some (here scope) (is_nonempty name) (called_step w variables (here scope) (function_named name) name values) (answers (gives []))
          (step_some scope name values (function_named name)) (answer_some (here scope) (gives []))

      applied_some : (scope : Scope) (f : Function) (values : List (List ℕ)) → Comes (here scope) (applied_step w variables (here scope) f values)
      applied_some scope Call values = call_some scope values
      applied_some scope (OfWords f) values = answer_some (here scope) _
      applied_some scope (OfVariable f) values = answer_some (here scope) _
      applied_some scope (Asks q) values = answer_some (here scope) _
      applied_some scope (Says m) values = answer_some (here scope) _
      applied_some scope Error values = answer_some (here scope) _
      applied_some scope (OfTwo f) values = answer_some (here scope) _
      applied_some scope (OfThree f) values = answer_some (here scope) _
      applied_some scope (function.Refused f) values = answer_some (here scope) _
      applied_some scope If values = answer_some (here scope) _
      applied_some scope Or values = answer_some (here scope) _
      applied_some scope And values = answer_some (here scope) _
      applied_some scope Foreach values = answer_some (here scope) _

      module _ (n : ℕ) (later : Shorter n) (scope : Scope) where
        trimmed_some : (text : List ℕ) → length text < n → Has (here scope) [] (trimmed text)
        trimmed_some text short = later scope [] (trimmed text) (let s = trimmed-shorter text in omega (arith, s, short))

        arguments_some : (f : Function) (values texts : List (List ℕ)) → AllShort n texts → Comes (here scope) (argument_step w variables (here scope) f values texts)
        arguments_some f values [] short = applied_some scope f values
        arguments_some f values (text ∷ texts) short =
            asked_some scope text (argument f values texts) (later scope [] text short.0) (λ value. arguments_some f (values ++ value ∷ []) texts short.1)

        branch_some : (branches : List (List ℕ)) → AllShort n branches → Comes (here scope) (branch_step branches)
        branch_some [] short = answer_some (here scope) (gives [])
        branch_some (text ∷ more) short = asked_some scope text last (later scope [] text short.0) (λ value. answer_some (here scope) (gives value))

        if_some : (arguments : List (List ℕ)) → AllShort n arguments → Comes (here scope) (if_step arguments)
        if_some [] short = answer_some (here scope) (fails (too_few If))
        if_some (text ∷ []) short = answer_some (here scope) (fails (too_few If))
        if_some (text ∷ one ∷ more) short =
            asked_some scope (trimmed text) (condition (one ∷ more)) (trimmed_some text short.0)
            (λ value. cond_some (here scope) (is_nonempty value) (branch_step (one ∷ more)) (branch_step more) (branch_some (one ∷ more) short.1) (branch_some more short.1.1))

        or_some : (texts : List (List ℕ)) → AllShort n texts → Comes (here scope) (or_step texts)
        or_some [] short = answer_some (here scope) (gives [])
        or_some (text ∷ texts) short =
            asked_some scope (trimmed text) (or_argument texts) (trimmed_some text short.0)
            (λ value. cond_some (here scope) (is_nonempty value) (answers (gives value)) (or_step texts) (answer_some (here scope) (gives value)) (or_some texts short.1))

        and_some : (before : List ℕ) (texts : List (List ℕ)) → AllShort n texts → Comes (here scope) (and_step before texts)
        and_some before [] short = answer_some (here scope) (gives before)
        and_some before (text ∷ texts) short =
            asked_some scope (trimmed text) (and_argument texts) (trimmed_some text short.0)
            (λ value. cond_some (here scope) (is_nonempty value) (and_step value texts) (answers (gives [])) (and_some value texts short.1) (answer_some (here scope) (gives [])))

        loop_some : (name body : List ℕ) → length body < n → (words : List (List ℕ)) (made : Option (List ℕ)) → Comes (here scope) (loop_step name body words made)
        loop_some name body short [] made = answer_some (here scope) (given (made_or_nothing made))
        loop_some name body short (word ∷ words) made =
            cond_some (here scope) (nat_lt limit (length (made_or_nothing made))) (answers (fails too_long)) (asks (binds name word) body (loop_body name body words made))
            (answer_some (here scope) (fails too_long))
            (asked_by (here scope) (binds name word) body (loop_body name body words made) refl (later (bound name word ∷ scope) [] body short)
            (λ value. loop_some name body short words (Some (behind_made made value))))

        foreach_some : (arguments : List (List ℕ)) → AllShort n arguments → Comes (here scope) (foreach_step arguments)
        foreach_some [] short = answer_some (here scope) (fails (too_few Foreach))
        foreach_some (name ∷ []) short = answer_some (here scope) (fails (too_few Foreach))
        foreach_some (name ∷ list ∷ []) short = answer_some (here scope) (fails (too_few Foreach))
        foreach_some (name ∷ list ∷ body ∷ more) short =
            asked_some scope name (loop_name list body) (later scope [] name short.0)
            (λ value. asked_some scope list (loop_list (first_word (words_of value)) body) (later scope [] list short.1.0)
            (λ found. loop_some (first_word (words_of value)) body short.1.1.0 (words_of found) None))

        started_some : (f : Function) (arguments : List (List ℕ)) → AllShort n arguments → Comes (here scope) (started w variables (here scope) f arguments)
        started_some If arguments short = if_some arguments short
        started_some Or arguments short = or_some arguments short
        started_some And arguments short = and_some [] arguments short
        started_some Foreach arguments short = foreach_some arguments short
        started_some (function.Refused f) arguments short = answer_some (here scope) (fails (refuses f))
        started_some Call arguments short = arguments_some Call [] arguments short
        started_some (OfWords f) arguments short = arguments_some (OfWords f) [] arguments short
        started_some (OfVariable f) arguments short = arguments_some (OfVariable f) [] arguments short
        started_some (Asks q) arguments short = arguments_some (Asks q) [] arguments short
        started_some (Says m) arguments short = arguments_some (Says m) [] arguments short
        started_some Error arguments short = arguments_some Error [] arguments short
        started_some (OfTwo f) arguments short = arguments_some (OfTwo f) [] arguments short
        started_some (OfThree f) arguments short = arguments_some (OfThree f) [] arguments short

        piece_some : (piece : Piece) → SizedPiece n piece → Comes (here scope) (piece_step w variables (here scope) piece)
        piece_some (plain bytes) short = answer_some (here scope) (gives bytes)
        piece_some (reference name use_of) short = reference_some scope name use_of
        piece_some unclosed short = answer_some (here scope) (fails not_closed)
        piece_some (computed inner) short = asked_some scope inner name_in (later scope [] inner short) (λ value. colon_some scope value (place_of 58 value))
        piece_some (call f arguments) short = started_some f arguments short

        sized : (made text : List ℕ) (piece : Piece) (rest : List ℕ) → front text ≡ Some (piece, rest) → length rest < n → (bytes : List ℕ) →
            ComesTo w variables (here scope) (piece_step w variables (here scope) piece) (gives bytes) →
            (limit < length (made ++ bytes)) ⊎ (length (made ++ bytes) ≤ limit) → Has (here scope) made text
        sized made text piece rest e short bytes a (inl long) = (fails too_long, is_long piece rest bytes e a long)
        sized made text piece rest e short bytes a (inr fits) =
            let more = later scope (made ++ bytes) rest short in (more.0, goes_on piece rest bytes e a fits more.1)

        added : (made text : List ℕ) (piece : Piece) (rest : List ℕ) → front text ≡ Some (piece, rest) → length rest < n →
            Comes (here scope) (piece_step w variables (here scope) piece) → Has (here scope) made text
        added made text piece rest e short (gives bytes, a) = sized made text piece rest e short bytes a (cases_lt limit (length (made ++ bytes)))
        added made text piece rest e short (fails fault, a) = (fails fault, meets_fault piece rest fault e a)

        front_some : (made text : List ℕ) (f : Front) → front text ≡ f → Sized n text f → Has (here scope) made text
        front_some made text None e s = (gives made, ends e)
        front_some made text (Some f) e s = added made text f.0 f.1 e s.1 (piece_some f.0 s.2)

      text_some : (n : ℕ) (scope : Scope) (made text : List ℕ) → length text ≤ n → Has (here scope) made text
      text_some zero scope made text short = front_some (length text) (λ s m rest l. absurd (omega (arith, l, short))) scope made text (front text) refl (front-sized text)
      text_some (suc n) scope made text short = front_some (length text) (λ s m rest l. text_some n s m rest (omega (arith, l, short))) scope made text (front text) refl (front-sized text)

    fuel_some : (levels : ℕ) → Lower levels → (fuel : ℕ) → Deeper levels fuel
    fuel_some levels lower zero scope opened text h = absurd (omega (arith, h))
    fuel_some levels lower (suc fuel) scope opened text h = text_some levels fuel lower (fuel_some levels lower fuel) opened (omega (arith, h)) (length text) scope [] text (omega arith)

    pub levels_some : (levels : ℕ) (scope : Scope) (opened : List (List ℕ)) (text : List ℕ) → Has (at levels scope opened) [] text
    levels_some zero scope opened text = fuel_some zero (λ e s o t. absurd (cc e)) (suc (cost opened)) scope opened text (omega arith)
    levels_some (suc levels) scope opened text =
        fuel_some (suc levels) (λ e s o t. let same : levels ≡ suc levels - 1 = omega arith in subst (λ k. Has (at k s o) [] t) same (levels_some levels s o t))
        (suc (cost opened)) scope opened text (omega arith)
