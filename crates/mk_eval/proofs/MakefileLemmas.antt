-- What is gathered thing by thing is what all things give in order; a fault is passed on. What include lines name.
use Rattle.std.proofs.Common.{◌≡◌, ◌+◌, arith, ℕ, suc, true, false, length, List, [], ◌∷◌, ◌++◌, refl, sym, ap, subst, ◌∙◌, Option, is_none, Result, Ok, Err, IfOk, IfSome, append_assoc, append-nil, Vec}
use Rattle.std.specs.declared.alloc.Global.{Global}
use Rattle.mk_reader.specs.declared.item.Item.{Item}
use Rattle.mk_reader.specs.declared.fault.Refusal.{Refusal}
use Rattle.mk_reader.specs.declared.fault.ReadFault.{ReadFault}
use Rattle.mk_reader.specs.declared.fault.ReadFault.TheVariants.{OutOfMemory, Refused}
use Rattle.std.specs.List.{list_any}
use Rattle.mk_lines.specs.Text.{is_dollar}
use Rattle.mk_macros.specs.Expansion as expansion
use Rattle.mk_macros.specs.Expansion.{Meanings, gives, fails, ExpandsTo, ExpandsToFault}
use Rattle.mk_macros.specs.Ranks.{Defined, rule_meanings}
use Rattle.mk_macros.specs.declared.fault.MacroFault.{MacroFault}
use Rattle.mk_macros.specs.declared.fault.MacroFault.TheVariants as macro_fault
use Rattle.mk_reader.specs.Form.{refusal, Refuses}
use Rattle.mk_reader.specs.declared.fault.Cause.TheVariants.{Macro}
use Rattle.mk_reader.specs.declared.item.IncludeLine.{IncludeLine}
use Rattle.mk_reader.specs.declared.item.Statement.TheVariants as statement
use Rattle.mk_eval.specs.Output.{World}
use Rattle.mk_eval.specs.Makefile.{Outcome, GivesItem, GivesItems, with_front, InOrder, behind, NamesIn, LineNames, cause_of, StatementItems, AnswerItems, IncludedItems, fault_told, IsNamesFault}
use Rattle.mk_eval.proofs.BehindLemmas.{behind_nothing}

with_front-append : (xs ys : List Item) (o : Outcome) → with_front xs (with_front ys o) ≡ with_front (xs ++ ys) o
with_front-append xs ys (Ok items) = ap Ok (sym (append_assoc xs ys items))
with_front-append xs ys (Err fault) = refl

-- a file one level deeper
pub included_deeper : (world : World) (levels deeper : ℕ) (file : List ℕ) (include : IncludeLine) (given : Defined) (name : List ℕ) (answer : Option (List ℕ)) (o : Outcome) → levels ≡ suc deeper → answer ≡ world.files name → AnswerItems world (IncludedItems world deeper) file include given name answer o → IncludedItems world levels file include given name o
included_deeper world levels deeper file include given name answer o e a h =
    subst (λ n. IncludedItems world n file include given name o) (sym e) (subst (λ content. AnswerItems world (IncludedItems world deeper) file include given name content o) a h)

-- the names on a line whose text is, or isn't, expanded
pub names_stand : (given : Defined) (text names : List ℕ) → list_any is_dollar text ≡ false → names ≡ text → LineNames given text (gives names)
names_stand given text names none e = subst (λ refers. NamesIn refers given text (gives names)) (sym none) (ap gives e)

pub names_expanded : (given : Defined) (text : List ℕ) (names : expansion.Outcome) → list_any is_dollar text ≡ true → ExpandsTo (rule_meanings given) text names → LineNames given text names
names_expanded given text names some expands = subst (λ refers. NamesIn refers given text names) (sym some) expands

-- a fault of the expansion is that of the names, told with the line's place
pub names_fault : (given : Defined) (file : List ℕ) (include : IncludeLine) (fault : MacroFault) (told : ReadFault) → list_any is_dollar include.names ≡ true → ExpandsToFault (rule_meanings given) include.names fault →
    IfSome (fault_told fault) (λ f. Refuses told (refusal file include.line (Macro (cause_of f)))) → (fault ≡ macro_fault.OutOfMemory → told ≡ OutOfMemory) → IsNamesFault given file include told
names_fault given file include fault OutOfMemory some expands refused memory = tt
names_fault given file include macro_fault.OutOfMemory (Refused r) some expands refused memory = let e : Refused r ≡ OutOfMemory = memory refl in absurd (cc e)
names_fault given file include (macro_fault.Loop name) (Refused r) some expands refused memory =
    (expansion.refers_to_itself name, names_expanded given include.names (fails (expansion.refers_to_itself name)) some expands, sym refused)
names_fault given file include macro_fault.Unclosed (Refused r) some expands refused memory =
    (expansion.not_closed, names_expanded given include.names (fails expansion.not_closed) some expands, sym refused)
names_fault given file include macro_fault.NestedReference (Refused r) some expands refused memory =
    (expansion.dollar_in_brackets, names_expanded given include.names (fails expansion.dollar_in_brackets) some expands, sym refused)
names_fault given file include macro_fault.TooLong (Refused r) some expands refused memory =
    (expansion.too_long, names_expanded given include.names (fails expansion.too_long) some expands, sym refused)
names_fault given file include (macro_fault.Function word) (Refused r) some expands refused memory =
    (expansion.calls_function word, names_expanded given include.names (fails (expansion.calls_function word)) some expands, sym refused)

-- a fault that isn't want of memory is one of the text
pub fault_some : (names : Meanings) (text : List ℕ) (fault : MacroFault) → is_none (fault_told fault) ≡ false → ExpandsToFault names text fault →
    (found : expansion.Fault) × ExpandsTo names text (fails found)
fault_some names text macro_fault.OutOfMemory some meets = absurd (cc some)
fault_some names text (macro_fault.Loop name) some meets = (expansion.refers_to_itself name, meets)
fault_some names text macro_fault.Unclosed some meets = (expansion.not_closed, meets)
fault_some names text macro_fault.NestedReference some meets = (expansion.dollar_in_brackets, meets)
fault_some names text macro_fault.TooLong some meets = (expansion.too_long, meets)
fault_some names text (macro_fault.Function word) some meets = (expansion.calls_function word, meets)

-- what an include line gives whose names have a fault
pub line_fault : (world : World) (Included : IncludeLine → Defined → List ℕ → Outcome → Type 0) (given : Defined) (file : List ℕ) (include : IncludeLine) (told : ReadFault) → IsNamesFault given file include told →
    GivesItems (Err told) (StatementItems world Included file given (statement.Include include))
line_fault world Included given file include OutOfMemory h = tt
line_fault world Included given file include (Refused r) (fault, names, e) = (fails fault, names, ap Err e)

-- what the things left give in the world as it is now, behind what is gathered, is what all give
abbrev pub Reaches : {W A : Type 0} → (W → List Item → W) → (W → A → Outcome → Type 0) → W → List A → W → List Item → List A → Type 0
Reaches after One start all now items left = (rest : Outcome) → InOrder after One now left rest → InOrder after One start all (with_front items rest)

module _ {W A : Type 0} (after : W → List Item → W) (One : W → A → Outcome → Type 0) (start : W) (all : List A) where
  pub none_gathered : (items : List Item) → items ≡ [] → Reaches after One start all start items all
  none_gathered items e = subst (λ xs. Reaches after One start all start xs all) (sym e) at_start
    where
      at_start : Reaches after One start all start [] all
      at_start (Ok items) h = h
      at_start (Err fault) h = h

  pub reach_fault : (now : W) (items : List Item) (left more : List A) (thing : A) (fault : Refusal) → Reaches after One start all now items left → left ≡ thing ∷ more → One now thing (Err fault) → InOrder after One start all (Err fault)
  reach_fault now items left more thing fault h at given =
      h (Err fault) (subst (λ things. InOrder after One now things (Err fault)) (sym at) (Err fault, given, refl))

  pub reach_more : (now next : W) (items new front : List Item) (left more : List A) (thing : A) → Reaches after One start all now items left → left ≡ thing ∷ more → One now thing (Ok front) → next ≡ after now front → new ≡ items ++ front →
      Reaches after One start all next new more
  reach_more now next items new front left more thing h at given w e = λ rest r.
      let later = subst (λ (x : W). InOrder after One x more rest) w r in
      let whole = h (with_front front rest) (subst (λ things. InOrder after One now things (with_front front rest)) (sym at) (Ok front, given, (rest, later, refl))) in
      subst (InOrder after One start all) (with_front-append items front rest ∙ ap (λ xs. with_front xs rest) (sym e)) whole

  pub reach_end : (now : W) (items : List Item) (left : List A) → Reaches after One start all now items left → left ≡ [] → InOrder after One start all (Ok items)
  reach_end now items left h at =
      let whole = h (Ok []) (subst (λ things. InOrder after One now things (Ok [])) (sym at) refl) in
      subst (InOrder after One start all) (ap Ok (append-nil items)) whole

pub fault_passed_on : (r : ReadFault) (P Q : Outcome → Type 0) → GivesItems (Err r) P → ((fault : Refusal) → P (Err fault) → Q (Err fault)) → GivesItems (Err r) Q
fault_passed_on OutOfMemory P Q h more = tt
fault_passed_on (Refused fault) P Q h more = more fault h

pub item_fault : (r : ReadFault) (P Q : Outcome → Type 0) → GivesItem (Err r) P → ((fault : Refusal) → P (Err fault) → Q (Err fault)) → GivesItems (Err r) Q
item_fault OutOfMemory P Q h more = tt
item_fault (Refused fault) P Q h more = more fault h

pub items_passed_on : (r : Result (Vec Item Global) ReadFault) (P Q : Outcome → Type 0) → GivesItems r P → ((o : Outcome) → P o → Q o) → GivesItems r Q
items_passed_on (Ok v) P Q h more = more (Ok v.items) h
items_passed_on (Err OutOfMemory) P Q h more = tt
items_passed_on (Err (Refused fault)) P Q h more = more (Err fault) h

-- no items define nothing
pub none_given : (given : Defined) (r : Result (Vec Item Global) ReadFault) → IfOk r (λ v. v.items ≡ []) → IfOk r (λ v. given ≡ behind given v.items)
none_given given (Ok v) none = sym (ap (behind given) none ∙ behind_nothing given)
none_given given (Err fault) none = tt

-- a list of nothing
pub nothing_left : {A : Type 0} (xs : List A) → length xs ≡ 0 → xs ≡ []
nothing_left [] is = refl
nothing_left (x ∷ xs) is = absurd (omega arith)

-- one thing fewer
pub one_fewer : {A : Type 0} (old new : List A) (x : A) (before after : ℕ) → old ≡ x ∷ new → after + 1 ≡ before → before ≡ length old → after ≡ length new
one_fewer old new x before after is less count = let e : length old ≡ length (x ∷ new) = ap length is in omega arith
