-- Which file is the makefile, and what reading its text says, in the words of its file; and so of several that are named.
use Rattle.std.proofs.Common.{◌≡◌, ◌∙◌, inl, inr, ℕ, Bool, true, false, not, List, [], ◌∷◌, ◌++◌, append_assoc, append-nil, Option, Some, None, is_some, option_map, Result, Ok, Err, IfErr, IsErrAnd, IfSome, IsTrue, refl, sym, ap, subst}
use Rattle.mk_eval.specs.Output.{World}
use Rattle.mk_eval.specs.Makefile.{InOrder, TextItems, GivesItems, Outcome, behind, depth, with_front}
use Rattle.mk_macros.specs.Ranks.{Defined}
use Rattle.mk_reader.specs.BuiltIn.{built_in_name}
use Rattle.mk_reader.specs.declared.item.Item.{Item}
use Rattle.mk_reader.specs.declared.fault.ReadFault.{ReadFault}
use Rattle.mk_reader.specs.declared.fault.Refusal.{Refusal}
use Rattle.mk_reader.specs.declared.fault.ReadFault.TheVariants.{OutOfMemory, Refused}
use Rattle.mk_eval.proofs.BehindLemmas.{behind-append, behind_nothing}
use Rattle.mk_eval.proofs.OrderLemmas.{order_one}
use Rattle.mk_eval.proofs.OutcomeLemmas.{text_one}
use Rattle.std.proofs.lemmas.Option.{same_Some}
use Rattle.dmk_reading.specs.Makefile.{IsUsualMakefile, NamedItems, AllItems, first_name, second_name}
use Rattle.dmk_reading.specs.BuiltIn.{TellsOwn, standing, reads_rules, rules_text, AreRules}
use Rattle.dmk_reading.specs.Planned.{AreItems, AreAllItems, AreOwnItems, WithRules}
use Rattle.dmk_reading.specs.Faults.{IsFaultAmong, IsFaultOfOne, IsFaultOfRules, IsOwnFault, IsReadFault, IsRulesFault, IsTextFault}
use Rattle.dmk_messages.specs.declared.fault.Fault.{Fault}
use Rattle.dmk_messages.specs.declared.fault.Fault.TheVariants as fault
use Rattle.dmk_messages.specs.declared.fault.Fault.TheVariants.{Read}
use Rattle.dmk_reading.specs.declared.makefile.Makefile.{Makefile}
use Rattle.dmk_reading.specs.declared.makefiles.Makefiles.{Makefiles}
use Rattle.dmk_reading.proofs.OldLemmas.{without_once}
use Rattle.dmk_reading.proofs.OwnLemmas.{tells_once}
use Rattle.mk_nodes.specs.declared.file_look.FileLook.{FileLook}

-- a time that isn't there, and one that is
pub none_is : {A : Type 0} (o : Option A) (none : Bool) → is_some o ≡ not none → IsTrue none → o ≡ None
none_is None none is told = refl
none_is (Some a) none is told = let both : true ≡ false = is ∙ ap not told in absurd cc

pub some_is : {A : Type 0} (o other : Option A) (none : Bool) → o ≡ other → is_some o ≡ not none → none ≡ false → is_some other ≡ true
some_is o other none same is told = sym (ap is_some same) ∙ is ∙ ap not told

-- the file is `makefile`
pub first_is : (world : World) (looks : List ℕ → Option FileLook) (found : Option Makefile) (m : Makefile) → found ≡ Some m →
    IfSome found (λ x. x.file ≡ first_name) → world.files first_name ≡ option_map (λ x. x.text.value.items) found → IsUsualMakefile world looks m.file m.text.value.items
first_is world looks found m is file read =
    inl (subst (λ o. IfSome o (λ x. x.file ≡ first_name)) is file, read ∙ ap (option_map (λ (x : Makefile). x.text.value.items)) is)

-- it is `Makefile`
pub second_is : (world : World) (looks : List ℕ → Option FileLook) (found : Option Makefile) (m : Makefile) → found ≡ Some m →
    world.files first_name ≡ None → looks first_name ≡ None → IfSome found (λ x. x.file ≡ second_name) →
    world.files second_name ≡ option_map (λ x. x.text.value.items) found → IsUsualMakefile world looks m.file m.text.value.items
second_is world looks found m is none absent file read =
    inr (subst (λ o. IfSome o (λ x. x.file ≡ second_name)) is file, (none, (absent, read ∙ ap (option_map (λ (x : Makefile). x.text.value.items)) is)))

module _ (world : World) (looks : List ℕ → Option FileLook) (given : Defined)
    (file name text bytes : List ℕ) (is_file : name ≡ file) (is_text : bytes ≡ text) (is_makefile : IsUsualMakefile world looks file text) where
  -- what the bytes give under a name is what the makefile's text gives
  read_alike : (outcome : Outcome) → TextItems world depth given name bytes outcome → TextItems world depth given file text outcome
  read_alike outcome gives =
      subst (λ f. TextItems world depth given f text outcome) is_file
      (subst (λ t. TextItems world depth given name t outcome) is_text gives)

  pub read_items : (items : List Item) → TextItems world depth given name bytes (Ok items) → AreOwnItems world looks [] given items
  read_items items gives = record { file = file; text = text; is_makefile = is_makefile; read = read_alike (Ok items) gives }

  pub read_refused : (fault : ReadFault) → GivesItems (Err fault) (TextItems world depth given name bytes) → IsReadFault world looks [] given fault
  read_refused OutOfMemory gives = tt
  read_refused (Refused refusal) gives = (file, text, is_makefile, read_alike (Err refusal) gives)

-- ---- makefiles that are named

-- what a text gives that the file of this name holds is what the makefile of the name gives
module _ (world : World) (given : Defined) (name text bytes : List ℕ) (holds : world.files name ≡ Some text) (is_text : bytes ≡ text) where
  pub named_items : (outcome : Outcome) → TextItems world depth given name bytes outcome → NamedItems world given name outcome
  named_items outcome gives = (text, holds, subst (λ t. TextItems world depth given name t outcome) is_text gives)

  pub named_refused : (fault : ReadFault) → GivesItems (Err fault) (TextItems world depth given name bytes) → IsFaultOfOne world given name (Read fault)
  named_refused OutOfMemory gives = tt
  named_refused (Refused refusal) gives = named_items (Err refusal) gives

front_behind : (xs ys : List Item) (o : Outcome) → with_front (xs ++ ys) o ≡ with_front xs (with_front ys o)
front_behind xs ys (Ok items) = ap Ok (append_assoc xs ys items)
front_behind xs ys (Err refusal) = refl

no_front : (o : Outcome) → with_front [] o ≡ o
no_front (Ok items) = refl
no_front (Err refusal) = refl

-- an outcome of items is one list of them, and no fault
same_items : (a b : List Item) (one other : Outcome) → one ≡ Ok a → other ≡ Ok b → one ≡ other → a ≡ b
same_items a b one other is_a is_b same = let both : Ok a ≡ Ok b = sym is_a ∙ same ∙ is_b in cc

no_items : (items : List Item) (refusal : Refusal) (one other : Outcome) → one ≡ Ok items → other ≡ Err refusal → one ≡ other → ⊥
no_items items refusal one other is_items is_fault same = let both : Ok items ≡ Err refusal = sym is_items ∙ same ∙ is_fault in cc

-- what names give that stand behind others, with what these define
module _ (One : Defined → List ℕ → Outcome → Type 0) (more : List (List ℕ)) (o : Outcome) where
  pub order_behind : (given : Defined) (before : List (List ℕ)) (items : List Item) → InOrder behind One given before (Ok items) → InOrder behind One (behind given items) more o → InOrder behind One given (before ++ more) (with_front items o)
  order_behind given [] items gives rest =
      let none : items ≡ [] = same_items items [] (Ok items) (Ok []) refl refl gives in
      subst (InOrder behind One given more) (sym (ap (λ xs. with_front xs o) none ∙ no_front o))
      (subst (λ now. InOrder behind One now more o) (ap (behind given) none ∙ behind_nothing given) rest)
  order_behind given (name ∷ before) items (Err refusal, is, same) rest = absurd (no_items items refusal (Ok items) (Err refusal) refl refl same)
  order_behind given (name ∷ before) items (Ok xs, is, (Err refusal, gives, same)) rest = absurd (no_items items refusal (Ok items) (Err refusal) refl refl same)
  order_behind given (name ∷ before) items (Ok xs, is, (Ok ys, gives, same)) rest =
      let parts : items ≡ xs ++ ys = same_items items (xs ++ ys) (Ok items) (Ok (xs ++ ys)) refl refl same in
      let later = subst (λ now. InOrder behind One now more o) (ap (behind given) parts ∙ sym (behind-append given xs ys)) rest in
      (Ok xs, is, (with_front ys o, order_behind (behind given xs) before ys gives later, ap (λ zs. with_front zs o) parts ∙ front_behind xs ys o))

-- the makefiles that aren't left were read with these definitions before them, and gave these items
pub record AreReadSoFar (world : World) (given : Defined) (names left : List (List ℕ)) (items : List Item) : Type 0 where
  pub before : List (List ℕ)
  pub parts : names ≡ before ++ left
  pub gives : AllItems world given before (Ok items)

module _ (world : World) (given : Defined) (names : List (List ℕ)) where
  pub none_read : (left : List (List ℕ)) (items : List Item) → left ≡ names → items ≡ [] → AreReadSoFar world given names left items
  none_read left items all none = record { before = []; parts = sym all; gives = ap Ok none }

  pub one_read : (left more : List (List ℕ)) (name : List ℕ) (now : Defined) (items front new : List Item) → left ≡ name ∷ more → AreReadSoFar world given names left items →
      now ≡ behind given items → NamedItems world now name (Ok front) → new ≡ items ++ front → AreReadSoFar world given names more new
  one_read left more name now items front new at read at_now gave is =
      let one = subst (λ g. NamedItems world g name (Ok front)) at_now gave in
      record {
        before = read.before ++ name ∷ [];
        parts = read.parts ∙ ap (λ ls. read.before ++ ls) at ∙ sym (append_assoc read.before (name ∷ []) more);
        gives = subst (λ xs. AllItems world given (read.before ++ name ∷ []) (Ok xs)) (sym is)
            (order_behind (NamedItems world) (name ∷ []) (Ok front) given read.before items read.gives (Ok front, one, (Ok [], refl, ap Ok (sym (append-nil front)))));
      }

  pub all_read : (left : List (List ℕ)) (items : List Item) → left ≡ [] → AreReadSoFar world given names left items → AllItems world given names (Ok items)
  all_read left items none read =
      subst (λ ls. AllItems world given ls (Ok items)) (sym (read.parts ∙ ap (λ ls. read.before ++ ls) none ∙ append-nil read.before)) read.gives

  pub fault_among : (left more : List (List ℕ)) (name : List ℕ) (now : Defined) (items : List Item) → left ≡ name ∷ more → AreReadSoFar world given names left items →
      now ≡ behind given items → (f : Fault) → IsFaultOfOne world now name f → IsFaultAmong world given names f
  fault_among left more name now items at read at_now fault.OutOfMemory is = tt
  fault_among left more name now items at read at_now fault.NoMakefile is = record {
    before = read.before;
    lacking = name;
    behind = more;
    are_names = read.parts ∙ ap (λ ls. read.before ++ ls) at;
    items = items;
    are_items = read.gives;
    is_lacking = is;
  }
  fault_among left more name now items at read at_now (fault.Read OutOfMemory) is = tt
  fault_among left more name now items at read at_now (fault.Read (Refused refusal)) is =
      subst (λ ls. AllItems world given ls (Err refusal)) (sym (read.parts ∙ ap (λ ls. read.before ++ ls) at))
      (order_behind (NamedItems world) (name ∷ more) (Err refusal) given read.before items read.gives
      (Err refusal, subst (λ g. NamedItems world g name (Err refusal)) at_now is, refl))
  fault_among left more name now items at read at_now (fault.State f) is = absurd is
  fault_among left more name now items at read at_now (fault.Rules f) is = absurd is
  fault_among left more name now items at read at_now (fault.Recipe f) is = absurd is
  fault_among left more name now items at read at_now fault.Write is = absurd is

-- what is so of a fault is so of a result that has it
pub handed_on : {T : Type 0} (got : Result T Fault) (P : Fault → Type 0) (f : Fault) → IsErrAnd got (λ g. g ≡ f) → P f → IfErr got P
handed_on (Ok x) P f is so = tt
handed_on (Err g) P f is so = subst P (sym is) so

pub some_named : {A : Type 0} (names : List A) (none : Bool) → (names ≡ [] → IsTrue none) → none ≡ false → names ≡ [] → ⊥
some_named names none is some empty = let both : true ≡ false = sym (is empty) ∙ some in cc

-- so it is of the makefiles of a run, where some are named
module _ (world : World) (looks : List ℕ → Option FileLook) (given : Defined) where
  pub items_among : (names : List (List ℕ)) (items : List Item) → (names ≡ [] → ⊥) → AllItems world given names (Ok items) → AreOwnItems world looks names given items
  items_among [] items some gives = absurd (some refl)
  items_among (name ∷ names) items some gives = gives

  pub text_fault_among : (refuses : List ℕ → Type 0) (names : List (List ℕ)) (f : Fault) → (names ≡ [] → ⊥) → IsFaultAmong world given names f →
      IsOwnFault world looks refuses names given f
  text_fault_among refuses [] f some is = absurd (some refl)
  text_fault_among refuses (name ∷ names) fault.OutOfMemory some is = tt
  text_fault_among refuses (name ∷ names) fault.NoMakefile some is = is
  text_fault_among refuses (name ∷ names) (fault.Read OutOfMemory) some is = tt
  text_fault_among refuses (name ∷ names) (fault.Read (Refused refusal)) some is = is
  text_fault_among refuses (name ∷ names) (fault.State f) some is = absurd is
  text_fault_among refuses (name ∷ names) (fault.Rules f) some is = absurd is
  text_fault_among refuses (name ∷ names) (fault.Recipe f) some is = absurd is
  text_fault_among refuses (name ∷ names) fault.Write some is = absurd is

-- ---- one makefile

-- a file holds one text, and a text isn't missing
one_text : (content : Option (List ℕ)) (a b : List ℕ) → content ≡ Some a → content ≡ Some b → a ≡ b
one_text content a b is_a is_b = same_Some a b (sym is_a ∙ is_b)

no_text : (content : Option (List ℕ)) (a : List ℕ) → content ≡ Some a → content ≡ None → ⊥
no_text content a is none = let both : Some a ≡ None = sym is ∙ none in cc

makefile_once : (world : World) (looks : List ℕ → Option FileLook) (file other text bytes : List ℕ) →
    IsUsualMakefile world looks file text → IsUsualMakefile world looks other bytes → (file ≡ other) × (text ≡ bytes)
makefile_once world looks file other text bytes (inl (is_a, of_a)) (inl (is_b, of_b)) =
    (is_a ∙ sym is_b, one_text (world.files first_name) text bytes of_a of_b)
makefile_once world looks file other text bytes (inl (is_a, of_a)) (inr (is_b, of_b)) = absurd (no_text (world.files first_name) text of_a of_b.0)
makefile_once world looks file other text bytes (inr (is_a, of_a)) (inl (is_b, of_b)) = absurd (no_text (world.files first_name) bytes of_b of_a.0)
makefile_once world looks file other text bytes (inr (is_a, of_a)) (inr (is_b, of_b)) =
    (is_a ∙ sym is_b, one_text (world.files second_name) text bytes of_a.1.1 of_b.1.1)

named_once : (world : World) (given : Defined) (name : List ℕ) (one other : Outcome) → NamedItems world given name one → NamedItems world given name other → one ≡ other
named_once world given name one other (text, holds, gives) (bytes, also, gave) =
    text_one world depth given name bytes one other
    (subst (λ t. TextItems world depth given name t one) (one_text (world.files name) text bytes holds also) gives) gave

own_once : (world : World) (looks : List ℕ → Option FileLook) (named : List (List ℕ)) (given : Defined) (a b : List Item) →
    AreOwnItems world looks named given a → AreOwnItems world looks named given b → a ≡ b
own_once world looks [] given a b of_a of_b =
    let same = makefile_once world looks of_a.file of_b.file of_a.text of_b.text of_a.is_makefile of_b.is_makefile in
    let read = read_alike world looks given of_b.file of_a.file of_b.text of_a.text same.0 same.1 of_b.is_makefile (Ok a) of_a.read in
    same_items a b (Ok a) (Ok b) refl refl (text_one world depth given of_b.file of_b.text (Ok a) (Ok b) read of_b.read)
own_once world looks (name ∷ names) given a b of_a of_b =
    same_items a b (Ok a) (Ok b) refl refl
    (order_one behind (NamedItems world) (named_once world) given (name ∷ names) (Ok a) (Ok b) of_a of_b)

-- the tool's rules give one outcome
rules_one : (world : World) (given : Defined) (own : List Item) (a b : Outcome) → AreRules world given own a → AreRules world given own b → a ≡ b
rules_one world given own a b (own_a, tells_a, text_a) (own_b, tells_b, text_b) =
    let same : own_a ≡ own_b = tells_once given own own_a own_b tells_a tells_b in
    text_one world depth given built_in_name (rules_text (standing own_b)) a b (subst (λ f. TextItems world depth given built_in_name (rules_text (standing f)) a) same text_a) text_b

-- what stands behind the tool's rules is one list too
behind_once : (world : World) (Own : List Item → Type 0) (given : Defined) → ((a b : List Item) → Own a → Own b → a ≡ b) →
    (reads : Bool) (a b : List Item) → WithRules reads world Own given a → WithRules reads world Own given b → a ≡ b
behind_once world Own given one false a b of_a of_b = one a b of_a of_b
behind_once world Own given one true a b of_a of_b =
    let own = one of_a.own of_b.own of_a.are_own of_b.are_own in
    let rules = same_items of_a.rules of_b.rules (Ok of_a.rules) (Ok of_b.rules) refl refl
    (rules_one world given of_b.own (Ok of_a.rules) (Ok of_b.rules) (subst (λ items. AreRules world given items (Ok of_a.rules)) own of_a.are_rules) of_b.are_rules) in
    of_a.whole ∙ ap (λ front. front ++ of_a.own) rules ∙ ap (λ items. of_b.rules ++ items) own ∙ sym of_b.whole

pub items_once : (world : World) (looks : List ℕ → Option FileLook) (makefiles : Makefiles) (given : Defined) (a b : List Item) →
    AreItems world looks makefiles given a → AreItems world looks makefiles given b → a ≡ b
items_once world looks makefiles given =
    without_once makefiles.old given (AreAllItems world looks makefiles given)
    (behind_once world (AreOwnItems world looks makefiles.named given) given (own_once world looks makefiles.named given) (reads_rules makefiles given.language))

-- ---- all that is read

-- what the rules that stand give is what the tool's rules do
pub rules_given : (world : World) (given : Defined) (items : List Item) (left : List (List ℕ × List ℕ)) (own : (name : List ℕ) → Bool) → TellsOwn given items own →
    left ≡ standing own → (outcome : Outcome) → TextItems world depth given built_in_name (rules_text left) outcome → AreRules world given items outcome
rules_given world given items left own tells is outcome read =
    (own, tells, subst (λ rules. TextItems world depth given built_in_name (rules_text rules) outcome) is read)

-- the fault of the tool's rules
pub rules_refused : (world : World) (given : Defined) (items : List Item) (left : List (List ℕ × List ℕ)) (own : (name : List ℕ) → Bool) → TellsOwn given items own →
    left ≡ standing own → (fault : ReadFault) → GivesItems (Err fault) (TextItems world depth given built_in_name (rules_text left)) →
    IsFaultOfRules world given items (Read fault)
rules_refused world given items left own tells is OutOfMemory read = tt
rules_refused world given items left own tells is (Refused refusal) read = rules_given world given items left own tells is (Err refusal) read

module _ (world : World) (looks : List ℕ → Option FileLook) (makefiles : Makefiles) (given : Defined) (own : List Item) where
  abbrev Own : List Item → Type 0
  Own items = AreOwnItems world looks makefiles.named given items

  pub without_rules : reads_rules makefiles given.language ≡ false → Own own → AreAllItems world looks makefiles given own
  without_rules reads is = subst (λ b. WithRules b world Own given own) (sym reads) is

  pub behind_rules : reads_rules makefiles given.language ≡ true → Own own → (rules items : List Item) → AreRules world given own (Ok rules) →
      items ≡ rules ++ own → AreAllItems world looks makefiles given items
  behind_rules reads is rules items are whole =
      subst (λ b. WithRules b world Own given items) (sym reads) (record { rules = rules; own = own; whole = whole; are_rules = are; are_own = is })

  pub fault_behind : (refuses : List ℕ → Type 0) → reads_rules makefiles given.language ≡ true → Own own → (f : Fault) →
      IsFaultOfRules world given own f → IsTextFault world looks refuses makefiles given f
  fault_behind refuses reads is fault.OutOfMemory of_f = tt
  fault_behind refuses reads is (fault.Read f) of_f = inr (subst (λ b. IsRulesFault b world Own given f) (sym reads) (own, is, of_f))
  fault_behind refuses reads is fault.NoMakefile of_f = absurd of_f
  fault_behind refuses reads is (fault.State f) of_f = absurd of_f
  fault_behind refuses reads is (fault.Rules f) of_f = absurd of_f
  fault_behind refuses reads is (fault.Recipe f) of_f = absurd of_f
  fault_behind refuses reads is fault.Write of_f = absurd of_f

pub own_fault : (world : World) (looks : List ℕ → Option FileLook) (makefiles : Makefiles) (given : Defined)
    (refuses : List ℕ → Type 0) (f : Fault) → IsOwnFault world looks refuses makefiles.named given f → IsTextFault world looks refuses makefiles given f
own_fault world looks makefiles given refuses fault.OutOfMemory is = is
own_fault world looks makefiles given refuses fault.NoMakefile is = is
own_fault world looks makefiles given refuses (fault.Read f) is = inl is
own_fault world looks makefiles given refuses (fault.State f) is = is
own_fault world looks makefiles given refuses (fault.Rules f) is = is
own_fault world looks makefiles given refuses (fault.Recipe f) is = is
own_fault world looks makefiles given refuses fault.Write is = is
