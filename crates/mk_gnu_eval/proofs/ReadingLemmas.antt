-- The calls of the code are steps of the reading.
use Rattle.std.proofs.Common.{◌≡◌, ℕ, suc, Bool, true, List, [], ◌∷◌, Option, Some, None, Result, Ok, Err, OnOk, IfErr, refl, sym, ap, subst}
use Rattle.mk_conditionals.specs.Nest.{missing}
use Rattle.mk_conditionals.specs.declared.branch.NestFault.{NestFault}
use Rattle.mk_functions.specs.Outcome as values
use Rattle.mk_functions.specs.Shown.{fault_of}
use Rattle.mk_functions.specs.Values.{Answers}
use Rattle.mk_functions.specs.declared.fault.Stop as code_stop
use Rattle.mk_functions.specs.declared.fault.Stop.TheVariants as stop
use Rattle.mk_statements.specs.Reading.{Stated}
use Rattle.mk_taken.specs.Place.{Place, Why, Step, goes_on, hands, refuses}
use Rattle.mk_taken.specs.Place as taken
use Rattle.mk_taken.specs.Reading.{Takes, Reads}
use Rattle.mk_taken.specs.Reading as statements
use Rattle.mk_taken.specs.Shown as taken_shown
use Rattle.mk_taken.specs.declared.reading.Reading as code_reading
use Rattle.mk_taken.specs.declared.fault.Refused as taken_refused
use Rattle.mk_taken.specs.declared.fault.Refused.TheVariants as taken_end
use Rattle.mk_taken.proofs.ReadingLemmas.{stops_map}
use Rattle.mk_target_lines.specs.Comes as lines
use Rattle.mk_target_lines.specs.Shown.{came_of, NoValue}
use Rattle.mk_target_lines.specs.Shown as lines_shown
use Rattle.mk_target_lines.specs.declared.fault.Fault.{Fault}
use Rattle.mk_target_lines.specs.declared.fault.Refusal as line_refusal
use Rattle.mk_target_lines.specs.declared.fault.Refusal.TheVariants as line_end
use Rattle.mk_gnu_eval.specs.Item.{Cause, statement, target_line, no_value, missing_file, too_deep, loads_object, Refusal, in_line, unended, Progress, Outcome}
use Rattle.mk_gnu_eval.specs.Reading.{Here, Told, progress_in, Then, Each, at_end, Including, Searches, Includes, Hands, Lines, unread, Answered, Named}
use Rattle.mk_gnu_eval.specs.Shown.{OfStatements, OfLine, IsCause, IsFault, IsRefused, HasNoValue, RefusesLine, IsNoLine, EndsWith, ReadsTo, progress_of, here_of}
use Rattle.mk_gnu_eval.specs.World.{World}
use Rattle.mk_variables.specs.Table.{variables_in}
use Rattle.mk_gnu_eval.specs.declared.progress.Progress as code_progress
use Rattle.mk_gnu_eval.specs.declared.fault.Cause as code_cause
use Rattle.mk_gnu_eval.specs.declared.fault.Cause.TheVariants as cause
use Rattle.mk_gnu_eval.specs.declared.fault.Fault as code_fault
use Rattle.mk_gnu_eval.specs.declared.fault.Fault.TheVariants as fault
use Rattle.mk_gnu_eval.specs.declared.fault.Refused as code_refused
use Rattle.mk_gnu_eval.specs.declared.fault.Refused.TheVariants as end

-- What is told of one thing is told of another.

pub statements_map : (P Q : taken.Outcome → Type 0) → ((number : ℕ) (why : Why) → P (taken.refused number why) → Q (taken.refused number why)) →
    ((why : NestFault) → P (taken.unended why) → Q (taken.unended why)) → (it : taken_refused.Refused) → taken_shown.IsRefused P it → taken_shown.IsRefused Q it
statements_map P Q f g (taken_end.At number it) h = stops_map (λ told. P (taken.refused number told)) (λ told. Q (taken.refused number told)) (f number) it h
statements_map P Q f g (taken_end.Unended why) h = g why h

pub no_value_map : (P Q : values.Fault → Type 0) → ((it : values.Fault) → P it → Q it) → (it : code_stop.Stop) → NoValue P it → NoValue Q it
no_value_map P Q f stop.OutOfMemory h = tt
no_value_map P Q f stop.TakesTooLong h = tt
no_value_map P Q f (stop.Fault found) h = f (fault_of found) h

line_map : (P Q : lines.Told → Type 0) → ((why : Fault) → P (lines.refused why) → Q (lines.refused why)) →
    ((why : values.Fault) → P (lines.has_no_value why) → Q (lines.has_no_value why)) → (it : line_refusal.Refusal) → lines_shown.IsRefused P it → lines_shown.IsRefused Q it
line_map P Q f g (line_end.Stop stop.OutOfMemory) h = tt
line_map P Q f g (line_end.Stop stop.TakesTooLong) h = tt
line_map P Q f g (line_end.Stop (stop.Fault found)) h = g (fault_of found) h
line_map P Q f g (line_end.Fault found) h = f found h

cause_map : (P Q : Cause → Type 0) → ((it : Cause) → P it → Q it) → (it : code_cause.Cause) → IsCause P it → IsCause Q it
cause_map P Q f (cause.Line refusal) h = line_map (OfLine P) (OfLine Q) (λ why. f (target_line why)) (λ why. f (no_value why)) refusal h
cause_map P Q f (cause.Text why) h = no_value_map (λ it. P (no_value it)) (λ it. Q (no_value it)) (λ it. f (no_value it)) why h
cause_map P Q f (cause.Missing name) h = f (missing_file name.items) h
cause_map P Q f (cause.TooDeep name) h = f (too_deep name.items) h
cause_map P Q f cause.Loads h = f loads_object h

fault_map : (P Q : Refusal → Type 0) → ((it : Refusal) → P it → Q it) → (file : List ℕ) (it : code_fault.Fault) → IsFault P file it → IsFault Q file it
fault_map P Q f file (fault.Statements it) h =
    statements_map (OfStatements P file) (OfStatements Q file) (λ number why. f (in_line file number (statement why))) (λ why. f (unended file why)) it h
fault_map P Q f file (fault.At number it) h =
    cause_map (λ told. P (in_line file number told)) (λ told. Q (in_line file number told)) (λ told. f (in_line file number told)) it h

pub refused_map : (P Q : Refusal → Type 0) → ((it : Refusal) → P it → Q it) → (it : code_refused.Refused) → IsRefused P it → IsRefused Q it
refused_map P Q f end.OutOfMemory h = tt
refused_map P Q f (end.In file it) h = fault_map P Q f file.items it h

pub on_ok : {A E : Type 0} (r : Result A E) (P Q : Type 0) → (P → Q) → OnOk r P → OnOk r Q
on_ok (Ok a) P Q f h = f h
on_ok (Err e) P Q f h = tt

pub on_err : {A E : Type 0} (r : Result A E) (P Q : E → Type 0) → ((it : E) → P it → Q it) → IfErr r P → IfErr r Q
on_err (Ok a) P Q f h = tt
on_err (Err e) P Q f h = f e h

-- What is read of a file's statements is a part of what they come to.

module _ (world : World) (Included : Including) (file : List ℕ) where
  -- what reading comes to behind statements that come to this
  abbrev pub Follows : (left : List Stated) → (here : Here) → taken.Outcome → Type 0
  Follows left here (taken.ends place) = Lines world Included file left here (Ok (record { table = place.table; items = here.items }))
  Follows left here (taken.reaches place number other more) =
      (told : Told) → Hands world Included file number (record { place = place; items = here.items }) other told → (outcome : Outcome) →
      Then told (Lines world Included file more) outcome → Lines world Included file left here outcome
  Follows left here (taken.refused number why) = Lines world Included file left here (Err (in_line file number (statement why)))
  Follows left here (taken.unended why) = Lines world Included file left here (Err (unended file why))

  -- what comes behind other statements comes behind these
  follows_map : (left more : List Stated) (here next : Here) → next.items ≡ here.items →
      ((outcome : Outcome) → Lines world Included file more next outcome → Lines world Included file left here outcome) → (o : taken.Outcome) → Follows more next o → Follows left here o
  follows_map left more here next same f (taken.ends place) h =
      f (Ok (record { table = place.table; items = here.items }))
      (subst (λ items. Lines world Included file more next (Ok (record { table = place.table; items = items }))) same h)
  follows_map left more here next same f (taken.reaches place number other behind) h = λ told is outcome rest.
      f outcome (h told (subst (λ items. Hands world Included file number (record { place = place; items = items }) other told) (sym same) is) outcome rest)
  follows_map left more here next same f (taken.refused number why) h = f (Err (in_line file number (statement why))) h
  follows_map left more here next same f (taken.unended why) h = f (Err (unended file why)) h

  ended : (here : Here) (fault : Option NestFault) → missing here.place.nest ≡ fault → Follows [] here (statements.at_end here.place fault)
  ended here None is = ap (at_end file (progress_in here)) (sym is)
  ended here (Some why) is = ap (at_end file (progress_in here)) (sym is)

  stepped : (s : Stated) (more : List Stated) (here : Here) (step : Step) → Takes world.answers here.place s step →
      ((next : Here) (o : taken.Outcome) → Reads world.answers more next.place o → Follows more next o) → (o : taken.Outcome) →
      statements.Then s.line more (Reads world.answers more) step o → Follows (s ∷ more) here o
  stepped s more here (goes_on place) is further o rest =
      let next : Here = record { place = place; items = here.items } in
      follows_map (s ∷ more) more here next refl (λ outcome h. (goes_on place, is, Ok next, refl, h)) o (further next o rest)
  stepped s more here (hands place other) is further o rest =
      subst (Follows (s ∷ more) here) (sym rest) (λ told h outcome behind. (hands place other, is, told, h, behind))
  stepped s more here (refuses why) is further o rest =
      subst (Follows (s ∷ more) here) (sym rest) (refuses why, is, Err (in_line file s.line (statement why)), refl, refl)

  pub follows : (left : List Stated) (here : Here) (o : taken.Outcome) → Reads world.answers left here.place o → Follows left here o
  follows [] here o is = subst (Follows [] here) (sym is) (ended here (missing here.place.nest) refl)
  follows (s ∷ more) here o (step, is, rest) = stepped s more here step is (follows more) o rest

  -- statements that end the reading end that of the file
  ends_by : (left : List Stated) (here : Here) (o : taken.Outcome) (why : Refusal) → Follows left here o → EndsWith file o why → Lines world Included file left here (Err why)
  ends_by left here (taken.ends place) why h is = absurd is
  ends_by left here (taken.reaches place number other more) why h is = absurd is
  ends_by left here (taken.refused number found) why h is = subst (λ r. Lines world Included file left here (Err r)) (sym is) h
  ends_by left here (taken.unended found) why h is = subst (λ r. Lines world Included file left here (Err r)) (sym is) h

  pub read_refused : (left : List Stated) (here : Here) (why : Refusal) → ReadsTo world.answers left here.place file why → Lines world Included file left here (Err why)
  read_refused left here why (o, is, found) = ends_by left here o why (follows left here o is) found

-- What the code does with a statement is what the statement comes to.

module _ (world : World) (Included : Including) (file : List ℕ) (line : ℕ) (r : code_reading.Reading) (old new : code_progress.Progress) where
  pub hands_search : (text : List ℕ) → Searches world.answers file line text (progress_of old) (Ok (progress_of new)) →
      Hands world Included file line (here_of r old) (taken.searches text) (Ok (here_of r new))
  hands_search text h = (Ok (progress_of new), h, refl)

module _ (world : World) (Included : Including) (file : List ℕ) (line : ℕ) (here : Here) where
  pub search_refused : (text : List ℕ) (it : code_refused.Refused) → IsRefused (λ why. Searches world.answers file line text (progress_in here) (Err why)) it →
      IsRefused (λ why. Hands world Included file line here (taken.searches text) (Err why)) it
  search_refused text it h =
      refused_map (λ why. Searches world.answers file line text (progress_in here) (Err why))
      (λ why. Hands world Included file line here (taken.searches text) (Err why)) (λ why is. (Err why, is, refl)) it h

  line_ends : (after : Option (List ℕ)) (text : List ℕ) (told : lines.Told) (why : Refusal) → lines.Comes world.answers (variables_in here.place.table) after text told →
      RefusesLine file line told why → Hands world Included file line here (taken.expands text after) (Err why)
  line_ends after text (lines.comes came) why comes is = absurd is
  line_ends after text (lines.refused found) why comes is = (lines.refused found, comes, ap Err is)
  line_ends after text (lines.has_no_value found) why comes is = (lines.has_no_value found, comes, ap Err is)

  pub line_refused : (after : Option (List ℕ)) (text : List ℕ) (it : code_refused.Refused) →
      IsRefused (IsNoLine world.answers (variables_in here.place.table) after text file line) it →
      IsRefused (λ why. Hands world Included file line here (taken.expands text after) (Err why)) it
  line_refused after text it h =
      refused_map (IsNoLine world.answers (variables_in here.place.table) after text file line)
      (λ why. Hands world Included file line here (taken.expands text after) (Err why)) (λ why is. line_ends after text is.0 why is.1 is.2) it h

-- a text without a value ends its line
pub search_ends : (w : Answers) (file : List ℕ) (line : ℕ) (text : List ℕ) (now : Progress) (it : code_refused.Refused) →
    IsRefused (HasNoValue w (variables_in now.table) text file line) it → IsRefused (λ why. Searches w file line text now (Err why)) it
search_ends w file line text now it h =
    refused_map (HasNoValue w (variables_in now.table) text file line) (λ why. Searches w file line text now (Err why))
    (λ why is. (values.fails is.0, is.1, ap Err is.2)) it h

pub includes_end : (world : World) (Included : Including) (file : List ℕ) (line : ℕ) (required : Bool) (names : List ℕ) (now : Progress) (it : code_refused.Refused) →
    IsRefused (HasNoValue world.answers (variables_in now.table) names file line) it → IsRefused (λ why. Includes world Included file line required names now (Err why)) it
includes_end world Included file line required names now it h =
    refused_map (HasNoValue world.answers (variables_in now.table) names file line) (λ why. Includes world Included file line required names now (Err why))
    (λ why is. (values.fails is.0, is.1, ap Err is.2)) it h

-- Files of an include line, one behind the other.

pub each_next : (One : List ℕ → Progress → Outcome → Type 0) (names more : List (List ℕ)) (name : List ℕ) → names ≡ name ∷ more → (now next : Progress) →
    One name now (Ok next) → (outcome : Outcome) → Each One more next outcome → Each One names now outcome
each_next One names more name is now next one outcome rest = subst (λ ns. Each One ns now outcome) (sym is) (Ok next, one, rest)

pub each_refused : (One : List ℕ → Progress → Outcome → Type 0) (names more : List (List ℕ)) (name : List ℕ) → names ≡ name ∷ more → (now : Progress) →
    (it : code_refused.Refused) → IsRefused (λ why. One name now (Err why)) it → IsRefused (λ why. Each One names now (Err why)) it
each_refused One names more name is now it h =
    refused_map (λ why. One name now (Err why)) (λ why. Each One names now (Err why))
    (λ why one. subst (λ ns. Each One ns now (Err why)) (sym is) (Err why, one, refl)) it h

-- A file by its name.

module _ (world : World) (file : List ℕ) (line : ℕ) (name : List ℕ) (now : Progress) where
  pub deeper_named : (required : Bool) (levels deeper : ℕ) → levels ≡ suc deeper → (answer : Option (List ℕ)) → answer ≡ world.files name → (outcome : Outcome) →
      Answered world (Named world deeper) file line required name answer now outcome → Named world levels file line required name now outcome
  deeper_named required levels deeper is answer there outcome h =
      subst (λ n. Named world n file line required name now outcome) (sym is)
      (subst (λ content. Answered world (Named world deeper) file line required name content now outcome) there h)

  pub deeper_refused : (required : Bool) (levels deeper : ℕ) → levels ≡ suc deeper → (answer : Option (List ℕ)) → answer ≡ world.files name → (it : code_refused.Refused) →
      IsRefused (λ why. Answered world (Named world deeper) file line required name answer now (Err why)) it →
      IsRefused (λ why. Named world levels file line required name now (Err why)) it
  deeper_refused required levels deeper is answer there it h =
      refused_map (λ why. Answered world (Named world deeper) file line required name answer now (Err why)) (λ why. Named world levels file line required name now (Err why))
      (λ why told. deeper_named required levels deeper is answer there (Err why) told) it h

  pub missing_refused : (required : Bool) (levels deeper : ℕ) → levels ≡ suc deeper → required ≡ true → None ≡ world.files name → (it : code_refused.Refused) →
      IsRefused (λ why. why ≡ in_line file line (missing_file name)) it → IsRefused (λ why. Named world levels file line required name now (Err why)) it
  missing_refused required levels deeper is has_to there it h =
      refused_map (λ why. why ≡ in_line file line (missing_file name)) (λ why. Named world levels file line required name now (Err why))
      (λ why told. deeper_named required levels deeper is None there (Err why)
      (subst (λ t. Err why ≡ unread file line t name now) (sym has_to) (ap Err told))) it h
