-- The loop over a file's statements reads them all.
use Rattle.std.proofs.Common.{◌≡◌, ◌+◌, ℕ, List, [], ◌∷◌, ◌++◌, length, take, drop, Vec, map, Option, Some, None, Ok, Err, refl, sym, ap, ◌∙◌, subst, arith, append_assoc, length-append}
use Rattle.std.proofs.lemmas.List.{take-append-drop, drop_at, drop-map, length-map}
use Rattle.std.specs.declared.alloc.Global.{Global}
use Rattle.mk_functions.specs.Values.{Answers}
use Rattle.mk_statements.specs.Reading.{Stated, stated}
use Rattle.mk_statements.specs.declared.content.Line as code_line
use Rattle.mk_conditionals.specs.Nest.{missing}
use Rattle.mk_conditionals.specs.declared.branch.NestFault.{NestFault}
use Rattle.mk_taken.specs.Place as taken
use Rattle.mk_taken.specs.Place.{Place, Other, Step, goes_on, hands, refuses}
use Rattle.mk_taken.specs.Reading.{Reads}
use Rattle.mk_taken.specs.Reading as statements
use Rattle.mk_taken.specs.Shown.{place_of}
use Rattle.mk_taken.specs.declared.reading.Reading as code_reading
use Rattle.mk_variables.specs.Table.{table_of}
use Rattle.mk_gnu_eval.specs.Item.{Outcome}
use Rattle.mk_gnu_eval.specs.Reading.{Told, begins, Then, Including, Hands, Lines}
use Rattle.mk_gnu_eval.specs.Shown.{IsRefused, ReadsTo, item_of, progress_of, here_of}
use Rattle.mk_gnu_eval.specs.World.{World}
use Rattle.mk_gnu_eval.specs.declared.fault.Refused as code_refused
use Rattle.mk_gnu_eval.specs.declared.item.Item as code_item
use Rattle.mk_gnu_eval.specs.declared.progress.Progress as code_progress
use Rattle.mk_gnu_eval.proofs.ReadingLemmas.{refused_map, follows, read_refused}

-- What is left behind a statement that is reached stands at the end of those that were read.

never_reached : (at : Place) (fault : Option NestFault) (place : Place) (line : ℕ) (other : Other) (more : List Stated) →
    taken.reaches place line other more ≡ statements.at_end at fault → ⊥
never_reached at None place line other more is = cc is
never_reached at (Some fault) place line other more is = cc is

step_reaches : (w : Answers) (s : Stated) (behind more : List Stated) (place : Place) (line : ℕ) (other : Other) →
    ((next : Place) → Reads w behind next (taken.reaches place line other more) → (front : List Stated) × (behind ≡ front ++ more)) → (step : Step) →
    statements.Then s.line behind (Reads w behind) step (taken.reaches place line other more) → (front : List Stated) × (s ∷ behind ≡ front ++ more)
step_reaches w s behind more place line other further (goes_on next) rest = let found = further next rest in (s ∷ found.0, ap (λ xs. s ∷ xs) found.1)
step_reaches w s behind more place line other further (hands next it) rest = let same : more ≡ behind = cc rest in (s ∷ [], ap (λ xs. s ∷ xs) (sym same))
step_reaches w s behind more place line other further (refuses why) rest = absurd (cc rest)

reached : (w : Answers) (left more : List Stated) (at place : Place) (line : ℕ) (other : Other) → Reads w left at (taken.reaches place line other more) →
    (front : List Stated) × (left ≡ front ++ more)
reached w [] more at place line other is = absurd (never_reached at (missing at.nest) place line other more is)
reached w (s ∷ behind) more at place line other (step, is, rest) =
    step_reaches w s behind more place line other (λ next h. reached w behind more next place line other h) step rest

behind_front : (whole front more : List Stated) (at count : ℕ) → drop at whole ≡ front ++ more → length whole ≡ count + length more → drop count whole ≡ more
behind_front whole front more at count is counted =
    let split : whole ≡ (take at whole ++ front) ++ more =
    sym (take-append-drop at whole) ∙ ap (λ xs. take at whole ++ xs) is ∙ sym (append_assoc (take at whole) front more) in
    let sizes : length whole ≡ length (take at whole ++ front) + length more = ap length split ∙ length-append (take at whole ++ front) more in
    let size : length (take at whole ++ front) ≡ count = omega (arith, sizes, counted) in
    ap (drop count) split ∙ drop_at (take at whole ++ front) more count size

-- so they are found by how many they are
pub lines_behind : (w : Answers) (lines more : List code_line.Line) (at count : ℕ) (start place : Place) (line : ℕ) (other : Other) →
    Reads w (map stated (drop at lines)) start (taken.reaches place line other (map stated more)) → length lines ≡ count + length more →
    map stated (drop count lines) ≡ map stated more
lines_behind w lines more at count start place line other reads counted =
    let found = reached w (map stated (drop at lines)) (map stated more) start place line other reads in
    let sizes : length (map stated lines) ≡ count + length (map stated more) = length-map lines stated ∙ counted ∙ ap (λ n. count + n) (sym (length-map more stated)) in
    sym (drop-map stated count lines)
    ∙ behind_front (map stated lines) found.0 (map stated more) at count (drop-map stated at lines ∙ found.1) sizes

module _ (world : World) (Included : Including) (file : List ℕ) where
  -- statements up to one that says nothing of conditionals and variables, what that comes to, and those behind it
  pub lines_go_on : (left more : List Stated) (r next : code_reading.Reading) (old new : code_progress.Progress) (line : ℕ) (other : taken.Other) →
      new.items ≡ old.items → Reads world.answers left (place_of (table_of old.table) r) (taken.reaches (place_of (table_of new.table) next) line other more) →
      (told : Told) → Hands world Included file line (here_of next new) other told → (outcome : Outcome) → Then told (Lines world Included file more) outcome →
      Lines world Included file left (here_of r old) outcome
  lines_go_on left more r next old new line other same reads told is outcome rest =
      follows world Included file left (here_of r old) (taken.reaches (place_of (table_of new.table) next) line other more) reads told
      (subst (λ (items : Vec code_item.Item Global).
      Hands world Included file line (record { place = place_of (table_of new.table) next; items = map item_of items.items }) other told) same is)
      outcome rest

  -- the end of the statements
  pub lines_end : (left : List Stated) (r next : code_reading.Reading) (old new : code_progress.Progress) → new.items ≡ old.items →
      Reads world.answers left (place_of (table_of old.table) r) (taken.ends (place_of (table_of new.table) next)) →
      Lines world Included file left (here_of r old) (Ok (progress_of new))
  lines_end left r next old new same reads =
      subst (λ (items : Vec code_item.Item Global).
      Lines world Included file left (here_of r old) (Ok (record { table = table_of new.table; items = map item_of items.items }))) (sym same)
      (follows world Included file left (here_of r old) (taken.ends (place_of (table_of new.table) next)) reads)

  -- what ends the statements of a file
  pub lines_refused : (left : List Stated) (r : code_reading.Reading) (p : code_progress.Progress) (whole : List Stated) (start : code_progress.Progress) (it : code_refused.Refused) →
      ((outcome : Outcome) → Lines world Included file left (here_of r p) outcome → Lines world Included file whole (begins (progress_of start)) outcome) →
      IsRefused (ReadsTo world.answers left (place_of (table_of p.table) r) file) it → IsRefused (λ why. Lines world Included file whole (begins (progress_of start)) (Err why)) it
  lines_refused left r p whole start it leads h =
      refused_map (ReadsTo world.answers left (place_of (table_of p.table) r) file) (λ why. Lines world Included file whole (begins (progress_of start)) (Err why))
      (λ why is. leads (Err why) (read_refused world Included file left (here_of r p) why is)) it h

  -- so does one that is the caller's
  pub lines_stopped : (left more : List Stated) (r next : code_reading.Reading) (old new : code_progress.Progress) (line : ℕ) (other : taken.Other) (whole : List Stated)
      (start : code_progress.Progress) (it : code_refused.Refused) →
      ((outcome : Outcome) → Lines world Included file left (here_of r old) outcome → Lines world Included file whole (begins (progress_of start)) outcome) →
      new.items ≡ old.items → Reads world.answers left (place_of (table_of old.table) r) (taken.reaches (place_of (table_of new.table) next) line other more) →
      IsRefused (λ why. Hands world Included file line (here_of next new) other (Err why)) it → IsRefused (λ why. Lines world Included file whole (begins (progress_of start)) (Err why)) it
  lines_stopped left more r next old new line other whole start it leads same reads h =
      refused_map (λ why. Hands world Included file line (here_of next new) other (Err why)) (λ why. Lines world Included file whole (begins (progress_of start)) (Err why))
      (λ why is. leads (Err why) (lines_go_on left more r next old new line other same reads (Err why) is (Err why) refl)) it h
