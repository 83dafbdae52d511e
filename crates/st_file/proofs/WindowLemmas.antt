-- Reading a side forward: what is in memory of it, and how far the batches go.
use Rattle.std.proofs.Common.{◌≡◌, ◌≢◌, ◌⊎◌, ℕ, ◌+◌, ◌-◌, ◌<◌, ◌≤◌, min, Bool, false, List, [], ◌∷◌, ◌++◌, length, get_or, take, drop, slice_range, refl, sym, ap, subst, ◌∙◌, append_assoc, arith, inl, inr}
use Rattle.std.proofs.lemmas.Bool.{cases_lt}
use Rattle.std.proofs.lemmas.List.{append-nil, length-append, length-drop, nil_from_length, take-append-drop, take-append-le, take_at, drop_at, drop-drop}
use Rattle.std.proofs.lemmas.List.Folds.{drop_split}
use Rattle.std.specs.Int.{w16, to_le_bytes}
use Rattle.st_disk.specs.declared.which.Which.{Which}
use Rattle.st_records.specs.declared.version.Form.{Form}
use Rattle.st_records.specs.declared.record.Record.{Record}
use Rattle.std.specs.List.{AllByRecursion}
use Rattle.st_records.specs.Limits.{IsGoodIn}
use Rattle.st_file.specs.declared.fault.OpenFault.{OpenFault}
use Rattle.st_file.specs.declared.fault.OpenFault.TheVariants as faults
use Rattle.st_file.specs.declared.window.Window.{Window}
use Rattle.st_file.specs.Layout.{version_number_in, IsReadIn, IsNamed, magic}
use Rattle.st_file.specs.Batch.{framed_in, FillBatchIn, records_of}
use Rattle.st_file.specs.Side.{IsVoid, HoldsUpToIn, LacksHeaderIn, LacksNumbersIn, IsForeign, IsRefusedIn, IsDamagedAtIn, IsBrokenIn, ReachesIn}
use Rattle.st_file.specs.Sink.{AddsRecords, HasTakenGoodIn}
use Rattle.st_file.specs.Window.{ahead, Shows, ShowsHeader, ShowsBatch, IsEnough}
use Rattle.st_file.proofs.SideLemmas.{HasWalked, walked_more, broken_here}

-- ---- what is in memory

-- what begins with these bytes, and is long enough, is these bytes and a rest
prefix_of : (f b p a : List ℕ) → f ++ b ≡ p ++ a → length p ≤ length f → f ≡ p ++ drop (length p) f
prefix_of f b p a e le =
    let front : take (length p) f ≡ p = sym (take-append-le (length p) f b le) ∙ ap (take (length p)) e ∙ take_at p a (length p) refl in
    sym (take-append-drop (length p) f) ∙ ap (λ (t : List ℕ). t ++ drop (length p) f) front

-- at the start nothing is in memory
pub Shows-start : (x : List ℕ) (w : Window) → w.len ≡ length x → w.place ≡ 0 → ahead w ≡ [] → Shows x w
Shows-start x w len place none = record {
  len_is = len;
  behind = x;
  parts = ap (λ (n : ℕ). drop n x) place ∙ ap (λ (y : List ℕ). y ++ x) (sym none);
}

-- what was read from a place on is what stands there
pub Shows-read : (x : List ℕ) (w : Window) (size : ℕ) → w.len ≡ length x → w.place + size ≤ length x → ahead w ≡ slice_range x w.place (w.place + size) → Shows x w
Shows-read x w size len le is = record {
  len_is = len;
  behind = drop (w.place + size) x;
  parts = drop_split x w.place (w.place + size) (omega arith) ∙ ap (λ (y : List ℕ). y ++ drop (w.place + size) x) (sym is);
}

drop_front : (n : ℕ) (f b : List ℕ) → n ≤ length f → drop n (f ++ b) ≡ drop n f ++ b
drop_front n f b le =
    let split : f ++ b ≡ take n f ++ (drop n f ++ b) = ap (λ (y : List ℕ). y ++ b) (sym (take-append-drop n f)) ∙ append_assoc (take n f) (drop n f) b in
    let long : length (take n f) ≡ n = omega (arith, ap length (take-append-drop n f), length-append (take n f) (drop n f), length-drop n f) in
    ap (drop n) split ∙ drop_at (take n f) (drop n f ++ b) n long

-- going on behind some of what is in memory
pub Shows-pass : (x : List ℕ) (w v : Window) (count : ℕ) → Shows x w → count ≤ length (ahead w) → v.len ≡ w.len → v.place ≡ w.place + count → ahead v ≡ drop count (ahead w) → Shows x v
Shows-pass x w v count shows le len place same = record {
  len_is = len ∙ shows.len_is;
  behind = shows.behind;
  parts = ap (λ (n : ℕ). drop n x) place ∙ sym (drop-drop count w.place x) ∙ ap (drop count) shows.parts ∙ drop_front count (ahead w) shows.behind le
      ∙ ap (λ (y : List ℕ). y ++ shows.behind) (sym same);
}

length_shown : (x : List ℕ) (w : Window) (shows : Shows x w) → length x - w.place ≡ length (ahead w) + length shows.behind
length_shown x w shows = sym (length-drop w.place x) ∙ ap length shows.parts ∙ length-append (ahead w) shows.behind

-- so many bytes of a side, or all of it, are in memory at its start
pub ShowsHeader-of : (x : List ℕ) (w : Window) → Shows x w → w.place ≡ 0 → min 19 w.len ≤ length (ahead w) → ShowsHeader x w
ShowsHeader-of x w shows place few =
    elim (cases_lt (length (ahead w)) 19) [
      | inl short ↦ record { shows = shows; whole = inr (nil_from_length shows.behind (omega (arith, few, short, place, shows.len_is, length_shown x w shows))) }
      | inr long ↦ record { shows = shows; whole = inl long }
    ]

frame_or_all : (x : List ℕ) (w : Window) (left : ℕ) (shows : Shows x w) → w.place + left ≡ w.len → min 9 left ≤ length (ahead w) → (9 ≤ length (ahead w)) ⊎ (shows.behind ≡ [])
frame_or_all x w left shows left_is few =
    elim (cases_lt (length (ahead w)) 9) [
      | inl short ↦ inr (nil_from_length shows.behind (omega (arith, few, short, left_is, shows.len_is, length_shown x w shows)))
      | inr long ↦ inl long
    ]

-- a frame, or all that is left, was in memory, and then as much as that asked for
pub ShowsBatch-of : (x : List ℕ) (w v : Window) (left n : ℕ) → Shows x w → Shows x v → v.place ≡ w.place → w.place + left ≡ w.len → min 9 left ≤ length (ahead w) → IsEnough (ahead w) left n → n ≤ length (ahead v) → ShowsBatch x v
ShowsBatch-of x w v left n shows later same left_is few enough reached = record {
  shows = later;
  whole = λ form rs gate rest short begins.
      let here : ahead w ++ shows.behind ≡ gate ∷ (framed_in form rs ++ rest) = sym shows.parts ∙ ap (λ (k : ℕ). drop k x) (sym same) ∙ begins in
      let all : length (ahead w) + length shows.behind ≡ left = omega (arith, left_is, shows.len_is, length_shown x w shows) in
      let fits = enough.holds form rs gate shows.behind rest short all (frame_or_all x w left shows left_is few) here in
      omega (arith, fits, reached);
}

-- ---- the header

refused_damaged : (newest : Form) (x : List ℕ) (place : ℕ) → LacksNumbersIn newest x place → IsDamagedAtIn newest x place
refused_damaged newest x place (inl version) = inl version
refused_damaged newest x place (inr generation) = inr (inl generation)

-- a side without a header is refused
pub refused_of : (newest : Form) (side : Which) (x : List ℕ) (fault : OpenFault) → LacksHeaderIn newest side x fault → IsRefusedIn newest side x fault
refused_of newest side x (faults.NotState s) lacks = lacks
refused_of newest side x (faults.UnknownVersion s version) lacks = lacks
refused_of newest side x (faults.Damaged s place) lacks = (lacks.0, refused_damaged newest x place lacks.1)
refused_of newest side x faults.Device lacks = lacks
refused_of newest side x faults.OutOfMemory lacks = lacks
refused_of newest side x faults.SameGeneration lacks = lacks

-- whether a side is void is seen at its front
front_void : (x front behind : List ℕ) → x ≡ front ++ behind → (19 ≤ length front) ⊎ (behind ≡ []) → IsVoid x → IsVoid front
front_void x [] behind e whole void = tt
front_void x (a ∷ []) behind e whole void = tt
front_void x (a ∷ b ∷ f) behind e whole void = subst IsVoid e void

named_front : (x front behind rest : List ℕ) → x ≡ front ++ behind → IsNamed front rest → IsNamed x (rest ++ behind)
named_front x front behind rest e named = record {
  gate = named.gate;
  is_open = named.is_open;
  text = e ∙ ap (λ (y : List ℕ). y ++ behind) named.text;
}

length-named : (x rest : List ℕ) → IsNamed x rest → length x ≡ 9 + length rest
length-named x rest named = omega (arith, ap length named.text)

foreign_front : (x front behind : List ℕ) → x ≡ front ++ behind → 19 ≤ length front → IsForeign front → IsForeign x
foreign_front x front behind e long foreign = record {
  filled = λ void. foreign.filled (front_void x front behind e (inl long) void);
  unnamed = λ rest named.
      let p : List ℕ = named.gate ∷ magic in
      let begins : front ++ behind ≡ p ++ rest = sym e ∙ named.text in
      foreign.unnamed (drop 9 front) (record { gate = named.gate; is_open = named.is_open; text = prefix_of front behind p rest begins (omega (arith, long)) });
}

damaged_long : (newest : Form) (x front behind : List ℕ) (place : ℕ) → x ≡ front ++ behind → 19 ≤ length front → LacksNumbersIn newest front place → LacksNumbersIn newest x place
damaged_long newest x front behind place e long (inl lacks) =
    absurd (omega (arith, long, lacks.1.cut, length-named front lacks.1.rest lacks.1.named))
damaged_long newest x front behind place e long (inr lacks) =
    let form = lacks.1.form in
    let rest = lacks.1.rest in
    let named = named_front x front behind (to_le_bytes w16 (version_number_in form) ++ rest) e lacks.1.named in
    elim lacks.1.cut [
      | inl short ↦ absurd (omega (arith, long, short, length-named front (to_le_bytes w16 (version_number_in form) ++ rest) lacks.1.named))
      | inr zero ↦ inr (lacks.0, record { form = form; is_read = lacks.1.is_read; rest = rest ++ behind; named = named; cut = inr (zero.0 ++ behind, ap (λ (y : List ℕ). y ++ behind) zero.1) })
    ]

lacks_long : (newest : Form) (side : Which) (x front behind : List ℕ) (fault : OpenFault) → x ≡ front ++ behind → 19 ≤ length front → LacksHeaderIn newest side front fault → LacksHeaderIn newest side x fault
lacks_long newest side x front behind (faults.NotState s) e long lacks = (lacks.0, foreign_front x front behind e long lacks.1)
lacks_long newest side x front behind (faults.UnknownVersion s version) e long lacks = (
  lacks.0,
  record {
    rest = lacks.1.rest ++ behind;
    named = named_front x front behind (to_le_bytes w16 version ++ lacks.1.rest) e lacks.1.named;
    fits = lacks.1.fits;
    other = lacks.1.other;
  },
)
lacks_long newest side x front behind (faults.Damaged s place) e long lacks = (lacks.0, damaged_long newest x front behind place e long lacks.1)
lacks_long newest side x front behind faults.Device e long lacks = lacks
lacks_long newest side x front behind faults.OutOfMemory e long lacks = lacks
lacks_long newest side x front behind faults.SameGeneration e long lacks = lacks

-- and so is a side whose front has none
pub refused_front : (newest : Form) (side : Which) (x front behind : List ℕ) (fault : OpenFault) → x ≡ front ++ behind → (19 ≤ length front) ⊎ (behind ≡ []) → LacksHeaderIn newest side front fault → IsRefusedIn newest side x fault
refused_front newest side x front behind fault e (inl long) lacks = refused_of newest side x fault (lacks_long newest side x front behind fault e long lacks)
refused_front newest side x front behind fault e (inr none) lacks =
    let same : front ≡ x = sym (e ∙ ap (λ (y : List ℕ). front ++ y) none ∙ append-nil front) in
    refused_of newest side x fault (subst (λ (y : List ℕ). LacksHeaderIn newest side y fault) same lacks)

-- what is in memory at the start is the front of the side
pub front_parts : (x : List ℕ) (w : Window) (front : List ℕ) (shown : ShowsHeader x w) → w.place ≡ 0 → front ≡ ahead w → x ≡ front ++ shown.shows.behind
front_parts x w front shown place same =
    ap (λ (n : ℕ). drop n x) (sym place) ∙ shown.shows.parts ∙ ap (λ (y : List ℕ). y ++ shown.shows.behind) (sym same)

pub front_whole : (x : List ℕ) (w : Window) (front : List ℕ) (shown : ShowsHeader x w) → front ≡ ahead w → (19 ≤ length front) ⊎ (shown.shows.behind ≡ [])
front_whole x w front shown same =
    let P : List ℕ → Type 0 = λ y. (19 ≤ length y) ⊎ (shown.shows.behind ≡ []) in
    subst P (sym same) shown.whole

-- ---- from batch to batch

-- batches were read up to the window's place, and it shows what follows there
pub record GoesOn {X : Type 0} (has_taken : X → List Record → Type 0) (x : List ℕ) (form : Form) (generation : ℕ) (sink : X) (first : Bool) (w : Window) : Type 0 where
  pub walked : HasWalked has_taken x form generation sink first (drop w.place x)
  pub shows : Shows x w

pub at_place : {X : Type 0} (H : X → List Record → Type 0) (x : List ℕ) (form : Form) (generation : ℕ) (sink : X) (first : Bool) (u w : Window) → GoesOn H x form generation sink first u → w.place ≡ u.place
    → HasWalked H x form generation sink first (drop w.place x)
at_place {X} H x form generation sink first u w goes place =
    let P : ℕ → Type 0 = λ n. HasWalked H x form generation sink first (drop n x) in
    subst P (sym place) goes.walked

some_front : (x : List ℕ) (w : Window) (shows : Shows x w) → 0 < length (ahead w) → 0 < length (drop w.place x)
some_front x w shows some = omega (arith, some, ap length shows.parts, length-append (ahead w) shows.behind)

get_front : (f b : List ℕ) → 0 < length f → get_or (f ++ b) 0 0 ≡ get_or f 0 0
get_front [] b lt = absurd (omega arith)
get_front (a ∷ f) b lt = refl

drop_one : (f b : List ℕ) → 0 < length f → drop 1 (f ++ b) ≡ drop 1 f ++ b
drop_one [] b lt = absurd (omega arith)
drop_one (a ∷ f) b lt = refl

open_front : (x : List ℕ) (w : Window) (shows : Shows x w) → 0 < length (ahead w) → get_or (ahead w) 0 0 ≢ 0 → get_or (drop w.place x) 0 0 ≢ 0
open_front x w shows some opened zero =
    opened (sym (get_front (ahead w) shows.behind some) ∙ ap (λ (y : List ℕ). get_or y 0 0) (sym shows.parts) ∙ zero)

cut_front : (f : List ℕ) → 0 < length f → f ≡ get_or f 0 0 ∷ drop 1 f
cut_front [] lt = absurd (omega arith)
cut_front (a ∷ f) lt = refl

pub goes_on : {X : Type 0} (H : X → List Record → Type 0) (x : List ℕ) (form : Form) (generation : ℕ) (sink new : X) (first : Bool) (w u : Window) (after : List ℕ) (rs : List Record) → HasWalked H x form generation sink first (drop w.place x)
    → Shows x w → Shows x u → 0 < length (ahead w) → get_or (ahead w) 0 0 ≢ 0 → FillBatchIn form first rs → drop 1 (ahead w) ≡ framed_in form rs ++ after → AddsRecords H sink new rs → u.place ≡ w.place + (length (ahead w) - length after)
    → GoesOn H x form generation new false u
goes_on {X} H x form generation sink new first w u after rs walked shows later some opened filled e added place =
    let f = ahead w in
    let rest = drop w.place x in
    let cut : drop 1 rest ≡ framed_in form rs ++ (after ++ shows.behind) =
    ap (drop 1) shows.parts ∙ drop_one f shows.behind some ∙ ap (λ (y : List ℕ). y ++ shows.behind) e ∙ append_assoc (framed_in form rs) after shows.behind in
    let more = walked_more H x form generation sink new first rest (after ++ shows.behind) rs walked (some_front x w shows some) (open_front x w shows some opened) filled cut added in
    let front_is : f ≡ get_or f 0 0 ∷ (framed_in form rs ++ after) = cut_front f some ∙ ap (λ (y : List ℕ). get_or f 0 0 ∷ y) e in
    let count : length f - length after ≡ 1 + length (framed_in form rs) = omega (arith, ap length front_is, length-append (framed_in form rs) after) in
    let left : drop u.place x ≡ after ++ shows.behind =
    ap (λ (n : ℕ). drop n x) (place ∙ ap (λ (n : ℕ). w.place + n) count) ∙ sym (drop-drop (1 + length (framed_in form rs)) w.place x)
    ∙ sym (drop-drop (length (framed_in form rs)) 1 rest) ∙ ap (drop (length (framed_in form rs))) cut ∙ drop_at (framed_in form rs) (after ++ shows.behind) (length (framed_in form rs)) refl in
    let W : List ℕ → Type 0 = λ y. HasWalked H x form generation new false y in
    record { walked = subst W (sym left) more; shows = later }

-- a closed gate ends the side there
pub ends_here : {X : Type 0} (H : X → List Record → Type 0) (x : List ℕ) (form : Form) (generation : ℕ) (sink : X) (first : Bool) (w : Window) → HasWalked H x form generation sink first (drop w.place x) → Shows x w → 0 < length (ahead w)
    → get_or (ahead w) 0 0 ≡ 0 → (held : List Record) × HoldsUpToIn x form generation held w.place × H sink held
ends_here {X} H x form generation sink first w walked shows some closed =
    let after : List ℕ = drop 1 (ahead w) ++ shows.behind in
    let rest : drop w.place x ≡ 0 ∷ after =
    shows.parts ∙ ap (λ (y : List ℕ). y ++ shows.behind) (cut_front (ahead w) some) ∙ ap (λ (g : ℕ). g ∷ after) closed in
    let R : List ℕ → Type 0 = λ y. ReachesIn x form generation walked.batches y in (
      records_of walked.batches,
      record {
        batches = walked.batches;
        after = after;
        reached = subst R rest walked.reached;
        in_order = refl;
        place = omega (arith, some, shows.len_is, ap length rest, length-drop w.place x);
      },
      walked.taken,
    )

-- where no batch goes on it is damaged there
pub broken_front : {X : Type 0} (H : X → List Record → Type 0) (newest : Form) (x : List ℕ) (form : Form) → IsReadIn newest form → (generation : ℕ) (sink : X) (first : Bool) (w : Window) (behind : List ℕ) → HasWalked H x form generation sink first (drop w.place x) → ShowsBatch x w
    → 0 < length (ahead w) → get_or (ahead w) 0 0 ≢ 0 → behind ≡ drop 1 (ahead w) → ((rs : List Record) (after : List ℕ) → FillBatchIn form first rs → behind ≢ framed_in form rs ++ after) → IsBrokenIn newest x w.place
broken_front {X} H newest x form is_read generation sink first w behind walked shown some opened cut none =
    let shows = shown.shows in
    let f = ahead w in
    let rest = drop w.place x in
    let lt = some_front x w shows some in
    let refuted : (rs : List Record) (after : List ℕ) → FillBatchIn form first rs → drop 1 rest ≢ framed_in form rs ++ after = λ rs after filled e.
    let begins : rest ≡ get_or rest 0 0 ∷ (framed_in form rs ++ after) = cut_front rest lt ∙ ap (λ (y : List ℕ). get_or rest 0 0 ∷ y) e in
    let long = shown.whole form rs (get_or rest 0 0) after filled.short begins in
    let same : drop 1 f ++ shows.behind ≡ framed_in form rs ++ after = sym (drop_one f shows.behind some) ∙ ap (drop 1) (sym shows.parts) ∙ e in
    let fits : length (framed_in form rs) ≤ length (drop 1 f) = omega (arith, long, length-drop 1 f) in
    none rs (drop (length (framed_in form rs)) (drop 1 f)) filled (cut ∙ prefix_of (drop 1 f) shows.behind (framed_in form rs) after same fits) in
    let broken = broken_here H newest x form is_read generation sink first rest (drop 1 rest) walked lt (open_front x w shows some opened) refl refuted in
    let at : length x - length rest ≡ w.place = omega (arith, lt, length-drop w.place x) in
    subst (IsBrokenIn newest x) at broken

-- ---- records of one form

all_of_both : {X : Type 0} (P : X → Type 0) (xs ys : List X) → AllByRecursion P xs → AllByRecursion P ys → AllByRecursion P (xs ++ ys)
all_of_both P [] ys front back = back
all_of_both P (x ∷ xs) ys front back = (front.0, all_of_both P xs ys front.1 back)

pub HasTakenGood-more : {X : Type 0} (H : X → List Record → Type 0) (form : Form) (first : Bool) (sink new : X) (rs : List Record) → HasTakenGoodIn H form sink → FillBatchIn form first rs → AddsRecords H sink new rs → HasTakenGoodIn H form new
HasTakenGood-more H form first sink new rs before filled added = record {
  held = before.held ++ rs;
  good = all_of_both (IsGoodIn form) before.held rs before.good filled.good;
  taken = added.after before.held before.taken;
}
