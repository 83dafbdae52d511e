-- The physical lines of a text, and their groups, are what the relation says, and nothing else is.
use Rattle.std.proofs.Common.{◌≡◌, ℕ, ◌<◌, ◌-◌, Bool, true, false, cond, ◌&&◌, ◌||◌, ◌==◌, ◌%◌, List, [], ◌∷◌, ◌++◌, length, reverse, flat_map, refl, sym, ap, subst, ◌∙◌, arith, append_assoc, append-nil, length-append, Some}
use Rattle.std.specs.List.{list_any, slice_split, onto_first, suffix_len}
use Rattle.std.proofs.lemmas.List.{take_at, reverse-append}
use Rattle.std.proofs.lemmas.List.Splits.{length-slice_split, join_with_byte-slice_split}
use Rattle.mk_lines.specs.Text.{is_newline, is_backslash, begins_with, ends_with, without_last}
use Rattle.mk_lines.specs.declared.line.Ending.{Ending}
use Rattle.mk_lines.specs.declared.line.Ending.TheVariants.{EndOfText, Newline, ReturnNewline}
use Rattle.mk_lines.specs.References.{Lacks}
use Rattle.mk_lines.specs.Lines.{Physical, spelling, ending_bytes, has_newline, physical_lines, ended_line, goes_on, groups, rest_of_group, after_group, lines_left}
use Rattle.mk_lines.specs.Spelling.{HasOwnEnding, IsEnded, ArePhysical, AreLines, IsGroup, AreAllGroups, AreGroups}
use Rattle.mk_lines.proofs.ReferenceLemmas.{or_false, lacks_more}
use Rattle.mk_lines.proofs.LinesLemmas.{physical_lines-more, groups-cons}
use Rattle.mk_lines.proofs.SpellingLemmas.{ends_at, joined, grouped}

-- what holds on both sides of a test
pub by_cond : {A : Type 0} (P : A → Type 0) (t : Bool) (x y : A) → (t ≡ true → P x) → (t ≡ false → P y) → P (cond t x y)
by_cond P true x y h g = h refl
by_cond P false x y h g = g refl

-- What a text lacks, each part of it lacks

pub lacks_left : (byte : ℕ) (xs ys : List ℕ) → Lacks byte (xs ++ ys) → Lacks byte xs
lacks_left byte [] ys h = refl
lacks_left byte (x ∷ xs) ys h =
    let parts = or_false (x == byte) (list_any (λ b. b == byte) (xs ++ ys)) h in
    ap (λ t. t || list_any (λ b. b == byte) xs) parts.0 ∙ lacks_left byte xs ys parts.1

abbrev AllLack : List (List ℕ) → Type 0
AllLack [] = Unit {0}
AllLack (text ∷ texts) = Lacks 10 text × AllLack texts

onto_lacks : (b : ℕ) (parts : List (List ℕ)) → (b == 10) ≡ false → AllLack parts → AllLack (onto_first b parts)
onto_lacks b [] e h = (ap (λ t. t || false) e, tt)
onto_lacks b (part ∷ parts) e h = (ap (λ t. t || list_any (λ c. c == 10) part) e ∙ h.0, h.1)

parts_lack : (text : List ℕ) → AllLack (slice_split is_newline text)
parts_lack [] = (refl, tt)
parts_lack (b ∷ bs) =
    by_cond AllLack (b == 10) ([] ∷ slice_split is_newline bs) (onto_first b (slice_split is_newline bs))
    (λ e. (refl, parts_lack bs))
    (λ e. onto_lacks b (slice_split is_newline bs) e (parts_lack bs))

-- From the text to its lines

ended_is : (text : List ℕ) → Lacks 10 text → IsEnded (ended_line text)
unfolding ended_line ends_with
ended_is text h =
    by_cond IsEnded (begins_with 13 (reverse text)) _ _
    (λ e. (lacks_left 10 (without_last text) (13 ∷ []) (ap (list_any (λ b. b == 10)) (sym (ends_at 13 text (reverse text) refl e)) ∙ h), tt))
    (λ e. (h, e))

pub ended_before : (line : Physical) (lines : List Physical) → IsEnded line → ArePhysical lines → ArePhysical (line ∷ lines)
ended_before line [] e h = absurd h
ended_before line (next ∷ more) e h = (e, h)

physical_are : (text : List ℕ) (texts : List (List ℕ)) → AllLack (text ∷ texts) → ArePhysical (physical_lines (text ∷ texts))
physical_are text [] h = (h.0, refl)
physical_are text (next ∷ more) h = ended_before (ended_line text) (physical_lines (next ∷ more)) (ended_is text h.0) (physical_are next more h.1)

some_physical : (texts : List (List ℕ)) → 0 < length texts → AllLack texts → ArePhysical (physical_lines texts)
some_physical [] h lack = absurd (omega arith)
some_physical (text ∷ texts) h lack = physical_are text texts lack

pub lines_are : (text : List ℕ) → AreLines text (lines_left (Some text))
unfolding lines_left
lines_are text = (
  sym (joined (slice_split is_newline text) ∙ join_with_byte-slice_split 10 text),
  some_physical (slice_split is_newline text) (omega (arith, length-slice_split is_newline text)) (parts_lack text),
)

-- From the lines to the text

split_at_newline : (front rest : List ℕ) → Lacks 10 front → slice_split is_newline (front ++ 10 ∷ rest) ≡ front ∷ slice_split is_newline rest
split_at_newline [] rest h = refl
split_at_newline (b ∷ bs) rest h =
    let parts = or_false (b == 10) (list_any (λ x. x == 10) bs) h in
    ap (λ t. cond t ([] ∷ slice_split is_newline (bs ++ 10 ∷ rest)) (onto_first b (slice_split is_newline (bs ++ 10 ∷ rest)))) parts.0
    ∙ ap (onto_first b) (split_at_newline bs rest parts.1)

not_split : (text : List ℕ) → Lacks 10 text → slice_split is_newline text ≡ text ∷ []
not_split [] h = refl
not_split (b ∷ bs) h =
    let parts = or_false (b == 10) (list_any (λ x. x == 10) bs) h in
    ap (λ t. cond t ([] ∷ slice_split is_newline bs) (onto_first b (slice_split is_newline bs))) parts.0 ∙ ap (onto_first b) (not_split bs parts.1)

-- what stands between the newlines around a line
between : (text : List ℕ) (ending : Ending) → Lacks 10 text → HasOwnEnding text ending →
    (raw : List ℕ) × (text ++ ending_bytes ending ≡ raw ++ 10 ∷ []) × Lacks 10 raw × (ended_line raw ≡ record { text = text; ending = ending })
unfolding ended_line ends_with
between text EndOfText h e = absurd e
between text Newline h e =
    let line : Bool → Physical = λ t. cond t (record { text = without_last text; ending = ReturnNewline }) (record { text = text; ending = Newline }) in
    (text, refl, h, ap line e)
between text ReturnNewline h e =
    let raw = text ++ 13 ∷ [] in
    let line : Bool → Physical = λ t. cond t (record { text = without_last raw; ending = ReturnNewline }) (record { text = raw; ending = Newline }) in
    let ends : begins_with 13 (reverse raw) ≡ true = ap (begins_with 13) (reverse-append text (13 ∷ [])) in
    let front : without_last raw ≡ text = take_at text (13 ∷ []) (length raw - 1) (omega (arith, length-append text (13 ∷ []))) in
    let told : List ℕ → Physical = λ t. record { text = t; ending = ReturnNewline } in
    (raw, sym (append_assoc text (13 ∷ []) (10 ∷ [])), lacks_more 10 13 text h refl, ap line ends ∙ ap told front)

lines_back : (lines : List Physical) → ArePhysical lines → physical_lines (slice_split is_newline (flat_map spelling lines)) ≡ lines
lines_back [] h = absurd h
lines_back (line ∷ []) h =
    ap (λ ending. physical_lines (slice_split is_newline ((line.text ++ ending_bytes ending) ++ []))) h.1
    ∙ ap (λ xs. physical_lines (slice_split is_newline xs)) (append-nil (line.text ++ []) ∙ append-nil line.text)
    ∙ ap physical_lines (not_split line.text h.0)
    ∙ ap (λ ending. (let p : Physical = record { text = line.text; ending = ending } in p) ∷ []) (sym h.1)
lines_back (line ∷ next ∷ more) h =
    let tail = flat_map spelling (next ∷ more) in
    let raw = between line.text line.ending h.0.0 h.0.1 in
    let cut : flat_map spelling (line ∷ next ∷ more) ≡ raw.0 ++ 10 ∷ tail = ap (λ xs. xs ++ tail) raw.1 ∙ append_assoc raw.0 (10 ∷ []) tail in
    ap (λ xs. physical_lines (slice_split is_newline xs)) cut
    ∙ ap physical_lines (split_at_newline raw.0 tail raw.2)
    ∙ physical_lines-more raw.0 (slice_split is_newline tail) (omega (arith, length-slice_split is_newline tail))
    ∙ ap (λ (p : Physical). p ∷ physical_lines (slice_split is_newline tail)) raw.3
    ∙ ap (λ (ps : List Physical). line ∷ ps) (lines_back (next ∷ more) h.1)

pub lines_are_back : (text : List ℕ) (lines : List Physical) → AreLines text lines → lines_left (Some text) ≡ lines
unfolding lines_left
lines_are_back text lines h = ap (λ t. physical_lines (slice_split is_newline t)) h.0 ∙ lines_back lines h.1

-- Groups

pub last_ends : (line : Physical) → line.ending ≡ EndOfText → goes_on line ≡ false
unfolding goes_on
last_ends line e = ap (λ ending. has_newline ending && (suffix_len is_backslash line.text % 2 == 1)) e

onto_group : (line : Physical) (group : List Physical) (others : List (List Physical)) → goes_on line ≡ true → AreAllGroups (group ∷ others) → AreAllGroups (onto_first line (group ∷ others))
onto_group line [] others t h = absurd h.0
onto_group line (next ∷ more) others t h = ((t, h.0), h.1)

groups_said : (lines : List Physical) → ArePhysical lines → AreAllGroups (groups lines)
groups_said [] h = absurd h
groups_said (line ∷ []) h =
    by_cond AreAllGroups (goes_on line) (onto_first line []) ((line ∷ []) ∷ [])
    (λ t. absurd (cc (t, last_ends line h.1))) (λ f. (f, tt))
groups_said (line ∷ next ∷ more) h =
    let cons = groups-cons next more in
    let rest = groups_said (next ∷ more) h.1 in
    by_cond AreAllGroups (goes_on line) (onto_first line (groups (next ∷ more))) ((line ∷ []) ∷ groups (next ∷ more))
    (λ t. subst (λ gs. AreAllGroups (onto_first line gs)) (sym cons)
    (onto_group line (next ∷ rest_of_group next more) (groups (after_group next more)) t (subst AreAllGroups cons rest)))
    (λ f. (f, rest))

pub groups_are : (text : List ℕ) → AreGroups text (groups (lines_left (Some text)))
groups_are text =
    let lines = lines_are text in
    (subst (AreLines text) (sym (grouped (lines_left (Some text)))) lines, groups_said (lines_left (Some text)) lines.1)

group_back : (group rest : List Physical) → IsGroup group → groups (group ++ rest) ≡ group ∷ groups rest
group_back [] rest h = absurd h
group_back (p ∷ []) rest h = ap (λ t. cond t (onto_first p (groups rest)) ((p ∷ []) ∷ groups rest)) h
group_back (p ∷ q ∷ qs) rest h =
    ap (λ t. cond t (onto_first p (groups (q ∷ (qs ++ rest)))) ((p ∷ []) ∷ groups (q ∷ (qs ++ rest)))) h.0
    ∙ ap (onto_first p) (group_back (q ∷ qs) rest h.1)

groups_back : (parts : List (List Physical)) → AreAllGroups parts → groups (flat_map (λ group. group) parts) ≡ parts
groups_back [] h = refl
groups_back (group ∷ more) h =
    group_back group (flat_map (λ g. g) more) h.0 ∙ ap (λ (gs : List (List Physical)). group ∷ gs) (groups_back more h.1)

pub groups_are_back : (text : List ℕ) (parts : List (List Physical)) → AreGroups text parts → groups (lines_left (Some text)) ≡ parts
groups_are_back text parts h = ap groups (lines_are_back text (flat_map (λ group. group) parts) h.0) ∙ groups_back parts h.1
