-- The lines of a listing, one after another.
use Rattle.std.proofs.Common.{◌≡◌, ◌∙◌, Option, Some, None, ℕ, zero, suc, Bool, true, false, ◌==◌, ◌<◌, ◌+◌, ◌-◌, List, [], ◌∷◌, ◌++◌, length, take, drop, get_or, slice_get, append_assoc, codes, refl, sym, ap, arith, if◌then◌else◌}
use Rattle.std.proofs.lemmas.Grind.{flat_map-append}
use Rattle.std.proofs.lemmas.List.{drop-drop, drop_more, take-append-drop, take_rest, take_all}
use Rattle.std.specs.List.{flat_map}
use Rattle.memchr.specs.Find.{IsFirstByte, is_byte}
use Rattle.st_records.specs.declared.record.Entry.{Entry}
use Rattle.st_marks.specs.declared.mark.Mark.{Mark}
use Rattle.st_listing.specs.Listing.{continued, entry_lines, line, mark_below, marked_lines, newline}
use Rattle.st_listing.proofs.ListingLemmas.{lines_of_more}

-- ---- texts of items

-- what is left of the texts, behind that of the next item
pub next_text : {X : Type 0} (f : X → List ℕ) (all items rest : List X) (sent : List ℕ) (x : X) → flat_map f all ≡ sent ++ flat_map f items → items ≡ x ∷ rest
    → flat_map f all ≡ sent ++ (f x ++ flat_map f rest)
next_text f all items rest sent x e next = e ∙ ap (λ xs. sent ++ flat_map f xs) next

pub text_moved : {X : Type 0} (f : X → List ℕ) (all items rest : List X) (sent : List ℕ) (x : X) → flat_map f all ≡ sent ++ flat_map f items → items ≡ x ∷ rest
    → flat_map f all ≡ (sent ++ f x) ++ flat_map f rest
text_moved f all items rest sent x e next = next_text f all items rest sent x e next ∙ sym (append_assoc sent (f x) (flat_map f rest))

-- the same of names with their marks, where the first mark is given and the others are left
pub marked_next : (front all : List ℕ) (items rest : List (List ℕ)) (marks left : List Mark) (sent name : List ℕ) (given : Option Mark) → all ≡ sent ++ marked_lines front items marks
    → items ≡ name ∷ rest → given ≡ slice_get marks 0 → left ≡ drop 1 marks
    → all ≡ sent ++ ((line (front ++ name) ++ mark_below given) ++ marked_lines front rest left)
marked_next front all items rest marks left sent name given e next is others =
    e
    ∙ ap (λ (xs : List (List ℕ)). sent ++ marked_lines front xs marks) next
    ∙ ap (λ (o : Option Mark). sent ++ ((line (front ++ name) ++ mark_below o) ++ marked_lines front rest (drop 1 marks))) (sym is)
    ∙ ap (λ (ms : List Mark). sent ++ ((line (front ++ name) ++ mark_below given) ++ marked_lines front rest ms)) (sym others)

pub marked_moved : (front all : List ℕ) (items rest : List (List ℕ)) (marks left : List Mark) (sent name : List ℕ) (given : Option Mark) → all ≡ sent ++ marked_lines front items marks
    → items ≡ name ∷ rest → given ≡ slice_get marks 0 → left ≡ drop 1 marks
    → all ≡ (sent ++ (line (front ++ name) ++ mark_below given)) ++ marked_lines front rest left
marked_moved front all items rest marks left sent name given e next is others =
    marked_next front all items rest marks left sent name given e next is others
    ∙ sym (append_assoc sent (line (front ++ name) ++ mark_below given) (marked_lines front rest left))

-- the lines before a place, and those from it on
pub lines_from : (es : List (List ℕ × Entry)) (place : ℕ) → flat_map entry_lines es ≡ flat_map entry_lines (take place es) ++ flat_map entry_lines (drop place es)
lines_from es place = ap (flat_map entry_lines) (sym (take-append-drop place es)) ∙ flat_map-append entry_lines (take place es) (drop place es)

-- the lines before an entry, its own, and those behind it
pub lines_around : (es : List (List ℕ × Entry)) (place : ℕ) (e : List ℕ × Entry) → slice_get es place ≡ Some e
    → flat_map entry_lines es ≡ flat_map entry_lines (take place es) ++ (entry_lines e ++ flat_map entry_lines (drop (place + 1) es))
lines_around es place e found =
    lines_from es (place + 1)
    ∙ ap (λ lines. lines ++ flat_map entry_lines (drop (place + 1) es)) (lines_of_more es place e found)
    ∙ append_assoc (flat_map entry_lines (take place es)) (entry_lines e) (flat_map entry_lines (drop (place + 1) es))

-- ---- the lines of a command

fails : (b : Bool) → (b ≡ true → ⊥) → b ≡ false
fails true refuted = absurd (refuted refl)
fails false refuted = refl

stays : (byte : ℕ) → (byte == newline) ≡ false → continued byte ≡ byte ∷ []
stays byte other = ap (λ v. if v then newline ∷ codes "    > " else byte ∷ []) other

ends : (byte : ℕ) → (byte == newline) ≡ true → continued byte ≡ newline ∷ codes "    > "
ends byte same = ap (λ v. if v then newline ∷ codes "    > " else byte ∷ []) same

-- bytes before any newline are shown as they are
plain : (bytes : List ℕ) (n : ℕ) → ((k : ℕ) → k < n → (get_or bytes k 0 == newline) ≡ false) → flat_map continued (take n bytes) ≡ take n bytes
plain bytes zero none = refl
plain [] (suc n) none = refl
plain (byte ∷ bytes) (suc n) none =
    ap (λ t. t ++ flat_map continued (take n bytes)) (stays byte (none 0 (omega arith)))
    ∙ ap (λ t. byte ∷ t) (plain bytes n (λ k below. none (suc k) (omega arith)))

pub last_line : (rest : List ℕ) → IsFirstByte (is_byte newline) rest None → flat_map continued rest ≡ rest
last_line rest nowhere =
    let whole : take (length rest) rest ≡ rest = take_all (length rest) rest (omega arith) in
    ap (flat_map continued) (sym whole)
    ∙ plain rest (length rest) (λ k below. fails (get_or rest k 0 == newline) (nowhere k (omega arith) below))
    ∙ whole

first_line : (rest : List ℕ) (end : ℕ) → IsFirstByte (is_byte newline) rest (Some end)
    → flat_map continued rest ≡ take end rest ++ (newline ∷ (codes "    > " ++ flat_map continued (drop (end + 1) rest)))
first_line rest end found =
    let byte = get_or rest end 0 in
    let later = drop (end + 1) rest in
    let within : end < length rest = found.0.high in
    let parts : rest ≡ take end rest ++ byte ∷ later = sym (take-append-drop end rest) ∙ ap (λ t. take end rest ++ t) (drop_more rest end 0 within) in
    ap (flat_map continued) parts
    ∙ flat_map-append continued (take end rest) (byte ∷ later)
    ∙ ap (λ t. t ++ flat_map continued (byte ∷ later)) (plain rest end (λ k below. fails (get_or rest k 0 == newline) (found.0.before k (omega arith) below)))
    ∙ ap (λ t. take end rest ++ (t ++ flat_map continued later)) (ends byte found.1)

-- a line of a command, and what is left of it behind its mark
pub next_line : (all sent mark rest text : List ℕ) (end : ℕ) → IsFirstByte (is_byte newline) rest (Some end) → text ≡ take end rest → all ≡ sent ++ line (mark ++ flat_map continued rest)
    → all ≡ sent ++ (line (mark ++ text) ++ line (codes "    > " ++ flat_map continued (drop (end + 1) rest)))
next_line all sent mark rest text end found cut e =
    e
    ∙ ap (λ t. sent ++ line (mark ++ t)) (first_line rest end found)
    ∙ ap (λ t. sent ++ line (mark ++ (t ++ (newline ∷ (codes "    > " ++ flat_map continued (drop (end + 1) rest)))))) (sym cut)
    ∙ ap (λ t. sent ++ t) (simp append_assoc)

-- what is left behind the newline
behind : (rest after : List ℕ) (end : ℕ) → after ≡ drop end rest → drop (end + 1) rest ≡ take (length after - 1) (drop 1 after)
behind rest after end cut = sym (drop-drop 1 end rest) ∙ ap (drop 1) (sym cut) ∙ sym (take_rest after 1)

pub line_moved : (all sent mark rest text after : List ℕ) (end : ℕ) → IsFirstByte (is_byte newline) rest (Some end) → text ≡ take end rest → after ≡ drop end rest
    → all ≡ sent ++ line (mark ++ flat_map continued rest)
    → all ≡ (sent ++ line (mark ++ text)) ++ line (codes "    > " ++ flat_map continued (take (length after - 1) (drop 1 after)))
line_moved all sent mark rest text after end found cut left e =
    next_line all sent mark rest text end found cut e
    ∙ sym (append_assoc sent (line (mark ++ text)) _)
    ∙ ap (λ t. (sent ++ line (mark ++ text)) ++ line (codes "    > " ++ flat_map continued t)) (behind rest after end left)
