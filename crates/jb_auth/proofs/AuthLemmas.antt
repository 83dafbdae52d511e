-- A text is cut into words in one way, and its words say one thing of a jobserver.
use Rattle.std.proofs.Common.{◌≡◌, ◌≢◌, inl, inr, ℕ, Bool, true, false, List, [], ◌∷◌, ◌++◌, Option, Some, None, MatchOption, refl, sym, ◌∙◌, ap, subst, arith, append_assoc}
use Rattle.std.specs.Prelude.{All, Contains, codes}
use Rattle.std.specs.Char.{IsAsciiDigit}
use Rattle.std.proofs.lemmas.List.{append_cancel_left}
use Rattle.std.proofs.lemmas.List.Elements.{All-nil, All-cons, All-head, All-tail, All-push, All-weaker}
use denote.Ref.{Bor}
use Rattle.jb_auth.specs.Auth.{AreWords, Begins, NamesNone, IsLastNamed, AreDigits, IsNumber, AreNumbers, Authority, absent, disabled, fifo, descriptors, unreadable, SaysValue, SayOf, Says, IsFirstWord, AreFlags, AsksForDryRun, AsksForPosix, by_first, by_rest}

heads : (x y : ℕ) (xs ys : List ℕ) → x ∷ xs ≡ y ∷ ys → x ≡ y
heads x y xs ys e = cc

-- what stands before the first place of a byte, and behind it, is one pair of texts
cut_once : (b : ℕ) (w v r s : List ℕ) → All (λ x. x ≢ b) w → All (λ x. x ≢ b) v → w ++ b ∷ r ≡ v ++ b ∷ s → (w ≡ v) × (r ≡ s)
cut_once b [] [] r s free other e = (refl, cc)
cut_once b [] (y ∷ v) r s free other e = let same : y ≡ b = cc in absurd (All-head (λ x. x ≢ b) y v other same)
cut_once b (x ∷ w) [] r s free other e = let same : x ≡ b = cc in absurd (All-head (λ x. x ≢ b) x w free same)
cut_once b (x ∷ w) (y ∷ v) r s free other e =
    let head : x ≡ y = cc in
    let tail : w ++ b ∷ r ≡ v ++ b ∷ s = cc in
    let rest = cut_once b w v r s (All-tail (λ x. x ≢ b) x w free) (All-tail (λ x. x ≢ b) y v other) tail in
    let front : w ≡ v = rest.0 in (cc, rest.1)

cut_none : (b : ℕ) (w v r : List ℕ) → All (λ x. x ≢ b) v → w ++ b ∷ r ≡ v → ⊥
cut_none b [] [] r free e = cc
cut_none b [] (y ∷ v) r free e = let same : y ≡ b = cc in All-head (λ x. x ≢ b) y v free same
cut_none b (x ∷ w) [] r free e = cc
cut_none b (x ∷ w) (y ∷ v) r free e = let tail : w ++ b ∷ r ≡ v = cc in cut_none b w v r (All-tail (λ x. x ≢ b) y v free) tail

words_once : (text : List ℕ) (ws vs : List (List ℕ)) → AreWords text ws → AreWords text vs → ws ≡ vs
words_once text [] vs h k = absurd h
words_once text (w ∷ []) [] h k = absurd k
words_once text (w ∷ []) (v ∷ []) h k = ap (λ (x : List ℕ). x ∷ []) (sym h.1 ∙ k.1)
words_once text (w ∷ []) (v ∷ m ∷ vs) h (free, (rest, e, others)) = absurd (cut_none 32 v w rest h.0 (sym e ∙ h.1))
words_once text (w ∷ n ∷ ws) [] h k = absurd k
words_once text (w ∷ n ∷ ws) (v ∷ []) (free, (rest, e, others)) k = absurd (cut_none 32 w v rest k.0 (sym e ∙ k.1))
words_once text (w ∷ n ∷ ws) (v ∷ m ∷ vs) (free, (rest, e, others)) (free', (rest', e', others')) =
    let cut = cut_once 32 w v rest rest' free free' (sym e ∙ e') in
    let P : List ℕ → Type 0 = λ t. AreWords t (m ∷ vs) in
    let tails : n ∷ ws ≡ m ∷ vs = words_once rest (n ∷ ws) (m ∷ vs) others (subst P (sym cut.1) others') in
    let head : w ≡ v = cut.0 in cc

names_at : (before : List (List ℕ)) (word : List ℕ) (behind : List (List ℕ)) (value : List ℕ) → NamesNone (before ++ word ∷ behind) → Begins (codes "--jobserver-auth=") word value → ⊥
names_at [] word behind value none begins = All-head (λ w. (v : List ℕ) → Begins (codes "--jobserver-auth=") w v → ⊥) word behind none value begins
names_at (x ∷ before) word behind value none begins =
    names_at before word behind value (All-tail (λ w. (v : List ℕ) → Begins (codes "--jobserver-auth=") w v → ⊥) x (before ++ word ∷ behind) none) begins

named_once : (before others : List (List ℕ)) (word other : List ℕ) (behind rest : List (List ℕ)) (value second : List ℕ)
    → before ++ word ∷ behind ≡ others ++ other ∷ rest → Begins (codes "--jobserver-auth=") word value → Begins (codes "--jobserver-auth=") other second
    → NamesNone behind → NamesNone rest → value ≡ second
named_once [] [] word other behind rest value second e a b free none =
    let same : word ≡ other = cc in append_cancel_left (codes "--jobserver-auth=") value second (sym a ∙ same ∙ b)
named_once [] (x ∷ others) word other behind rest value second e a b free none =
    let same : behind ≡ others ++ other ∷ rest = cc in
    let P : List (List ℕ) → Type 0 = NamesNone in absurd (names_at others other rest second (subst P same free) b)
named_once (x ∷ before) [] word other behind rest value second e a b free none =
    let same : rest ≡ before ++ word ∷ behind = cc in
    let P : List (List ℕ) → Type 0 = NamesNone in absurd (names_at before word behind value (subst P same none) a)
named_once (x ∷ before) (y ∷ others) word other behind rest value second e a b free none =
    let same : before ++ word ∷ behind ≡ others ++ other ∷ rest = cc in named_once before others word other behind rest value second same a b free none

last_once : (words : List (List ℕ)) (value second : List ℕ) → IsLastNamed words value → IsLastNamed words second → value ≡ second
last_once words value second (before, word, behind, e, a, free) (others, other, rest, e', b, none) =
    named_once before others word other behind rest value second (sym e ∙ e') a b free none

none_or_last : (words : List (List ℕ)) (value : List ℕ) → NamesNone words → IsLastNamed words value → ⊥
none_or_last words value none (before, word, behind, e, a, free) =
    let P : List (List ℕ) → Type 0 = NamesNone in names_at before word behind value (subst P e none) a

digit_not : (x : ℕ) → IsAsciiDigit x → x ≢ 44
digit_not x digit same = omega arith

pub number_free : (sign : Bool) (text : List ℕ) → IsNumber sign text → All (λ x. x ≢ 44) text
number_free false text digits = All-weaker IsAsciiDigit (λ x. x ≢ 44) digit_not text digits.1
number_free true text (digits, e, h) =
    let P : List ℕ → Type 0 = λ t. All (λ x. x ≢ 44) t in
    subst P (sym e) (All-cons (λ x. x ≢ 44) 45 digits (λ same. omega arith) (All-weaker IsAsciiDigit (λ x. x ≢ 44) digit_not digits h.1))

minus_head : (digits : List ℕ) → AreDigits (45 ∷ digits) → ⊥
minus_head digits h = let d = All-head IsAsciiDigit 45 digits h.1 in omega arith

sign_once : (a b : Bool) (text : List ℕ) → IsNumber a text → IsNumber b text → a ≡ b
sign_once false false text h k = refl
sign_once true true text h k = refl
sign_once false true text h (digits, e, k) = let P : List ℕ → Type 0 = AreDigits in absurd (minus_head digits (subst P e h))
sign_once true false text (digits, e, h) k = let P : List ℕ → Type 0 = AreDigits in absurd (minus_head digits (subst P e k))

numbers_once : (a b c d : Bool) (value : List ℕ) → AreNumbers a b value → AreNumbers c d value → (a ≡ c) × (b ≡ d)
numbers_once a b c d value (front, back, e, x, y) (front', back', e', x', y') =
    let cut = cut_once 44 front front' back back' (number_free a front x) (number_free c front' x') (sym e ∙ e') in
    let P : List ℕ → Type 0 = IsNumber c in
    let Q : List ℕ → Type 0 = IsNumber d in
    (sign_once a c front x (subst P (sym cut.0) x'), sign_once b d back y (subst Q (sym cut.1) y'))

letter_head : (sign : Bool) (rest : List ℕ) → IsNumber sign (102 ∷ rest) → ⊥
letter_head false rest digits = let d = All-head IsAsciiDigit 102 rest digits.1 in omega arith
letter_head true rest (digits, e, h) = let same = heads 102 45 rest digits e in omega arith

path_or_numbers : (front back rest : List ℕ) (a : Bool) → front ++ 44 ∷ back ≡ 102 ∷ rest → IsNumber a front → ⊥
path_or_numbers [] back rest a e h = let same = heads 44 102 back rest e in omega arith
path_or_numbers (x ∷ front) back rest a e h =
    let P : ℕ → Type 0 = λ y. IsNumber a (y ∷ front) in letter_head a front (subst P (heads x 102 (front ++ 44 ∷ back) rest e) h)

pub path_no_numbers : (value path : List ℕ) (a b : Bool) → Begins (codes "fifo:") value path → AreNumbers a b value → ⊥
path_no_numbers value path a b begins (front, back, e, h, k) = path_or_numbers front back _ a (sym e ∙ begins) h

value_once : (value : List ℕ) (a b : Authority) → SaysValue value a → SaysValue value b → a ≡ b
value_once value absent b h k = absurd h
value_once value disabled absent h k = absurd k
value_once value disabled disabled h k = refl
value_once value disabled (fifo path) (first, second, numbers, negative) k = absurd (path_no_numbers value path first second k.0 numbers)
value_once value disabled descriptors (first, second, numbers, negative) k =
    let signs = numbers_once first second false false value numbers k in
    let a : first ≡ false = signs.0 in
    let b : second ≡ false = signs.1 in
    let no : false ≡ true = rw (a, b) at negative in cc
value_once value disabled unreadable (first, second, numbers, negative) k = absurd (k.1 first second numbers)
value_once value (fifo path) absent h k = absurd k
value_once value (fifo path) disabled h (first, second, numbers, negative) = absurd (path_no_numbers value path first second h.0 numbers)
value_once value (fifo path) (fifo other) h k = ap fifo (append_cancel_left (codes "fifo:") path other (sym h.0 ∙ k.0))
value_once value (fifo path) descriptors h k = absurd (path_no_numbers value path false false h.0 k)
value_once value (fifo path) unreadable h k = absurd (k.0 path h)
value_once value descriptors absent h k = absurd k
value_once value descriptors disabled h (first, second, numbers, negative) =
    let signs = numbers_once first second false false value numbers h in
    let a : first ≡ false = signs.0 in
    let b : second ≡ false = signs.1 in
    let no : false ≡ true = rw (a, b) at negative in cc
value_once value descriptors (fifo path) h k = absurd (path_no_numbers value path false false k.0 h)
value_once value descriptors descriptors h k = refl
value_once value descriptors unreadable h k = absurd (k.1 false false h)
value_once value unreadable absent h k = absurd k
value_once value unreadable disabled h (first, second, numbers, negative) = absurd (h.1 first second numbers)
value_once value unreadable (fifo path) h k = absurd (h.0 path k)
value_once value unreadable descriptors h k = absurd (h.1 false false k)
value_once value unreadable unreadable h k = refl

-- the words name a jobserver, and say this of it
abbrev NamedSay : (words : List (List ℕ)) → Authority → Type 0
NamedSay words a = (value : List ℕ) × IsLastNamed words value × SaysValue value a

named_says_at : (words : List (List ℕ)) (a b : Authority) → NamedSay words a → NamedSay words b → a ≡ b
named_says_at words a b (value, last, h) (second, last', k) =
    let P : List ℕ → Type 0 = λ v. SaysValue v b in value_once value a b h (subst P (last_once words second value last' last) k)

named_says : (words : List (List ℕ)) (a b : Authority) → NamedSay words a → SayOf words b → a ≡ b
named_says words a absent (value, last, h) k = absurd (none_or_last words value k last)
named_says words a disabled h k = named_says_at words a disabled h k
named_says words a (fifo path) h k = named_says_at words a (fifo path) h k
named_says words a descriptors h k = named_says_at words a descriptors h k
named_says words a unreadable h k = named_says_at words a unreadable h k

says_once : (words : List (List ℕ)) (a b : Authority) → SayOf words a → SayOf words b → a ≡ b
says_once words absent absent h k = refl
says_once words absent disabled h (value, last, k) = absurd (none_or_last words value h last)
says_once words absent (fifo path) h (value, last, k) = absurd (none_or_last words value h last)
says_once words absent descriptors h (value, last, k) = absurd (none_or_last words value h last)
says_once words absent unreadable h (value, last, k) = absurd (none_or_last words value h last)
says_once words disabled b h k = named_says words disabled b h k
says_once words (fifo path) b h k = named_says words (fifo path) b h k
says_once words descriptors b h k = named_says words descriptors b h k
says_once words unreadable b h k = named_says words unreadable b h k

-- some words have been read: with those of the rest they are all words, and the last of them that names a jobserver
-- is known
abbrev pub HasRead : (makeflags : List ℕ) (rest last : Option (Bor (List ℕ))) → Type 0
HasRead makeflags rest last =
    (passed : List (List ℕ))
    × MatchOption rest (AreWords makeflags passed) (λ text. (words : List (List ℕ)) → AreWords text.now words → AreWords makeflags (passed ++ words))
    × MatchOption last (NamesNone passed) (λ value. IsLastNamed passed value.now)

pub Says-once : (makeflags : List ℕ) (a b : Authority) → Says makeflags a → Says makeflags b → a ≡ b
Says-once makeflags a b (words, cut, h) (others, cut', k) =
    let P : List (List ℕ) → Type 0 = λ ws. SayOf ws b in says_once words a b h (subst P (words_once makeflags others words cut' cut) k)

read_more : (makeflags text word rest : List ℕ) (passed : List (List ℕ)) → All (λ b. b ≢ 32) word → text ≡ word ++ 32 ∷ rest
    → ((words : List (List ℕ)) → AreWords text words → AreWords makeflags (passed ++ words))
    → (words : List (List ℕ)) → AreWords rest words → AreWords makeflags (passed ++ word ∷ words)
read_more makeflags text word rest passed free e goes_on [] cut = absurd cut
read_more makeflags text word rest passed free e goes_on (next ∷ words) cut = goes_on (word ∷ next ∷ words) (free, (rest, e, cut))

-- one more word is read
pub ReadWords : (makeflags text word : List ℕ) (rest : Option (Bor (List ℕ))) (passed : List (List ℕ))
    → All (λ b. b ≢ 32) word → MatchOption rest (text ≡ word) (λ r. text ≡ word ++ 32 ∷ r.now)
    → ((words : List (List ℕ)) → AreWords text words → AreWords makeflags (passed ++ words))
    → MatchOption rest (AreWords makeflags (passed ++ word ∷ [])) (λ r. (words : List (List ℕ)) → AreWords r.now words → AreWords makeflags ((passed ++ word ∷ []) ++ words))
ReadWords makeflags text word None passed free e goes_on = goes_on (word ∷ []) (free, e)
ReadWords makeflags text word (Some r) passed free e goes_on =
    λ words cut. rw append_assoc (read_more makeflags text word r.now passed free e goes_on words cut)

-- what is known of the last one that names a jobserver
pub LastWith : (passed : List (List ℕ)) (word value : List ℕ) → Begins (codes "--jobserver-auth=") word value → IsLastNamed (passed ++ word ∷ []) value
LastWith passed word value begins = (passed, word, [], refl, begins, All-nil (λ w. (v : List ℕ) → Begins (codes "--jobserver-auth=") w v → ⊥))

pub LastWithout : (passed : List (List ℕ)) (word : List ℕ) (last : Option (Bor (List ℕ))) → ((value : List ℕ) → Begins (codes "--jobserver-auth=") word value → ⊥)
    → MatchOption last (NamesNone passed) (λ value. IsLastNamed passed value.now)
    → MatchOption last (NamesNone (passed ++ word ∷ [])) (λ value. IsLastNamed (passed ++ word ∷ []) value.now)
LastWithout passed word None none last = All-push (λ w. (v : List ℕ) → Begins (codes "--jobserver-auth=") w v → ⊥) passed word last none
LastWithout passed word (Some value) none (before, named, behind, e, begins, free) = (
  before,
  named,
  behind ++ word ∷ [],
  ap (λ (ws : List (List ℕ)). ws ++ word ∷ []) e ∙ append_assoc before (named ∷ behind) (word ∷ []),
  begins,
  All-push (λ w. (v : List ℕ) → Begins (codes "--jobserver-auth=") w v → ⊥) behind word free none,
)

abbrev pub GoesOn : (makeflags : List ℕ) (passed : List (List ℕ)) (rest : Option (Bor (List ℕ))) → Type 0
GoesOn makeflags passed rest =
    MatchOption rest (AreWords makeflags passed) (λ text. (words : List (List ℕ)) → AreWords text.now words → AreWords makeflags (passed ++ words))

-- the next word names a jobserver, or doesn't
pub HasRead-with : (makeflags : List ℕ) (rest last behind : Option (Bor (List ℕ))) (text value : Bor (List ℕ)) (word : List ℕ)
    → rest ≡ Some text → HasRead makeflags rest last → All (λ b. b ≢ 32) word
    → MatchOption behind (text.now ≡ word) (λ r. text.now ≡ word ++ 32 ∷ r.now) → Begins (codes "--jobserver-auth=") word value.now
    → HasRead makeflags behind (Some value)
HasRead-with makeflags rest last behind text value word is (passed, all, known) free e begins =
    let P : Option (Bor (List ℕ)) → Type 0 = GoesOn makeflags passed in
    (passed ++ word ∷ [], ReadWords makeflags text.now word behind passed free e (subst P is all), LastWith passed word value.now begins)

pub HasRead-without : (makeflags : List ℕ) (rest last behind : Option (Bor (List ℕ))) (text : Bor (List ℕ)) (word : List ℕ)
    → rest ≡ Some text → HasRead makeflags rest last → All (λ b. b ≢ 32) word
    → MatchOption behind (text.now ≡ word) (λ r. text.now ≡ word ++ 32 ∷ r.now) → ((value : List ℕ) → Begins (codes "--jobserver-auth=") word value → ⊥)
    → HasRead makeflags behind last
HasRead-without makeflags rest last behind text word is (passed, all, known) free e none =
    let P : Option (Bor (List ℕ)) → Type 0 = GoesOn makeflags passed in
    (passed ++ word ∷ [], ReadWords makeflags text.now word behind passed free e (subst P is all), LastWithout passed word last none known)

-- what the text before the first comma says of two numbers
pub front_number : (value front back : List ℕ) (first second : Bool) → All (λ x. x ≢ 44) front → value ≡ front ++ 44 ∷ back → AreNumbers first second value
    → IsNumber first front × IsNumber second back
front_number value front back first second free e (front', back', e', h, k) =
    let cut = cut_once 44 front front' back back' free (number_free first front' h) (sym e ∙ e') in
    let P : List ℕ → Type 0 = IsNumber first in
    let Q : List ℕ → Type 0 = IsNumber second in
    (subst P (sym cut.0) h, subst Q (sym cut.1) k)

pub no_comma : (value front : List ℕ) (first second : Bool) → All (λ x. x ≢ 44) front → value ≡ front → AreNumbers first second value → ⊥
no_comma value front first second free e (front', back', e', h, k) = cut_none 44 front' front back' free (sym e' ∙ e)

pub no_front : (value front : List ℕ) (back : Option (Bor (List ℕ))) (first second : Bool) → All (λ x. x ≢ 44) front
    → MatchOption back (value ≡ front) (λ r. value ≡ front ++ 44 ∷ r.now) → ((sign : Bool) → IsNumber sign front → ⊥) → AreNumbers first second value → ⊥
no_front value front None first second free e none numbers = no_comma value front first second free e numbers
no_front value front (Some r) first second free e none numbers = none first (front_number value front r.now first second free e numbers).0

pub no_back : (value front : List ℕ) (back : Option (Bor (List ℕ))) (first second : Bool) → All (λ x. x ≢ 44) front → back ≡ None
    → MatchOption back (value ≡ front) (λ r. value ≡ front ++ 44 ∷ r.now) → AreNumbers first second value → ⊥
no_back value front back first second free is e numbers =
    let P : Option (Bor (List ℕ)) → Type 0 = λ b. MatchOption b (value ≡ front) (λ r. value ≡ front ++ 44 ∷ r.now) in
    no_comma value front first second free (subst P is e) numbers

pub no_second : (value front : List ℕ) (back : Option (Bor (List ℕ))) (text : Bor (List ℕ)) (first second : Bool) → All (λ x. x ≢ 44) front → back ≡ Some text
    → MatchOption back (value ≡ front) (λ r. value ≡ front ++ 44 ∷ r.now) → ((sign : Bool) → IsNumber sign text.now → ⊥) → AreNumbers first second value → ⊥
no_second value front back text first second free is e none numbers =
    let P : Option (Bor (List ℕ)) → Type 0 = λ b. MatchOption b (value ≡ front) (λ r. value ≡ front ++ 44 ∷ r.now) in
    none second (front_number value front text.now first second free (subst P is e) numbers).1

-- what the last value says is what the text says
pub Says-value : (makeflags value : List ℕ) → (words : List (List ℕ)) × AreWords makeflags words × IsLastNamed words value
    → (a : Authority) → SaysValue value a → Says makeflags a
Says-value makeflags value (words, cut, last) absent says = absurd says
Says-value makeflags value (words, cut, last) disabled says = (words, cut, (value, last, says))
Says-value makeflags value (words, cut, last) (fifo path) says = (words, cut, (value, last, says))
Says-value makeflags value (words, cut, last) descriptors says = (words, cut, (value, last, says))
Says-value makeflags value (words, cut, last) unreadable says = (words, cut, (value, last, says))

-- a text has one first word
pub first_once : (text first word : List ℕ) (rest : Option (Bor (List ℕ))) → All (λ b. b ≢ 32) first
    → MatchOption rest (text ≡ first) (λ r. text ≡ first ++ 32 ∷ r.now) → IsFirstWord text word → word ≡ first
first_once text first word None free e (free', inl e') = sym e' ∙ e
first_once text first word None free e (free', inr (rest, e')) = absurd (cut_none 32 word first rest free (sym e' ∙ e))
first_once text first word (Some r) free e (free', inl e') = absurd (cut_none 32 first word r.now free' (sym e ∙ e'))
first_once text first word (Some r) free e (free', inr (rest, e')) = (cut_once 32 word first rest r.now free' free (sym e' ∙ e)).0

pub is_first : (text first : List ℕ) (rest : Option (Bor (List ℕ))) → All (λ b. b ≢ 32) first
    → MatchOption rest (text ≡ first) (λ r. text ≡ first ++ 32 ∷ r.now) → IsFirstWord text first
is_first text first None free e = (free, inl e)
is_first text first (Some r) free e = (free, inr (r.now, e))

-- what is asked is told by the first word alone
pub asks_by_first : (text first : List ℕ) (rest : Option (Bor (List ℕ))) → All (λ b. b ≢ 32) first
    → MatchOption rest (text ≡ first) (λ r. text ≡ first ++ 32 ∷ r.now) → AsksForDryRun text → AreFlags first × Contains first 110
asks_by_first text first rest free e (word, is, flags, flag) =
    let same = first_once text first word rest free e is in
    let P : List ℕ → Type 0 = λ w. AreFlags w × Contains w 110 in subst P same (flags, flag)

-- what the first word and the rest say of the wide language
abbrev Cut : (text first : List ℕ) (rest : Option (Bor (List ℕ))) → Type 0
Cut text first rest = All (λ b. b ≢ 32) first × MatchOption rest (text ≡ first) (λ r. text ≡ first ++ 32 ∷ r.now)

abbrev pub AsksBehind : Option (Bor (List ℕ)) → Type 0
AsksBehind None = ⊥
AsksBehind (Some r) = AsksForPosix r.now

pub asks_here : (text first : List ℕ) (rest : Option (Bor (List ℕ))) → Cut text first rest → first ≡ codes "--posix" → AsksForPosix text
asks_here text first rest cut is = by_first (subst (IsFirstWord text) is (is_first text first rest cut.0 cut.1))

pub asks_later : (text first : List ℕ) (rest : Option (Bor (List ℕ))) → Cut text first rest → first ≢ codes "--" → AsksBehind rest → AsksForPosix text
asks_later text first None cut other asks = absurd asks
asks_later text first (Some r) cut other asks = by_rest first r.now cut.0 cut.1 other asks

pub asks_behind : (text first : List ℕ) (rest : Option (Bor (List ℕ))) → Cut text first rest → first ≢ codes "--posix" → AsksForPosix text →
    (first ≢ codes "--") × AsksBehind rest
asks_behind text first rest cut other (by_first is) = absurd (other (sym (first_once text first (codes "--posix") rest cut.0 cut.1 is)))
asks_behind text first None cut other (by_rest word behind free e none asks) = absurd (cut_none 32 word first behind cut.0 (sym e ∙ cut.1))
asks_behind text first (Some r) cut other (by_rest word behind free e none asks) =
    let same = cut_once 32 word first behind r.now free cut.0 (sym e ∙ cut.1) in
    (subst (λ (w : List ℕ). w ≢ codes "--") same.0 none, subst AsksForPosix same.1 asks)
