-- Where paths lead part by part, and rule lines with names in the place of wildcards.
use Rattle.std.proofs.Common.{◌≡◌, ℕ, Bool, true, false, ◌||◌, cond, List, [], ◌∷◌, ◌++◌, map, flat_map, refl, sym, ap, ◌∙◌, append_assoc}
use Rattle.std.specs.List.{list_any, slice_split, onto_first}
use Rattle.mk_macros.specs.Expansion.{gives}
use Rattle.mk_macros.specs.Ranks.{Defined}
use Rattle.mk_wildcards.specs.Pattern.{has_wildcard}
use Rattle.mk_wildcards.specs.Found.{Folders, is_slash, parts, joined, steps, is_end, found, in_order, or_itself, names_of, line_of}
use Rattle.mk_eval.specs.Output.{World}
use Rattle.mk_eval.specs.Listed.{found_in, listed, listed_text, stepped}
use Rattle.mk_eval.specs.Short.{has_other_names, renamed}
use Rattle.mk_eval.specs.Static.{doubled}
use Rattle.mk_eval.proofs.MakefileLemmas.{names_stand}
use Rattle.mk_lines.specs.Text.{is_dollar}
use Rattle.mk_eval.specs.Makefile.{IsListedText}

-- Lists of lists

module _ {A B : Type 0} (f : A → List B) where
  pub flat-append : (xs ys : List A) → flat_map f (xs ++ ys) ≡ flat_map f xs ++ flat_map f ys
  flat-append [] ys = refl
  flat-append (x ∷ xs) ys = ap (λ zs. f x ++ zs) (flat-append xs ys) ∙ sym (append_assoc (f x) (flat_map f xs) (flat_map f ys))

  flat-map : {C : Type 0} (g : C → A) (xs : List C) → flat_map f (map g xs) ≡ flat_map (λ x. f (g x)) xs
  flat-map g [] = refl
  flat-map g (x ∷ xs) = ap (λ zs. f (g x) ++ zs) (flat-map g xs)

-- Paths

split_some : (bs : List ℕ) → is_end (parts bs) ≡ false
split_some [] = refl
split_some (b ∷ bs) = at (is_slash b) (slice_split is_slash bs) (split_some bs)
  where
    at : (t : Bool) (ys : List (List ℕ)) → is_end ys ≡ false → is_end (cond t ([] ∷ ys) (onto_first b ys)) ≡ false
    at true ys h = refl
    at false [] h = absurd (cc h)
    at false (y ∷ ys) h = refl

pub step_led : (folders : Folders) (is_last : Bool) (part : List ℕ) (more : List (List ℕ)) (ways : List (List ℕ)) → is_end more ≡ is_last →
    flat_map (λ way. found folders way (part ∷ more)) ways ≡ flat_map (λ way. found folders way more) (stepped folders is_last part ways)
step_led folders is_last part more [] e = refl
step_led folders is_last part more (way ∷ ways) e =
    let further : List ℕ → List (List ℕ) = λ w. found folders w more in
    let here : found folders way (part ∷ more) ≡ flat_map further (map (joined is_last way) (steps (folders way) is_last part)) =
    ap (λ last. flat_map (λ step. further (joined last way step)) (steps (folders way) last part)) e
    ∙ sym (flat-map further (joined is_last way) (steps (folders way) is_last part)) in
    ap (λ xs. xs ++ flat_map (λ w. found folders w (part ∷ more)) ways) here
    ∙ ap (λ xs. flat_map further (map (joined is_last way) (steps (folders way) is_last part)) ++ xs) (step_led folders is_last part more ways e)
    ∙ sym (flat-append further (map (joined is_last way) (steps (folders way) is_last part)) (stepped folders is_last part ways))

-- one part more, with others behind it
pub step_further : (folders : Folders) (path part rest : List ℕ) (ways : List (List ℕ)) → parts path ≡ part ∷ parts rest →
    flat_map (λ way. found folders way (parts rest)) (stepped folders false part ways) ≡ flat_map (λ way. found folders way (parts path)) ways
step_further folders path part rest ways e =
    sym (step_led folders false part (parts rest) ways (split_some rest)) ∙ ap (λ ps. flat_map (λ way. found folders way ps) ways) (sym e)

-- Lines

abbrev pub spaced : List ℕ → List ℕ
spaced name = 32 ∷ name

pub names_found : (folders : Folders) (word : List ℕ) (names : List (List ℕ)) → has_wildcard word ≡ true → names ≡ in_order (found folders [] (parts word)) → names_of folders word ≡ or_itself word names
names_found folders word names some e =
    ap (λ t. cond t (or_itself word (in_order (found folders [] (parts word)))) (word ∷ [])) some ∙ ap (or_itself word) (sym e)

-- Texts and rules

abbrev is_respelled : (text : List ℕ) → Bool
is_respelled text = has_other_names text || has_wildcard text

pub text_plain : (folders : Folders) (text bytes : List ℕ) → is_respelled bytes ≡ false → text ≡ listed_text folders text (gives bytes)
text_plain folders text bytes none = sym (ap (λ t. cond t (doubled (listed folders bytes)) text) none)

pub text_stands : (world : World) (text : List ℕ) (given : Defined) → list_any is_dollar text ≡ false → is_respelled text ≡ false → IsListedText world text given text
text_stands world text given none plain = (gives text, names_stand given text text none refl, text_plain world.folders text text plain)

pub listed_some : (folders : Folders) (text short line : List ℕ) → short ≡ renamed text → has_wildcard short ≡ true → line ≡ line_of folders short → line ≡ listed folders text
listed_some folders text short line is some e = e ∙ sym (ap (λ t. cond t (line_of folders short) short) some) ∙ ap (found_in folders) is
