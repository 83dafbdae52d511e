-- The names of functions.
use Rattle.std.proofs.Common.{◌≡◌, ℕ, ◌&&◌, Bool, true, false, cond, List, [], ◌∷◌, Option, Some, refl, sym, ap, ◌∙◌, bytes_eq}
use Rattle.std.specs.List.{list_all}
use Rattle.std.specs.Map.{lookup}
use Rattle.std.proofs.lemmas.Slice.Eq.{bytes_eq-Decides}
use Rattle.mk_pieces.specs.declared.function.Function.{Function}
use Rattle.mk_pieces.specs.declared.function.TheConstants.{FUNCTIONS}
use Rattle.mk_pieces.specs.declared.function.Function.TheVariants.{OfWords, OfVariable, Asks, Says, Error, OfTwo, OfThree, If, Or, And, Foreach, Call, Refused}
use Rattle.mk_pieces.specs.declared.function.OfWords.TheVariants.{Strip, Sort, Words, FirstWord, LastWord, Dir, NotDir, Suffix, BaseName}
use Rattle.mk_pieces.specs.declared.function.OfVariable.TheVariants.{Origin, Flavor, Value}
use Rattle.mk_pieces.specs.declared.function.Question.TheVariants.{Shell, Wildcard, RealPath, AbsPath}
use Rattle.mk_pieces.specs.declared.function.Message.TheVariants.{Warning, Info}
use Rattle.mk_pieces.specs.declared.function.OfTwo.TheVariants.{FindString, Filter, FilterOut, Word, AddSuffix, AddPrefix, Join}
use Rattle.mk_pieces.specs.declared.function.OfThree.TheVariants.{Subst, PatSubst, WordList}
use Rattle.mk_pieces.specs.declared.function.Refused.TheVariants.{Eval, File, Let, IntCmp, Guile}
use Rattle.mk_pieces.specs.Function.{name_of, function_named}

-- each name in a table is that of its function
abbrev are_named : {K : Type 0} → List (K × Function) → (text : K → List ℕ) → Bool
are_named table text = list_all (λ entry. bytes_eq (text entry.0) (name_of entry.1)) table

both : (a b : Bool) → (a && b) ≡ true → (a ≡ true) × (b ≡ true)
both true b e = (refl, e)
both false b e = absurd (cc e)

some_same : {X : Type 0} {x y : X} → Some x ≡ Some y → x ≡ y
some_same {X} {x} {y} e = cc

by_test : (name key : List ℕ) (g : Function) (rest : Option Function) (f : Function) → key ≡ name_of g → (rest ≡ Some f → name ≡ name_of f) →
    (t : Bool) → bytes_eq key name ≡ t → cond t (Some g) rest ≡ Some f → name ≡ name_of f
by_test name key g rest f named later true is e = sym ((bytes_eq-Decides key name).0 is) ∙ named ∙ ap name_of (some_same e)
by_test name key g rest f named later false is e = later e

found : {K : Type 0} (table : List (K × Function)) (text : K → List ℕ) → are_named table text ≡ true → (name : List ℕ) (f : Function) →
    lookup (λ key. bytes_eq (text key) name) table ≡ Some f → name ≡ name_of f
found [] text h name f e = absurd (cc e)
found (entry ∷ more) text h name f e =
    let split = both (bytes_eq (text entry.0) (name_of entry.1)) (are_named more text) h in
    by_test name (text entry.0) entry.1 (lookup (λ key. bytes_eq (text key) name) more) f ((bytes_eq-Decides (text entry.0) (name_of entry.1)).0 split.0)
    (found more text split.1 name f) (bytes_eq (text entry.0) name) refl e

all_named : are_named FUNCTIONS (λ key. key.now) ≡ true
all_named = refl

pub alone : (name : List ℕ) (f : Function) → function_named name ≡ Some f → name ≡ name_of f
unfolding function_named
alone name f e = found FUNCTIONS (λ key. key.now) all_named name f e

pub known : (f : Function) → function_named (name_of f) ≡ Some f
unfolding function_named
known (OfThree Subst) = refl
known (OfThree PatSubst) = refl
known (OfThree WordList) = refl
known (OfWords Strip) = refl
known (OfWords Sort) = refl
known (OfWords Words) = refl
known (OfWords FirstWord) = refl
known (OfWords LastWord) = refl
known (OfWords Dir) = refl
known (OfWords NotDir) = refl
known (OfWords Suffix) = refl
known (OfWords BaseName) = refl
known (OfVariable Origin) = refl
known (OfVariable Flavor) = refl
known (OfVariable Value) = refl
known (Asks Shell) = refl
known (Asks Wildcard) = refl
known (Asks RealPath) = refl
known (Asks AbsPath) = refl
known (Says Warning) = refl
known (Says Info) = refl
known Error = refl
known (OfTwo FindString) = refl
known (OfTwo Filter) = refl
known (OfTwo FilterOut) = refl
known (OfTwo Word) = refl
known (OfTwo AddSuffix) = refl
known (OfTwo AddPrefix) = refl
known (OfTwo Join) = refl
known If = refl
known Or = refl
known And = refl
known Foreach = refl
known Call = refl
known (Refused Eval) = refl
known (Refused File) = refl
known (Refused Let) = refl
known (Refused IntCmp) = refl
known (Refused Guile) = refl
