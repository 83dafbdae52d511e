-- What was synced and not written since stands behind a power cut as it was.
use Rattle.std.proofs.Common.{◌≡◌, ℕ, Bool, true, false, cond, List, [], ◌∷◌, ◌++◌, Option, refl, sym, ap, subst, ◌∙◌}
use Rattle.std.specs.List.{AllByRecursion}
use Rattle.std.specs.Str.{bytes_eq}
use Rattle.jb_recipe.specs.FilesSurvive.{Step, writes, syncs, done, Either, holds, MayStand, IsSynced, IsUnwritten, FilesSurvive}

-- two cases at once: what is given and what is wanted
if_false : (t : Bool) (A B : Type 0) → t ≡ false → Either t A B → B
if_false t A B h given = subst (λ b. Either b A B) h given

by_case : (t : Bool) (A B C D Goal : Type 0) → (A → C → Goal) → (B → D → Goal) → Either t A B → Either t C D → Goal
by_case true A B C D Goal f g one two = f one two
by_case false A B C D Goal f g one two = g one two

one_case : (t : Bool) (A B Goal : Type 0) → (A → Goal) → (B → Goal) → Either t A B → Goal
one_case true A B Goal f g given = f given
one_case false A B Goal f g given = g given

other : (t : Bool) (content rest : Option (List ℕ)) → t ≡ false → rest ≡ cond t content rest
other t content rest h = sym (ap (λ b. cond b content rest) h)

synced_stands : (first : List ℕ → Option (List ℕ)) (steps : List Step) (name : List ℕ) (left : Option (List ℕ)) →
    IsSynced steps name → MayStand first steps name left → left ≡ holds first steps name
synced_stands first [] name left synced may = absurd synced
synced_stands first (writes n content ∷ before) name left synced may =
    synced_stands first before name left synced.1 (if_false (bytes_eq n name) (Unit {0}) (MayStand first before name left) synced.0 may)
    ∙ other (bytes_eq n name) content (holds first before name) synced.0
synced_stands first (syncs n ∷ before) name left synced may =
    by_case (bytes_eq n name) (Unit {0}) (IsSynced before name) (left ≡ holds first before name) (MayStand first before name left) (left ≡ holds first before name)
    (λ _ is. is) (synced_stands first before name left) synced may
synced_stands first (done made ∷ before) name left synced may = synced_stands first before name left synced may

unwritten_holds : (first : List ℕ → Option (List ℕ)) (later before : List Step) (name : List ℕ) → IsUnwritten later name →
    holds first (later ++ before) name ≡ holds first before name
unwritten_holds first [] before name h = refl
unwritten_holds first (writes n content ∷ later) before name h =
    ap (λ b. cond b content (holds first (later ++ before) name)) h.0 ∙ unwritten_holds first later before name h.1
unwritten_holds first (syncs n ∷ later) before name h = unwritten_holds first later before name h
unwritten_holds first (done made ∷ later) before name h = unwritten_holds first later before name h

stands_since : (first : List ℕ → Option (List ℕ)) (later before : List Step) (name : List ℕ) (left : Option (List ℕ)) →
    IsUnwritten later name → IsSynced before name → MayStand first (later ++ before) name left → left ≡ holds first before name
stands_since first [] before name left h synced may = synced_stands first before name left synced may
stands_since first (writes n content ∷ later) before name left h synced may =
    stands_since first later before name left h.1 synced (if_false (bytes_eq n name) (Unit {0}) (MayStand first (later ++ before) name left) h.0 may)
stands_since first (syncs n ∷ later) before name left h synced may =
    one_case (bytes_eq n name) (left ≡ holds first (later ++ before) name) (MayStand first (later ++ before) name left) (left ≡ holds first before name)
    (λ is. is ∙ unwritten_holds first later before name h) (stands_since first later before name left h synced) may
stands_since first (done made ∷ later) before name left h synced may = stands_since first later before name left h synced may

each : (P Q : List ℕ → Type 0) → ((name : List ℕ) → P name → Q name) → (names : List (List ℕ)) → AllByRecursion P names → AllByRecursion Q names
each P Q f [] all = tt
each P Q f (name ∷ names) all = (f name all.0, each P Q f names all.1)

pub survive : FilesSurvive
survive first later before made synced =
    each (IsSynced before) _ (λ name is left h may. stands_since first later (done made ∷ before) name left h is may) made synced
