-- What a mark is of.
use Rattle.std.proofs.Common.{◌≡◌, ◌⊎◌, inl, inr, ◌∙◌, ℕ, ℤ, ◌<ℤ◌, ◌≤◌, Bool, true, false, List, refl, sym, subst, ap}
use Rattle.std.specs.Prelude.{FitsSigned}
use Rattle.std.specs.Int.{w64, int_wrap}
use Rattle.std.specs.Ordering.{int_eq}
use Rattle.std.specs.Cmp.{signed_Decides}
use Rattle.std.proofs.lemmas.Int.{SFits-int_wrap, int_wrap_fits}
use Rattle.st_marks.specs.Encoding.{stamp_of}
use Rattle.st_marks.specs.declared.mark.Stamp.{Stamp}
use Rattle.st_marks.specs.declared.mark.Mark.{Mark}
use Rattle.st_marks.specs.declared.mark.Mark.TheVariants as mark
use Rattle.mk_marks.specs.Marks.{mark_from}
use Rattle.mk_verdict.specs.declared.mark.Look.TheVariants as look
use Rattle.mk_verdict.specs.declared.mark.Mark.TheVariants.{Was}
use Rattle.jb_marks.specs.declared.sights.Sight.{Sight}
use Rattle.jb_marks.specs.declared.sights.Sight.TheVariants.{NoFile, Other, File}
use Rattle.jb_marks.specs.Single.{IsStamped, IsMarkOf, IsOwnMarkOf, IsSettled, IsSettledBehind, IsMarkAtBegin, IsMarkBehind}
use Rattle.jb_marks.specs.Laws.{IsSureMark, IsHistory, AreSettled, IsLookBefore, look_of}

-- ---- whether a stamp has a place for a time

fits_by : (time : ℤ) (b : Bool) → int_eq (int_wrap w64 time) time ≡ b → FitsSigned w64 time ⊎ (FitsSigned w64 time → ⊥)
fits_by time true e = inl (subst (FitsSigned w64) ((signed_Decides (int_wrap w64 time) time).0 e) (SFits-int_wrap w64 time))
fits_by time false e =
    inr (λ fits. let yes : int_eq (int_wrap w64 time) time ≡ true = (signed_Decides (int_wrap w64 time) time).1 (int_wrap_fits w64 time fits) in
    let wrong : false ≡ true = sym e ∙ yes in absurd cc)

fits_or : (time : ℤ) → FitsSigned w64 time ⊎ (FitsSigned w64 time → ⊥)
fits_or time = fits_by time (int_eq (int_wrap w64 time) time) refl

-- ---- marks of files

stamp_is : (s t : Stamp) → mark.File s ≡ mark.File t → s ≡ t
stamp_is s t e = cc

file_stamp_by : (time : ℤ) (size : ℕ) (stamp : Stamp) → IsStamped mark.File time size (mark.File stamp) → FitsSigned w64 time ⊎ (FitsSigned w64 time → ⊥)
    → stamp ≡ stamp_of time size
file_stamp_by time size stamp is (inl fits) = stamp_is stamp (stamp_of time size) (is.0 fits)
file_stamp_by time size stamp is (inr far) = let wrong : mark.File stamp ≡ mark.Unknown = is.1 far in absurd cc

file_stamp : (time : ℤ) (size : ℕ) (stamp : Stamp) → IsStamped mark.File time size (mark.File stamp) → stamp ≡ stamp_of time size
file_stamp time size stamp is = file_stamp_by time size stamp is (fits_or time)

no_own_by : (time : ℤ) (size : ℕ) (stamp : Stamp) → IsStamped mark.Own time size (mark.File stamp) → FitsSigned w64 time ⊎ (FitsSigned w64 time → ⊥) → ⊥
no_own_by time size stamp is (inl fits) = let wrong : mark.File stamp ≡ mark.Own (stamp_of time size) = is.0 fits in absurd cc
no_own_by time size stamp is (inr far) = let wrong : mark.File stamp ≡ mark.Unknown = is.1 far in absurd cc

own_is_no_file : (sight : Sight) (stamp : Stamp) → IsOwnMarkOf sight (mark.File stamp) → ⊥
own_is_no_file NoFile stamp is = let wrong : mark.File stamp ≡ mark.NoFile = is in absurd cc
own_is_no_file Other stamp is = let wrong : mark.File stamp ≡ mark.Other = is in absurd cc
own_is_no_file (File time size changed) stamp is = no_own_by time size stamp is (fits_or time)

-- ---- sure marks

by_begin : (told : List ℕ → Sight → Type 0) (said : List ℕ → Bool → Type 0) (tick : ℤ) (name : List ℕ) (stamp : Stamp) (sight : Sight) → told name sight
    → IsSettled tick sight ⊎ said name true → IsMarkOf sight (mark.File stamp) → IsSureMark told said tick name (mark.File stamp)
by_begin told said tick name stamp NoFile seen sure is = let wrong : mark.File stamp ≡ mark.NoFile = is in absurd cc
by_begin told said tick name stamp Other seen sure is = let wrong : mark.File stamp ≡ mark.Other = is in absurd cc
by_begin told said tick name stamp (File time size changed) seen sure is = (time, size, changed, seen, file_stamp time size stamp is, sure)

by_look_behind : (told : List ℕ → Sight → Type 0) (said : List ℕ → Bool → Type 0) (tick : ℤ) (name : List ℕ) (stamp : Stamp) (sight : Sight) → told name sight
    → IsSettledBehind tick sight ⊎ said name true → IsMarkOf sight (mark.File stamp) → IsSureMark told said tick name (mark.File stamp)
by_look_behind told said tick name stamp NoFile seen sure is = let wrong : mark.File stamp ≡ mark.NoFile = is in absurd cc
by_look_behind told said tick name stamp Other seen sure is = let wrong : mark.File stamp ≡ mark.Other = is in absurd cc
by_look_behind told said tick name stamp (File time size changed) seen sure is = (time, size, changed, seen, file_stamp time size stamp is, sure)

begin_file : (told : List ℕ → Sight → Type 0) (said : List ℕ → Bool → Type 0) (tick : ℤ) (name : List ℕ) (stamp : Stamp)
    → IsMarkAtBegin (told name) (said name) tick (mark.File stamp) → IsSureMark told said tick name (mark.File stamp)
begin_file told said tick name stamp (sight, seen, inl (sure, is)) = by_begin told said tick name stamp sight seen sure is
begin_file told said tick name stamp (sight, seen, inr (unsure, is)) = let wrong : mark.File stamp ≡ mark.Unknown = is in absurd cc

pub begin_sure : (told : List ℕ → Sight → Type 0) (said : List ℕ → Bool → Type 0) (tick : ℤ) (name : List ℕ) (m : Mark)
    → IsMarkAtBegin (told name) (said name) tick m → IsSureMark told said tick name m
begin_sure told said tick name mark.Unknown is = tt
begin_sure told said tick name mark.NoFile is = tt
begin_sure told said tick name mark.Other is = tt
begin_sure told said tick name (mark.File stamp) is = begin_file told said tick name stamp is
begin_sure told said tick name (mark.Own stamp) is = tt

behind_file : (told : List ℕ → Sight → Type 0) (said : List ℕ → Bool → Type 0) (tick : ℤ) (name : List ℕ) (open' : Bool) (stamp : Stamp)
    → IsMarkBehind (told name) (said name) tick open' (mark.File stamp) → IsSureMark told said tick name (mark.File stamp)
behind_file told said tick name open' stamp (sight, seen, inl (sure, is)) = by_look_behind told said tick name stamp sight seen sure is
behind_file told said tick name true stamp (sight, seen, inr (unsure, is)) = absurd (own_is_no_file sight stamp is)
behind_file told said tick name false stamp (sight, seen, inr (unsure, is)) = let wrong : mark.File stamp ≡ mark.Unknown = is in absurd cc

pub behind_sure : (told : List ℕ → Sight → Type 0) (said : List ℕ → Bool → Type 0) (tick : ℤ) (name : List ℕ) (open' : Bool) (m : Mark)
    → IsMarkBehind (told name) (said name) tick open' m → IsSureMark told said tick name m
behind_sure told said tick name open' mark.Unknown is = tt
behind_sure told said tick name open' mark.NoFile is = tt
behind_sure told said tick name open' mark.Other is = tt
behind_sure told said tick name open' (mark.File stamp) is = behind_file told said tick name open' stamp is
behind_sure told said tick name open' (mark.Own stamp) is = tt

-- ---- sure marks are looks from before the recipe

look_file : (stamp : Stamp) (time : ℤ) (size : ℕ) → mark_from (mark.File stamp) ≡ Was (look.File time size) → look.File stamp.time stamp.size ≡ look.File time size
look_file stamp time size e = cc

at_read : (told : List ℕ → Sight → Type 0) (said : List ℕ → Bool → Type 0) (tick : ℤ) (read ended : ℕ) (there : List ℕ → ℕ → Sight)
    → IsHistory told said tick read ended there → (name : List ℕ) (time : ℤ) (size : ℕ) (changed : ℤ) → told name (File time size changed)
    → (changed <ℤ tick) ⊎ said name true → there name read ≡ File time size changed
at_read told said tick read ended there is name time size changed seen (inl early) =
    let (at, from, to, now) = is.seen name (File time size changed) seen in is.settled name at time size changed from now early
at_read told said tick read ended there is name time size changed seen (inr made) =
    let (at, from, to, now) = is.seen name (File time size changed) seen in is.made name at made from to ∙ now

pub sure_before : (told : List ℕ → Sight → Type 0) (said : List ℕ → Bool → Type 0) (tick : ℤ) (read begun ended : ℕ) (there : List ℕ → ℕ → Sight)
    (settled : List ℕ → ℕ → Bool) → IsHistory told said tick read ended there → AreSettled said tick read there settled → read ≤ begun
    → (name : List ℕ) (m : Mark) → IsSureMark told said tick name m → IsLookBefore (λ n at. look_of (there n at)) settled begun name m
sure_before told said tick read begun ended there settled is are before name mark.Unknown sure time size e = absurd cc
sure_before told said tick read begun ended there settled is are before name mark.NoFile sure time size e =
    let wrong : look.NoFile ≡ look.File time size = cc in absurd cc
sure_before told said tick read begun ended there settled is are before name mark.Other sure time size e =
    let wrong : look.Other ≡ look.File time size = cc in absurd cc
sure_before told said tick read begun ended there settled is are before name (mark.Own stamp) sure time size e = inl tt
sure_before told said tick read begun ended there settled is are before name (mark.File stamp) (t, s, changed, seen, of, early) time size e =
    let then' = at_read told said tick read ended there is name t s changed seen early in
    let stamped : look.File (stamp_of t s).time (stamp_of t s).size ≡ look.File time size =
    subst (λ (x : Stamp). look.File x.time x.size ≡ look.File time size) of (look_file stamp time size e) in
    inr (read, before, ap look_of then' ∙ stamped, are name t s changed then' early)
