-- Looks as they would be recorded, and names among others.
use mathlib.Core.Path.{fun_ext}
use Rattle.std.specs.Prelude.{FitsSigned, filter, if◌then◌else◌}
use Rattle.std.specs.Int.{w64, int_wrap}
use Rattle.std.specs.Ordering.{int_eq}
use Rattle.std.specs.Cmp.{signed_Decides}
use Rattle.std.proofs.Common.{◌≡◌, ◌∙◌, ℕ, ℤ, Bool, true, false, not, List, [], refl, sym, ap, subst}
use Rattle.std.proofs.lemmas.Int.{SFits-int_wrap, int_wrap_fits}
use Rattle.mk_names.specs.Names.{has_name}
use Rattle.mk_names.proofs.NameLemmas.{has_all_added}
use Rattle.mk_nodes.specs.Prerequisites.{distinct}
use Rattle.st_marks.specs.Encoding.{stamp_of}
use Rattle.st_marks.specs.declared.mark.Mark.{Mark as KeptMark}
use Rattle.st_marks.specs.declared.mark.Mark.TheVariants as kept
use Rattle.mk_plan.specs.Change.{beside, is_held, kept_file}

kept_by : (time : ℤ) (size : ℕ) (m : KeptMark) (b : Bool) → int_eq (int_wrap w64 time) time ≡ b
    → (FitsSigned w64 time → m ≡ kept.File (stamp_of time size)) → ((FitsSigned w64 time → ⊥) → m ≡ kept.Unknown)
    → m ≡ (if b then kept.File (stamp_of time size) else kept.Unknown)
kept_by time size m true e near far = near (subst (FitsSigned w64) ((signed_Decides (int_wrap w64 time) time).0 e) (SFits-int_wrap w64 time))
kept_by time size m false e near far =
    far (λ fits. let yes : int_eq (int_wrap w64 time) time ≡ true = (signed_Decides (int_wrap w64 time) time).1 (int_wrap_fits w64 time fits) in
    let wrong : false ≡ true = sym e ∙ yes in absurd cc)

-- the mark of an ordinary file is the one as which it would be recorded
pub kept_stamped : (time : ℤ) (size : ℕ) (m : KeptMark) → (FitsSigned w64 time → m ≡ kept.File (stamp_of time size))
    → ((FitsSigned w64 time → ⊥) → m ≡ kept.Unknown) → m ≡ kept_file time size
kept_stamped time size m near far = kept_by time size m (is_held time) refl near far

-- names once each have the same ones
has_distinct : (names : List (List ℕ)) (name : List ℕ) → has_name (distinct names) name ≡ has_name names name
has_distinct names name = has_all_added [] names name

pub beside_distinct : (others names : List (List ℕ)) → beside (distinct others) names ≡ beside others names
beside_distinct others names = ap (λ (has : List ℕ → Bool). filter (λ name. not (has name)) names) (fun_ext (has_distinct others))
