use Rattle.std.proofs.Common.{◌≡◌, ◌≢◌, ◌∙◌, true, false, refl, sym, subst}
use Rattle.std.specs.Prelude.{codes}
use Rattle.std.proofs.lemmas.Slice.Eq.{slice_eq-Decides}
use Rattle.std.proofs.lemmas.Bool.Decides.{Decides-eqb}
use Rattle.jb_auth.proofs.AuthLemmas.{AsksBehind, asks_here, asks_later, asks_behind}
use Rattle.jb_auth.proofs.auth.posix.Goals as goal

pub returns-then-eq : goal.returns-then-eq
returns-then-eq c =
    let word = c.cut_at.result.0.now in
    let is = (slice_eq-Decides Decides-eqb word (codes "--posix") c.eq.result c.eq.ensures).0 c.if-eq.true in (
      λ yes. c.loop-rest.invariant.0 (subst AsksBehind (sym c.in-Some.is)
          (asks_here c.in-Some.text.now word c.cut_at.result.1 (c.cut_at.ensures.front, c.cut_at.ensures.rest) is)),
      λ asks. refl,
    )

pub returns-then-eq-2 : goal.returns-then-eq-2
returns-then-eq-2 c =
    let word = c.cut_at.result.0.now in
    let other : word ≢ codes "--posix" = λ same.
    let no : true ≡ false = sym ((slice_eq-Decides Decides-eqb word (codes "--posix") c.eq.result c.eq.ensures).1 same) ∙ c.if-eq.false in cc in
    let is = (slice_eq-Decides Decides-eqb word (codes "--") c.eq-in-Some.result c.eq-in-Some.ensures).0 c.if-eq-2.true in (
      λ yes. let no : false ≡ true = yes in cc,
      λ asks. absurd ((asks_behind c.in-Some.text.now word c.cut_at.result.1 (c.cut_at.ensures.front, c.cut_at.ensures.rest) other
          (subst AsksBehind c.in-Some.is (c.loop-rest.invariant.1 asks))).0 is),
    )

pub loop-rest-preserved : goal.loop-rest-preserved
loop-rest-preserved c =
    let word = c.cut_at.result.0.now in
    let other : word ≢ codes "--posix" = λ same.
    let no : true ≡ false = sym ((slice_eq-Decides Decides-eqb word (codes "--posix") c.eq.result c.eq.ensures).1 same) ∙ c.if-eq.false in cc in
    let ends_not : word ≢ codes "--" = λ same.
    let no : true ≡ false = sym ((slice_eq-Decides Decides-eqb word (codes "--") c.eq-in-Some.result c.eq-in-Some.ensures).1 same) ∙ c.if-eq-2.false in cc in (
      λ behind. c.loop-rest.invariant.0 (subst AsksBehind (sym c.in-Some.is)
          (asks_later c.in-Some.text.now word c.cut_at.result.1 (c.cut_at.ensures.front, c.cut_at.ensures.rest) ends_not behind)),
      λ asks. (asks_behind c.in-Some.text.now word c.cut_at.result.1 (c.cut_at.ensures.front, c.cut_at.ensures.rest) other
          (subst AsksBehind c.in-Some.is (c.loop-rest.invariant.1 asks))).1,
    )
