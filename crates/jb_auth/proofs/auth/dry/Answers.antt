use Rattle.std.proofs.Common.{◌≡◌, true, false, refl}
use Rattle.jb_auth.proofs.AuthLemmas.{is_first, asks_by_first}
use Rattle.jb_auth.proofs.auth.dry.Goals as goal

pub returns-then-are_flags : goal.returns-then-are_flags
returns-then-are_flags c =
    let text = c.args.makeflags.now in
    let first = c.cut_at.result.0.now in (
      λ yes. (
        first,
        is_first text first c.cut_at.result.1 c.cut_at.ensures.front c.cut_at.ensures.rest,
        c.if-are_flags.ensures.0 refl,
        c.holds.ensures.0 yes,
      ),
      λ asks. c.holds.ensures.1 (asks_by_first text first c.cut_at.result.1 c.cut_at.ensures.front c.cut_at.ensures.rest asks).1,
    )

pub returns-else-are_flags : goal.returns-else-are_flags
returns-else-are_flags c =
    let text = c.args.makeflags.now in
    let first = c.cut_at.result.0.now in (
      λ yes. let no : false ≡ true = rw c.if-are_flags.false at yes in cc,
      λ asks.
          let no : false ≡ true = c.if-are_flags.ensures.1 (asks_by_first text first c.cut_at.result.1 c.cut_at.ensures.front c.cut_at.ensures.rest asks).0 in cc,
    )
