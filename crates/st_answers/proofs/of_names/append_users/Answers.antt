use Rattle.std.proofs.Common.{◌++◌, ◌+◌, ◌∙◌, ap, drop}
use Rattle.st_answers.specs.Users.{user_rows}
use Rattle.st_answers.proofs.UserLemmas.{users_moved}
use Rattle.st_answers.proofs.of_names.append_users.Goals as goal

pub loop-place-preserved : goal.loop-place-preserved
loop-place-preserved c =
    let name = c.args.name.now in
    let named = c.args.named.now in
    let place = c.loop-place.place in
    ap (λ t. t ++ user_rows name (drop (place + 1) named)) c.in_ok-append_user.ensures
    ∙ users_moved name _ _ named place (c.at.result.0.now, c.at.result.1.now) c.at.ensures c.loop-place.invariant
