use Rattle.std.proofs.Common.{◌≡◌, ◌∙◌, ap, sym, arith}
use Rattle.std.proofs.lemmas.Map.Lookups.{map_keys}
use Rattle.st_state.specs.Keepable.{kept_bytes_in}
use Rattle.st_state.proofs.StateLemmas.{apart-map_keys}
use Rattle.st_state.proofs.KeptLemmas.{bytes_of, bytes_from_entries}
use Rattle.st_state.proofs.state.State.room_after_kept_in.Goals as goal

pub loop-name-init : goal.loop-name-init
loop-name-init c =
    let es = c.self.inside.entries.entries in
    let all = c.into_iter-name-iterator.ensures.into_iter_gives ∙ c.iter-name-items.ensures.rest in
    let apart = apart-map_keys (λ k. k) es c.iter-name-items.ensures.unique in
    let whole : kept_bytes_in c.args.form c.args.self.now ≡ bytes_of c.args.form (map_keys (λ k. k) c.into_iter-name-iterator.result) =
    ap (kept_bytes_in c.args.form) (sym c.self.view_is) ∙ bytes_from_entries c.args.form (map_keys (λ k. k) es) apart
    ∙ ap (λ left. bytes_of c.args.form (map_keys (λ k. k) left)) (sym all) in
    omega (arith, whole)
