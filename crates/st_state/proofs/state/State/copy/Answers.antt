use Rattle.std.proofs.Common.{◌≡◌, ◌<◌, ◌∙◌, ap, sym, length, arith}
use Rattle.std.specs.FinMap as map
use Rattle.std.proofs.lemmas.List.{length-map}
use Rattle.std.proofs.lemmas.Map.Lookups.{map_keys}
use Rattle.st_state.proofs.StateLemmas.{with_entries, with_entries-empty, len-from_entries, apart-map_keys, on_err}
use Rattle.st_state.proofs.state.State.copy.Goals as goal

pub loop-name-init : goal.loop-name-init
loop-name-init c =
    let es = c.self.inside.entries.entries in
    let all = c.into_iter-name-iterator.ensures.into_iter_gives ∙ c.iter-name-items.ensures.rest in
    let apart = apart-map_keys (λ k. k) es c.iter-name-items.ensures.unique in
    let left : length c.into_iter-name-iterator.result ≡ map.len c.args.self.now =
    ap length all ∙ sym (length-map es _) ∙ sym (len-from_entries (map_keys (λ k. k) es) apart) ∙ ap map.len c.self.view_is in
    record {
      whole = ap (λ m. with_entries m (map_keys (λ k. k) c.into_iter-name-iterator.result)) c.with_key-copied.ensures
          ∙ ap (λ left. with_entries map.empty (map_keys (λ k. k) left)) all
          ∙ with_entries-empty (map_keys (λ k. k) es) apart
          ∙ c.self.view_is;
      left = omega (arith, left);
    }

pub returns-in_err-copy-clause-memory : goal.returns-in_err-copy-clause-memory
returns-in_err-copy-clause-memory c =
    let some : 0 < map.len c.args.self.now = omega (arith, c.loop-name.invariant.left, ap length c.in-Some.ensures.steps) in
    on_err _ some

pub returns-in_err-add-clause-memory : goal.returns-in_err-add-clause-memory
returns-in_err-add-clause-memory c =
    let some : 0 < map.len c.args.self.now = omega (arith, c.loop-name.invariant.left, ap length c.in-Some.ensures.steps) in
    on_err _ some
