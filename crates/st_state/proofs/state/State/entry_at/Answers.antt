use Rattle.std.proofs.Common.{◌≡◌, List, ℕ, ap, sym, ◌∙◌, rules}
use Rattle.std.specs.FinMap as map
use Rattle.std.specs.Map.{lookup}
use Rattle.std.specs.Str.{bytes_eq}
use Rattle.st_state.proofs.StateLemmas.{get-by_name, asked_is}
use Rattle.st_state.proofs.state.State.entry_at.Goals as goal

pub returns : goal.returns
returns c =
    let same : c.args.name.now ≡ c.in_ok-known.known.now = asked_is c.equivalent.result c.args.name.now c.in_ok-known.known.now c.equivalent.ensures (search rules) in
    ap (λ m. map.get m c.args.name.now) (sym c.self.view_is)
    ∙ get-by_name (λ k. k) c.args.name.now c.self.inside.entries.entries
    ∙ ap (λ (n : List ℕ). lookup (λ k. bytes_eq n k) c.self.inside.entries.entries) same
    ∙ c.in_ok-known.ensures.value
