-- What is recorded by a plan, and that all its names have a file or a rule.
use Rattle.std.proofs.Common.{◌≡◌, Bool, true, false, [], Option, Some, None, refl, sym, ap, ◌∙◌}
use Rattle.std.specs.Prelude.{unwrap_or}
use Rattle.mk_nodes.specs.declared.graph.Graph.{Graph}
use Rattle.st_state.specs.State.{StateMap}
use Rattle.dmk_reading.specs.Planned.{judged_graph}

-- the state that the graph was built by, whether the graph forgets it or not
pub recorded_so : (all : Bool) (graph judged : Graph) (forgotten : Option StateMap) (state : StateMap) → judged.state ≡ (judged_graph all graph).state →
    (all ≡ true → forgotten ≡ Some state) → (all ≡ false → forgotten ≡ None) → graph.state ≡ state → unwrap_or forgotten judged.state ≡ state
recorded_so true graph judged forgotten state is kept none same = ap (λ f. unwrap_or f judged.state) (kept refl)
recorded_so false graph judged forgotten state is kept none same =
    ap (λ f. unwrap_or f judged.state) (none refl) ∙ is ∙ same

-- so it is of the graph that is built, where it is of the one by which targets are judged
pub unmade_so : (all : Bool) (graph judged : Graph) → judged ≡ judged_graph all graph → judged.unmade.items ≡ [] → graph.unmade.items ≡ []
unmade_so true graph judged is none = sym (ap (λ (g : Graph). g.unmade.items) is) ∙ none
unmade_so false graph judged is none = sym (ap (λ (g : Graph). g.unmade.items) is) ∙ none
