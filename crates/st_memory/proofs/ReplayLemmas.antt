-- One call of a replay.
use Rattle.std.proofs.Common.{◌≡◌, ℕ, ◌+◌, ◌<◌, ◌≤◌, List, [], length, get_or, take, drop, sym, ◌∙◌, ap, arith, length-take, length-drop}
use Rattle.std.proofs.lemmas.List.{drop_more, drop_all}
use Rattle.st_disk.specs.declared.which.Which.{Which}
use Rattle.st_disk.specs.declared.which.Which.TheVariants.{A, B}
use Rattle.st_memory.specs.declared.call.Call.{Call}
use Rattle.st_memory.specs.Memory.{MadeCall, blank, size_of, made_call, made, bytes_written, side_of, replay}
use Rattle.st_memory.specs.PowerCut.{Contents, contents_of, contents_after, replay_contents}
use Rattle.st_memory.proofs.PowerCutLaws.{contents_of-replay}

-- before the first call
pub from_blank : (side : Which) (calls : List MadeCall) (contents : Contents) → contents ≡ record { bytes = []; synced = []; ranges = [] }
    → replay_contents side contents calls ≡ contents_of (side_of side (replay blank calls))
from_blank A calls contents empty = ap (λ (c : Contents). replay_contents A c calls) empty ∙ sym (contents_of-replay A blank calls)
from_blank B calls contents empty = ap (λ (c : Contents). replay_contents B c calls) empty ∙ sym (contents_of-replay B blank calls)

-- after the last
pub none_left : (side : Which) (contents : Contents) (calls : List Call) (i : ℕ) (rest : List ℕ) → length calls ≤ i → replay_contents side contents (made (drop i calls) rest) ≡ contents
none_left side contents calls i rest past = ap (λ (l : List Call). replay_contents side contents (made l rest)) (drop_all i calls past)

module _ (calls : List Call) (i : ℕ) (d : Call) (within : i < length calls) (rest : List ℕ) (fits : bytes_written (drop i calls) ≡ length rest) where
  total : size_of (get_or calls i d) + bytes_written (drop (i + 1) calls) ≡ length rest
  total = sym (ap bytes_written (drop_more calls i d within)) ∙ fits

  pub next_fits : size_of (get_or calls i d) ≤ length rest
  next_fits = omega (arith, total)

  pub next_size : length (take (size_of (get_or calls i d)) rest) ≡ size_of (get_or calls i d)
  next_size = omega (arith, total, length-take (size_of (get_or calls i d)) rest)

  pub rest_fits : bytes_written (drop (i + 1) calls) ≡ length (drop (size_of (get_or calls i d)) rest)
  rest_fits = omega (arith, total, length-drop (size_of (get_or calls i d)) rest)

  pub one_more : (side : Which) (old new : Contents) (size : ℕ) (bytes behind : List ℕ) → size ≡ size_of (get_or calls i d) → bytes ≡ take size rest → behind ≡ drop size rest
      → new ≡ contents_after side (made_call (get_or calls i d) bytes) old → replay_contents side new (made (drop (i + 1) calls) behind) ≡ replay_contents side old (made (drop i calls) rest)
  one_more side old new size bytes behind is front back after =
      ap (λ (c : Contents). replay_contents side c (made (drop (i + 1) calls) behind)) after
      ∙ (λ j. replay_contents side (contents_after side (made_call (get_or calls i d) ((front ∙ ap (λ (n : ℕ). take n rest) is) j)) old) (made (drop (i + 1) calls) ((back ∙ ap (λ (n : ℕ). drop n rest) is) j)))
      ∙ sym (ap (λ (l : List Call). replay_contents side old (made l rest)) (drop_more calls i d within))
