-- Which side a site is on after a compaction or a flush, and what stands there.
use Rattle.std.proofs.Common.{◌≡◌, ℕ, ◌+◌, List, ◌++◌, sym, subst}
use Rattle.st_disk.specs.declared.which.Which.{Which}
use Rattle.st_disk.specs.Crash.{other}
use Rattle.st_records.specs.declared.version.Form.{Form}
use Rattle.st_records.specs.declared.record.Record.{Record}
use Rattle.st_state.specs.State.{StateMap}
use Rattle.st_state.specs.Keepable.{kept_records}
use Rattle.st_file.specs.Side.{HoldsUpToIn}
use Rattle.st_compaction.specs.Compacted.{HasChangedSidesIn}
use Rattle.bd_flusher.specs.Parts.{Parts}
use Rattle.bd_flusher.specs.Site.{FactsIn, facts_in}
use Rattle.bd_flusher.specs.Tidying.{IsCompacted}

-- a site of equal parts
pub same_facts : {D : Type 0} {p p' : Parts D} {told told' : List Record} {tickets tickets' : List ℕ} {held held' : List Record} {ends ends' : List ℕ} {size size' : ℕ}
    (opening : StateMap) → p ≡ p' → told ≡ told' → tickets ≡ tickets' → held ≡ held' → ends ≡ ends' → size ≡ size'
    → facts_in p opening told tickets held ends size ≡ facts_in p' opening told' tickets' held' ends' size'
same_facts opening a b c d e f = cc

-- what a store's compaction says, said of the site
pub is_compacted : {D : Type 0} {honest : Type 0} {seen : D → Which → List ℕ} (old new : FactsIn D) → HasChangedSidesIn old.newest old.side new.side new.form old.generation new.generation → new.size ≡ new.end
    → (honest → HoldsUpToIn (seen new.disk (other old.side)) old.newest (old.generation + 1) (kept_records old.state) new.end) → IsCompacted honest seen old new
is_compacted old new changed size holds = record {
  changed = record { side = changed.on_other; form = changed.is_newest; generation = changed.next; holds = holds };
  size = size;
}

-- a commit says what stands behind what the side held, in whatever words the side is named
pub then_behind : (x y : Which → List ℕ) {side side' : Which} {v v' : Form} {g g' : ℕ} (end later : ℕ) (batch : List Record) → side ≡ side' → v ≡ v' → g ≡ g'
    → ((held : List Record) → HoldsUpToIn (x side) v g held end → HoldsUpToIn (y side) v g (held ++ batch) later)
    → (held : List Record) → HoldsUpToIn (x side') v' g' held end → HoldsUpToIn (y side') v' g' (held ++ batch) later
then_behind x y {side} {side'} {v} {v'} {g} {g'} end later batch sides vs gs by =
    subst (λ (s : Which). (held : List Record) → HoldsUpToIn (x s) v' g' held end → HoldsUpToIn (y s) v' g' (held ++ batch) later) sides
    (subst (λ (w : Form). (held : List Record) → HoldsUpToIn (x side) w g' held end → HoldsUpToIn (y side) w g' (held ++ batch) later) vs
    (subst (λ (n : ℕ). (held : List Record) → HoldsUpToIn (x side) v n held end → HoldsUpToIn (y side) v n (held ++ batch) later) gs by))

-- the same bytes, up to the same place
pub up_to : {x : List ℕ} {form : Form} {g end end' : ℕ} {held : List Record} → end ≡ end' → HoldsUpToIn x form g held end' → HoldsUpToIn x form g held end
up_to {x} {form} {g} {end} {end'} {held} ends holds = subst (λ (n : ℕ). HoldsUpToIn x form g held n) (sym ends) holds
