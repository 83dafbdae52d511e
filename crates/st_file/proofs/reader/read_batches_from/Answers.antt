use Rattle.std.proofs.Common.{◌≡◌, ◌≢◌, ℕ, ◌+◌, ◌-◌, ◌≤◌, List, length, get_or, drop, sym, ap, subst, ◌∙◌, inr, rules, arith}
use Rattle.st_disk.specs.declared.which.Which.{Which}
use Rattle.st_file.specs.Window.{ahead, ShowsBatch}
use Rattle.st_file.proofs.WindowLemmas.{Shows-pass, at_place, goes_on, ends_here, broken_front, HasTakenGood-more}
use Rattle.st_file.proofs.reader.read_batches_from.Goals as goal

pub returns-then-front-eq0-clause-held : goal.returns-then-front-eq0-clause-held
returns-then-front-eq0-clause-held g c = λ honest.
    let w = c.reach_batch.new.self in
    let on_side = subst (λ (s : Which). ShowsBatch (g.D.Disk.seen c.loop-window.disk s) w) c.loop-window.invariant.side (c.in_ok-reach_batch.ensures.batch honest) in
    let shown = subst (λ (f : Which → List ℕ). ShowsBatch (f c.args.window.now.side) w) (c.loop-window.invariant.seen honest) on_side in
    let walked = at_place _ _ _ _ _ _ c.loop-window.window w (c.loop-window.invariant.read honest) c.reach_batch.ensures.place in
    let closed : get_or c.front-front.result.now 0 0 ≡ 0 = search rules in
    ends_here _ _ _ _ _ _ w walked shown.shows c.in_ok-reach_batch.ensures.some (ap (λ (y : List ℕ). get_or y 0 0) (sym c.front-front.ensures) ∙ closed)

pub returns-in_default-clause-refused : goal.returns-in_default-clause-refused
returns-in_default-clause-refused g c = λ honest newest is_read.
    let w = c.reach_batch.new.self in
    let on_side = subst (λ (s : Which). ShowsBatch (g.D.Disk.seen c.loop-window.disk s) w) c.loop-window.invariant.side (c.in_ok-reach_batch.ensures.batch honest) in
    let shown = subst (λ (f : Which → List ℕ). ShowsBatch (f c.args.window.now.side) w) (c.loop-window.invariant.seen honest) on_side in
    let walked = at_place _ _ _ _ _ _ c.loop-window.window w (c.loop-window.invariant.read honest) c.reach_batch.ensures.place in
    let opened : get_or c.front-front.result.now 0 0 ≢ 0 = search rules in
    let open_gate : get_or (ahead w) 0 0 ≢ 0 = λ zero. opened (ap (λ (y : List ℕ). get_or y 0 0) c.front-front.ensures ∙ zero) in
    let none = rw c.in_default.is at c.in_ok-after.ensures.none in
    let broken = broken_front _ newest _ _ is_read _ _ _ w _ walked shown c.in_ok-reach_batch.ensures.some open_gate (c.split_at.ensures.back ∙ ap (drop 1) c.front-front.ensures) none in
    inr (inr (c.reach_batch.ensures.side ∙ c.loop-window.invariant.side, inr (inr broken)))

pub loop-window-preserved : goal.loop-window-preserved
loop-window-preserved g c =
    let w = c.reach_batch.new.self in
    let before = c.loop-window.invariant in
    let found = rw c.in-Some.is at c.in_ok-after.ensures.found in
    let after = c.in-Some.after.now in
    record {
      sound = c.pass.ensures.sound;
      side = c.pass.ensures.side ∙ c.reach_batch.ensures.side ∙ before.side;
      faults = c.in_ok-reach_batch.ensures.success ∙ before.faults;
      good = HasTakenGood-more _ _ _ _ _ found.0 before.good found.1 found.3;
      seen = λ honest. c.reach_batch.ensures.seen honest ∙ before.seen honest;
      moments = λ honest. c.reach_batch.ensures.moments honest ∙ before.moments honest;
      read = λ honest.
          let on_side = subst (λ (s : Which). ShowsBatch (g.D.Disk.seen c.loop-window.disk s) w) before.side (c.in_ok-reach_batch.ensures.batch honest) in
          let shown = subst (λ (f : Which → List ℕ). ShowsBatch (f c.args.window.now.side) w) (before.seen honest) on_side in
          let walked = at_place _ _ _ _ _ _ c.loop-window.window w (before.read honest) c.reach_batch.ensures.place in
          let opened : get_or c.front-front.result.now 0 0 ≢ 0 = search rules in
          let open_gate : get_or (ahead w) 0 0 ≢ 0 = λ zero. opened (ap (λ (y : List ℕ). get_or y 0 0) c.front-front.ensures ∙ zero) in
          let few : length c.front-front.result.now - length after ≤ length (ahead w) = omega (arith, ap length c.front-front.ensures) in
          let later = Shows-pass _ w c.pass.new.self (length c.front-front.result.now - length after) shown.shows few c.pass.ensures.len c.pass.ensures.place c.pass.ensures.ahead in
          let text = sym (c.split_at.ensures.back ∙ ap (drop 1) c.front-front.ensures) ∙ found.2 in
          let place = c.pass.ensures.place ∙ ap (λ (y : List ℕ). w.place + (length y - length after)) c.front-front.ensures in
          goes_on _ _ _ _ _ _ _ w c.pass.new.self after found.0 walked shown.shows later c.in_ok-reach_batch.ensures.some open_gate found.1 text found.3 place;
    }
