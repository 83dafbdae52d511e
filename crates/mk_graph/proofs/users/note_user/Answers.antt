use Rattle.std.proofs.Common.{◌≡◌, ℕ, ◌+◌, ◌<◌, ◌≤◌, List, length, get_or, take, set, slice_index, sym, ap, ◌∙◌, subst, rules, arith}
use Rattle.byte_strings.specs.Pieces.{AreEnds}
use Rattle.mk_graph.specs.Edges.{times}
use Rattle.mk_graph.specs.Users.{filled}
use Rattle.mk_graph.proofs.RowLemmas.{times_room}
use Rattle.mk_graph.proofs.UserLemmas.{some_room, rows_still, next_more, next_past, noted_in, noted_past, filled_there, filled_elsewhere}
use Rattle.mk_graph.proofs.users.note_user.Goals as goal
use Rattle.mk_graph.proofs.users.note_user.Goals.{then-number-next, else-number-next}

-- the place that is written to
place_within : (ps next old : List ℕ) (size i : ℕ) → i < length ps
    → ((n : ℕ) → n < length old → slice_index next n ≡ slice_index old n + times n (take i ps))
    → ((n : ℕ) → n < length old → slice_index old n + times n ps ≤ size)
    → get_or ps i 0 < length old → get_or next (get_or ps i 0) 0 + 1 ≤ size
place_within ps next old size i within counted enough place =
    let a = enough (get_or ps i 0) place in let b = counted (get_or ps i 0) place in let r = times_room ps i within in omega arith

pub loop-prerequisite-preserved : goal.loop-prerequisite-preserved
loop-prerequisite-preserved c =
    let ps = c.args.prerequisites.now in
    let i = c.loop-prerequisite.prerequisite-index in
    let p = get_or ps i 0 in
    let next = c.loop-prerequisite.next in
    let users = c.loop-prerequisite.users in
    let old = c.args.next.now in
    let nodes = length old in
    let so_far = c.loop-prerequisite.invariant in
    let within = c.loop-prerequisite-test.true in
    let same : length next ≡ nodes = c.loop-prerequisite.auto.next in
    let same_size : length users ≡ length c.args.users.now = c.loop-prerequisite.auto.users in
    record {
      counted = λ n below. elim c.if-number-next.branch [
        | then-number-next w ↦
            ap (λ l. slice_index l n) w.next-is ∙ next_more ps next old nodes i within so_far.counted (subst (λ k. p < k) same w.if-number-next.true) same n below
        | else-number-next w ↦
            ap (λ l. slice_index l n) w.next-is ∙ next_past ps next old nodes i within so_far.counted (subst (λ k. k ≤ p) same w.if-number-next.false) n below
      ];
      noted = λ ends takes n below.
          let end_count : length old ≡ length ends = takes.nodes in
          let counted : (m : ℕ) → m < length ends → slice_index next m ≡ slice_index old m + times m (take i ps) = λ m b. so_far.counted m (omega arith) in
          let are : AreEnds (length users) 0 ends = subst (λ k. AreEnds k 0 ends) (sym same_size) takes.are_ends in
          let rows = rows_still ps next old (length ends) i within counted ends takes.begun takes.room in
          elim c.if-number-next.branch [
            | then-number-next w ↦
                let place : p < length ends = let t = w.if-number-next.true in omega arith in
                let one = some_room ps next old (length ends) i within counted ends takes.room place in
                let next' = set next p (get_or next p 0 + 1) in
                let users' = set users (get_or next p 0) c.args.node in
                ap (λ l. filled c.if-number-next.users ends l n) w.next-is ∙ ap (λ u. filled u ends next' n) w.users-is
                ∙ noted_in (filled c.args.users.now ends old) (filled users ends next) (length ends) c.args.node ps i within (so_far.noted ends takes)
                (filled users' ends next')
                (filled_there users ends next p c.args.node are place (same ∙ end_count) one rows)
                (filled_elsewhere users ends next p c.args.node are place (same ∙ end_count) one rows)
                n below
            | else-number-next w ↦
                ap (λ l. filled c.if-number-next.users ends l n) w.next-is ∙ ap (λ u. filled u ends next n) w.users-is
                ∙ noted_past (filled c.args.users.now ends old) (filled users ends next) (length ends) c.args.node ps i within (so_far.noted ends takes)
                (let t = w.if-number-next.false in omega arith) n below
          ];
    }

pub offset_bounds-users-place : goal.offset_bounds-users-place
offset_bounds-users-place c =
    let one = place_within c.args.prerequisites.now c.loop-prerequisite.next c.args.next.now (length c.args.users.now) c.loop-prerequisite.prerequisite-index c.loop-prerequisite-test.true
    c.loop-prerequisite.invariant.counted c.requires.room (omega arith) in
    search (rules, one)

pub bounds-users-place : goal.bounds-users-place
bounds-users-place c =
    let one = place_within c.args.prerequisites.now c.loop-prerequisite.next c.args.next.now (length c.args.users.now) c.loop-prerequisite.prerequisite-index c.loop-prerequisite-test.true
    c.loop-prerequisite.invariant.counted c.requires.room (omega arith) in
    omega arith

pub overflow_add-next : goal.overflow_add-next
overflow_add-next c =
    let one = place_within c.args.prerequisites.now c.loop-prerequisite.next c.args.next.now (length c.args.users.now) c.loop-prerequisite.prerequisite-index c.loop-prerequisite-test.true
    c.loop-prerequisite.invariant.counted c.requires.room (omega arith) in
    let few = c.requires.few in
    omega (arith, one, few)
