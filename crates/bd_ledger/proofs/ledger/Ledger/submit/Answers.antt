use Rattle.std.proofs.Common.{◌≡◌, ◌+◌, ◌∙◌, true, cond, is_ok, [], ◌∷◌, ◌++◌, set, refl, ap, sym, subst, arith, rules}
use Rattle.mk_graph.specs.Edges.{has}
use Rattle.bd_ledger.specs.Sheet.{Sheet, name_of, sent_by, sent_with, sent_count, last_ticket, IsWritableIn}
use Rattle.bd_ledger.proofs.LedgerLemmas.{runs_below, submitted_room, submit_ledger, ticket_of_sent, unflushed_room}
use Rattle.bd_ledger.proofs.ledger.Ledger.submit.Goals as goal

pub index_mut-requires : goal.index_mut-requires
index_mut-requires c =
    let there : has c.self.inside.places.standing.lists.running c.args.node ≡ true
    = subst (λ (b : Sheet). has b.standing.lists.running c.args.node ≡ true) (sym c.self.view_is) c.requires.runs in
    let below = runs_below c.self.inside.places c.put.ensures.standing c.args.node there in
    omega (arith, below, c.self.invariant.sent, c.number.ensures)

pub unwrap-requires : goal.unwrap-requires
unwrap-requires c =
    let there : has c.self.inside.places.standing.lists.running c.args.node ≡ true
    = subst (λ (b : Sheet). has b.standing.lists.running c.args.node ≡ true) (sym c.self.view_is) c.requires.runs in
    let below = unflushed_room c.self.inside.places c.put.ensures.standing c.args.node there in
    c.push.ensures.succeeds (omega (arith, below, c.self.invariant.notes, c.self.invariant.room))

pub overflow_add-self : goal.overflow_add-self
overflow_add-self c = let room = submitted_room c.self.inside c.self.invariant in search rules

pub invariant_of-self : goal.invariant_of-self
invariant_of-self c =
    let there : has c.self.inside.places.standing.lists.running c.args.node ≡ true
    = subst (λ (b : Sheet). has b.standing.lists.running c.args.node ≡ true) (sym c.self.view_is) c.requires.runs in
    submit_ledger c.self.inside c.self.invariant c.put.ensures.standing c.args.node there _ refl c.put.ensures.placed refl c.sent_with.result
    (ap (λ k. set c.self.inside.sent.items k c.sent_with.result) c.number.ensures)
    (ap sent_count (c.sent_with.ensures ∙ ap (sent_with c.args.note) (c.new-ticket.ensures ∙ ap (λ (b : Sheet). b.submitted) c.self.view_is)) ∙ c.requires.turn
    ∙ ap (λ (b : Sheet). sent_count (sent_by b c.args.node) + 1) (sym c.self.view_is))
    c.new-ticket.result c.args.note
    (c.push.ensures.items ∙ ap (λ b. cond b (c.self.inside.notes.items ++ (c.new-ticket.result, c.args.note) ∷ []) c.self.inside.notes.items) (ap is_ok c.unwrap.ensures))
    (ap last_ticket (c.sent_with.ensures) ∙ ticket_of_sent c.args.note c.new-ticket.result c.requires.writable.fresh)
    (c.requires.own ∙ ap (λ (b : Sheet). name_of b c.args.node) (sym c.self.view_is))
    (subst (λ (b : Sheet). IsWritableIn b.form c.args.note) (sym c.self.view_is) c.requires.writable) c.push.ensures.capacity refl
