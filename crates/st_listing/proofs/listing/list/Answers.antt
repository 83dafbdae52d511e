use Rattle.std.proofs.Common.{◌≡◌, subst, sym}
use Rattle.std.specs.FinMap as map
use Rattle.std.specs.Io.KnownBytes.{Appends}
use Rattle.st_state.specs.State.{StateMap}
use Rattle.st_listing.specs.Listing.{listing}
use Rattle.st_listing.proofs.ListingLemmas.{one_state, not_refused, fault_of_machine, same_refusal, cause_of, cause_of_machine, joined, met_before, at_fault, leaves_of_state}
use Rattle.st_records.specs.declared.version.Form.TheVariants.{Marked}
use Rattle.st_recovery.proofs.MemoryLemmas.{comes_of_state_in}
use Rattle.st_listing.proofs.listing.list.Goals as goal

pub returns-in-Ok-clause-listed : goal.returns-in-Ok-clause-listed
returns-in-Ok-clause-listed g c = λ m h.
    let old = g.W.Write.contents c.args.writer.now in
    let new = g.W.Write.contents c.write_listing.new.writer in
    joined c.write_listing.result _ _ _ _
    (subst (λ s. Appends old new (listing s)) (one_state c.args.a.now.items c.args.b.now.items c.in-Ok.state m (rw (c.deref.ensures.value, c.deref-2.ensures.value) at c.in-Ok.ensures.only) h))
    (λ _ q. q)
    c.write_listing.ensures.listed
    c.write_listing.ensures.cause

pub returns-in-Ok-clause-refused : goal.returns-in-Ok-clause-refused
returns-in-Ok-clause-refused g c = λ f h.
    absurd (not_refused c.args.a.now.items c.args.b.now.items c.in-Ok.state f (rw (c.deref.ensures.value, c.deref-2.ensures.value) at c.in-Ok.ensures.only) h)

pub returns-in-Ok-clause-found : goal.returns-in-Ok-clause-found
returns-in-Ok-clause-found g c =
    joined c.write_listing.result _ _ _ _
    (λ appended. (c.in-Ok.state, (rw (c.deref.ensures.value, c.deref-2.ensures.value) at c.in-Ok.ensures.found, appended)))
    (cause_of_machine c.args.a.now.items c.args.b.now.items)
    c.write_listing.ensures.listed
    c.write_listing.ensures.cause

pub returns-in-Ok-clause-kept : goal.returns-in-Ok-clause-kept
returns-in-Ok-clause-kept g c = λ f h.
    absurd (not_refused c.args.a.now.items c.args.b.now.items c.in-Ok.state f (rw (c.deref.ensures.value, c.deref-2.ensures.value) at c.in-Ok.ensures.only) h)

pub returns-in-Ok-clause-kept_empty : goal.returns-in-Ok-clause-kept_empty
returns-in-Ok-clause-kept_empty g c = λ m h none.
    let same = one_state c.args.a.now.items c.args.b.now.items c.in-Ok.state m (rw (c.deref.ensures.value, c.deref-2.ensures.value) at c.in-Ok.ensures.only) h in
    c.let_go.ensures (subst (λ (n : StateMap). map.len n ≡ 0) (sym same) none)

pub returns-in-Err-clause-listed : goal.returns-in-Err-clause-listed
returns-in-Err-clause-listed g c = λ m h.
    fault_of_machine c.args.a.now.items c.args.b.now.items c.in-Err.fault m (rw (c.deref.ensures.value, c.deref-2.ensures.value) at c.in-Err.ensures.only) h

pub returns-in-Err-clause-refused : goal.returns-in-Err-clause-refused
returns-in-Err-clause-refused g c = λ f h.
    same_refusal c.args.a.now.items c.args.b.now.items c.in-Err.fault f (rw (c.deref.ensures.value, c.deref-2.ensures.value) at c.in-Err.ensures.only) h

pub returns-in-Err-clause-found : goal.returns-in-Err-clause-found
returns-in-Err-clause-found g c = cause_of c.args.a.now.items c.args.b.now.items c.in-Err.fault (rw (c.deref.ensures.value, c.deref-2.ensures.value) at c.in-Err.ensures.found)

pub returns-in-Ok-clause-memory : goal.returns-in-Ok-clause-memory
returns-in-Ok-clause-memory g c =
    λ e. comes_of_state_in Marked c.args.a.now.items c.args.b.now.items c.in-Ok.state (rw (c.deref.ensures.value, c.deref-2.ensures.value) at c.in-Ok.ensures.found) (c.write_listing.ensures.memory e)

pub returns-in-Err-clause-memory : goal.returns-in-Err-clause-memory
returns-in-Err-clause-memory g c = λ e. rw (c.deref.ensures.value, c.deref-2.ensures.value) at c.in-Err.ensures.memory (met_before _ c.in-Err.fault _ e)

pub returns-in-Ok-clause-left : goal.returns-in-Ok-clause-left
returns-in-Ok-clause-left g c =
    at_fault c.write_listing.result _ _
    (leaves_of_state c.args.a.now.items c.args.b.now.items c.in-Ok.state (rw (c.deref.ensures.value, c.deref-2.ensures.value) at c.in-Ok.ensures.found) _ _)
    c.write_listing.ensures.left
