use Rattle.std.proofs.Common.{◌≡◌, ◌≤◌, ◌∙◌, ◌+◌, ℕ, true, false, List, [], ◌∷◌, ◌++◌, length, None, Some, sym, ap, subst, arith, nat_eq}
use Rattle.std.specs.Map.{lookup}
use Rattle.std.specs.Cmp.Lexicographic.{pointwise}
use Rattle.std.proofs.lemmas.List.{nil_from_length}
use Rattle.std.proofs.lemmas.Result.{err_from_is_err_and}
use Rattle.mk_profile.specs.Profile.{is_wide}
use Rattle.mk_macros.specs.Reference.{first, front, nothing, plain, reference, unclosed, nested, named}
use Rattle.mk_macros.specs.Shown.{shown_piece, shown_use, inner_len}
use Rattle.mk_macros.specs.Dynamic.{dynamic_value}
use Rattle.mk_macros.specs.Ranks.{ranks_at, in_force, meaning_of}
use Rattle.mk_macros.specs.Function.{function_in}
use Rattle.mk_macros.specs.Lookup.{Finds, known, progress_at, shown_progress}
use Rattle.mk_macros.specs.Expansion.{limit, IsTooLongAt, adds_bytes, is_unclosed, is_nested, not_closed, dollar_in_brackets}
use Rattle.mk_macros.specs.declared.lookup.Progress.TheVariants.{Opened, Known}
use Rattle.mk_macros.proofs.LookupLemmas.{defined_from}
use Rattle.mk_macros.proofs.ExpansionLemmas.{IsExpanding, ahead, at_text, at_piece, SetsProgress, start, finish, step, enter, leave, know, enter_name, leave_name, piece_fault}
use Rattle.mk_macros.proofs.StateLemmas.{left_shown, left_cost, awaited_shown, awaited_cost, waiting_of, stack_of, stack_of-push, progress-insert, unseen_cost-enter, unseen_cost-leave, unseen_cost-know, callers_cost, callers_cost-push}
use Rattle.mk_macros.proofs.PlainLemmas.{plain_expands_in}
use Rattle.mk_macros.proofs.ArmLemmas.{append_fault, reference_step, reference_fault}
use Rattle.mk_macros.proofs.definitions.Macros.expand_in.Goals as goal

pub pieces-init : goal.pieces-init
pieces-init c =
    let meaning = meaning_of (ranks_at c.args.self.now.texts) c.args.line.now in
    let empty = c.new-progress.ensures.empty in
    let first_state = start (is_wide c.args.profile) meaning c.args.text.now (progress_at c.new-progress.result) (λ n. ap (λ es. shown_progress (lookup (λ k. pointwise nat_eq n k.now) es)) empty) in
    rw (c.new-callers.ensures.items, c.new-made.ensures.items) first_state

pub returns-in_err-append_reference-in-Name-clause-fault : goal.returns-in_err-append_reference-in-Name-clause-fault
returns-in_err-append_reference-in-Name-clause-fault c =
    let wide = is_wide c.args.profile in
    let name = c.named.result.0.now in
    let use_of = shown_use c.named.result.1 in
    let spelled : named c.in-Name.bytes.items ≡ reference name use_of = ap named (sym c.deref.ensures.value) ∙ sym c.named.ensures in
    let at : ahead wide (left_shown c.pieces.left) ≡ first (reference name use_of) c.in-Name.after.now = ap (λ l. ahead wide (left_shown l)) c.in-Name.is ∙ ap (λ p. first p c.in-Name.after.now) spelled in
    let p = err_from_is_err_and c.from_residual.result c.from_residual.ensures.1 in
    rw (p.1, p.2) (reference_fault wide (meaning_of (ranks_at c.args.self.now.texts) c.args.line.now) c.args.text.now (progress_at c.pieces.progress) (stack_of c.pieces.callers.items) c.pieces.made.items (left_shown c.pieces.left) c.pieces.invariant
    name use_of c.in-Name.after.now at _ c.in_err-append_reference-in-Name.ensures.err)

pub pieces-preserved-in-None-1 : goal.pieces-preserved-in-None-1
pieces-preserved-in-None-1 c =
    let wide = is_wide c.args.profile in
    let meaning = meaning_of (ranks_at c.args.self.now.texts) c.args.line.now in
    let name = c.named.result.0.now in
    let use_of = shown_use c.named.result.1 in
    let spelled : named c.in-Name.bytes.items ≡ reference name use_of = ap named (sym c.deref.ensures.value) ∙ sym c.named.ensures in
    let at : ahead wide (left_shown c.pieces.left) ≡ first (reference name use_of) c.in-Name.after.now = ap (λ l. ahead wide (left_shown l)) c.in-Name.is ∙ ap (λ p. first p c.in-Name.after.now) spelled in
    let f : Finds (limit (is_wide c.args.profile)) (function_in (is_wide c.args.profile) name) (meaning name) (progress_at c.pieces.progress name) use_of name c.pieces.made.items c.append_reference.new.made.items None =
    subst (λ found. Finds (limit (is_wide c.args.profile)) (function_in (is_wide c.args.profile) name) (meaning name) (progress_at c.pieces.progress name) use_of name c.pieces.made.items c.append_reference.new.made.items found) c.in-None.is c.in_ok-append_reference-in-Name.ensures.ok in
    reference_step wide meaning c.args.text.now (progress_at c.pieces.progress) (stack_of c.pieces.callers.items) c.pieces.made.items (left_shown c.pieces.left) c.pieces.invariant
    name use_of c.in-Name.after.now at f.0 c.append_reference.new.made.items f.1 f.2 f.3

pub pieces-smaller-in-Some : goal.pieces-smaller-in-Some
pieces-smaller-in-Some c =
    let meaning = meaning_of (ranks_at c.args.self.now.texts) c.args.line.now in
    let name = c.named.result.0.now in
    let use_of = shown_use c.named.result.1 in
    let state = progress_at c.pieces.progress in
    let made = c.append_reference.new.made.items in
    let f : Finds (limit (is_wide c.args.profile)) (function_in (is_wide c.args.profile) name) (meaning name) (state name) use_of name c.pieces.made.items made (Some (c.in-Some.name, c.in-Some.text)) =
    subst (λ found. Finds (limit (is_wide c.args.profile)) (function_in (is_wide c.args.profile) name) (meaning name) (state name) use_of name c.pieces.made.items made found) c.in-Some.is c.in_ok-append_reference-in-Name.ensures.ok in
    let has = ap (λ n. in_force (ranks_at c.args.self.now.texts n)) f.0 ∙ defined_from (dynamic_value c.args.line.now name) (in_force (ranks_at c.args.self.now.texts name)) c.in-Some.text.now f.1 in
    let sets = progress-insert c.pieces.progress c.insert.new.self c.in-Some.name Opened c.in_ok-insert-in-Some.ensures.updates in
    let unseen_falls = unseen_cost-enter state (progress_at c.insert.new.self) c.in-Some.name.now c.in-Some.text.now (ap state f.0 ∙ f.2) sets c.args.self.now.texts has in
    let after : callers_cost c.push.new.self.items ≡ callers_cost c.pieces.callers.items + (length c.in-Name.after.now + 1 + 1) = ap callers_cost c.in_ok-push-in-Some.ensures.items ∙ callers_cost-push c.pieces.callers.items _ in
    let before : left_cost c.pieces.left ≡ length c.in-Name.after.now + 1 = ap left_cost c.in-Name.is in
    omega (arith, unseen_falls, after, before)

pub pieces-preserved-in-Some : goal.pieces-preserved-in-Some
pieces-preserved-in-Some c =
    let wide = is_wide c.args.profile in
    let meaning = meaning_of (ranks_at c.args.self.now.texts) c.args.line.now in
    let name = c.named.result.0.now in
    let use_of = shown_use c.named.result.1 in
    let state = progress_at c.pieces.progress in
    let made = c.append_reference.new.made.items in
    let left = at_piece (named c.in-Name.bytes.items) c.in-Name.after.now in
    let f : Finds (limit (is_wide c.args.profile)) (function_in (is_wide c.args.profile) name) (meaning name) (state name) use_of name c.pieces.made.items made (Some (c.in-Some.name, c.in-Some.text)) =
    subst (λ found. Finds (limit (is_wide c.args.profile)) (function_in (is_wide c.args.profile) name) (meaning name) (state name) use_of name c.pieces.made.items made found) c.in-Some.is c.in_ok-append_reference-in-Name.ensures.ok in
    let spelled : named c.in-Name.bytes.items ≡ reference c.in-Some.name.now use_of = ap named (sym c.deref.ensures.value) ∙ sym c.named.ensures ∙ ap (λ n. reference n use_of) (sym f.0) in
    let at : ahead wide left ≡ first (reference c.in-Some.name.now use_of) c.in-Name.after.now = ap (λ p. first p c.in-Name.after.now) spelled in
    let now : IsExpanding wide meaning c.args.text.now state (stack_of c.pieces.callers.items) c.pieces.made.items left =
    subst (λ l. IsExpanding wide meaning c.args.text.now state (stack_of c.pieces.callers.items) c.pieces.made.items (left_shown l)) c.in-Name.is c.pieces.invariant in
    let sets = progress-insert c.pieces.progress c.insert.new.self c.in-Some.name Opened c.in_ok-insert-in-Some.ensures.updates in
    let stack = ap stack_of c.in_ok-push-in-Some.ensures.items ∙ stack_of-push c.pieces.callers.items _ in
    rw (stack, c.new-made-in-Some.ensures.items, f.3)
    (enter wide meaning c.args.text.now state (progress_at c.insert.new.self) (stack_of c.pieces.callers.items) c.pieces.made.items left
    c.in-Some.name.now use_of c.in-Name.after.now c.in-Some.text.now now at (ap meaning f.0 ∙ f.1) (ap state f.0 ∙ f.2) sets)

pub returns-in_default-clause-found : goal.returns-in_default-clause-found
returns-in_default-clause-found c =
    let wide = is_wide c.args.profile in
    let meaning = meaning_of (ranks_at c.args.self.now.texts) c.args.line.now in
    let none : c.pieces.callers.items ≡ [] = nil_from_length c.pieces.callers.items (omega (arith, c.pieces.callers.ok.0, c.in_default.ensures.cases.0)) in
    let at : ahead wide (left_shown c.pieces.left) ≡ nothing = ap (λ l. ahead wide (left_shown l)) c.in-Text.is ∙ sym c.in-None-next_piece.ensures.front in
    finish wide meaning c.args.text.now (progress_at c.pieces.progress) c.pieces.made.items (left_shown c.pieces.left)
    (subst (λ cs. IsExpanding wide meaning c.args.text.now (progress_at c.pieces.progress) (stack_of cs) c.pieces.made.items (left_shown c.pieces.left)) none c.pieces.invariant)
    at

pub pieces-smaller-in_ok-insert-in-Value : goal.pieces-smaller-in_ok-insert-in-Value
pieces-smaller-in_ok-insert-in-Value c =
    let sets = progress-insert c.pieces.progress c.insert-in-Value.new.self c.in-Value.name (Known c.pieces.made) c.in_ok-insert-in-Value.ensures.updates in
    let unseen_falls = unseen_cost-leave (progress_at c.pieces.progress) (progress_at c.insert-in-Value.new.self) c.in-Value.name.now c.pieces.made.items sets c.args.self.now.texts in
    let before : callers_cost c.pieces.callers.items ≡ callers_cost c.pop.new.self.items + (left_cost c.in-Value.behind + 1) =
    ap callers_cost c.in-Some-pop.ensures.items ∙ callers_cost-push c.pop.new.self.items c.in-Some-pop.field-0 ∙ ap (λ a. callers_cost c.pop.new.self.items + awaited_cost a) c.in-Value.is in
    omega (arith, unseen_falls, before)

pub pieces-preserved-in_ok-insert-in-Value : goal.pieces-preserved-in_ok-insert-in-Value
pieces-preserved-in_ok-insert-in-Value c =
    let wide = is_wide c.args.profile in
    let meaning = meaning_of (ranks_at c.args.self.now.texts) c.args.line.now in
    let state = progress_at c.pieces.progress in
    let before = c.in-Some-pop.field-0.made.items in
    let stack : stack_of c.pieces.callers.items ≡ record { awaited = awaited_shown (c.in-Some-pop.field-0.awaited); made = before } ∷ stack_of c.pop.new.self.items =
    ap stack_of c.in-Some-pop.ensures.items ∙ stack_of-push c.pop.new.self.items c.in-Some-pop.field-0 in
    let at : ahead wide (left_shown c.pieces.left) ≡ nothing = ap (λ l. ahead wide (left_shown l)) c.in-Text.is ∙ sym c.in-None-next_piece.ensures.front in
    leave wide meaning c.args.text.now state (progress_at c.insert-in-Value.new.self) (stack_of c.pop.new.self.items) c.pieces.made.items (left_shown c.pieces.left)
    c.in-Value.name.now before (left_shown c.in-Value.behind)
    (subst (λ a. IsExpanding wide meaning c.args.text.now state (record { awaited = awaited_shown a; made = before } ∷ stack_of c.pop.new.self.items) c.pieces.made.items (left_shown c.pieces.left)) c.in-Value.is
    (subst (λ cs. IsExpanding wide meaning c.args.text.now state cs c.pieces.made.items (left_shown c.pieces.left)) stack c.pieces.invariant))
    at
    (progress-insert c.pieces.progress c.insert-in-Value.new.self c.in-Value.name (Known c.pieces.made) c.in_ok-insert-in-Value.ensures.updates)

pub pieces-smaller-in-Name-awaited : goal.pieces-smaller-in-Name-awaited
pieces-smaller-in-Name-awaited c =
    let before : callers_cost c.pieces.callers.items ≡ callers_cost c.pop.new.self.items + (length c.in-Name-awaited.after.now + 2) =
    ap callers_cost c.in-Some-pop.ensures.items ∙ callers_cost-push c.pop.new.self.items c.in-Some-pop.field-0 ∙ ap (λ a. callers_cost c.pop.new.self.items + awaited_cost a) c.in-Name-awaited.is in
    omega (arith, before)

pub pieces-preserved-in-Name-awaited : goal.pieces-preserved-in-Name-awaited
pieces-preserved-in-Name-awaited c =
    let wide = is_wide c.args.profile in
    let meaning = meaning_of (ranks_at c.args.self.now.texts) c.args.line.now in
    let state = progress_at c.pieces.progress in
    let before = c.in-Some-pop.field-0.made.items in
    let stack : stack_of c.pieces.callers.items ≡ record { awaited = awaited_shown (c.in-Some-pop.field-0.awaited); made = before } ∷ stack_of c.pop.new.self.items =
    ap stack_of c.in-Some-pop.ensures.items ∙ stack_of-push c.pop.new.self.items c.in-Some-pop.field-0 in
    let at : ahead wide (left_shown c.pieces.left) ≡ nothing = ap (λ l. ahead wide (left_shown l)) c.in-Text.is ∙ sym c.in-None-next_piece.ensures.front in
    leave_name wide meaning state c.args.text.now (stack_of c.pop.new.self.items) c.pieces.made.items (left_shown c.pieces.left) before c.in-Name-awaited.after.now
    (subst (λ a. IsExpanding wide meaning c.args.text.now state (record { awaited = awaited_shown a; made = before } ∷ stack_of c.pop.new.self.items) c.pieces.made.items (left_shown c.pieces.left)) c.in-Name-awaited.is
    (subst (λ cs. IsExpanding wide meaning c.args.text.now state cs c.pieces.made.items (left_shown c.pieces.left)) stack c.pieces.invariant))
    at

pub returns-in_err-append-in-Some-Plain-default-clause-fault : goal.returns-in_err-append-in-Some-Plain-default-clause-fault
returns-in_err-append-in-Some-Plain-default-clause-fault c =
    let wide = is_wide c.args.profile in
    let bytes = c.in-Some-Plain-default.bytes.now in
    let after = c.in-Some-Plain-default.after.now in
    let at : ahead wide (left_shown c.pieces.left) ≡ first (plain bytes) after = ap (λ l. ahead wide (left_shown l)) c.in-Text.is ∙ sym c.in-Some-Plain-default.ensures.front ∙ ap (λ p. first (shown_piece p) after) c.in-Some-Plain-default.field-0-0-is in
    let p = err_from_is_err_and c.from_residual-in_err-append-in-Some-Plain-default.result c.from_residual-in_err-append-in-Some-Plain-default.ensures.1 in
    let long = subst (λ most. IsTooLongAt most (length (c.pieces.made.items ++ bytes)) c.in_err-append-in-Some-Plain-default.field-0.0) c.most_bytes.ensures
    c.in_err-append-in-Some-Plain-default.ensures.err in
    rw (p.1, p.2) (append_fault wide (meaning_of (ranks_at c.args.self.now.texts) c.args.line.now) c.args.text.now (progress_at c.pieces.progress) (stack_of c.pieces.callers.items) c.pieces.made.items (left_shown c.pieces.left) c.pieces.invariant
    (plain bytes) after bytes at (λ all a. adds_bytes) _ long)

pub pieces-preserved-in-Some-Plain-default : goal.pieces-preserved-in-Some-Plain-default
pieces-preserved-in-Some-Plain-default c =
    let wide = is_wide c.args.profile in
    let bytes = c.in-Some-Plain-default.bytes.now in
    let after = c.in-Some-Plain-default.after.now in
    let at : ahead wide (left_shown c.pieces.left) ≡ first (plain bytes) after = ap (λ l. ahead wide (left_shown l)) c.in-Text.is ∙ sym c.in-Some-Plain-default.ensures.front ∙ ap (λ p. first (shown_piece p) after) c.in-Some-Plain-default.field-0-0-is in
    let ok = c.in_ok-append-in-Some-Plain-default.ensures.ok in
    rw ok.0 (step wide (meaning_of (ranks_at c.args.self.now.texts) c.args.line.now) (progress_at c.pieces.progress) c.args.text.now (stack_of c.pieces.callers.items) c.pieces.made.items (left_shown c.pieces.left) c.pieces.invariant
    (plain bytes) after bytes at (λ all a. adds_bytes)
    (subst (λ most. length (c.pieces.made.items ++ bytes) ≤ most) c.most_bytes.ensures (rw ok.0 at ok.1)))

pub returns-in-Some-Unclosed-default-clause-fault : goal.returns-in-Some-Unclosed-default-clause-fault
returns-in-Some-Unclosed-default-clause-fault c =
    let wide = is_wide c.args.profile in
    let after = c.in-Some-Unclosed-default.field-0-1.now in
    let at : ahead wide (left_shown c.pieces.left) ≡ first unclosed after = ap (λ l. ahead wide (left_shown l)) c.in-Text.is ∙ sym c.in-Some-Unclosed-default.ensures.front ∙ ap (λ p. first (shown_piece p) after) c.in-Some-Unclosed-default.field-0-0-is in
    piece_fault wide (meaning_of (ranks_at c.args.self.now.texts) c.args.line.now) (progress_at c.pieces.progress) c.args.text.now (stack_of c.pieces.callers.items) c.pieces.made.items (left_shown c.pieces.left) c.pieces.invariant
    unclosed after not_closed at is_unclosed

pub returns-then-not-is_wide-clause-fault : goal.returns-then-not-is_wide-clause-fault
returns-then-not-is_wide-clause-fault c =
    let wide = is_wide c.args.profile in
    let inner = c.in-Some-Nested-default.inner.now in
    let after = c.in-Some-Nested-default.after.now in
    let at : ahead wide (left_shown c.pieces.left) ≡ first (nested inner) after = ap (λ l. ahead wide (left_shown l)) c.in-Text.is ∙ sym c.in-Some-Nested-default.ensures.front ∙ ap (λ p. first (shown_piece p) after) c.in-Some-Nested-default.field-0-0-is in
    let strict : wide ≡ false = sym c.is_wide.ensures ∙ c.if-not-is_wide.true in
    piece_fault wide (meaning_of (ranks_at c.args.self.now.texts) c.args.line.now) (progress_at c.pieces.progress) c.args.text.now (stack_of c.pieces.callers.items) c.pieces.made.items (left_shown c.pieces.left) c.pieces.invariant
    (nested inner) after dollar_in_brackets at (is_nested strict)

pub pieces-smaller-in-Some-Nested-default : goal.pieces-smaller-in-Some-Nested-default
pieces-smaller-in-Some-Nested-default c =
    let after : callers_cost c.push-in-Some-Nested-default.new.self.items ≡ callers_cost c.pieces.callers.items + (length c.in-Some-Nested-default.after.now + 2) =
    ap callers_cost c.in_ok-push-in-Some-Nested-default.ensures.items ∙ callers_cost-push c.pieces.callers.items _ in
    let before : left_cost c.pieces.left ≡ length c.in-Text.rest.now = ap left_cost c.in-Text.is in
    let size : inner_len (shown_piece c.in-Some-Nested-default.field-0-0) ≡ length c.in-Some-Nested-default.inner.now + 2 = ap (λ p. inner_len (shown_piece p)) c.in-Some-Nested-default.field-0-0-is in
    omega (arith, after, before, size, c.in-Some-Nested-default.ensures.shorter)

pub pieces-preserved-in-Some-Nested-default : goal.pieces-preserved-in-Some-Nested-default
pieces-preserved-in-Some-Nested-default c =
    let wide = is_wide c.args.profile in
    let inner = c.in-Some-Nested-default.inner.now in
    let after = c.in-Some-Nested-default.after.now in
    let at : ahead wide (left_shown c.pieces.left) ≡ first (nested inner) after = ap (λ l. ahead wide (left_shown l)) c.in-Text.is ∙ sym c.in-Some-Nested-default.ensures.front ∙ ap (λ p. first (shown_piece p) after) c.in-Some-Nested-default.field-0-0-is in
    let w : wide ≡ true = sym c.is_wide.ensures ∙ c.if-not-is_wide.false in
    let stack = ap stack_of c.in_ok-push-in-Some-Nested-default.ensures.items ∙ stack_of-push c.pieces.callers.items _ in
    rw (stack, c.new-made-in-Some-Nested-default.ensures.items)
    (enter_name wide (meaning_of (ranks_at c.args.self.now.texts) c.args.line.now) (progress_at c.pieces.progress) c.args.text.now (stack_of c.pieces.callers.items) c.pieces.made.items (left_shown c.pieces.left) c.pieces.invariant
    inner after w at)

pub returns-in_err-append_reference-in-Some-Reference-default-clause-fault : goal.returns-in_err-append_reference-in-Some-Reference-default-clause-fault
returns-in_err-append_reference-in-Some-Reference-default-clause-fault c =
    let wide = is_wide c.args.profile in
    let name = c.in-Some-Reference-default.name.now in
    let use_of = shown_use c.in-Some-Reference-default.use_of in
    let after = c.in-Some-Reference-default.after.now in
    let at : ahead wide (left_shown c.pieces.left) ≡ first (reference name use_of) after = ap (λ l. ahead wide (left_shown l)) c.in-Text.is ∙ sym c.in-Some-Reference-default.ensures.front ∙ ap (λ p. first (shown_piece p) after) c.in-Some-Reference-default.field-0-0-is in
    let p = err_from_is_err_and c.from_residual-in_err-append_reference-in-Some-Reference-default.result c.from_residual-in_err-append_reference-in-Some-Reference-default.ensures.1 in
    rw (p.1, p.2) (reference_fault wide (meaning_of (ranks_at c.args.self.now.texts) c.args.line.now) c.args.text.now (progress_at c.pieces.progress) (stack_of c.pieces.callers.items) c.pieces.made.items (left_shown c.pieces.left) c.pieces.invariant
    name use_of after at _ c.in_err-append_reference-in-Some-Reference-default.ensures.err)

pub pieces-preserved-in-None-2 : goal.pieces-preserved-in-None-2
pieces-preserved-in-None-2 c =
    let wide = is_wide c.args.profile in
    let meaning = meaning_of (ranks_at c.args.self.now.texts) c.args.line.now in
    let name = c.in-Some-Reference-default.name.now in
    let use_of = shown_use c.in-Some-Reference-default.use_of in
    let after = c.in-Some-Reference-default.after.now in
    let made = c.append_reference-in-Some-Reference-default.new.made.items in
    let at : ahead wide (left_shown c.pieces.left) ≡ first (reference name use_of) after = ap (λ l. ahead wide (left_shown l)) c.in-Text.is ∙ sym c.in-Some-Reference-default.ensures.front ∙ ap (λ p. first (shown_piece p) after) c.in-Some-Reference-default.field-0-0-is in
    let f : Finds (limit (is_wide c.args.profile)) (function_in (is_wide c.args.profile) name) (meaning name) (progress_at c.pieces.progress name) use_of name c.pieces.made.items made None =
    subst (λ found. Finds (limit (is_wide c.args.profile)) (function_in (is_wide c.args.profile) name) (meaning name) (progress_at c.pieces.progress name) use_of name c.pieces.made.items made found) c.in-None-2.is c.in_ok-append_reference-in-Some-Reference-default.ensures.ok in
    reference_step wide meaning c.args.text.now (progress_at c.pieces.progress) (stack_of c.pieces.callers.items) c.pieces.made.items (left_shown c.pieces.left) c.pieces.invariant
    name use_of after at f.0 made f.1 f.2 f.3

pub pieces-smaller : goal.pieces-smaller
pieces-smaller c =
    let meaning = meaning_of (ranks_at c.args.self.now.texts) c.args.line.now in
    let name = c.in-Some-Reference-default.name.now in
    let use_of = shown_use c.in-Some-Reference-default.use_of in
    let state = progress_at c.pieces.progress in
    let made = c.append_reference-in-Some-Reference-default.new.made.items in
    let f : Finds (limit (is_wide c.args.profile)) (function_in (is_wide c.args.profile) name) (meaning name) (state name) use_of name c.pieces.made.items made (Some (c.in-Some-2.name, c.in-Some-2.text)) =
    subst (λ found. Finds (limit (is_wide c.args.profile)) (function_in (is_wide c.args.profile) name) (meaning name) (state name) use_of name c.pieces.made.items made found) c.in-Some-2.is c.in_ok-append_reference-in-Some-Reference-default.ensures.ok in
    let has = ap (λ n. in_force (ranks_at c.args.self.now.texts n)) f.0 ∙ defined_from (dynamic_value c.args.line.now name) (in_force (ranks_at c.args.self.now.texts name)) c.in-Some-2.text.now f.1 in
    let sets = progress-insert c.pieces.progress c.insert-in-Some-2.new.self c.in-Some-2.name Opened c.in_ok-insert-in-Some-2-2.ensures.updates in
    let unseen_falls = unseen_cost-enter state (progress_at c.insert-in-Some-2.new.self) c.in-Some-2.name.now c.in-Some-2.text.now (ap state f.0 ∙ f.2) sets c.args.self.now.texts has in
    let after : callers_cost c.push-in-Some-2.new.self.items ≡ callers_cost c.pieces.callers.items + (length c.in-Text.rest.now + 1) = ap callers_cost c.in_ok-push-in-Some-2.ensures.items ∙ callers_cost-push c.pieces.callers.items _ in
    let before : left_cost c.pieces.left ≡ length c.in-Text.rest.now = ap left_cost c.in-Text.is in
    omega (arith, unseen_falls, after, before)

pub pieces-preserved : goal.pieces-preserved
pieces-preserved c =
    let wide = is_wide c.args.profile in
    let meaning = meaning_of (ranks_at c.args.self.now.texts) c.args.line.now in
    let name = c.in-Some-Reference-default.name.now in
    let use_of = shown_use c.in-Some-Reference-default.use_of in
    let after = c.in-Some-Reference-default.after.now in
    let state = progress_at c.pieces.progress in
    let made = c.append_reference-in-Some-Reference-default.new.made.items in
    let f : Finds (limit (is_wide c.args.profile)) (function_in (is_wide c.args.profile) name) (meaning name) (state name) use_of name c.pieces.made.items made (Some (c.in-Some-2.name, c.in-Some-2.text)) =
    subst (λ found. Finds (limit (is_wide c.args.profile)) (function_in (is_wide c.args.profile) name) (meaning name) (state name) use_of name c.pieces.made.items made found) c.in-Some-2.is c.in_ok-append_reference-in-Some-Reference-default.ensures.ok in
    let at : ahead wide (at_text c.in-Text.rest.now) ≡ first (reference c.in-Some-2.name.now use_of) after =
    sym c.in-Some-Reference-default.ensures.front ∙ ap (λ p. first (shown_piece p) after) c.in-Some-Reference-default.field-0-0-is ∙ ap (λ n. first (reference n use_of) after) (sym f.0) in
    let now : IsExpanding wide meaning c.args.text.now state (stack_of c.pieces.callers.items) c.pieces.made.items (at_text c.in-Text.rest.now) =
    subst (λ l. IsExpanding wide meaning c.args.text.now state (stack_of c.pieces.callers.items) c.pieces.made.items (left_shown l)) c.in-Text.is c.pieces.invariant in
    let sets = progress-insert c.pieces.progress c.insert-in-Some-2.new.self c.in-Some-2.name Opened c.in_ok-insert-in-Some-2-2.ensures.updates in
    let stack = ap stack_of c.in_ok-push-in-Some-2.ensures.items ∙ stack_of-push c.pieces.callers.items _ in
    rw (stack, c.new-made-in-Some-2.ensures.items, f.3)
    (enter wide meaning c.args.text.now state (progress_at c.insert-in-Some-2.new.self) (stack_of c.pieces.callers.items) c.pieces.made.items (at_text c.in-Text.rest.now)
    c.in-Some-2.name.now use_of after c.in-Some-2.text.now now at (ap meaning f.0 ∙ f.1) (ap state f.0 ∙ f.2) sets)

pub pieces-smaller-then-is_own_value : goal.pieces-smaller-then-is_own_value
pieces-smaller-then-is_own_value c =
    let meaning = meaning_of (ranks_at c.args.self.now.texts) c.args.line.now in
    let name = c.in-Some-Reference-default.name.now in
    let use_of = shown_use c.in-Some-Reference-default.use_of in
    let state = progress_at c.pieces.progress in
    let made = c.append_reference-in-Some-Reference-default.new.made.items in
    let f : Finds (limit (is_wide c.args.profile)) (function_in (is_wide c.args.profile) name) (meaning name) (state name) use_of name c.pieces.made.items made (Some (c.in-Some-2.name, c.in-Some-2.text)) =
    subst (λ found. Finds (limit (is_wide c.args.profile)) (function_in (is_wide c.args.profile) name) (meaning name) (state name) use_of name c.pieces.made.items made found) c.in-Some-2.is c.in_ok-append_reference-in-Some-Reference-default.ensures.ok in
    let has = ap (λ n. in_force (ranks_at c.args.self.now.texts n)) f.0 ∙ defined_from (dynamic_value c.args.line.now name) (in_force (ranks_at c.args.self.now.texts name)) c.in-Some-2.text.now f.1 in
    let kept = c.in_ok-value-in-Some-2.value in
    let set = progress-insert c.pieces.progress c.insert-then-is_own_value.new.self c.in-Some-2.name (Known kept) c.in_ok-insert-in-Some-2.ensures.updates in
    let sets = subst (λ v. SetsProgress state c.in-Some-2.name.now (known v) (progress_at c.insert-then-is_own_value.new.self)) c.in_ok-value-in-Some-2.ensures.items set in
    let unseen_falls = unseen_cost-know state (progress_at c.insert-then-is_own_value.new.self) c.in-Some-2.name.now c.in-Some-2.text.now (ap state f.0 ∙ f.2) sets c.args.self.now.texts has in
    let before : left_cost c.pieces.left ≡ length c.in-Text.rest.now = ap left_cost c.in-Text.is in
    omega (arith, unseen_falls, before)

pub pieces-preserved-then-is_own_value : goal.pieces-preserved-then-is_own_value
pieces-preserved-then-is_own_value c =
    let wide = is_wide c.args.profile in
    let meaning = meaning_of (ranks_at c.args.self.now.texts) c.args.line.now in
    let name = c.in-Some-Reference-default.name.now in
    let use_of = shown_use c.in-Some-Reference-default.use_of in
    let state = progress_at c.pieces.progress in
    let made = c.append_reference-in-Some-Reference-default.new.made.items in
    let f : Finds (limit (is_wide c.args.profile)) (function_in (is_wide c.args.profile) name) (meaning name) (state name) use_of name c.pieces.made.items made (Some (c.in-Some-2.name, c.in-Some-2.text)) =
    subst (λ found. Finds (limit (is_wide c.args.profile)) (function_in (is_wide c.args.profile) name) (meaning name) (state name) use_of name c.pieces.made.items made found) c.in-Some-2.is c.in_ok-append_reference-in-Some-Reference-default.ensures.ok in
    let now : IsExpanding wide meaning c.args.text.now state (stack_of c.pieces.callers.items) c.pieces.made.items (at_text c.in-Text.rest.now) =
    subst (λ l. IsExpanding wide meaning c.args.text.now state (stack_of c.pieces.callers.items) c.pieces.made.items (left_shown l)) c.in-Text.is c.pieces.invariant in
    let kept = c.in_ok-value-in-Some-2.value in
    let set = progress-insert c.pieces.progress c.insert-then-is_own_value.new.self c.in-Some-2.name (Known kept) c.in_ok-insert-in-Some-2.ensures.updates in
    let sets = subst (λ v. SetsProgress state c.in-Some-2.name.now (known v) (progress_at c.insert-then-is_own_value.new.self)) c.in_ok-value-in-Some-2.ensures.items set in
    let own = c.is_own_value.ensures c.if-is_own_value.true in
    rw f.3
    (know wide meaning c.args.text.now state (progress_at c.insert-then-is_own_value.new.self) (stack_of c.pieces.callers.items) c.pieces.made.items (at_text c.in-Text.rest.now)
    c.in-Some-2.name.now c.in-Some-2.text.now now (ap meaning f.0 ∙ f.1) (ap state f.0 ∙ f.2) (plain_expands_in wide meaning c.in-Some-2.text.now own.0 own.1) sets)
