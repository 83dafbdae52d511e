use Rattle.std.proofs.Common.{◌≡◌, ◌++◌, length, ap, ◌∙◌, [], ◌∷◌, List, ℕ, arith, length-append}
use Rattle.byte_strings.proofs.PieceLemmas.{pieces-push, AreEnds-push}
use Rattle.mk_names.proofs.texts.Texts.push.Goals as goal

pub invariant_of-self-2 : goal.invariant_of-self-2
invariant_of-self-2 c =
    let text : List ℕ = c.self.inside.bytes.items in
    let ends : List ℕ = c.self.inside.ends.items in
    let bytes : c.extend_from_slice.new.self.items ≡ text ++ c.args.string.now = c.in_ok-extend_from_slice.ensures.items in
    let size : c.in-Ok.end ≡ length (text ++ c.args.string.now) = omega (arith, c.in-Ok.ensures, length-append text c.args.string.now) in
    let pushed : c.push_reserved.new.self.items ≡ ends ++ c.in-Ok.end ∷ [] = c.push_reserved.ensures.items ∙ ap (λ (xs : List ℕ). xs ++ c.in-Ok.end ∷ []) c.make_room.ensures.items in
    rw (bytes, pushed) (AreEnds-push text c.args.string.now c.in-Ok.end 0 ends c.self.invariant size)

pub returns-clause-ok : goal.returns-clause-ok
returns-clause-ok c =
    let text : List ℕ = c.self.inside.bytes.items in
    let ends : List ℕ = c.self.inside.ends.items in
    let bytes : c.extend_from_slice.new.self.items ≡ text ++ c.args.string.now = c.in_ok-extend_from_slice.ensures.items in
    let size : c.in-Ok.end ≡ length (text ++ c.args.string.now) = omega (arith, c.in-Ok.ensures, length-append text c.args.string.now) in
    let pushed : c.push_reserved.new.self.items ≡ ends ++ c.in-Ok.end ∷ [] = c.push_reserved.ensures.items ∙ ap (λ (xs : List ℕ). xs ++ c.in-Ok.end ∷ []) c.make_room.ensures.items in
    rw (bytes, pushed, ← c.self.view_is) (pieces-push text c.args.string.now c.in-Ok.end 0 ends c.self.invariant size)
