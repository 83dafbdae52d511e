use Rattle.std.proofs.Common.{◌≡◌, ◌+◌, ◌++◌, length, ap, ◌∙◌, List, ℕ, suc, arith, rules, append_assoc}
use Rattle.std.specs.Int.{w32, from_le_bytes}
use Rattle.std.proofs.lemmas.Nat.{from_le_bytes-to_le_bytes_4}
use Rattle.byte_strings.proofs.TextLemmas.{AreTexts-few, texts-push, AreTexts-push}
use Rattle.byte_strings.proofs.byte_strings.ByteStrings.push.Goals as goal

pub overflow_add-self : goal.overflow_add-self
overflow_add-self c =
    let few = AreTexts-few c.self.inside.count c.self.inside.bytes.items c.self.invariant in
    search (rules, few)

pub invariant_of-self-2 : goal.invariant_of-self-2
invariant_of-self-2 c =
    let bytes : List ℕ = c.self.inside.bytes.items in
    let front : List ℕ = c.to_le_bytes.result in
    let fits : c.in-Ok.len ≡ length c.args.string.now = search rules in
    let room : c.reserve.new.self.items ≡ bytes = search rules in
    let first : c.extend_from_slice.new.self.items ≡ bytes ++ front = rw c.unwrap.ensures at c.extend_from_slice.ensures.items ∙ ap (λ (xs : List ℕ). xs ++ front) room in
    let whole : c.extend_from_slice-2.new.self.items ≡ bytes ++ (front ++ c.args.string.now) =
    rw c.unwrap-2.ensures at c.extend_from_slice-2.ensures.items ∙ ap (λ (xs : List ℕ). xs ++ c.args.string.now) first ∙ append_assoc bytes front c.args.string.now in
    let four : length front ≡ 4 = search rules in
    let reads : from_le_bytes w32 front ≡ length c.args.string.now = rw c.to_le_bytes.ensures (from_le_bytes-to_le_bytes_4 c.in-Ok.len (search rules) ∙ fits) in
    let more : c.self.inside.count + 1 ≡ suc c.self.inside.count = omega arith in
    rw (whole, more) (AreTexts-push c.self.inside.count bytes front c.args.string.now c.self.invariant four reads)

pub returns-clause-ok : goal.returns-clause-ok
returns-clause-ok c =
    let bytes : List ℕ = c.self.inside.bytes.items in
    let front : List ℕ = c.to_le_bytes.result in
    let fits : c.in-Ok.len ≡ length c.args.string.now = search rules in
    let room : c.reserve.new.self.items ≡ bytes = search rules in
    let first : c.extend_from_slice.new.self.items ≡ bytes ++ front = rw c.unwrap.ensures at c.extend_from_slice.ensures.items ∙ ap (λ (xs : List ℕ). xs ++ front) room in
    let whole : c.extend_from_slice-2.new.self.items ≡ bytes ++ (front ++ c.args.string.now) =
    rw c.unwrap-2.ensures at c.extend_from_slice-2.ensures.items ∙ ap (λ (xs : List ℕ). xs ++ c.args.string.now) first ∙ append_assoc bytes front c.args.string.now in
    let four : length front ≡ 4 = search rules in
    let reads : from_le_bytes w32 front ≡ length c.args.string.now = rw c.to_le_bytes.ensures (from_le_bytes-to_le_bytes_4 c.in-Ok.len (search rules) ∙ fits) in
    let more : c.self.inside.count + 1 ≡ suc c.self.inside.count = omega arith in
    rw (whole, more, ← c.self.view_is) (texts-push c.self.inside.count bytes front c.args.string.now c.self.invariant four reads)
