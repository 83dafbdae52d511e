use Rattle.std.proofs.Common.{◌≡◌, ℕ, ◌+◌, ◌<◌, List, [], ◌∷◌, ◌++◌, length, get_or, ◌∙◌, ap, arith, below_more}
use Rattle.std.proofs.lemmas.List.{get_or_append_left, get_or_push, length_push}
use Rattle.st_memory.specs.PowerCut.{cut_byte}
use Rattle.st_memory.proofs.power_cut.cut_bytes.Goals as goal

-- one byte more, which is as those before it
each-push : (byte : ℕ → ℕ) (old new : List ℕ) (n x : ℕ) → new ≡ old ++ x ∷ [] → length old ≡ n → ((k : ℕ) → k < n → get_or old k 0 ≡ byte k) → x ≡ byte n → (k : ℕ) → k < n + 1 → get_or new k 0 ≡ byte k
each-push byte old new n x more long each last =
    below_more (λ k. get_or new k 0 ≡ byte k) n
    (λ k below. ap (λ l. get_or l k 0) more ∙ get_or_append_left old (x ∷ []) 0 k (omega (arith, below, long)) ∙ each k below)
    (ap (λ l. get_or l n 0) more ∙ get_or_push old x 0 n long ∙ last)

pub loop-place-preserved : goal.loop-place-preserved
loop-place-preserved c =
    let more : c.push.new.self.items ≡ c.loop-place.bytes.items ++ c.next_byte.result ∷ [] = c.in_ok-push.ensures.items in
    record {
      long = ap length more ∙ length_push c.loop-place.bytes.items c.next_byte.result ∙ ap (λ n. n + 1) c.loop-place.invariant.long;
      count = c.next_byte.ensures.count;
      few = omega (arith, c.next_byte.ensures.few, c.loop-place.invariant.few);
      each = each-push (cut_byte c.args.synced.now c.args.ranges.now c.args.fill.now) _ _ _ _ more c.loop-place.invariant.long c.loop-place.invariant.each c.next_byte.ensures.byte;
    }
