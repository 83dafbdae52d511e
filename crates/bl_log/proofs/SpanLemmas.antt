-- What is read of a list of spans.
use Rattle.std.proofs.Common.{◌≡◌, ◌∙◌, ◌-◌, ◌<◌, ℕ, List, length, get_or, ap, sym}
use Rattle.std.proofs.lemmas.List.{get_or-map}
use Rattle.bl_log.specs.declared.span.Span.{Span}
use Rattle.bl_log.specs.Spans.{time, begin_of, end_of, time_of}

pub begin_at : (spans : List Span) (n : ℕ) (s : Span) → n < length spans → s ≡ get_or spans n s → begin_of spans n ≡ s.begin
begin_at spans n s h is = get_or-map (λ (x : Span). x.begin) spans n s 0 h ∙ ap (λ (x : Span). x.begin) (sym is)

pub end_at : (spans : List Span) (n : ℕ) (s : Span) → n < length spans → s ≡ get_or spans n s → end_of spans n ≡ s.end
end_at spans n s h is = get_or-map (λ (x : Span). x.end) spans n s 0 h ∙ ap (λ (x : Span). x.end) (sym is)

pub time_at : (spans : List Span) (n : ℕ) (s : Span) → n < length spans → s ≡ get_or spans n s → time_of spans n ≡ s.end - s.begin
time_at spans n s h is = get_or-map time spans n s 0 h ∙ ap time (sym is)
