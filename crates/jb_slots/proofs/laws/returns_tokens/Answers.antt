use Rattle.std.proofs.Common.{Some, None}
use Rattle.jb_slots.proofs.TokensLemmas.{HasUsed-owes, Owes-returns, Owes-all}
use Rattle.jb_slots.proofs.laws.returns_tokens.Goals as goal

pub returns : goal.returns
returns c = record {
  always = λ start now held all used. Owes-returns now held (HasUsed-owes start now held all used);
  held = λ start now token all used. HasUsed-owes start now (Some (Some token)) all used;
  none_held = λ start now all used fine. Owes-all now (HasUsed-owes start now None all used) fine;
}
