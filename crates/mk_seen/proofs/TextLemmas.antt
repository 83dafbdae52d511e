-- Names of hidden prerequisites where all names of a graph are UTF-8.
use Rattle.std.specs.List.{list_all}
use Rattle.std.specs.Str.{is_utf8}
use Rattle.std.proofs.Common.{◌≡◌, ℕ, zero, suc, Bool, true, false, not, ◌&&◌, ◌||◌, List, [], ◌∷◌, Option, Some, None, refl, sym, arith}
use Rattle.std.proofs.lemmas.Str.{IsUtf8-from_ascii, is_utf8-from_IsUtf8}
use Rattle.mk_names.specs.Names.{name_at}
use Rattle.mk_nodes.specs.declared.graph.Graph.{Graph}
use Rattle.mk_seen.specs.Leaving.{has_text_name}
use Rattle.mk_seen.specs.TextNames.{HasTextNames}

both : (a b : Bool) → (a && b) ≡ true → (a ≡ true) × (b ≡ true)
both true b e = (refl, e)
both false b e = absurd cc

both_true : (a b : Bool) → a ≡ true → b ≡ true → (a && b) ≡ true
both_true a b e f = rw (e, f) refl

text_at : (names : List (List ℕ)) → list_all is_utf8 names ≡ true → (n : ℕ) → is_utf8 (name_at names n) ≡ true
text_at [] all n = is_utf8-from_IsUtf8 [] (IsUtf8-from_ascii [] (λ i. omega arith))
text_at (name ∷ names) all zero = (both (is_utf8 name) (list_all is_utf8 names) all).0
text_at (name ∷ names) all (suc n) = text_at names (both (is_utf8 name) (list_all is_utf8 names) all).1 n

texts_at : (graph : Graph) → HasTextNames graph → (hidden : List (Option ℕ)) → list_all (has_text_name graph) hidden ≡ true
texts_at graph texts [] = refl
texts_at graph texts (None ∷ hidden) = texts_at graph texts hidden
texts_at graph texts (Some m ∷ hidden) = both_true (is_utf8 (name_at graph.names m)) _ (text_at graph.names texts m) (texts_at graph texts hidden)

or_true : (a b : Bool) → b ≡ true → true ≡ (a || b)
or_true true b e = refl
or_true false b e = sym e

pub readable : (keeping : Bool) (graph : Graph) → HasTextNames graph → (hidden : List (Option ℕ)) → true ≡ (not keeping || list_all (has_text_name graph) hidden)
readable keeping graph texts hidden = or_true (not keeping) (list_all (has_text_name graph) hidden) (texts_at graph texts hidden)
