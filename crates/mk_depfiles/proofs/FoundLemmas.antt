-- Names line by line.
use Rattle.std.proofs.Common.{◌≡◌, ℕ, ◌+◌, List, ◌∷◌, ◌++◌, Option, None, Ok, Err, refl, sym, ap, subst, ◌∙◌, append_assoc}
use Rattle.mk_depfiles.specs.Lines.{newlines}
use Rattle.mk_depfiles.specs.Rule.{line_names}
use Rattle.mk_depfiles.specs.Depfile.{Found, joined, then_found, names_of_lines}
use Rattle.mk_depfiles.specs.Gathering.{Adds}
use Rattle.mk_depfiles.specs.declared.refusal.Cause.{Cause}

joined_more : (xs ys : List (List ℕ)) (r : Found) → joined (xs ++ ys) r ≡ joined xs (joined ys r)
joined_more xs ys (Ok rest) = ap Ok (append_assoc xs ys rest)
joined_more xs ys (Err refused) = refl

-- one line more
pub line_found : (names new : List (List ℕ)) (number next : ℕ) (line : List ℕ) (more ls : List (List ℕ)) (told : Option Cause) (all : Found) → ls ≡ line ∷ more →
    told ≡ None → Adds (line_names line) names new told → next ≡ number + (newlines line + 1) → joined names (names_of_lines number ls) ≡ all → joined new (names_of_lines next more) ≡ all
line_found names new number next line more ls told all at none adds step gathered =
    let added = subst (Adds (line_names line) names new) none adds in
    let rest = names_of_lines (number + (newlines line + 1)) more in
    ap (λ n. joined new (names_of_lines n more)) step ∙ ap (λ ns. joined ns rest) added.2 ∙ joined_more names added.0 rest
    ∙ ap (λ found. joined names (then_found number found rest)) (sym added.1) ∙ ap (λ l. joined names (names_of_lines number l)) (sym at) ∙ gathered
