-- The lines that are run in a dry run too, as they are found while nodes are passed.
use Rattle.std.proofs.Common.{◌≡◌, ◌+◌, ◌∙◌, ℕ, Bool, List, [], ◌∷◌, ◌++◌, length, refl, sym, ap, arith, append_assoc, append-nil, length-append}
use Rattle.std.specs.List.{flat_map}
use Rattle.mk_names.specs.Names.{name_at}
use Rattle.mk_plan.specs.Passage.{Passage, to_make}
use Rattle.mk_plan.specs.Passing.{told_in}
use Rattle.mk_plan.specs.Telling.{lines_about}
use Rattle.mk_plan.specs.declared.passing.Passed.{Passed}
use Rattle.mk_plan.specs.declared.passing.Passed.TheVariants as passed
use Rattle.mk_plan.specs.declared.telling.Telling.{Telling}
use Rattle.mk_nodes.specs.declared.graph.Graph.{Graph}
use Rattle.dmk_dry.specs.AlwaysRun.{always_in, always_of, always_passed, always_from, lines_run_always}
use Rattle.dmk_dry.specs.Listing.{text_of, passage_text, listing_text}

-- those of more targets stand behind the text of the first ones
pub always_more : (telling : Telling) (recipes : Bool) (place : ℕ) (listed front : List Passage) →
    always_from telling recipes place (listed ++ front)
    ≡ always_from telling recipes place listed ++ always_from telling recipes (place + length (listing_text telling recipes listed)) front
unfolding always_from
always_more telling recipes place [] front =
    let none : place ≡ place + 0 = omega arith in
    ap (λ at. always_from telling recipes at front) none
always_more telling recipes place (p ∷ listed) front =
    let text : List ℕ = passage_text telling recipes p in
    let rest : List ℕ = listing_text telling recipes listed in
    let next : ℕ = place + length text in
    let far : next + length rest ≡ place + length (text ++ rest) = omega (arith, length-append text rest) in
    ap (λ l. always_of telling recipes place p ++ l)
    (always_more telling recipes next listed front
    ∙ ap (λ at. always_from telling recipes next listed ++ always_from telling recipes at front) far)
    ∙ sym (append_assoc (always_of telling recipes place p) (always_from telling recipes next listed)
    (always_from telling recipes (place + length (text ++ rest)) front))

-- those of a node that was passed stand behind what is told of it
pub passed_always : (telling : Telling) (recipes : Bool) (place : ℕ) (graph : Graph) (n : ℕ) (p : Passed) →
    always_passed recipes (name_at graph.names n) (place + length (text_of (flat_map (lines_about telling) (told_in graph n p)))) p
    ≡ always_from telling recipes place (told_in graph n p)
unfolding always_from
passed_always telling recipes place graph n (passed.Listed why lines) =
    let target : List ℕ = name_at graph.names n in
    let told : List (List ℕ) = lines_about telling (to_make target why lines.items) in
    ap (λ ls. always_in recipes target (place + length (text_of ls)) lines.items) (append-nil told)
    ∙ sym (append-nil (always_in recipes target (place + length (text_of told)) lines.items))
passed_always telling recipes place graph n passed.Remade = refl
passed_always telling recipes place graph n passed.UpToDate = refl
passed_always telling recipes place graph n passed.Left = refl

-- those of more targets among all
pub lines_more : (telling : Telling) (recipes : Bool) (listed front : List Passage) →
    lines_run_always telling recipes listed ++ always_from telling recipes (length (listing_text telling recipes listed)) front
    ≡ lines_run_always telling recipes (listed ++ front)
unfolding always_from
lines_more telling recipes listed front =
    let text : List ℕ = listing_text telling recipes listed in
    let from : length text ≡ 0 + length text = omega arith in
    ap (λ at. lines_run_always telling recipes listed ++ always_from telling recipes at front) from
    ∙ sym (always_more telling recipes 0 listed front)
