use Rattle.std.proofs.Common.{◌≡◌, ◌+◌, ℕ, List, ◌++◌, length, length-append, append_assoc, ap, ◌∙◌}
use Rattle.mk_names.specs.Names.{name_at}
use Rattle.dmk_dry.specs.AlwaysRun.{always_passed}
use Rattle.dmk_dry.specs.declared.always_run.AlwaysRun.{AlwaysRun}
use Rattle.dmk_dry.specs.Listing.{recipe_in, text_of}
use Rattle.dmk_dry.proofs.AlwaysLemmas.{passed_always}
use Rattle.dmk_dry.proofs.PassingLemmas.{passed_text}
use Rattle.dmk_dry.proofs.passing.Listing.add.Goals as goal

pub returns-clause-text : goal.returns-clause-text
returns-clause-text c =
    let old = c.args.self.now.text.items in
    let recipe = recipe_in c.args.shows.recipes c.args.passed.now in
    c.in_ok-add_recipe.ensures.text ∙ ap (λ t. t ++ recipe) c.in_ok-append_told.ensures ∙ append_assoc old (text_of c.in_ok-told.told) recipe
    ∙ ap (λ told. old ++ (text_of told ++ recipe)) c.in_ok-told.ensures
    ∙ ap (λ t. old ++ t) (passed_text c.args.shows.telling c.args.shows.recipes c.args.graph.now c.args.node c.args.passed.now)

pub returns-clause-always : goal.returns-clause-always
returns-clause-always c =
    let old : List ℕ = c.args.self.now.text.items in
    let always : List AlwaysRun = c.args.self.now.always.items in
    let telling = c.args.shows.telling in
    let recipes = c.args.shows.recipes in
    let graph = c.args.graph.now in
    let n = c.args.node in
    let p = c.args.passed.now in
    let told : List (List ℕ) = c.in_ok-told.told in
    let far : length (old ++ text_of told) ≡ length old + length (text_of told) = length-append old (text_of told) in
    c.in_ok-add_recipe.ensures.always
    ∙ ap (λ target. always ++ always_passed recipes target (length c.append_told.new.text.items) p) c.name_of.ensures
    ∙ ap (λ t. always ++ always_passed recipes (name_at graph.names n) (length t) p) c.in_ok-append_told.ensures
    ∙ ap (λ at. always ++ always_passed recipes (name_at graph.names n) at p) far
    ∙ ap (λ ls. always ++ always_passed recipes (name_at graph.names n) (length old + length (text_of ls)) p) c.in_ok-told.ensures
    ∙ ap (λ l. always ++ l) (passed_always telling recipes (length old) graph n p)
