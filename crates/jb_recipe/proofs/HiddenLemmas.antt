-- Names that are mentioned one after the other.
use Rattle.std.proofs.Common.{◌≡◌, ◌∙◌, ℕ, List, [], ◌++◌, sym, ap}
use Rattle.std.proofs.lemmas.List.{append-nil}
use Rattle.mk_names.specs.Names.{all_added}
use Rattle.mk_names.proofs.NameLemmas.{all_added-append}
use Rattle.jb_recipe.specs.Hidden.{AreHidden, AreMore, no_hidden}

-- of two lists, one behind the other
pub one_list : (target : List ℕ) (known first second names none between all found new : List (List ℕ)) →
    names ≡ no_hidden target known → none ≡ [] → AreMore names none first between found → AreMore between found second all new →
    AreHidden target known (first ++ second) new
one_list target known first second names none between all found new is empty one two =
    ap (λ ns. all_added ns (first ++ second)) (sym is)
    ∙ all_added-append names first second
    ∙ ap (λ ns. all_added ns second) (sym one.all)
    ∙ sym two.all
    ∙ two.new names (one.new names (sym (append-nil names) ∙ ap (λ ns. names ++ ns) (sym empty)))
    ∙ ap (λ ns. ns ++ new) is
