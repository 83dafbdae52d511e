-- What definitions at one rank leave, name by name.
use mathlib.Core.Path.{fun_ext}
use mathlib.Core.List.{reverse-append}
use Rattle.std.specs.Prelude.{map, reverse, find, bytes_eq, option_map, codes}
use Rattle.std.proofs.Common.{◌≡◌, ◌∙◌, ◌+◌, ◌<◌, length, take, add-one, ℕ, Bool, true, false, cond, List, [], ◌∷◌, ◌++◌, Option, Some, None, refl, sym, ap}
use Rattle.std.proofs.lemmas.Slice.Eq.{bytes_eq-Decides}
use Rattle.std.proofs.Math.ListN.{get_or}
use Rattle.std.proofs.Math.Seq.{take-suc}
use Rattle.std.proofs.lemmas.List.{map-append}
use Rattle.mk_profile.specs.Profile.{is_wide}
use Rattle.mk_profile.specs.declared.profile.Profile.{Profile}
use Rattle.mk_macros.specs.Ranks.{Ranks, no_ranks, with_rank, redefined, with_text, Defined, Listed, none_listed, defined_by}
use Rattle.mk_macros.specs.declared.definitions.Rank.{Rank}
use Rattle.mk_macros.specs.declared.definitions.Rank.TheVariants.{CommandLine, Makefile, Environment, Tool}
use Rattle.bd_lists.specs.declared.recipe.Variable.{Variable}
use Rattle.dmk_reading.specs.Keeping.{is_named}
use Rattle.dmk_reading.specs.Definitions.{last_value, variable, tool_macros, environment_macros, with_last, first_ranks, first_defined}

-- the later text counts
over : (r : Ranks) (rank : Rank) (o : Option (List ℕ)) (text : List ℕ) → with_rank (with_last r rank o) rank text ≡ with_rank r rank text
over r rank None text = refl
over r CommandLine (Some before) text = refl
over r Makefile (Some before) text = refl
over r Environment (Some before) text = refl
over r Tool (Some before) text = refl

module _ (language : Profile) (ranks old : List ℕ → Ranks) (rank : Rank) (v : Variable) (before : List Variable)
    (so_far : (name : List ℕ) → ranks name ≡ with_last (old name) rank (last_value before name)) (name : List ℕ) where
  by_test : (b : Bool) → bytes_eq name v.name ≡ b →
      cond b (redefined language (ranks v.name) rank v.value false) (ranks name)
      ≡ with_last (old name) rank (option_map (λ w. w.value) (cond b (Some v) (find (is_named name) (reverse before))))
  by_test true e =
      ap (λ n. with_rank (ranks n) rank v.value) (sym ((bytes_eq-Decides name v.name).0 e))
      ∙ ap (λ r. with_rank r rank v.value) (so_far name)
      ∙ over (old name) rank (last_value before name) v.value
  by_test false e = so_far name

  pub one_more : (all : List Variable) → all ≡ before ++ v ∷ [] →
      with_text language ranks rank v.name v.value false name ≡ with_last (old name) rank (last_value all name)
  one_more all is =
      by_test (bytes_eq name v.name) refl
      ∙ ap (λ vs. with_last (old name) rank (option_map (λ w. w.value) (find (is_named name) vs)))
      (sym (reverse-append before (v ∷ [])) ∙ ap reverse (sym is))

-- the shell that runs recipes
abbrev shell : Variable
shell = variable (codes "SHELL") (codes "/bin/sh")

-- so it is where a table has the variables
one_more_entry : {E : Type 0} (language : Profile) (v : E) (of : E → Variable) (ranks old : List ℕ → Ranks) (rank : Rank) (before all : List E) → all ≡ before ++ v ∷ [] →
    ((name : List ℕ) → ranks name ≡ with_last (old name) rank (last_value (map of before) name)) → (name : List ℕ) →
    with_text language ranks rank (of v).name (of v).value false name ≡ with_last (old name) rank (last_value (map of all) name)
one_more_entry language v of ranks old rank before all is so_far name =
    one_more language ranks old rank (of v) (map of before) so_far name (map of all) (ap (map of) is ∙ map-append of before (v ∷ []))

-- so the table's part goes on by the entry that stands behind it
pub one_more_at : {E : Type 0} (language : Profile) (all : List E) (i : ℕ) (d : E) → i < length all → (of : E → Variable) (ranks old : List ℕ → Ranks) (rank : Rank) →
    ((name : List ℕ) → ranks name ≡ with_last (old name) rank (last_value (map of (take i all)) name)) → (name : List ℕ) →
    with_text language ranks rank (of (get_or all i d)).name (of (get_or all i d)).value false name ≡ with_last (old name) rank (last_value (map of (take (i + 1) all)) name)
one_more_at language all i d below of ranks old rank so_far name =
    one_more_entry language (get_or all i d) of ranks old rank (take i all) (take (i + 1) all) (ap (λ k. take k all) (add-one i) ∙ take-suc all i d below) so_far name

-- what the environment gives, by the language
module _ (profile : Profile) (environment : List Variable) where
  pub wide_environment : is_wide profile ≡ true → (ranks old : List ℕ → Ranks) →
      ((name : List ℕ) → ranks name ≡ with_last (old name) Environment (last_value environment name)) → (name : List ℕ) →
      with_text profile ranks Environment (codes "SHELL") (codes "/bin/sh") false name ≡ with_last (old name) Environment (last_value (environment_macros profile environment) name)
  wide_environment wide ranks old so_far name =
      one_more profile ranks old Environment shell environment so_far name (environment_macros profile environment) (ap (λ b. cond b (environment ++ shell ∷ []) environment) wide)

  pub strict_environment : is_wide profile ≡ false → (ranks old : List ℕ → Ranks) →
      ((name : List ℕ) → ranks name ≡ with_last (old name) Environment (last_value environment name)) → (name : List ℕ) →
      ranks name ≡ with_last (old name) Environment (last_value (environment_macros profile environment) name)
  strict_environment strict ranks old so_far name =
      so_far name
      ∙ ap (λ vs. with_last (old name) Environment (last_value vs name)) (sym (ap (λ b. cond b (environment ++ shell ∷ []) environment) strict))

-- a name has what each rank has for it
each_rank : (t e d : Option (List ℕ)) →
    with_last (with_last (with_last no_ranks Tool t) Environment e) CommandLine d
    ≡ record { command_line = d; makefile = None; environment = e; tool = t; is_fixed = false }
each_rank None None None = refl
each_rank None None (Some d) = refl
each_rank None (Some e) None = refl
each_rank None (Some e) (Some d) = refl
each_rank (Some t) None None = refl
each_rank (Some t) None (Some d) = refl
each_rank (Some t) (Some e) None = refl
each_rank (Some t) (Some e) (Some d) = refl

-- what is defined, by its language and by what each name has
abbrev in_language : Profile → (List ℕ → Ranks) → Defined
in_language profile ranks = record { language = profile; ranks = ranks }

pub all_ranks : (profile : Profile) (definitions environment own : List Variable) → own ≡ tool_macros profile environment → (none tool below all : Listed) →
    none ≡ none_listed profile →
    ((name : List ℕ) → (defined_by tool).ranks name ≡ with_last ((defined_by none).ranks name) Tool (last_value own name)) →
    tool.language ≡ none.language →
    ((name : List ℕ) → (defined_by below).ranks name ≡ with_last ((defined_by tool).ranks name) Environment (last_value (environment_macros profile environment) name)) →
    below.language ≡ tool.language →
    ((name : List ℕ) → (defined_by all).ranks name ≡ with_last ((defined_by below).ranks name) CommandLine (last_value definitions name)) →
    all.language ≡ below.language →
    defined_by all ≡ first_defined profile definitions environment
all_ranks profile definitions environment own is_own none tool below all is_none is_tool tool_in is_below below_in is_all all_in =
    let ranks : (defined_by all).ranks ≡ first_ranks profile definitions environment = fun_ext (λ name.
    is_all name
    ∙ ap (λ r. with_last r CommandLine (last_value definitions name))
    (is_below name
    ∙ ap (λ r. with_last r Environment (last_value (environment_macros profile environment) name))
    (is_tool name
    ∙ ap (λ (m : Listed). with_last ((defined_by m).ranks name) Tool (last_value own name)) is_none
    ∙ ap (λ vs. with_last no_ranks Tool (last_value vs name)) is_own))
    ∙ each_rank (last_value (tool_macros profile environment) name) (last_value (environment_macros profile environment) name) (last_value definitions name)) in
    let language : all.language ≡ profile = all_in ∙ below_in ∙ tool_in ∙ ap (λ (m : Listed). m.language) is_none in
    ap (λ p. in_language p (defined_by all).ranks) language ∙ ap (in_language profile) ranks
