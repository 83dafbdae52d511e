use Rattle.std.specs.Option.{option_copied}
use Rattle.std.specs.Prelude.{is_some}
use Rattle.std.proofs.Common.{◌≡◌, ◌∙◌, Bool, true, false, not, ◌&&◌, Option, Some, None, Bor, refl, sym, ap}
use Rattle.mk_seen.specs.Marks.{has_same_names, marks_text}
use Rattle.mk_seen.proofs.MarkLemmas.{as_named, otherwise_named, unmarked}
use Rattle.mk_seen.proofs.marks.marks_left.Goals as goal

none_by : {A : Type 0} (o : Option A) (b : Bool) → is_some o ≡ not b → b ≡ true → o ≡ None
none_by None b tells is = refl
none_by (Some x) true tells is = absurd cc
none_by (Some x) false tells is = absurd cc

-- of both the second one
second : (a b : Bool) → (a && b) ≡ true → b ≡ true
second true b both = both
second false b both = absurd cc

-- the second isn't so where both aren't and the first one is
second_not : (a b : Bool) → (a && b) ≡ false → a ≡ true → b ≡ false
second_not true b both is = both
second_not false b both is = absurd cc

some_copied : {A : Type 0} (o : Option (Bor A)) → is_some (option_copied o) ≡ is_some o
some_copied None = refl
some_copied (Some x) = refl

pub returns-then-recorded : goal.returns-then-recorded
returns-then-recorded c =
    as_named c.args.graph.now c.args.node c.args.entry.now c.args.left c.requires.left
    (second (is_some (marks_text c.args.entry.now.explicit)) (has_same_names c.args.graph.now c.args.node c.args.entry.now)
    (sym c.requires.recorded ∙ c.if-recorded.true))

pub returns-then-is_none : goal.returns-then-is_none
returns-then-is_none c =
    unmarked c.args.graph.now c.args.node c.args.entry.now c.args.left c.requires.left
    (sym c.text_and_names-names.ensures.text ∙ ap option_copied (none_by c.text_and_names-names.result.0 c.is_none.result c.is_none.ensures c.if-is_none.true))

pub returns : goal.returns
returns c =
    c.nothing.ensures
    ∙ otherwise_named c.args.graph.now c.args.node c.args.entry.now c.args.left c.requires.left
    (second_not (is_some (marks_text c.args.entry.now.explicit)) (has_same_names c.args.graph.now c.args.node c.args.entry.now)
    (sym c.requires.recorded ∙ c.if-recorded.false)
    (ap is_some (sym c.text_and_names-names.ensures.text) ∙ some_copied c.text_and_names-names.result.0 ∙ c.is_none.ensures ∙ ap not c.if-is_none.false))
