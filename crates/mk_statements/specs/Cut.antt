-- Lines that are cut at a `#` or a `;` which isn't quoted and stands in no reference (GNU make manual, "What Makefiles Contain" and
-- "Rule Syntax"; GNU make 4.3).
use Rattle.std.specs.Prelude.{ℕ, zero, suc, ◌+◌, ◌/◌, ◌%◌, Bool, ◌||◌, ◌&&◌, ◌==◌, List, [], ◌∷◌, ◌++◌, Option, Some, None, if◌then◌else◌}
use Rattle.std.specs.Borrow.{Bor}
use Rattle.mk_statements.specs.declared.place.Place.{Place}
use Rattle.mk_statements.specs.declared.place.Place.TheVariants.{Outside, Dollar, Within}

-- how many backslashes or brackets a place stands behind
abbrev pub size : Place → ℕ
size (Outside run) = run
size Dollar = 0
size (Within opening close depth) = depth

abbrev pub closed : (opening close depth : ℕ) → Place
closed opening close zero = Outside 0
closed opening close (suc depth) = Within opening close depth

-- brackets are counted that are of the reference's own kind
abbrev pub in_brackets : (opening close depth b : ℕ) → Place
in_brackets opening close depth b =
    if b == opening then Within opening close (depth + 1) else (if b == close then closed opening close depth else Within opening close depth)

-- a reference is one byte, or reaches to the bracket that closes it; where that byte is a backslash, it quotes what stands behind it
abbrev pub behind_dollar : (b : ℕ) → Place
behind_dollar b =
    if b == 40 then Within 40 41 0 else (if b == 123 then Within 123 125 0 else (if b == 92 then Outside 1 else Outside 0))

-- the line is cut at a `#`, and a rule's at a `;` too
abbrev pub is_mark : (semicolons : Bool) → ℕ → Bool
is_mark semicolons b = b == 35 || (semicolons && b == 59)

abbrev pub backslashes : ℕ → List ℕ
backslashes zero = []
backslashes (suc count) = 92 ∷ backslashes count

-- what a byte adds to the text, and where the one behind it stands; at no place where the text is cut here
abbrev pub Step : Type 0
Step = List ℕ × Option Place

-- backslashes before a mark quote each other, and one that is left quotes the mark
abbrev pub at_mark : (run b : ℕ) → Step
at_mark run b = if run % 2 == 0 then (backslashes (run / 2), None) else (backslashes (run / 2) ++ b ∷ [], Some (Outside 0))

abbrev pub place_behind : (b : ℕ) → Place
place_behind b = if b == 36 then Dollar else Outside 0

-- outside references, where so many backslashes wait for what comes behind them
abbrev pub step_outside : (semicolons : Bool) → (run b : ℕ) → Step
step_outside semicolons run b =
    if b == 92 then ([], Some (Outside (run + 1)))
    else (if is_mark semicolons b then at_mark run b else (backslashes run ++ b ∷ [], Some (place_behind b)))

abbrev pub step_behind_dollar : (b : ℕ) → Step
step_behind_dollar b = if b == 92 then ([], Some (Outside 1)) else (b ∷ [], Some (behind_dollar b))

abbrev pub step : (semicolons : Bool) → Place → (b : ℕ) → Step
step semicolons (Outside run) b = step_outside semicolons run b
step semicolons Dollar b = step_behind_dollar b
step semicolons (Within opening close depth) b = (b ∷ [], Some (in_brackets opening close depth b))

-- backslashes that quote nothing
abbrev pub left_over : Place → List ℕ
left_over (Outside run) = backslashes run
left_over Dollar = []
left_over (Within opening close depth) = []

-- what stands before the mark, and the mark with what stands behind it
pub record Cut : Type 0 where
  pub front : List ℕ
  pub behind : Option (ℕ × List ℕ)

abbrev pub onto : List ℕ → Cut → Cut
onto front cut = record { front = front ++ cut.front; behind = cut.behind }

abbrev pub behind_step : Step → (b : ℕ) → (text : List ℕ) → (Place → Cut) → Cut
behind_step (added, None) b text further = record { front = added; behind = Some (b, text) }
behind_step (added, Some place) b text further = onto added (further place)

abbrev pub cut_from : (semicolons : Bool) → Place → List ℕ → Cut
cut_from semicolons place [] = record { front = left_over place; behind = None }
cut_from semicolons place (b ∷ text) = behind_step (step semicolons place b) b text (λ next. cut_from semicolons next text)

-- a line without its comment, and a rule's without the recipe behind its `;`; `\#` is a `#`, and in a rule's `\;` a `;`
abbrev pub cut : (semicolons : Bool) → List ℕ → Cut
cut semicolons text = cut_from semicolons (Outside 0) text

abbrev pub recipe_at : Option (ℕ × List ℕ) → Option (List ℕ)
recipe_at None = None
recipe_at (Some found) = if found.0 == 59 then Some found.1 else None

abbrev pub borrowed : Option (ℕ × Bor (List ℕ)) → Option (ℕ × List ℕ)
borrowed None = None
borrowed (Some found) = Some (found.0, found.1.now)
