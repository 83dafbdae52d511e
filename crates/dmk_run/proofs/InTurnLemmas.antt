-- Parts that are made in turn.
use Rattle.std.proofs.Math.Nat.{max-zero}
use Rattle.std.proofs.Math.Seq.{take-suc, take-length}
use Rattle.std.proofs.lemmas.List.{take-append-drop}
use Rattle.std.proofs.Common.{◌≡◌, ◌≢◌, ◌⊎◌, inl, inr, ◌∙◌, ℕ, zero, suc, ◌+◌, ◌<◌, ◌≤◌, max, Bool, true, false, List, [], ◌∷◌, ◌++◌, Option, Result, Ok, Err, IfOk, IfErr, IsErrAnd, refl, sym, ap, subst, length, take, drop, get_or, add-one, arith}
use Rattle.mk_eval.specs.Output.{World}
use Rattle.mk_reader.specs.declared.item.Item.{Item}
use Rattle.mk_profile.specs.declared.profile.Profile.{Profile}
use Rattle.st_disk.specs.Crash.{Sides}
use Rattle.st_disk.specs.declared.which.Which.{Which}
use Rattle.mk_nodes.specs.declared.graph.Graph.{Graph}
use Rattle.bd_places.specs.declared.end.End.{End}
use Rattle.bd_lists.specs.declared.recipe.Variable.{Variable}
use Rattle.dmk_reading.specs.Definitions.{first_defined}
use Rattle.dmk_reading.specs.Keeping.{keeps}
use Rattle.dmk_reading.specs.Keeping.{kept_form}
use Rattle.dmk_reading.specs.Planned.{AreItems, IsStateOn}
use Rattle.dmk_reading.specs.declared.makefiles.Makefiles.{Makefiles}
use Rattle.dmk_reading.specs.declared.options.Options.{Options}
use Rattle.st_state.specs.State.{StateMap}
use Rattle.dmk_parts.specs.Behind.{none_tried, both_tried}
use Rattle.dmk_run.specs.Made.{Makes, MakesItems}
use Rattle.dmk_parts.specs.Tried.{AreTried, AddsTried, tried_in}
use Rattle.dmk_parts.specs.declared.left.Left.{Left}
use Rattle.dmk_store.specs.Opened.{RecoversAsBefore}
use Rattle.dmk_run.specs.InTurn.{Between, MakesPart, LeavesDisk, IsParted, MadeInTurn, none_left, first_made, run_ended, MadeBehind, no_more, once_more, MakesWithLost, IsMadeInTurn}
use Rattle.dmk_parts.specs.Parts.{AreParts, at_once, in_turn, GoesOn, EndsRun, Joined}
use Rattle.dmk_store.specs.declared.stop.Stop.{Stop}
use Rattle.dmk_parts.specs.declared.tried.Tried.{Tried}
use Rattle.dmk_run.proofs.DriverLemmas.{at_ok}
use Rattle.mk_nodes.specs.declared.file_look.FileLook.{FileLook}

-- what goes on doesn't end
not_both : (goes_on : Bool) (status : ℕ) → EndsRun goes_on status → GoesOn goes_on status → ⊥
not_both goes_on status (fails, stays) (inl none) = fails none
not_both goes_on status (fails, stays) (inr goes) = cc

-- what goes on behind two goes on behind the second
goes_behind : (goes_on : Bool) (first second : ℕ) → GoesOn goes_on (max first second) → GoesOn goes_on second
goes_behind goes_on first second (inl none) = inl (omega (arith, none))
goes_behind goes_on first second (inr goes) = inr goes

-- of a first that doesn't fail and others the others fail where they do
fails_behind : (first second : ℕ) → first ≡ 0 → max first second ≢ 0 → second ≢ 0
fails_behind first second none fails = λ also. fails (omega (arith, none, also))

one_longer : (parts : List (List (List ℕ))) (index : ℕ) (part : List (List ℕ)) → index < length parts → part ≡ get_or parts index part →
    take (index + 1) parts ≡ take index parts ++ part ∷ []
one_longer parts index part below is =
    ap (λ n. take n parts) (add-one index) ∙ take-suc parts index part below ∙ ap (λ p. take index parts ++ p ∷ []) (sym is)

larger_of_three : (a b c : ℕ) → max a (max b c) ≡ max b (max a c)
larger_of_three a b c = omega arith

module _ {State : Type 0} (MakesOne : (targets : List (List ℕ)) → (found left : State) → (status : ℕ) → Type 0) where
  -- one part alone
  pub one : (goes_on : Bool) (targets : List (List ℕ)) (found left : State) (own : ℕ) → MakesOne targets found left own →
      MadeInTurn MakesOne goes_on (targets ∷ []) found left own
  one true targets found left own is =
      subst (MadeInTurn MakesOne true (targets ∷ []) found left) (max-zero own) (first_made targets found own is (inr refl) (none_left left))
  one false targets found left zero is =
      subst (MadeInTurn MakesOne false (targets ∷ []) found left) (max-zero 0) (first_made targets found 0 is (inl refl) (none_left left))
  one false targets found left (suc own) is =
      run_ended targets [] found left (suc own) is ((λ none. omega (arith, none)), refl)

  -- behind parts that are made a further one is
  pub then_made : {goes_on : Bool} {parts : List (List (List ℕ))} {found between left : State} {status own : ℕ} {targets : List (List ℕ)} →
      MadeInTurn MakesOne goes_on parts found between status → GoesOn goes_on status → MakesOne targets between left own →
      MadeInTurn MakesOne goes_on (parts ++ targets ∷ []) found left (max own status)
  then_made {goes_on} {left = left} {own = own} {targets = targets} (none_left state) goes is =
      subst (MadeInTurn MakesOne goes_on (targets ∷ []) state left) (sym (max-zero own)) (one goes_on targets state left own is)
  then_made {goes_on} {left = left} {own = own} {targets = targets} (first_made {parts = parts} {status = second} first found before made goes_first rest) goes is =
      subst (MadeInTurn MakesOne goes_on (first ∷ (parts ++ targets ∷ [])) found left) (larger_of_three before own second)
      (first_made first found before made goes_first (then_made rest (goes_behind goes_on before second goes) is))
  then_made {goes_on} (run_ended first parts found between before made ends) goes is = absurd (not_both goes_on before ends goes)

  -- where the run ends behind some parts those behind them aren't made
  pub ends_there : {goes_on : Bool} {parts : List (List (List ℕ))} {found left : State} {status : ℕ} (more : List (List (List ℕ))) →
      MadeInTurn MakesOne goes_on parts found left status → EndsRun goes_on status → MadeInTurn MakesOne goes_on (parts ++ more) found left status
  ends_there more (none_left state) (fails, stays) = absurd (fails refl)
  ends_there more (first_made {status = second} first found own made (inl none) rest) (fails, stays) =
      first_made first found own made (inl none) (ends_there more rest (fails_behind own second none fails, stays))
  ends_there more (first_made first found own made (inr goes) rest) (fails, stays) = absurd cc
  ends_there more (run_ended first parts found left own made ends) fails = run_ended first (parts ++ more) found left own made ends

  -- what is made first over one disk is made over another that is as good
  module _ (found opened : State) (alike : (targets : List (List ℕ)) (left : State) (own : ℕ) → MakesOne targets opened left own → MakesOne targets found left own) where
    made_over : {goes_on : Bool} {first : List (List ℕ)} {others : List (List (List ℕ))} {left : State} {status : ℕ} →
        MadeInTurn MakesOne goes_on (first ∷ others) opened left status → MadeInTurn MakesOne goes_on (first ∷ others) found left status
    made_over (first_made {between = between} first opened own made goes rest) = first_made first found own (alike first between own made) goes rest
    made_over (run_ended first others opened left own made ends) = run_ended first others found left own (alike first left own made) ends

    pub parts_over : {goes_on : Bool} {goals : List (List ℕ)} {parts : List (List (List ℕ))} {left : State} {status : ℕ} → AreParts goals parts →
        MadeInTurn MakesOne goes_on parts opened left status → MadeInTurn MakesOne goes_on parts found left status
    parts_over (at_once goals) made = made_over made
    parts_over (in_turn first behind parts some more are) made = made_over made

  module _ {Fault : Type 0} (goes_on : Bool) where
    -- behind parts that came to a status the next one is made
    pub next_made : (parts : List (List (List ℕ))) (index : ℕ) (targets : List (List ℕ)) (found between left : State) (before behind got : Result ℕ Fault) →
        index < length parts → targets ≡ get_or parts index targets → IfOk got (Joined before behind) →
        IfOk before (MadeInTurn MakesOne goes_on (take index parts) found between) → IfOk before (GoesOn goes_on) →
        IfOk behind (MakesOne targets between left) → IfOk got (MadeInTurn MakesOne goes_on (take (index + 1) parts) found left)
    next_made parts index targets found between left before behind (Ok status) below is joined made goes own =
        subst (λ p. MadeInTurn MakesOne goes_on p found left status) (sym (one_longer parts index targets below is))
        (subst (MadeInTurn MakesOne goes_on (take index parts ++ targets ∷ []) found left) (sym joined.larger)
        (then_made (at_ok (MadeInTurn MakesOne goes_on (take index parts) found between) before joined.first joined.is_first made)
        (at_ok (GoesOn goes_on) before joined.first joined.is_first goes)
        (at_ok (MakesOne targets between left) behind joined.second joined.is_second own)))
    next_made parts index targets found between left before behind (Err fault) below is joined made goes own = tt

    -- all of them are made
    pub none_left_of : (parts : List (List (List ℕ))) (index : ℕ) (found left : State) (got : Result ℕ Fault) → length parts ≤ index → index ≤ length parts →
        IfOk got (MadeInTurn MakesOne goes_on (take index parts) found left) → IfOk got (MadeInTurn MakesOne goes_on parts found left)
    none_left_of parts index found left got above below made =
        let end : index ≡ length parts = omega (arith, above, below) in
        subst (λ p. IfOk got (MadeInTurn MakesOne goes_on p found left)) (ap (λ n. take n parts) end ∙ take-length parts) made

    -- or one of them ends the run
    pub ended : (parts : List (List (List ℕ))) (index : ℕ) (found left : State) (got : Result ℕ Fault) →
        IfOk got (MadeInTurn MakesOne goes_on (take index parts) found left) → IfOk got (EndsRun goes_on) →
        IfOk got (MadeInTurn MakesOne goes_on parts found left)
    ended parts index found left (Ok status) made ends =
        subst (λ p. MadeInTurn MakesOne goes_on p found left status) (take-append-drop index parts) (ends_there (drop index parts) made ends)
    ended parts index found left (Err fault) made ends = tt

    -- nothing more is made
    pub as_it_is : (state : State) (got : Result ℕ Fault) → IfOk got (λ s. (before : ℕ) × (got ≡ Ok before) × MadeBehind MakesOne goes_on before state state s)
    as_it_is state (Ok status) = (status, refl, no_more refl refl)
    as_it_is state (Err fault) = tt

    -- some targets are made once more
    pub made_behind : (targets : List (List ℕ)) (found left : State) (before behind got : Result ℕ Fault) → targets ≢ [] →
        IfOk got (Joined before behind) → IfOk before (GoesOn goes_on) → IfOk behind (MakesOne targets found left) →
        IfOk got (λ s. (first : ℕ) × (before ≡ Ok first) × MadeBehind MakesOne goes_on first found left s)
    made_behind targets found left before behind (Ok status) some joined goes own = (
      joined.first,
      joined.is_first,
      once_more targets joined.second some (at_ok (GoesOn goes_on) before joined.first joined.is_first goes)
          (at_ok (MakesOne targets found left) behind joined.second joined.is_second own) joined.larger,
    )
    made_behind targets found left before behind (Err fault) some joined goes own = tt

    -- a part is made with what is lost behind it
    pub with_lost : (targets : List (List ℕ)) (found between left : State) (ran got : Result ℕ Fault) → IfOk ran (MakesOne targets found between) →
        IfOk got (λ s. (before : ℕ) × (ran ≡ Ok before) × MadeBehind MakesOne goes_on before between left s) →
        IfOk got (MakesWithLost MakesOne goes_on targets found left)
    with_lost targets found between left ran (Ok status) made (before, was, more) =
        record { between = between; before = before; made = at_ok (MakesOne targets found between) ran before was made; behind = more }
    with_lost targets found between left ran (Err fault) made more = tt

module _ {State Fault : Type 0} (MakesOne : (targets : List (List ℕ)) → (found left : State) → (status : ℕ) → Type 0) (goes_on : Bool) where
  -- goals that are made at once are in turn
  pub alone : (goals : List (List ℕ)) (found left : State) (got : Result ℕ Fault) → IfOk got (MakesWithLost MakesOne goes_on goals found left) →
      IfOk got (IsMadeInTurn MakesOne goes_on goals found left)
  alone goals found left (Ok status) is = record {
    parts = goals ∷ [];
    are_parts = at_once goals;
    in_turn = one (MakesWithLost MakesOne goes_on) goes_on goals found left status is;
  }
  alone goals found left (Err fault) is = tt

  -- and so are parts, the first of which was made from what is as good
  pub in_parts_over : {Names : Type 0} (goals : List (List ℕ)) (parts : List (List (List ℕ))) (found opened : State) (left : Names → State) (got : Result ℕ Fault) → AreParts goals parts →
      ((targets : List (List ℕ)) (left : State) (own : ℕ) → MakesOne targets opened left own → MakesOne targets found left own) →
      IfOk got (λ s. (names : Names) × MadeInTurn (MakesWithLost MakesOne goes_on) goes_on parts opened (left names) s) →
      IfOk got (λ s. (names : Names) × IsMadeInTurn MakesOne goes_on goals found (left names) s)
  in_parts_over goals parts found opened left (Ok status) are alike (names, made) = (
    names,
    record {
      parts = parts;
      are_parts = are;
      in_turn = parts_over (MakesWithLost MakesOne goes_on) found opened
          (λ targets left own is. record { between = is.between; before = is.before; made = alike targets is.between is.before is.made; behind = is.behind }) are made;
    },
  )
  in_parts_over goals parts found opened left (Err fault) are alike made = tt

-- before the first part nothing is made
pub none_yet : {Disk : Type 0} (MakesOne : (targets : List (List ℕ)) → (found left : Between Disk) → (status : ℕ) → Type 0) (goes_on : Bool) (disk : Disk)
    (tried : Tried) → tried ≡ none_tried → MadeInTurn MakesOne goes_on [] (disk, none_tried) (disk, tried) 0
none_yet MakesOne goes_on disk tried none =
    subst (λ t. MadeInTurn MakesOne goes_on [] (disk, none_tried) (disk, t) 0) (sym none) (none_left (disk, none_tried))

-- what is so where goals are parted is so of goals that were
pub before_of : (Before : Type 0) (got : Result ℕ Stop) → IfErr got (λ stop. IsParted stop → Before) → IsErrAnd got IsParted → Before
before_of Before (Ok status) before parted = absurd parted
before_of Before (Err stop) before parted = before parted

-- what is handed on is so of what is left
pub passed_on : {Fault Disk : Type 0} (M : Disk → ℕ → Type 0) (found got : Result ℕ Fault) (disk left : Disk) → left ≡ disk →
    IfOk got (λ s. found ≡ Ok s) → IfOk found (M disk) → IfOk got (M left)
passed_on M found (Ok status) disk left there same so = subst (λ d. M d status) (sym there) (at_ok (M disk) found status same so)
passed_on M found (Err fault) disk left there same so = tt

-- where some names were tried so were others that follow from them
makes_others : {world : World} {looks : List ℕ → Option FileLook} {makefiles : Makefiles} {profile : Profile} {definitions environment : List Variable} {targets : List (List ℕ)}
    {all goes_on : Bool} {before : Tried} {disk_honest : Type 0} {seen : Which → List ℕ} {status : ℕ} {sides : Sides} (tried others : Tried) →
    ((graph : Graph) (ends : List End) → AreTried graph ends tried → AreTried graph ends others) →
    Makes world looks makefiles profile definitions environment targets all goes_on before disk_honest seen status sides tried →
    Makes world looks makefiles profile definitions environment targets all goes_on before disk_honest seen status sides others
makes_others tried others are is = record {
  items = is.items;
  are_items = is.are_items;
  made = record {
    state = is.made.state;
    is_state = is.made.is_state;
    graph = is.made.graph;
    is_graph = is.made.is_graph;
    all_made = is.made.all_made;
    judged = is.made.judged;
    is_judged = is.made.is_judged;
    made = record { ended = is.made.made.ended; are_tried = are is.made.judged is.made.made.ended.ends is.made.made.are_tried };
  };
}

module _ {Source Tree Disk : Type 0} (Reads : Source → World → Type 0) (Allows : Tree → (List ℕ → Option FileLook) → Type 0) (environment : List Variable) where
  -- a disk that is left twice is left so
  pub leaves_both : (options : Options) (first between last : Disk) → LeavesDisk Reads Allows options environment first between →
      LeavesDisk Reads Allows options environment between last → LeavesDisk Reads Allows options environment first last
  leaves_both options first between last (inl same) (inl again) = inl (again ∙ same)
  leaves_both options first between last (inl same) (inr keeps) = inr keeps
  leaves_both options first between last (inr keeps) (inl again) = inr keeps
  leaves_both options first between last (inr keeps) (inr others) = inr keeps

  module _ (part whole : Options) (makefiles : part.makefiles ≡ whole.makefiles) (profile : part.profile ≡ whole.profile)
      (definitions : part.definitions.items ≡ whole.definitions.items) where
    -- what a run of a part's options leaves is left by that of all
    pub part_leaves : (source : Source) (tree : Tree) (found left : Disk) → (left ≡ found) ⊎ ((world : World) (looks : List ℕ → Option FileLook) →
        Reads source world → Allows tree looks → (items : List Item) × AreItems world looks part.makefiles (first_defined part.profile part.definitions.items environment) items
        × (keeps environment items ≡ true)) → LeavesDisk Reads Allows whole environment found left
    part_leaves source tree found left (inl same) = inl same
    part_leaves source tree found left (inr keeps) = inr (
      source,
      tree,
      λ world looks text may.
          let (items, are, is) = keeps world looks text may in (
            items,
            subst (λ m. AreItems world looks m (first_defined whole.profile whole.definitions.items environment) items) makefiles
                (subst (λ p. AreItems world looks part.makefiles (first_defined p whole.definitions.items environment) items) profile
                (subst (λ d. AreItems world looks part.makefiles (first_defined part.profile d environment) items) definitions are)),
            is,
          ),
    )

    module _ (disk_honest : Type 0) (seen : Disk → Which → List ℕ) (sides : Disk → Sides) (targets : List (List ℕ)) (asked : part.targets ≡ targets)
        (all : part.makes_all ≡ whole.makes_all) (goes_on : part.goes_on ≡ whole.goes_on) (before : Tried) where
      makes_alike : (world : World) (looks : List ℕ → Option FileLook) (found left : Disk) (tried : Tried) (status : ℕ) →
          Makes world looks part.makefiles part.profile part.definitions.items environment part.targets part.makes_all part.goes_on before disk_honest (seen found) status (sides left) tried →
          Makes world looks whole.makefiles whole.profile whole.definitions.items environment targets whole.makes_all whole.goes_on before disk_honest (seen found) status (sides left) tried
      makes_alike world looks found left tried status is =
          subst (λ g. Makes world looks whole.makefiles whole.profile whole.definitions.items environment targets whole.makes_all g before disk_honest (seen found) status (sides left) tried) goes_on
          (subst (λ a. Makes world looks whole.makefiles whole.profile whole.definitions.items environment targets a part.goes_on before disk_honest (seen found) status (sides left) tried) all
          (subst (λ t. Makes world looks whole.makefiles whole.profile whole.definitions.items environment t part.makes_all part.goes_on before disk_honest (seen found) status (sides left) tried) asked
          (subst (λ d. Makes world looks whole.makefiles whole.profile d environment part.targets part.makes_all part.goes_on before disk_honest (seen found) status (sides left) tried) definitions
          (subst (λ p. Makes world looks whole.makefiles p part.definitions.items environment part.targets part.makes_all part.goes_on before disk_honest (seen found) status (sides left) tried) profile
          (subst (λ m. Makes world looks m part.profile part.definitions.items environment part.targets part.makes_all part.goes_on before disk_honest (seen found) status (sides left) tried) makefiles is)))))

      -- and what it makes is made, behind these names, to which what it leaves is added, where what it came to is told
      pub part_makes : {Fault : Type 0} (source : Source) (tree : Tree) (found on_disk : Disk) (names after : Tried) (left : Left) (got told : Result ℕ Fault) →
          before ≡ names → IfOk told (λ s. got ≡ Ok s) → IfOk told (λ s. AddsTried left names after) →
          IfOk got (λ s. (world : World) (looks : List ℕ → Option FileLook) → Reads source world → Allows tree looks →
          Makes world looks part.makefiles part.profile part.definitions.items environment part.targets part.makes_all part.goes_on before disk_honest (seen found) s (sides on_disk) (tried_in left)) →
          IfOk told (MakesPart Reads Allows whole environment disk_honest seen sides targets (found, names) (on_disk, after))
      part_makes source tree found on_disk names after left got (Ok status) same so more is =
          subst (λ n. MakesPart Reads Allows whole environment disk_honest seen sides targets (found, n) (on_disk, after) status) same
          (record {
            source = source;
            tree = tree;
            tried = more.added;
            adds = more.adds ∙ ap (λ n. both_tried n more.added) (sym same);
            made = λ world looks text may. makes_others (tried_in left) more.added more.are_tried (makes_alike world looks found on_disk (tried_in left) status
                (at_ok (λ s. (world : World) (looks : List ℕ → Option FileLook) → Reads source world → Allows tree looks →
                Makes world looks part.makefiles part.profile part.definitions.items environment part.targets part.makes_all part.goes_on before disk_honest (seen found) s (sides on_disk) (tried_in left))
                got status so is world looks text may));
          })
      part_makes source tree found on_disk names after left got (Err fault) same so more is = tt

  -- a part that is made over a disk is made over one of which it recovers no other state
  module _ (options : Options) (disk_honest : Type 0) (seen : Disk → Which → List ℕ) (sides : Disk → Sides) (found opened : Disk)
      (before : RecoversAsBefore (kept_form options.profile) disk_honest (seen found) (seen opened)) where
    state_before : (stored : Bool) (m : StateMap) → IsStateOn (kept_form options.profile) stored disk_honest (seen opened) m → IsStateOn (kept_form options.profile) stored disk_honest (seen found) m
    state_before true m is = λ honest. before honest m (is honest)
    state_before false m is = is

    items_before : (targets : List (List ℕ)) (looks : List ℕ → Option FileLook) (items : List Item) (stored keeping : Bool) (left : Sides) (names tried : Tried) (own : ℕ) →
        MakesItems options.profile options.definitions.items environment targets options.makes_all options.goes_on names looks items stored keeping disk_honest (seen opened) own left tried →
        MakesItems options.profile options.definitions.items environment targets options.makes_all options.goes_on names looks items stored keeping disk_honest (seen found) own left tried
    items_before targets looks items stored keeping left names tried own run = record {
      state = run.state;
      is_state = state_before stored run.state run.is_state;
      graph = run.graph;
      is_graph = run.is_graph;
      all_made = run.all_made;
      judged = run.judged;
      is_judged = run.is_judged;
      made = run.made;
    }

    pub made_before : (names : Tried) (targets : List (List ℕ)) (left : Between Disk) (own : ℕ) →
        MakesPart Reads Allows options environment disk_honest seen sides targets (opened, names) left own →
        MakesPart Reads Allows options environment disk_honest seen sides targets (found, names) left own
    made_before names targets left own is = record {
      source = is.source;
      tree = is.tree;
      tried = is.tried;
      adds = is.adds;
      made = λ world looks text may.
          let run = is.made world looks text may in
          record {
            items = run.items;
            are_items = run.are_items;
            made = items_before targets looks run.items (keeps environment run.items) (keeps environment run.items) (sides left.0) names is.tried own run.made;
          };
    }
