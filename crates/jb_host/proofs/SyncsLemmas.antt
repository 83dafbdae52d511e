-- Which tickets are served by what happened since.
use Rattle.std.proofs.Common.{◌≡◌, ◌+◌, ◌<◌, ◌≤◌, List, [], ◌∷◌, true, false, arith}
use Rattle.jb_host.specs.declared.folder_syncs.FolderSyncs.{FolderSyncs}
use Rattle.jb_host.specs.Syncs.{Event, begins, ends_well, fails, Becomes, Follows, nothing_yet, then, HasWholeSync, whole, earlier}

-- the last event is that a sync began
abbrev pub IsBegun : List Event → Type 0
IsBegun [] = ⊥
IsBegun (begins ∷ before) = Unit {0}
IsBegun (ends_well ∷ before) = ⊥
IsBegun (fails ∷ before) = ⊥

begun-ends : (events : List Event) → IsBegun events → HasWholeSync (ends_well ∷ events)
begun-ends [] is = absurd is
begun-ends (begins ∷ before) is = whole before
begun-ends (ends_well ∷ before) is = absurd is
begun-ends (fails ∷ before) is = absurd is

-- a sync that runs, and began since, is the last event
Follows-running : (start now : FolderSyncs) (events : List Event) → Follows start events now →
    start.begun < now.begun → now.is_running ≡ true → IsBegun events
Follows-running start now events nothing_yet later runs = absurd (omega (arith, later))
Follows-running start now events (then {before = before} begins follows step) later runs = tt
Follows-running start now events (then {before = before} ends_well follows step) later runs =
    let stopped : now.is_running ≡ false = step.3 in cc
Follows-running start now events (then {before = before} fails follows step) later runs =
    let stopped : now.is_running ≡ false = step.3 in cc

pub Follows-served : (start now : FolderSyncs) (events : List Event) → Follows start events now →
    start.begun < now.ended → HasWholeSync events
Follows-served start now events nothing_yet served =
    let order : start.ended ≤ start.begun = start.in_order in absurd (omega (arith, served, order))
Follows-served start now events (then {before = before} {events = since} begins follows step) served =
    let same : now.ended ≡ before.ended = step.2 in
    earlier begins (Follows-served start before since follows (omega (arith, served, same)))
Follows-served start now events (then {before = before} {events = since} ends_well follows step) served =
    let last : now.ended ≡ before.begun = step.2 in
    begun-ends since (Follows-running start before since follows (omega (arith, served, last)) step.0)
Follows-served start now events (then {before = before} {events = since} fails follows step) served =
    let same : now.ended ≡ before.ended = step.2 in
    earlier fails (Follows-served start before since follows (omega (arith, served, same)))

-- no number is taken back
Follows-begun : (start now : FolderSyncs) (events : List Event) → Follows start events now → start.begun ≤ now.begun
Follows-begun start now events nothing_yet = omega arith
Follows-begun start now events (then {before = before} {events = since} begins follows step) =
    let more : now.begun ≡ before.begun + 1 = step.1 in omega (arith, more, Follows-begun start before since follows)
Follows-begun start now events (then {before = before} {events = since} ends_well follows step) =
    let same : now.begun ≡ before.begun = step.1 in omega (arith, same, Follows-begun start before since follows)
Follows-begun start now events (then {before = before} {events = since} fails follows step) =
    let same : now.begun ≡ before.begun = step.1 in omega (arith, same, Follows-begun start before since follows)

Becomes-ended : (event : Event) (old new : FolderSyncs) → Becomes event old new → old.ended ≤ new.ended
Becomes-ended begins old new step = let same : new.ended ≡ old.ended = step.2 in omega (arith, same)
Becomes-ended ends_well old new step =
    let last : new.ended ≡ old.begun = step.2 in let order : old.ended ≤ old.begun = old.in_order in omega (arith, last, order)
Becomes-ended fails old new step = let same : new.ended ≡ old.ended = step.2 in omega (arith, same)

pub HasWholeSync-serves : (start now : FolderSyncs) (events : List Event) → Follows start events now →
    HasWholeSync events → start.begun < now.ended
HasWholeSync-serves start now events nothing_yet has = elim has [ ]
HasWholeSync-serves start now events (then {before = before} ends_well (then {before = first} {events = since} begins follows begun) step) (whole past) =
    let last : now.ended ≡ before.begun = step.2 in
    let more : before.begun ≡ first.begun + 1 = begun.1 in
    omega (arith, last, more, Follows-begun start first since follows)
HasWholeSync-serves start now events (then {before = before} {events = since} event follows step) (earlier last has) =
    omega (arith, HasWholeSync-serves start before since follows has, Becomes-ended event before now step)
