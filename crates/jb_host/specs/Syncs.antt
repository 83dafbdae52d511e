-- Syncs of one folder, and what they serve.
use Rattle.std.specs.Prelude.{◌≡◌, ◌+◌, true, false, List, [], ◌∷◌}
use Rattle.jb_host.specs.declared.folder_syncs.FolderSyncs.{FolderSyncs}

-- a sync of the folder begins, ends well, or fails
pub data Event : Type 0 where
  begins : Event
  ends_well : Event
  fails : Event

-- what each makes of what is known of a folder's syncs. One begins only where none runs, so the one that ends is the last that
-- began; only its end makes it known as one that ended well
abbrev pub Becomes : (event : Event) (old new : FolderSyncs) → Type 0
Becomes begins old new =
    (old.is_running ≡ false) × (new.begun ≡ old.begun + 1) × (new.ended ≡ old.ended) × (new.is_running ≡ true)
Becomes ends_well old new =
    (old.is_running ≡ true) × (new.begun ≡ old.begun) × (new.ended ≡ old.begun) × (new.is_running ≡ false)
Becomes fails old new =
    (old.is_running ≡ true) × (new.begun ≡ old.begun) × (new.ended ≡ old.ended) × (new.is_running ≡ false)

-- what is known of a folder's syncs after these events, of which the newest comes first
pub data Follows (start : FolderSyncs) : (events : List Event) (now : FolderSyncs) → Type 0 where
  nothing_yet : Follows start [] start
  then : {before now : FolderSyncs} {events : List Event} (event : Event) →
      Follows start events before → Becomes event before now → Follows start (event ∷ events) now

-- among these events, of which the newest comes first, a sync began and then ended well. Nothing stands between the two, since one
-- sync runs at a time
pub data HasWholeSync : List Event → Type 0 where
  whole : (before : List Event) → HasWholeSync (ends_well ∷ begins ∷ before)
  earlier : {events : List Event} (event : Event) → HasWholeSync events → HasWholeSync (event ∷ events)
