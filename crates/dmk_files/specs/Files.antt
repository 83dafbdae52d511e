-- What the system says of files.
use Rattle.std.specs.Prelude.{◌≡◌, ◌⊎◌, ℕ, ℤ, ◌+ℤ◌, ◌*ℤ◌, pos, ◌%◌, ◌^◌, List, Option, Some, None, IfSome, option_map, bytes_eq, if◌then◌else◌}
use Rattle.std.specs.declared.io.ErrorKind.{ErrorKind}
use Rattle.std.specs.declared.io.ErrorKind.TheVariants.{NotFound, NotADirectory, InvalidFilename}
use Rattle.indexmap.specs.IndexMap.{get_by}
use Rattle.mk_nodes.specs.declared.file_look.FileLook.{FileLook}
use Rattle.dmk_files.specs.declared.file_calls.FileStatus.{FileStatus}
use Rattle.dmk_files.specs.declared.texts.Texts.{Texts}

-- a time in whole nanoseconds since 1970
abbrev pub nanoseconds_of : FileStatus → ℤ
nanoseconds_of status = (status.seconds *ℤ pos 1000000000) +ℤ status.nanoseconds

-- what a look at a file tells: its time, and of an ordinary one the number of its bytes modulo 2^32
abbrev pub look_of : FileStatus → FileLook
look_of status = record { time = nanoseconds_of status; size = if status.is_ordinary then Some (status.bytes % 2 ^ 32) else None }

-- no file has the name: none is there (ENOENT), it lies below a file (ENOTDIR), or it is too long (ENAMETOOLONG)
abbrev pub IsMissing : ErrorKind → Type 0
IsMissing kind = (kind ≡ NotFound) ⊎ ((kind ≡ NotADirectory) ⊎ (kind ≡ InvalidFilename))

-- what was read of a name: nothing, that its file can't be read, or its text
abbrev pub known_text : Texts → (name : List ℕ) → Option (Option (List ℕ))
known_text texts name = option_map (option_map (λ text. text.value.items)) (get_by (λ k. bytes_eq name k.items) texts.known)

-- behind a call the name is known by this, and each other one as before
abbrev pub Adds : (name : List ℕ) (text : Option (List ℕ)) (before after : Texts) → Type 0
Adds name text before after = (n : List ℕ) → known_text after n ≡ (if bytes_eq n name then Some text else known_text before n)

abbrev pub KnowsTheSame : (before after : Texts) → Type 0
KnowsTheSame before after = after.known.entries ≡ before.known.entries

-- what is known is what these files hold
abbrev pub AgreeWith : Texts → (files : List ℕ → Option (List ℕ)) → Type 0
AgreeWith texts files = (name : List ℕ) → IfSome (known_text texts name) (λ text. files name ≡ text)
