-- What is known of commands that definitions ran.
use Rattle.std.specs.Prelude.{◌≡◌, ℕ, Bool, ◌&&◌, ◌==◌, List, [], ◌∷◌, Option, Some, None, IfSome, bytes_eq, if◌then◌else◌}
use Rattle.mk_eval.specs.Output.{World}
use Rattle.dmk_files.specs.Files.{AgreeWith}
use Rattle.dmk_files.specs.declared.commands.Commands.{Commands}
use Rattle.dmk_files.specs.declared.commands.RunCommand.{RunCommand}
use Rattle.dmk_files.specs.declared.texts.Texts.{Texts}

-- it was this command, of a definition in this line of this file
abbrev pub is_command : RunCommand → (file : List ℕ) (line : ℕ) (text : List ℕ) → Bool
is_command one file line text = one.line == line && (bytes_eq one.text text && bytes_eq one.file file)

-- what it wrote when it was first run
abbrev pub known_output : List RunCommand → (file : List ℕ) (line : ℕ) (text : List ℕ) → Option (List ℕ)
known_output [] file line text = None
known_output (one ∷ more) file line text = if is_command one file line text then Some one.output else known_output more file line text

-- what is known is what commands write
abbrev pub AgreeOn : List RunCommand → (outputs : (file : List ℕ) (line : ℕ) (text : List ℕ) → List ℕ) → Type 0
AgreeOn run outputs = (file : List ℕ) (line : ℕ) (text : List ℕ) → IfSome (known_output run file line text) (λ output. outputs file line text ≡ output)

-- what is known of files and commands is so in this world
abbrev pub Agree : Texts → Commands → World → Type 0
Agree texts commands world = AgreeWith texts world.files × AgreeOn commands.run.items world.outputs
