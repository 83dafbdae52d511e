-- Which files a target is made of by what a graph has of them. Own.
use Rattle.std.specs.Prelude.{◌≡◌, ℕ, ℤ, List, [], ◌∷◌, ◌++◌, map, Option, Some, None, option_and_then}
use Rattle.jb_marks.specs.declared.sights.Sight.{Sight}
use Rattle.jb_marks.specs.declared.sights.Sight.TheVariants.{NoFile, Other, File}
use Rattle.jb_marks.specs.Sights.{IsTextOfSights}
use Rattle.mk_graph.specs.Edges.{row}
use Rattle.mk_nodes.specs.declared.file_look.FileLook.{FileLook}
use Rattle.mk_nodes.specs.declared.graph.Graph.{Graph}
use Rattle.mk_seen.specs.Marks.{looks_beside, source_name}
use Rattle.mk_seen.specs.Nodes.{node_at}
use Rattle.st_records.specs.declared.version.Form.{Form}
use Rattle.st_records.specs.declared.version.Form.TheVariants as forms

-- a file with this time, and a size where it is an ordinary one
abbrev pub sight_with : (time : ℤ) → (size : Option ℕ) → Sight
sight_with time None = Other
sight_with time (Some size) = File time size time

abbrev pub sight_from : Option FileLook → Sight
sight_from None = NoFile
sight_from (Some file) = sight_with file.time file.size

-- what the graph has of the file of node n
abbrev pub sight_at : Graph → (n : ℕ) → Sight
sight_at graph n = sight_from (option_and_then (λ node. node.stamp) (node_at graph n))

-- of what its recipe makes, its own file first, and of its source and its explicit prerequisites
abbrev pub sights_at : Graph → (n : ℕ) → List Sight
sights_at graph n = (sight_at graph n ∷ []) ++ map sight_from (looks_beside graph n) ++ map (sight_at graph) (row graph.hard n)

-- the text of the marks of node n in a record of this form, where it is taken as it is: only one form has any
abbrev pub IsTextSeen : Form → Graph → (n : ℕ) → (text : List ℕ) → Type 0
IsTextSeen forms.Old graph n text = text ≡ []
IsTextSeen forms.Plain graph n text = text ≡ []
IsTextSeen forms.Marked graph n text = IsTextOfSights (source_name graph n) (sights_at graph n) text
