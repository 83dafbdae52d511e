-- The functions, and how many arguments they take (GNU make manual, "Functions for Transforming Text").
use Rattle.std.specs.Prelude.{ℕ, List, Option, bytes_eq, codes}
use Rattle.std.specs.Map.{lookup}
use Rattle.mk_pieces.specs.declared.function.Function.{Function}
use Rattle.mk_pieces.specs.declared.function.Function.TheVariants.{OfWords, OfVariable, Asks, Says, Error, OfTwo, OfThree, If, Or, And, Foreach, Call, Refused}
use Rattle.mk_pieces.specs.declared.function.OfWords.TheVariants.{Strip, Sort, Words, FirstWord, LastWord, Dir, NotDir, Suffix, BaseName}
use Rattle.mk_pieces.specs.declared.function.OfVariable.TheVariants.{Origin, Flavor, Value}
use Rattle.mk_pieces.specs.declared.function.Question.TheVariants.{Shell, Wildcard, RealPath, AbsPath}
use Rattle.mk_pieces.specs.declared.function.Message.TheVariants.{Warning, Info}
use Rattle.mk_pieces.specs.declared.function.OfTwo.TheVariants.{FindString, Filter, FilterOut, Word, AddSuffix, AddPrefix, Join}
use Rattle.mk_pieces.specs.declared.function.OfThree.TheVariants.{Subst, PatSubst, WordList}
use Rattle.mk_pieces.specs.declared.function.Refused.TheVariants.{Eval, File, Let, IntCmp, Guile}
use Rattle.mk_pieces.specs.declared.function.TheConstants.{FUNCTIONS}

-- what a function is called by
abbrev pub name_of : Function → List ℕ
name_of (OfThree Subst) = codes "subst"
name_of (OfThree PatSubst) = codes "patsubst"
name_of (OfThree WordList) = codes "wordlist"
name_of (OfWords Strip) = codes "strip"
name_of (OfWords Sort) = codes "sort"
name_of (OfWords Words) = codes "words"
name_of (OfWords FirstWord) = codes "firstword"
name_of (OfWords LastWord) = codes "lastword"
name_of (OfWords Dir) = codes "dir"
name_of (OfWords NotDir) = codes "notdir"
name_of (OfWords Suffix) = codes "suffix"
name_of (OfWords BaseName) = codes "basename"
name_of (OfVariable Origin) = codes "origin"
name_of (OfVariable Flavor) = codes "flavor"
name_of (OfVariable Value) = codes "value"
name_of (Asks Shell) = codes "shell"
name_of (Asks Wildcard) = codes "wildcard"
name_of (Asks RealPath) = codes "realpath"
name_of (Asks AbsPath) = codes "abspath"
name_of (Says Warning) = codes "warning"
name_of (Says Info) = codes "info"
name_of Error = codes "error"
name_of (OfTwo FindString) = codes "findstring"
name_of (OfTwo Filter) = codes "filter"
name_of (OfTwo FilterOut) = codes "filter-out"
name_of (OfTwo Word) = codes "word"
name_of (OfTwo AddSuffix) = codes "addsuffix"
name_of (OfTwo AddPrefix) = codes "addprefix"
name_of (OfTwo Join) = codes "join"
name_of If = codes "if"
name_of Or = codes "or"
name_of And = codes "and"
name_of Foreach = codes "foreach"
name_of Call = codes "call"
name_of (Refused Eval) = codes "eval"
name_of (Refused File) = codes "file"
name_of (Refused Let) = codes "let"
name_of (Refused IntCmp) = codes "intcmp"
name_of (Refused Guile) = codes "guile"

-- the function of this name
unfoldable pub function_named : (name : List ℕ) → Option Function
function_named name = lookup (λ key. bytes_eq key.now name) FUNCTIONS

-- how many arguments it takes at most: further commas are bytes of the last one. 0 stands for any number
abbrev pub most : Function → ℕ
most (OfWords f) = 1
most (OfVariable f) = 1
most (Asks q) = 1
most (Says m) = 1
most Error = 1
most (OfTwo f) = 2
most (OfThree f) = 3
most If = 3
most Or = 0
most And = 0
most Foreach = 3
most Call = 0
most (Refused Eval) = 1
most (Refused File) = 2
most (Refused Let) = 3
most (Refused IntCmp) = 5
most (Refused Guile) = 1
