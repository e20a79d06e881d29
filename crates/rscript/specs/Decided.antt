-- What a record is, decided by the number of its fields and then by the words in them.
use Rattle.std.specs.Prelude.{ℕ, ◌&&◌, List, codes, Option, Some, None, if◌then◌else◌}
use Rattle.std.specs.Str.{bytes_eq}
use Rattle.rclaim.specs.declared.request.Kind.TheVariants.{Read, Write, Mixed, Upgrade, Nested}
use Rattle.rscript.specs.declared.word.ScriptWord.{ScriptWord}
use Rattle.rscript.specs.declared.word.ScriptWord.TheVariants as word

-- what a record of one field is
abbrev pub word_of_one : List ℕ → Option ScriptWord
word_of_one first =
    if bytes_eq first (codes "rise") then Some word.Rise
    else if bytes_eq first (codes "finish") then Some word.Finish
    else if bytes_eq first (codes "end") then Some word.End
    else None

-- what a record of two fields is
abbrev pub word_of_two : List ℕ → List ℕ → Option ScriptWord
word_of_two first second =
    if bytes_eq first (codes "rnlp") && bytes_eq second (codes "1") then Some word.Version
    else if bytes_eq first (codes "resource") then Some word.Resource
    else if bytes_eq first (codes "group") then Some word.Group
    else if bytes_eq first (codes "task") then Some word.Task
    else if bytes_eq first (codes "show") then Some word.Show
    else if bytes_eq first (codes "ask") then Some word.Ask
    else None

-- what a record of three fields is
abbrev pub word_of_three : List ℕ → Option ScriptWord
word_of_three first =
    if bytes_eq first (codes "read") then Some (word.Begin Read)
    else if bytes_eq first (codes "write") then Some (word.Begin Write)
    else if bytes_eq first (codes "add") then Some word.Add
    else if bytes_eq first (codes "take") then Some word.Take
    else if bytes_eq first (codes "set") then Some word.Put
    else None

-- what a record of four fields is
abbrev pub word_of_four : List ℕ → Option ScriptWord
word_of_four first =
    if bytes_eq first (codes "mixed") then Some (word.Begin Mixed)
    else if bytes_eq first (codes "upgrade") then Some (word.Begin Upgrade)
    else None

-- what a record of five fields is
abbrev pub word_of_five : List ℕ → Option ScriptWord
word_of_five first =
    if bytes_eq first (codes "nested") then Some (word.Begin Nested)
    else None
