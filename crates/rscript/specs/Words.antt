-- The table of records: the fields of each word.
use Rattle.std.specs.Prelude.{List, [], ◌∷◌, codes, Option, find}
use Rattle.rclaim.specs.declared.request.Kind.TheVariants.{Read, Write, Mixed, Upgrade, Nested}
use Rattle.rtrace_form.specs.Records.{Row}
use Rattle.rtrace_form.specs.Fields.{Field, Said, Fresh, OneResource, Members, Number, Length, has_form}
use Rattle.rscript.specs.declared.word.ScriptWord.{ScriptWord}
use Rattle.rscript.specs.declared.word.ScriptWord.TheVariants as word

-- the fields of a record, by what it is
abbrev pub fields_of : ScriptWord → List Field
fields_of word.Version = Said (codes "rnlp") ∷ Said (codes "1") ∷ []
fields_of word.Resource = Said (codes "resource") ∷ Fresh ∷ []
fields_of word.Group = Said (codes "group") ∷ Members ∷ []
fields_of word.Task = Said (codes "task") ∷ Fresh ∷ []
fields_of (word.Begin Read) = Said (codes "read") ∷ Members ∷ Length ∷ []
fields_of (word.Begin Write) = Said (codes "write") ∷ Members ∷ Length ∷ []
fields_of (word.Begin Mixed) = Said (codes "mixed") ∷ Members ∷ Members ∷ Length ∷ []
fields_of (word.Begin Upgrade) = Said (codes "upgrade") ∷ Members ∷ Length ∷ Length ∷ []
fields_of (word.Begin Nested) = Said (codes "nested") ∷ Members ∷ Members ∷ Members ∷ Length ∷ []
fields_of word.Show = Said (codes "show") ∷ OneResource ∷ []
fields_of word.Add = Said (codes "add") ∷ OneResource ∷ Number ∷ []
fields_of word.Take = Said (codes "take") ∷ OneResource ∷ Number ∷ []
fields_of word.Put = Said (codes "set") ∷ OneResource ∷ Number ∷ []
fields_of word.Ask = Said (codes "ask") ∷ Members ∷ []
fields_of word.Rise = Said (codes "rise") ∷ []
fields_of word.Finish = Said (codes "finish") ∷ []
fields_of word.End = Said (codes "end") ∷ []

-- what the records of a script may be
abbrev pub words : List ScriptWord
words =
    word.Version ∷ word.Resource ∷ word.Group ∷ word.Task
    ∷ word.Begin Read ∷ word.Begin Write ∷ word.Begin Mixed ∷ word.Begin Upgrade ∷ word.Begin Nested
    ∷ word.Show ∷ word.Add ∷ word.Take ∷ word.Put ∷ word.Ask ∷ word.Rise ∷ word.Finish ∷ word.End ∷ []

-- what a record is, if it is one
unfoldable pub word_in : Row → Option ScriptWord
word_in row = find (λ w. has_form (fields_of w) row) words
