-- The table of records: the fields of each word.
use Rattle.std.specs.Prelude.{ℕ, Bool, true, false, List, [], ◌∷◌, ◌++◌, codes, Option, find, if◌then◌else◌}
use Rattle.rclaim.specs.declared.request.Kind.TheVariants.{Read, Write, Mixed, Upgrade, Nested}
use Rattle.rtrace_form.specs.Records.{Row}
use Rattle.rtrace_form.specs.Fields.{Field, Said, Fresh, OneResource, OneTask, Members, Number, Length, Limit, has_form}
use Rattle.rtrace_form.specs.declared.word.Stage.{Stage}
use Rattle.rtrace_form.specs.declared.word.Stage.TheVariants as stage
use Rattle.rtrace_form.specs.declared.word.Word.{Word}
use Rattle.rtrace_form.specs.declared.word.Word.TheVariants as word

-- how a record says whether an edit was taken
abbrev pub yes_or_no : Bool → List ℕ
yes_or_no true = codes "yes"
yes_or_no false = codes "no"

-- how a record names the claim of a request
abbrev pub claim_text : Bool → List ℕ
claim_text true = codes "write"
claim_text false = codes "read"

-- how a record says which wait of a request it is
abbrev pub stage_text : Stage → List ℕ
stage_text stage.First = codes "first"
stage_text stage.Rise = codes "rise"
stage_text stage.Ask = codes "ask"

-- the fields of a record, by what it is
abbrev pub fields_of : Word → List Field
fields_of word.Version = Said (codes "rnlp") ∷ Said (codes "1") ∷ []
fields_of word.Resource = Said (codes "resource") ∷ Fresh ∷ []
fields_of word.Group = Said (codes "group") ∷ Members ∷ []
fields_of word.Task = Said (codes "task") ∷ Fresh ∷ []
fields_of word.Cap = Said (codes "cap") ∷ Limit ∷ []
fields_of (word.Issue Read) = Said (codes "issue") ∷ OneTask ∷ Said (codes "read") ∷ Members ∷ Length ∷ []
fields_of (word.Issue Write) = Said (codes "issue") ∷ OneTask ∷ Said (codes "write") ∷ Members ∷ Length ∷ []
fields_of (word.Issue Mixed) = Said (codes "issue") ∷ OneTask ∷ Said (codes "mixed") ∷ Members ∷ Members ∷ Length ∷ []
fields_of (word.Issue Upgrade) = Said (codes "issue") ∷ OneTask ∷ Said (codes "upgrade") ∷ Members ∷ Length ∷ Length ∷ []
fields_of (word.Issue Nested) = Said (codes "issue") ∷ OneTask ∷ Said (codes "nested") ∷ Members ∷ Members ∷ Members ∷ Length ∷ []
fields_of word.Finish = Said (codes "finish") ∷ OneTask ∷ []
fields_of word.Rise = Said (codes "rise") ∷ OneTask ∷ []
fields_of word.Ask = Said (codes "ask") ∷ OneTask ∷ Members ∷ []
fields_of word.Show = Said (codes "show") ∷ OneResource ∷ Number ∷ []
fields_of (word.Add done) = Said (codes "add") ∷ OneResource ∷ Number ∷ Said (yes_or_no done) ∷ []
fields_of (word.Take done) = Said (codes "take") ∷ OneResource ∷ Number ∷ Said (yes_or_no done) ∷ []
fields_of (word.Put done) = Said (codes "set") ∷ OneResource ∷ Number ∷ Said (yes_or_no done) ∷ []
fields_of (word.Entitled write_half) = Said (codes "now") ∷ OneTask ∷ Said (claim_text write_half) ∷ Said (codes "entitled") ∷ []
fields_of (word.Satisfied write_half) = Said (codes "now") ∷ OneTask ∷ Said (claim_text write_half) ∷ Said (codes "satisfied") ∷ []
fields_of word.Grant = Said (codes "grant") ∷ OneTask ∷ Members ∷ []
fields_of (word.Wait which) = Said (codes "wait") ∷ OneTask ∷ Said (stage_text which) ∷ Number ∷ Number ∷ Number ∷ Number ∷ Number ∷ Number ∷ []
fields_of word.Ledger = Said (codes "ledger") ∷ OneResource ∷ Number ∷ Number ∷ []
fields_of word.End = Said (codes "end") ∷ []

-- what the records of an event list may be
abbrev pub list_words : List Word
list_words =
    word.Version ∷ word.Resource ∷ word.Group ∷ word.Task ∷ word.Cap
    ∷ word.Issue Read ∷ word.Issue Write ∷ word.Issue Mixed ∷ word.Issue Upgrade ∷ word.Issue Nested
    ∷ word.Finish ∷ word.Rise ∷ word.Ask ∷ word.End ∷ []

-- and those that only a report has: acts, changes, waits and ledgers
abbrev pub more_words : List Word
more_words =
    word.Show ∷ word.Add true ∷ word.Add false ∷ word.Take true ∷ word.Take false ∷ word.Put true ∷ word.Put false
    ∷ word.Entitled true ∷ word.Entitled false ∷ word.Satisfied true ∷ word.Satisfied false ∷ word.Grant
    ∷ word.Wait stage.First ∷ word.Wait stage.Rise ∷ word.Wait stage.Ask ∷ word.Ledger ∷ []

-- what the records of a text may be: of a report where it is `whole`, else of an event list
abbrev pub words_of : Bool → List Word
words_of whole = if whole then list_words ++ more_words else list_words

-- what a record is, if it is one
unfoldable pub word_in : Bool → Row → Option Word
word_in whole row = find (λ w. has_form (fields_of w) row) (words_of whole)
