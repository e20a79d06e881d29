-- What a record is, decided by the number of its fields and then by the words in them.
use Rattle.std.specs.Prelude.{ℕ, Bool, true, false, ◌&&◌, List, [], codes, Option, Some, None, unwrap_or, if◌then◌else◌}
use Rattle.std.specs.Str.{bytes_eq}
use Rattle.csv.specs.Records.{field_at}
use Rattle.rclaim.specs.declared.request.Kind.TheVariants.{Read, Write, Mixed, Upgrade, Nested}
use Rattle.rtrace_form.specs.Records.{Row}
use Rattle.rtrace_form.specs.declared.word.Stage.TheVariants as stage
use Rattle.rtrace_form.specs.declared.word.Word.{Word}
use Rattle.rtrace_form.specs.declared.word.Word.TheVariants as word

-- the field at a place counted from 0, or nothing
abbrev pub field_of : Row → ℕ → List ℕ
field_of fields place = unwrap_or (field_at fields place) []

-- what a record of one field is
abbrev pub word_of_one : List ℕ → Option Word
word_of_one first =
    if bytes_eq first (codes "end") then Some word.End
    else None

-- what a record of two fields is
abbrev pub word_of_two : List ℕ → List ℕ → Option Word
word_of_two first second =
    if bytes_eq first (codes "rnlp") && bytes_eq second (codes "1") then Some word.Version
    else if bytes_eq first (codes "resource") then Some word.Resource
    else if bytes_eq first (codes "group") then Some word.Group
    else if bytes_eq first (codes "task") then Some word.Task
    else if bytes_eq first (codes "cap") then Some word.Cap
    else if bytes_eq first (codes "finish") then Some word.Finish
    else if bytes_eq first (codes "rise") then Some word.Rise
    else None

-- what a record of three fields is
abbrev pub word_of_three : Bool → List ℕ → Option Word
word_of_three whole first =
    if bytes_eq first (codes "ask") then Some word.Ask
    else if whole && bytes_eq first (codes "show") then Some word.Show
    else if whole && bytes_eq first (codes "grant") then Some word.Grant
    else None

-- what a record of four fields is
abbrev pub word_of_four : Bool → List ℕ → List ℕ → List ℕ → Option Word
word_of_four whole first third fourth =
    if whole && bytes_eq first (codes "add") && bytes_eq fourth (codes "yes") then Some (word.Add true)
    else if whole && bytes_eq first (codes "add") && bytes_eq fourth (codes "no") then Some (word.Add false)
    else if whole && bytes_eq first (codes "take") && bytes_eq fourth (codes "yes") then Some (word.Take true)
    else if whole && bytes_eq first (codes "take") && bytes_eq fourth (codes "no") then Some (word.Take false)
    else if whole && bytes_eq first (codes "set") && bytes_eq fourth (codes "yes") then Some (word.Put true)
    else if whole && bytes_eq first (codes "set") && bytes_eq fourth (codes "no") then Some (word.Put false)
    else if whole && bytes_eq first (codes "now") && bytes_eq third (codes "write") && bytes_eq fourth (codes "entitled") then Some (word.Entitled true)
    else if whole && bytes_eq first (codes "now") && bytes_eq third (codes "read") && bytes_eq fourth (codes "entitled") then Some (word.Entitled false)
    else if whole && bytes_eq first (codes "now") && bytes_eq third (codes "write") && bytes_eq fourth (codes "satisfied") then Some (word.Satisfied true)
    else if whole && bytes_eq first (codes "now") && bytes_eq third (codes "read") && bytes_eq fourth (codes "satisfied") then Some (word.Satisfied false)
    else if whole && bytes_eq first (codes "ledger") then Some word.Ledger
    else None

-- what a record of five fields is
abbrev pub word_of_five : List ℕ → List ℕ → Option Word
word_of_five first third =
    if bytes_eq first (codes "issue") && bytes_eq third (codes "read") then Some (word.Issue Read)
    else if bytes_eq first (codes "issue") && bytes_eq third (codes "write") then Some (word.Issue Write)
    else None

-- what a record of six fields is
abbrev pub word_of_six : List ℕ → List ℕ → Option Word
word_of_six first third =
    if bytes_eq first (codes "issue") && bytes_eq third (codes "mixed") then Some (word.Issue Mixed)
    else if bytes_eq first (codes "issue") && bytes_eq third (codes "upgrade") then Some (word.Issue Upgrade)
    else None

-- what a record of seven fields is
abbrev pub word_of_seven : List ℕ → List ℕ → Option Word
word_of_seven first third =
    if bytes_eq first (codes "issue") && bytes_eq third (codes "nested") then Some (word.Issue Nested)
    else None

-- what a record of nine fields is
abbrev pub word_of_nine : Bool → List ℕ → List ℕ → Option Word
word_of_nine whole first third =
    if whole && bytes_eq first (codes "wait") && bytes_eq third (codes "first") then Some (word.Wait stage.First)
    else if whole && bytes_eq first (codes "wait") && bytes_eq third (codes "rise") then Some (word.Wait stage.Rise)
    else if whole && bytes_eq first (codes "wait") && bytes_eq third (codes "ask") then Some (word.Wait stage.Ask)
    else None
