-- What the program says about itself, and for which words.
use Rattle.std.specs.Prelude.{ℕ, List, [], ◌∷◌, ◌++◌, Option, Some, None, codes, if◌then◌else◌}
use Rattle.std.specs.Str.{bytes_eq}

-- what `--help` writes
unfoldable pub help_text : List ℕ
help_text =
    (codes "usage: rnlp FORM < INPUT > OUTPUT" ++ 10 ∷ [])
    ++ (10 ∷ [])
    ++ (codes "forms" ++ 10 ∷ [])
    ++ (codes "  run          read a script, run its tasks, each on a thread of its own, and write the report of what happened" ++ 10 ∷ [])
    ++ (codes "  run tally    the same, and write after the report what was counted of its events while it ran" ++ 10 ∷ [])
    ++ (codes "  run watch    the same, and write after the report what two monitors saw of the lock while it ran, without taking it" ++ 10 ∷ [])
    ++ (codes "  replay       read an event list, and write its report" ++ 10 ∷ [])
    ++ (codes "  audit        read a report, check all of it, and write how many events and waits it has" ++ 10 ∷ [])
    ++ (codes "  bound        read a script, and write how long each wait of its requests can be" ++ 10 ∷ [])
    ++ (codes "  bound M      the same where no more than M requests, from 1 to 64, are incomplete at a time" ++ 10 ∷ [])
    ++ (codes "  drill N      draw N events, from 1 to 1000000, and write what was counted of them; it reads no input" ++ 10 ∷ [])
    ++ (codes "  --help, -h   write this text" ++ 10 ∷ [])
    ++ (codes "  --version    write the version of the program and those of the formats" ++ 10 ∷ [])
    ++ (10 ∷ [])
    ++ (codes "an example: rnlp run < bank.script > bank.report && rnlp audit < bank.report" ++ 10 ∷ [])
    ++ (10 ∷ [])
    ++ (codes "exit statuses" ++ 10 ∷ [])
    ++ (codes "  0  done" ++ 10 ∷ [])
    ++ (codes "  2  the words are none of these forms" ++ 10 ∷ [])
    ++ (codes "  3  the input could not be read" ++ 10 ∷ [])
    ++ (codes "  4  the output could not be written, or not all of it" ++ 10 ∷ [])
    ++ (codes "  5  the input is no script; error,LINE,CODE was written, or as much of it as could be" ++ 10 ∷ [])
    ++ (codes "  6  the input is longer than 67108864 bytes, a script than 1048576, or a report than 17179869184" ++ 10 ∷ [])
    ++ (codes "  7  out of memory" ++ 10 ∷ [])
    ++ (codes "  8  the input is no event list, or no right report; error,LINE,CODE was written, or as much of it as could be" ++ 10 ∷ [])
    ++ (10 ∷ [])
    ++ (codes "codes of status 5, of the record with the number LINE" ++ 10 ∷ [])
    ++ (codes "   1  the name that it declares is none" ++ 10 ∷ [])
    ++ (codes "   2  the name that it declares is declared already" ++ 10 ∷ [])
    ++ (codes "   3  there are as many resources, tasks or groups as there may be" ++ 10 ∷ [])
    ++ (codes "   4  its group is empty" ++ 10 ∷ [])
    ++ (codes "   5  its request has nothing to read, or nothing to write" ++ 10 ∷ [])
    ++ (codes "   6  the resources to read are not declared together" ++ 10 ∷ [])
    ++ (codes "   7  the first part is empty, or not within the request" ++ 10 ∷ [])
    ++ (codes "   8  it names a resource that is not declared" ++ 10 ∷ [])
    ++ (codes "   9  a number is none, or above its limit" ++ 10 ∷ [])
    ++ (codes "  10  it is no record, has another number of fields, or the version is not 1" ++ 10 ∷ [])
    ++ (codes "  11  it may not stand at this place" ++ 10 ∷ [])
    ++ (codes "  12  it shows or edits what the section does not hold, or what it asks for is empty, or not within the request" ++ 10 ∷ [])
    ++ (codes "  13  it edits what the section holds for reading only" ++ 10 ∷ [])
    ++ (codes "  14  the records end without end" ++ 10 ∷ [])
    ++ (codes "  15  no resource stands before it" ++ 10 ∷ [])
    ++ (codes "  16  no task stands before it" ++ 10 ∷ [])
    ++ (10 ∷ [])
    ++ (codes "codes of status 8, of the record with the number LINE" ++ 10 ∷ [])
    ++ (codes "  1  it is no record, has a bad number or word, or declares what is no name, repeated, empty or one too many" ++ 10 ∷ [])
    ++ (codes "  2  it names a task or a resource that is not declared" ++ 10 ∷ [])
    ++ (codes "  3  it may not stand at this place" ++ 10 ∷ [])
    ++ (codes "  4  its event is refused, for one of these causes, whose number stands behind the code:" ++ 10 ∷ [])
    ++ (codes "     1  the task has a request already" ++ 10 ∷ [])
    ++ (codes "     2  as many requests are incomplete as the cap allows" ++ 10 ∷ [])
    ++ (codes "     3  the task holds nothing, or an ask of it is pending" ++ 10 ∷ [])
    ++ (codes "     4  the request is no upgrade, or has risen" ++ 10 ∷ [])
    ++ (codes "     5  the request is not nested" ++ 10 ∷ [])
    ++ (codes "     6  what is asked for is empty, or not within the request" ++ 10 ∷ [])
    ++ (codes "     7  the request has nothing to read, or nothing to write" ++ 10 ∷ [])
    ++ (codes "     8  the resources to read are not declared together" ++ 10 ∷ [])
    ++ (codes "     9  the first part is empty, or not within the request" ++ 10 ∷ [])
    ++ (codes "  5  a change or a wait is due and this is not its line, or none is due" ++ 10 ∷ [])
    ++ (codes "  6  it is an act with a wrong number or answer, or one that the section may not do there" ++ 10 ∷ [])
    ++ (codes "  7  a ledger is due, and this is not its line" ++ 10 ∷ [])
    ++ (codes "  8  the records end without end" ++ 10 ∷ [])
    ++ (codes "  9  the bound that it tells of a wait is wrong, and no record has another fault" ++ 10 ∷ [])

-- what `--version` writes
unfoldable pub version_text : List ℕ
version_text = (codes "rnlp 1" ++ 10 ∷ []) ++ (codes "reads and writes version 1 of scripts, event lists and reports" ++ 10 ∷ [])

-- what the program writes for words that ask about itself
abbrev pub own_text : List (List ℕ) → Option (List ℕ)
own_text [] = None
own_text (word ∷ []) =
    if bytes_eq word (codes "--help") then Some help_text
    else if bytes_eq word (codes "-h") then Some help_text
    else if bytes_eq word (codes "--version") then Some version_text
    else None
own_text (word ∷ next ∷ words) = None
