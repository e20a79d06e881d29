-- The words of what is reported to the user.
use Rattle.std.specs.Prelude.{ℕ, List, Option, Some, None, codes}
use Rattle.rclaim.specs.declared.request.RequestErr.TheVariants as request
use Rattle.rtrace_form.specs.declared.fault.Code.{Code}
use Rattle.rtrace_form.specs.declared.fault.Code.TheVariants as list
use Rattle.rtrace_form.specs.declared.fault.Refusal.{Refusal}
use Rattle.rtrace_form.specs.declared.fault.Refusal.TheVariants.{Request, Step}
use Rattle.rmodel.specs.declared.refused.Refused.TheVariants as refused
use Rattle.rnlp_cli.specs.declared.status.ToolStatus.{ToolStatus}
use Rattle.rnlp_cli.specs.declared.status.ToolStatus.TheVariants as status
use Rattle.rscript.specs.declared.code.ScriptCode.{ScriptCode}
use Rattle.rscript.specs.declared.code.ScriptCode.TheVariants as script
use Rattle.rwatch.specs.declared.kinds.WatchKind.{WatchKind}
use Rattle.rwatch.specs.declared.kinds.WatchKind.TheVariants as kinds

-- what a status means; a status that is done has no meaning to report
abbrev pub status_meaning : ToolStatus → Option (List ℕ)
status_meaning status.Done = None
status_meaning status.Words = Some (codes "no such form. The forms are rnlp run < SCRIPT, rnlp replay < LIST, rnlp audit < REPORT, rnlp bound [M] < SCRIPT, and rnlp drill N. rnlp --help tells all")
status_meaning status.ReadFault = Some (codes "standard input failed")
status_meaning status.WriteFault = Some (codes "standard output failed")
status_meaning status.Script = Some (codes "the input is no script")
status_meaning status.TooLong = Some (codes "the input is too long")
status_meaning status.NoMemory = Some (codes "out of memory")
status_meaning status.Trace = Some (codes "the input is no event list, or no right report")

-- what a watcher counts
abbrev pub kind_word : WatchKind → List ℕ
kind_word kinds.Issues = codes "issues"
kind_word kinds.Finishes = codes "finishes"
kind_word kinds.Rises = codes "rises"
kind_word kinds.Asks = codes "asks"
kind_word kinds.Entitled = codes "entitled"
kind_word kinds.Satisfied = codes "satisfied"
kind_word kinds.Grants = codes "grants"

-- what is wrong with a record of a script
abbrev pub script_meaning : ScriptCode → List ℕ
script_meaning script.BadField = codes "it is no record of a script, has another number of fields, or the version is not 1"
script_meaning script.BadOrder = codes "it may not stand at this place"
script_meaning script.NoResources = codes "no resource stands before it"
script_meaning script.NoTask = codes "no task stands before it"
script_meaning script.BadName = codes "the name that it declares is none"
script_meaning script.Repeated = codes "the name that it declares is declared already"
script_meaning script.TooMany = codes "there are as many resources, tasks or groups as there may be"
script_meaning script.UnknownName = codes "it names a resource that is not declared"
script_meaning script.BadNumber = codes "a number of it is none, or above its limit"
script_meaning script.EmptyGroup = codes "its group is empty"
script_meaning script.EmptyRequest = codes "its request has nothing to read, or nothing to write"
script_meaning script.Undeclared = codes "the resources to read are not declared together"
script_meaning script.FirstOutside = codes "the first part is empty, or not within the request"
script_meaning script.NotHeld = codes "it shows or edits what the section does not hold, or what it asks for is empty, or not within the request"
script_meaning script.NotWritable = codes "it edits what the section holds for reading only"
script_meaning script.NoEnd = codes "the script has no end record"

-- what is wrong with a record of a list or a report
abbrev pub list_meaning : Code → List ℕ
list_meaning list.BadField = codes "it is no record of this input, has a bad number or word, or declares what is no name, repeated, empty or one too many"
list_meaning list.UnknownName = codes "it names a task or a resource that is not declared"
list_meaning list.BadOrder = codes "it may not stand at this place"
list_meaning (list.Refused cause) = codes "the event is refused"
list_meaning list.WrongChange = codes "a change or a wait is due here and this is not its line, or none is due"
list_meaning list.WrongShow = codes "the number or the answer of this act is wrong, or the section may not do it here"
list_meaning list.WrongLedger = codes "a ledger is due here, and this is not its line"
list_meaning list.NoEnd = codes "the input has no end record"
list_meaning list.WrongBound = codes "the bound that it tells is not that of the wait"

-- why an event is refused
abbrev pub refusal_meaning : Refusal → List ℕ
refusal_meaning (Step refused.SeatBusy) = codes "the task has a request already"
refusal_meaning (Step refused.Full) = codes "as many requests are incomplete as the cap allows"
refusal_meaning (Step refused.NotHolding) = codes "the task holds nothing, or an ask of it is pending"
refusal_meaning (Step refused.NotUpgradeable) = codes "the request is no upgrade, or has risen"
refusal_meaning (Step refused.NotNested) = codes "the request is not nested"
refusal_meaning (Step refused.AskOutside) = codes "what is asked for is empty, or not within the request"
refusal_meaning (Request request.EmptyRequest) = codes "the request has nothing to read, or nothing to write"
refusal_meaning (Request request.Undeclared) = codes "the resources to read are not declared together"
refusal_meaning (Request request.FirstOutside) = codes "the first part is empty, or not within the request"
