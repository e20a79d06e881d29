-- The names that a reader has read.
use Rattle.rtrace_form.specs.Fields.{Names}
use Rattle.rtrace_read.specs.declared.reading.ReportReader.{ReportReader}

abbrev pub names_read : ReportReader → Names
names_read reading = record { resources = reading.resources; tasks = reading.tasks }
