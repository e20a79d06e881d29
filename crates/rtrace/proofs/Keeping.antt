-- What was taken is kept, one more record at a time.
use Rattle.std.proofs.Common.{◌≡◌, Bool, ◌++◌, Option, None, sym, ap, subst, ◌∙◌}
use Rattle.std.specs.Prelude.{option_map, option_to_list}
use Rattle.rtrace_form.specs.Records.{Row}
use Rattle.rtrace_form.specs.Reports.{Entry}
use Rattle.rtrace_form.specs.SoFar.{SoFar, with_act, with_row}
use Rattle.rtrace_form.specs.Faults.{code_of}
use Rattle.rtrace.specs.declared.collect.Collecting.{Collecting}
use Rattle.rtrace_read.specs.declared.reading.ReportReader.{ReportReader}
use Rattle.rtrace_read.specs.declared.taken.TakenRecord.{TakenRecord}
use Rattle.rtrace_read.specs.declared.taken.TakenRecord.TheVariants as taken
use Rattle.rtrace_read.specs.Knows.{Knows}
use Rattle.rtrace_read.specs.Takes.{Adds, TakesRow}
use Rattle.rtrace.specs.Collects.{KnowsAll, Keeps}

module _ (whole : Bool) (old new : Collecting) (reading : ReportReader) (s t : SoFar) (h : KnowsAll whole old s) (knows : Knows whole reading t) where
  keeps_at : (what : TakenRecord) → Adds what s t → Keeps what (record old { reading = reading }) new → KnowsAll whole new t
  keeps_at (taken.Event e) adds keeps = record {
    knows = subst (λ (r : ReportReader). Knows whole r t) (sym keeps.0) knows;
    earlier = keeps.1 ∙ (λ i. h.earlier i ++ option_to_list (h.latest i)) ∙ sym adds.0;
    latest = keeps.2 ∙ sym adds.1;
  }
  keeps_at (taken.Act act) adds keeps = record {
    knows = subst (λ (r : ReportReader). Knows whole r t) (sym keeps.0) knows;
    earlier = keeps.1 ∙ h.earlier ∙ sym adds.0;
    latest = keeps.2 ∙ ap (λ (l : Option Entry). option_map (with_act act) l) h.latest ∙ sym adds.1;
  }
  keeps_at (taken.Wait told) adds keeps = record {
    knows = subst (λ (c : Collecting). Knows whole c.reading t) (sym keeps) knows;
    earlier = ap (λ (c : Collecting). c.history.entries) keeps ∙ h.earlier ∙ sym adds.0;
    latest = ap (λ (c : Collecting). c.latest) keeps ∙ h.latest ∙ sym adds.1;
  }
  keeps_at taken.Other adds keeps = record {
    knows = subst (λ (c : Collecting). Knows whole c.reading t) (sym keeps) knows;
    earlier = ap (λ (c : Collecting). c.history.entries) keeps ∙ h.earlier ∙ sym adds.0;
    latest = ap (λ (c : Collecting). c.latest) keeps ∙ h.latest ∙ sym adds.1;
  }

-- what a reader took is kept
pub keeps_all : (whole : Bool) (old new : Collecting) (reading : ReportReader) (s : SoFar) (row : Row) (what : TakenRecord) → KnowsAll whole old s → TakesRow old.reading reading row what → Keeps what (record old { reading = reading }) new
    → (code_of whole s row ≡ None) × KnowsAll whole new (with_row whole s row)
keeps_all whole old new reading s row what h takes keeps =
    let took = takes whole s h.knows in
    (took.0, keeps_at whole old new reading s (with_row whole s row) h took.1 what took.2 keeps)
