-- Cut records have the same first fault and the same counts.
use Rattle.std.proofs.Common.{◌≡◌, ℕ, suc, ◌+◌, true, List, [], ◌∷◌, ◌++◌, length, sym, ap, subst, ◌∙◌}
use Rattle.rtrace_form.specs.Records.{Row}
use Rattle.rtrace_form.specs.SoFar.{SoFar, head_in, entries_in}
use Rattle.rtrace_form.specs.Waits.{all_ended}
use Rattle.rbound.specs.Bounds.{Numbers}
use Rattle.rtrace_form.specs.Takers.{AreGood, list_code, is_list_done}
use Rattle.rtrace_form.specs.declared.fault.Code.TheVariants.{NoEnd}
use Rattle.rtrace_form.proofs.texts.Lists.{list_faults}
use Rattle.rshort.specs.Cut.{AreCutRows}
use Rattle.rshort.proofs.Faults.{same_fault}
use Rattle.rshort.proofs.Readings.{same_said, same_bounds}
use Rattle.rtrace_read.specs.Knows.{Knows, past_in}
use Rattle.rtrace.specs.declared.bounds.BoundsKept.{BoundsKept}
use Rattle.rtrace.specs.Told.{waits_of, AreBefore}
use Rattle.rtrace.specs.ToldBounds.{KnowsBounds, AreTold, waits_left}
use Rattle.rtrace.specs.Collects.{KnowsCount}
use Rattle.rtrace.specs.Feeding.{FaultsStay, KnowledgeStays}

pub count_faults_stay : FaultsStay (list_code true) (is_list_done true) NoEnd
count_faults_stay rows cut are = list_faults true rows ∙ same_fault true rows cut are ∙ sym (list_faults true cut)

as_many : (rows cut : List Row) → AreCutRows rows cut → length rows ≡ length cut
as_many [] cut are = sym (ap (λ (rs : List Row). length rs) are)
as_many (row ∷ rows) cut are = ap suc (as_many rows are.1 are.4) ∙ sym (ap (λ (rs : List Row). length rs) are.2)

bounds_stay : (kept : BoundsKept) (rows cut : List Row) → AreCutRows rows cut → AreGood (list_code true) cut → KnowsBounds kept cut → KnowsBounds kept rows
bounds_stay kept rows cut are good k =
    let same = same_said true rows cut are good in
    let many = as_many rows cut are in
    record {
      items = k.items;
      records = k.records ∙ sym many;
      bounds = same_bounds true rows cut are good ∙ k.bounds;
      below = subst (λ n. AreBefore (n + 1) k.items) (sym many) k.below;
      waits = subst (λ (s : SoFar). waits_of k.items ++ waits_left s ≡ all_ended (head_in s) (entries_in s)) (sym same) k.waits;
      told = subst (λ (s : SoFar). AreTold kept.told (past_in s) k.items) (sym same) k.told;
    }

pub count_knowledge_stays : KnowledgeStays (list_code true) KnowsCount
count_knowledge_stays taker rows cut are good k =
    let same = same_said true rows cut are good in
    record {
      knows = subst (λ (s : SoFar). Knows true taker.reading s) (sym same) k.knows;
      bounds = bounds_stay taker.bounds rows cut are good k.bounds;
      events = subst (λ (s : SoFar). taker.events ≡ length (entries_in s)) (sym same) k.events;
      waits = k.waits ∙ ap (λ (bounds : List (ℕ × Numbers)). length bounds) (sym (same_bounds true rows cut are good));
    }
