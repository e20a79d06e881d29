-- The lines of the waits of a lawful history may be written, and each has a cover within its bound.
use Rattle.std.proofs.Common.{◌≡◌, ◌≤◌, ◌<◌, true, List, [], ◌∷◌, ◌++◌, length, sym, ap, subst, ◌∙◌, arith}
use Rattle.std.specs.List.{AllByRecursion}
use Rattle.std.proofs.lemmas.List.{map-append}
use Rattle.rset.specs.declared.TheConstants.{SEATS}
use Rattle.rclaim.specs.declared.event.Event.{Event}
use Rattle.rmodel.specs.Steps.{AreAccepted}
use Rattle.rmodel.proofs.ListFacts.{all_at, all_from, all_map}
use Rattle.rmodel.proofs.reaching.Histories.{accepted_parts}
use Rattle.rbound.specs.Bounds.{Numbers, IsWithin}
use Rattle.rbound.specs.TaskNeeds.{bound_of}
use Rattle.rcover_laws.specs.declared.wait_end.WaitEnd.{WaitEnd}
use Rattle.rcover_laws.specs.History.{history_needs, number_from}
use Rattle.rtrace_form.specs.Heads.{Head, names_of, read_groups, opening_of}
use Rattle.rtrace_form.specs.Lines.{IsWritable}
use Rattle.rtrace_form.specs.Waits.{events_of, cover_of, ended_in, needs_in, bound_in}
use Rattle.rtrace_form.specs.Reports.{Entry, wait_line, wait_lines, IsLawful}
use Rattle.rtrace_form.specs.ToldWaits.{IsWithinBound}
use Rattle.rtrace_form.proofs.written.Reaching.{accepted_from}
use Rattle.rtrace_form.proofs.waits.EndedWaits.{IsGoodEnd, ends_are_good}
use Rattle.rtrace_form.proofs.waits.ShortNeeds.{needs_short}
use Rattle.rtrace_form.proofs.waits.SmallBounds.{AreTellable, bound_tellable}

-- the bound of a wait by a list of events
abbrev bound_by : Head → List Event → WaitEnd → Numbers
bound_by head events w = bound_of (record { groups = read_groups head; tasks = history_needs (length head.tasks) events }) head.cap w.seat (number_from events w.stamp w.seat) w.which

-- a wait of a history: it is of a task of the head, its cover is within its bound, and both may be written
pub record IsGoodWait (head : Head) (entries : List Entry) (w : WaitEnd) : Type 0 where
  pub seated : w.seat < length head.tasks
  pub within : IsWithin (cover_of w) (bound_in head entries w)
  pub bound : AreTellable (bound_in head entries w)
  pub cover : AreTellable (cover_of w)

module _ (head : Head) (entries : List Entry) (lawful : IsLawful head entries) (some : 1 ≤ head.cap) (few : head.cap ≤ SEATS) where
  accepted : AreAccepted (opening_of head) (events_of entries)
  accepted = accepted_from head [] entries lawful

  -- *Each wait that an event of a lawful history ends is good*
  pub good_waits : (earlier : List Entry) (entry : Entry) (rest : List Entry) → earlier ++ entry ∷ rest ≡ entries → AllByRecursion (IsGoodWait head entries) (ended_in head earlier entry.event)
  unfolding ended_in bound_in
  good_waits earlier entry rest all =
      let es = events_of earlier in
      let ds = events_of (entry ∷ rest) in
      let parts : events_of entries ≡ es ++ ds = ap (λ (xs : List Entry). events_of xs) (sym all) ∙ map-append (λ (x : Entry). x.event) earlier (entry ∷ rest) in
      let first = (accepted_parts (opening_of head) es ds (subst (AreAccepted (opening_of head)) parts accepted)).0 in
      let ends = ends_are_good (read_groups head) (length head.tasks) head.cap es ds first entry.event in
      all_from (IsGoodWait head entries) (ended_in head earlier entry.event) (λ w there.
      let good = all_at (IsGoodEnd (read_groups head) (length head.tasks) head.cap es ds first) (ended_in head earlier entry.event) w ends there in
      let within : IsWithin (cover_of w) (bound_in head entries w) =
      subst (λ (events : List Event). IsWithin (cover_of w) (bound_by head events w)) (sym parts) good.within in
      let bound = bound_tellable (needs_in head entries) head.cap w.seat (number_from (events_of entries) w.stamp w.seat) w.which
      (needs_short head.groups (length head.tasks) (opening_of head) (events_of entries) accepted) some few in
      let reads = within.reads in
      let writes = within.writes in
      let units = within.units in
      record {
        seated = good.seated;
        within = within;
        bound = bound;
        cover = (let r = bound.reads in let w = bound.writes in let u = bound.units in record { reads = omega (arith, reads, r); writes = omega (arith, writes, w); units = omega (arith, units, u) });
      })

  wait_writable : (w : WaitEnd) → IsGoodWait head entries w → IsWritable (names_of head) (wait_line (bound_in head entries) w)
  wait_writable w h = record {
    good = (h.seated, (h.cover.reads, (h.cover.writes, (h.cover.units, (h.bound.reads, (h.bound.writes, (h.bound.units, tt)))))));
    normal = tt;
    named = tt;
  }

  -- their lines may be written
  pub waits_writable : (earlier : List Entry) (entry : Entry) (rest : List Entry) → earlier ++ entry ∷ rest ≡ entries
      → AllByRecursion (IsWritable (names_of head)) (wait_lines true (bound_in head entries) head earlier entry.event)
  unfolding wait_lines
  waits_writable earlier entry rest all =
      let good = good_waits earlier entry rest all in
      all_map (wait_line (bound_in head entries)) (IsWritable (names_of head)) (ended_in head earlier entry.event)
      (λ w there. wait_writable w (all_at (IsGoodWait head entries) (ended_in head earlier entry.event) w good there))

  -- and each is within its bound
  pub waits_within : (earlier : List Entry) (entry : Entry) (rest : List Entry) → earlier ++ entry ∷ rest ≡ entries
      → AllByRecursion IsWithinBound (wait_lines true (bound_in head entries) head earlier entry.event)
  unfolding wait_lines
  waits_within earlier entry rest all =
      let good = good_waits earlier entry rest all in
      all_map (wait_line (bound_in head entries)) IsWithinBound (ended_in head earlier entry.event)
      (λ w there. (all_at (IsGoodWait head entries) (ended_in head earlier entry.event) w good there).within)
