use Rattle.std.proofs.Common.{◌≡◌, ◌≤◌, length, sym, ap, subst, ◌∙◌}
use Rattle.rset.specs.Sets.{Set, rising}
use Rattle.rset.proofs.SetLemmas.{length_rising}
use Rattle.rguard.specs.LentSections.{writes_at_most}
use Rattle.rguard.proofs.pending.rooms.Goals as goal

pub returns-clause-room : goal.returns-clause-room
returns-clause-room g c =
    let reads : c.from-reads.result ≡ length (rising c.args.request.now.reads)
    = c.from-reads.ensures ∙ c.len.ensures.value ∙ sym (length_rising c.reads.result c.len.ensures.within) ∙ ap (λ (s : Set). length (rising s)) c.reads.ensures.value in
    let writes : c.from-writes.result ≡ length (rising (writes_at_most c.args.request.now))
    = c.from-writes.ensures ∙ c.len-2.ensures.value ∙ sym (length_rising c.writes_at_most.result c.len-2.ensures.within) ∙ ap (λ (s : Set). length (rising s)) c.writes_at_most.ensures in
    record {
      no_reads = c.prepare.ensures.none.0;
      no_writes = c.prepare.ensures.none.1;
      reads = subst (λ n. n ≤ c.prepare.new.self.reads_room) reads c.in_ok-prepare.ensures.ok.0;
      writes = subst (λ n. n ≤ c.prepare.new.self.writes_room) writes c.in_ok-prepare.ensures.ok.1;
    }
