use Rattle.std.proofs.Common.{◌≡◌, nat_lt, true, false, sym, ap, ◌∙◌}
use Rattle.std.proofs.lemmas.Bool.{or_left}
use Rattle.std.specs.FinSet.{contains, len}
use Rattle.rset.specs.Sets.{meets}
use Rattle.rmodel.proofs.ListFacts.{all_at, all_from}
use Rattle.rcover_laws.specs.Sections.{Sections}
use Rattle.rcover.specs.Kept.{may_wait, kept_of}
use Rattle.rcover.specs.Lines.{HeadsTell, set_at}
use Rattle.rcover.specs.Due.{ReadStays, is_write_of_these, is_due, StoodBy}
use Rattle.rcover.specs.NotedSeats.{some_wait}
use Rattle.rcover.proofs.Undue.{calm_due, looked_changed, undue_kept}
use Rattle.rcover.proofs.follow.keep.Goals as goal

pub keep_looked-requires-clause-undue : goal.keep_looked-requires-clause-undue
keep_looked-requires-clause-undue c =
    let e = c.args.event.now in
    let m = c.args.last.now in
    let n = c.args.next.now in
    let looked = c.looked_at-looked.result in
    let hs = c.args.heads.now in
    let lost = c.args.lost.now in
    all_from (λ x. is_due e looked c.args.written x ≡ false → may_wait n x ≡ true → (a : Sections) → kept_of m n a x ≡ a) n
    (λ x there undue on a.
    undue_kept e c.args.waiting c.args.moved c.args.risen looked c.args.written m n x hs lost (all_at (HeadsTell hs lost c.args.moved c.args.risen m n) n x c.requires.heads there) c.looked_at-looked.ensures
    (all_at (λ y. some_wait n y ≡ true → contains c.args.waiting y.claim.seat ≡ true) n x c.requires.waiting there) undue
    (all_at (StoodBy e m n) n x c.requires.stood there) (all_at (ReadStays c.args.written m n) n x c.requires.reads there) a on)

pub keep_writes-requires-clause-undue : goal.keep_writes-requires-clause-undue
keep_writes-requires-clause-undue c =
    let e = c.args.event.now in
    let m = c.args.last.now in
    let n = c.args.next.now in
    let looked = c.looked_at-looked.result in
    let hs = c.args.heads.now in
    let lost = c.args.lost.now in
    all_from (λ x. is_write_of_these looked x ≡ false → may_wait n x ≡ true → (a : Sections) → kept_of m n a x ≡ a) n
    (λ x there off on a.
    undue_kept e c.args.waiting c.args.moved c.args.risen looked c.args.written m n x hs lost (all_at (HeadsTell hs lost c.args.moved c.args.risen m n) n x c.requires.heads there) c.looked_at-looked.ensures
    (all_at (λ y. some_wait n y ≡ true → contains c.args.waiting y.claim.seat ≡ true) n x c.requires.waiting there)
    (calm_due e looked c.args.written (c.reads_stay.ensures.calm c.if-reads_stay.true) x
    (λ read.
    ap (λ s. meets s c.args.written) (sym (all_at (λ y. y.claim.write_half ≡ false → set_at c.args.wanted.now y.claim.seat ≡ y.claim.reads) n x c.requires.wanted there read))
    ∙ c.reads_stay.ensures.none c.if-reads_stay.true x.claim.seat (all_at (λ y. y.claim.write_half ≡ false → contains c.args.reading y.claim.seat ≡ true) n x c.requires.reading there read)
    (all_at (λ y. some_wait n y ≡ true → contains c.args.waiting y.claim.seat ≡ true) n x c.requires.waiting there (or_left (may_wait n x) (nat_lt 0 (len x.asked)) on))) off)
    (all_at (StoodBy e m n) n x c.requires.stood there) (all_at (ReadStays c.args.written m n) n x c.requires.reads there) a on)

pub keep_writes-requires-clause-placed : goal.keep_writes-requires-clause-placed
keep_writes-requires-clause-placed c = λ seat on.
    c.requires.placed seat (looked_changed c.args.event.now c.args.waiting c.args.moved c.args.risen c.looked_at-looked.result c.looked_at-looked.ensures
    (c.reads_stay.ensures.calm c.if-reads_stay.true) seat on)
