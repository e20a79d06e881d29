use Rattle.std.proofs.Common.{◌≡◌, ◌≤◌, ◌<◌, ℕ, List, Some, get_or, length, refl, sym, ap, subst, ◌∙◌}
use Rattle.std.specs.Prelude.{slice_get}
use Rattle.std.proofs.lemmas.Option.{slice_get_read}
use Rattle.rset.specs.declared.TheConstants.{SEATS}
use Rattle.rcover_laws.specs.Lists.{AreAtMost, reads_against, with_option}
use Rattle.rcover.specs.declared.lines.Head.{Head}
use Rattle.rcover.specs.Kept.{kept_in, length_by}
use Rattle.rcover.specs.Last.{first_at}
use Rattle.rcover.specs.Lines.{head_of}
use Rattle.rcover.specs.Shown.{closed_by}
use Rattle.rcover.proofs.Kept.{least_has}
use Rattle.rcover.proofs.over.Closed.{made_of, risen_closed, same_closed}
use Rattle.rcover.proofs.run.go_on_write.Goals as goal

some_one : (a b : Head) → Some a ≡ Some b → a ≡ b
some_one a b h = cc

-- the head that is read is that of the next moment
read_head : (hs : List Head) (seat : ℕ) (h g : Head) → seat < length hs → h ≡ get_or hs seat h → slice_get hs seat ≡ Some g → h ≡ g
read_head hs seat h g small is told = some_one h g (sym (slice_get_read hs (length hs) seat h refl small is) ∙ told)

pub close_lost-requires-clause-few : goal.close_lost-requires-clause-few
close_lost-requires-clause-few c =
    let m = c.args.last.now in
    let x = c.args.x.now in
    let a = kept_in c.args.run.now in
    let are = c.requires.heads.moved c.requires.write (sym c.has.ensures ∙ c.if-has.true) in
    let least : c.index-heads-seat.result ≡ head_of c.args.next.now x.claim = read_head c.args.heads.now x.claim.seat _ _ c.requires.head c.index-heads-seat.is are.1 in
    subst (λ (z : Head × Head). AreAtMost SEATS (closed_by z.0 a m z.1)) (λ i. (are.0 i, sym least i)) c.requires.few

pub close_lost-requires-clause-section : goal.close_lost-requires-clause-section
close_lost-requires-clause-section c = c.requires.section

pub returns-then-has-clause-kept : goal.returns-then-has-clause-kept
returns-then-has-clause-kept c =
    let m = c.args.last.now in
    let x = c.args.x.now in
    let a = kept_in c.args.run.now in
    let are = c.requires.heads.moved c.requires.write (sym c.has.ensures ∙ c.if-has.true) in
    let least : c.index-heads-seat.result ≡ head_of c.args.next.now x.claim = read_head c.args.heads.now x.claim.seat _ _ c.requires.head c.index-heads-seat.is are.1 in
    c.close_lost.ensures.kept ∙ (λ i. closed_by (sym are.0 i) a m (least i))

pub returns-then-has-clause-lengths : goal.returns-then-has-clause-lengths
returns-then-has-clause-lengths c = λ len are own have.
    let by = length_by c.args.lengths.now in
    let x = c.args.x.now in
    let is : head_of c.args.last.now x.claim ≡ c.args.lost.now = (c.requires.heads.moved c.requires.write (sym c.has.ensures ∙ c.if-has.true)).0 in
    c.close_lost.ensures.lengths len are (subst (λ (h : Head). by h.claim ≡ len h.claim) is (least_has by len x.claim own c.args.last.now are)) have

pub keep_taken-requires-clause-room : goal.keep_taken-requires-clause-room
keep_taken-requires-clause-room c =
    let m = c.args.last.now in
    let x = c.args.x.now in
    let a = kept_in c.args.run.now in
    let g = head_of c.args.next.now x.claim in
    let are = c.requires.heads.risen c.requires.write (sym c.has.ensures ∙ c.if-has.false) (sym c.has-2.ensures ∙ c.if-has-2.true) in
    let least : c.index-heads-seat.result ≡ g = read_head c.args.heads.now x.claim.seat _ _ c.requires.head c.index-heads-seat.is are.0 in
    let few = subst (AreAtMost SEATS) (risen_closed (head_of m x.claim) g a m are.1 are.2) c.requires.few in
    subst (λ (z : Head × ℕ). length (with_option a.reads (first_at (reads_against z.0.claim) m)) ≤ z.1) (λ i. (sym least i, sym c.requires.room.reads i)) few.reads

pub returns-then-has-2-clause-kept : goal.returns-then-has-2-clause-kept
returns-then-has-2-clause-kept c =
    let m = c.args.last.now in
    let x = c.args.x.now in
    let a = kept_in c.args.run.now in
    let g = head_of c.args.next.now x.claim in
    let are = c.requires.heads.risen c.requires.write (sym c.has.ensures ∙ c.if-has.false) (sym c.has-2.ensures ∙ c.if-has-2.true) in
    let least : c.index-heads-seat.result ≡ g = read_head c.args.heads.now x.claim.seat _ _ c.requires.head c.index-heads-seat.is are.0 in
    ap (λ r. made_of r a.writes) (c.keep_taken.ensures.claims ∙ ap (λ (h : Head). with_option a.reads (first_at (reads_against h.claim) m)) least)
    ∙ sym (risen_closed (head_of m x.claim) g a m are.1 are.2)

pub returns-then-has-2-clause-lengths : goal.returns-then-has-2-clause-lengths
returns-then-has-2-clause-lengths c = λ len are own have. record { reads = c.keep_taken.ensures.lengths len are have.reads; writes = have.writes }

pub returns-else-has-2-clause-kept : goal.returns-else-has-2-clause-kept
returns-else-has-2-clause-kept c =
    let m = c.args.last.now in
    let x = c.args.x.now in
    let same = c.requires.heads.same c.requires.write (sym c.has.ensures ∙ c.if-has.false) (sym c.has-2.ensures ∙ c.if-has-2.false) in
    sym (same_closed (head_of m x.claim) (head_of c.args.next.now x.claim) (kept_in c.args.run.now) m same)
