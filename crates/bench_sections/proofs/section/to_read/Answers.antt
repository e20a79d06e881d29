use Rattle.std.proofs.Common.{◌≡◌, ◌==◌, true, [], refl, sym, ap, subst, ◌∙◌}
use Rattle.std.specs.FinSet.{empty, insert, contains}
use Rattle.std.proofs.lemmas.Bool.{eq-eqb, or_left}
use Rattle.rset.specs.declared.TheConstants.{RESOURCES}
use Rattle.rset.specs.Sets.{Set}
use Rattle.rset.proofs.SetMembers.{contains_insert}
use Rattle.rset.proofs.SetsBelow.{all_below_empty}
use Rattle.rexpand.specs.Groups.{no_groups, is_declared}
use Rattle.rexpand.proofs.DeclaredLemmas.{declared_one}
use Rattle.rclaim.specs.Requests.{RequestFields, normalised}
use Rattle.rclaim.specs.declared.request.Kind.TheVariants.{Read}
use Rattle.rvalue.specs.declared.ledger.Ledger.{Ledger}
use Rattle.rvalue.specs.Ledgers.{value_after, is_taken}
use Rattle.rguard.specs.Seats.{SuitsSeat}
use Rattle.rguard.specs.Sections.{read_of}
use Rattle.rguard.proofs.Having.{is_plain}
use Rattle.rguard.proofs.Held.{reads_acquired}
use Rattle.rguard.proofs.Resting.{suits}
use Rattle.rguard.proofs.Sections.{entered_to_read}
use Rattle.bench_sections.proofs.section.to_read.Goals as goal

pub acquire-requires-clause-suits : goal.acquire-requires-clause-suits
acquire-requires-clause-suits g c κs within =
    let set = c.one-set.result in
    let declared = subst (λ (s : Set). is_declared [] s ≡ true) (sym c.one-set.ensures) (declared_one [] c.args.place) in
    subst (λ (r : RequestFields). SuitsSeat c.args.seat r) (sym c.in-Ok.ensures.made)
    (suits (no_groups RESOURCES) c.args.lock.now c.args.seat (normalised Read set set set 1 0) c.requires.rests.at c.len.ensures.within (all_below_empty RESOURCES) declared)

pub returns-in-Ok-Read-clause-holds : goal.returns-in-Ok-Read-clause-holds
returns-in-Ok-Read-clause-holds g c =
    let there : contains (insert empty c.args.place) c.args.place ≡ true =
    contains_insert empty c.args.place c.args.place ∙ or_left (c.args.place == c.args.place) (contains empty c.args.place) (eq-eqb c.args.place c.args.place refl) in
    reads_acquired value_after is_taken (λ (ledger : Ledger). ledger.balance) c.args.lock.now c.args.seat c.in-Ok.request c.in-Ok-Read.guard c.in-Ok-Read.field-0 c.args.place
    (ap (λ (r : RequestFields). is_plain r.kind) c.in-Ok.ensures.made) c.in-Ok-Read.field-0-is c.in-Ok-Read.ensures.ok c.seat.ensures.lawful c.seat.ensures.own
    (ap (λ (r : RequestFields). contains r.reads c.args.place) c.in-Ok.ensures.made ∙ ap (λ (s : Set). contains s c.args.place) c.one-set.ensures ∙ there)

pub returns-in-Ok-Read-clause-entered : goal.returns-in-Ok-Read-clause-entered
returns-in-Ok-Read-clause-entered g c =
    entered_to_read c.args.lock.now c.args.seat c.in-Ok.request (read_of (insert empty c.args.place)) c.in-Ok-Read.guard c.in-Ok-Read.field-0 (c.in-Ok.ensures.made ∙ ap (λ (s : Set). read_of s) c.one-set.ensures)
    c.in-Ok-Read.field-0-is c.in-Ok-Read.ensures.ok
