use Rattle.std.proofs.Common.{◌≡◌, ◌++◌, List, sym, ap, subst, ◌∙◌, refl}
use Rattle.std.proofs.lemmas.Result.{on_ok_weaker}
use Rattle.rclaim.specs.declared.event.Event.{Event}
use Rattle.rcover_laws.specs.Ended.{ended_by}
use Rattle.rcover_laws.specs.declared.wait_end.WaitEnd.{WaitEnd}
use Rattle.rmodel.specs.Changes.{changes_between}
use Rattle.rmodel.specs.Steps.{Comes, next}
use Rattle.rtrace_write.specs.Past.{Past, start_of, state_of, with_event}
use Rattle.rtrace_form.specs.Reports.{Entry}
use Rattle.rtrace_write.specs.Told.{entry_told}
use Rattle.rtrace_write.specs.Gathered.{KnowsGathered}
use Rattle.rtrace_write.specs.Open.{open_told}
use Rattle.rtrace_write.specs.Stepped.{AreBehind}
use Rattle.rtrace_write.proofs.Writing.{always_on_ok}
use Rattle.rtrace_write.proofs.history.push_next.Goals as goal

pub advance-requires : goal.advance-requires
advance-requires c =
    let r = c.requires in
    let event : c.entry.inside.event ≡ c.args.entry.now.event = ap (λ (x : Entry). x.event) c.entry.view_is in
    (r.0, r.2, subst (λ (e : Event). Comes (state_of r.0) e) (sym event) r.4, r.5)

pub tell-requires : goal.tell-requires
tell-requires c =
    let r = c.requires in
    let p : Past = r.0 in
    let event : c.entry.inside.event ≡ c.args.entry.now.event = ap (λ (x : Entry). x.event) c.entry.view_is in
    let comes = subst (λ (e : Event). Comes (state_of p) e) (sym event) r.4 in
    let took = c.advance.ensures p r.2 comes in
    (p, r.1, r.3, record { comes = comes; ended = c.ended-2.ensures.ended (with_event p c.entry.inside.event) took.behind.follows p.events c.entry.inside.event refl })

pub returns-clause-behind : goal.returns-clause-behind
returns-clause-behind c =
    let event : c.entry.inside.event ≡ c.args.entry.now.event = ap (λ (x : Entry). x.event) c.entry.view_is in
    always_on_ok c.tell.result
    (λ p behind comes.
    subst (λ (e : Event). AreBehind c.advance.new.machine.state c.advance.new.following (with_event p e)) event
    (c.advance.ensures p behind (subst (λ (e : Event). Comes (state_of p) e) (sym event) comes)).behind)

pub returns-clause-text : goal.returns-clause-text
returns-clause-text c =
    let event : c.entry.inside.event ≡ c.args.entry.now.event = ap (λ (x : Entry). x.event) c.entry.view_is in
    always_on_ok c.tell.result
    (λ p behind comes.
    let took = c.advance.ensures p behind (subst (λ (e : Event). Comes (state_of p) e) (sym event) comes) in
    let changes = c.changes.ensures ∙ took.changes ∙ ap (λ (e : Event). changes_between (state_of p) (next (state_of p) e)) event in
    let ended = c.ended.ensures.ended (with_event p c.entry.inside.event) took.behind.follows p.events c.entry.inside.event refl ∙ ap (λ (e : Event). ended_by (start_of p) p.events e) event in
    c.in_ok-push_entry.ensures.ok ∙ (λ i. c.args.text.now ++ open_told c.args.names.now (entry_told c.args.entry.now (changes i) (ended i))))

pub returns-clause-gathered : goal.returns-clause-gathered
returns-clause-gathered c =
    let event : c.entry.inside.event ≡ c.args.entry.now.event = ap (λ (x : Entry). x.event) c.entry.view_is in
    on_ok_weaker c.tell.result
    (λ told p ws behind known comes.
    let here = subst (λ (e : Event). Comes (state_of p) e) (sym event) comes in
    let took = c.advance.ensures p behind here in
    let ended = c.ended-2.ensures.ended (with_event p c.entry.inside.event) took.behind.follows p.events c.entry.inside.event refl in
    subst (λ (e : Event). KnowsGathered c.tell.new.self (with_event p e) (ws ++ ended_by (start_of p) p.events e)) event
    (subst (λ (es : List WaitEnd). KnowsGathered c.tell.new.self (with_event p c.entry.inside.event) (ws ++ es)) ended
    (told p ws known (record { comes = here; ended = ended }))))
    c.tell.ensures
