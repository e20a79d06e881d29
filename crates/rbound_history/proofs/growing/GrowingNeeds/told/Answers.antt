use Rattle.std.proofs.Common.{◌≡◌, ◌⊎◌, ℕ, ◌++◌, ◌∷◌, [], inl, inr, sym, ap, subst, ◌∙◌, arith}
use Rattle.rset.specs.Sets.{Set}
use Rattle.rclaim.specs.Requests.{RequestFields}
use Rattle.rclaim.specs.declared.event.Event.{Event}
use Rattle.rclaim.specs.declared.event.Event.TheVariants.{Issue, Finish, Rise, Ask}
use Rattle.rmodel.specs.State.{opening}
use Rattle.rmodel.specs.Steps.{AreAccepted}
use Rattle.rbound_history.specs.Shapes.{is_nested_at}
use Rattle.rbound_history.specs.TaskShapes.{TaskShapes}
use Rattle.rbound_history.specs.Knows.{Knows}
use Rattle.rbound_history.proofs.Following.{last_by, knows_issue, knows_ask, knows_other}
use Rattle.rbound_history.proofs.Told.{seat_there, ask_of_last, nested_at, on_ok_both}
use Rattle.rbound_history.proofs.growing.GrowingNeeds.told.Goals as goal

-- an issue and an ask are neither a finish nor a rise
no_issue : {P : Type 0} (e : Event) (t : ℕ) (r : RequestFields) (seat : ℕ) → e ≡ Issue t r → (e ≡ Finish seat) ⊎ (e ≡ Rise seat) → P
no_issue e t r seat issue (inl finish) = absurd cc
no_issue e t r seat issue (inr rise) = absurd cc

no_ask : {P : Type 0} (e : Event) (t : ℕ) (part : Set) (seat : ℕ) → e ≡ Ask t part → (e ≡ Finish seat) ⊎ (e ≡ Rise seat) → P
no_ask e t part seat ask (inl finish) = absurd cc
no_ask e t part seat ask (inr rise) = absurd cc

pub take_request-requires-clause-task : goal.take_request-requires-clause-task
take_request-requires-clause-task c =
    let groups = c.requires.0 in
    let seats = c.requires.1 in
    let cap = c.requires.2 in
    let events = c.requires.3 in
    let known = c.requires.4 in
    let accepted = c.requires.5 in
    let there = seat_there groups seats cap events c.in-Issue.seat c.in-Issue.request (subst (λ (e : Event). AreAccepted (opening groups seats cap) (events ++ e ∷ [])) c.in-Issue.is accepted) in
    omega (arith, there, ap (λ (s : TaskShapes). s.tasks) known.shapes)

pub take_request-requires-clause-seat : goal.take_request-requires-clause-seat
take_request-requires-clause-seat c =
    let groups = c.requires.0 in
    let seats = c.requires.1 in
    let cap = c.requires.2 in
    let events = c.requires.3 in
    let known = c.requires.4 in
    let accepted = c.requires.5 in
    let there = seat_there groups seats cap events c.in-Issue.seat c.in-Issue.request (subst (λ (e : Event). AreAccepted (opening groups seats cap) (events ++ e ∷ [])) c.in-Issue.is accepted) in
    omega (arith, there, known.seated)

pub take_ask-requires : goal.take_ask-requires
take_ask-requires c =
    let groups = c.requires.0 in
    let seats = c.requires.1 in
    let cap = c.requires.2 in
    let events = c.requires.3 in
    let known = c.requires.4 in
    let accepted = c.requires.5 in
    let ask = ask_of_last groups seats cap events c.in-Ask.seat c.in-Ask.set (subst (λ (e : Event). AreAccepted (opening groups seats cap) (events ++ e ∷ [])) c.in-Ask.is accepted) in
    (last_by events c.in-Ask.seat, known.last c.in-Ask.seat ask.seated, ap (λ (s : TaskShapes). is_nested_at s.shapes (last_by events c.in-Ask.seat).place) known.shapes ∙ nested_at groups seats cap events c.in-Ask.seat ask)

pub returns-in-Issue-clause-ok : goal.returns-in-Issue-clause-ok
returns-in-Issue-clause-ok c =
    on_ok_both c.take_request.result
    (λ shapes last groups seats cap events known accepted.
    let there = seat_there groups seats cap events c.in-Issue.seat c.in-Issue.request (subst (λ (e : Event). AreAccepted (opening groups seats cap) (events ++ e ∷ [])) c.in-Issue.is accepted) in
    subst (λ (e : Event). Knows c.take_request.new.self seats (events ++ e ∷ [])) (sym c.in-Issue.is)
    (knows_issue c.args.self.now c.take_request.new.self seats events c.in-Issue.seat c.in-Issue.request there known shapes last))
    c.take_request.ensures.shapes
    c.take_request.ensures.last

pub returns-in-Ask-clause-ok : goal.returns-in-Ask-clause-ok
returns-in-Ask-clause-ok c =
    on_ok_both c.take_ask.result
    (λ shapes last groups seats cap events known accepted.
    let ask = ask_of_last groups seats cap events c.in-Ask.seat c.in-Ask.set (subst (λ (e : Event). AreAccepted (opening groups seats cap) (events ++ e ∷ [])) c.in-Ask.is accepted) in
    subst (λ (e : Event). Knows c.take_ask.new.self seats (events ++ e ∷ [])) (sym c.in-Ask.is)
    (knows_ask c.args.self.now c.take_ask.new.self seats events c.in-Ask.seat c.in-Ask.set ask.request ask.seated ask.last known shapes last))
    c.take_ask.ensures.shapes
    c.take_ask.ensures.last

pub returns-in-Finish-clause-ok : goal.returns-in-Finish-clause-ok
returns-in-Finish-clause-ok c = λ groups seats cap events known accepted. knows_other c.args.self.now seats events c.args.event.now c.in-Finish.is known

pub returns-in-Finish-2-clause-ok : goal.returns-in-Finish-2-clause-ok
returns-in-Finish-2-clause-ok c = λ groups seats cap events known accepted. knows_other c.args.self.now seats events c.args.event.now c.in-Finish.is known

pub returns-in-Issue-clause-still : goal.returns-in-Issue-clause-still
returns-in-Issue-clause-still c = λ seat ends. no_issue c.args.event.now c.in-Issue.seat c.in-Issue.request seat c.in-Issue.is ends

pub returns-in-Ask-clause-still : goal.returns-in-Ask-clause-still
returns-in-Ask-clause-still c = λ seat ends. no_ask c.args.event.now c.in-Ask.seat c.in-Ask.set seat c.in-Ask.is ends
