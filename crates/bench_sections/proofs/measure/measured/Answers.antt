use Rattle.std.proofs.Common.{rules, arith, ◌≡◌, ◌<◌, ◌^◌, Result, Ok, Err, Some, true, sym, subst}
use Rattle.std.specs.Prelude.{All, IfOk, IsTrue}
use Rattle.std.specs.Result.{result_ok}
use Rattle.std.proofs.lemmas.Option.{IfSome_then}
use Rattle.rstate.proofs.homes.Lists.{same_item}
use Rattle.bench_sections.specs.Measure.{HasMadeAll}
use Rattle.bench_sections.proofs.Seats.{all_made}
use Rattle.bench_sections.proofs.Total.{sum_is}
use Rattle.bench_sections.proofs.measure.measured.Goals as goal

-- what a clause says about the value in an `Ok` holds for the value that `ok` gives
at_ok : {X E : Type 0} (P : X → Type 0) (r : Result X E) (x : X) → IfOk r P → Some x ≡ result_ok r → P x
at_ok P (Ok y) x holds is = subst P (same_item y x (sym is)) holds
at_ok P (Err e) x holds is = absurd (cc)

pub seats_of-requires : goal.seats_of-requires
seats_of-requires g c =
    let done : c.are_done.result ≡ true = search rules in
    all_made c.args.asked.now c.in_ok-lock.lock (λ j. j.seat) (λ j. j.done) c.run_all-jobs.result.items c.run_all-jobs.ensures (subst (All (λ j. IsTrue j.done)) c.as_slice.ensures.value (c.are_done.ensures done))

pub returns : goal.returns
returns g c =
    let made = at_ok (λ seats. All (HasMadeAll c.args.asked.now c.in_ok-lock.lock) seats.items) c.seats_of.result c.in_ok-seats.seats c.seats_of.ensures c.in_ok-seats.ensures.value in
    let passes : c.in_ok-lock.lock.passes ≡ c.args.asked.now.threads = search rules in
    let fits : c.args.asked.now.sections < 2 ^ 32 = omega arith in
    IfSome_then c.sum_left.result c.sum_left.ensures (λ sum end. sum_is c.args.asked.now c.in_ok-lock.lock c.in_ok-seats.seats.items made passes c.requires.some sum end c.requires.few fits)
