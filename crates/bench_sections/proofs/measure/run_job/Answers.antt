use Rattle.std.proofs.Common.{◌≡◌, ℕ, subst, arith}
use Rattle.bench_sections.specs.Measure.{HasMade}
use Rattle.bench_sections.proofs.measure.run_job.Goals as goal

pub returns : goal.returns
returns g c =
    let all : c.loop-k.k ≡ c.args.asked.now.sections = omega arith in
    record {
      rests = c.loop-k.invariant.0;
      made = λ done. record { set = c.args.job.now.set; sections = subst (λ (n : ℕ). HasMade c.args.asked.now c.args.lock.now c.args.job.now.set n c.loop-k.seat) all (c.loop-k.invariant.1 done) };
    }
