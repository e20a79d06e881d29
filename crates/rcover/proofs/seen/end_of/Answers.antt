use Rattle.std.proofs.Common.{◌≡◌, ◌+◌, List, length, ℕ, ap, arith, ◌∙◌}
use Rattle.std.specs.List.{sum_by}
use Rattle.rclaim.specs.declared.claim.Claim.{Claim}
use Rattle.rbound.specs.Bounds.{Numbers}
use Rattle.rcover.specs.declared.section.CoverSection.{CoverSection}
use Rattle.rcover_laws.specs.Ended.{wait_end}
use Rattle.rcover.specs.Kept.{claims_of, HaveLengths}
use Rattle.rcover.proofs.Kept.{length_claims, sum_claims}
use Rattle.rcover.proofs.seen.end_of.Goals as goal

-- the sum of the lengths of sections
sums : (len : Claim → ℕ) (ss all : List CoverSection) → ss ≡ all → HaveLengths len all → (n : ℕ) → n ≡ sum_by (λ s. s.len) ss → n ≡ sum_by len (claims_of all)
sums len ss all same have n is = is ∙ ap (λ (xs : List CoverSection). sum_by (λ s. s.len) xs) same ∙ sum_claims len all have

pub returns : goal.returns
returns c = λ len have.
    let shown = c.args.shown.now in
    let reads : c.len.result ≡ length (claims_of shown.reads.items) = (let n = length_claims shown.reads.items in omega arith) in
    let writes : c.len-2.result ≡ length (claims_of shown.writes.items) = (let n = length_claims shown.writes.items in omega arith) in
    let units_read = sums len c.deref.result.now shown.reads.items c.deref.ensures.value have.reads c.sum_of.result c.sum_of.ensures.value in
    let units_written = sums len c.deref-2.result.now shown.writes.items c.deref-2.ensures.value have.writes c.sum_of-2.result c.sum_of-2.ensures.value in
    (λ i. let n : Numbers = record { reads = reads i; writes = writes i; units = units_read i + units_written i } in wait_end c.args.which c.args.c.now n)
