-- What an answer of a device says, and how it is counted.
use Rattle.std.proofs.Common.{◌≡◌, ◌≢◌, ◌<◌, ◌≤◌, ℕ, List, [], take, Bool, true, false, ◌||◌, ◌==◌, nat_lt, Option, None, Some, Result, Ok, Err, IfOk, IfErr, OnOk, refl, sym, ap, subst, ◌∙◌, true≢false, append-nil, eqb-true, ltb-true, ltb-false, arith}
use Rattle.std.proofs.lemmas.Bool.{cond_both}
use Rattle.std.specs.Io.KnownBytes.{Appends, Keeps, WriteAppends}
use Rattle.std.specs.declared.io.Error.{Error}
use Rattle.std.specs.declared.io.ErrorKind.{ErrorKind}
use Rattle.std.specs.declared.io.ErrorKind.TheVariants.{Interrupted, WriteZero}
use Rattle.io_ends.specs.Faults.{one_more}
use Rattle.io_ends.specs.Tries.{Tries, IsCounted, told_of}

within_told : (answer : Result ℕ Error) (may_be_none : Bool) (most : ℕ) → IfOk answer (λ n. n ≤ most) → IfOk (told_of may_be_none answer) (λ n. n ≤ most)
within_told (Ok n) may_be_none most within =
    cond_both (may_be_none || nat_lt 0 n) (Ok n) (Err WriteZero) (λ (told : Result ℕ ErrorKind). IfOk told (λ m. m ≤ most)) (λ _. within) (λ _. tt)
within_told (Err e) may_be_none most within = tt

-- the count is within the same limit as the answer's
pub told_within : (told : Result ℕ ErrorKind) (answer : Result ℕ Error) (may_be_none : Bool) (most : ℕ) → told ≡ told_of may_be_none answer → IfOk answer (λ n. n ≤ most) → IfOk told (λ n. n ≤ most)
told_within told answer may_be_none most is within =
    subst (λ (r : Result ℕ ErrorKind). IfOk r (λ n. n ≤ most)) (sym is) (within_told answer may_be_none most within)

some_went : (wanted n : ℕ) (may_be_none : Bool) → (wanted == 0) ≡ may_be_none → IfOk (told_of may_be_none (Ok n)) (λ m. 0 < wanted → 1 ≤ m)
some_went wanted n true none = λ some. omega (arith, eqb-true wanted 0 none, some)
some_went wanted n false none =
    cond_both (nat_lt 0 n) (Ok n) (Err WriteZero) (λ (told : Result ℕ ErrorKind). IfOk told (λ m. 0 < wanted → 1 ≤ m)) (λ more _. omega (arith, ltb-true 0 n more)) (λ _. tt)

some_told : (answer : Result ℕ Error) (wanted : ℕ) → IfOk (told_of (wanted == 0) answer) (λ n. 0 < wanted → 1 ≤ n)
some_told (Ok n) wanted = some_went wanted n (wanted == 0) refl
some_told (Err e) wanted = tt

-- where some bytes were wanted, some went through
pub told_some : (told : Result ℕ ErrorKind) (answer : Result ℕ Error) (may_be_none : Bool) (wanted : ℕ) → told ≡ told_of may_be_none answer → may_be_none ≡ (wanted == 0) → IfOk told (λ n. 0 < wanted → 1 ≤ n)
told_some told answer may_be_none wanted is same =
    subst (λ (r : Result ℕ ErrorKind). IfOk r (λ n. 0 < wanted → 1 ≤ n)) (sym (is ∙ ap (λ (b : Bool). told_of b answer) same)) (some_told answer wanted)

kept_by_none : (before after : Option (List ℕ)) → Appends before after [] → Keeps before after
kept_by_none None after appended = tt
kept_by_none (Some held) None appended = appended
kept_by_none (Some held) (Some more) appended = appended ∙ append-nil held

none_went : (may_be_none : Bool) (n : ℕ) → (may_be_none || nat_lt 0 n) ≡ false → n ≡ 0
none_went true n none = absurd (true≢false none)
none_went false n none = omega (arith, ltb-false 0 n none)

appends_told : (before after : Option (List ℕ)) (piece : List ℕ) (answer : Result ℕ Error) (may_be_none : Bool) → WriteAppends before after answer piece → WriteAppends before after (told_of may_be_none answer) piece
appends_told before after piece (Ok n) may_be_none appended =
    cond_both (may_be_none || nat_lt 0 n) (Ok n) (Err WriteZero) (λ (told : Result ℕ ErrorKind). WriteAppends before after told piece) (λ _. appended)
    (λ none. kept_by_none before after (subst (λ (m : ℕ). Appends before after (take m piece)) (none_went may_be_none n none) appended))
appends_told before after piece (Err e) may_be_none kept = kept

-- the count that is passed on was appended
pub told_appends : (before after : Option (List ℕ)) (piece : List ℕ) (told : Result ℕ ErrorKind) (answer : Result ℕ Error) (may_be_none : Bool) → told ≡ told_of may_be_none answer → WriteAppends before after answer piece → WriteAppends before after told piece
told_appends before after piece told answer may_be_none is appended =
    subst (λ (r : Result ℕ ErrorKind). WriteAppends before after r piece) (sym is) (appends_told before after piece answer may_be_none appended)

-- what is passed on is counted as the answer is
pub counts_answer : (told : Result ℕ ErrorKind) (answer : Result ℕ Error) (said due : Bool) (before after : Tries) → told ≡ told_of said answer → said ≡ due → IsCounted told before after → IsCounted (told_of due answer) before after
counts_answer told answer said due before after is same counted =
    subst (λ (r : Result ℕ ErrorKind). IsCounted r before after) (is ∙ ap (λ (b : Bool). told_of b answer) same) counted

-- and the other way round
pub counts_told : (told : Result ℕ ErrorKind) (answer : Result ℕ Error) (said due : Bool) (before after : Tries) → told ≡ told_of said answer → said ≡ due → IsCounted (told_of due answer) before after → IsCounted told before after
counts_told told answer said due before after is same counted =
    subst (λ (r : Result ℕ ErrorKind). IsCounted r before after) (sym (is ∙ ap (λ (b : Bool). told_of b answer) same)) counted

-- what is counted for an answer, an interruption and a fault
pub quiet_counts : (told : Result ℕ ErrorKind) (before after : Tries) → IsCounted told before after → OnOk told ((after.faults ≡ before.faults) × (after.interruptions ≡ before.interruptions) × (after.answers ≡ one_more before.answers))
quiet_counts (Ok n) before after counted = counted
quiet_counts (Err kind) before after counted = tt

pub interruption_counts : (told : Result ℕ ErrorKind) (before after : Tries) → IsCounted told before after → IfErr told (λ kind. kind ≡ Interrupted → (after.faults ≡ before.faults) × (after.interruptions ≡ one_more before.interruptions) × (after.answers ≡ before.answers))
interruption_counts (Ok n) before after counted = tt
interruption_counts (Err kind) before after counted = counted.0

pub fault_counts : (told : Result ℕ ErrorKind) (before after : Tries) → IsCounted told before after → IfErr told (λ kind. kind ≢ Interrupted → (after.faults ≡ one_more before.faults) × (after.interruptions ≡ before.interruptions) × (after.answers ≡ before.answers))
fault_counts (Ok n) before after counted = tt
fault_counts (Err kind) before after counted = counted.1
