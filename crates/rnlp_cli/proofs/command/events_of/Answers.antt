use Rattle.std.proofs.Common.{◌≡◌, ◌<◌, ◌≤◌, List, ℕ, Option, None, length, cond, sym, ap, ◌∙◌, arith}
use Rattle.std.specs.Prelude.{option_and_then}
use Rattle.std.proofs.lemmas.Bool.{le-leb, lt-leb}
use Rattle.rtrace_form.specs.Numbers.{number_told}
use Rattle.rnlp_cli.specs.Words.{events_within, events_told}
use Rattle.rnlp_cli.proofs.command.events_of.Goals as goal

long : (word : List ℕ) → 7 < length word → ◌≡◌ {A = Option ℕ} None (events_told word)
unfolding events_told
long word more = sym (ap (λ b. cond b (option_and_then events_within (number_told word)) None) (lt-leb (length word) 7 more))

short : (word : List ℕ) → length word ≤ 7 → option_and_then events_within (number_told word) ≡ events_told word
unfolding events_told
short word few = sym (ap (λ b. cond b (option_and_then events_within (number_told word)) None) (le-leb (length word) 7 few))

pub returns-then-word-gt-MOST_DIGITS-clause-told : goal.returns-then-word-gt-MOST_DIGITS-clause-told
returns-then-word-gt-MOST_DIGITS-clause-told c = long c.args.word.now (omega arith)

pub returns-in_err-number_of-clause-told : goal.returns-in_err-number_of-clause-told
returns-in_err-number_of-clause-told c =
    let none = ap (option_and_then events_within) c.in_err-number_of.ensures in
    let same = short c.args.word.now (omega arith) in
    cc

pub returns-clause-told : goal.returns-clause-told
returns-clause-told c = c.events_within.ensures.told ∙ ap (option_and_then events_within) c.in_ok-number_of.ensures ∙ short c.args.word.now (omega arith)
