use Rattle.std.proofs.Common.{◌≡◌, ◌<◌, ◌≤◌, List, ℕ, Option, None, length, cond, sym, ap, ◌∙◌, arith}
use Rattle.std.proofs.lemmas.Bool.{le-leb, lt-leb}
use Rattle.rtrace_form.specs.Numbers
use Rattle.rnlp_cli.specs.Words.{cap_in}
use Rattle.rnlp_cli.proofs.command.cap_told.Goals as goal

long : (word : List ℕ) → 7 < length word → ◌≡◌ {A = Option ℕ} None (cap_in word)
unfolding cap_in
long word more = sym (ap (λ b. cond b (Numbers.cap_told word) None) (lt-leb (length word) 7 more))

short : (word : List ℕ) → length word ≤ 7 → Numbers.cap_told word ≡ cap_in word
unfolding cap_in
short word few = sym (ap (λ b. cond b (Numbers.cap_told word) None) (le-leb (length word) 7 few))

pub returns-then-word-gt-MOST_DIGITS-clause-told : goal.returns-then-word-gt-MOST_DIGITS-clause-told
returns-then-word-gt-MOST_DIGITS-clause-told c = long c.args.word.now (omega arith)

pub returns-clause-told : goal.returns-clause-told
returns-clause-told c = c.cap_of.ensures.value ∙ short c.args.word.now (omega arith)
