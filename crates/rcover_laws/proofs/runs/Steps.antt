-- Events in sequence, as a list of accepted events goes on.
use Rattle.std.proofs.Common.{◌≡◌, ℕ, zero, suc, ◌+◌, ◌<◌, arith, List, [], ◌∷◌, ◌++◌, length, get_or, take, sym, ap, subst, ◌∙◌}
use Rattle.std.proofs.lemmas.List.{take_more}
use Rattle.rclaim.specs.declared.event.Event.{Event}
use Rattle.rmodel.specs.State.{LockState}
use Rattle.rmodel.specs.Steps.{Comes, AreAccepted, next, after}
use Rattle.rmodel.proofs.reaching.Histories.{after_append}
use Rattle.rcover_laws.specs.Moments.{moments}
use Rattle.rcover_laws.proofs.runs.Push.{moments_push}

-- the next event comes to the state that those before it lead to
pub comes_at : (s : LockState) (es : List Event) (i : ℕ) (e : Event) → AreAccepted s es → i < length es → e ≡ get_or es i e → Comes (after s (take i es)) e
comes_at s [] i e accepted h there = absurd (omega arith)
comes_at s (d ∷ es) zero e accepted h there = subst (Comes s) (sym there) accepted.0
comes_at s (d ∷ es) (suc i) e accepted h there = comes_at (next s d) es i e accepted.1 (omega arith) there

-- and the state after it
pub after_more : (s : LockState) (es : List Event) (i : ℕ) (e : Event) → i < length es → e ≡ get_or es i e → after s (take (i + 1) es) ≡ next (after s (take i es)) e
after_more s es i e h there = ap (after s) (take_more es i e h ∙ ap (λ d. take i es ++ d ∷ []) (sym there)) ∙ after_append s (take i es) (e ∷ [])

pub moments_more : (s : LockState) (es : List Event) (i : ℕ) (e : Event) → i < length es → e ≡ get_or es i e → moments s (take (i + 1) es) ≡ moments s (take i es) ++ (next (after s (take i es)) e).claims ∷ []
moments_more s es i e h there = ap (moments s) (take_more es i e h ∙ ap (λ d. take i es ++ d ∷ []) (sym there)) ∙ moments_push s (take i es) e
