-- What holds in each lock state that a list of accepted events leads to.
use Rattle.std.specs.Prelude.{◌≡◌, true, false}
use Rattle.std.specs.List.{AllByRecursion}
use Rattle.std.specs.FinSet.{empty}
use Rattle.rmodel.specs.Claims.{is_satisfied}
use Rattle.rmodel.specs.declared.claimed.Claimed.{Claimed}
use Rattle.rmodel.specs.Laws.{keeps_out}
use Rattle.rmodel.specs.Rules.{Settles}
use Rattle.rmodel.specs.State.{LockState}
use Rattle.rmodel.specs.Steps.{given}
use Rattle.rmodel.specs.WellFormed.{EachPair, Entered, Apart, TakeTurns, AreFree, AreAdmittedBy, IsSound}

-- no later write keeps a read waiting
abbrev pub KeptBehind : Claimed → Claimed → Type 0
KeptBehind x y = x.claim.write_half ≡ false → is_satisfied x ≡ false → keeps_out x.claim y ≡ false

pub record IsReached (s : LockState) : Type 0 where
  pub sound : IsSound s
  pub entered : EachPair Entered s.claims
  pub apart : EachPair Apart s.claims
  -- the claims settle to themselves
  pub stable : Settles s.claims s.claims
  -- and no claim gets anything that it asks for
  pub at_rest : given s.claims ≡ s.claims
  pub admitted : AreAdmittedBy s.groups.groups s.claims
  pub turns : EachPair TakeTurns s.claims
  pub free : EachPair AreFree s.claims
  pub kept_behind : EachPair KeptBehind s.claims
  -- no ask of a satisfied claim is pending
  pub answered : AllByRecursion (λ x. is_satisfied x ≡ true → x.asked ≡ empty) s.claims
