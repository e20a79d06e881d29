-- What a step of the plain machine does is what the definitions say.
use Rattle.std.proofs.Common.{◌≡◌, ℕ, map, refl, sym, ap, subst, ◌∙◌}
use Rattle.std.specs.List.{AllZip}
use Rattle.rset.specs.Sets.{Set}
use Rattle.rclaim.specs.Changes.{ChangeLists}
use Rattle.rclaim.specs.Events.{IsNormalEvent}
use Rattle.rclaim.specs.declared.event.Event.{Event}
use Rattle.rclaim.specs.declared.event.Event.TheVariants.{Ask}
use Rattle.rmodel.specs.Reached.{IsReached}
use Rattle.rmodel.proofs.settling.Giving.{same_given}
use Rattle.rmodel.proofs.reaching.Going.{told_active}
use Rattle.rmodel.proofs.settling.OneSettlement.{only_one}
use Rattle.rmodel.proofs.settling.Standing.{settles_standing, asking_standing}
use Rattle.rplain.specs.declared.plain.Plain.TheInside.{Inside}
use Rattle.rmodel.specs.Changes.{changes_between, status_changes, grant_changes, AreActive}
use Rattle.rplain.specs.Machine.{Standing}
use Rattle.rplain.specs.Plain.{standing_of, state_of, IsKept, IsTaken}
use Rattle.rmodel.specs.Rules.{Settles}
use Rattle.rmodel.specs.Settling.{settled}
use Rattle.rmodel.specs.State.{LockState}
use Rattle.rmodel.specs.Steps.{Fits, Accepts, Comes, Steps, changed, next, asking}
use Rattle.rmodel.specs.WellFormed.{IsSound}
use Rattle.rmodel.proofs.telling.ChangesTold.{changes_told}
use Rattle.rmodel.proofs.settling.Settlement.{settles_settled}
use Rattle.rmodel.proofs.reaching.Soundness.{SameClaim, same_claims, sound_changed}

-- an event that may come in the lock state that contracts see may come in the one that is kept
pub kept_comes : (a : Inside) (m : Standing) (e : Event) → standing_of a ≡ m → Fits m.state e → Accepts m.state e → IsNormalEvent e → Comes (state_of a) e
kept_comes a m e view fits accepted normal = record {
  fits = subst (λ (n : Standing). Fits n.state e) (sym view) fits;
  normal = normal;
  accepted = subst (λ (n : Standing). Accepts n.state e) (sym view) accepted;
}

-- the machine took the event, as contracts see it
pub taken : (a : Inside) (m : Standing) (e : Event) (n : Standing) → standing_of a ≡ m → IsKept a → Comes (state_of a) e → n.state ≡ next (state_of a) e
    → n.last.statuses ≡ status_changes (changed (state_of a) e).claims n.state.claims → n.last.grants ≡ grant_changes (changed (state_of a) e).claims n.state.claims → IsTaken m e n
taken a m e n view kept comes state statuses grants =
    let s = state_of a in
    let active : AreActive n.last.statuses =
    subst AreActive (sym (statuses ∙ ap (λ (u : LockState). status_changes (changed s e).claims u.claims) state)) (told_active s e kept.reached comes) in
    subst (λ (m : Standing). IsTaken m e n) view (record { sound = kept.reached.sound; normal = comes.normal; state = state; statuses = statuses; grants = grants; active = active })

-- an ask changes no status
pub ask_settled : (s : LockState) (seat : ℕ) (part : Set) → IsReached s → Comes s (Ask seat part) → settled (map (asking seat part) s.claims) ≡ map (asking seat part) s.claims
ask_settled s seat part reached comes =
    let ys = map (asking seat part) s.claims in
    only_one ys (settled ys) ys (settles_settled ys (sound_changed s (Ask seat part) reached.sound comes).well_formed)
    (settles_standing s.claims ys (asking_standing seat part s.claims) reached.stable)

module _ (s t : LockState) (e : Event) (sound : IsSound s) (comes : Comes s e) (to_next : t ≡ next s e) where
  settles : Settles (changed s e).claims (settled (changed s e).claims)
  settles = settles_settled (changed s e).claims (sound_changed s e sound comes).well_formed

  pub step_holds : Steps s e t
  step_holds = subst (λ (u : LockState). Steps s e u) (sym to_next) (record { accepted = comes.accepted; settled_to = settled (changed s e).claims; settles = settles; others = refl })

  pub changes_hold : (last : ChangeLists) → last.statuses ≡ status_changes (changed s e).claims t.claims → last.grants ≡ grant_changes (changed s e).claims t.claims → last ≡ changes_between s t
  changes_hold last statuses grants =
      let same : AllZip SameClaim (changed s e).claims t.claims
      = subst (λ (u : LockState). AllZip SameClaim (changed s e).claims u.claims) (sym to_next)
      (same_given (changed s e).claims (settled (changed s e).claims) (same_claims (changed s e).claims (settled (changed s e).claims) settles)) in
      (λ i. record { statuses = statuses i; grants = grants i }) ∙ sym (changes_told s t e sound comes same)
