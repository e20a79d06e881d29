-- The sections of a read wait and of an ask are seen at the last moment.
use Rattle.std.proofs.Common.{◌≡◌, Bool, true, false, not, cond, List, [], ◌∷◌, ◌++◌, refl, sym, ap, ◌∙◌}
use Rattle.std.specs.List.{AllByRecursion}
use Rattle.std.specs.Option.{option_to_list}
use Rattle.rset.specs.Sets.{Set}
use Rattle.rclaim.specs.declared.claim.Claim.{Claim}
use Rattle.rclaim.specs.declared.event.Event.{Event}
use Rattle.rmodel.specs.Claims.{conflicts, conflicts_on}
use Rattle.rmodel.specs.Reached.{IsReached}
use Rattle.rmodel.specs.State.{LockState}
use Rattle.rmodel.specs.Steps.{after, AreAccepted}
use Rattle.rmodel.specs.WellFormed.{EachPair}
use Rattle.rmodel.proofs.reaching.Stamps.{OfOneSeat}
use Rattle.rcover.specs.Last.{first_at}
use Rattle.rcover_laws.specs.Moments.{Moment, moments, holds_at}
use Rattle.rcover_laws.specs.Sections.{holder_of, moments_without, ask_sections}
use Rattle.rcover_laws.specs.Waits.{AskWaits}
use Rattle.rcover_laws.proofs.covers.AskCover.{always, filter_always, stops_never}
use Rattle.rcover_laws.proofs.covers.ReadCover.{IsActiveWrite, entitled_without, stops_once}
use Rattle.rcover.proofs.over.WriteRun.{last_filtered}
use Rattle.rcover_laws.proofs.lists.Found.{all_both, all_so}
use Rattle.rcover.proofs.over.LastHolder.{IsUp, holder_is_last}
use Rattle.rcover_laws.proofs.runs.Moments.{at_moments}
use Rattle.rcover_laws.proofs.runs.Push.{filter_append, append_none}
use Rattle.rcover_laws.proofs.states.AtRest.{Sat, IsEntitled, HoldsUp, holds_it_up}
use Rattle.rcover_laws.proofs.states.Asking.{ask_entitled, asks_hold_up}

module _ (s : LockState) (es : List Event) (reached : IsReached s) (accepted : AreAccepted s es) (seats : EachPair OfOneSeat s.claims) where
  -- the claim that is taken for an ask
  pub ask_shown : (c : Claim) (part : Set) → AllByRecursion (AskWaits c part) (moments s es) → (ask_sections c part (moments s es)).reads ≡ option_to_list (first_at (λ d. conflicts_on d c part) (after s es).claims)
  ask_shown c part waits =
      let p : Claim → Bool = λ (d : Claim). conflicts_on d c part in
      let ms = moments s es in
      ap (λ ns. option_to_list (holder_of p ns)) (sym (filter_always ms))
      ∙ ap option_to_list
      (holder_is_last c p always s es reached accepted seats
      (all_both (AskWaits c part) (λ m. AskWaits c part m → IsEntitled c m) (λ m. always m ≡ true → IsEntitled c m) (λ m w f. λ on. f w) ms waits
      (at_moments (λ m. AskWaits c part m → IsEntitled c m) (λ t r w. ask_entitled t r c part w) s es reached accepted))
      (all_both (AskWaits c part) (λ m. AskWaits c part m → (x : Claim) → Sat x m → conflicts_on x c part ≡ true → HoldsUp c x) (IsUp c p always) (λ m w f. λ on x pass sat. f w x sat pass) ms waits
      (at_moments (λ m. AskWaits c part m → (x : Claim) → Sat x m → conflicts_on x c part ≡ true → HoldsUp c x) (λ t r w x sat on. asks_hold_up t r c part w x sat on) s es reached accepted))
      (stops_never s es)
      ∙ last_filtered p always s es refl)

  module _ (v : Claim) (active : AllByRecursion (IsActiveWrite v) (moments s es)) where
    abbrev against : Claim → Bool
    against d = conflicts d v

    -- the claim that is taken for the write that keeps a read waiting, while that write is unsatisfied
    pub read_shown : holds_at v (after s es).claims ≡ false → holder_of (λ d. conflicts d v) (moments_without v (moments s es)) ≡ first_at (λ d. conflicts d v) (after s es).claims
    read_shown off =
        let ms = moments s es in
        holder_is_last v against (λ m. not (holds_at v m)) s es reached accepted seats
        (all_so (IsActiveWrite v) (λ m. not (holds_at v m) ≡ true → IsEntitled v m) (λ m a on. entitled_without v m a on) ms active)
        (all_both (IsActiveWrite v) (λ m. IsEntitled v m → (x : Claim) → Sat x m → conflicts x v ≡ true → HoldsUp v x) (IsUp v against (λ m. not (holds_at v m))) (λ m a f. λ on x pass sat. f (entitled_without v m a on) x sat pass) ms active
        (at_moments (λ m. IsEntitled v m → (x : Claim) → Sat x m → conflicts x v ≡ true → HoldsUp v x) (λ t r ent x sat on. holds_it_up t r v x ent sat on) s es reached accepted))
        (stops_once v s es reached accepted active)
        ∙ last_filtered against (λ m. not (holds_at v m)) s es (ap not off)

-- once the write is satisfied nothing else is taken
pub read_closed : (v : Claim) (ms : List Moment) (n : Moment) → holds_at v n ≡ true → moments_without v (ms ++ n ∷ []) ≡ moments_without v ms
read_closed v ms n on =
    filter_append (λ m. not (holds_at v m)) ms (n ∷ []) ∙ ap (λ b. moments_without v ms ++ cond (not b) (n ∷ []) []) on ∙ append_none (moments_without v ms)
