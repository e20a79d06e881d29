-- How the seats of the example begin.
use Rattle.std.proofs.Common.{◌≡◌, ℕ, ◌<◌, List, length, Some, sym, ap, subst, ◌∙◌}
use Rattle.std.specs.Prelude.{All, slice_get}
use Rattle.std.proofs.lemmas.Option.{get_or_from_slice_get}
use Rattle.rset.specs.declared.TheConstants.{RESOURCES}
use Rattle.rexpand.specs.Groups.{no_groups}
use Rattle.rlock.specs.Known.{Site, newcomer}
use Rattle.rstate.specs.Contents.{Contents}
use Rattle.rstate.specs.Histories.{Beginning}
use Rattle.rstate.proofs.homes.Lists.{same_item}
use Rattle.rvalue.specs.declared.ledger.Ledger.{Ledger}
use Rattle.rvalue.specs.declared.ledger.Edit.{Edit}
use Rattle.rwatch.specs.Seen.{Seen}
use Rattle.rguard.specs.Seats.{SeatOf, IsOf, IsIdle}
use Rattle.rguard.proofs.Resting.{rest_new}
use Rattle.watched_example.specs.Sections.{IsAtRest, IsNew}

pub is_new : (site : Site) (seats : List (SeatOf Ledger Edit)) (began : Beginning Ledger) (state : Contents Ledger Edit) (watched : List Seen) → length seats ≡ 2 → All (λ seat. IsOf site seat × IsIdle seat) seats
    → ((k : ℕ) → k < 2 → slice_get seats k ≡ Some (newcomer site.gate k began state)) → began.groups ≡ no_groups RESOURCES → began.watched ≡ Some watched
    → (k : ℕ) (seat : SeatOf Ledger Edit) → k < 2 → slice_get seats k ≡ Some seat → IsNew watched site k seat
is_new site seats began state watched count all each over watches k seat below there =
    let is : seat ≡ newcomer site.gate k began state = same_item seat (newcomer site.gate k began state) (sym there ∙ each k below) in
    record {
      rests =
          subst (IsAtRest site) (get_or_from_slice_get seats k seat seat there)
          (rest_new (no_groups RESOURCES) site seats 2 began state count all each over k seat (subst (λ n. k < n) (sym count) below));
      number_is = ap (λ (s : SeatOf Ledger Edit). s.number) is;
      nothing = ap (λ (s : SeatOf Ledger Edit). s.mine) is;
      opens = λ b opening. ap (λ (x : Beginning Ledger). x.watched) (same_item b began (sym opening ∙ ap (λ (s : SeatOf Ledger Edit). s.opening) is)) ∙ watches;
    }
