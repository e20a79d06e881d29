-- The write that an event takes away, and the head that is lost with it.
use Rattle.std.proofs.Common.{◌≡◌, ◌≤◌, ◌<◌, ℕ, true, false, refl, sym, ap, ◌∙◌, arith, inl, inr}
use Rattle.std.proofs.lemmas.Bool.{and_parts, eqb-true}
use Rattle.std.specs.List.{AllByRecursion}
use Rattle.rset.specs.Sets.{Set}
use Rattle.rset.specs.declared.TheConstants.{SEATS}
use Rattle.rclaim.specs.Events.{seat_of}
use Rattle.rclaim.specs.declared.claim.Claim.{Claim}
use Rattle.rclaim.specs.declared.event.Event.{Event}
use Rattle.rclaim.specs.declared.event.Event.TheVariants.{Issue, Finish}
use Rattle.rclaim.specs.declared.event.Event.TheVariants as event
use Rattle.rmodel.specs.declared.claimed.Claimed.{Claimed}
use Rattle.rmodel.specs.WellFormed.{Among, EachPair, Rises, Distinct}
use Rattle.rmodel.proofs.ListFacts.{contrary, all_at, all_from, pair_among}
use Rattle.rcover_laws.specs.Line.{least_of}
use Rattle.rcover_laws.specs.Moments.{Moment, holds_at}
use Rattle.rcover.specs.declared.lines.Head.{Head}
use Rattle.rcover.specs.Lines.{head_of, is_taken, takes_seat, IsLost}
use Rattle.rcover.proofs.heads_told.Leasts.{least_in, least_all}
use Rattle.rmodel.proofs.reaching.Soundness.{read_of_half}

-- a seat has at most one write claim
pub one_write : (xs : Moment) → EachPair Distinct xs → (z x : Claimed) → Among z xs → Among x xs → z.claim.write_half ≡ true → x.claim.write_half ≡ true → z.claim.seat ≡ x.claim.seat → z ≡ x
one_write xs distinct z x in_xs there z_write x_write seated =
    elim (pair_among Distinct xs z x distinct in_xs there) [
      | inl same ↦ same
      | inr (inl two) ↦ (let h = two seated in contrary z.claim.write_half z_write (read_of_half z.claim h.reads))
      | inr (inr two) ↦ (let h = two (sym seated) in contrary x.claim.write_half x_write (read_of_half x.claim h.reads))
    ]

-- no head is lost if no write goes and the lost seat is no seat
pub lost_none : (lost : Head) (gone : Set) (e : Event) (m : Moment) → SEATS ≤ lost.claim.seat → AllByRecursion (λ x. x.claim.seat < SEATS) m → ((x : Claimed) → Among x m → x.claim.write_half ≡ true → takes_seat e x.claim.seat ≡ false) → AllByRecursion (IsLost lost gone e m) m
lost_none lost gone e m high low none =
    all_from (IsLost lost gone e m) m
    (λ x there. record {
      places = λ write takes. contrary (takes_seat e x.claim.seat) takes (none x there write);
      taken = λ write takes. contrary (takes_seat e x.claim.seat) takes (none x there write);
      one = λ write same.
          let least = least_all (λ d. d.seat < SEATS) x.claim (all_at (λ y. y.claim.seat < SEATS) m x low there) m low in
          absurd (omega arith);
    })

-- a seat that is taken is that of the event
pub seat_taken : (e : Event) (seat : ℕ) → takes_seat e seat ≡ true → seat_of e ≡ seat
seat_taken (Issue t r) seat takes = contrary false takes refl
seat_taken (Finish t) seat takes = eqb-true t seat takes
seat_taken (event.Rise t) seat takes = contrary false takes refl
seat_taken (event.Ask t part) seat takes = contrary false takes refl

-- and only a finish takes one
only_one : (e : Event) (m : Moment) → EachPair Distinct m → (x w : Claimed) → Among x m → Among w m → x.claim.write_half ≡ true → w.claim.write_half ≡ true → takes_seat e x.claim.seat ≡ true → takes_seat e w.claim.seat ≡ true → x ≡ w
only_one e m distinct x w in_x in_w x_write w_write x_takes w_takes = one_write m distinct x w in_x in_w x_write w_write (sym (seat_taken e x.claim.seat x_takes) ∙ seat_taken e w.claim.seat w_takes)

-- if a write goes, the lost head is its head
pub lost_one : (lost : Head) (e : Event) (w : Claimed) (m : Moment) → EachPair Rises m → EachPair Distinct m → Among w m → is_taken e w ≡ true → head_of m w.claim ≡ lost → AllByRecursion (IsLost lost w.claim.places e m) m
lost_one lost e w m rising distinct in_m taken is =
    all_from (IsLost lost w.claim.places e m) m
    (λ x there. record {
      places = λ write takes. ap (λ (y : Claimed). y.claim.places) (same_one x there write takes);
      taken = λ write takes. ap (λ (y : Claimed). head_of m y.claim) (same_one x there write takes) ∙ is;
      one = λ write same.
          let a = least_in m rising x there write in
          let b = least_in m rising w in_m w_parts.1 in
          let y : a.0 ≡ b.0 = one_write m distinct a.0 b.0 a.1 b.1 a.3 b.3 (ap (λ (d : Claim). d.seat) a.2 ∙ same ∙ ap (λ (h : Head). h.claim.seat) (sym is) ∙ ap (λ (d : Claim). d.seat) (sym b.2)) in
          let least : least_of x.claim m ≡ least_of w.claim m = sym a.2 ∙ ap (λ (z : Claimed). z.claim) y ∙ b.2 in
          (λ i. let h : Head = record { claim = least i; holds = holds_at (least i) m } in h) ∙ is;
    })
  where
    w_parts : (takes_seat e w.claim.seat ≡ true) × (w.claim.write_half ≡ true)
    w_parts = and_parts (takes_seat e w.claim.seat) w.claim.write_half taken

    same_one : (x : Claimed) → Among x m → x.claim.write_half ≡ true → takes_seat e x.claim.seat ≡ true → x ≡ w
    same_one x there write takes = only_one e m distinct x w there in_m write w_parts.1 takes w_parts.0
