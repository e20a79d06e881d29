-- A rise: its entry may follow, what is lent comes home, and the seat waits to write.
use Rattle.std.proofs.Common.{◌≡◌, ℕ, Bool, true, cond, not, IsTrue, List, [], ◌∷◌, ◌++◌, Some, None, refl, sym, ap, subst, ◌∙◌, inl, arith}
use Rattle.std.specs.Prelude.{slice_get, slice_set}
use Rattle.std.specs.List.{AllByRecursion}
use Rattle.std.proofs.lemmas.Bool.{true≢false, eq-eqb}
use Rattle.rset.specs.declared.TheConstants.{RESOURCES}
use Rattle.rclaim.specs.declared.event.Event.TheVariants.{Rise}
use Rattle.rlock.specs.Known.{entered, left}
use Rattle.rmodel.specs.declared.granted.Granted.{Granted}
use Rattle.rmodel.specs.declared.refused.Refused.TheVariants.{NotHolding, NotUpgradeable}
use Rattle.rmodel.specs.Claims.{is_read_half}
use Rattle.rmodel.specs.Holds.{nothing, holds_of, has_request, may_rise}
use Rattle.rmodel.specs.Steps.{Comes, next}
use Rattle.rmodel.proofs.reaching.HeldBySeat.{within_itself, nothing_within}
use Rattle.rvalue.specs.declared.act.Act.{Act}
use Rattle.rvalue.specs.declared.act.Act.TheVariants.{Edited, Shown}
use Rattle.rvalue.specs.Entries.{EntryFields}
use Rattle.rvalue.specs.Lawful.{stands_with}
use Rattle.rvalue.proofs.ValueLemmas.{value_of-longer}
use Rattle.rstate.specs.Contents.{Contents, value_now, with_entry, ComesHome}
use Rattle.rstate.specs.Histories.{Beginning, lock_after, MayFollow, IsLawfulFrom}
use Rattle.rstate.specs.Lent.{LentFields, IsLent}
use Rattle.rstate.proofs.histories.Following.{lock_push}
use Rattle.rstate.proofs.homes.Lists.{same_item, get_here}
use Rattle.rguard.specs.LentSections.{no_loans, SectionFields, held_at, AreShows, value_seen, HoldsFrom, WaitsFrom}
use Rattle.rguard.specs.declared.kind.GuardKind.TheVariants as kinds
use Rattle.rguard.specs.Seats.{SeatOf}
use Rattle.rguard.proofs.seats.Claims.{may_rise_by, of_seat_and}
use Rattle.rguard.proofs.Ending.{follows, there_now}
use Rattle.rguard.proofs.seats.Finding.{Finds, claim_later, holding_later, reached_now}
use Rattle.rguard.proofs.seats.Halves.{has_half, risen_next}
use Rattle.rguard.proofs.Lending.{lent_same, lent_nothing}
use Rattle.rguard.proofs.Looking.{value_read, value_written}
use Rattle.rguard.proofs.seats.Turning.{seen_is, number_is, has_now, knows_now}

-- a rise may have shows as its acts
shows_stand : {E : Type 0} (n : ℕ) (acts : List (Act E)) → AreShows acts → AllByRecursion (λ act. IsTrue (stands_with (Rise n) act)) acts
shows_stand n [] shows = tt
shows_stand n (Edited place edit done ∷ acts) shows = absurd (true≢false (sym shows.0))
shows_stand n (Shown place number ∷ acts) shows = (refl, shows_stand n acts shows.1)

module _ {V E : Type 0} (after : V → E → V) (taken : V → E → Bool) (number : V → ℕ) (b : Beginning V) (s : SectionFields V E) (h : HoldsFrom after taken number kinds.Rise b s) (found : Contents V E) (f : Finds after taken number b s.seat found) where
  may_rise_later : may_rise (lock_after b found.entries).claims s.seat.number ≡ true
  may_rise_later = claim_later after taken number b s.seat found f (may_rise_by s.seat.number) (of_seat_and s.seat.number is_read_half) ∙ h.as_kind.1

  rise_comes : Comes (lock_after b found.entries) (Rise s.seat.number)
  rise_comes = record {
    fits = there_now after taken number b s.seat found f h.knows.there;
    normal = tt;
    accepted = (λ i. cond (holding_later after taken number b s.seat found f h.holding i) (Some NotHolding) (cond (not (may_rise_later i)) (Some NotUpgradeable) None));
  }

  pub rise_follows : (n : ℕ) → n ≡ s.seat.number → MayFollow after taken number found.beginning found.entries (record { event = Rise n; acts = s.acts })
  rise_follows n same =
      subst (λ m. MayFollow after taken number found.beginning found.entries (record { event = Rise m; acts = s.acts })) (sym same)
      (follows after taken number b s.seat found f (Rise s.seat.number) s.acts refl rise_comes (shows_stand s.seat.number s.acts h.as_kind.0) h.right)

  pub rise_home : (n : ℕ) → n ≡ s.seat.number → (g : Granted) → slice_get found.taken n ≡ Some g → ComesHome after found (record { event = Rise n; acts = s.acts }) g s.lent
  rise_home n same g there =
      subst (λ (x : Granted). ComesHome after found (record { event = Rise n; acts = s.acts }) x s.lent)
      (same_item (held_at b s.seat) g (sym (f.has_taken (held_at b s.seat) h.has_lent.taken) ∙ ap (slice_get found.taken) (sym same) ∙ there)) (record {
        lent = subst (λ (d : Beginning V). IsLent d.seats (held_at b s.seat) d.values (value_now after found) (value_now after (with_entry found (record { event = Rise n; acts = s.acts }))) s.lent) (sym f.began)
            (lent_same b.seats (held_at b s.seat) b.values (value_seen after s.seat) (value_seen after s.seat) (value_now after found) (value_now after (with_entry found (record { event = Rise n; acts = s.acts }))) s.lent
            (λ l reads v listed. value_read after taken number b s.seat found f (held_at b s.seat) (within_itself (held_at b s.seat)) l reads v)
            (λ l writes v listed. value_of-longer after v found.entries (record { event = Rise n; acts = s.acts }) l ∙ value_written after taken number b s.seat found f (held_at b s.seat) (within_itself (held_at b s.seat)) l writes v)
            h.has_lent.lent);
        edits = λ l unwritten. refl;
      })

  abbrev entry : EntryFields E
  entry = record { event = Rise s.seat.number; acts = s.acts }

  -- it then waits to write, with nothing lent
  module _ (now : Contents V E) (pass later : SeatOf V E) (longer : now.entries ≡ found.entries ++ entry ∷ []) (pass_is : pass ≡ entered s.seat found.entries) (left_is : later ≡ left pass now.entries now)
      (now_began : now.beginning ≡ found.beginning) (now_lawful : IsLawfulFrom after taken number now.beginning now.entries) (now_taken : now.taken ≡ slice_set found.taken s.seat.number nothing) where
    lock_next : lock_after b later.seen ≡ next (lock_after b found.entries) (Rise s.seat.number)
    lock_next = ap (lock_after b) (seen_is after taken number b s.seat found now pass later (entry ∷ []) f longer pass_is left_is ∙ longer) ∙ lock_push b found.entries entry

    same_seat : later.number ≡ s.seat.number
    same_seat = number_is after taken number b s.seat found now pass later (entry ∷ []) f longer pass_is left_is

    pub waits_to_write : (lent : LentFields V) → lent ≡ no_loans → WaitsFrom after taken number kinds.Write b (record { site = s.site; seat = later; lent = lent; own = []; acts = [] })
    waits_to_write lent empty =
        subst (λ (l : LentFields V). WaitsFrom after taken number kinds.Write b (record { site = s.site; seat = later; lent = l; own = []; acts = [] })) (sym empty) (record {
          knows = knows_now after taken number b s.seat found now pass later (entry ∷ []) f longer pass_is left_is s.site h.knows (subst (λ d. IsLawfulFrom after taken number d now.entries) (now_began ∙ f.began) now_lawful)
              (ap (λ (c : Bool). cond c (entry ∷ []) []) (eq-eqb s.seat.number s.seat.number refl));
          issued = (λ i. has_request (lock_next i).claims (same_seat i))
              ∙ risen_next (lock_after b found.entries) s.seat.number (reached_now after taken number b s.seat found f) rise_comes may_rise_later (has_half after taken number b s.seat.number found.entries f.lawful);
          right = record { held = tt; answers = λ openings are. tt };
          had = nothing;
          within = nothing_within (holds_of (lock_after b later.seen).claims later.number);
          has_lent = record {
            taken = has_now after taken number b s.seat found now pass later (entry ∷ []) f longer pass_is left_is nothing
                (ap (λ ts. slice_get ts s.seat.number) now_taken ∙ get_here found.taken s.seat.number (held_at b s.seat) nothing (f.has_taken (held_at b s.seat) h.has_lent.taken));
            lent = lent_nothing b.seats b.values _ _ RESOURCES RESOURCES;
            copies = record { once = tt; written = λ l there. absurd (true≢false (sym there)); are = tt; unedited = λ l none. refl };
          };
          as_kind = tt;
          room = inl (record { reads = omega arith; writes = omega arith });
        })
