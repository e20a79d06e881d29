-- The sections of a write wait, followed moment by moment.
use Rattle.std.proofs.Common.{◌≡◌, Bool, true, false, not, ◌&&◌, cond, Option, Some, None, List, [], ◌∷◌, ◌++◌, filter, refl, sym, ap, ◌∙◌, inl, inr}
use Rattle.std.proofs.lemmas.Bool.{and_parts, and_from, or_left}
use Rattle.std.specs.List.{filter_map, cons_option, AllByRecursion}
use Rattle.std.specs.Option.{option_to_list}
use Rattle.rclaim.specs.declared.claim.Claim.{Claim}
use Rattle.rclaim.specs.declared.event.Event.{Event}
use Rattle.rmodel.specs.Claims.{conflicts}
use Rattle.rmodel.specs.Reached.{IsReached}
use Rattle.rmodel.specs.State.{LockState}
use Rattle.rmodel.specs.Steps.{next, after, AreAccepted}
use Rattle.rmodel.specs.WellFormed.{EachPair}
use Rattle.rmodel.proofs.ListFacts.{Among, contrary, false_from, all_from, any_among, in_filter}
use Rattle.rmodel.proofs.reaching.Stamps.{OfOneSeat}
use Rattle.rmodel.proofs.settling.OneSettlement.{both_cases}
use Rattle.rcover.specs.Last.{first_at, first_at_last}
use Rattle.rcover_laws.specs.Line.{least_of, is_least, leasts, is_kept_least, write_sections}
use Rattle.rcover_laws.specs.Moments.{Moment, moments, holds_at}
use Rattle.rcover_laws.specs.Sections.{Sections, different}
use Rattle.rcover_laws.specs.Lists.{reads_against, with_option}
use Rattle.rcover.specs.Shown.{write_shown}
use Rattle.rcover.specs.Tracked.{taken_over, held_over, IsClosed}
use Rattle.rcover_laws.specs.Waits.{WriteWaits}
use Rattle.rcover_laws.proofs.covers.WriteCover.{each_there, each_held, that_least, least_among}
use Rattle.rcover_laws.proofs.lists.Found.{filter_yes, filter_no, all_so, not_empty}
use Rattle.rcover.proofs.over.LastHolder.{IsUp, holder_is_last}
use Rattle.rcover_laws.proofs.runs.LineOverTime.{stops_least, held_now}
use Rattle.rcover_laws.proofs.runs.Moments.{is_itself}
use Rattle.rcover_laws.proofs.runs.Push.{filter_append, filter_map_append, append_none, different_option}
use Rattle.rcover_laws.proofs.runs.Throughout.{IsEntitledAndHeld}
use Rattle.rcover_laws.proofs.states.AtRest.{IsEntitled}

-- ---- the last moment

pub last_among : (s : LockState) (es : List Event) → Among (after s es).claims (moments s es)
last_among s [] = inl refl
last_among s (e ∷ es) = inr (last_among (next s e) es)

pub last_filtered : (p : Claim → Bool) (q : Moment → Bool) (s : LockState) (es : List Event) → q (after s es).claims ≡ true → first_at_last p (filter q (moments s es)) ≡ first_at p (after s es).claims
last_filtered p q s [] on = ap (first_at_last p) (filter_yes q s.claims [] on)
last_filtered p q s (e ∷ es) on =
    let rest = moments (next s e) es in
    let inner = last_filtered p q (next s e) es on in
    both_cases (q s.claims)
    (λ here. ap (first_at_last p) (filter_yes q s.claims rest here) ∙ behind (filter q rest) (some_left (next s e) es on) ∙ inner)
    (λ off. ap (first_at_last p) (filter_no q s.claims rest off) ∙ inner)
  where
    some_left : (s : LockState) (es : List Event) → q (after s es).claims ≡ true → filter q (moments s es) ≡ [] → ⊥
    some_left s es on none = not_empty (filter q (moments s es)) (after s es).claims (in_filter q (moments s es) (after s es).claims (last_among s es) on) none

    behind : (ns : List Moment) → (ns ≡ [] → ⊥) → first_at_last p (s.claims ∷ ns) ≡ first_at_last p ns
    behind [] some = absurd (some refl)
    behind (n ∷ ns) some = refl

pub one_of_option : (o : Option Claim) → cons_option o [] ≡ option_to_list o
one_of_option None = refl
one_of_option (Some d) = refl

module _ (c : Claim) (s : LockState) (es : List Event) (reached : IsReached s) (accepted : AreAccepted s es) (seats : EachPair OfOneSeat s.claims) (waits : AllByRecursion (WriteWaits c) (moments s es)) where
  abbrev ms : List Moment
  ms = moments s es

  abbrev m : Moment
  m = (after s es).claims

  abbrev e : Claim
  e = least_of c m

  e_among : Among e (leasts c ms)
  e_among = least_among c s es reached accepted waits m (last_among s es)

  -- a read that conflicts with a write holds it up
  holds : (m : Moment) → IsUp e (reads_against e) (is_kept_least c e) m
  holds m on x pass sat = let parts = and_parts (not x.write_half) (conflicts x e) pass in record { before = or_left (not x.write_half) _ parts.0; conflict = parts.1 }

  -- the read that is taken for the last least is seen at the last moment
  taken_last : holds_at e m ≡ false → taken_over c ms e ≡ first_at (reads_against e) m
  taken_last off =
      holder_is_last e (reads_against e) (is_kept_least c e) s es reached accepted seats
      (all_so (λ m. is_kept_least c e m ≡ true → IsEntitledAndHeld (λ x. x.write_half ≡ false) e m) (λ m. is_kept_least c e m ≡ true → IsEntitled e m) (λ m f on. (f on).entitled) ms (each_held c s es reached accepted waits e e_among))
      (all_from (IsUp e (reads_against e) (is_kept_least c e)) ms (λ m there. holds m))
      (stops_least c e s es reached accepted (each_there c s es reached accepted waits) (that_least c s es reached accepted waits e e_among))
      ∙ last_filtered (reads_against e) (is_kept_least c e) s es (and_from (is_least c e m) (not (holds_at e m)) (is_itself e) (ap not off))

  held_at_last : held_over c ms e ≡ holds_at e m
  held_at_last =
      both_cases (holds_at e m)
      (λ on. any_among (λ m. is_least c e m && holds_at e m) ms m (last_among s es) (and_from (is_least c e m) (holds_at e m) (is_itself e) on) ∙ sym on)
      (λ off.
      false_from (held_over c ms e) (λ held. contrary (holds_at e m)
      (held_now c e s es reached accepted (each_there c s es reached accepted waits) (that_least c s es reached accepted waits e e_among) refl held) off) ∙ sym off)

  -- the reads that are shown are those of all periods
  pub shown_reads : (a : Sections) (k : IsClosed c ms m a) → (write_shown e a m).reads ≡ different (filter_map (taken_over c ms) k.before ++ option_to_list (taken_over c ms e))
  shown_reads a k =
      both_cases (holds_at e m)
      (λ on.
      ap (λ b. cond b a.reads (with_option a.reads (first_at (reads_against e) m))) on ∙ k.reads_are
      ∙ ap (λ b. different (filter_map (taken_over c ms) k.before ++ cond b (option_to_list (taken_over c ms e)) [])) on)
      (λ off.
      ap (λ b. cond b a.reads (with_option a.reads (first_at (reads_against e) m))) off
      ∙ ap (λ o. with_option a.reads o) (sym (taken_last off))
      ∙ ap (λ cs. with_option cs (taken_over c ms e))
      (k.reads_are ∙ ap (λ b. different (filter_map (taken_over c ms) k.before ++ cond b (option_to_list (taken_over c ms e)) [])) off ∙ ap different (append_none (filter_map (taken_over c ms) k.before)))
      ∙ sym (different_option (filter_map (taken_over c ms) k.before) (taken_over c ms e)))

  pub shown_writes : (a : Sections) (k : IsClosed c ms m a) → (write_shown e a m).writes ≡ filter (held_over c ms) (k.before ++ e ∷ [])
  shown_writes a k =
      both_cases (holds_at e m)
      (λ on.
      ap (λ b. cond b (a.writes ++ e ∷ []) a.writes) on ∙ ap (λ cs. cs ++ e ∷ []) k.writes_are
      ∙ sym (filter_append (held_over c ms) k.before (e ∷ []) ∙ ap (λ b. filter (held_over c ms) k.before ++ cond b (e ∷ []) []) (held_at_last ∙ on)))
      (λ off.
      ap (λ b. cond b (a.writes ++ e ∷ []) a.writes) off ∙ k.writes_are
      ∙ sym (filter_append (held_over c ms) k.before (e ∷ []) ∙ ap (λ b. filter (held_over c ms) k.before ++ cond b (e ∷ []) []) (held_at_last ∙ off) ∙ append_none (filter (held_over c ms) k.before)))

  -- so the sections of the wait are those that are shown
  pub write_sections_shown : (a : Sections) → IsClosed c ms m a → write_sections c ms ≡ write_shown e a m
  write_sections_shown a k =
      let reads : (write_sections c ms).reads ≡ (write_shown e a m).reads =
      ap (λ ds. different (filter_map (taken_over c ms) ds)) k.leasts_are
      ∙ ap different (filter_map_append (taken_over c ms) k.before (e ∷ []) ∙ ap (λ ys. filter_map (taken_over c ms) k.before ++ ys) (one_of_option (taken_over c ms e)))
      ∙ sym (shown_reads a k) in
      let writes : (write_sections c ms).writes ≡ (write_shown e a m).writes = ap (λ ds. filter (held_over c ms) ds) k.leasts_are ∙ sym (shown_writes a k) in
      (λ i. record { reads = reads i; writes = writes i })
