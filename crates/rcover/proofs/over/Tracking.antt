-- What is kept of waits is right at each moment, and shows their sections.
use Rattle.std.proofs.Common.{◌≡◌, ℕ, ◌<◌, ◌≤◌, length, length-append, Bool, true, false, not, ◌&&◌, ◌||◌, cond, Option, Some, None, List, [], ◌∷◌, ◌++◌, find, refl, sym, ap, subst, ◌∙◌, arith}
use Rattle.std.proofs.lemmas.Bool.{and_parts, and_from}
use Rattle.std.specs.List.{list_any, list_all, AllByRecursion}
use Rattle.std.specs.Option.{option_map, option_to_list}
use Rattle.rexpand.specs.Groups.{ReadGroups}
use Rattle.rclaim.specs.declared.claim.Claim.{Claim}
use Rattle.rclaim.specs.declared.event.Event.{Event}
use Rattle.rmodel.specs.declared.claimed.Claimed.{Claimed}
use Rattle.rmodel.specs.Claims.{conflicts, conflicts_on}
use Rattle.rmodel.specs.Laws.{keeps_out}
use Rattle.rmodel.specs.Reached.{IsReached}
use Rattle.rmodel.specs.State.{LockState, opening}
use Rattle.rmodel.specs.Steps.{Comes, next, after, AreAccepted}
use Rattle.rmodel.specs.WellFormed.{EachPair}
use Rattle.rmodel.proofs.ListFacts.{Among, contrary, all_append, all_at, any_among, in_filter, passing}
use Rattle.rmodel.proofs.reaching.Histories.{accepted_push, after_append}
use Rattle.rmodel.proofs.reaching.Reached.{reached_after, reached_next, reached_opening}
use Rattle.rmodel.proofs.reaching.Stamps.{OfOneSeat, one_seat_after}
use Rattle.rmodel.proofs.settling.OneSettlement.{both_cases}
use Rattle.rbound.specs.declared.which.Which.{Which}
use Rattle.rbound.specs.declared.which.Which.TheVariants.{First, Rise, Ask}
use Rattle.rcover_laws.specs.Covers.{IsKeptBy}
use Rattle.rcover_laws.specs.Ended.{waits_in, sections_in, wait_of, ended_if, ended_by, wait_end}
use Rattle.rcover_laws.specs.History.{length_in}
use Rattle.rcover_laws.specs.Within.{numbers_of}
use Rattle.rcover.specs.Last.{first_at}
use Rattle.rcover_laws.specs.Line.{least_of, write_sections}
use Rattle.rcover_laws.specs.Moments.{Moment, moments, is_claim, holds_at}
use Rattle.rcover_laws.specs.Sections.{Sections, holder_of, moments_without, sections_by, sections_of_keeper, read_sections, ask_sections}
use Rattle.rcover_laws.specs.Lists.{reads_against, with_option, AreAtMost}
use Rattle.rcover.specs.Shown.{write_shown, write_closed}
use Rattle.rcover_laws.specs.Told.{waits_first, waits_to_rise, waits_for_ask, stands, run_of, wait_so_far}
use Rattle.rcover.specs.Tracked.{IsClosed, no_sections, keeper_at, IsReadClosed, read_shown, read_shown_if, read_closed_if, IsTracked, AreTracked, shown, told_if, told, IsKept, gone_on, kept_by, AreKept}
use Rattle.rcover_laws.specs.Waits.{ReadWaits, WriteWaits}
use Rattle.rcover_laws.proofs.covers.ReadCover.{IsActiveWrite, satisfied_on, has_keeper}
use Rattle.rcover.proofs.over.ReadRun.{read_closed}
use Rattle.rcover.proofs.over.WriteRun.{last_among, write_sections_shown}
use Rattle.rcover.proofs.over.WriteStep.{closed_first, closed_next}
use Rattle.rcover_laws.proofs.lists.Found.{all_both, not_empty}
use Rattle.rcover_laws.proofs.runs.Moments.{at_moments, is_itself, are_one, sat_holds}
use Rattle.rcover_laws.proofs.runs.Push.{moments_push, filter_map_same}
use Rattle.rcover_laws.proofs.states.AtRest.{stamp_given}
use Rattle.rcover_laws.proofs.states.ThroughEvent.{there_before}
use Rattle.rcover_laws.proofs.told.Asked.{ask_run}
use Rattle.rcover_laws.proofs.told.EachWait.{IsWait, wait_is}
use Rattle.rcover_laws.proofs.told.Few.{waits_told, at_most}
use Rattle.rcover_laws.proofs.told.OneClaim.{StandsAs, one_of_stamp}
use Rattle.rcover_laws.proofs.told.Runs.{run_push}
use Rattle.rcover_laws.proofs.told.Waits.{read_waits, write_waits, rise_waits}
use Rattle.rcover.proofs.over.ReadRun as shows

-- ---- a write that keeps a read claim waiting

-- the one write that keeps a read claim waiting is found
kept_found : (c v : Claim) (xs : Moment) → list_any (keeps_out c) xs ≡ true → AllByRecursion (λ x. keeps_out c x ≡ true → x.claim ≡ v) xs → option_map (λ x. x.claim) (find (keeps_out c) xs) ≡ Some v
kept_found c v [] some alone = contrary false some refl
kept_found c v (x ∷ xs) some alone =
    both_cases (keeps_out c x)
    (λ on. ap (λ b. option_map (λ (y : Claimed). y.claim) (cond b (Some x) (find (keeps_out c) xs))) on ∙ ap Some (alone.0 on))
    (λ off.
    ap (λ b. option_map (λ (y : Claimed). y.claim) (cond b (Some x) (find (keeps_out c) xs))) off
    ∙ kept_found c v xs (ap (λ b. b || list_any (keeps_out c) xs) (sym off) ∙ some) alone.1)

keeper_is : (c v : Claim) (m : Moment) → IsKeptBy c v m → keeper_at c m ≡ Some v
keeper_is c v m k = kept_found c v m (any_among (keeps_out c) m k.at k.among k.keeps) k.alone

-- once satisfied it stays so to the end
held_last : (v : Claim) (s : LockState) (es : List Event) → IsReached s → AreAccepted s es → AllByRecursion (IsActiveWrite v) (moments s es) → list_any (holds_at v) (moments s es) ≡ holds_at v (after s es).claims
held_last v s [] reached accepted active = or_none (holds_at v s.claims)
  where
    or_none : (b : Bool) → (b || false) ≡ b
    or_none true = refl
    or_none false = refl
held_last v s (e ∷ es) reached accepted active =
    both_cases (holds_at v s.claims)
    (λ on.
    let a = active.0 in
    let sat = sat_holds s reached v a.write (record { at = a.at; among = a.among; is = a.is }) on in
    let none = satisfied_on v s (e ∷ es) reached accepted active sat in
    ap (λ b. b || list_any (holds_at v) (moments (next s e) es)) on
    ∙ sym (both_cases (holds_at v (after s (e ∷ es)).claims) (λ h. h) (λ off.
    absurd (not_empty (moments_without v (moments s (e ∷ es))) (after s (e ∷ es)).claims (in_filter (λ m. not (holds_at v m)) (moments s (e ∷ es)) (after s (e ∷ es)).claims (last_among s (e ∷ es)) (ap not off)) none))))
    (λ off. ap (λ b. b || list_any (holds_at v) (moments (next s e) es)) off ∙ held_last v (next s e) es (reached_next s e reached accepted.0) accepted.1 active.1)

some_one : {X : Type 0} (x y : X) → Some x ≡ Some y → x ≡ y
some_one x y h = cc

-- a run is over if the test does not pass at the last moment
run_none : (p : Moment → Bool) (s : LockState) (es : List Event) → p (after s es).claims ≡ false → run_of p (moments s es) ≡ []
run_none p s [] off = ap (λ b. cond (b && true) (s.claims ∷ []) []) off
run_none p s (e ∷ es) off =
    ap (λ b. cond b (moments s (e ∷ es)) (run_of p (moments (next s e) es))) (not_all s (e ∷ es) off) ∙ run_none p (next s e) es off
  where
    not_all : (s : LockState) (es : List Event) → p (after s es).claims ≡ false → list_all p (moments s es) ≡ false
    not_all s [] off = ap (λ b. b && true) off
    not_all s (e ∷ es) off = ap (λ b. p s.claims && b) (not_all (next s e) es off) ∙ and_false (p s.claims)
      where
        and_false : (b : Bool) → (b && false) ≡ false
        and_false true = refl
        and_false false = refl

-- the sections of a read wait are those that are shown at its last moment
module _ (c : Claim) (s : LockState) (es : List Event) (reached : IsReached s) (accepted : AreAccepted s es) (seats : EachPair OfOneSeat s.claims) (waits : AllByRecursion (ReadWaits c) (moments s es)) where
  abbrev over : List Moment
  over = moments s es

  abbrev last : Moment
  last = (after s es).claims

  read_by : (v : Claim) → keeper_at c last ≡ Some v → AllByRecursion (IsActiveWrite v) over → (a : Sections) → IsReadClosed c over last a → sections_by v over ≡ read_shown v a.reads last
  read_by v keeps active a k =
      let reads : (sections_by v over).reads ≡ (read_shown v a.reads last).reads
      = both_cases (holds_at v last)
      (λ on. sym (k.kept v keeps on) ∙ ap (λ b. cond b a.reads (option_to_list (first_at (λ d. conflicts d v) last))) (sym on))
      (λ off. ap option_to_list (shows.read_shown s es reached accepted seats v active off) ∙ ap (λ b. cond b a.reads (option_to_list (first_at (λ d. conflicts d v) last))) (sym off)) in
      let writes : (sections_by v over).writes ≡ (read_shown v a.reads last).writes = ap (λ b. cond b (v ∷ []) []) (held_last v s es reached accepted active) in
      (λ i. record { reads = reads i; writes = writes i })

  pub read_sections_shown : (a : Sections) → IsReadClosed c over last a → read_sections c over ≡ read_shown_if (keeper_at c last) a.reads last
  read_sections_shown a k =
      let h = has_keeper s es reached accepted c waits in
      let keeps = keeper_is c h.keeper last (all_at (IsKeptBy c h.keeper) over last h.kept (last_among s es)) in
      ap (λ o. sections_of_keeper o over) h.is_keeper ∙ read_by h.keeper keeps h.active a k ∙ ap (λ o. read_shown_if o a.reads last) (sym keeps)

  -- and what is kept goes on with one moment more
  pub read_closed_next : (e : Event) → Comes (after s es) e → ReadWaits c (next (after s es) e).claims → (a : Sections) → IsReadClosed c over last a
      → IsReadClosed c (over ++ (next (after s es) e).claims ∷ []) (next (after s es) e).claims (read_closed_if (keeper_at c last) a last (next (after s es) e).claims)
  read_closed_next e comes waits' a k =
      let n : Moment = (next (after s es) e).claims in
      let all' : AllByRecursion (ReadWaits c) (moments s (es ++ e ∷ [])) = subst (λ (l : List Moment). AllByRecursion (ReadWaits c) l) (sym (moments_push s es e)) (all_append (ReadWaits c) over (n ∷ []) waits (waits', tt)) in
      let h = has_keeper s es reached accepted c waits in
      let h' = has_keeper s (es ++ e ∷ []) reached (accepted_push s es e accepted comes) c all' in
      let keeps : keeper_at c last ≡ Some h.keeper = keeper_is c h.keeper last (all_at (IsKeptBy c h.keeper) over last h.kept (last_among s es)) in
      let one : h'.keeper ≡ h.keeper = some_one h'.keeper h.keeper (sym h'.is_keeper ∙ h.is_keeper) in
      let there : Among n (moments s (es ++ e ∷ [])) = subst (λ (t : LockState). Among t.claims (moments s (es ++ e ∷ []))) (after_append s es (e ∷ [])) (last_among s (es ++ e ∷ [])) in
      let keeps_n : keeper_at c n ≡ Some h.keeper = keeper_is c h'.keeper n (all_at (IsKeptBy c h'.keeper) (moments s (es ++ e ∷ [])) n h'.kept there) ∙ ap Some one in
      record {
        kept = λ u keeps_u on_u.
            let same : h.keeper ≡ u = some_one h.keeper u (sym keeps_n ∙ keeps_u) in
            let on : holds_at h.keeper n ≡ true = ap (λ d. holds_at d n) same ∙ on_u in
            ap (λ o. (read_closed_if o a last n).reads) keeps
            ∙ ap (λ b. cond b (read_shown h.keeper a.reads last).reads a.reads) on
            ∙ ap (λ (z : Sections). z.reads) (sym (read_by h.keeper keeps h.active a k))
            ∙ ap (λ ns. option_to_list (holder_of (λ d. conflicts d h.keeper) ns)) (sym (read_closed h.keeper over n on))
            ∙ ap (λ d. (sections_by d (over ++ n ∷ [])).reads) same;
      }

pub read_closed_first : (c : Claim) (n : Moment) → IsReadClosed c (n ∷ []) n no_sections
read_closed_first c n = record { kept = λ v keeps on. sym (ap (λ b. option_to_list (holder_of (λ d. conflicts d v) (cond (not b) (n ∷ []) []))) on) }

-- what is kept of a write wait is among what it shows
among_shown : {top : ℕ} (e : Claim) (a : Sections) (m : Moment) → AreAtMost top (write_shown e a m) → AreAtMost top a
among_shown {top} e a m few = record { reads = reads (holds_at e m) few.reads; writes = writes (holds_at e m) few.writes }
  where
    longer : (b : Bool) (d : Claim) → length a.reads ≤ length (cond b a.reads (a.reads ++ d ∷ []))
    longer true d = omega arith
    longer false d = omega (arith, length-append a.reads (d ∷ []))

    with_one : (o : Option Claim) → length a.reads ≤ length (with_option a.reads o)
    with_one None = omega arith
    with_one (Some d) = longer (list_any (λ c. is_claim c d) a.reads) d

    reads : (b : Bool) → length (cond b a.reads (with_option a.reads (first_at (reads_against e) m))) ≤ top → length a.reads ≤ top
    reads true h = h
    reads false h = let more = with_one (first_at (reads_against e) m) in omega arith

    writes : (b : Bool) → length (cond b (a.writes ++ e ∷ []) a.writes) ≤ top → length a.writes ≤ top
    writes true h = omega (arith, length-append a.writes (e ∷ []), h)
    writes false h = h

-- a wait is that of an ask
abbrev pub is_ask : Which → Bool
is_ask First = false
is_ask Rise = false
is_ask (Ask number) = true

-- ---- all waits of a state

module _ (groups : ReadGroups) (seats cap : ℕ) (es : List Event) (accepted : AreAccepted (opening groups seats cap) es) where
  abbrev first : LockState
  first = opening groups seats cap

  abbrev now : LockState
  now = after first es

  abbrev m : Moment
  m = now.claims

  abbrev ms : List Moment
  ms = moments first es

  reached_now : IsReached now
  reached_now = reached_after first es (reached_opening groups seats cap) accepted

  seats_now : EachPair OfOneSeat m
  seats_now = one_seat_after first es (reached_opening groups seats cap) accepted tt

  wait_at : (test : Moment → Claimed → Bool) (x : Claimed) → Among x m → test m x ≡ true → IsWait groups seats cap es [] test x
  wait_at test x there on = wait_is groups seats cap es [] accepted test x there on

  -- at each moment of such a wait a claim waits
  reads_over : (x : Claimed) (w : IsWait groups seats cap es [] waits_first x) → x.claim.write_half ≡ false → AllByRecursion (ReadWaits x.claim) (moments w.start w.more)
  reads_over x w read =
      all_both (StandsAs waits_first x.claim) (λ m. StandsAs waits_first x.claim m → ReadWaits x.claim m) (ReadWaits x.claim) (λ m h f. f h) (moments w.start w.more) w.each
      (at_moments (λ m. StandsAs waits_first x.claim m → ReadWaits x.claim m) (λ s r h. read_waits s r x.claim read h) w.start w.more w.reached w.accepted)

  writes_over : (x : Claimed) (w : IsWait groups seats cap es [] waits_first x) → x.claim.write_half ≡ true → AllByRecursion (WriteWaits x.claim) (moments w.start w.more)
  writes_over x w write =
      all_both (StandsAs waits_first x.claim) (λ m. StandsAs waits_first x.claim m → WriteWaits x.claim m) (WriteWaits x.claim) (λ m h f. f h) (moments w.start w.more) w.each
      (at_moments (λ m. StandsAs waits_first x.claim m → WriteWaits x.claim m) (λ s r h. write_waits s r x.claim write h) w.start w.more w.reached w.accepted)

  rises_over : (x : Claimed) (w : IsWait groups seats cap es [] waits_to_rise x) → AllByRecursion (WriteWaits x.claim) (moments w.start w.more)
  rises_over x w =
      all_both (StandsAs waits_to_rise x.claim) (λ m. StandsAs waits_to_rise x.claim m → WriteWaits x.claim m) (WriteWaits x.claim) (λ m h f. f h) (moments w.start w.more) w.each
      (at_moments (λ m. StandsAs waits_to_rise x.claim m → WriteWaits x.claim m) (λ s r h. rise_waits s r x.claim h) w.start w.more w.reached w.accepted)

  -- the sections of a write wait are those that are shown
  write_is : (test : Moment → Claimed → Bool) (x : Claimed) (w : IsWait groups seats cap es [] test x) → AllByRecursion (WriteWaits x.claim) (moments w.start w.more)
      → (a : Sections) → IsClosed x.claim (wait_so_far test x.claim ms) m a → write_sections x.claim (wait_so_far test x.claim ms) ≡ write_shown (least_of x.claim m) a m
  write_is test x w waits a k =
      ap (write_sections x.claim) w.is
      ∙ write_sections_shown x.claim w.start w.more w.reached w.accepted w.seats_apart waits a (subst (λ (p : List Moment × LockState). IsClosed x.claim p.0 p.1.claims a) (λ i. (w.is i, sym w.ends i)) k)
      ∙ ap (λ (s : LockState). write_shown (least_of x.claim s.claims) a s.claims) w.ends

  read_is : (x : Claimed) (w : IsWait groups seats cap es [] waits_first x) → AllByRecursion (ReadWaits x.claim) (moments w.start w.more)
      → (a : Sections) → IsReadClosed x.claim (wait_so_far waits_first x.claim ms) m a → read_sections x.claim (wait_so_far waits_first x.claim ms) ≡ read_shown_if (keeper_at x.claim m) a.reads m
  read_is x w waits a k =
      ap (read_sections x.claim) w.is
      ∙ read_sections_shown x.claim w.start w.more w.reached w.accepted w.seats_apart waits a (subst (λ (p : List Moment × LockState). IsReadClosed x.claim p.0 p.1.claims a) (λ i. (w.is i, sym w.ends i)) k)
      ∙ ap (λ (s : LockState). read_shown_if (keeper_at x.claim s.claims) a.reads s.claims) w.ends

  ask_is : (x : Claimed) (w : IsWait groups seats cap es [] waits_for_ask x) → ask_sections x.claim x.asked (wait_so_far waits_for_ask x.claim ms) ≡ record { reads = option_to_list (first_at (λ d. conflicts_on d x.claim x.asked) m); writes = [] }
  ask_is x w =
      let part = x.asked in
      ap (ask_sections x.claim part) w.is
      ∙ (λ i. let a : Sections = record { reads = shows.ask_shown w.start w.more w.reached w.accepted w.seats_apart x.claim part (ask_run x.claim part w.start w.more w.reached w.accepted w.each x w.last refl refl) i; writes = [] } in a)
      ∙ ap (λ (s : LockState). let a : Sections = record { reads = option_to_list (first_at (λ d. conflicts_on d x.claim part) s.claims); writes = [] } in a) w.ends

  -- what is kept of a wait shows its sections
  pub shown_of : (a : Sections) (x : Claimed) → Among x m → IsTracked ms m a x → (w : Which) → waits_in w m x ≡ true → sections_in w x (wait_so_far (waits_in w) x.claim ms) ≡ shown w x a m
  shown_of a x there tracked First on =
      let w = wait_at waits_first x there on in
      let run = wait_so_far waits_first x.claim ms in
      let lhs = λ (b : Bool). cond b (write_sections x.claim run) (read_sections x.claim run) in
      let rhs = λ (b : Bool). cond b (write_shown (least_of x.claim m) a m) (read_shown_if (keeper_at x.claim m) a.reads m) in
      both_cases x.claim.write_half
      (λ write. ap lhs write ∙ write_is waits_first x w (writes_over x w write) a (tracked.first_write write on) ∙ ap rhs (sym write))
      (λ read. ap lhs read ∙ read_is x w (reads_over x w read) a (tracked.first_read read on) ∙ ap rhs (sym read))
  shown_of a x there tracked Rise on =
      let w = wait_at waits_to_rise x there on in
      write_is waits_to_rise x w (rises_over x w) a (tracked.rise on)
  shown_of a x there tracked (Ask number) on = ask_is x (wait_at waits_for_ask x there on)

  -- and that for all of them
  pub shown_is : (table : ℕ → Sections) → AreTracked ms m table → (x : Claimed) → Among x m → (w : Which) → waits_in w m x ≡ true
      → sections_in w x (wait_so_far (waits_in w) x.claim ms) ≡ shown w x (table x.claim.seat) m
  shown_is table tracked x there w on = shown_of (table x.claim.seat) x there (tracked x there) w on

  -- what is reported from what is kept is what the definitions say of the waits that end
  pub told_are_ended : (table : ℕ → Sections) → AreTracked ms m table → (event : Event) → told es m (next now event).claims table ≡ ended_by first es event
  told_are_ended table tracked event =
      filter_map_same (λ x. told_if (length_in es) m n table x (wait_of es m x)) (λ x. ended_if es ms n x (wait_of es m x)) m (λ x there. at x there (wait_of es m x) refl)
    where
      n : Moment
      n = (next now event).claims

      at : (x : Claimed) → Among x m → (o : Option Which) → wait_of es m x ≡ o → told_if (length_in es) m n table x o ≡ ended_if es ms n x o
      at x there None is = refl
      at x there (Some w) is =
          ap (λ (a : Sections). cond (stands (waits_in w) x.claim n) None (Some (wait_end w x.claim (numbers_of (length_in es) a)))) (sym (shown_is table tracked x there w (waits_told es m x w is)))

  -- what is shown of a wait is at most the cap
  pub shown_at_most : 1 ≤ cap → (a : Sections) (x : Claimed) → Among x m → IsTracked ms m a x → (w : Which) → waits_in w m x ≡ true → AreAtMost cap (shown w x a m)
  shown_at_most some a x there tracked w on = subst (AreAtMost cap) (shown_of a x there tracked w on) (at_most groups seats cap es some accepted x there w on)

  -- and so is what is kept of a write wait
  pub kept_at_most : 1 ≤ cap → (a : Sections) (x : Claimed) → Among x m → IsTracked ms m a x → x.claim.write_half ≡ true → (w : Which) → waits_in w m x ≡ true → is_ask w ≡ false → AreAtMost cap a
  kept_at_most some a x there tracked write First on plain =
      among_shown (least_of x.claim m) a m
      (subst (λ b. AreAtMost cap (cond b (write_shown (least_of x.claim m) a m) (read_shown_if (keeper_at x.claim m) a.reads m))) write (shown_at_most some a x there tracked First on))
  kept_at_most some a x there tracked write Rise on plain = among_shown (least_of x.claim m) a m (shown_at_most some a x there tracked Rise on)
  kept_at_most some a x there tracked write (Ask number) on plain = contrary true refl plain

  module _ (event : Event) (comes : Comes now event) where
    abbrev n : Moment
    n = (next now event).claims

    reached_next_now : IsReached (next now event)
    reached_next_now = reached_next now event reached_now comes

    -- a claim that is there at both moments was the same claim before
    pub was_before : (test : Moment → Claimed → Bool) (x : Claimed) → Among x n → stands test x.claim m ≡ true → (y : Claimed) × Among y m × (y.claim ≡ x.claim) × (test m y ≡ true)
    was_before test x there on =
        let c = x.claim in
        let y = passing (λ y. is_claim c y.claim && test m y) m on in
        let parts = and_parts (is_claim c y.0.claim) (test m y.0) y.2 in
        let one = are_one c y.0.claim parts.0 in
        let below : c.stamp < now.issued = (let given = stamp_given now reached_now y.0 y.1 in let same = one.stamp in omega arith) in
        let was = there_before now event reached_now comes c (record { at = x; among = there; is = refl }) below in
        let same : y.0 ≡ was.at = one_of_stamp now reached_now seats_now y.0 was.at y.1 was.among
        (record { stamp = sym one.stamp ∙ ap (λ d. d.stamp) (sym was.is); half = sym one.half ∙ ap (λ d. d.write_half) (sym was.is) }) in
        (y.0, y.1, ap (λ (z : Claimed). z.claim) same ∙ was.is, parts.1)

    write_step : (test : Moment → Claimed → Bool) (y : Claimed) (w : IsWait groups seats cap es [] test y) → AllByRecursion (WriteWaits y.claim) (moments w.start w.more) → WriteWaits y.claim n
        → (a : Sections) → IsClosed y.claim (wait_so_far test y.claim ms) m a
        → IsClosed y.claim (wait_so_far test y.claim ms ++ n ∷ []) n (write_closed (least_of y.claim m) a m (least_of y.claim n) n)
    write_step test y w waits waits' a k =
        let c = y.claim in
        subst (λ (p : List Moment × LockState). IsClosed c (p.0 ++ (next p.1 event).claims ∷ []) (next p.1 event).claims (write_closed (least_of c p.1.claims) a p.1.claims (least_of c (next p.1 event).claims) (next p.1 event).claims))
        (λ i. (sym w.is i, w.ends i))
        (closed_next c w.start w.more w.reached w.accepted w.seats_apart waits event (subst (λ (s : LockState). Comes s event) (sym w.ends) comes)
        (subst (λ (s : LockState). WriteWaits c (next s event).claims) (sym w.ends) waits') a (subst (λ (p : List Moment × LockState). IsClosed c p.0 p.1.claims a) (λ i. (w.is i, sym w.ends i)) k))

    read_step : (y : Claimed) (w : IsWait groups seats cap es [] waits_first y) → AllByRecursion (ReadWaits y.claim) (moments w.start w.more) → ReadWaits y.claim n
        → (a : Sections) → IsReadClosed y.claim (wait_so_far waits_first y.claim ms) m a
        → IsReadClosed y.claim (wait_so_far waits_first y.claim ms ++ n ∷ []) n (read_closed_if (keeper_at y.claim m) a m n)
    read_step y w waits waits' a k =
        let c = y.claim in
        subst (λ (p : List Moment × LockState). IsReadClosed c (p.0 ++ (next p.1 event).claims ∷ []) (next p.1 event).claims (read_closed_if (keeper_at c p.1.claims) a p.1.claims (next p.1 event).claims))
        (λ i. (sym w.is i, w.ends i))
        (read_closed_next c w.start w.more w.reached w.accepted w.seats_apart waits event (subst (λ (s : LockState). Comes s event) (sym w.ends) comes)
        (subst (λ (s : LockState). ReadWaits c (next s event).claims) (sym w.ends) waits') a (subst (λ (p : List Moment × LockState). IsReadClosed c p.0 p.1.claims a) (λ i. (w.is i, sym w.ends i)) k))

    -- the moments of a wait that is there at the next moment
    goes_on : (test : Moment → Claimed → Bool) (x : Claimed) → Among x n → test n x ≡ true → wait_so_far test x.claim (ms ++ n ∷ []) ≡ wait_so_far test x.claim ms ++ n ∷ []
    goes_on test x there on =
        run_push (stands test x.claim) ms n
        ∙ ap (λ b. cond b (wait_so_far test x.claim ms ++ n ∷ []) []) (any_among (λ y. is_claim x.claim y.claim && test n y) n x there (and_from (is_claim x.claim x.claim) (test n x) (is_itself x.claim) on))

    begins : (test : Moment → Claimed → Bool) (c : Claim) → stands test c m ≡ false → wait_so_far test c ms ≡ []
    begins test c off = run_none (stands test c) first es off

    module _ (table table' : ℕ → Sections) (tracked : AreTracked ms m table) (x : Claimed) (there : Among x n) (kept : IsKept m n table table' x) where
      stands_as : (test : Moment → Claimed → Bool) → test n x ≡ true → StandsAs test x.claim n
      stands_as test on = record { at = x; among = there; is = refl; passes = on }

      write_kept : (test : Moment → Claimed → Bool) → test n x ≡ true → WriteWaits x.claim n → x.claim.write_half ≡ true
          → ((y : Claimed) → Among y m → test m y ≡ true → y.claim.write_half ≡ true → IsClosed y.claim (wait_so_far test y.claim ms) m (table y.claim.seat))
          → ((y : Claimed) → (w : IsWait groups seats cap es [] test y) → y.claim.write_half ≡ true → AllByRecursion (WriteWaits y.claim) (moments w.start w.more))
          → table' x.claim.seat ≡ kept_by test x.claim (table x.claim.seat) m n → IsClosed x.claim (wait_so_far test x.claim (ms ++ n ∷ [])) n (table' x.claim.seat)
      write_kept test on waits' write closed waits is =
          subst (λ (p : List Moment × Sections). IsClosed x.claim p.0 n p.1) (λ i. (sym (goes_on test x there on) i, sym is i))
          (both_cases (stands test x.claim m)
          (λ stood.
          let y = was_before test x there stood in
          let written : y.0.claim.write_half ≡ true = ap (λ d. d.write_half) y.2 ∙ write in
          let w = wait_at test y.0 y.1 y.3 in
          let step = write_step test y.0 w (waits y.0 w written) (subst (λ d. WriteWaits d n) (sym y.2) waits') (table y.0.claim.seat) (closed y.0 y.1 y.3 written) in
          subst (IsClosed x.claim (wait_so_far test x.claim ms ++ n ∷ []) n)
          (ap (λ b. cond b (write_closed (least_of x.claim m) (table x.claim.seat) m (least_of x.claim n) n) (read_closed_if (keeper_at x.claim m) (table x.claim.seat) m n)) (sym write)
          ∙ ap (λ b. cond b (gone_on x.claim (table x.claim.seat) m n) no_sections) (sym stood))
          (subst (λ d. IsClosed d (wait_so_far test d ms ++ n ∷ []) n (write_closed (least_of d m) (table d.seat) m (least_of d n) n)) y.2 step))
          (λ new.
          subst (λ (p : List Moment × Sections). IsClosed x.claim (p.0 ++ n ∷ []) n p.1)
          (λ i. (sym (begins test x.claim new) i, ap (λ b. cond b (gone_on x.claim (table x.claim.seat) m n) no_sections) (sym new) i))
          (closed_first x.claim n)))

      read_kept : waits_first n x ≡ true → x.claim.write_half ≡ false → IsReadClosed x.claim (wait_so_far waits_first x.claim (ms ++ n ∷ [])) n (table' x.claim.seat)
      read_kept on read =
          let waits' = read_waits (next now event) reached_next_now x.claim read (stands_as waits_first on) in
          subst (λ (p : List Moment × Sections). IsReadClosed x.claim p.0 n p.1) (λ i. (sym (goes_on waits_first x there on) i, sym (kept.first on) i))
          (both_cases (stands waits_first x.claim m)
          (λ stood.
          let y = was_before waits_first x there stood in
          let reads : y.0.claim.write_half ≡ false = ap (λ d. d.write_half) y.2 ∙ read in
          let w = wait_at waits_first y.0 y.1 y.3 in
          let step = read_step y.0 w (reads_over y.0 w reads) (subst (λ d. ReadWaits d n) (sym y.2) waits') (table y.0.claim.seat) ((tracked y.0 y.1).first_read reads y.3) in
          subst (IsReadClosed x.claim (wait_so_far waits_first x.claim ms ++ n ∷ []) n)
          (ap (λ b. cond b (write_closed (least_of x.claim m) (table x.claim.seat) m (least_of x.claim n) n) (read_closed_if (keeper_at x.claim m) (table x.claim.seat) m n)) (sym read)
          ∙ ap (λ b. cond b (gone_on x.claim (table x.claim.seat) m n) no_sections) (sym stood))
          (subst (λ d. IsReadClosed d (wait_so_far waits_first d ms ++ n ∷ []) n (read_closed_if (keeper_at d m) (table d.seat) m n)) y.2 step))
          (λ new.
          subst (λ (p : List Moment × Sections). IsReadClosed x.claim (p.0 ++ n ∷ []) n p.1)
          (λ i. (sym (begins waits_first x.claim new) i, ap (λ b. cond b (gone_on x.claim (table x.claim.seat) m n) no_sections) (sym new) i))
          (read_closed_first x.claim n)))

      pub kept_right : IsTracked (ms ++ n ∷ []) n (table' x.claim.seat) x
      kept_right = record {
        first_read = λ read on. read_kept on read;
        first_write = λ write on.
            write_kept waits_first on (write_waits (next now event) reached_next_now x.claim write (stands_as waits_first on)) write (λ y there on write. (tracked y there).first_write write on) (λ y w write. writes_over y w write) (kept.first on);
        rise = λ on.
            let waits' = rise_waits (next now event) reached_next_now x.claim (stands_as waits_to_rise on) in
            write_kept waits_to_rise on waits' waits'.write (λ y there on write. (tracked y there).rise on) (λ y w write. rises_over y w) (kept.rise on);
      }

    -- what is kept for the next moment is right there
    pub tracked_next : (table table' : ℕ → Sections) → AreTracked ms m table → AreKept m n table table' → AreTracked (moments first (es ++ event ∷ [])) (after first (es ++ event ∷ [])).claims table'
    tracked_next table table' tracked kept =
        subst (λ (p : List Moment × Moment). AreTracked p.0 p.1 table') (λ i. (sym (moments_push first es event) i, ap (λ (s : LockState). s.claims) (sym (after_append first es (event ∷ []))) i))
        (λ x there. kept_right table table' tracked x there (kept x there))

-- at first nothing is there
pub tracked_opening : (groups : ReadGroups) (seats cap : ℕ) (table : ℕ → Sections) → AreTracked (moments (opening groups seats cap) []) (opening groups seats cap).claims table
tracked_opening groups seats cap table x there = absurd there
