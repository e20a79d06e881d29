-- What is kept of a wait stays if nothing is due.
use Rattle.std.proofs.Common.{◌≡◌, ℕ, ◌==◌, Bool, true, false, not, ◌&&◌, ◌||◌, cond, Some, List, sym, ap, refl, ◌∙◌}
use Rattle.std.specs.Prelude.{if◌then◌else◌, nat_lt}
use Rattle.std.proofs.lemmas.Bool.{or_left, and_parts, eq-eqb, eqb-true}
use Rattle.std.specs.FinSet.{contains, empty, insert, intersection, len, union}
use Rattle.rset.proofs.SetMembers.{same_test, contains_empty, contains_insert, contains_intersection, contains_union}
use Rattle.rset.proofs.SetsMeet.{meets_empty_right}
use Rattle.rset.specs.Sets.{Set, meets}
use Rattle.rclaim.specs.declared.claim.Claim.{Claim}
use Rattle.rclaim.specs.Events.{seat_of}
use Rattle.rclaim.specs.declared.event.Event.{Event}
use Rattle.rclaim.specs.declared.event.Event.TheVariants as event
use Rattle.rmodel.specs.declared.claimed.Claimed.{Claimed}
use Rattle.rmodel.proofs.ListFacts.{contrary}
use Rattle.rmodel.proofs.settling.OneSettlement.{both_cases}
use Rattle.rcover_laws.specs.Line.{least_of}
use Rattle.rcover_laws.specs.Moments.{Moment, holds_at}
use Rattle.rcover_laws.specs.Sections.{Sections}
use Rattle.rcover_laws.specs.Told.{waits_first, waits_to_rise}
use Rattle.rcover.specs.declared.lines.Head.{Head}
use Rattle.rcover.specs.Kept.{may_wait, kept_of}
use Rattle.rcover.specs.Lines.{head_of, HeadsTell}
use Rattle.rcover.specs.Due.{ReadStays, is_looked_at, is_write_of_these, is_due, StoodBy}
use Rattle.rcover.specs.Begun.{rises_at}
use Rattle.rcover.specs.Shown.{write_closed}
use Rattle.rcover.proofs.over.Closed.{same_closed, write_gone_on}
use Rattle.rcover.specs.Tracked.{no_sections, keeper_at, read_closed_if, gone_on, kept_by}
use Rattle.rcover.specs.NotedSeats.{some_wait}
use Rattle.rcover.proofs.Kept.{read_not_closed}

first_off : (a b : Bool) → (a || b) ≡ false → a ≡ false
first_off true b h = h
first_off false b h = refl

second_off : (a b : Bool) → (a || b) ≡ false → b ≡ false
second_off true b h = contrary true refl h
second_off false b h = h

-- a wait that was there before goes on, and that of the upgrade that rises begins
pub kept_by_event : (e : Event) (m n : Moment) (x : Claimed) → StoodBy e m n x → (a : Sections) → may_wait n x ≡ true → kept_of m n a x ≡ (if rises_at e x.claim.seat then no_sections else gone_on x.claim a m n)
kept_by_event e m n x stood a on =
    both_cases (waits_first n x)
    (λ first.
    ap (λ b. cond b (kept_by waits_first x.claim a m n) (kept_by waits_to_rise x.claim a m n)) first
    ∙ ap (λ b. cond b (gone_on x.claim a m n) no_sections) (stood.first first) ∙ turned (rises_at e x.claim.seat))
    (λ not_first.
    let rise : waits_to_rise n x ≡ true = ap (λ b. b || waits_to_rise n x) (sym not_first) ∙ on in
    ap (λ b. cond b (kept_by waits_first x.claim a m n) (kept_by waits_to_rise x.claim a m n)) not_first
    ∙ ap (λ b. cond b (gone_on x.claim a m n) no_sections) (stood.rise rise) ∙ turned (rises_at e x.claim.seat))
  where
    turned : (b : Bool) → cond (not b) (gone_on x.claim a m n) no_sections ≡ cond b no_sections (gone_on x.claim a m n)
    turned true = refl
    turned false = refl

module _ (m n : Moment) (c : Claim) (a : Sections) where
  -- of a write whose head is the same
  write_undue : c.write_half ≡ true → head_of n c ≡ head_of m c → gone_on c a m n ≡ a
  write_undue write same = write_gone_on m n c a write ∙ same_closed (head_of m c) (head_of n c) a m same

  -- of a read, if the write that keeps it waiting does not become satisfied
  read_undue : c.write_half ≡ false → ((v : Claim) → keeper_at c m ≡ Some v → holds_at v m ≡ false → holds_at v n ≡ false) → gone_on c a m n ≡ a
  read_undue read none =
      ap (λ b. cond b (write_closed (least_of c m) a m (least_of c n) n) (read_closed_if (keeper_at c m) a m n)) read
      ∙ read_not_closed m n (keeper_at c m) none a

-- if nothing is due of a claim that waits, what is kept of it stays
module _ (e : Event) (waiting moved risen looked written : Set) (m n : Moment) (x : Claimed) (hs : List Head) (lost : Head) (tells : HeadsTell hs lost moved risen m n x)
    (looks : (seat : ℕ) → contains looked seat ≡ is_looked_at e waiting moved risen seat) (waits : some_wait n x ≡ true → contains waiting x.claim.seat ≡ true) (undue : is_due e looked written x ≡ false)
    (stood : StoodBy e m n x) (stays : ReadStays written m n x) (a : Sections) (on : may_wait n x ≡ true) where
  abbrev seat : ℕ
  seat = x.claim.seat

  abbrev in_wait : contains waiting seat ≡ true
  in_wait = waits (or_left (may_wait n x) (nat_lt 0 (len x.asked)) on)

  module _ (write : x.claim.write_half ≡ true) where
    unseen : (rises_at e seat || (contains waiting seat && (contains moved seat || contains risen seat))) ≡ false
    unseen = sym (looks seat) ∙ ap (λ b. cond b (contains looked seat) (rises_at e seat || meets x.claim.reads written)) (sym write) ∙ undue

    unturned : (contains moved seat || contains risen seat) ≡ false
    unturned = ap (λ b. b && (contains moved seat || contains risen seat)) (sym in_wait) ∙ second_off (rises_at e seat) (contains waiting seat && (contains moved seat || contains risen seat)) unseen

    write_rises : rises_at e seat ≡ false
    write_rises = first_off (rises_at e seat) (contains waiting seat && (contains moved seat || contains risen seat)) unseen

    write_same : gone_on x.claim a m n ≡ a
    write_same = write_undue m n x.claim a write (tells.same write (first_off (contains moved seat) (contains risen seat) unturned) (second_off (contains moved seat) (contains risen seat) unturned))

  module _ (read : x.claim.write_half ≡ false) where
    unread : (rises_at e seat || meets x.claim.reads written) ≡ false
    unread = ap (λ b. cond b (contains looked seat) (rises_at e seat || meets x.claim.reads written)) (sym read) ∙ undue

    read_same : gone_on x.claim a m n ≡ a
    read_same = read_undue m n x.claim a read (stays read (second_off (rises_at e seat) (meets x.claim.reads written) unread))

  pub undue_kept : kept_of m n a x ≡ a
  undue_kept =
      both_cases x.claim.write_half
      (λ write. kept_by_event e m n x stood a on ∙ ap (λ b. cond b no_sections (gone_on x.claim a m n)) (write_rises write) ∙ write_same write)
      (λ read. kept_by_event e m n x stood a on ∙ ap (λ b. cond b no_sections (gone_on x.claim a m n)) (first_off (rises_at e seat) (meets x.claim.reads written) (unread read)) ∙ read_same read)

-- nothing is due if no write is looked at, and nothing is written of what came to be satisfied
pub none_due : (e : Event) (waiting moved risen looked written : Set) → ((seat : ℕ) → contains looked seat ≡ is_looked_at e waiting moved risen seat) → looked ≡ empty → written ≡ empty → (x : Claimed) → is_due e looked written x ≡ false
none_due e waiting moved risen looked written looks none_looked none_written x =
    (λ i. cond x.claim.write_half (none i) (quiet i || unmet i)) ∙ at x.claim.write_half
  where
    none : contains looked x.claim.seat ≡ false
    none = ap (λ s. contains s x.claim.seat) none_looked ∙ contains_empty x.claim.seat

    quiet : rises_at e x.claim.seat ≡ false
    quiet = first_off (rises_at e x.claim.seat) (contains waiting x.claim.seat && (contains moved x.claim.seat || contains risen x.claim.seat)) (sym (looks x.claim.seat) ∙ none)

    unmet : meets x.claim.reads written ≡ false
    unmet = ap (λ s. meets x.claim.reads s) none_written ∙ meets_empty_right x.claim.reads

    at : (b : Bool) → cond b false (false || false) ≡ false
    at true = refl
    at false = refl

-- the seats that are looked at
pub looked_else : (waiting moved risen : Set) (other : ℕ) → contains (intersection waiting (union moved risen)) other ≡ (contains waiting other && (contains moved other || contains risen other))
looked_else waiting moved risen other = contains_intersection waiting (union moved risen) other ∙ ap (λ b. contains waiting other && b) (contains_union moved risen other)

pub looked_rising : (waiting moved risen : Set) (first other : ℕ) → contains (insert (intersection waiting (union moved risen)) first) other ≡ (first == other || (contains waiting other && (contains moved other || contains risen other)))
looked_rising waiting moved risen first other =
    contains_insert (intersection waiting (union moved risen)) first other
    ∙ (λ i. turned i || looked_else waiting moved risen other i)
  where
    turned : (other == first) ≡ (first == other)
    turned = same_test (other == first) (first == other) (λ h. eq-eqb first other (sym (eqb-true other first h))) (λ h. eq-eqb other first (sym (eqb-true first other h)))

-- the upgrade that rises by an event is of its seat
pub rises_else : (e : Event) → rises_at e (seat_of e) ≡ false → (other : ℕ) → rises_at e other ≡ false
rises_else (event.Issue t r) off other = refl
rises_else (event.Finish t) off other = refl
rises_else (event.Rise t) off other = contrary (t == t) (eq-eqb t t refl) off
rises_else (event.Ask t part) off other = refl

pub rises_same : (e : Event) → rises_at e (seat_of e) ≡ true → (other : ℕ) → rises_at e other ≡ (seat_of e == other)
rises_same (event.Issue t r) on other = contrary false on refl
rises_same (event.Finish t) on other = contrary false on refl
rises_same (event.Rise t) on other = refl
rises_same (event.Ask t part) on other = contrary false on refl

-- without a rise no claim is due but the writes that are looked at, and the reads that read some of what came to be held
pub calm_due : (e : Event) (looked written : Set) → rises_at e (seat_of e) ≡ false → (x : Claimed) → (x.claim.write_half ≡ false → meets x.claim.reads written ≡ false) → is_write_of_these looked x ≡ false → is_due e looked written x ≡ false
calm_due e looked written calm x unmet off =
    both_cases x.claim.write_half
    (λ write.
    ap (λ b. cond b (contains looked x.claim.seat) (rises_at e x.claim.seat || meets x.claim.reads written)) write
    ∙ sym (ap (λ b. b && contains looked x.claim.seat) write) ∙ off)
    (λ read.
    ap (λ b. cond b (contains looked x.claim.seat) (rises_at e x.claim.seat || meets x.claim.reads written)) read
    ∙ (λ i. rises_else e calm x.claim.seat i || unmet read i))

-- without a rise the seats that are looked at are some of those that moved or rose
pub looked_changed : (e : Event) (waiting moved risen looked : Set) → ((other : ℕ) → contains looked other ≡ is_looked_at e waiting moved risen other) → rises_at e (seat_of e) ≡ false → (other : ℕ) → contains looked other ≡ true → (contains moved other || contains risen other) ≡ true
looked_changed e waiting moved risen looked looks calm other on =
    (and_parts (contains waiting other) (contains moved other || contains risen other)
    (ap (λ b. b || (contains waiting other && (contains moved other || contains risen other))) (sym (rises_else e calm other)) ∙ sym (looks other) ∙ on)).1
