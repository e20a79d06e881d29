use Rattle.std.proofs.Common.{◌≡◌, ℕ, ◌<◌, ◌==◌, true, false, ◌&&◌, ◌||◌, arith, List, ◌++◌, append-nil, get_or, Some, length, take, refl, sym, ap, subst, ◌∙◌}
use Rattle.std.specs.FinSet.{contains}
use Rattle.rset.specs.Sets.{Set}
use Rattle.rmodel.specs.WellFormed.{Among}
use Rattle.rmodel.proofs.ListFacts.{all_at, all_from}
use Rattle.rbound.specs.declared.which.Which.{Which}
use Rattle.rclaim.specs.declared.changes.GrantChange.{GrantChange}
use Rattle.std.proofs.lemmas.List.{take_all}
use Rattle.std.proofs.lemmas.Option.{slice_get_read}
use Rattle.std.specs.List.{AllByRecursion, filter_map}
use Rattle.std.specs.Option.{option_to_list}
use Rattle.std.specs.Prelude.{slice_get, slice_index, vec_capacity}
use Rattle.std.specs.declared.alloc.Global.{Global}
use Rattle.std.specs.declared.vec.Vec.{Vec}
use Rattle.rmodel.specs.declared.claimed.Claimed.{Claimed}
use Rattle.rcover_laws.specs.Ended.{wait_of, waits_in}
use Rattle.rcover_laws.specs.Moments.{Moment}
use Rattle.rcover_laws.specs.History.{asks_since, length_in}
use Rattle.rcover_laws.specs.Told.{waits_for_ask, stands}
use Rattle.rset.specs.declared.TheConstants.{SEATS}
use Rattle.rcover_laws.proofs.lists.Pushed.{found_more}
use Rattle.rcover.specs.Kept.{kept_in, length_by, HasRoom, AreLong}
use Rattle.rcover.specs.Follow.{kept_if, table_of}
use Rattle.rcover.specs.Quiet.{has_grant, GoesOn}
use Rattle.rcover.specs.Tracked.{shown, told_of, told_if}
use Rattle.rcover.specs.NotedSeats.{some_wait, HoldWaiting, HoldAsking}
use Rattle.rcover.proofs.Behind.{here_from, within}
use Rattle.rcover.proofs.Looked.{unlooked, none_of, rest_less, rest_none, rest_same}
use Rattle.rcover.specs.declared.run.Run.{Run}
use Rattle.rcover.specs.declared.lines.Head.{Head}
use Rattle.rcover.specs.Lines.{head_of}
use Rattle.rcover_laws.specs.declared.wait_end.WaitEnd.{WaitEnd}
use Rattle.rcover_laws.specs.Lists.{AreAtMost}
use Rattle.rcover.proofs.Pairs.{all_get}
use Rattle.rcover.proofs.ended.tell.Goals as goal
use Rattle.rcover.proofs.ended.tell.Goals.{then-has, else-has}

-- what is kept for the seat of a run is what that run keeps
table_at : (rs : List Run) (seat : ℕ) (r : Run) → seat < length rs → r ≡ get_or rs seat r → kept_in r ≡ table_of rs seat
table_at rs seat r h is = ap kept_if (sym (slice_get_read rs (length rs) seat r refl h is))

-- if a seat is not looked at, the waits of its claims go on
unlooked_at : (looked waiting asking : Set) (seat : ℕ) (gs : List GrantChange) (m n : Moment) → AllByRecursion (λ x. x.claim.seat < SEATS) m → HoldWaiting waiting m → HoldAsking asking m → AllByRecursion (GoesOn seat gs m n) m
    → ((other : ℕ) → other < SEATS → contains looked other ≡ ((((seat == other) || has_grant gs other) || contains asking other) && contains waiting other))
    → (x : Claimed) → Among x m → contains looked x.claim.seat ≡ false → (w : Which) → waits_in w m x ≡ true → stands (waits_in w) x.claim n ≡ true
unlooked_at looked waiting asking seat gs m n low waits asks goes are x there off =
    unlooked m n x looked waiting asking seat gs (all_at (λ y. some_wait m y ≡ true → contains waiting y.claim.seat ≡ true) m x waits there) (all_at (λ y. waits_for_ask m y ≡ true → contains asking y.claim.seat ≡ true) m x asks there)
    (all_at (GoesOn seat gs m n) m x goes there) (are x.claim.seat (all_at (λ y. y.claim.seat < SEATS) m x low there)) off

-- what a list has at a place is an element of it
at_place : (m : List Claimed) (i : ℕ) (x : Claimed) → i < length m → x ≡ get_or m i x → Among x m
at_place m i x low is = subst (λ (y : Claimed). Among y m) (sym is) (all_get (λ y. Among y m) m i x (all_from (λ y. Among y m) m (λ y there. there)) low)

some_is : (a b : Head) → Some a ≡ Some b → a ≡ b
some_is a b h = cc

pub tell_wait-requires-clause-least : goal.tell_wait-requires-clause-least
tell_wait-requires-clause-least c = λ write.
    let m = c.args.last.now in
    let hs = c.args.heads.now in
    let x = c.x-item.result in
    let there = at_place m c.loop-x.x-index x (omega arith) c.x-item.is in
    let seat : x.claim.seat < length hs = all_at (λ y. y.claim.seat < length hs) m x c.requires.head there in
    some_is c.index-heads-at.result (head_of m x.claim)
    (sym (slice_get_read hs (length hs) x.claim.seat c.index-heads-at.result refl seat c.index-heads-at.is)
    ∙ all_at (λ y. y.claim.write_half ≡ true → slice_get hs y.claim.seat ≡ Some (head_of m y.claim)) m x c.requires.heads there write)

pub tell_wait-requires-clause-few : goal.tell_wait-requires-clause-few
tell_wait-requires-clause-few c = λ w on.
    let m = c.args.last.now in
    let rs = c.args.runs.now in
    let x = c.x-item.result in
    let there = at_place m c.loop-x.x-index x (omega arith) c.x-item.is in
    let seat = (all_at (λ y. (y.claim.seat < length rs) × (y.claim.seat < length c.args.asks.now)) m x c.requires.seats there).0 in
    subst (λ a. AreAtMost SEATS (shown w x a m)) (sym (table_at rs x.claim.seat c.index-runs-at.result seat c.index-runs-at.is))
    (all_at (λ y. (v : Which) → waits_in v m y ≡ true → AreAtMost SEATS (shown v y (table_of rs y.claim.seat) m)) m x c.requires.few there w on)

pub loop-x-preserved : goal.loop-x-preserved
loop-x-preserved c =
    let m = c.args.last.now in
    let n = c.args.next.now in
    let rs = c.args.runs.now in
    let i = c.loop-x.x-index in
    let x = c.x-item.result in
    let inv = c.loop-x.invariant in
    let there = at_place m i x (omega arith) c.x-item.is in
    let seat = (all_at (λ y. (y.claim.seat < length rs) × (y.claim.seat < length c.args.asks.now)) m x c.requires.seats there).0 in
    elim c.if-has.branch [
      | then-has w ↦ record {
        capacity = ap (λ (v : Vec WaitEnd Global). vec_capacity v) w.ended-is ∙ w.tell_wait.ensures.capacity ∙ inv.capacity;
        few = let h = w.tell_wait.ensures.len in let k = inv.few in let same = ap (λ (v : Vec WaitEnd Global). length v.items) w.ended-is in omega arith;
        room = subst HasRoom (sym w.scratch-is) w.tell_wait.ensures.scratch;
        told = λ es asks are have.
            let len = length_in es in
            let f = λ (y : Claimed). told_if len m n (table_of rs) y (wait_of es m y) in
            ap (λ (v : Vec WaitEnd Global). v.items) w.ended-is
            ∙ w.tell_wait.ensures.told es (all_at (λ y. slice_index c.args.asks.now y.claim.seat ≡ asks_since y.claim.seat es) m x asks there) are
            (all_at (λ y. length_by c.args.lengths.now y.claim ≡ len y.claim) m x are there)
            (subst (AreLong len) (sym w.index-runs-at.is) (all_get (AreLong len) rs x.claim.seat w.index-runs-at.result have seat))
            ∙ ap (λ l. l ++ option_to_list (told_of len m n (kept_in w.index-runs-at.result) x (wait_of es m x))) (inv.told es asks are have)
            ∙ ap (λ a. filter_map f (take i m) ++ option_to_list (told_of len m n a x (wait_of es m x))) (table_at rs x.claim.seat w.index-runs-at.result seat w.index-runs-at.is)
            ∙ sym (found_more f m i x (omega arith) c.x-item.is);
        rest = λ y later off. rest_less m n i c.loop-x.left inv.rest x c.requires.apart (omega arith) c.x-item.is y later (ap (λ (s : Set). contains s y.claim.seat) (sym (w.left-is ∙ w.without-left.ensures)) ∙ off);
      }
      | else-has w ↦ record {
        capacity = ap (λ (v : Vec WaitEnd Global). vec_capacity v) w.ended-is ∙ inv.capacity;
        few = let k = inv.few in let same = ap (λ (v : Vec WaitEnd Global). length v.items) w.ended-is in omega arith;
        room = subst HasRoom (sym w.scratch-is) inv.room;
        told = λ es asks are have.
            let f = λ (y : Claimed). told_if (length_in es) m n (table_of rs) y (wait_of es m y) in
            let off = sym c.has.ensures ∙ w.if-has.false in
            let none = none_of m n x es (table_of rs) (inv.rest x (here_from m i x (omega arith) c.x-item.is) off) in
            ap (λ (v : Vec WaitEnd Global). v.items) w.ended-is ∙ inv.told es asks are have
            ∙ sym (append-nil (filter_map f (take i m))) ∙ ap (λ o. filter_map f (take i m) ++ option_to_list o) (sym none)
            ∙ sym (found_more f m i x (omega arith) c.x-item.is);
        rest = λ y later off. rest_same m n i c.loop-x.left inv.rest y later (ap (λ (s : Set). contains s y.claim.seat) (sym w.left-is) ∙ off);
      }
    ]

pub returns-then-is_empty-clause-told : goal.returns-then-is_empty-clause-told
returns-then-is_empty-clause-told c = λ es asks are have.
    c.loop-x.invariant.told es asks are have
    ∙ rest_none c.args.last.now c.args.next.now c.loop-x.x-index c.loop-x.left c.loop-x.invariant.rest (c.is_empty.ensures.0 c.if-is_empty.true) es (table_of c.args.runs.now)

pub loop-x-init : goal.loop-x-init
loop-x-init c = record {
  capacity = c.clear.ensures.capacity;
  few = let none = ap (λ (l : List WaitEnd). length l) c.clear.ensures.items in omega arith;
  room = c.requires.scratch;
  told = λ es asks are have. c.clear.ensures.items;
  rest = λ y later off.
      unlooked_at c.seats_looked_at-left.result c.args.waiting c.args.asking c.args.seat c.args.grants.now c.args.last.now c.args.next.now c.requires.low c.requires.waiting c.requires.asking c.requires.quiet c.seats_looked_at-left.ensures y
      (within 0 c.args.last.now y later) off;
}

pub returns-clause-told : goal.returns-clause-told
returns-clause-told c = λ es asks are have.
    let m = c.args.last.now in
    let f = λ (y : Claimed). told_if (length_in es) m c.args.next.now (table_of c.args.runs.now) y (wait_of es m y) in
    c.loop-x.invariant.told es asks are have ∙ ap (filter_map f) (take_all c.loop-x.x-index m (omega arith))
