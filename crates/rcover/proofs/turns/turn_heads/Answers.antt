use Rattle.std.proofs.Common.{◌≡◌, ◌==◌, ◌&&◌, ◌<◌, ◌≤◌, ℕ, Some, cond, slice_get, false, length, ◌+◌, ◌++◌, ◌∷◌, [], List, refl, take, drop, sym, ap, subst, arith, ◌∙◌}
use Rattle.std.proofs.lemmas.List.{get_or_default, take_all, take_more, take-append-drop}
use Rattle.std.proofs.lemmas.Option.{slice_get_read}
use Rattle.std.specs.List.{AllByRecursion}
use Rattle.std.specs.FinSet.{contains}
use Rattle.rmodel.specs.declared.claimed.Claimed.{Claimed}
use Rattle.rmodel.specs.WellFormed.{EachPair, Rises, Distinct}
use Rattle.rcover_laws.specs.Moments.{Moment}
use Rattle.rset.specs.declared.TheConstants.{SEATS}
use Rattle.rset.proofs.SetsWithin.{within_reflexive}
use Rattle.rcover.specs.declared.lines.Head.{Head}
use Rattle.rcover.proofs.heads_told.Heads.{behind_same}
use Rattle.rcover_laws.specs.Line.{least_of}
use Rattle.rcover.specs.Lines.{IsBehind, HoldBehind, TellAt, GoesBy, HeadsTell, IsNext, IsNoted, IsTurned}
use Rattle.rcover.proofs.Pairs.{all_get, drop_more}
use Rattle.rcover.proofs.heads_told.Leasts.{least_all}
use Rattle.rcover.proofs.heads_told.Stayed.{none_at}
use Rattle.rcover.proofs.heads_told.Turns.{AreHeld, AreTurned, heads_same, held_push, held_same, none_placed, none_told, placed_push, tells_same, turned_push, turned_still}
use Rattle.rcover.proofs.turns.turn_heads.Goals as goal

front : (P : Claimed → Type 0) (xs ys : List Claimed) → AllByRecursion P (xs ++ ys) → AllByRecursion P xs
front P [] ys all = tt
front P (x ∷ xs) ys all = (all.0, front P xs ys all.1)

wider : (k l : ℕ) → k ≤ l → (xs : List Claimed) → AllByRecursion (λ y. y.claim.seat < k) xs → AllByRecursion (λ y. y.claim.seat < l) xs
wider k l most [] all = tt
wider k l most (x ∷ xs) all = ((let h = all.0 in omega arith), wider k l most xs all.1)

pub turn_head-requires-clause-seats : goal.turn_head-requires-clause-seats
turn_head-requires-clause-seats c =
    let n = c.args.moment.now in
    let i = c.loop-i.i in
    let most = c.requires.now in
    let same = c.loop-i.invariant.len in
    wider SEATS (length c.loop-i.now) (omega arith) (take i n)
    (front (λ y. y.claim.seat < SEATS) (take i n) (drop i n) (subst (λ (zs : List Claimed). AllByRecursion (λ y. y.claim.seat < SEATS) zs) (sym (take-append-drop i n)) c.requires.low))

pub loop-i-init : goal.loop-i-init
loop-i-init c = record {
  len = refl;
  behind_len = refl;
  places_len = refl;
  others = λ seat none. refl;
  placed = λ m tell by. none_placed c.args.places.now c.empty.result c.empty-2.result c.empty.ensures c.empty-2.ensures c.args.moment.now;
  told = λ m tell by. record {
    within = within_reflexive c.args.gone;
    heads = tt;
    tell = tt;
    noted = tt;
    rest = tell;
    untold = none_told (record { moved = c.empty.result; risen = c.empty-2.result; dirty = c.args.gone }) c.empty.ensures c.empty-2.ensures c.args.moment.now;
  };
  held = λ m tell by but. record { done = tt; rest = but };
}

pub loop-i-preserved-then-not-has : goal.loop-i-preserved-then-not-has
loop-i-preserved-then-not-has c =
    let n = c.args.moment.now in
    let i = c.loop-i.i in
    let x = c.index-moment-i.result in
    let now = c.loop-i.now in
    let moves = c.loop-i.moves in
    let lost = c.args.lost.now in
    let gone = c.args.gone in
    let off : contains c.args.touched x.claim.seat ≡ false = ap (λ (y : Claimed). contains c.args.touched y.claim.seat) c.index-moment-i.is ∙ sym c.has.ensures ∙ c.if-not-has.true in
    let behind : drop i n ≡ x ∷ drop (i + 1) n = drop_more n i x (omega arith) c.index-moment-i.is in
    let front : take (i + 1) n ≡ take i n ++ x ∷ [] = take_more n i x (omega arith) ∙ ap (λ y. take i n ++ y ∷ []) (sym c.index-moment-i.is) in
    let whole : take i n ++ x ∷ drop (i + 1) n ≡ n = ap (λ ys. take i n ++ ys) (sym behind) ∙ take-append-drop i n in
    record {
      len = c.loop-i.invariant.len;
      behind_len = c.loop-i.invariant.behind_len;
      places_len = c.loop-i.invariant.places_len;
      others = c.loop-i.invariant.others;
      placed = c.loop-i.invariant.placed;
      held = λ m tell by but.
          let are = subst (λ (ys : List Claimed). AreHeld lost.claim.seat c.loop-i.behind m n (take i n) ys) behind (c.loop-i.invariant.held m tell by but) in
          let goes : GoesBy lost gone c.args.came c.args.touched m n x = subst (GoesBy lost gone c.args.came c.args.touched m n) (sym c.index-moment-i.is) (all_get (GoesBy lost gone c.args.came c.args.touched m n) n i x by (omega arith)) in
          subst (λ (zs : List Claimed). AreHeld lost.claim.seat c.loop-i.behind m n zs (drop (i + 1) n)) (sym front)
          (held_push lost.claim.seat c.loop-i.behind c.loop-i.behind m n (take i n) (drop (i + 1) n) x (λ least seat h. h)
          (λ write was. behind_same c.loop-i.behind m n x (ap (λ (h : Head). h.claim) (goes.still write off)) (was (goes.elsewhere write off))) are);
      told = λ m tell by.
          let so = subst (λ (ys : List Claimed). AreTurned now moves lost gone m n (take i n) ys) behind (c.loop-i.invariant.told m tell by) in
          let goes : GoesBy lost gone c.args.came c.args.touched m n x = subst (GoesBy lost gone c.args.came c.args.touched m n) (sym c.index-moment-i.is) (all_get (GoesBy lost gone c.args.came c.args.touched m n) n i x by (omega arith)) in
          subst (λ (zs : List Claimed). AreTurned now moves lost gone m n zs (drop (i + 1) n)) (sym front)
          (turned_push now now moves moves lost m n x (turned_still now moves lost m n x gone c.args.came c.args.touched goes off so.rest.0 so.untold.0) gone (take i n) (drop (i + 1) n) (subst (EachPair Distinct) (sym whole) c.requires.one_each) so);
    }

pub loop-i-preserved : goal.loop-i-preserved
loop-i-preserved c =
    let n = c.args.moment.now in
    let i = c.loop-i.i in
    let x = c.index-moment-i-in-loop-i-2.result in
    let is = c.index-moment-i-in-loop-i-2.is in
    let now = c.loop-i.now in
    let moves = c.loop-i.moves in
    let now' = c.turn_head.new.now in
    let moves' = c.turn_head.new.moves in
    let lost = c.args.lost.now in
    let gone = c.args.gone in
    let touched = c.args.touched in
    let behind : drop i n ≡ x ∷ drop (i + 1) n = drop_more n i x (omega arith) is in
    let front : take (i + 1) n ≡ take i n ++ x ∷ [] = take_more n i x (omega arith) ∙ ap (λ y. take i n ++ y ∷ []) (sym is) in
    let whole : take i n ++ x ∷ drop (i + 1) n ≡ n = ap (λ ys. take i n ++ ys) (sym behind) ∙ take-append-drop i n in
    let next : (m : Moment) → AreTurned now moves lost gone m n (take i n) (x ∷ drop (i + 1) n) → IsNext now m (take i n) x (drop (i + 1) n)
    = λ m so. record {
      rising = subst (EachPair Rises) (sym whole) c.requires.rising;
      distinct = subst (EachPair Distinct) (sym whole) c.requires.one_each;
      told = subst (λ (k : Moment). TellAt now k (take i n)) (sym whole) so.heads;
      own = so.rest.0;
    } in
    let noted : (m : Moment) → AreTurned now moves lost gone m n (take i n) (x ∷ drop (i + 1) n) → AllByRecursion (IsNoted moves.dirty m (take i n ++ x ∷ drop (i + 1) n)) (take i n)
    = λ m so. subst (λ (k : Moment). AllByRecursion (IsNoted moves.dirty m k) (take i n)) (sym whole) so.noted in
    let turned : (m : Moment) → TellAt c.args.now.now m n → AllByRecursion (GoesBy lost gone c.args.came touched m n) n → IsTurned now moves lost now' moves' m n x
    = λ m tell by.
    let so = subst (λ (ys : List Claimed). AreTurned now moves lost gone m n (take i n) ys) behind (c.loop-i.invariant.told m tell by) in
    let goes : GoesBy lost gone c.args.came touched m n x = subst (GoesBy lost gone c.args.came touched m n) (sym is) (all_get (GoesBy lost gone c.args.came touched m n) n i x by (omega arith)) in
    subst (λ (k : Moment). IsTurned now moves lost now' moves' m k x) whole
    (c.turn_head.ensures.turned gone touched m (drop (i + 1) n) (next m so) (subst (λ (k : Moment). GoesBy lost gone c.args.came touched m k x) (sym whole) goes) so.untold.0 so.within (noted m so)) in
    record {
      len = c.turn_head.ensures.len ∙ c.loop-i.invariant.len;
      behind_len = c.turn_head.ensures.behind_len ∙ c.loop-i.invariant.behind_len;
      places_len = c.note_place.ensures.len ∙ c.loop-i.invariant.places_len;
      others = λ seat none. c.turn_head.ensures.others seat (none_at seat n i x (omega arith) is none) ∙ c.loop-i.invariant.others seat none;
      placed = λ m tell by.
          placed_push now now' moves moves' lost m n x (turned m tell by) c.loop-i.places c.note_place.new.places i
          (λ seat. c.note_place.ensures.places seat ∙ ap (λ (y : Claimed). cond (y.claim.write_half && (seat == y.claim.seat)) (Some i) (slice_get c.loop-i.places seat)) (c.index-moment-i-in-loop-i.is ∙ get_or_default n i c.index-moment-i-in-loop-i.result x (omega arith) ∙ sym is))
          (slice_get_read n (length n) i x refl (omega arith) is) (c.loop-i.invariant.placed m tell by);
      held = λ m tell by but.
          let so = subst (λ (ys : List Claimed). AreTurned now moves lost gone m n (take i n) ys) behind (c.loop-i.invariant.told m tell by) in
          let are = subst (λ (ys : List Claimed). AreHeld lost.claim.seat c.loop-i.behind m n (take i n) ys) behind (c.loop-i.invariant.held m tell by but) in
          let goes : GoesBy lost gone c.args.came touched m n x = subst (GoesBy lost gone c.args.came touched m n) (sym is) (all_get (GoesBy lost gone c.args.came touched m n) n i x by (omega arith)) in
          let own : x.claim.seat < SEATS = subst (λ (z : Claimed). z.claim.seat < SEATS) (sym is) (all_get (λ z. z.claim.seat < SEATS) n i x c.requires.low (omega arith)) in
          let low : (least_of x.claim n).seat < length c.loop-i.behind
          = (let l = least_all (λ d. d.seat < SEATS) x.claim own n c.requires.low in let k = c.requires.behind in let e = c.loop-i.invariant.behind_len in omega arith) in
          subst (λ (zs : List Claimed). AreHeld lost.claim.seat c.turn_head.new.behind m n zs (drop (i + 1) n)) (sym front)
          (held_push lost.claim.seat c.loop-i.behind c.turn_head.new.behind m n (take i n) (drop (i + 1) n) x c.turn_head.ensures.more
          (λ write was.
          subst (λ (k : Moment). IsBehind c.turn_head.new.behind k x) whole
          (c.turn_head.ensures.behind gone touched m (drop (i + 1) n) (next m so) (subst (λ (k : Moment). GoesBy lost gone c.args.came touched m k x) (sym whole) goes)
          (subst (λ (k : Moment). (least_of x.claim k).seat < length c.loop-i.behind) (sym whole) low) so.within (noted m so) write was)) are);
      told = λ m tell by.
          let so = subst (λ (ys : List Claimed). AreTurned now moves lost gone m n (take i n) ys) behind (c.loop-i.invariant.told m tell by) in
          subst (λ (zs : List Claimed). AreTurned now' moves' lost gone m n zs (drop (i + 1) n)) (sym front)
          (turned_push now now' moves moves' lost m n x (turned m tell by) gone (take i n) (drop (i + 1) n) (subst (EachPair Distinct) (sym whole) c.requires.one_each) so);
    }

pub returns-clause-told : goal.returns-clause-told
returns-clause-told c = λ m tell by but.
    let n = c.args.moment.now in
    record {
      heads = subst (λ (zs : List Claimed). TellAt c.loop-i.now n zs) (take_all c.loop-i.i n (omega arith)) (c.loop-i.invariant.told m tell by).heads;
      behind = subst (λ (zs : List Claimed). HoldBehind c.loop-i.behind n zs) (take_all c.loop-i.i n (omega arith)) (c.loop-i.invariant.held m tell by but).done;
    }

pub returns-clause-tell : goal.returns-clause-tell
returns-clause-tell c = λ m tell by.
    let n = c.args.moment.now in
    subst (λ (zs : List Claimed). AllByRecursion (HeadsTell c.loop-i.now c.args.lost.now c.loop-i.moves.moved c.loop-i.moves.risen m n) zs) (take_all c.loop-i.i n (omega arith)) (c.loop-i.invariant.told m tell by).tell

pub returns-then-is_empty-clause-told : goal.returns-then-is_empty-clause-told
returns-then-is_empty-clause-told c = λ m tell by but.
    let n = c.args.moment.now in
    let none = c.is_empty.ensures.0 c.if-is_empty.true in
    record {
      heads = heads_same c.args.lost.now c.args.gone c.args.came c.args.touched none m n c.args.now.now n tell by;
      behind = held_same c.args.lost.now c.args.gone c.args.came c.args.touched none m n c.args.now.now c.args.behind.now n by but;
    }

pub returns-then-is_empty-clause-placed : goal.returns-then-is_empty-clause-placed
returns-then-is_empty-clause-placed c = λ m tell by. none_placed c.args.places.now c.empty.result c.empty-2.result c.empty.ensures c.empty-2.ensures c.args.moment.now

pub returns-clause-placed : goal.returns-clause-placed
returns-clause-placed c = c.loop-i.invariant.placed

pub returns-then-is_empty-clause-tell : goal.returns-then-is_empty-clause-tell
returns-then-is_empty-clause-tell c = λ m tell by.
    tells_same c.args.lost.now c.args.gone c.args.came c.args.touched (c.is_empty.ensures.0 c.if-is_empty.true) m c.args.moment.now c.args.now.now c.empty.result c.empty-2.result c.empty.ensures c.empty-2.ensures c.args.moment.now by
