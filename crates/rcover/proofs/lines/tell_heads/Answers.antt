use Rattle.std.proofs.Common.{◌≡◌, ◌<◌, true, length, ◌+◌, ◌++◌, ◌∷◌, [], List, refl, take, drop, sym, ap, subst, arith, ◌∙◌}
use Rattle.std.proofs.lemmas.List.{take_all, take_more, take-append-drop}
use Rattle.rmodel.specs.declared.claimed.Claimed.{Claimed}
use Rattle.rmodel.specs.WellFormed.{EachPair, Rises, Distinct}
use Rattle.rset.specs.declared.TheConstants.{SEATS}
use Rattle.rmodel.proofs.ListFacts.{all_append}
use Rattle.rcover_laws.specs.Line.{least_of}
use Rattle.rcover.specs.Lines.{HoldBehind, IsBehind, TellAt}
use Rattle.rcover.proofs.Pairs.{all_get, drop_more}
use Rattle.rcover.proofs.heads_told.Heads.{behind_more, behind_widen, told_push, told_widen}
use Rattle.rcover.proofs.heads_told.Leasts.{least_all}
use Rattle.rcover.proofs.heads_told.Stayed.{none_at}
use Rattle.rcover.proofs.lines.tell_heads.Goals as goal

pub loop-i-init : goal.loop-i-init
loop-i-init c =
    let m = c.args.moment.now in
    let i = c.args.from in
    record {
      len = refl;
      behind_len = refl;
      others = λ seat none. refl;
      behind = subst (λ (n : List Claimed). HoldBehind c.args.behind.now n (take i m)) (take-append-drop i m)
          (behind_widen c.args.behind.now (take i m) (drop i m) (subst (EachPair Rises) (sym (take-append-drop i m)) c.requires.rising) c.requires.told.behind);
      told = subst (λ (n : List Claimed). TellAt c.args.heads.now n (take i m)) (take-append-drop i m)
          (told_widen c.args.heads.now (take i m) (drop i m) (subst (EachPair Rises) (sym (take-append-drop i m)) c.requires.rising) c.requires.told.heads);
    }

pub loop-i-preserved : goal.loop-i-preserved
loop-i-preserved c =
    let m = c.args.moment.now in
    let i = c.loop-i.i in
    let x = c.index-moment-i.result in
    let front : take (i + 1) m ≡ take i m ++ x ∷ [] = take_more m i x (omega arith) ∙ ap (λ y. take i m ++ y ∷ []) (sym c.index-moment-i.is) in
    let low : (y : Claimed) → y.claim.seat < SEATS → (least_of y.claim m).seat < length c.loop-i.behind
    = λ y h. (let l = least_all (λ d. d.seat < SEATS) y.claim h m c.requires.low in let k = c.requires.behind in let e = c.loop-i.invariant.behind_len in omega arith) in
    let whole : take i m ++ x ∷ drop (i + 1) m ≡ m = ap (λ ys. take i m ++ ys) (sym (drop_more m i x (omega arith) c.index-moment-i.is)) ∙ take-append-drop i m in
    record {
      len = c.tell_head.ensures.len ∙ c.loop-i.invariant.len;
      behind_len = c.tell_head.ensures.behind_len ∙ c.loop-i.invariant.behind_len;
      others = λ seat none. c.tell_head.ensures.others seat (none_at seat m i x (omega arith) c.index-moment-i.is none) ∙ c.loop-i.invariant.others seat none;
      behind = subst (λ (z : List Claimed). HoldBehind c.tell_head.new.behind m z) (sym front)
          (all_append (λ z. z.claim.write_half ≡ true → IsBehind c.tell_head.new.behind m z) (take i m) (x ∷ []) (behind_more c.loop-i.behind c.tell_head.new.behind c.tell_head.ensures.more m (take i m) c.loop-i.invariant.behind) (
            (λ write.
                subst (λ (n : List Claimed). IsBehind c.tell_head.new.behind n x) whole
                (c.tell_head.ensures.behind (drop (i + 1) m) (subst (EachPair Rises) (sym whole) c.requires.rising) (subst (EachPair Distinct) (sym whole) c.requires.one_each)
                (subst (λ (n : List Claimed). TellAt c.loop-i.heads n (take i m)) (sym whole) c.loop-i.invariant.told)
                (subst (λ (n : List Claimed). (least_of x.claim n).seat < length c.loop-i.behind) (sym whole) (low x (subst (λ (z : Claimed). z.claim.seat < SEATS) (sym c.index-moment-i.is) (all_get (λ z. z.claim.seat < SEATS) m i x c.requires.low (omega arith))))) write)),
            tt,
          ));
      told = subst (λ (z : List Claimed × List Claimed). TellAt c.tell_head.new.heads z.0 z.1) (λ j. (whole j, sym front j))
          (told_push c.loop-i.heads c.tell_head.new.heads (take i m) (drop (i + 1) m) x (subst (EachPair Distinct) (sym whole) c.requires.one_each)
          (c.tell_head.ensures.heads (drop (i + 1) m) (subst (EachPair Rises) (sym whole) c.requires.rising) (subst (EachPair Distinct) (sym whole) c.requires.one_each)
          (subst (λ (n : List Claimed). TellAt c.loop-i.heads n (take i m)) (sym whole) c.loop-i.invariant.told))
          (subst (λ (n : List Claimed). TellAt c.loop-i.heads n (take i m)) (sym whole) c.loop-i.invariant.told));
    }

pub returns-clause-told : goal.returns-clause-told
returns-clause-told c =
    let m = c.args.moment.now in
    record {
      heads = subst (λ (zs : List Claimed). TellAt c.loop-i.heads m zs) (take_all c.loop-i.i m (omega arith)) c.loop-i.invariant.told;
      behind = subst (λ (zs : List Claimed). HoldBehind c.loop-i.behind m zs) (take_all c.loop-i.i m (omega arith)) c.loop-i.invariant.behind;
    }
