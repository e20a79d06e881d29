use Rattle.std.proofs.Common.{◌≡◌, ◌≢◌, ◌<◌, true, ◌+◌, ◌++◌, ◌∷◌, [], ℕ, List, get_or, length, take, drop, refl, sym, ap, subst, arith, ◌∙◌}
use Rattle.std.proofs.lemmas.List.{take_more, take-append-drop}
use Rattle.rmodel.specs.declared.claimed.Claimed.{Claimed}
use Rattle.rmodel.specs.WellFormed.{EachPair}
use Rattle.rmodel.proofs.ListFacts.{all_from}
use Rattle.rcover_laws.specs.Moments.{Moment}
use Rattle.rcover_laws.specs.Sections.{Sections}
use Rattle.rcover.specs.Follow.{table_of, kept_with}
use Rattle.rcover.specs.Kept.{length_by, WaitApart, may_wait}
use Rattle.rcover.proofs.Pairs.{drop_more, all_get}
use Rattle.rcover.proofs.Tables.{Done, Rest, kept_step, other}
use Rattle.rcover.proofs.follow.keep_looked.Goals as goal

pub loop-x-init : goal.loop-x-init
loop-x-init c = record {
  taken = c.none_taken-taken.ensures c.args.lengths.now c.args.last.now;
  done = tt;
  rest = all_from (λ x. may_wait c.args.next.now x ≡ true → table_of c.args.runs.now x.claim.seat ≡ table_of c.args.runs.now x.claim.seat) c.args.next.now (λ x there _. refl);
  others = λ seat none. refl;
  room = c.requires.room;
  len = refl;
  lengths = λ len are_m are_n have. have;
}

-- one more claim is gone over
step : (m n : Moment) (old now now' : ℕ → Sections) (i : ℕ) (x : Claimed) → i < length n → x ≡ get_or n i x → EachPair (WaitApart n) n
    → ((seat : ℕ) → now' seat ≡ kept_with m n now x seat) → Done m n old now (take i n) → Rest n old now (drop i n)
    → Done m n old now' (take (i + 1) n) × Rest n old now' (drop (i + 1) n)
step m n old now now' i x small is apart kept done rest =
    let behind : drop i n ≡ x ∷ drop (i + 1) n = drop_more n i x small is in
    let front : take (i + 1) n ≡ take i n ++ x ∷ [] = take_more n i x small ∙ ap (λ y. take i n ++ y ∷ []) (sym is) in
    let pairs : EachPair (WaitApart n) (take i n ++ x ∷ drop (i + 1) n) = subst (λ (xs : List Claimed). EachPair (WaitApart n) xs) (sym (take-append-drop i n) ∙ ap (λ ys. take i n ++ ys) behind) apart in
    let made = kept_step m n old now now' x kept (take i n) (drop (i + 1) n) pairs done (subst (λ (ys : List Claimed). Rest n old now ys) behind rest) in
    (subst (λ (ys : List Claimed). Done m n old now' ys) (sym front) made.0, made.1)

pub loop-x-preserved : goal.loop-x-preserved
loop-x-preserved c =
    let m = c.args.last.now in
    let n = c.args.next.now in
    let i = c.loop-x.x-index in
    let x = c.x-item.result in
    let made = step m n (table_of c.args.runs.now) (table_of c.loop-x.runs) (table_of c.keep_at.new.runs) i x (omega arith) c.x-item.is c.requires.apart c.keep_at.ensures.kept c.loop-x.invariant.done c.loop-x.invariant.rest in
    record {
      taken = c.keep_at.ensures.taken;
      done = made.0;
      rest = made.1;
      others = λ seat none.
          other m n (table_of c.args.runs.now) (table_of c.loop-x.runs) (table_of c.keep_at.new.runs) x c.keep_at.ensures.kept seat
          (subst (λ (y : Claimed). may_wait n y ≡ true → seat ≢ y.claim.seat) (sym c.x-item.is) (all_get (λ y. may_wait n y ≡ true → seat ≢ y.claim.seat) n i x none (omega arith)))
          ∙ c.loop-x.invariant.others seat none;
      room = c.keep_at.ensures.room;
      len = c.keep_at.ensures.len ∙ c.loop-x.invariant.len;
      lengths = λ len are_m are_n have.
          c.keep_at.ensures.lengths len are_m
          (subst (λ (y : Claimed). length_by c.args.lengths.now y.claim ≡ len y.claim) (sym c.x-item.is) (all_get (λ y. length_by c.args.lengths.now y.claim ≡ len y.claim) n i x are_n (omega arith)))
          (c.loop-x.invariant.lengths len are_m are_n have);
    }
