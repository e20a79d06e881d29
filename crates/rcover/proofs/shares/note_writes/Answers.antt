use Rattle.std.proofs.Common.{◌≡◌, ◌==◌, ◌+◌, ◌++◌, ◌∷◌, [], true, false, ◌||◌, cond, Bool, Some, ℕ, List, take, drop, slice_get, refl, sym, ap, subst, arith, ◌∙◌}
use Rattle.std.proofs.lemmas.Bool.{eq-eqb, eqb-true}
use Rattle.std.proofs.lemmas.List.{take_all, take_more, take-append-drop}
use Rattle.std.specs.List.{AllByRecursion}
use Rattle.rmodel.specs.declared.claimed.Claimed.{Claimed}
use Rattle.rmodel.specs.WellFormed.{EachPair, Distinct}
use Rattle.rmodel.proofs.ListFacts.{all_append, false_from}
use Rattle.rcover.specs.declared.shares.Share.{Share}
use Rattle.rcover.specs.Shares.{share_of, shares_with, is_write_of, TellShares, TellWrites}
use Rattle.rcover.proofs.SeatFacts.{any_push}
use Rattle.rcover.proofs.Pairs.{drop_more, pairs_before}
use Rattle.rcover.proofs.heads_told.Heads.{other_seat}
use Rattle.rcover.proofs.shares.note_writes.Goals as goal

-- one more claim is noted
push : (ss ss' : List Share) (xs : List Claimed) (x : Claimed) → AllByRecursion (λ z. Distinct z x) xs → ((seat : ℕ) → slice_get ss' seat ≡ shares_with ss x seat) → TellShares ss xs → TellShares ss' (xs ++ x ∷ [])
push ss ss' xs x apart are told = all_append (λ z. z.claim.write_half ≡ true → slice_get ss' z.claim.seat ≡ Some (share_of z.claim)) xs (x ∷ []) (stay xs apart told) (here, tt)
  where
    here : x.claim.write_half ≡ true → slice_get ss' x.claim.seat ≡ Some (share_of x.claim)
    here write =
        are x.claim.seat
        ∙ (λ i. cond (write i) (cond (eq-eqb x.claim.seat x.claim.seat refl i) (Some (share_of x.claim)) (slice_get ss x.claim.seat)) (slice_get ss x.claim.seat))

    same : (z : Claimed) → Distinct z x → z.claim.write_half ≡ true → slice_get ss' z.claim.seat ≡ slice_get ss z.claim.seat
    same z apart write =
        are z.claim.seat
        ∙ ap (λ b. cond x.claim.write_half (cond b (Some (share_of x.claim)) (slice_get ss z.claim.seat)) (slice_get ss z.claim.seat))
        (false_from (z.claim.seat == x.claim.seat) (λ e. absurd (other_seat z x apart write (eqb-true z.claim.seat x.claim.seat e))))
        ∙ at x.claim.write_half
      where
        at : (b : Bool) → cond b (slice_get ss z.claim.seat) (slice_get ss z.claim.seat) ≡ slice_get ss z.claim.seat
        at true = refl
        at false = refl

    stay : (zs : List Claimed) → AllByRecursion (λ z. Distinct z x) zs → TellShares ss zs → TellShares ss' zs
    stay [] apart told = tt
    stay (z ∷ zs) apart told = ((λ write. same z apart.0 write ∙ told.0 write), stay zs apart.1 told.1)

pub loop-i-init : goal.loop-i-init
loop-i-init c = record { len = refl; told = c.requires.told }

pub loop-i-preserved : goal.loop-i-preserved
loop-i-preserved c =
    let m = c.args.moment.now in
    let i = c.loop-i.i in
    let x = c.index-moment-i.result in
    let front : take (i + 1) m ≡ take i m ++ x ∷ [] = take_more m i x (omega arith) ∙ ap (λ y. take i m ++ y ∷ []) (sym c.index-moment-i.is) in
    let whole : take i m ++ x ∷ drop (i + 1) m ≡ m = ap (λ ys. take i m ++ ys) (sym (drop_more m i x (omega arith) c.index-moment-i.is)) ∙ take-append-drop i m in
    record {
      len = c.note_share.ensures.len ∙ c.loop-i.invariant.len;
      told = subst (TellWrites c.with_writer.result c.note_share.new.shares) (sym front)
          (record {
            seats = λ seat. c.with_writer.ensures seat ∙ ap (λ b. b || is_write_of seat x) (c.loop-i.invariant.told.seats seat) ∙ sym (any_push (is_write_of seat) (take i m) x);
            shares = push c.loop-i.shares c.note_share.new.shares (take i m) x (pairs_before Distinct (take i m) x (drop (i + 1) m) (subst (EachPair Distinct) (sym whole) c.requires.one_each)) c.note_share.ensures.shares c.loop-i.invariant.told.shares;
          });
    }

pub returns-clause-told : goal.returns-clause-told
returns-clause-told c = subst (TellWrites c.loop-i.writers c.loop-i.shares) (take_all c.loop-i.i c.args.moment.now (omega arith)) c.loop-i.invariant.told
