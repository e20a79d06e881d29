-- What a removal leaves: settled claims, without some of them.
use Rattle.std.proofs.Common.{◌≡◌, Bool, true, false, not, ◌&&◌, ◌||◌, cond, List, [], ◌∷◌, filter, fold, refl, sym, ap, subst, ◌∙◌, inl, inr}
use Rattle.std.proofs.lemmas.Bool.{or_left, or_right, or_cases, or_parts, and_parts, and_from}
use Rattle.std.specs.List.{list_any}
use Rattle.std.specs.FinSet.{union}
use Rattle.rset.specs.Sets.{Set, meets}
use Rattle.rset.proofs.SetLemmas.{meets_symmetric, meets_union_left, meets_within_right}
use Rattle.rclaim.specs.declared.claim.Claim.{Claim}
use Rattle.rmodel.specs.declared.claimed.Claimed.{Claimed}
use Rattle.rplain.specs.declared.left.Left.{Left}
use Rattle.rmodel.specs.Claims.{conflicts, touches, is_active, is_satisfied}
use Rattle.rmodel.specs.Laws.{keeps_out}
use Rattle.rmodel.specs.Reached.{KeptBehind}
use Rattle.rmodel.specs.Rules.{is_earlier_write, is_kept_out, is_held_up, SettlesAt, Settles}
use Rattle.rmodel.specs.Settling.{settled}
use Rattle.rplain.specs.Sweep.{none_gone, with_left, left_by, AreReadWithin, IsLeft}
use Rattle.rmodel.specs.WellFormed.{EachPair, IsClaim, AreWellFormed, AreExclusive, AreAdmittedBy}
use Rattle.rmodel.proofs.settling.Behind.{so_from}
use Rattle.rmodel.proofs.settling.Keeping.{touches_places, not_false}
use Rattle.rmodel.proofs.ListFacts.{Among, contrary, false_from, any_among, none_from, passing, among_filter, in_filter, all_at, all_from, all_of_itself, pair_among}
use Rattle.rmodel.proofs.settling.OneSettlement.{both_cases}
use Rattle.rmodel.proofs.settling.OneWrite.{one_keeps}
use Rattle.rmodel.proofs.settling.Settlement.{gathered, conflicts_with_read}

-- ---- what is gone, set by set

left_from : (goes : Claimed → Bool) (all : Left) (xs : List Claimed)
    → fold (λ all x. cond (goes x) (with_left all x) all) all xs
    ≡ record {
      written = fold (λ a x. cond (goes x && (x.claim.write_half && is_active x)) (union a x.claim.writes) a) all.written xs;
      freed = fold (λ a x. cond (goes x) (union a (union x.claim.reads x.claim.writes)) a) all.freed xs;
      read = all.read;
    }
left_from goes all [] = refl
left_from goes all (x ∷ xs) =
    ap (λ (l : Left). fold (λ all x. cond (goes x) (with_left all x) all) l xs) (at (goes x))
    ∙ left_from goes
    (record {
      written = cond (goes x && (x.claim.write_half && is_active x)) (union all.written x.claim.writes) all.written;
      freed = cond (goes x) (union all.freed (union x.claim.reads x.claim.writes)) all.freed;
      read = all.read;
    })
    xs
  where
    at : (b : Bool)
        → cond b (with_left all x) all
        ≡ record {
          written = cond (b && (x.claim.write_half && is_active x)) (union all.written x.claim.writes) all.written;
          freed = cond b (union all.freed (union x.claim.reads x.claim.writes)) all.freed;
          read = all.read;
        }
    at true = refl
    at false = refl

module _ (goes : Claimed → Bool) (ever : Set) (p : List Claimed) where
  written_meets : (s : Set) → meets (left_by goes ever p).written s ≡ list_any (λ x. (goes x && (x.claim.write_half && is_active x)) && meets x.claim.writes s) p
  unfolding left_by
  written_meets s =
      ap (λ (l : Left). meets l.written s) (left_from goes (none_gone ever) p) ∙ gathered (λ x. goes x && (x.claim.write_half && is_active x)) (λ x. x.claim.writes) s p

  read_is : (left_by goes ever p).read ≡ ever
  unfolding left_by
  read_is = ap (λ (l : Left). l.read) (left_from goes (none_gone ever) p)

  freed_meets : (s : Set) → meets (left_by goes ever p).freed s ≡ list_any (λ x. goes x && meets (union x.claim.reads x.claim.writes) s) p
  unfolding left_by
  freed_meets s = ap (λ (l : Left). meets l.freed s) (left_from goes (none_gone ever) p) ∙ gathered goes (λ x. union x.claim.reads x.claim.writes) s p

-- what conflicts with a write reads or writes one of its places
conflict_touches : (v c : Claim) → IsClaim c → c.write_half ≡ true → conflicts v c ≡ true → meets (union v.reads v.writes) c.places ≡ true
conflict_touches v c is w h =
    meets_union_left v.reads v.writes c.places
    ∙ elim (or_cases (touches c v.writes) (touches v c.writes) h) [
      | inl t ↦ or_right (meets v.reads c.places) _ (meets_symmetric v.writes c.places ∙ touches_places c v.writes is w t)
      | inr t ↦ elim (or_cases (meets v.reads c.writes) (meets v.writes c.writes) t) [
        | inl r ↦ or_left (meets v.reads c.places) _ (meets_within_right v.reads c.writes c.places (is.writes_placed w) r)
        | inr r ↦ or_right (meets v.reads c.places) _ (meets_within_right v.writes c.writes c.places (is.writes_placed w) r)
      ]
    ]

module _ (groups : List Set) (goes : Claimed → Bool) (ever : Set) (p : List Claimed) (stable : Settles p p) (exclusive : AreExclusive p) (admitted : AreAdmittedBy groups p) where
  abbrev left : Left
  left = left_by goes ever p

  abbrev stay : Claimed → Bool
  stay x = not (goes x)

  abbrev xs : List Claimed
  xs = filter stay p

  at_rest : (x : Claimed) → Among x xs → SettlesAt p p x x
  at_rest x there = all_at (λ x. SettlesAt p p x x) p x (all_of_itself (SettlesAt p p) p stable) (among_filter stay p x there).0

  -- a write that goes and a write that stays do not both keep a read out
  not_both_keep : (r v w : Claimed) → Among r p → r.claim.write_half ≡ false → Among v p → goes v ≡ true → keeps_out r.claim v ≡ true → Among w xs → keeps_out r.claim w ≡ false
  not_both_keep r v w there read in_p gone keeps_v in_xs =
      let kept = among_filter stay p w in_xs in
      elim (pair_among (λ a b. keeps_out r.claim a ≡ true → keeps_out r.claim b ≡ false) p v w (one_keeps groups p exclusive admitted r there read) in_p kept.0) [
        | inl same ↦ contrary (goes w) (ap goes (sym same) ∙ gone) (not_false (goes w) kept.1)
        | inr other ↦ elim other [
          | inl first ↦ first keeps_v
          | inr second ↦ false_from (keeps_out r.claim w) (λ keeps_w. contrary (keeps_out r.claim v) keeps_v (second keeps_w))
        ]
      ]

  -- an unsatisfied read that what is gone kept waiting is no longer kept out
  freed_read : (r : Claimed) → Among r p → IsClaim r.claim → r.claim.write_half ≡ false → meets left.written r.claim.reads ≡ true → is_kept_out xs r.claim ≡ false
  freed_read r there is read met =
      let found = passing (λ x. (goes x && (x.claim.write_half && is_active x)) && meets x.claim.writes r.claim.reads) p (sym (written_meets goes ever p r.claim.reads) ∙ met) in
      let v = found.0 in
      let parts = and_parts (goes v && (v.claim.write_half && is_active v)) (meets v.claim.writes r.claim.reads) found.2 in
      let first = and_parts (goes v) (v.claim.write_half && is_active v) parts.0 in
      let keeps : keeps_out r.claim v ≡ true =
      and_from (v.claim.write_half && is_active v) (conflicts v.claim r.claim) first.1 (conflicts_with_read v.claim r.claim (is.read_only read) ∙ parts.1) in
      none_from (keeps_out r.claim) xs (λ w in_xs. not_both_keep r v w there read found.1 first.0 keeps in_xs)

  -- any other unsatisfied read is still kept out
  kept_read : (r : Claimed) → Among r p → IsClaim r.claim → r.claim.write_half ≡ false → is_kept_out p r.claim ≡ true → meets left.written r.claim.reads ≡ false → is_kept_out xs r.claim ≡ true
  kept_read r there is read out apart =
      let found = passing (keeps_out r.claim) p out in
      let v = found.0 in
      both_cases (goes v)
      (λ gone.
      let parts = and_parts (v.claim.write_half && is_active v) (conflicts v.claim r.claim) found.2 in
      let writes : ((goes v && (v.claim.write_half && is_active v)) && meets v.claim.writes r.claim.reads) ≡ true =
      and_from (goes v && (v.claim.write_half && is_active v)) (meets v.claim.writes r.claim.reads) (and_from (goes v) (v.claim.write_half && is_active v) gone parts.0)
      (sym (conflicts_with_read v.claim r.claim (is.read_only read)) ∙ parts.1) in
      contrary (meets left.written r.claim.reads)
      (written_meets goes ever p r.claim.reads ∙ any_among (λ x. (goes x && (x.claim.write_half && is_active x)) && meets x.claim.writes r.claim.reads) p v found.1 writes) apart)
      (λ stays. any_among (keeps_out r.claim) xs v (in_filter stay p v found.1 (ap not stays)) found.2)

  released : (r : Claimed) → Among r xs → IsClaim r.claim → r.claim.write_half ≡ false → is_satisfied r ≡ false → is_kept_out xs r.claim ≡ not (meets left.written r.claim.reads)
  released r in_xs is read unsat =
      let there = (among_filter stay p r in_xs).0 in
      let none = or_parts (is_satisfied r) (not (is_kept_out p r.claim)) (sym ((at_rest r in_xs).reads read) ∙ unsat) in
      both_cases (meets left.written r.claim.reads)
      (λ met. freed_read r there is read met ∙ ap not (sym met))
      (λ apart. kept_read r there is read (so_from (is_kept_out p r.claim) none.1) apart ∙ ap not (sym apart))

  -- an entitled write that shares nothing with what is gone is still held up
  held : (c : Claimed) → Among c xs → IsClaim c.claim → c.claim.write_half ≡ true → is_active c ≡ true → is_satisfied c ≡ false → meets left.freed c.claim.places ≡ false → is_held_up xs c.claim ≡ true
  held c in_xs is write active unsat apart =
      let none = or_parts (is_satisfied c) (is_active c && not (is_held_up p c.claim)) (sym ((at_rest c in_xs).satisfaction write) ∙ unsat) in
      let up : is_held_up p c.claim ≡ true = so_from (is_held_up p c.claim) (ap (λ a. a && not (is_held_up p c.claim)) (sym active) ∙ none.1) in
      let found = passing (λ v. is_satisfied v && (not v.claim.write_half || is_earlier_write c.claim v.claim) && conflicts v.claim c.claim) p up in
      let v = found.0 in
      both_cases (goes v)
      (λ gone.
      let conflict = (and_parts (is_satisfied v && (not v.claim.write_half || is_earlier_write c.claim v.claim)) (conflicts v.claim c.claim) found.2).1 in
      contrary (meets left.freed c.claim.places)
      (freed_meets goes ever p c.claim.places
      ∙ any_among (λ x. goes x && meets (union x.claim.reads x.claim.writes) c.claim.places) p v found.1
      (and_from (goes v) _ gone (conflict_touches v.claim c.claim is write conflict))) apart)
      (λ stays.
      any_among (λ v. is_satisfied v && (not v.claim.write_half || is_earlier_write c.claim v.claim) && conflicts v.claim c.claim) xs v
      (in_filter stay p v found.1 (ap not stays)) found.2)

  pub is_left : AreWellFormed xs → AreReadWithin ever xs → EachPair KeptBehind (settled xs) → IsLeft xs left
  is_left well within behind =
      let is : (x : Claimed) → Among x xs → IsClaim x.claim = λ x there. all_at (λ x. IsClaim x.claim) xs x well.claims there in
      record {
        well_formed = well;
        within = subst (λ (s : Set). AreReadWithin s xs) (sym (read_is goes ever p)) within;
        released = all_from _ xs (λ x there. released x there (is x there));
        held = all_from _ xs (λ x there. held x there (is x there));
        kept_behind = behind;
      }
