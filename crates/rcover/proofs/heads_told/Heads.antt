-- The heads of writes, by the heads before them.
use Rattle.std.proofs.Common.{◌≡◌, ◌≢◌, ℕ, zero, suc, ◌<◌, ◌≤◌, ◌==◌, Bool, true, false, ◌&&◌, ◌⊎◌, cond, Some, List, [], ◌∷◌, ◌++◌, append_assoc, get_or, length, refl, sym, ap, subst, ◌∙◌, arith, inl, inr}
use Rattle.std.proofs.Math.ListN.{set}
use Rattle.std.proofs.lemmas.Bool.{and_parts, and_from, eq-eqb, eqb-true}
use Rattle.std.specs.List.{list_any, AllByRecursion}
use Rattle.std.specs.Prelude.{slice_get}
use Rattle.rclaim.specs.declared.claim.Claim.{Claim}
use Rattle.rmodel.specs.declared.claimed.Claimed.{Claimed}
use Rattle.rmodel.specs.Claims.{is_satisfied, share_place}
use Rattle.rmodel.specs.Rules.{is_earlier_write}
use Rattle.rmodel.specs.WellFormed.{Among, EachPair, Rises, Distinct}
use Rattle.rmodel.proofs.ListFacts.{contrary, false_from, all_at, all_from, all_append, any_among, none_from, pair_among, among_behind}
use Rattle.rmodel.proofs.reaching.Came.{in_append}
use Rattle.rmodel.proofs.reaching.Soundness.{read_of_half}
use Rattle.rmodel.proofs.settling.OneSettlement.{both_cases}
use Rattle.rcover_laws.specs.Line.{line, first_or, least_of}
use Rattle.rcover_laws.specs.Moments.{Moment, is_claim, holds_at}
use Rattle.rcover_laws.proofs.runs.Moments.{are_one, is_itself}
use Rattle.rcover_laws.proofs.states.Lines.{earlier_of, in_line, least_is}
use Rattle.rcover.specs.declared.lines.Head.{Head}
use Rattle.rcover.specs.declared.lines.Found.{Found}
use Rattle.rcover.specs.Found.{IsFound}
use Rattle.rcover.specs.Lines.{own_head, head_of, heads_with, set_at, IsBehind, HoldBehind, HoldBehindBut, HoldMore, TellAt}
use Rattle.rset.specs.Sets.{Set}
use Rattle.std.specs.FinSet.{contains, empty}
use Rattle.std.specs.Option.{unwrap_or}
use Rattle.std.proofs.lemmas.Option.{slice_get_read}
use Rattle.rcover.proofs.Pairs.{pairs_before, pairs_after, pairs_front}
use Rattle.rcover.proofs.heads_told.Leasts.{least_own}
use Rattle.rcover.proofs.heads_told.Reached.{seat_found}

-- ---- a write is satisfied if its claim is

pub holds_own : (m : Moment) → EachPair Rises m → (x : Claimed) → Among x m → x.claim.write_half ≡ true → holds_at x.claim m ≡ is_satisfied x
holds_own m rising x there write =
    both_cases (is_satisfied x)
    (λ on. any_among (λ y. is_satisfied y && is_claim x.claim y.claim) m x there (and_from (is_satisfied x) (is_claim x.claim x.claim) on (is_itself x.claim)) ∙ sym on)
    (λ off.
    none_from (λ y. is_satisfied y && is_claim x.claim y.claim) m
    (λ y in_m. false_from (is_satisfied y && is_claim x.claim y.claim) (λ h.
    let parts = and_parts (is_satisfied y) (is_claim x.claim y.claim) h in
    let one = are_one x.claim y.claim parts.1 in
    let stamp = one.stamp in
    elim (pair_among Rises m x y rising there in_m) [
      | inl same ↦ contrary (is_satisfied y) parts.0 (ap is_satisfied (sym same) ∙ off)
      | inr (inl r) ↦ (let below = r.after_write write in absurd (omega arith))
      | inr (inr r) ↦ (let below = r.after_write (sym one.half ∙ write) in absurd (omega arith))
    ]))
    ∙ sym off)

pub other_seat : (z x : Claimed) → Distinct z x → z.claim.write_half ≡ true → z.claim.seat ≢ x.claim.seat
other_seat z x distinct write same = contrary z.claim.write_half write (read_of_half z.claim (distinct same).reads)

-- ---- the pass over the claims before a write

module _ (xs ys : Moment) (x : Claimed) (rising : EachPair Rises (xs ++ x ∷ ys)) (write : x.claim.write_half ≡ true) where
  abbrev m : Moment
  m = xs ++ x ∷ ys

  abbrev c : Claim
  c = x.claim

  in_m : Among x m
  in_m = among_behind xs (x ∷ ys) x (inl refl)

  not_later : (zs : Moment) → AllByRecursion (λ z. c.stamp ≤ z.claim.stamp) zs → line c zs ≡ []
  not_later [] all = refl
  not_later (z ∷ zs) all =
      ap (λ b. cond (b && list_any (share_place z.claim) (c ∷ line c zs)) (z.claim ∷ line c zs) (line c zs))
      (false_from (is_earlier_write c z.claim) (λ on. let below = (earlier_of c z.claim on).below in let h = all.0 in absurd (omega arith)))
      ∙ not_later zs all.1

  line_front : (zs : Moment) → line c (zs ++ x ∷ ys) ≡ line c zs
  line_front [] = not_later (x ∷ ys) (omega arith, all_from (λ z. c.stamp ≤ z.claim.stamp) ys (λ z there. (all_at (Rises x) ys z (pairs_after Rises xs x ys rising) there).not_above))
  line_front (z ∷ zs) = ap (λ l. cond (is_earlier_write c z.claim && list_any (share_place z.claim) (c ∷ l)) (z.claim ∷ l) l) (line_front zs)

  least_front : least_of c m ≡ least_of c xs
  least_front = ap (first_or c) (line_front xs)

  -- the least of the line is the claim itself, or that of a write before it
  least_where : (least_of c m ≡ c) ⊎ ((y : Claimed) × Among y xs × (y.claim ≡ least_of c m) × (y.claim.write_half ≡ true))
  least_where = elim (least_is c xs) [
    | inl itself ↦ inl (least_front ∙ itself)
    | inr there ↦ (
        let h = in_line c xs (least_of c xs) there in
        inr (h.at, h.among, h.is ∙ sym least_front, ap (λ (d : Claim). d.write_half) h.is ∙ (earlier_of c (least_of c xs) h.earlier).write))
  ]

  module _ (distinct : EachPair Distinct (xs ++ x ∷ ys)) (f : Found) (is_found : IsFound m c xs f) where
    seat : f.seat ≡ (least_of c m).seat
    seat = seat_found xs ys x rising write f is_found

    apart : (y : Claimed) → Among y xs → y.claim.write_half ≡ true → y.claim.seat ≢ x.claim.seat
    apart y there w = other_seat y x (all_at (λ z. Distinct z x) xs y (pairs_before Distinct xs x ys distinct) there) w

    -- what is found before a write is its own seat: then the write is its own head
    pub own_found_is : f.seat ≡ x.claim.seat → own_head x ≡ head_of m c
    own_found_is own =
        let itself : least_of c m ≡ c
        = elim least_where [
          | inl is ↦ is
          | inr y ↦ absurd (apart y.0 y.1 y.3 (ap (λ (d : Claim). d.seat) y.2 ∙ sym seat ∙ own))
        ] in
        (λ i. let h : Head = record { claim = sym itself i; holds = (sym (holds_own m rising x in_m write) ∙ ap (λ d. holds_at d m) (sym itself)) i } in h)

    -- or another seat: then its head is that of the write of that seat
    pub other_found_is : (hs : List Head) → TellAt hs m xs → f.seat ≢ x.claim.seat → slice_get hs f.seat ≡ Some (head_of m c)
    other_found_is hs tells other =
        elim least_where [
          | inl itself ↦ absurd (other (seat ∙ ap (λ (d : Claim). d.seat) itself))
          | inr y ↦ (
              let told = all_at (λ z. z.claim.write_half ≡ true → slice_get hs z.claim.seat ≡ Some (head_of m z.claim)) xs y.0 tells y.1 y.3 in
              ap (slice_get hs) (seat ∙ ap (λ (d : Claim). d.seat) (sym y.2)) ∙ told
              ∙ ap (λ d. Some (head_of m d)) y.2
              ∙ (λ i. let g : Head = record { claim = least_own m rising c i; holds = holds_at (least_own m rising c i) m } in Some g))
        ]

-- ---- heads for each seat

pub get_set : {X : Type 0} (hs : List X) (i : ℕ) (v : X) (seat : ℕ) → i < length hs → slice_get (set hs i v) seat ≡ cond (seat == i) (Some v) (slice_get hs seat)
get_set [] i v seat h = absurd (omega arith)
get_set (k ∷ hs) zero v zero h = sym (ap (λ b. cond b (Some v) (slice_get (k ∷ hs) 0)) (eq-eqb 0 0 refl))
get_set (k ∷ hs) zero v (suc seat) h = sym (ap (λ b. cond b (Some v) (slice_get hs seat)) (false_from (suc seat == 0) (λ e. let same = eqb-true (suc seat) 0 e in absurd (omega arith))))
get_set (k ∷ hs) (suc i) v zero h = sym (ap (λ b. cond b (Some v) (Some k)) (false_from (0 == suc i) (λ e. let same = eqb-true 0 (suc i) e in absurd (omega arith))))
get_set (k ∷ hs) (suc i) v (suc seat) h =
    get_set hs i v seat (omega arith)
    ∙ ap (λ b. cond b (Some v) (slice_get hs seat))
    (both_cases (seat == i)
    (λ on. on ∙ sym (eq-eqb (suc seat) (suc i) (ap suc (eqb-true seat i on))))
    (λ off. off ∙ sym (false_from (suc seat == suc i) (λ e. let same = eqb-true (suc seat) (suc i) e in contrary (seat == i) (eq-eqb seat i (omega arith)) off))))

-- the head of one more claim is known
pub told_push : (hs hs' : List Head) (xs ys : Moment) (x : Claimed) → EachPair Distinct (xs ++ x ∷ ys)
    → ((seat : ℕ) → slice_get hs' seat ≡ heads_with hs (head_of (xs ++ x ∷ ys) x.claim) x seat) → TellAt hs (xs ++ x ∷ ys) xs → TellAt hs' (xs ++ x ∷ ys) (xs ++ x ∷ [])
told_push hs hs' xs ys x distinct are told =
    all_append (λ z. z.claim.write_half ≡ true → slice_get hs' z.claim.seat ≡ Some (head_of (xs ++ x ∷ ys) z.claim)) xs (x ∷ []) (stay xs (pairs_before Distinct xs x ys distinct) told) (here, tt)
  where
    h : Head
    h = head_of (xs ++ x ∷ ys) x.claim

    here : x.claim.write_half ≡ true → slice_get hs' x.claim.seat ≡ Some (head_of (xs ++ x ∷ ys) x.claim)
    here write =
        are x.claim.seat
        ∙ (λ i. cond (write i) (cond (eq-eqb x.claim.seat x.claim.seat refl i) (Some h) (slice_get hs x.claim.seat)) (slice_get hs x.claim.seat))

    same : (z : Claimed) → Distinct z x → z.claim.write_half ≡ true → slice_get hs' z.claim.seat ≡ slice_get hs z.claim.seat
    same z apart write =
        are z.claim.seat
        ∙ ap (λ b. cond x.claim.write_half (cond b (Some h) (slice_get hs z.claim.seat)) (slice_get hs z.claim.seat))
        (false_from (z.claim.seat == x.claim.seat) (λ e. absurd (other_seat z x apart write (eqb-true z.claim.seat x.claim.seat e))))
        ∙ at x.claim.write_half
      where
        at : (b : Bool) → cond b (slice_get hs z.claim.seat) (slice_get hs z.claim.seat) ≡ slice_get hs z.claim.seat
        at true = refl
        at false = refl

    stay : (zs : Moment) → AllByRecursion (λ z. Distinct z x) zs → TellAt hs (xs ++ x ∷ ys) zs → TellAt hs' (xs ++ x ∷ ys) zs
    stay [] apart told = tt
    stay (z ∷ zs) apart told = ((λ write. same z apart.0 write ∙ told.0 write), stay zs apart.1 told.1)

-- the head of a write goes by the claims in front of it and by itself
same_front : (xs ys zs : Moment) (x : Claimed) → EachPair Rises (xs ++ x ∷ ys) → EachPair Rises (xs ++ x ∷ zs) → x.claim.write_half ≡ true → head_of (xs ++ x ∷ ys) x.claim ≡ head_of (xs ++ x ∷ zs) x.claim
same_front xs ys zs x rises rises' write =
    elim (least_where xs ys x rises write) [
      | inl itself ↦ (
          let own : (vs : Moment) → EachPair Rises (xs ++ x ∷ vs) → least_of x.claim (xs ++ x ∷ vs) ≡ x.claim → holds_at (least_of x.claim (xs ++ x ∷ vs)) (xs ++ x ∷ vs) ≡ is_satisfied x
          = λ vs r is. ap (λ d. holds_at d (xs ++ x ∷ vs)) is ∙ holds_own (xs ++ x ∷ vs) r x (among_behind xs (x ∷ vs) x (inl refl)) write in
          (λ i. let h : Head = record { claim = leasts i; holds = (own ys rises itself ∙ sym (own zs rises' (sym leasts ∙ itself))) i } in h))
      | inr y ↦ (
          let of_y : (vs : Moment) → EachPair Rises (xs ++ x ∷ vs) → y.0.claim ≡ least_of x.claim (xs ++ x ∷ vs) → holds_at (least_of x.claim (xs ++ x ∷ vs)) (xs ++ x ∷ vs) ≡ is_satisfied y.0
          = λ vs r is. ap (λ d. holds_at d (xs ++ x ∷ vs)) (sym is) ∙ holds_own (xs ++ x ∷ vs) r y.0 (in_append xs (x ∷ vs) y.0 y.1) y.3 in
          (λ i. let h : Head = record { claim = leasts i; holds = (of_y ys rises y.2 ∙ sym (of_y zs rises' (y.2 ∙ leasts))) i } in h))
    ]
  where
    leasts : least_of x.claim (xs ++ x ∷ ys) ≡ least_of x.claim (xs ++ x ∷ zs)
    leasts = least_front xs ys x rises write ∙ sym (least_front xs zs x rises' write)

-- heads of claims in front are known at a longer moment too
pub told_widen : (hs : List Head) (xs ys : Moment) → EachPair Rises (xs ++ ys) → TellAt hs xs xs → TellAt hs (xs ++ ys) xs
told_widen hs xs ys rising told = go [] xs refl told
  where
    same : (us vs : Moment) (x : Claimed) → us ++ x ∷ vs ≡ xs → x.claim.write_half ≡ true → head_of xs x.claim ≡ head_of (xs ++ ys) x.claim
    same us vs x is write =
        let longer : us ++ x ∷ (vs ++ ys) ≡ xs ++ ys = sym (append_assoc us (x ∷ vs) ys) ∙ ap (λ zs. zs ++ ys) is in
        ap (λ (zs : Moment). head_of zs x.claim) (sym is)
        ∙ same_front us vs (vs ++ ys) x (subst (EachPair Rises) (sym is) (pairs_front Rises xs ys rising)) (subst (EachPair Rises) (sym longer) rising) write
        ∙ ap (λ (zs : Moment). head_of zs x.claim) longer

    go : (us vs : Moment) → us ++ vs ≡ xs → TellAt hs xs vs → TellAt hs (xs ++ ys) vs
    go us [] is told = tt
    go us (x ∷ vs) is told = ((λ write. told.0 write ∙ ap Some (same us vs x is write)), go (us ++ x ∷ []) vs (append_assoc us (x ∷ []) vs ∙ is) told.1)

-- ---- the sets of the seats of least claims

pub behind_more : (ss ss' : List Set) → HoldMore ss ss' → (m : Moment) (zs : List Claimed) → HoldBehind ss m zs → HoldBehind ss' m zs
behind_more ss ss' wider m [] hold = tt
behind_more ss ss' wider m (z ∷ zs) hold = ((λ write. wider (least_of z.claim m).seat z.claim.seat (hold.0 write)), behind_more ss ss' wider m zs hold.1)

pub but_more : (lost : ℕ) (ss ss' : List Set) → HoldMore ss ss' → (m : Moment) (zs : List Claimed) → HoldBehindBut lost ss m zs → HoldBehindBut lost ss' m zs
but_more lost ss ss' wider m [] hold = tt
but_more lost ss ss' wider m (z ∷ zs) hold = ((λ write other. wider (least_of z.claim m).seat z.claim.seat (hold.0 write other)), but_more lost ss ss' wider m zs hold.1)

-- if the least claim is the same
pub behind_same : (ss : List Set) (m n : Moment) (x : Claimed) → least_of x.claim n ≡ least_of x.claim m → IsBehind ss m x → IsBehind ss n x
behind_same ss m n x same is = ap (λ (d : Claim). contains (set_at ss d.seat) x.claim.seat) same ∙ is

-- claims that stand in front are in the sets at a longer moment too
pub behind_widen : (ss : List Set) (xs ys : Moment) → EachPair Rises (xs ++ ys) → HoldBehind ss xs xs → HoldBehind ss (xs ++ ys) xs
behind_widen ss xs ys rising hold = go [] xs refl hold
  where
    same : (us vs : Moment) (x : Claimed) → us ++ x ∷ vs ≡ xs → x.claim.write_half ≡ true → least_of x.claim (xs ++ ys) ≡ least_of x.claim xs
    same us vs x is write =
        let longer : us ++ x ∷ (vs ++ ys) ≡ xs ++ ys = sym (append_assoc us (x ∷ vs) ys) ∙ ap (λ zs. zs ++ ys) is in
        ap (λ (zs : Moment). least_of x.claim zs) (sym longer)
        ∙ least_front us (vs ++ ys) x (subst (EachPair Rises) (sym longer) rising) write
        ∙ sym (least_front us vs x (subst (EachPair Rises) (sym is) (pairs_front Rises xs ys rising)) write)
        ∙ ap (λ (zs : Moment). least_of x.claim zs) is

    go : (us vs : Moment) → us ++ vs ≡ xs → HoldBehind ss xs vs → HoldBehind ss (xs ++ ys) vs
    go us [] is hold = tt
    go us (x ∷ vs) is hold = ((λ write. behind_same ss xs (xs ++ ys) x (same us vs x is write) (hold.0 write)), go (us ++ x ∷ []) vs (append_assoc us (x ∷ []) vs ∙ is) hold.1)

-- another set at a place, and else those that there were
pub set_at_set : (ss : List Set) (i : ℕ) (v : Set) (seat : ℕ) → i < length ss → set_at (set ss i v) seat ≡ cond (seat == i) v (set_at ss seat)
set_at_set ss i v seat h = ap (λ o. unwrap_or o empty) (get_set ss i v seat h) ∙ at (seat == i)
  where
    at : (b : Bool) → unwrap_or (cond b (Some v) (slice_get ss seat)) empty ≡ cond b v (set_at ss seat)
    at true = refl
    at false = refl

-- the set that is read at a place
pub set_at_read : (ss : List Set) (i : ℕ) (v : Set) → i < length ss → v ≡ get_or ss i v → set_at ss i ≡ v
set_at_read ss i v h is = ap (λ o. unwrap_or o empty) (slice_get_read ss (length ss) i v refl h is)
