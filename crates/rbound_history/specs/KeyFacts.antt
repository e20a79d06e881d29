-- The tests of keys say whether two keys are equal, so each test is an equivalence; their orders are total, and only equal keys tie.
use Rattle.std.proofs.Common.{◌≡◌, ◌&&◌, ◌==◌, Bool, true, false, Some, refl, subst, ◌∙◌}
use Rattle.std.specs.Bool.{Decides}
use Rattle.std.specs.Cmp.{IsEquivalence, IsTotalOrder, IsPartialOrder, decided, po, nat_cmp_total, on_total, then_total, unsigned_ties}
use Rattle.std.specs.Ordering.{eq_by_cmp, is_eq, ordering_then}
use Rattle.std.specs.declared.cmp.Ordering.{Ordering}
use Rattle.std.specs.declared.cmp.Ordering.TheVariants.{Less, Equal, Greater}
use Rattle.std.proofs.lemmas.Bool.{eq-eqb, eqb-true, and_parts, and_from}
use Rattle.rset.specs.Sets.{equals}
use Rattle.rset.specs.SetFacts.{equals-true, equals_itself}
use Rattle.rbound_history.specs.declared.shape_key.ShapeKey.{ShapeKey}
use Rattle.rbound_history.specs.declared.shape_key.AskedSet.{AskedSet}
use Rattle.rbound_history.specs.SetOrderFacts.{set_cmp_total, set_ties}
use Rattle.rbound_history.specs.ShapeKeys.{same_key, same_asked, key_cmp, asked_cmp}

pub same_key-true : (a b : ShapeKey) → same_key a b ≡ true → a ≡ b
same_key-true a b h =
    let tasks = and_parts (a.task == b.task) ((a.kind == b.kind) && equals a.reads b.reads && equals a.writes b.writes && equals a.first b.first) h in
    let firsts = and_parts ((a.kind == b.kind) && equals a.reads b.reads && equals a.writes b.writes) (equals a.first b.first) tasks.1 in
    let writes = and_parts ((a.kind == b.kind) && equals a.reads b.reads) (equals a.writes b.writes) firsts.0 in
    let reads = and_parts (a.kind == b.kind) (equals a.reads b.reads) writes.0 in
    (λ i. record {
      task = eqb-true a.task b.task tasks.0 i;
      kind = eqb-true a.kind b.kind reads.0 i;
      reads = equals-true a.reads b.reads reads.1 i;
      writes = equals-true a.writes b.writes writes.1 i;
      first = equals-true a.first b.first firsts.1 i;
    })

same_key_itself : (a : ShapeKey) → same_key a a ≡ true
same_key_itself a =
    and_from _ _ (eq-eqb a.task a.task refl)
    (and_from _ _ (and_from _ _ (and_from _ _ (eq-eqb a.kind a.kind refl) (equals_itself a.reads)) (equals_itself a.writes)) (equals_itself a.first))

pub same_key_decides : (a b : ShapeKey) → Decides (same_key a b) (a ≡ b)
same_key_decides a b = (same_key-true a b, λ e. subst (λ (x : ShapeKey). same_key a x ≡ true) e (same_key_itself a))

pub same_key_equivalence : IsEquivalence same_key
same_key_equivalence = decided same_key same_key_decides

pub same_asked_decides : (a b : AskedSet) → Decides (same_asked a b) (a ≡ b)
same_asked_decides a b =
    ((λ h i. record { set = equals-true a.set b.set h i }), λ e. subst (λ (x : AskedSet). same_asked a x ≡ true) e (equals_itself a.set))

pub same_asked_equivalence : IsEquivalence same_asked
same_asked_equivalence = decided same_asked same_asked_decides

-- ---- orders

pub key_cmp_total : IsTotalOrder key_cmp
key_cmp_total =
    then_total (on_total (λ (k : ShapeKey). k.task) nat_cmp_total)
    (then_total (on_total (λ (k : ShapeKey). k.kind) nat_cmp_total)
    (then_total (on_total (λ (k : ShapeKey). k.reads) set_cmp_total)
    (then_total (on_total (λ (k : ShapeKey). k.writes) set_cmp_total) (on_total (λ (k : ShapeKey). k.first) set_cmp_total))))

pub same_key_ties : (a b : ShapeKey) → same_key a b ≡ eq_by_cmp key_cmp a b
same_key_ties a b = at _ _ _ _ _ _ _ _ _ _ (unsigned_ties a.task b.task) (unsigned_ties a.kind b.kind) (set_ties a.reads b.reads) (set_ties a.writes b.writes) (set_ties a.first b.first)
  where
    tied : (r : Ordering) (t : Bool) (s : Ordering) → t ≡ is_eq s → (is_eq r && t) ≡ is_eq (ordering_then r s)
    tied Less t s e = refl
    tied Equal t s e = e
    tied Greater t s e = refl

    assoc : (b c d e : Bool) → (b && c && d && e) ≡ (b && (c && (d && e)))
    assoc true true d e = refl
    assoc true false d e = refl
    assoc false c d e = refl

    at : (t k r w f : Bool) (t' k' r' w' f' : Ordering) → t ≡ is_eq t' → k ≡ is_eq k' → r ≡ is_eq r' → w ≡ is_eq w' → f ≡ is_eq f'
        → (t && (k && r && w && f)) ≡ is_eq (ordering_then t' (ordering_then k' (ordering_then r' (ordering_then w' f'))))
    at t k r w f t' k' r' w' f' a b c d e =
        (λ i. a i && (assoc k r w f ∙ (λ j. b j && (c j && (d j && f)))) i) ∙ tied t' _ _ (tied k' _ _ (tied r' _ _ (tied w' f f' e)))

pub key_cmp_partial : IsPartialOrder same_key (λ a b. Some (key_cmp a b))
key_cmp_partial = po key_cmp_total same_key_ties

pub asked_cmp_total : IsTotalOrder asked_cmp
asked_cmp_total = on_total (λ (a : AskedSet). a.set) set_cmp_total

pub same_asked_ties : (a b : AskedSet) → same_asked a b ≡ eq_by_cmp asked_cmp a b
same_asked_ties a b = set_ties a.set b.set

pub asked_cmp_partial : IsPartialOrder same_asked (λ a b. Some (asked_cmp a b))
asked_cmp_partial = po asked_cmp_total same_asked_ties
