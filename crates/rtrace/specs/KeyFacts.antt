-- The test of keys says whether two are the same, so it is an equivalence, and equal keys hash alike.
use Rattle.std.proofs.Common.{◌≡◌, ◌==◌, true, true≢false, refl, sym, ap, subst}
use Rattle.std.specs.Bool.{Decides}
use Rattle.std.specs.Cmp.{IsEquivalence, decided}
use Rattle.std.proofs.lemmas.Bool.{eq-eqb, eqb-true, and_parts, and_from}
use Rattle.rbound.specs.declared.which.Which.{Which}
use Rattle.rbound.specs.declared.which.Which.TheVariants.{First, Rise, Ask}
use Rattle.rtrace.specs.declared.key.Key.{Key}
use Rattle.rtrace.specs.Keys.{same_which, same_key, key_input}

same_which-true : (a b : Which) → same_which a b ≡ true → a ≡ b
same_which-true First First h = refl
same_which-true Rise Rise h = refl
same_which-true (Ask a) (Ask b) h = ap (λ n. Ask n) (eqb-true a b h)
same_which-true First Rise h = absurd (true≢false (sym h))
same_which-true First (Ask b) h = absurd (true≢false (sym h))
same_which-true Rise First h = absurd (true≢false (sym h))
same_which-true Rise (Ask b) h = absurd (true≢false (sym h))
same_which-true (Ask a) First h = absurd (true≢false (sym h))
same_which-true (Ask a) Rise h = absurd (true≢false (sym h))

same_which_itself : (a : Which) → same_which a a ≡ true
same_which_itself First = refl
same_which_itself Rise = refl
same_which_itself (Ask a) = eq-eqb a a refl

pub same_key-true : (a b : Key) → same_key a b ≡ true → a ≡ b
same_key-true a b h =
    let parts = and_parts (a.key.shape == b.key.shape) (same_which a.key.which b.key.which) h in
    (λ i. record { key = record { shape = eqb-true a.key.shape b.key.shape parts.0 i; which = same_which-true a.key.which b.key.which parts.1 i } })

same_key_itself : (a : Key) → same_key a a ≡ true
same_key_itself a = and_from _ _ (eq-eqb a.key.shape a.key.shape refl) (same_which_itself a.key.which)

pub same_key_decides : (a b : Key) → Decides (same_key a b) (a ≡ b)
same_key_decides a b = (same_key-true a b, λ e. subst (λ (x : Key). same_key a x ≡ true) e (same_key_itself a))

pub same_key_equivalence : IsEquivalence same_key
same_key_equivalence = decided same_key same_key_decides

pub same_key_fed : (a b : Key) → same_key a b ≡ true → key_input a ≡ key_input b
same_key_fed a b h = ap key_input (same_key-true a b h)
