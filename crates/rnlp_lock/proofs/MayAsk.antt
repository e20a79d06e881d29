-- Requests that a lock may be asked for.
use Rattle.std.proofs.Common.{◌≡◌, ◌≢◌, true, inl, inr, refl, sym, subst}
use Rattle.std.specs.FinSet.{empty, is_subset, union}
use Rattle.rset.specs.Sets.{Set, all_below}
use Rattle.rset.proofs.SetsBelow.{all_below_within, all_below_empty, all_below_difference}
use Rattle.rexpand.specs.Groups.{ReadGroups, is_declared}
use Rattle.rclaim.specs.Requests.{RequestFields, is_part}
use Rattle.rclaim.specs.declared.request.Kind.{Kind}
use Rattle.rguard.specs.Sections.{read_of}
use Rattle.rnlp_lock.specs.Asking.{MayAsk, MayNest, MayWriteBy, asked}
use Rattle.rnlp_lock.specs.Upgrades.{upgrade_of}

module _ (groups : ReadGroups) (all : Set) (below : all_below groups.q all ≡ true) where
  pub may_read : (set : Set) (r : RequestFields) → r ≡ read_of set → is_subset set all ≡ true → is_declared groups.groups set ≡ true → MayAsk groups r
  may_read set r is inside declared = subst (MayAsk groups) (sym is) (record { reads = all_below_within groups.q set all inside below; writes = all_below_empty groups.q; admitted = declared })

  pub may_write : (kind : Kind) (reads writes : Set) (r : RequestFields) → MayWriteBy kind → r ≡ asked kind reads writes → is_subset reads all ≡ true → is_subset writes all ≡ true → MayAsk groups r
  may_write kind reads writes r (inl by) is first second =
      subst (MayAsk groups) (sym is) (subst (λ (k : Kind). MayAsk groups (asked k reads writes)) (sym by)
      (record { reads = all_below_empty groups.q; writes = all_below_within groups.q writes all second below; admitted = refl }))
  may_write kind reads writes r (inr by) is first second =
      subst (MayAsk groups) (sym is) (subst (λ (k : Kind). MayAsk groups (asked k reads writes)) (sym by)
      (record { reads = all_below_difference groups.q reads writes (all_below_within groups.q reads all first below); writes = all_below_within groups.q writes all second below; admitted = refl }))

  pub may_rise : (set : Set) (r : RequestFields) → r ≡ upgrade_of set → is_subset set all ≡ true → is_declared groups.groups set ≡ true → MayAsk groups r
  may_rise set r is inside declared = subst (MayAsk groups) (sym is) (record { reads = all_below_within groups.q set all inside below; writes = all_below_empty groups.q; admitted = declared })

  pub may_nest : (reads writes first : Set) → writes ≢ empty → is_part first (union reads writes) ≡ true → is_subset reads all ≡ true → is_subset writes all ≡ true → MayNest groups reads writes first
  may_nest reads writes first some fits inside within = (
    some,
    fits,
    record { reads = all_below_difference groups.q reads writes (all_below_within groups.q reads all inside below); writes = all_below_within groups.q writes all within below; admitted = refl },
  )
