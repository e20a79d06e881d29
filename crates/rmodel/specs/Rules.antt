-- The settling rules: which list of claims a list of claims settles to. They apply to any claims, whatever requests made them.
use Rattle.std.specs.Prelude.{◌≡◌, Bool, true, false, not, ◌&&◌, ◌||◌, nat_lt, List}
use Rattle.std.specs.List.{list_any, list_all, AllZip}
use Rattle.rset.specs.Sets.{meets}
use Rattle.rclaim.specs.declared.claim.Claim.{Claim}
use Rattle.rmodel.specs.declared.claimed.Claimed.{Claimed}
use Rattle.rmodel.specs.Claims.{conflicts, touches, share_place, is_active, is_satisfied}

-- v is a write of smaller stamp than c
abbrev pub is_earlier_write : Claim → Claim → Bool
is_earlier_write c v = v.write_half && nat_lt v.stamp c.stamp

-- some entitled or satisfied write conflicts with c
abbrev pub is_kept_out : List Claimed → Claim → Bool
is_kept_out xs c = list_any (λ v. v.claim.write_half && is_active v && conflicts v.claim c) xs

-- some read that is unsatisfied and conflicts with the write v touches the places of c
abbrev pub has_read_between : List Claimed → Claim → Claim → Bool
has_read_between xs v c = list_any (λ r. not r.claim.write_half && not (is_satisfied r) && conflicts r.claim v && touches r.claim c.places) xs

-- the write v makes way for c: it is satisfied, it writes no place of c, and no read that waits for it touches a place of c
abbrev pub makes_way : List Claimed → Claim → Claimed → Bool
makes_way xs c v = is_satisfied v && not (meets v.claim.writes c.places) && not (has_read_between xs v.claim c)

-- each write of smaller stamp that shares a place with c makes way for it
abbrev pub may_enter : List Claimed → Claim → Bool
may_enter xs c = list_all (λ v. not (is_earlier_write c v.claim && share_place v.claim c) || makes_way xs c v) xs

-- some satisfied read, or some satisfied write of smaller stamp, conflicts with c
abbrev pub is_held_up : List Claimed → Claim → Bool
is_held_up xs c = list_any (λ v. is_satisfied v && (not v.claim.write_half || is_earlier_write c v.claim) && conflicts v.claim c) xs

-- some satisfied write conflicts with c
abbrev pub is_kept : List Claimed → Claim → Bool
is_kept xs c = list_any (λ v. v.claim.write_half && is_satisfied v && conflicts v.claim c) xs

-- the rules at one claim: x as it is in s, y as it is in t
pub record SettlesAt (s t : List Claimed) (x y : Claimed) : Type 0 where
  pub same : y.claim ≡ x.claim
  pub asked : y.asked ≡ x.asked
  pub granted : y.granted ≡ x.granted
  -- a read is satisfied in t exactly where it was in s, or no entitled or satisfied write of s conflicts with it
  pub reads : y.claim.write_half ≡ false → is_satisfied y ≡ (is_satisfied x || not (is_kept_out s y.claim))
  -- a write is entitled or satisfied in t exactly where it was in s, or each write of t of smaller stamp that shares a place with it makes way
  pub entitlement : y.claim.write_half ≡ true → is_active y ≡ (is_active x || may_enter t y.claim)
  -- a write is satisfied in t exactly where it was in s, or it is entitled or satisfied in t and neither
  -- a read satisfied in t nor a write of smaller stamp satisfied in t conflicts with it
  pub satisfaction : y.claim.write_half ≡ true → is_satisfied y ≡ (is_satisfied x || (is_active y && not (is_held_up t y.claim)))
  -- an unsatisfied read is entitled in t exactly where a write satisfied in t conflicts with it
  pub kept_reads : y.claim.write_half ≡ false → is_active y ≡ (is_satisfied y || is_kept t y.claim)

-- s settles to t: t has the claims of s, and the rules hold at each
abbrev pub Settles : List Claimed → List Claimed → Type 0
Settles s t = AllZip (SettlesAt s t) s t
