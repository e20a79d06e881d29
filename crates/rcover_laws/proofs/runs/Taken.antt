-- The claim that is taken: if some claim is satisfied at all moments of a run, the definition finds one.
use Rattle.std.proofs.Common.{◌≡◌, Bool, true, ◌&&◌, Some, List, [], ◌∷◌, refl, ap, ◌∙◌}
use Rattle.std.proofs.lemmas.Bool.{and_parts, and_from}
use Rattle.std.specs.List.{list_all, AllByRecursion}
use Rattle.std.specs.Option.{option_map}
use Rattle.rclaim.specs.declared.claim.Claim.{Claim}
use Rattle.rmodel.specs.declared.claimed.Claimed.{Claimed}
use Rattle.rmodel.specs.Claims.{is_satisfied}
use Rattle.rmodel.proofs.ListFacts.{any_among}
use Rattle.rcover_laws.specs.Moments.{Moment, holds_at}
use Rattle.rcover_laws.specs.Sections.{holder_of}
use Rattle.rcover_laws.proofs.lists.Found.{first_of}
use Rattle.rcover_laws.proofs.runs.Moments.{holds_sat}
use Rattle.rcover_laws.proofs.states.AtRest.{Sat}

-- the claim that is taken over a run that begins with m
pub record IsTaken (p : Claim → Bool) (m : Moment) (ms : List Moment) : Type 0 where
  pub one : Claim
  pub is : holder_of p (m ∷ ms) ≡ Some one
  pub passes : p one ≡ true
  pub first : Sat one m
  pub holds : AllByRecursion (λ n. holds_at one n ≡ true) (m ∷ ms)

all_of_list : (c : Claim) (ms : List Moment) → list_all (holds_at c) ms ≡ true → AllByRecursion (λ n. holds_at c n ≡ true) ms
all_of_list c [] all = tt
all_of_list c (m ∷ ms) all = let parts = and_parts (holds_at c m) (list_all (holds_at c) ms) all in (parts.0, all_of_list c ms parts.1)

list_of_sat : (c : Claim) (ms : List Moment) → AllByRecursion (Sat c) ms → list_all (holds_at c) ms ≡ true
list_of_sat c [] all = refl
list_of_sat c (m ∷ ms) all = and_from (holds_at c m) (list_all (holds_at c) ms) (holds_sat c m all.0) (list_of_sat c ms all.1)

pub taken : (p : Claim → Bool) (m : Moment) (ms : List Moment) (c : Claim) → p c ≡ true → AllByRecursion (Sat c) (m ∷ ms) → IsTaken p m ms
taken p m ms c pass all =
    let sat = all.0 in
    let test : Claimed → Bool = λ (x : Claimed). p x.claim && is_satisfied x && list_all (holds_at x.claim) ms in
    let found = first_of test m
    (any_among test m sat.at sat.among
    (and_from (p sat.at.claim && is_satisfied sat.at) (list_all (holds_at sat.at.claim) ms)
    (and_from (p sat.at.claim) (is_satisfied sat.at) (ap p sat.is ∙ pass) sat.satisfied) (ap (λ d. list_all (holds_at d) ms) sat.is ∙ list_of_sat c ms all.1))) in
    let parts = and_parts (p found.one.claim && is_satisfied found.one) (list_all (holds_at found.one.claim) ms) found.passes in
    let more = and_parts (p found.one.claim) (is_satisfied found.one) parts.0 in
    let first : Sat found.one.claim m = record { at = found.one; among = found.among; is = refl; satisfied = more.1 } in
    record {
      one = found.one.claim;
      is = ap (λ o. option_map (λ (x : Claimed). x.claim) o) found.is;
      passes = more.0;
      first = first;
      holds = (holds_sat found.one.claim m first, all_of_list found.one.claim ms parts.1);
    }
