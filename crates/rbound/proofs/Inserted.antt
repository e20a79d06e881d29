-- What is needed after another request or ask, and the claims that are kept beside it.
use Rattle.std.proofs.Common.{◌≡◌, ◌≤◌, ◌<◌, ℕ, List, [], ◌∷◌, ◌++◌, length, take, drop, Result, Ok, Err, OnOk, OnErr, refl, sym, ap, ◌∙◌, arith}
use Rattle.std.specs.List.{AllByRecursion}
use Rattle.rset.specs.Sets.{Set}
use Rattle.rclaim.specs.Requests.{RequestFields}
use Rattle.rbound.specs.Needs.{Needed, Needs, needed_of, all_needed}
use Rattle.rbound.specs.TaskNeeds.{with_request, with_ask, requests_of}
use Rattle.rbound.proofs.Growing.{Place, place_of, asked}

take_first : {X : Type 0} (xs ys : List X) → take (length xs) (xs ++ ys) ≡ xs
take_first [] [] = refl
take_first [] (y ∷ ys) = refl
take_first (x ∷ xs) ys = ap (λ us. x ∷ us) (take_first xs ys)

drop_first : {X : Type 0} (xs ys : List X) → drop (length xs) (xs ++ ys) ≡ ys
drop_first [] [] = refl
drop_first [] (y ∷ ys) = refl
drop_first (x ∷ xs) ys = drop_first xs ys

-- the claims of a request come after those of its task and of the earlier tasks
pub inserted : (groups : List Set) (needs : Needs) (task : ℕ) (r : RequestFields) (claims made : List Needed) (at : ℕ) → task < length needs → claims ≡ all_needed groups needs
    → made ≡ needed_of groups task (length (requests_of needs task)) r
    → ((before behind : List Needed) → claims ≡ before ++ behind → AllByRecursion (λ n. n.claim.seat ≤ task) before → AllByRecursion (λ n. task < n.claim.seat) behind → at ≡ length before)
    → take at claims ++ (made ++ drop at claims) ≡ all_needed groups (with_request needs task r)
inserted groups needs task r claims made at h is made_is place = by (place_of groups 0 task task needs r (omega arith) h)
  where
    by : Place groups 0 task task needs r → take at claims ++ (made ++ drop at claims) ≡ all_needed groups (with_request needs task r)
    by p =
        ap (λ cs. take at cs ++ (made ++ drop at cs)) (is ∙ p.is)
        ∙ ap (λ k. take k (p.before ++ p.behind) ++ (made ++ drop k (p.before ++ p.behind))) (place p.before p.behind (is ∙ p.is) p.up_to p.after)
        ∙ ap (λ xs. xs ++ (made ++ drop (length p.before) (p.before ++ p.behind))) (take_first p.before p.behind)
        ∙ ap (λ ys. p.before ++ (made ++ ys)) (drop_first p.before p.behind)
        ∙ ap (λ m. p.before ++ (m ++ p.behind)) made_is
        ∙ sym p.more

-- an ask leaves the claims as they are
pub still_needed : {T E : Type 0} (r : Result T E) (groups : List Set) (old new : Needs) (task : ℕ) (part : Set) → OnOk r (new ≡ with_ask old task part) → OnErr r (new ≡ old) → all_needed groups new ≡ all_needed groups old
still_needed (Ok x) groups old new task part ok err = ap (all_needed groups) ok ∙ asked groups 0 old task part
still_needed (Err e) groups old new task part ok err = ap (all_needed groups) err
