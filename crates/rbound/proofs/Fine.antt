-- The requests that are needed are in normal form, and over the resources.
use Rattle.std.proofs.Common.{◌≡◌, ℕ, zero, suc, List, [], ◌∷◌, Result, Ok, Err, OnOk, OnErr, sym, subst}
use Rattle.std.specs.List.{AllByRecursion}
use Rattle.rset.specs.Sets.{Set}
use Rattle.rclaim.specs.Requests.{RequestFields}
use Rattle.rmodel.proofs.ListFacts.{all_append}
use Rattle.rbound.specs.Needs.{Needs, RequestNeeds}
use Rattle.rbound.specs.TaskNeeds.{none_needed, with_request, with_ask, with_last_ask}
use Rattle.rbound.specs.Kept.{IsFine, AreFine}

pub fine_first : (q tasks : ℕ) → AreFine q (none_needed tasks)
fine_first q zero = tt
fine_first q (suc tasks) = (tt, fine_first q tasks)

pub fine_pushed : (q : ℕ) (needs : Needs) (task : ℕ) (r : RequestFields) → AreFine q needs → IsFine q r → AreFine q (with_request needs task r)
fine_pushed q [] task r all fine = tt
fine_pushed q (ns ∷ rest) zero r all fine = (all_append (λ (n : RequestNeeds). IsFine q n.request) ns (record { request = r; asks = [] } ∷ []) all.0 (fine, tt), all.1)
fine_pushed q (ns ∷ rest) (suc task) r all fine = (all.0, fine_pushed q rest task r all.1 fine)

fine_last : (q : ℕ) (ns : List RequestNeeds) (part : Set) → AllByRecursion (λ (n : RequestNeeds). IsFine q n.request) ns → AllByRecursion (λ (n : RequestNeeds). IsFine q n.request) (with_last_ask ns part)
fine_last q [] part all = tt
fine_last q (n ∷ []) part all = (all.0, tt)
fine_last q (n ∷ m ∷ ns) part all = (all.0, fine_last q (m ∷ ns) part all.1)

fine_asked : (q : ℕ) (needs : Needs) (task : ℕ) (part : Set) → AreFine q needs → AreFine q (with_ask needs task part)
fine_asked q [] task part all = tt
fine_asked q (ns ∷ rest) zero part all = (fine_last q ns part all.0, all.1)
fine_asked q (ns ∷ rest) (suc task) part all = (all.0, fine_asked q rest task part all.1)

pub still_fine : {T E : Type 0} (r : Result T E) (q : ℕ) (old new : Needs) (task : ℕ) (part : Set) → OnOk r (new ≡ with_ask old task part) → OnErr r (new ≡ old) → AreFine q old → AreFine q new
still_fine (Ok x) q old new task part ok err all = subst (λ (ns : Needs). AreFine q ns) (sym ok) (fine_asked q old task part all)
still_fine (Err e) q old new task part ok err all = subst (λ (ns : Needs). AreFine q ns) (sym err) all
