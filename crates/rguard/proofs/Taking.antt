-- Seats that are taken out of jobs one after another: for proofs of programs above.
use Rattle.std.proofs.Common.{◌≡◌, List, [], ◌∷◌, ◌++◌, Option, Some, sym, subst}
use Rattle.std.specs.Prelude.{All, IsSomeAnd}
use Rattle.std.proofs.lemmas.List.Elements.{All-head, All-tail, All-push}

-- each job that is left has a seat that this holds of
module _ {J S : Type 0} (P : S → Type 0) (seat_in : J → Option S) (left rest : List J) (job : J) (steps : left ≡ job ∷ rest) (all : All (λ j. IsSomeAnd (seat_in j) P) left) where
  abbrev now : All (λ j. IsSomeAnd (seat_in j) P) (job ∷ rest)
  now = subst (All (λ j. IsSomeAnd (seat_in j) P)) steps all

  -- so it holds of the first one's seat, and of those that were taken before
  pub one_taken : (taken later : List S) (seat : S) → All P taken → seat_in job ≡ Some seat → later ≡ taken ++ seat ∷ [] → All P later
  one_taken taken later seat held is items =
      subst (All P) (sym items) (All-push P taken seat held (subst (λ (o : Option S). IsSomeAnd o P) is (All-head (λ j. IsSomeAnd (seat_in j) P) job rest now)))

  -- and of the seats of the others
  pub others_left : All (λ j. IsSomeAnd (seat_in j) P) rest
  others_left = All-tail (λ j. IsSomeAnd (seat_in j) P) job rest now
