-- The moments of a wait so far are a run that some of the events make.
use Rattle.std.proofs.Common.{◌≡◌, Bool, true, false, ◌&&◌, cond, List, [], ◌∷◌, ◌++◌, refl, ap, ◌∙◌}
use Rattle.std.specs.List.{list_all}
use Rattle.rclaim.specs.declared.event.Event.{Event}
use Rattle.rmodel.specs.State.{LockState}
use Rattle.rmodel.specs.Steps.{next, after}
use Rattle.rmodel.proofs.settling.OneSettlement.{both_cases}
use Rattle.rcover_laws.specs.Moments.{Moment, moments, later}
use Rattle.rcover_laws.specs.Told.{run_of}

-- a run at the end of the moments of a list of events
pub record IsRun (p : Moment → Bool) (s : LockState) (es : List Event) : Type 0 where
  pub before : List Event
  pub more : List Event
  pub parts : es ≡ before ++ more
  pub is : run_of p (moments s es) ≡ moments (after s before) more
  pub passes : list_all p (moments (after s before) more) ≡ true

pub run_is : (p : Moment → Bool) (s : LockState) (es : List Event) → p (after s es).claims ≡ true → IsRun p s es
run_is p s [] last =
    let all : list_all p (s.claims ∷ []) ≡ true = ap (λ b. b && true) last in
    record { before = []; more = []; parts = refl; is = ap (λ b. cond b (s.claims ∷ []) []) all; passes = all }
run_is p s (e ∷ es) last =
    both_cases (list_all p (moments s (e ∷ es)))
    (λ all. record { before = []; more = e ∷ es; parts = refl; is = ap (λ b. cond b (moments s (e ∷ es)) (run_of p (later s (e ∷ es)))) all; passes = all })
    (λ some.
    let rest = run_is p (next s e) es last in
    record {
      before = e ∷ rest.before;
      more = rest.more;
      parts = ap (λ ds. e ∷ ds) rest.parts;
      is = ap (λ b. cond b (moments s (e ∷ es)) (run_of p (later s (e ∷ es)))) some ∙ rest.is;
      passes = rest.passes;
    })

-- one more moment: the run goes on if the test passes there, and else is over
pub run_push : (p : Moment → Bool) (ms : List Moment) (n : Moment) → run_of p (ms ++ n ∷ []) ≡ cond (p n) (run_of p ms ++ n ∷ []) []
run_push p [] n = at (p n)
  where
    at : (b : Bool) → cond (b && true) (n ∷ []) [] ≡ cond b (n ∷ []) []
    at true = refl
    at false = refl
run_push p (m ∷ ms) n =
    ap (λ b. cond (p m && b) (m ∷ (ms ++ n ∷ [])) (run_of p (ms ++ n ∷ []))) (all_push ms) ∙ ap (cond (p m && (list_all p ms && p n)) (m ∷ (ms ++ n ∷ []))) (run_push p ms n) ∙ at (p m) (list_all p ms) (p n)
  where
    all_push : (ns : List Moment) → list_all p (ns ++ n ∷ []) ≡ (list_all p ns && p n)
    all_push [] = and_true (p n)
      where
        and_true : (b : Bool) → (b && true) ≡ b
        and_true true = refl
        and_true false = refl
    all_push (k ∷ ks) = ap (λ b. p k && b) (all_push ks) ∙ joined (p k) (list_all p ks) (p n)
      where
        joined : (a b c : Bool) → (a && (b && c)) ≡ ((a && b) && c)
        joined true b c = refl
        joined false b c = refl

    at : (a b c : Bool) → cond (a && (b && c)) (m ∷ (ms ++ n ∷ [])) (cond c (run_of p ms ++ n ∷ []) []) ≡ cond c (cond (a && b) (m ∷ ms) (run_of p ms) ++ n ∷ []) []
    at true true true = refl
    at true false true = refl
    at false b true = refl
    at true true false = refl
    at true false false = refl
    at false b false = refl
