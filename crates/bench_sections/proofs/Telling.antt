-- What words mean, by what std says about `parse` and about a slice of five.
use Rattle.std.proofs.Common.{◌≡◌, ℕ, ◌<◌, ◌^◌, List, [], ◌∷◌, map, length, get_or, Result, Ok, sym, ap, subst, ◌∙◌, arith}
use Rattle.std.specs.Str.Parse.{IsNumeral, digits_value, without_leading_plus, ParsesUnsigned}
use Rattle.std.proofs.lemmas.Result.{OkIff-at_ok}
use Rattle.bench_sections.specs.Words.{Tells, IsAskedBy, AsksFor}
use Rattle.bench_sections.specs.declared.words.Asked.{Asked}

-- a word that parses has the number, which fits
pub told : {E : Type 0} (k : ℕ) (word : List ℕ) (r : Result ℕ E) (n : ℕ) → ParsesUnsigned k 10 word r → r ≡ Ok n → Tells word n × (n < 2 ^ k)
told k word r n parsed is =
    let it = OkIff-at_ok r (IsNumeral 10 (without_leading_plus word) × (digits_value 10 (without_leading_plus word) < 2 ^ k)) (digits_value 10 (without_leading_plus word)) n parsed is in
    ((it.0.0, sym it.1), subst (λ m. m < 2 ^ k) (sym it.1) it.0.1)

-- what five texts ask for is what their words ask for
pub five_ask : {A : Type 0} (f : A → List ℕ) (texts : List A) (threads sections resources place : A) (asked : Asked) → length texts ≡ 5
    → threads ≡ get_or texts 1 threads → sections ≡ get_or texts 2 sections → resources ≡ get_or texts 3 resources → place ≡ get_or texts 4 place
    → IsAskedBy (f threads) (f sections) (f resources) (f place) asked → AsksFor (map f texts) asked
five_ask f [] threads sections resources place asked five t s r p is = absurd (omega arith)
five_ask f (a ∷ []) threads sections resources place asked five t s r p is = absurd (omega arith)
five_ask f (a ∷ b ∷ []) threads sections resources place asked five t s r p is = absurd (omega arith)
five_ask f (a ∷ b ∷ c ∷ []) threads sections resources place asked five t s r p is = absurd (omega arith)
five_ask f (a ∷ b ∷ c ∷ d ∷ []) threads sections resources place asked five t s r p is = absurd (omega arith)
five_ask f (a ∷ b ∷ c ∷ d ∷ e ∷ []) threads sections resources place asked five t s r p is =
    subst (λ x. IsAskedBy x (f c) (f d) (f e) asked) (ap f t)
    (subst (λ x. IsAskedBy (f threads) x (f d) (f e) asked) (ap f s)
    (subst (λ x. IsAskedBy (f threads) (f sections) x (f e) asked) (ap f r)
    (subst (λ x. IsAskedBy (f threads) (f sections) (f resources) x asked) (ap f p) is)))
five_ask f (a ∷ b ∷ c ∷ d ∷ e ∷ g ∷ more) threads sections resources place asked five t s r p is = absurd (omega arith)

-- and the other way about
pub five_asked : {A : Type 0} (f : A → List ℕ) (texts : List A) (threads sections resources place : A) (asked : Asked) → length texts ≡ 5
    → threads ≡ get_or texts 1 threads → sections ≡ get_or texts 2 sections → resources ≡ get_or texts 3 resources → place ≡ get_or texts 4 place
    → AsksFor (map f texts) asked → IsAskedBy (f threads) (f sections) (f resources) (f place) asked
five_asked f [] threads sections resources place asked five t s r p is = absurd (omega arith)
five_asked f (a ∷ []) threads sections resources place asked five t s r p is = absurd (omega arith)
five_asked f (a ∷ b ∷ []) threads sections resources place asked five t s r p is = absurd (omega arith)
five_asked f (a ∷ b ∷ c ∷ []) threads sections resources place asked five t s r p is = absurd (omega arith)
five_asked f (a ∷ b ∷ c ∷ d ∷ []) threads sections resources place asked five t s r p is = absurd (omega arith)
five_asked f (a ∷ b ∷ c ∷ d ∷ e ∷ []) threads sections resources place asked five t s r p is =
    subst (λ x. IsAskedBy x (f sections) (f resources) (f place) asked) (sym (ap f t))
    (subst (λ x. IsAskedBy (f b) x (f resources) (f place) asked) (sym (ap f s))
    (subst (λ x. IsAskedBy (f b) (f c) x (f place) asked) (sym (ap f r))
    (subst (λ x. IsAskedBy (f b) (f c) (f d) x asked) (sym (ap f p)) is)))
five_asked f (a ∷ b ∷ c ∷ d ∷ e ∷ g ∷ more) threads sections resources place asked five t s r p is = absurd (omega arith)

-- a word that parses means no other number
pub told_once : {E : Type 0} (k : ℕ) (word : List ℕ) (r : Result ℕ E) (n m : ℕ) → ParsesUnsigned k 10 word r → r ≡ Ok n → Tells word m → m ≡ n
told_once k word r n m parsed is tells = sym tells.1 ∙ (told k word r n parsed is).0.1
