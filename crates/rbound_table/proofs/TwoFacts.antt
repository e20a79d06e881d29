-- The two longest give the longest of all tasks but any one.
use Rattle.std.proofs.Common.{◌≡◌, ◌<◌, ◌≤◌, ◌==◌, ℕ, Bool, true, false, cond, List, [], ◌∷◌, fold, max, Option, Some, None, refl, sym, ap, ◌∙◌, ◌⊎◌, inl, inr, arith}
use Rattle.std.specs.List.{range_with_len}
use Rattle.std.proofs.lemmas.Bool.{ltb-true, ltb-false}
use Rattle.std.proofs.lemmas.Bool.Decides.{eqb_tells}
use Rattle.rmodel.specs.WellFormed.{Among}
use Rattle.rbound.specs.Longest.{longer, longest_of}
use Rattle.rbound.specs.ZoneRows.{beside}
use Rattle.rbound.proofs.LongestClaims.{longer_none, longer_assoc}
use Rattle.rbound_table.specs.Two.{only, no_length, two_at, is_longer, led_by, two_of_both, two_of, two_beside}
use Rattle.rbound_table.specs.declared.two.TwoLongest.{TwoLongest}

absorbs : (a b : Option ℕ) → is_longer a b ≡ true → longer a b ≡ a
absorbs None b h = absurd cc
absorbs (Some a) None h = refl
absorbs (Some a) (Some b) h = let less : b < a = ltb-true b a h in let same : max a b ≡ a = omega arith in ap (λ x. Some x) same

absorbed : (a b : Option ℕ) → is_longer a b ≡ false → longer b a ≡ b
absorbed None b h = longer_none b
absorbed (Some a) None h = absurd cc
absorbed (Some a) (Some b) h = let least : a ≤ b = ltb-false b a h in let same : max b a ≡ b = omega arith in ap (λ x. Some x) same

pub itself : (a : Option ℕ) → longer a a ≡ a
itself None = refl
itself (Some a) = let same : max a a ≡ a = omega arith in ap (λ x. Some x) same

pub swapped : (a b : Option ℕ) → longer a b ≡ longer b a
swapped None b = sym (longer_none b)
swapped (Some a) None = refl
swapped (Some a) (Some b) = let same : max a b ≡ max b a = omega arith in ap (λ x. Some x) same

-- the longest of all others is no longer than the longest
abbrev pub IsFair : TwoLongest → Type 0
IsFair two = longer two.longest two.next ≡ two.longest

pub only_fair : (task : ℕ) (length : Option ℕ) → IsFair (only task length)
only_fair task length = longer_none length

within : (b : TwoLongest) (me : ℕ) → IsFair b → longer b.longest (two_at b me) ≡ b.longest
within b me fair = at (b.task == me)
  where
    at : (c : Bool) → longer b.longest (cond c b.next b.longest) ≡ b.longest
    at true = fair
    at false = itself b.longest

beyond : (a b : TwoLongest) (me : ℕ) → IsFair b → longer a.longest b.longest ≡ a.longest → longer a.longest (two_at b me) ≡ a.longest
beyond a b me fair most =
    ap (λ x. longer x (two_at b me)) (sym most) ∙ longer_assoc a.longest b.longest (two_at b me) ∙ ap (longer a.longest) (within b me fair) ∙ most

led_at : (a b : TwoLongest) (me : ℕ) → IsFair b → longer a.longest b.longest ≡ a.longest → two_at (led_by a b) me ≡ longer (two_at a me) (two_at b me)
led_at a b me fair most = elim (eqb_tells a.task me) [
  | inl same ↦
      ap (λ c. cond c (longer a.next (two_at b a.task)) a.longest) same.0
      ∙ ap (λ k. longer a.next (two_at b k)) same.1
      ∙ sym (ap (λ c. longer (cond c a.next a.longest) (two_at b me)) same.0)
  | inr other ↦
      ap (λ c. cond c (longer a.next (two_at b a.task)) a.longest) other.0
      ∙ sym (ap (λ c. longer (cond c a.next a.longest) (two_at b me)) other.0 ∙ beyond a b me fair most)
]

led_fair : (a b : TwoLongest) → IsFair a → IsFair b → longer a.longest b.longest ≡ a.longest → IsFair (led_by a b)
led_fair a b first second most =
    sym (longer_assoc a.longest a.next (two_at b a.task)) ∙ ap (λ x. longer x (two_at b a.task)) first ∙ beyond a b a.task second most

-- *For both, it is the longer of what each gives*
pub both_at : (a b : TwoLongest) (me : ℕ) → IsFair a → IsFair b → two_at (two_of_both a b) me ≡ longer (two_at a me) (two_at b me)
both_at a b me first second = at (is_longer b.longest a.longest) refl
  where
    at : (c : Bool) → is_longer b.longest a.longest ≡ c → two_at (cond c (led_by b a) (led_by a b)) me ≡ longer (two_at a me) (two_at b me)
    at true h = led_at b a me first (absorbs b.longest a.longest h) ∙ swapped (two_at b me) (two_at a me)
    at false h = led_at a b me second (absorbed b.longest a.longest h)

pub both_fair : (a b : TwoLongest) → IsFair a → IsFair b → IsFair (two_of_both a b)
both_fair a b first second = at (is_longer b.longest a.longest) refl
  where
    at : (c : Bool) → is_longer b.longest a.longest ≡ c → IsFair (cond c (led_by b a) (led_by a b))
    at true h = led_fair b a second first (absorbs b.longest a.longest h)
    at false h = led_fair a b first second (absorbed b.longest a.longest h)

both_longest : (a b : TwoLongest) → (two_of_both a b).longest ≡ longer a.longest b.longest
both_longest a b = at (is_longer b.longest a.longest) refl
  where
    at : (c : Bool) → is_longer b.longest a.longest ≡ c → (cond c (led_by b a) (led_by a b)).longest ≡ longer a.longest b.longest
    at true h = sym (absorbs b.longest a.longest h) ∙ swapped b.longest a.longest
    at false h = sym (absorbed b.longest a.longest h)

-- ---- of all tasks but one

none_more : (c : Bool) (m : Option ℕ) → m ≡ cond c m (longer m None)
none_more true m = refl
none_more false m = sym (longer_none m)

either : (c : Bool) (m : Option ℕ) → cond c m m ≡ m
either true m = refl
either false m = refl

not_mine : (c : Bool) (m o : Option ℕ) → longer m (cond c None o) ≡ cond c m (longer m o)
not_mine true m o = longer_none m
not_mine false m o = refl

twos_from : (writer me : ℕ) (f : ℕ → Option ℕ) (ks : List ℕ) (two : TwoLongest) → IsFair two
    → IsFair (fold (λ two t. cond (t == writer) two (two_of_both two (only t (f t)))) two ks)
    × (two_at (fold (λ two t. cond (t == writer) two (two_of_both two (only t (f t)))) two ks) me ≡ fold (λ most t. cond (t == me) most (longer most (cond (t == writer) None (f t)))) (two_at two me) ks)
twos_from writer me f [] two fair = (fair, refl)
twos_from writer me f (k ∷ ks) two fair = at (k == writer) (twos_from writer me f ks)
  where
    at : (b : Bool)
        → ((two : TwoLongest) → IsFair two
        → IsFair (fold (λ two t. cond (t == writer) two (two_of_both two (only t (f t)))) two ks)
        × (two_at (fold (λ two t. cond (t == writer) two (two_of_both two (only t (f t)))) two ks) me ≡ fold (λ most t. cond (t == me) most (longer most (cond (t == writer) None (f t)))) (two_at two me) ks))
        → IsFair (fold (λ two t. cond (t == writer) two (two_of_both two (only t (f t)))) (cond b two (two_of_both two (only k (f k)))) ks)
        × (two_at (fold (λ two t. cond (t == writer) two (two_of_both two (only t (f t)))) (cond b two (two_of_both two (only k (f k)))) ks) me
        ≡ fold (λ most t. cond (t == me) most (longer most (cond (t == writer) None (f t)))) (cond (k == me) (two_at two me) (longer (two_at two me) (cond b None (f k)))) ks)
    at true rest =
        let r = rest two fair in
        (r.0, r.1 ∙ ap (λ m. fold (λ most t. cond (t == me) most (longer most (cond (t == writer) None (f t)))) m ks) (none_more (k == me) (two_at two me)))
    at false rest =
        let r = rest (two_of_both two (only k (f k))) (both_fair two (only k (f k)) fair (only_fair k (f k))) in (
          r.0,
          r.1
              ∙ ap (λ m. fold (λ most t. cond (t == me) most (longer most (cond (t == writer) None (f t)))) m ks)
              (both_at two (only k (f k)) me fair (only_fair k (f k)) ∙ not_mine (k == me) (two_at two me) (f k)),
        )

-- *The two longest of all tasks but one* give the longest of all but two
pub two_beside_at : (tasks writer me : ℕ) (f : ℕ → Option ℕ) → two_at (two_beside tasks writer f) me ≡ beside tasks me (λ t. cond (t == writer) None (f t))
two_beside_at tasks writer me f =
    (twos_from writer me f (range_with_len 0 tasks) no_length refl).1
    ∙ ap (λ m. fold (λ most t. cond (t == me) most (longer most (cond (t == writer) None (f t)))) m (range_with_len 0 tasks)) (either (0 == me) None)

pub two_beside_fair : (tasks writer : ℕ) (f : ℕ → Option ℕ) → IsFair (two_beside tasks writer f)
two_beside_fair tasks writer f = (twos_from writer 0 f (range_with_len 0 tasks) no_length refl).0

-- ---- of all tasks

all_from : (me : ℕ) (f : ℕ → Option ℕ) (ks : List ℕ) (two : TwoLongest) → IsFair two
    → two_at (fold (λ two t. two_of_both two (only t (f t))) two ks) me ≡ fold (λ most t. cond (t == me) most (longer most (f t))) (two_at two me) ks
all_from me f [] two fair = refl
all_from me f (k ∷ ks) two fair =
    all_from me f ks (two_of_both two (only k (f k))) (both_fair two (only k (f k)) fair (only_fair k (f k)))
    ∙ ap (λ m. fold (λ most t. cond (t == me) most (longer most (f t))) m ks)
    (both_at two (only k (f k)) me fair (only_fair k (f k)) ∙ not_mine (k == me) (two_at two me) (f k))

-- *The two longest of all tasks* give the longest of all but one
pub two_of_at : (tasks me : ℕ) (f : ℕ → Option ℕ) → two_at (two_of tasks f) me ≡ beside tasks me f
two_of_at tasks me f =
    all_from me f (range_with_len 0 tasks) no_length refl
    ∙ ap (λ m. fold (λ most t. cond (t == me) most (longer most (f t))) m (range_with_len 0 tasks)) (either (0 == me) None)

-- their longest is the longest of all
longest_from : (f : ℕ → Option ℕ) (ks : List ℕ) (two : TwoLongest) → (fold (λ two t. two_of_both two (only t (f t))) two ks).longest ≡ longer two.longest (longest_of f ks)
longest_from f [] two = sym (longer_none two.longest)
longest_from f (k ∷ ks) two =
    longest_from f ks (two_of_both two (only k (f k))) ∙ ap (λ x. longer x (longest_of f ks)) (both_longest two (only k (f k))) ∙ longer_assoc two.longest (f k) (longest_of f ks)

pub longest_is_of_all : (tasks : ℕ) (f : ℕ → Option ℕ) → (two_of tasks f).longest ≡ longest_of f (range_with_len 0 tasks)
longest_is_of_all tasks f = longest_from f (range_with_len 0 tasks) no_length

-- and it is that of its task, where there is one
abbrev pub Leads : (ℕ → Option ℕ) → List ℕ → TwoLongest → Type 0
Leads f all two = (two.longest ≡ None) ⊎ (Among two.task all × (f two.task ≡ two.longest))

leads_from : (f : ℕ → Option ℕ) (all ks : List ℕ) (two : TwoLongest) → ((k : ℕ) → Among k ks → Among k all) → Leads f all two → Leads f all (fold (λ two t. two_of_both two (only t (f t))) two ks)
leads_from f all [] two within leads = leads
leads_from f all (k ∷ ks) two within leads = leads_from f all ks (two_of_both two (only k (f k))) (λ m there. within m (inr there)) (at (is_longer (f k) two.longest))
  where
    at : (c : Bool) → Leads f all (cond c (led_by (only k (f k)) two) (led_by two (only k (f k))))
    at true = inr (within k (inl refl), refl)
    at false = leads

pub two_of_leads : (tasks : ℕ) (f : ℕ → Option ℕ) → Leads f (range_with_len 0 tasks) (two_of tasks f)
two_of_leads tasks f = leads_from f (range_with_len 0 tasks) (range_with_len 0 tasks) no_length (λ k there. there) (inl refl)

-- ---- of many

pub joined_at : (g : ℕ → TwoLongest) (me : ℕ) (ks : List ℕ) (two : TwoLongest) → IsFair two → ((k : ℕ) → Among k ks → IsFair (g k))
    → two_at (fold (λ two m. two_of_both two (g m)) two ks) me ≡ longer (two_at two me) (longest_of (λ m. two_at (g m) me) ks)
joined_at g me [] two fair all = sym (longer_none (two_at two me))
joined_at g me (k ∷ ks) two fair all =
    joined_at g me ks (two_of_both two (g k)) (both_fair two (g k) fair (all k (inl refl))) (λ m there. all m (inr there))
    ∙ ap (λ x. longer x (longest_of (λ m. two_at (g m) me) ks)) (both_at two (g k) me fair (all k (inl refl)))
    ∙ longer_assoc (two_at two me) (two_at (g k) me) (longest_of (λ m. two_at (g m) me) ks)
