-- What contracts see of a lookout, and how it goes on.
use Rattle.std.specs.Prelude.{◌≡◌, ◌+◌, ℕ, List, length, refl}
use Rattle.std.specs.Coded.{Coded, code_by, coded_ℕ, coded×, coded_list}
use mathlib.Core.List.{IsPrefix}
use Rattle.rset.specs.Sets.{Set}
use Rattle.rclaim.specs.Codes.{set_code}
use Rattle.rmon.specs.declared.look.Look.{Look}
use Rattle.rmon.specs.Known.{Watching, watching_code}

-- a monitor, and the looks of it that were kept, in order
pub record Looking : Type 0 where
  pub monitor : Watching
  pub looks : List Look

abbrev pub look_code : Coded Look
look_code =
    code_by (ℕ × (ℕ × (ℕ × (Set × Set)))) (coded× coded_ℕ (coded× coded_ℕ (coded× coded_ℕ (coded× set_code set_code))))
    (λ (l : Look). (l.events, (l.incomplete, (l.holding, (l.reads, l.writes))))) (λ p. record { events = p.0; incomplete = p.1.0; holding = p.1.1.0; reads = p.1.1.1.0; writes = p.1.1.1.1 })
    (λ _. refl)

abbrev pub looking_code : Coded Looking
looking_code = code_by (Watching × List Look) (coded× watching_code (coded_list look_code)) (λ (l : Looking). (l.monitor, l.looks)) (λ p. record { monitor = p.0; looks = p.1 }) (λ _. refl)

-- The lookout goes on to the later one in so many looks: its monitor is one of the same feed and has seen what it had seen, and maybe more, and the
-- looks that were kept before come first
pub record GoesOn (more : ℕ) (before later : Looking) : Type 0 where
  pub feed : later.monitor.feed ≡ before.monitor.feed
  pub opening : later.monitor.opening ≡ before.monitor.opening
  pub seen : IsPrefix before.monitor.seen later.monitor.seen
  pub looks : IsPrefix before.looks later.looks
  pub count : length later.looks ≡ length before.looks + more
