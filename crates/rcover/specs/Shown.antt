-- The sections of a write wait, followed moment by moment: those of closed periods are kept, those of the present period are seen at the last moment.
use Rattle.std.specs.Prelude.{not, ◌&&◌, [], ◌∷◌, ◌++◌, if◌then◌else◌, true, false, Bool}
use Rattle.rclaim.specs.declared.claim.Claim.{Claim}
use Rattle.rcover_laws.specs.Lists.{reads_against, with_option}
use Rattle.rcover_laws.specs.Moments.{Moment, is_claim, holds_at}
use Rattle.rcover_laws.specs.Sections.{Sections}
use Rattle.rcover.specs.Last.{first_at}
use Rattle.rcover.specs.declared.lines.Head.{Head}
use Rattle.rbound.specs.declared.which.Which.{Which}
use Rattle.rbound.specs.declared.which.Which.TheVariants.{First, Rise, Ask}
use Rattle.rmodel.specs.declared.claimed.Claimed.{Claimed}

-- what is reported of a wait goes by the head of its claim: of a write
abbrev pub needs_head : Which → Claimed → Bool
needs_head First x = x.claim.write_half
needs_head Rise x = true
needs_head (Ask number) x = false

-- the sections of a write wait whose least claim is e at the last moment m, with those of its closed periods
abbrev pub write_shown : Claim → Sections → Moment → Sections
write_shown e closed m = record {
  reads = if holds_at e m then closed.reads else with_option closed.reads (first_at (reads_against e) m);
  writes = if holds_at e m then closed.writes ++ e ∷ [] else closed.writes;
}

-- the sections of closed periods once a moment n comes after m, where the least claim is f at n and was e at m
abbrev pub write_closed : Claim → Sections → Moment → Claim → Moment → Sections
write_closed e closed m f n = record {
  reads = if is_claim e f && not (holds_at f n) then closed.reads else (write_shown e closed m).reads;
  writes = if is_claim e f then closed.writes else (write_shown e closed m).writes;
}

-- the same by the heads of the line, which give its least claim and whether that is satisfied: h at m, and g at n
abbrev pub closed_by : Head → Sections → Moment → Head → Sections
closed_by h closed m g = record {
  reads = if is_claim h.claim g.claim && not g.holds then closed.reads else if h.holds then closed.reads else with_option closed.reads (first_at (reads_against h.claim) m);
  writes = if is_claim h.claim g.claim then closed.writes else if h.holds then closed.writes ++ h.claim ∷ [] else closed.writes;
}
