use Rattle.std.proofs.Common.{◌≡◌, Some, sym, ap, subst, ◌∙◌, arith}
use Rattle.std.specs.Prelude.{slice_get, vec_capacity}
use Rattle.rmodel.specs.declared.granted.Granted.{Granted}
use Rattle.rvalue.specs.Entries.{EntryFields}
use Rattle.rstate.specs.Contents.{Contents, ComesHome}
use Rattle.rstate.specs.Histories.{MayFollow}
use Rattle.rstate.specs.Lent.{LentFields}
use Rattle.rstate.proofs.keeping.Giving.{some_room, seat_there, reads_missed, writes_homes, state_given}
use Rattle.rstate.proofs.keeping.Boxed.{contents_of, shown}
use Rattle.rstate.proofs.keeping.Watching.{told_next}
use Rattle.rstate.proofs.state.State.give_back.Goals as goal

pub keep-requires-clause-room : goal.keep-requires-clause-room
keep-requires-clause-room g c κs within =
    let a = c.deref_mut-all.result.now in
    let whole = shown g.T.Editable.after g.T.Editable.taken g.T.Editable.number g.M.Machine.state g.M.Machine.watched c.deref_mut-all.ensures.value c.self.invariant in
    let kept = whole.stands in
    let view_is = ap contents_of c.deref_mut-all.ensures.value ∙ c.self.view_is in
    let entry : EntryFields g.row.T-Edit.Denot = record { event = c.args.event; acts = c.args.acts.items } in
    let right = subst (λ (x : Contents g.row.T.Denot g.row.T-Edit.Denot). MayFollow g.T.Editable.after g.T.Editable.taken g.T.Editable.number x.beginning x.entries entry) (sym view_is) c.requires.right in
    some_room g.T.Editable.after g.T.Editable.taken g.T.Editable.number (g.M.Machine.state a.machine) a.history.spare a.opening a.history.entries a.taken.items a.homes.items _ _ kept c.args.seat entry c.requires.gives right

pub give_reads-requires : goal.give_reads-requires
give_reads-requires g c =
    let a = c.deref_mut-all.result.now in
    let whole = shown g.T.Editable.after g.T.Editable.taken g.T.Editable.number g.M.Machine.state g.M.Machine.watched c.deref_mut-all.ensures.value c.self.invariant in
    let kept = whole.stands in
    let view_is = ap contents_of c.deref_mut-all.ensures.value ∙ c.self.view_is in
    let entry : EntryFields g.row.T-Edit.Denot = record { event = c.args.event; acts = c.args.acts.items } in
    let right = subst (λ (x : Contents g.row.T.Denot g.row.T-Edit.Denot). MayFollow g.T.Editable.after g.T.Editable.taken g.T.Editable.number x.beginning x.entries entry) (sym view_is) c.requires.right in
    let back : LentFields g.row.T.Denot = record { reads = c.back.inside.reads.items; writes = c.back.inside.writes.items; reads_room = vec_capacity c.back.inside.reads; writes_room = vec_capacity c.back.inside.writes } in
    let view : Contents g.row.T.Denot g.row.T-Edit.Denot = record { beginning = a.opening; entries = a.history.entries; taken = a.taken.items } in
    let home : (g0 : Granted) → slice_get a.taken.items c.args.seat ≡ Some g0 → ComesHome g.T.Editable.after view entry g0 back
    = λ g0 there. subst (λ (f : LentFields g.row.T.Denot). ComesHome g.T.Editable.after view entry g0 f) (sym c.back.view_is)
    (subst (λ (x : Contents g.row.T.Denot g.row.T-Edit.Denot). ComesHome g.T.Editable.after x entry g0 c.args.back) (sym view_is) (c.requires.back g0 (ap (λ x. slice_get x.taken c.args.seat) (sym view_is) ∙ there))) in
    reads_missed g.T.Editable.after g.T.Editable.taken g.T.Editable.number (g.M.Machine.state a.machine) a.history.spare a.opening a.history.entries a.taken.items a.homes.items _ _ kept c.args.seat entry c.requires.gives right back home

pub give_writes-requires : goal.give_writes-requires
give_writes-requires g c =
    let a = c.deref_mut-all.result.now in
    let whole = shown g.T.Editable.after g.T.Editable.taken g.T.Editable.number g.M.Machine.state g.M.Machine.watched c.deref_mut-all.ensures.value c.self.invariant in
    let kept = whole.stands in
    let view_is = ap contents_of c.deref_mut-all.ensures.value ∙ c.self.view_is in
    let entry : EntryFields g.row.T-Edit.Denot = record { event = c.args.event; acts = c.args.acts.items } in
    let right = subst (λ (x : Contents g.row.T.Denot g.row.T-Edit.Denot). MayFollow g.T.Editable.after g.T.Editable.taken g.T.Editable.number x.beginning x.entries entry) (sym view_is) c.requires.right in
    let back : LentFields g.row.T.Denot = record { reads = c.back.inside.reads.items; writes = c.back.inside.writes.items; reads_room = vec_capacity c.back.inside.reads; writes_room = vec_capacity c.back.inside.writes } in
    let view : Contents g.row.T.Denot g.row.T-Edit.Denot = record { beginning = a.opening; entries = a.history.entries; taken = a.taken.items } in
    let home : (g0 : Granted) → slice_get a.taken.items c.args.seat ≡ Some g0 → ComesHome g.T.Editable.after view entry g0 back
    = λ g0 there. subst (λ (f : LentFields g.row.T.Denot). ComesHome g.T.Editable.after view entry g0 f) (sym c.back.view_is)
    (subst (λ (x : Contents g.row.T.Denot g.row.T-Edit.Denot). ComesHome g.T.Editable.after x entry g0 c.args.back) (sym view_is) (c.requires.back g0 (ap (λ x. slice_get x.taken c.args.seat) (sym view_is) ∙ there))) in
    writes_homes g.T.Editable.after g.T.Editable.taken g.T.Editable.number (g.M.Machine.state a.machine) a.history.spare a.opening a.history.entries a.taken.items a.homes.items _ _ kept c.args.seat entry c.requires.gives right back home c.give_reads.new.homes.items c.give_reads.ensures.homes

pub index_mut-requires : goal.index_mut-requires
index_mut-requires g c =
    let a = c.deref_mut-all.result.now in
    let whole = shown g.T.Editable.after g.T.Editable.taken g.T.Editable.number g.M.Machine.state g.M.Machine.watched c.deref_mut-all.ensures.value c.self.invariant in
    let kept = whole.stands in
    let view_is = ap contents_of c.deref_mut-all.ensures.value ∙ c.self.view_is in
    let entry : EntryFields g.row.T-Edit.Denot = record { event = c.args.event; acts = c.args.acts.items } in
    let right = subst (λ (x : Contents g.row.T.Denot g.row.T-Edit.Denot). MayFollow g.T.Editable.after g.T.Editable.taken g.T.Editable.number x.beginning x.entries entry) (sym view_is) c.requires.right in
    let there = seat_there g.T.Editable.after g.T.Editable.taken g.T.Editable.number (g.M.Machine.state a.machine) a.history.spare a.opening a.history.entries a.taken.items a.homes.items _ _ kept c.args.seat entry c.requires.gives right in
    omega (arith, there, c.from.ensures)

pub invariant_of-self : goal.invariant_of-self
invariant_of-self g c =
    let a = c.deref_mut-all.result.now in
    let whole = shown g.T.Editable.after g.T.Editable.taken g.T.Editable.number g.M.Machine.state g.M.Machine.watched c.deref_mut-all.ensures.value c.self.invariant in
    let kept = whole.stands in
    let view_is = ap contents_of c.deref_mut-all.ensures.value ∙ c.self.view_is in
    let entry : EntryFields g.row.T-Edit.Denot = record { event = c.args.event; acts = c.args.acts.items } in
    let right = subst (λ (x : Contents g.row.T.Denot g.row.T-Edit.Denot). MayFollow g.T.Editable.after g.T.Editable.taken g.T.Editable.number x.beginning x.entries entry) (sym view_is) c.requires.right in
    let back : LentFields g.row.T.Denot = record { reads = c.back.inside.reads.items; writes = c.back.inside.writes.items; reads_room = vec_capacity c.back.inside.reads; writes_room = vec_capacity c.back.inside.writes } in
    let view : Contents g.row.T.Denot g.row.T-Edit.Denot = record { beginning = a.opening; entries = a.history.entries; taken = a.taken.items } in
    let home : (g0 : Granted) → slice_get a.taken.items c.args.seat ≡ Some g0 → ComesHome g.T.Editable.after view entry g0 back
    = λ g0 there. subst (λ (f : LentFields g.row.T.Denot). ComesHome g.T.Editable.after view entry g0 f) (sym c.back.view_is)
    (subst (λ (x : Contents g.row.T.Denot g.row.T-Edit.Denot). ComesHome g.T.Editable.after x entry g0 c.args.back) (sym view_is) (c.requires.back g0 (ap (λ x. slice_get x.taken c.args.seat) (sym view_is) ∙ there))) in
    record {
      stands = state_given g.T.Editable.after g.T.Editable.taken g.T.Editable.number (g.M.Machine.state a.machine) a.history.spare a.opening a.history.entries a.taken.items a.homes.items _ _ kept c.args.seat entry c.requires.gives right back home
          (g.M.Machine.state c.keep.new.machine) c.keep.new.history.spare c.keep.new.history.entries c.give_reads.new.homes.items c.give_writes.new.homes.items c.from.result c.nothing.result
          c.keep.ensures.machine c.keep.ensures.spare c.keep.ensures.entries c.give_reads.ensures.homes c.give_writes.ensures.homes c.from.ensures c.nothing.ensures;
      told = told_next a.opening (g.M.Machine.state a.machine) a.history.entries c.keep.new.history.entries entry (g.M.Machine.watched a.machine) (g.M.Machine.watched c.keep.new.machine)
          kept.kept.machine_is whole.told c.keep.ensures.watched c.keep.ensures.entries;
    }
