use Rattle.std.proofs.Common.{◌≤◌, List, length, get_or, get_or-set_same, sym, ap, subst, arith}
use Rattle.std.specs.Prelude.{None}
use Rattle.round_mix.specs.Prepared.{MixedState}
use Rattle.round_tables.specs.PreparedTables.{IsMixed, mix_at}
use Rattle.round_tables.specs.Steps.{HasOneMore}
use Rattle.round_tables.proofs.LoadLaws.{clear_mixed}
use Rattle.round_tables.proofs.StepLaws.{one_more}
use Rattle.std.proofs.lemmas.List.{get_or_default}
use Rattle.round_tables.proofs.growing.widen_at.Goals as goal

pub returns-then-not-branch-clause-room : goal.returns-then-not-branch-clause-room
returns-then-not-branch-clause-room c =
    let rules = c.args.table.now.rules in
    let cs = c.args.changes.now in
    let s = c.args.switch in
    let listed = ap length c.rules.ensures.value in
    let room = c.in_ok-make_room.ensures.room in
    one_more rules cs (mix_at c.make_room.new.mixes s)
    (subst (λ (ms : List MixedState). IsMixed rules cs (mix_at ms s)) (sym (c.in_ok-make_room.ensures.kept c.if-not-branch.true)) c.requires.prepared) (omega arith)

pub load_again-requires-clause-clear : goal.load_again-requires-clause-clear
load_again-requires-clause-clear c = clear_mixed c.args.table.now.rules c.args.changes.now (mix_at c.args.mixes.now c.args.switch) c.requires.prepared

pub returns-clause-room : goal.returns-clause-room
returns-clause-room c =
    let rules = c.args.table.now.rules in
    let cs = c.args.changes.now in
    let s = c.args.switch in
    let ms = c.make_room.new.mixes in
    let within = c.requires.within in
    let none_there : MixedState = record { prepared = None; room = 0; aimed = None } in
    let listed = ap length c.rules.ensures.value in
    let had = c.in_ok-make_room.ensures.room in
    let same = ap (λ (m : MixedState). m.room) (get_or_default ms s.0 c.index-mixes-switch.result none_there (omega arith)) in
    let more : (get_or ms s.0 c.index-mixes-switch.result).room ≤ c.load_again.new.mixed.room = c.load_again.ensures.room in
    subst HasOneMore (sym (get_or-set_same ms s.0 c.load_again.new.mixed none_there (omega arith)))
    (one_more rules cs c.load_again.new.mixed c.load_again.ensures.prepared (omega (arith, more, had, same, listed)))
