use Rattle.std.proofs.Common.{sym, subst, arith}
use Rattle.round_mix.specs.Prepared.{MixedState}
use Rattle.round_tables.specs.PreparedTables.{IsMixed, list_at, rules_there}
use Rattle.round_tables.proofs.ApplyLaws.{kept_next, marks_left, marks_room}
use Rattle.round_tables.proofs.TableLaws.{switch_n}
use Rattle.round_tables.proofs.applying.keep_all.Goals as goal

pub keep_switch-requires-clause-prepared : goal.keep_switch-requires-clause-prepared
keep_switch-requires-clause-prepared c =
    let s = switch_n c.loop-i.i in
    subst (λ (m : MixedState). IsMixed (rules_there c.args.tables.now s) (list_at c.args.lists.now s).changes m) (sym (c.loop-i.invariant.left s (omega arith)))
    (c.requires.prepared s (omega arith))

pub loop-i-preserved : goal.loop-i-preserved
loop-i-preserved c =
    let s = switch_n c.loop-i.i in
    let tables = c.args.tables.now in
    let lists = c.args.lists.now in
    let touched = c.args.touched.now in
    let first = c.args.mixes.now in
    let old = c.loop-i.mixes in
    let new = c.keep_switch.new.mixes in
    let inv = c.loop-i.invariant in
    let made = c.keep_switch.ensures in
    record {
      mixes = omega (arith, inv.mixes);
      done = kept_next tables lists touched first old new s made.others inv.done made.after;
      left = marks_left tables lists touched first old new s made.others inv.left;
      room = marks_room first old new s made.others made.room inv.room;
    }
