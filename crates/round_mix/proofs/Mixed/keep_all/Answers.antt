use Rattle.std.proofs.Common.{[], List, take, subst, arith}
use Rattle.std.specs.Prelude.{IsSomeAnd}
use Rattle.std.proofs.lemmas.List.{take_all, drop_all}
use Rattle.update_model.specs.Changes.{rules_after}
use Rattle.update_model.specs.declared.Change.{Change}
use Rattle.round_mix.specs.Prepared.{IsPrepared}
use Rattle.round_mix.proofs.MadeLaws.{made_next, no_more, no_more_start}
use Rattle.round_mix.proofs.Mixed.keep_all.Goals as goal

pub loop-change-init : goal.loop-change-init
loop-change-init c = record { made = λ table is_table prepared. (is_table, prepared); few = no_more_start c.args.self.now.prepared; room = omega arith }

pub loop-change-preserved : goal.loop-change-preserved
loop-change-preserved c =
    let changes = c.args.changes.now in
    let inv = c.loop-change.invariant in
    record {
      made = λ table is_table prepared.
          made_next table changes c.loop-change.change-index c.change-item.result c.loop-change.self.prepared c.keep.new.self.prepared c.loop-change-test.true c.change-item.is
          c.keep.ensures.first (inv.made table is_table prepared);
      few = no_more c.args.self.now.prepared c.loop-change.self.prepared c.keep.new.self.prepared inv.few c.keep.ensures.few;
      room = omega (arith, inv.room, c.keep.ensures.room);
    }

pub returns-clause-after : goal.returns-clause-after
returns-clause-after c table is_table prepared =
    let changes = c.args.changes.now in
    let i = c.loop-change.change-index in
    let state = c.loop-change.self.prepared in
    let made = (c.loop-change.invariant.made table is_table prepared).1 in
    subst (λ (cs : List Change). IsSomeAnd state (IsPrepared (rules_after cs table) [])) (take_all i changes c.loop-change-test.false)
    (subst (λ (cs : List Change). IsSomeAnd state (IsPrepared (rules_after (take i changes) table) cs)) (drop_all i changes c.loop-change-test.false) made)
