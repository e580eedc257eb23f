use Rattle.std.proofs.Common.{◌∙◌, ap, subst}
use Rattle.update_model.specs.States.{IsEnabled}
use Rattle.update_model.specs.Worlds.{world_after}
use Rattle.schedule_pilot.proofs.SafeLaws.{change_counted, enter_counted, hop_counted, lose_counted}
use Rattle.schedule_pilot.proofs.counted.Counted.make_event.Goals as goal

pub returns-in-Change-clause-kept : goal.returns-in-Change-clause-kept
returns-in-Change-clause-kept c =
    change_counted c.args.world.now c.happen.new.world c.args.self.now.pending c.args.self.now.under_way.items c.requires.kept c.in-Change.i c.turn_off.new.self
    (c.in_ok-happen.ensures ∙ ap (world_after c.args.world.now) c.in-Change.is) c.turn_off.ensures

pub returns-in_ok-add_last-in-Enter-clause-kept : goal.returns-in_ok-add_last-in-Enter-clause-kept
returns-in_ok-add_last-in-Enter-clause-kept c =
    enter_counted c.args.world.now c.happen.new.world c.args.self.now.pending c.args.self.now.under_way.items c.requires.kept c.in-Enter.field-0 c.in-Enter.field-1 c.packets.result.now
    c.add_last.new.numbers.items (c.in_ok-happen.ensures ∙ ap (world_after c.args.world.now) c.in-Enter.is) c.packets.ensures c.in_ok-add_last-in-Enter.ensures

pub returns-in-Hop-clause-kept : goal.returns-in-Hop-clause-kept
returns-in-Hop-clause-kept c =
    hop_counted c.args.world.now c.happen.new.world c.args.self.now.pending c.args.self.now.under_way.items c.requires.kept c.in-Hop.i c.packets-in-Hop.result.now
    c.take_ended.new.numbers.items (subst (IsEnabled c.args.world.now.net c.args.world.now.rounds c.args.world.now.state) c.in-Hop.is c.requires.may)
    (c.in_ok-happen.ensures ∙ ap (world_after c.args.world.now) c.in-Hop.is) c.packets-in-Hop.ensures c.take_ended.ensures

pub returns-in-Lose-clause-kept : goal.returns-in-Lose-clause-kept
returns-in-Lose-clause-kept c =
    lose_counted c.args.world.now c.happen.new.world c.args.self.now.pending c.args.self.now.under_way.items c.requires.kept c.in-Lose.i c.packets-in-Lose.result.now
    c.take_ended-in-Lose.new.numbers.items (subst (IsEnabled c.args.world.now.net c.args.world.now.rounds c.args.world.now.state) c.in-Lose.is c.requires.may)
    (c.in_ok-happen.ensures ∙ ap (world_after c.args.world.now) c.in-Lose.is) c.packets-in-Lose.ensures c.take_ended-in-Lose.ensures
