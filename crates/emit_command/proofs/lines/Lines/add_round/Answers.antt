use Rattle.std.proofs.Common.{◌<◌, map, arith}
use Rattle.std.proofs.lemmas.List.{length-map}
use Rattle.net_base.proofs.MemberLaws.{each_weaker}
use Rattle.update_model.specs.Changes.{switch_of}
use Rattle.update_model.specs.Ranges.{IsPlanChange}
use Rattle.round_messages.specs.Requests.{switches_changed, change_request, barrier_request}
use Rattle.emit_command.proofs.Adding.{added_then}
use Rattle.emit_command.proofs.Marks.{changed_added}
use Rattle.emit_command.proofs.lines.Lines.add_round.Goals as goal
use Rattle.net_base.specs.Switches.{most_switches}

pub add_barriers-requires-clause-xids : goal.add_barriers-requires-clause-xids
add_barriers-requires-clause-xids c =
    let count = length-map c.args.changes.now (change_request c.args.round) in
    omega (arith, count, c.in_ok-add_changes.ensures.xid_is)

pub changed_switches-changed-requires : goal.changed_switches-changed-requires
changed_switches-changed-requires c =
    each_weaker (IsPlanChange c.args.net.now) (λ d. (switch_of d).0 < most_switches) (λ d is. let few = c.keeps_rules.ensures.few in let within = is.switch in omega arith) c.args.changes.now c.requires.plan

pub returns : goal.returns
returns c =
    added_then c.args.net.now (map (change_request c.args.round) c.args.changes.now) (map (barrier_request c.args.round) (switches_changed c.args.net.now c.args.changes.now))
    c.args.self.now c.add_changes.new.self c.add_barriers.new.self c.in_ok-add_changes.ensures
    (changed_added c.args.net.now c.args.round c.changed_switches-changed.result c.args.changes.now c.add_changes.new.self c.add_barriers.new.self c.changed_switches-changed.ensures c.in_ok-add_barriers.ensures)
