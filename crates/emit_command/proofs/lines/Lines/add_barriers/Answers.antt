use Rattle.std.proofs.Common.{Bool, ◌+◌, map, sym, ◌∙◌, subst, arith}
use Rattle.std.specs.Prelude.{filter}
use Rattle.std.specs.List.{range_with_len}
use Rattle.std.proofs.lemmas.List.{length-map}
use Rattle.net_base.specs.declared.ids.SwitchId.{SwitchId}
use Rattle.net_base.specs.Switches.{has}
use Rattle.emit_command.specs.declared.lines.Lines.{Lines}
use Rattle.round_messages.specs.Requests.{switch_numbered, barrier_request}
use Rattle.emit_command.specs.Written.{AddsLines}
use Rattle.round_messages.proofs.Requests.{few_passed}
use Rattle.emit_command.proofs.Marks.{barrier_added, none_passed}
use Rattle.emit_command.proofs.lines.Lines.add_barriers.Goals as goal
use Rattle.emit_command.proofs.lines.Lines.add_barriers.Goals.{then-has+in_ok-add_barrier, else-has}

pub add_barrier-requires-clause-xid : goal.add_barrier-requires-clause-xid
add_barrier-requires-clause-xid c =
    let p : SwitchId → Bool = has c.args.changed in
    let few = few_passed p c.loop-number.number in
    let count = length-map (filter p (map switch_numbered (range_with_len 0 c.loop-number.number))) (barrier_request c.args.round) in
    omega (arith, few, count, c.loop-number.invariant.xid_is)

pub loop-number-preserved : goal.loop-number-preserved
loop-number-preserved c =
    let net = c.args.net.now in
    let n = c.loop-number.number in
    let p : SwitchId → Bool = has c.args.changed in
    let Adds : Lines → Type 0 = λ x. AddsLines net (map (barrier_request c.args.round) (filter p (map switch_numbered (range_with_len 0 (n + 1))))) c.args.self.now x in
    elim c.if-has.branch [
      | then-has+in_ok-add_barrier w ↦
          subst Adds (sym w.self-is)
          (barrier_added net c.args.round n p c.args.self.now c.loop-number.self c.loop-number.invariant w.add_barrier.new.self (sym c.has.ensures ∙ w.if-has.true) w.in_ok-add_barrier.ensures)
      | else-has w ↦ subst Adds (sym w.self-is) (none_passed net c.args.round n p c.args.self.now c.loop-number.self c.loop-number.invariant (sym c.has.ensures ∙ w.if-has.false))
    ]
