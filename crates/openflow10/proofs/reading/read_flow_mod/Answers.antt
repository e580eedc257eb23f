use Rattle.std.proofs.Common.{◌≡◌, subst, arith}
use Rattle.std.specs.Prelude.{Some}
use Rattle.std.proofs.lemmas.Result.{err_from_is_err_and}
use Rattle.openflow10.specs.Actions.{actions_in}
use Rattle.openflow10.specs.Refusals.{first_failed, flow_tests}
use Rattle.openflow10.specs.declared.ofp_flow_mod.FlowModFields.{FlowModFields}
use Rattle.openflow10.proofs.Decoded.{flow_refused}
use Rattle.openflow10.proofs.MessageLaws.{flow_most, flow_size}
use Rattle.openflow10.proofs.reading.read_flow_mod.Goals as goal

pub read-fields-requires : goal.read-fields-requires
read-fields-requires c =
    let size = flow_size c.args.size c.requires.known in
    omega (arith, c.requires.room)

pub returns-in_err-check-2-clause-refused : goal.returns-in_err-check-2-clause-refused
returns-in_err-check-2-clause-refused c =
    let bytes = c.args.bytes.now in
    let p = err_from_is_err_and c.from_residual-in_err-check-2.result c.from_residual-in_err-check-2.ensures.1 in
    let refused = flow_refused c.read-fields.result (actions_in bytes) _ c.in_ok-check.ensures c.in_err-check-2.ensures in
    rw (p.1, p.2) (subst (λ (f : FlowModFields). Some c.in_err-check-2.field-0.0 ≡ first_failed (flow_tests f (actions_in bytes))) c.read-fields.ensures refused)

pub overflow_sub-count : goal.overflow_sub-count
overflow_sub-count c = omega (arith, flow_size c.args.size c.requires.known)

pub read_verb-requires-clause-few : goal.read_verb-requires-clause-few
read_verb-requires-clause-few c = omega (arith, flow_most c.args.size c.requires.known)

pub read_verb-requires-clause-room : goal.read_verb-requires-clause-room
read_verb-requires-clause-room c =
    let size = flow_size c.args.size c.requires.known in
    omega (arith, c.requires.room)

pub u32_at-requires : goal.u32_at-requires
u32_at-requires c =
    let size = flow_size c.args.size c.requires.known in
    omega (arith, c.requires.room)
