use Rattle.std.proofs.Common.{◌<◌, ◌∙◌, ◌∷◌, [], ap, length, arith, length-append}
use Rattle.topology.specs.Networks.{switch_count}
use Rattle.two_phase.specs.DeepRules.{deep_rules}
use Rattle.two_phase.proofs.SwitchLaws.{numbered, ordered_at}
use Rattle.two_phase.proofs.DeepLaws.{deep_pushed}
use Rattle.two_phase.proofs.deep_rules.deepen.Goals as goal

pub loop-number-preserved : goal.loop-number-preserved
loop-number-preserved c =
    let n = c.loop-number.number in
    let within : n < switch_count c.args.net.now = omega (arith, c.switches-number-end.ensures.value) in
    let list = c.in_ok-deepened.field-0.items in
    let longer = ap length c.in_ok-push.ensures in
    let more = length-append c.loop-number.all (list ∷ []) in
    let count = c.loop-number.invariant.1 in (
      λ given ordered.
          deep_pushed (λ s. deep_rules (given s)) n c.loop-number.all c.push.new.self list (c.loop-number.invariant.0 given ordered)
          (c.in_ok-deepened.ensures (given (numbered n)) (ordered.tables (numbered n)) (c.rules.ensures ∙ ordered_at c.args.net.now given c.args.rules.now ordered (numbered n) within)) c.in_ok-push.ensures,
      omega arith,
    )
