use Rattle.std.proofs.Common.{◌≡◌, List, [], map, ◌∙◌, ap}
use Rattle.flow_rules.specs.declared.rules.Rule.{Rule}
use Rattle.round_mix.specs.Marks.{all_rules, marked_rule, rules_of}
use Rattle.round_mix.proofs.ClearLaws.{ambiguous_from_clash, rules_of-marked}
use Rattle.round_mix.proofs.UnclearLaws.{clash_from_unclear}
use Rattle.round_mix.proofs.clash_of.Goals as goal

pub returns-clause-least : goal.returns-clause-least
returns-clause-least c =
    let all = all_rules c.args.table.now.rules c.args.changes.now in
    let same : c.deref.result.now ≡ map (marked_rule []) all =
    c.deref.ensures.value ∙ c.fill.ensures.items ∙ ap (λ (rs : List Rule). map (marked_rule []) (all_rules rs c.args.changes.now)) c.rules.ensures.value in
    ambiguous_from_clash c.args.table.now.rules c.args.changes.now (rules_of c.deref.result.now) c.in-Some.positions.0 c.in-Some.positions.1 c.rules.ensures.distinct c.requires.unclear.good
    (ap rules_of same ∙ rules_of-marked [] all) c.in-Some.ensures

pub unreachable-requires : goal.unreachable-requires
unreachable-requires c =
    let same : c.deref.result.now ≡ map (marked_rule []) (all_rules c.args.table.now.rules c.args.changes.now) =
    c.deref.ensures.value ∙ c.fill.ensures.items ∙ ap (λ (rs : List Rule). map (marked_rule []) (all_rules rs c.args.changes.now)) c.rules.ensures.value in
    clash_from_unclear c.args.table.now.rules c.args.changes.now [] c.deref.result.now c.rules.ensures.distinct c.requires.unclear same c.in-None.ensures
