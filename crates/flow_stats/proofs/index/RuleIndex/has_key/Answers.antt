use Rattle.std.proofs.Common.{Some, refl, ◌∙◌}
use Rattle.flow_rules.specs.Patterns.{key_eq}
use Rattle.flow_rules.specs.declared.rules.Rule.{Rule}
use Rattle.flow_stats.specs.declared.index.Area.TheVariants.{Exactly}
use Rattle.flow_stats.specs.declared.index.Mark.{Mark}
use Rattle.flow_stats.specs.Index.{is_mark_of}
use Rattle.flow_stats.proofs.MarkLaws.{any_same, own_mark}
use Rattle.flow_stats.proofs.index.RuleIndex.has_key.Goals as goal

pub returns : goal.returns
returns c rules index =
    let k = c.args.key.now in
    let m : Mark = record { group = record { switch = c.args.switch; priority = k.priority; in_port = Some k.pattern.in_port; vlan = Some k.pattern.vlan }; area = Exactly k.pattern.dst } in
    c.has.ensures ∙ index.stand m refl ∙ any_same (λ (r : Rule). is_mark_of m r.key) (λ (q : Rule). key_eq q.key k) (λ q. own_mark c.args.switch q.key k) rules
