use Rattle.net_base.specs.declared.ids.SwitchId.{SwitchId}
use Rattle.waypoint_evidence.specs.Befores.{Holds}
use Rattle.waypoint_evidence.proofs.GrowLaws.{all_members, members_all}
use Rattle.waypoint_evidence.proofs.closed.Goals as goal

pub returns-then-is_before_set : goal.returns-then-is_before_set
returns-then-is_before_set c = (
  λ e. record {
    before = c.is_before_set.ensures.0 c.if-is_before_set.true;
    keeps = all_members (λ (s : SwitchId). ¬ Holds c.args.before.now s) c.args.leaving.now (c.holds_none.ensures.0 e);
  },
  λ guard. c.holds_none.ensures.1 (members_all (λ (s : SwitchId). ¬ Holds c.args.before.now s) c.args.leaving.now guard.keeps),
)
