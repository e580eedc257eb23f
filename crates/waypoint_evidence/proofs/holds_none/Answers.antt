use Rattle.std.proofs.lemmas.Bool.{false≢true}
use Rattle.net_base.specs.declared.ids.SwitchId.{SwitchId}
use Rattle.waypoint_evidence.specs.Befores.{Holds}
use Rattle.waypoint_evidence.proofs.GrowLaws.{all_members}
use Rattle.waypoint_evidence.proofs.holds_none.Goals as goal

pub returns-in-Some : goal.returns-in-Some
returns-in-Some c = (
  λ e. absurd (false≢true e),
  λ none. absurd (all_members (λ (s : SwitchId). ¬ Holds c.args.before.now s) c.args.switches.now none c.in-Some.field-0 c.in-Some.ensures.0 c.in-Some.ensures.1),
)
