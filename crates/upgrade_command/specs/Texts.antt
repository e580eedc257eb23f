-- What `upgrade` says.
use Rattle.std.specs.Prelude.{◌≡◌, Ok}
use Rattle.topology.specs.Networks.{Network}
use Rattle.certificates.specs.declared.Plan.{Plan}
use Rattle.plan_format.specs.Plans.{plan_in}
use Rattle.plan_text.specs.PlanText.{plan_text}
use Rattle.command_base.specs.declared.status.Status.TheVariants as status
use Rattle.command_base.specs.Answers.{Answer}
use Rattle.command_base.specs.Updates.{PlanMeaning}

-- the answer is the text of the plan, which means the plan
pub record SaysPlan (net : Network) (p : Plan) (answer : Answer) : Type 0 where
  pub answer_is : answer ≡ record { status = status.Done; text = plan_text net p }
  pub means : plan_in net (plan_text net p) ≡ Ok p

-- the answer of `upgrade`: the text of the plan that was read
abbrev pub IsUpgradeAnswer : PlanMeaning → Answer → Type 0
IsUpgradeAnswer m answer = SaysPlan m.net m.plan answer
