use Rattle.std.proofs.Common.{option_map}
use Rattle.plan_waits.proofs.TextAgain.{waits_are_again, plan_is_again}
use Rattle.plan_waits.proofs.write.write_plan_with_waits.Goals as goal

pub returns-clause-plan_again : goal.returns-clause-plan_again
returns-clause-plan_again c = plan_is_again c.args.net.now c.args.plan.now (option_map (λ w. w.now) c.args.waits) c.keeps_rules.ensures c.requires.valid

pub returns-clause-waits_again : goal.returns-clause-waits_again
returns-clause-waits_again c = waits_are_again c.args.net.now c.args.plan.now (option_map (λ w. w.now) c.args.waits) c.requires.may
