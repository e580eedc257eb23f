use Rattle.certificates.proofs.Chains.{all_from}
use Rattle.breaking_walks.proofs.PassLaws.{never_back}
use Rattle.breaking_walks.proofs.passing.is_passed_once.Goals as goal

pub returns-then-all_lead_on : goal.returns-then-all_lead_on
returns-then-all_lead_on c on = never_back _ c.args.switch c.args.steps.now (all_from _ c.args.steps.now (c.all_lead_on.ensures c.if-all_lead_on.true))
