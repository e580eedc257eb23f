use Rattle.round_survey.proofs.GateLaws.{first_split}
use Rattle.round_survey.proofs.gates.begins_with.Goals as goal

pub returns-in-len1-up : goal.returns-in-len1-up
returns-in-len1-up c on = first_split c.args.chain.now c.args.switch c.in-len1-up.len_at_least on
