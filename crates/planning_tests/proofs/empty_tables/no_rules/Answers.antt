use Rattle.std.proofs.Common.{◌≡◌, [], replicate}
use Rattle.std.proofs.lemmas.Result.{IfOk-weaker}
use Rattle.flow_rules.specs.Tables.{rules_of_all}
use Rattle.path_walk.specs.UserConfigs.{IsUserConfig}
use Rattle.planning_tests.proofs.EmptyLaws.{empty_user}
use Rattle.planning_tests.proofs.empty_tables.no_rules.Goals as goal

pub returns : goal.returns
returns c = IfOk-weaker c.make.result (λ t. rules_of_all t ≡ replicate c.switches.result []) (λ t. IsUserConfig c.args.net.now (rules_of_all t)) (λ t is. empty_user c.args.net.now (rules_of_all t) c.switches.result is c.switches.ensures.value) c.make.ensures.tables
