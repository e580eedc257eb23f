use Rattle.std.proofs.Common.{◌≤◌, List, length, sym, ◌∙◌, subst}
use Rattle.flow_rules.specs.Tables.{rules_of_all}
use Rattle.flow_rules.specs.declared.rules.Rule.{Rule}
use Rattle.path_walk.proofs.WalkedLaws.{rules_held}
use Rattle.two_phase.proofs.CountedLaws.{few_rules}
use Rattle.two_phase.proofs.needs.rules_of.Goals as goal

pub returns-clause-few : goal.returns-clause-few
returns-clause-few c =
    subst (λ (rs : List Rule). length rs ≤ 8192) (rules_held c.args.config.now c.args.s c.table.result.now c.table.ensures ∙ sym c.rules.ensures.value)
    (few_rules c.args.net.now c.keeps_rules.ensures (rules_of_all c.args.config.now) c.requires.user c.args.s c.requires.within)
