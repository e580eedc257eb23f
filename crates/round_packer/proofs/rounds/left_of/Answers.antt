use Rattle.std.proofs.Common.{◌≡◌, List, Vec, Global, ap, subst}
use Rattle.std.specs.Prelude.{IfOk}
use Rattle.flow_rules.specs.Tables.{rules_of_all}
use Rattle.flow_rules.specs.declared.rules.Rule.{Rule}
use Rattle.update_model.specs.Remaining.{remaining_changes}
use Rattle.update_model.specs.declared.Change.{Change}
use Rattle.table_difference.specs.Targets.{Target}
use Rattle.round_packer.proofs.rounds.left_of.Goals as goal

pub returns : goal.returns
returns c =
    subst (λ (new : List (List Rule)). IfOk c.remaining.result (λ (left : Vec Change Global). left.items ≡ remaining_changes (rules_of_all c.args.trial.now.tables) new)) (ap (λ (a : Target). a.new) c.goal.view_is)
    (subst (λ (tables : List (List Rule)). IfOk c.remaining.result (λ (left : Vec Change Global). left.items ≡ remaining_changes tables (rules_of_all c.goal.inside.new.now))) (ap rules_of_all c.tables.ensures) c.remaining.ensures)
