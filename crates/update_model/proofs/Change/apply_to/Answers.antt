use Rattle.std.proofs.Common.{subst}
use Rattle.net_base.proofs.MemberLaws.{in_map}
use Rattle.flow_rules.specs.declared.rules.Rule.{Rule}
use Rattle.update_model.specs.Changes.{AppliesTo}
use Rattle.update_model.specs.declared.Change.{Change}
use Rattle.update_model.proofs.Change.apply_to.Goals as goal

pub delete-requires : goal.delete-requires
delete-requires c = record {
  present = in_map (λ (r : Rule). r.key) c.in-Delete.rule c.args.table.now.rules
      (subst (λ (x : Change). AppliesTo c.args.table.now.rules x) c.in-Delete.is c.requires.applies);
}
