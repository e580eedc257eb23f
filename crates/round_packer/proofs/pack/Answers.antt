use Rattle.std.proofs.Common.{sym, subst}
use Rattle.std.specs.Prelude.{IfOk}
use Rattle.flow_rules.specs.Tables.{rules_of_all}
use Rattle.dest_classes.specs.Classes.{ClassList}
use Rattle.table_difference.specs.Targets.{Target}
use Rattle.round_packer.specs.Ends.{IsPacking}
use Rattle.round_packer.proofs.pack.Goals as goal

pub invariant_of-goal : goal.invariant_of-goal
invariant_of-goal c = record {
  user = c.requires.new;
  duties_of_them = c.requires.duties;
  hosts = c.requires.hosts;
  listed = c.in_ok-list.ensures;
}

pub packing_of-requires : goal.packing_of-requires
packing_of-requires c = record { old = c.requires.old }

pub returns : goal.returns
returns c =
    let to : ClassList → Target = λ classes. record { net = c.args.net.now; new = rules_of_all c.args.new.now; demands = c.args.duties.now.demands; classes = classes } in
    subst (λ (classes : ClassList). IfOk c.packing_of.result (IsPacking (to classes) (rules_of_all c.args.old.now))) (sym c.requires.duties) c.packing_of.ensures
