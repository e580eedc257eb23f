-- What an update is planned over, for the classes and the duties that were made.
use Rattle.std.proofs.Common.{◌≡◌, List, [], ◌++◌, map, sym, subst}
use Rattle.flow_rules.specs.Tables.{table_blocks}
use Rattle.flow_rules.specs.declared.rules.Rule.{Rule}
use Rattle.dest_classes.specs.Classes.{ClassList}
use Rattle.net_base.proofs.MemberLaws.{in_append_left, in_append_right}
use Rattle.update_model.specs.Changes.{round_blocks}
use Rattle.demands.specs.Duties.{ClassDuties}
use Rattle.demands.specs.Good.{HasGoodPaths}
use Rattle.demands.specs.OfClass.{AreCovered}
use Rattle.demands.proofs.RowLaws.{each_there}
use Rattle.certificates.specs.Trees.{IsTreeUpdate}
use Rattle.certificates.specs.Updates.{Update}
use Rattle.round_planner.specs.Updates.{update_classes, bare_task}

module _ (u : Update) where
  -- a tree update, for the duties that were made
  pub tree_for : (duties : ClassDuties) (classes : ClassList) → duties ≡ record { demands = u.demands; classes = classes } → IsTreeUpdate (bare_task u)
      → IsTreeUpdate (record { update = record { net = u.net; old = u.old; new = u.new; demands = duties.demands }; rounds = [] })
  tree_for duties classes made tree =
      subst (λ (d : ClassDuties). IsTreeUpdate (record { update = record { net = u.net; old = u.old; new = u.new; demands = d.demands }; rounds = [] })) (sym made) tree

  module _ (classes : ClassList) (are : classes ≡ update_classes u) where
    pub covered : AreCovered u.demands classes
    covered = subst (λ c. AreCovered u.demands c) (sym are) (each_there u.demands (update_classes u).prefixes
        (λ b i. in_append_left b (table_blocks u.old ++ table_blocks u.new ++ map (λ d. d.dst) u.demands) (round_blocks [])
        (in_append_right b (table_blocks u.old ++ table_blocks u.new) (map (λ d. d.dst) u.demands) i)))

    pub good_back : (duties : ClassDuties) → duties ≡ record { demands = u.demands; classes = classes } → (tables : List (List Rule)) → HasGoodPaths u.net tables u.demands (update_classes u) → HasGoodPaths u.net tables duties.demands classes
    good_back duties made tables good = subst (λ d. HasGoodPaths u.net tables d.demands classes) (sym made) (subst (λ c. HasGoodPaths u.net tables u.demands c) (sym are) good)
