-- The least before sets that were found last, for the network and the duties of a search.
use Rattle.std.proofs.Common.{◌≡◌, List, sym, subst}
use Rattle.topology.specs.Networks.{Network}
use Rattle.flow_rules.specs.Tables.{TableState, rules_of_all}
use Rattle.dest_classes.specs.Classes.{ClassList}
use Rattle.demands.specs.Duties.{ClassDuties}
use Rattle.evidence_store.specs.Last.{SetsState, HoldsLast}
use Rattle.table_difference.specs.Targets.{Target}
use Rattle.round_judge.specs.Goals.{HoldsLastOf}

module _ (to : Target) (net : Network) (new : List TableState) (d : ClassDuties) (classes : ClassList)
    (is : (let a : Target = record { net = net; new = rules_of_all new; demands = d.demands; classes = classes } in a) ≡ to) (of : d.classes ≡ classes) (last : List SetsState) where
  pub last_here : HoldsLastOf to last → HoldsLast net d last
  last_here held =
      subst (λ (cs : ClassList). HoldsLast net (record { demands = d.demands; classes = cs }) last) (sym of) (subst (λ (a : Target). HoldsLastOf a last) (sym is) held)

  pub last_back : HoldsLast net d last → HoldsLastOf to last
  last_back held =
      subst (λ (a : Target). HoldsLastOf a last) is (subst (λ (cs : ClassList). HoldsLast net (record { demands = d.demands; classes = cs }) last) of held)
