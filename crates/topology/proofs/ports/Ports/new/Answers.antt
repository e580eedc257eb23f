use Rattle.std.proofs.Common.{List, map, sym, subst}
use Rattle.topology.specs.Ends.{AreCounts}
use Rattle.topology.proofs.PortLaws.{Entry, port_of, zeros_of, none_counted}
use Rattle.topology.proofs.ports.Ports.new.Goals as goal
use Rattle.net_base.specs.Switches.{most_switches}

pub invariant_of-result : goal.invariant_of-result
invariant_of-result c = subst (λ (es : List Entry). AreCounts (zeros_of most_switches) (map port_of es)) (sym c.new.ensures.empty) (none_counted most_switches)
