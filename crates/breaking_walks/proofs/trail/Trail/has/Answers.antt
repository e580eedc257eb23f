use Rattle.std.proofs.Common.{◌↔◌, ℕ, List, subst}
use Rattle.std.specs.Prelude.{IsTrue}
use Rattle.net_base.specs.Members.{IsIn}
use Rattle.breaking_walks.specs.Trails.{nodes_of}
use Rattle.breaking_walks.specs.declared.trail.Node.{Node}
use Rattle.breaking_walks.proofs.NodeLaws.{found_exactly}
use Rattle.breaking_walks.proofs.trail.Trail.has.Goals as goal

pub returns : goal.returns
returns c =
    subst (λ (xs : List (Node × ℕ)). IsTrue c.contains_key.result ↔ IsIn c.args.node (nodes_of xs)) c.self.view_is
    (found_exactly c.args.node c.self.inside.nodes.entries c.contains_key.result c.contains_key.ensures)
