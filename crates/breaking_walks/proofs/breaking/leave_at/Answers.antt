use Rattle.std.proofs.Common.{List, sym, subst}
use Rattle.net_base.specs.Members.{IsIn}
use Rattle.path_walk.specs.declared.Outcome.{Outcome}
use Rattle.path_walk.specs.declared.Outcome.TheVariants.{Leave}
use Rattle.breaking_walks.proofs.breaking.leave_at.Goals as goal

pub unreachable-requires : goal.unreachable-requires
unreachable-requires c =
    let leaves = c.requires.leaves in
    let outcome = Leave leaves.port leaves.vlan in
    let among : IsIn outcome c.in_ok-outcomes.outcomes.list = (c.in_ok-outcomes.ensures outcome).1 leaves.leaves in
    c.in-None.ensures.none leaves.port leaves.vlan (subst (λ (xs : List Outcome). IsIn outcome xs) (sym c.list.ensures) among)
