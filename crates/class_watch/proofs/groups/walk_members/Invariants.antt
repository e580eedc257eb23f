use Rattle.std.proofs.Common.{ℕ, take}
use Rattle.net_base.specs.Members.{IsIn}
use Rattle.dest_classes.specs.declared.NumberedClass.{NumberedClass}
use Rattle.update_model.specs.Mixtures.{Rollout}
use Rattle.mixed_walks.specs.Walks.{IsRoundOf, AreTogether}
use Rattle.class_watch.proofs.groups.walk_members.Given as goal

abbrev pub invariant-loop-member : goal.invariant-loop-member
invariant-loop-member l = record {
  together : (u : Rollout) (k : ℕ) → IsRoundOf l.round.net.now l.round.mixes.now u k → AreTogether u k l.fn.group.address l.fn.group.vlan l.walk;
  entries : (m : NumberedClass) → IsIn m (take l.member-index l.members) → IsIn m.class.entry l.walk.places;
}
