use Rattle.std.proofs.Common.{◌-◌, ◌≤◌, length}
use Rattle.net_base.specs.Members.{IsIn}
use Rattle.dest_classes.specs.declared.NumberedClass.{NumberedClass}
use Rattle.round_survey.specs.Surveys.{KeepFirst}
use Rattle.round_survey.proofs.judge.keep_good.Given as goal

abbrev pub invariant-keeping : goal.invariant-keeping
invariant-keeping l = record {
  within : l.place ≤ length l.members.items;
  left : (m : NumberedClass) → IsIn m l.members.items → IsIn m l.initial.members.items;
  keep : KeepFirst l.seen l.duties.demands l.place l.members.items;
}

abbrev pub decreases-keeping : goal.decreases-keeping
decreases-keeping l = length l.members.items - l.place
