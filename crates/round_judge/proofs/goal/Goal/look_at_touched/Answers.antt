use Rattle.std.proofs.Common.{sym, ap, subst}
use Rattle.dest_classes.specs.Classes.{ClassList}
use Rattle.class_watch.specs.Classes.{AreClasses}
use Rattle.table_difference.specs.Targets.{Target}
use Rattle.round_judge.proofs.goal.Goal.look_at_touched.Goals as goal

pub returns-clause-touched : goal.returns-clause-touched
returns-clause-touched c =
    let listed = subst (AreClasses c.self.inside.classes.now) (sym c.deref.ensures.value) c.self.invariant.listed in
    c.look_at_touched.ensures.touched c.args.self.now.classes (subst (λ (cs : ClassList). AreClasses cs c.deref.result.now) (ap (λ (a : Target). a.classes) c.self.view_is) listed) c.requires
