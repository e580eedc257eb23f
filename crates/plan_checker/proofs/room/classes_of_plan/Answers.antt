use Rattle.std.proofs.Common.{◌≡◌, sym, ap, ◌∙◌, subst}
use Rattle.dest_classes.specs.Classes.{classes_of}
use Rattle.demands.specs.OfClass.{AreCovered}
use Rattle.certificates.specs.Certified.{classes_for}
use Rattle.certificates.specs.Laws.{task_of}
use Rattle.plan_checker.proofs.PrefixLaws.{covered}
use Rattle.plan_checker.proofs.room.classes_of_plan.Goals as goal

pub make-requires : goal.make-requires
make-requires c =
    let t = task_of c.args.net.now c.args.old.now c.args.new.now c.args.demands.now c.args.plan.now in
    let are : classes_for t ≡ classes_of c.args.net.now c.deref.result.now = ap (classes_of c.args.net.now) (sym (c.deref.ensures.value ∙ c.in_ok-prefixes.ensures)) in
    subst (AreCovered c.args.demands.now) are (covered t)
