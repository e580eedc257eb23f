use Rattle.std.proofs.Common.{sym, ap, ◌∙◌, subst, refl}
use Rattle.dest_classes.specs.Classes.{classes_of}
use Rattle.demands.specs.OfClass.{AreCovered}
use Rattle.command_base.specs.Updates.{meaning_of}
use Rattle.round_planner.specs.Updates.{update_classes}
use Rattle.round_planner.proofs.UpdateLaws.{covered}
use Rattle.sample_command.proofs.planning.few_classes.Goals as goal

pub make-requires : goal.make-requires
make-requires c =
    let u = meaning_of c.args.files.now in
    let are = ap (classes_of u.net) (c.deref.ensures.value ∙ c.in_ok-prefixes.ensures) in
    subst (AreCovered u.demands) (sym are) (covered u (update_classes u) refl)
