use Rattle.std.proofs.Common.{sym, ap, ◌∙◌, subst, refl, inl}
use Rattle.std.proofs.lemmas.Result.{IfOk-weaker}
use Rattle.flow_rules.specs.Tables.{rules_of_all}
use Rattle.dest_classes.specs.Classes.{ClassList, classes_of}
use Rattle.dest_classes.specs.Numbered.{IsCauseOf}
use Rattle.demands.specs.OfClass.{AreCovered}
use Rattle.config_command.specs.Verdicts.{classes_under}
use Rattle.config_command.proofs.VerdictLaws.{covered}
use Rattle.paths_command.proofs.listing.listing_of.Goals as goal

pub make-requires : goal.make-requires
make-requires c =
    let tables = rules_of_all c.args.config.now in
    let are = ap (classes_of c.args.net.now) (c.deref.ensures.value ∙ c.in_ok-prefixes.ensures) in
    subst (AreCovered c.args.demands.now) (sym are) (covered c.args.net.now tables c.args.demands.now (classes_under c.args.net.now tables c.args.demands.now) refl)

pub returns : goal.returns
returns c =
    let tables = rules_of_all c.args.config.now in
    let classes = classes_under c.args.net.now tables c.args.demands.now in
    let are = ap (classes_of c.args.net.now) (c.deref.ensures.value ∙ c.in_ok-prefixes.ensures) in
    IfOk-weaker c.no_classes_reply.result _ _ (λ r says. inl (says classes (subst (λ (cs : ClassList). IsCauseOf cs c.in-Err.fault) are c.in-Err.ensures.err))) c.no_classes_reply.ensures
