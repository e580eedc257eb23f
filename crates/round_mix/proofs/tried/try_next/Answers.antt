use Rattle.std.proofs.Common.{sym, subst}
use Rattle.update_model.specs.declared.Change.{Change}
use Rattle.round_mix.specs.Named.{IsUnnamed}
use Rattle.round_mix.specs.Tried.{IsRefusedNext}
use Rattle.round_mix.proofs.tried.try_next.Goals as goal

pub returns-in-Delete-clause-never : goal.returns-in-Delete-clause-never
returns-in-Delete-clause-never c off =
    let marks = c.args.marks.now.items in
    subst (λ (d : Change). IsRefusedNext d marks) (sym c.in-Delete.is) (subst (λ (d : Change). IsUnnamed d marks) c.in-Delete.is (c.mark_named.ensures.none off))

pub returns-in-Replace-clause-never : goal.returns-in-Replace-clause-never
returns-in-Replace-clause-never c off =
    let marks = c.args.marks.now.items in
    subst (λ (d : Change). IsRefusedNext d marks) (sym c.in-Replace.is) (subst (λ (d : Change). IsUnnamed d marks) c.in-Replace.is (c.mark_named-in-Replace.ensures.none off))
