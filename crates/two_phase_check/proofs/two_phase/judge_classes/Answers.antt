use Rattle.std.proofs.Common.{List, Option, sym, subst}
use Rattle.two_phase_check.specs.Kept.{AreKept}
use Rattle.two_phase_check.specs.declared.keeping.KeptPlace.{KeptPlace}
use Rattle.two_phase_check.proofs.KeepLaws.{none_kept}
use Rattle.two_phase_check.proofs.two_phase.judge_classes.Goals as goal

pub all_keep-requires-clause-known : goal.all_keep-requires-clause-known
all_keep-requires-clause-known c =
    subst (λ (known : List (Option KeptPlace)). AreKept c.args.round.now.task c.args.round.now.number known) (sym c.forget.ensures) (none_kept c.args.round.now.task c.args.round.now.number _)

pub returns-then-all_keep-clause-none : goal.returns-then-all_keep-clause-none
returns-then-all_keep-clause-none c = c.all_keep.ensures.keep c.if-all_keep.true
