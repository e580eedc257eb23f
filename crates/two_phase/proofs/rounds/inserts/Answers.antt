use Rattle.std.proofs.Common.{rules, tests, Ok}
use Rattle.std.proofs.lemmas.Iterator.{YieldsList-from_slice, items_from_collect}
use Rattle.std.proofs.lemmas.Iterator.Consumers.{YieldsList-at, YieldsList-from_copied, YieldsList-from_filter}
use Rattle.update_model.specs.Mixtures.{is_insert}
use Rattle.two_phase.proofs.rounds.inserts.Goals as goal

pub returns : goal.returns
returns c =
    items_from_collect {E = Unit {0}} (Ok c.in_ok-collect.field-0) c.in_ok-collect.ensures.ran
    (YieldsList-from_filter _ is_insert (YieldsList-at c.filter-inserts.ensures.source (YieldsList-from_copied (YieldsList-at c.copied.ensures.source (YieldsList-from_slice c.args.changes.now cc))))
    c.filter-inserts.ensures.closure (λ x b q k. search (rules, tests)))
