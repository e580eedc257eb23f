use Rattle.std.proofs.Common.{List, subst}
use Rattle.std.specs.Prelude.{IsTrue}
use Rattle.round_mix.specs.Apart.{AreApart}
use Rattle.round_mix.specs.declared.MarkedRule.{MarkedRule}
use Rattle.round_mix.proofs.UnclearLaws.{apart_by_search}
use Rattle.round_mix.proofs.kinds.are_apart_by_kind.Goals as goal

pub returns-in-Nothing-clause-apart : goal.returns-in-Nothing-clause-apart
returns-in-Nothing-clause-apart c =
    subst (λ (ms : List MarkedRule). (IsTrue c.is_none.result → AreApart ms) × (AreApart ms → IsTrue c.is_none.result)) c.deref.ensures.value
    (apart_by_search c.deref.result.now c.least_clash.result c.is_none.result c.least_clash.ensures c.is_none.ensures)
