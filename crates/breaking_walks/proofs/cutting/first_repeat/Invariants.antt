use Rattle.std.proofs.Common.{take}
use Rattle.net_base.specs.Members.{IsDistinct}
use Rattle.certificates.specs.Steps.{switches_along}
use Rattle.breaking_walks.proofs.cutting.first_repeat.Given as goal

abbrev pub invariant-loop-i : goal.invariant-loop-i
invariant-loop-i l = IsDistinct (switches_along l.entry (take l.i l.rest))
