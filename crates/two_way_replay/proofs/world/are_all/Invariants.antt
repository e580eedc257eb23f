use Rattle.std.proofs.Common.{◌≡◌, drop}
use Rattle.std.specs.List.{AllByRecursion}
use Rattle.std.specs.Prelude.{◌↔◌}
use Rattle.two_way_replay.proofs.world.are_all.Given as goal

abbrev pub invariant-loop-flag : goal.invariant-loop-flag
invariant-loop-flag l = AllByRecursion (λ b. b ≡ l.on) (drop l.flag-index l.flags) ↔ AllByRecursion (λ b. b ≡ l.on) l.flags
