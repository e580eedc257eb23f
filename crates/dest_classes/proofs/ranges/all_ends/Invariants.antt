use Rattle.std.proofs.Common.{◌≡◌, ◌^◌, ◌∷◌, take}
use Rattle.std.specs.Prelude.{filter, flat_map, nat_lt}
use Rattle.dest_classes.specs.Classes.{block_ends}
use Rattle.dest_classes.proofs.ranges.all_ends.Given as goal

abbrev pub invariant-loop-prefix : goal.invariant-loop-prefix
invariant-loop-prefix l = l.ends.items ≡ 0 ∷ filter (λ a. nat_lt a (2 ^ 32)) (flat_map block_ends (take l.prefix-index l.prefixes))
