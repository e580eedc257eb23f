use Rattle.std.proofs.Common.{◌≡◌, ◌++◌, length, map, take, drop, vec_len, vec_capacity}
use Rattle.flow_rules.specs.Replaced.{in_place_of}
use Rattle.flow_rules.proofs.replaces.replace_sorted.Given as goal

abbrev pub invariant-loop-i : goal.invariant-loop-i
invariant-loop-i l =
    (length l.rules.items ≡ length l.initial.rules.items)
    × (l.rules.items ≡ map (in_place_of l.others) (take l.i l.initial.rules.items) ++ drop l.i l.initial.rules.items)
    × (vec_len l.rules ≡ vec_len l.initial.rules) × (vec_capacity l.rules ≡ vec_capacity l.initial.rules)
