use Rattle.std.proofs.Common.{◌≡◌, take, drop, map, cond, ◌++◌, length, vec_len, vec_capacity}
use Rattle.flow_rules.specs.Patterns.{key_eq}
use Rattle.flow_rules.proofs.tables.replace_in.Given as goal

abbrev pub invariant-loop-i : goal.invariant-loop-i
invariant-loop-i l =
    (length l.rules.items ≡ length l.initial.rules.items)
    × (l.rules.items ≡ map (λ q. cond (key_eq q.key l.rule.key) l.rule q) (take l.i l.initial.rules.items) ++ drop l.i l.initial.rules.items)
    × (vec_len l.rules ≡ vec_len l.initial.rules) × (vec_capacity l.rules ≡ vec_capacity l.initial.rules)
