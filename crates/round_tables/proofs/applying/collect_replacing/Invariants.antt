use Rattle.std.proofs.Common.{◌≡◌, ◌≤◌, take, vec_len, vec_capacity}
use Rattle.round_tables.specs.ByKind.{replacing_rules}
use Rattle.round_tables.proofs.applying.collect_replacing.Given as goal

abbrev pub invariant-loop-change : goal.invariant-loop-change
invariant-loop-change l =
    (l.rules.items ≡ replacing_rules (take l.change-index l.changes)) × (vec_len l.rules ≤ l.change-index) × (vec_capacity l.initial.rules ≤ vec_capacity l.rules)
