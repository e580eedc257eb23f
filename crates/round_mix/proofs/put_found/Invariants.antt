use Rattle.std.proofs.Common.{◌≡◌, ◌+◌, ◌≤◌, ◌<◌, ◌++◌, length, map, drop, vec_len, vec_capacity}
use Rattle.path_walk.specs.Outcomes.{action_outcome, header_at}
use Rattle.round_mix.specs.Scan.{scan}
use Rattle.round_mix.proofs.put_found.Given as goal

abbrev pub invariant-loop : goal.invariant-loop
invariant-loop l = (
    l.outcomes.items ++ map (action_outcome l.net l.packet.place) (scan (header_at l.packet.place l.packet.dst) (drop l.from l.rules))
    ≡ l.initial.outcomes.items ++ map (action_outcome l.net l.packet.place) (scan (header_at l.packet.place l.packet.dst) l.rules)) ×
    (l.from ≤ length l.rules) × (vec_len l.outcomes + length l.rules < vec_capacity l.outcomes + l.from) × (vec_capacity l.initial.outcomes ≤ vec_capacity l.outcomes)
