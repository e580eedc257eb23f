use Rattle.std.proofs.Common.{◌≡◌, ◌≤◌, ◌<◌, ◌++◌, length, map, drop, vec_len, vec_capacity}
use Rattle.path_walk.specs.Outcomes.{action_outcome, header_at}
use Rattle.round_mix.specs.Scan.{scan}
use Rattle.round_mix.specs.Among.{picked_marks}
use Rattle.round_mix.proofs.put_among.Given as goal

abbrev pub invariant-loop-i : goal.invariant-loop-i
invariant-loop-i l = (
    l.outcomes.items ++ map (action_outcome l.net l.place) (scan (header_at l.place l.dst) (picked_marks l.rules (drop l.i l.positions))) ≡ map (action_outcome l.net l.place) (scan (header_at l.place l.dst) (picked_marks l.rules l.positions))) ×
    (vec_len l.outcomes ≤ l.i) × (length l.positions < vec_capacity l.outcomes) × (vec_capacity l.initial.outcomes ≤ vec_capacity l.outcomes)
