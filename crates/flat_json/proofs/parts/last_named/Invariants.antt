use Rattle.std.proofs.Common.{◌≡◌, map, drop, None, option_map}
use Rattle.flat_json.proofs.Lookups.{last_value}
use Rattle.flat_json.proofs.parts.last_named.Given as goal

abbrev pub invariant-loop-i : goal.invariant-loop-i
invariant-loop-i l = last_value l.name (map (λ k. k.now) (drop l.i l.keys)) (drop l.i l.values) (option_map (λ v. v.now) l.found) ≡ last_value l.name (map (λ k. k.now) l.keys) l.values None
