use Rattle.std.proofs.Common.{◌≡◌, drop}
use Rattle.law_two_way_runs.specs.Inverse.{rule_with}
use Rattle.round_inverses.proofs.inverses.rule_with.Given as goal

abbrev pub invariant-loop-one : goal.invariant-loop-one
invariant-loop-one l = rule_with (drop l.one-index l.rules) l.rule.key l.rule ≡ rule_with l.rules l.rule.key l.rule
