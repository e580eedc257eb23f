-- When two rules are the same.
use Rattle.std.specs.Prelude.{◌==◌, ◌&&◌, Bool, true, false}
use Rattle.flow_rules.specs.Patterns.{key_eq}
use Rattle.flow_rules.specs.declared.rules.Rewrite.{Rewrite}
use Rattle.flow_rules.specs.declared.rules.Rewrite.TheVariants.{Keep, Set, Strip}
use Rattle.flow_rules.specs.declared.rules.Action.{Action}
use Rattle.flow_rules.specs.declared.rules.Action.TheVariants.{Discard, Out}
use Rattle.flow_rules.specs.declared.rules.Rule.{Rule}

-- whether two rewrites are the same
abbrev pub rewrite_eq : Rewrite → Rewrite → Bool
rewrite_eq Keep Keep = true
rewrite_eq (Set a) (Set b) = a == b
rewrite_eq Strip Strip = true
rewrite_eq _ _ = false

-- whether two actions are the same
abbrev pub action_eq : Action → Action → Bool
action_eq Discard Discard = true
action_eq (Out p r) (Out q w) = p.0 == q.0 && rewrite_eq r w
action_eq _ _ = false

-- whether two rules are the same
abbrev pub rule_eq : Rule → Rule → Bool
rule_eq a b = key_eq a.key b.key && action_eq a.action b.action
