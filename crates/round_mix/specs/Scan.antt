-- The marked scan: covering rules in descending priority, up to the first that stands in every mixture.
use Rattle.std.specs.Prelude.{Bool, true, false, cond, List, [], ◌∷◌, ◌++◌}
use Rattle.flow_rules.specs.Patterns.{Header, covers}
use Rattle.flow_rules.specs.declared.rules.Action.{Action}
use Rattle.flow_rules.specs.declared.rules.Action.TheVariants.{Discard}
use Rattle.round_mix.specs.declared.Mark.{Mark}
use Rattle.round_mix.specs.declared.Mark.TheVariants.{Sure, Possible, Replaced}
use Rattle.round_mix.specs.declared.MarkedRule.{MarkedRule}

-- the actions that a marked rule may have
abbrev pub actions_by : Mark → Action → List Action
actions_by Sure a = a ∷ []
actions_by Possible a = a ∷ []
actions_by (Replaced b) a = a ∷ b ∷ []

-- the mark of a rule that stands in every mixture, with one action or another
abbrev pub is_kept : Mark → Bool
is_kept Sure = true
is_kept Possible = false
is_kept (Replaced b) = true

-- the actions that a packet may meet
abbrev pub scan : Header → List MarkedRule → List Action
scan h [] = Discard ∷ []
scan h (m ∷ ms) =
    cond (covers m.rule.key.pattern h) (actions_by m.mark m.rule.action ++ cond (is_kept m.mark) [] (scan h ms)) (scan h ms)
