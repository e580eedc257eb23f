-- Changes of a round that are made together, to see which outcome they give a place.
use Rattle.std.specs.Prelude.{◌≡◌, ℕ, suc, ◌==◌, ◌&&◌, nat_lt, not, cond, Bool, true, false, List, [], ◌∷◌, filter, Option, Some, None}
use Rattle.net_base.specs.declared.ids.SwitchId.{SwitchId}
use Rattle.net_base.specs.declared.ids.Place.{Place}
use Rattle.topology.specs.Networks.{Network}
use Rattle.flow_rules.specs.Patterns.{Header, covers, key_eq}
use Rattle.flow_rules.specs.declared.rules.Key.{Key}
use Rattle.flow_rules.specs.declared.rules.Rule.{Rule}
use Rattle.path_walk.specs.Outcomes.{header_at, outcome}
use Rattle.path_walk.specs.declared.Outcome.{Outcome}
use Rattle.update_model.specs.Changes.{switch_of, rule_of, rules_after}
use Rattle.update_model.specs.Mixtures.{is_delete}
use Rattle.update_model.specs.declared.Change.{Change}
use Rattle.outcome_changes.specs.declared.trying.Trial.{Trial}

-- whether a change is at the switch
abbrev pub is_at : SwitchId → Change → Bool
is_at s c = (switch_of c).0 == s.0

-- whether a change's pattern covers the packet
abbrev pub covers_packet : Header → Change → Bool
covers_packet h c = covers (rule_of c).key.pattern h

-- whether the key is the turned one
abbrev pub is_turned : Option Key → Key → Bool
is_turned None k = false
is_turned (Some turned) k = key_eq k turned

-- whether the key is above the turned one, if there is one
abbrev pub is_above : Option Key → Key → Bool
is_above None k = true
is_above (Some turned) k = nat_lt turned.priority k.priority

-- whether a change is tried for a packet: it covers it and deletes above the turned key; or, of the turned key, doesn't delete
abbrev pub is_tried : Header → Option Key → Change → Bool
is_tried h turned c = covers_packet h c && cond (is_turned turned (rule_of c).key) (not (is_delete c)) (is_delete c && is_above turned (rule_of c).key)

-- whether a trial takes a change: it is at the switch and is tried
abbrev pub takes : Trial → Change → Bool
takes t c = is_at t.place.switch c && is_tried (header_at t.place t.dst) t.turned c

-- the numbers of the changes that pass a test, the first change having this number
abbrev pub numbers_where : ℕ → (Change → Bool) → List Change → List ℕ
numbers_where n p [] = []
numbers_where n p (c ∷ cs) = cond (p c) (n ∷ numbers_where (suc n) p cs) (numbers_where (suc n) p cs)

-- a trial at a place
abbrev pub trial_of : Place → ℕ → Option Key → Trial
trial_of place dst turned = record { place = place; dst = dst; turned = turned }

-- the outcome after the changes that a trial takes
abbrev pub outcome_after : Network → List Rule → List Change → Trial → Outcome
outcome_after net rules round t = outcome net (rules_after (filter (takes t) round) rules) t.place t.dst

-- the change isn't at the switch of the place, or doesn't cover the packet, or the trial that turns its key gives another outcome
abbrev pub FailsWith : Network → List Rule → List Change → Place → ℕ → Outcome → Change → Type 0
FailsWith net rules round place dst wanted c =
    is_at place.switch c ≡ true → covers_packet (header_at place dst) c ≡ true → ¬ (outcome_after net rules round (trial_of place dst (Some (rule_of c).key)) ≡ wanted)
