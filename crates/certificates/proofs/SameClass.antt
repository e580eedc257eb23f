-- Addresses that no prefix tells apart have the same possible outcomes.
use Rattle.std.proofs.Common.{◌≡◌, ◌↔◌, ℕ, List, [], ◌∷◌, ◌++◌, map, sym, ◌∙◌, ap}
use Rattle.std.specs.Prelude.{flat_map}
use Rattle.std.specs.List.{AllByRecursion}
use Rattle.net_base.specs.Blocks.{Block, IsSameClass, in_block}
use Rattle.net_base.proofs.MemberLaws.{each_first, each_last, each_from_map, each_weaker}
use Rattle.net_base.specs.declared.ids.Place.{Place}
use Rattle.flow_rules.specs.declared.rules.Rule.{Rule}
use Rattle.flow_rules.proofs.LookupLaws.{lookup_same}
use Rattle.path_walk.specs.Outcomes.{action_outcome}
use Rattle.path_walk.specs.declared.Outcome.{Outcome}
use Rattle.update_model.specs.Changes.{rule_of}
use Rattle.update_model.specs.Mixtures.{IsPossible}
use Rattle.update_model.specs.declared.Change.{Change}
use Rattle.update_model.proofs.HeldLaws.{each_held, EachRuleOf}
use Rattle.demands.specs.Duties.{DemandView}
use Rattle.certificates.specs.Updates.{Task, rollout}
use Rattle.certificates.specs.Certified.{blocks_of}
use Rattle.flow_rules.specs.Tables.{table_blocks}

each_from_flat : {A B : Type 0} (P : B → Type 0) (f : A → List B) (xs : List A) → AllByRecursion P (flat_map f xs) → AllByRecursion (λ x. AllByRecursion P (f x)) xs
each_from_flat P f [] all = tt
each_from_flat P f (x ∷ xs) all = (each_first P (f x) (flat_map f xs) all, each_from_flat P f xs (each_last P (f x) (flat_map f xs) all))

-- both addresses lie in the rule's prefix, or neither does
abbrev pub TreatsAlike : ℕ → ℕ → Rule → Type 0
TreatsAlike a b r = in_block r.key.pattern.dst a ≡ in_block r.key.pattern.dst b

-- both addresses lie in the block, or neither does
abbrev SameIn : ℕ → ℕ → Block → Type 0
SameIn a b block = in_block block a ≡ in_block block b

pub tables_alike : (a b : ℕ) (tables : List (List Rule)) → AllByRecursion (SameIn a b) (table_blocks tables) → AllByRecursion (AllByRecursion (TreatsAlike a b)) tables
tables_alike a b tables all =
    each_weaker (λ rules. AllByRecursion (SameIn a b) (map (λ r. r.key.pattern.dst) rules)) (AllByRecursion (TreatsAlike a b))
    (λ rules h. each_from_map (λ (r : Rule). r.key.pattern.dst) (SameIn a b) rules h) tables
    (each_from_flat (SameIn a b) (λ rules. map (λ r. r.key.pattern.dst) rules) tables all)

rounds_alike : (a b : ℕ) (rounds : List (List Change)) → AllByRecursion (SameIn a b) (flat_map (λ round. map (λ c. (rule_of c).key.pattern.dst) round) rounds)
    → AllByRecursion (EachRuleOf (TreatsAlike a b)) rounds
rounds_alike a b rounds all =
    each_weaker (λ round. AllByRecursion (SameIn a b) (map (λ c. (rule_of c).key.pattern.dst) round)) (EachRuleOf (TreatsAlike a b))
    (λ round h. each_from_map (λ (c : Change). (rule_of c).key.pattern.dst) (SameIn a b) round h) rounds
    (each_from_flat (SameIn a b) (λ round. map (λ c. (rule_of c).key.pattern.dst) round) rounds all)

one_way : (t : Task) (a b : ℕ) → IsSameClass (blocks_of t.update.old t.update.new t.update.demands t.rounds) a b
    → (k : ℕ) (place : Place) (found : Outcome) → IsPossible (rollout t) k a place found → IsPossible (rollout t) k b place found
one_way t a b same k place found possible =
    let old = table_blocks t.update.old in
    let new = table_blocks t.update.new in
    let asked = map (λ (d : DemandView). d.dst) t.update.demands in
    let changed = flat_map (λ (round : List Change). map (λ c. (rule_of c).key.pattern.dst) round) t.rounds in
    let front = each_first (SameIn a b) ((old ++ new) ++ asked) changed same in
    let tables = tables_alike a b t.update.old (each_first (SameIn a b) old new (each_first (SameIn a b) (old ++ new) asked front)) in
    let rounds = rounds_alike a b t.rounds (each_last (SameIn a b) ((old ++ new) ++ asked) changed same) in
    record {
      mixed = possible.mixed;
      held = possible.held;
      is = possible.is ∙ ap (action_outcome t.update.net place) (lookup_same place.port place.vlan a b possible.mixed (each_held (TreatsAlike a b) (rollout t) k place.switch possible.mixed tables rounds possible.held));
    }

pub same_outcomes : (t : Task) (a b : ℕ) → IsSameClass (blocks_of t.update.old t.update.new t.update.demands t.rounds) a b
    → (k : ℕ) (place : Place) (found : Outcome) → IsPossible (rollout t) k a place found ↔ IsPossible (rollout t) k b place found
same_outcomes t a b same k place found = (
  one_way t a b same k place found,
  one_way t b a (each_weaker (SameIn a b) (SameIn b a) (λ _ e. sym e) (blocks_of t.update.old t.update.new t.update.demands t.rounds) same) k place found,
)
