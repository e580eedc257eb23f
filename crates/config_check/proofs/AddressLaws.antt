-- Addresses of one class have the same paths and duties.
use Rattle.std.proofs.Common.{◌≡◌, ℕ, List, [], map, sym, ◌∙◌, subst, ap}
use Rattle.std.specs.List.{AllByRecursion}
use Rattle.net_base.specs.Blocks.{Block, in_block, IsSameClass}
use Rattle.net_base.specs.Members.{IsIn}
use Rattle.net_base.specs.Walks.{end_of}
use Rattle.net_base.proofs.WalkLaws.{walk_weaker}
use Rattle.net_base.proofs.MemberLaws.{each_at, each_from_in, each_get_or, in_map}
use Rattle.net_base.proofs.ListLaws.{in_flat_map}
use Rattle.net_base.specs.declared.ids.Place.{Place}
use Rattle.topology.specs.Networks.{Network}
use Rattle.flow_rules.specs.Tables.{rules_at}
use Rattle.flow_rules.specs.declared.rules.Rule.{Rule}
use Rattle.flow_rules.proofs.LookupLaws.{lookup_same}
use Rattle.path_walk.specs.Outcomes.{action_outcome}
use Rattle.path_walk.specs.Paths.{Trace, IsPath, Forwards, outcome_in, ended_by}
use Rattle.dest_classes.specs.Classes.{classes_of}
use Rattle.dest_classes.proofs.ClassLaws.{class_of}
use Rattle.demands.specs.Duties.{DemandView, PacketDuties}
use Rattle.demands.specs.Good.{HasGoodPath, HasGoodPaths, IsGood}
use Rattle.demands.proofs.DutyLaws.{duties_same}
use Rattle.config_check.specs.Everywhere.{HasPrefixes, HasGoodPathEverywhere}

module _ (net : Network) (tables : List (List Rule)) (demands : List DemandView) (blocks : List Block) (has : HasPrefixes blocks tables demands) where
  module _ (a b : ℕ) (same : IsSameClass blocks a b) where
    -- the rule covers both addresses or neither
    abbrev TreatsAlike : Rule → Type 0
    TreatsAlike r = in_block r.key.pattern.dst a ≡ in_block r.key.pattern.dst b

    tables_alike : AllByRecursion (AllByRecursion TreatsAlike) tables
    tables_alike =
        each_from_in (AllByRecursion TreatsAlike) tables
        (λ rules i. each_from_in TreatsAlike rules
        (λ r j. each_at (λ block. in_block block a ≡ in_block block b) blocks r.key.pattern.dst same
        (has.of_tables r.key.pattern.dst (in_flat_map (λ (rs : List Rule). map (λ q. q.key.pattern.dst) rs) rules r.key.pattern.dst tables i (in_map (λ (q : Rule). q.key.pattern.dst) r rules j)))))

    outcome_same : (place : Place) → outcome_in net tables place a ≡ outcome_in net tables place b
    outcome_same place =
        ap (action_outcome net place) (lookup_same place.port place.vlan a b (rules_at tables place.switch) (each_get_or (AllByRecursion TreatsAlike) tables place.switch.0 [] tables_alike tt))

    path_same : (entry : Place) (trace : Trace) → IsPath net tables entry a trace → IsPath net tables entry b trace
    path_same entry trace path = record {
      rest = path.rest;
      walk = walk_weaker (Forwards net tables a) (Forwards net tables b) (λ x y e. sym (outcome_same x) ∙ e) entry path.rest path.walk;
      stops = path.stops;
      ended = path.ended ∙ ap (ended_by (end_of entry path.rest)) (outcome_same (end_of entry path.rest));
      ends = path.ends;
    }

    -- a good path of one address is a good path of the other
    pub good_same : (entry : Place) → HasGoodPath net tables demands entry a → HasGoodPath net tables demands entry b
    good_same entry good =
        let alike = each_from_in (λ d. in_block d.dst a ≡ in_block d.dst b) demands
        (λ d i. each_at (λ block. in_block block a ≡ in_block block b) blocks d.dst same (each_at (λ q. IsIn q.dst blocks) demands d has.of_demands i)) in
        record {
          trace = good.trace;
          path = path_same entry good.trace good.path;
          good = subst (λ (duties : PacketDuties). IsGood duties good.trace) (duties_same demands entry a b alike) good.good;
        }

  -- good paths of the classes are good paths of all addresses
  pub good_everywhere : HasGoodPaths net tables demands (classes_of net blocks) → HasGoodPathEverywhere net tables demands
  good_everywhere good entry dst is fits =
      let (n, first, is_class, same) = class_of blocks dst fits net entry is in
      good_same first dst same entry (good n (record { entry = entry; first = first }) is_class)
