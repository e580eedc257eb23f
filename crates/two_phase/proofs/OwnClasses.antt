-- The plan's rounds bring in no prefix of their own, so its classes are those of the configurations and the demands.
use Rattle.std.proofs.Common.{◌≡◌, ◌⊎◌, ℕ, zero, suc, ◌+◌, ◌*◌, List, [], ◌∷◌, ◌++◌, map, length, get_or, sym, ◌∙◌, subst, ap, inl, inr}
use Rattle.std.specs.Prelude.{slice_get, Some}
use Rattle.std.specs.List.{AllByRecursion}
use Rattle.net_base.specs.Blocks.{Block}
use Rattle.net_base.specs.Members.{IsIn}
use Rattle.net_base.specs.Places.{stop_of}
use Rattle.net_base.proofs.MemberLaws.{in_append_left, in_append_right, in_map, in_from_map, each_at}
use Rattle.net_base.proofs.ListLaws.{in_from_flat_map}
use Rattle.net_base.specs.declared.ids.SwitchId.{SwitchId}
use Rattle.net_base.specs.declared.ids.Vlan.{Vlan}
use Rattle.dest_classes.specs.Classes.{ClassList, IsClass, boundaries}
use Rattle.dest_classes.specs.declared.Class.{Class}
use Rattle.topology.specs.Networks.{Network, IsNetwork, switch_count}
use Rattle.flow_rules.specs.Tables.{rules_at, table_blocks}
use Rattle.flow_rules.specs.declared.rules.Rule.{Rule}
use Rattle.demands.specs.Duties.{DemandView}
use Rattle.demands.specs.Good.{HasGoodPaths}
use Rattle.path_walk.specs.UserConfigs.{IsUserConfig}
use Rattle.update_model.specs.Changes.{rule_of}
use Rattle.update_model.specs.declared.Change.{Change}
use Rattle.certificates.specs.Certified.{classes_for}
use Rattle.table_difference.specs.SameClasses.{HasSameClasses, MakeNoClasses, BringNoPrefix, classes_before, every_address}
use Rattle.two_phase.specs.Laws.{FitsTwoPhase, task_by}
use Rattle.two_phase.specs.Plans.{layered_plan, IsCertifiedWith}
use Rattle.two_phase.specs.TwoPhasePlan.{layered_rounds}
use Rattle.two_phase.specs.Layers.{laying_order, taking_order, layer_count, ingress_layer, rounds_by}
use Rattle.two_phase.specs.declared.layers.Layering.{Layering}
use Rattle.two_phase.proofs.BandLaws.{tagged_cases, ingress_cases}
use Rattle.two_phase.proofs.CertifiedLaws.{layered_certified}
use Rattle.two_phase.proofs.OwnChanges.{IsOfPlan, IsAmong, all_of_plan}

-- a class of the one list is one of the other
same_class : (a b : ClassList) → HasSameClasses a b → (n : ℕ) (class : Class) → IsClass a n class → IsClass b n class
same_class a b same n class is = record {
  host = is.host;
  vlan = is.vlan;
  atom = is.atom;
  number = is.number ∙ ap (λ (vs : List Vlan). (is.host * length vs + is.vlan) * length (boundaries a.prefixes) + is.atom) same.vlans
      ∙ ap (λ (ns : List ℕ). (is.host * length b.vlans + is.vlan) * length ns + is.atom) same.atoms;
  host_is = subst (λ hs. slice_get hs is.host ≡ Some (stop_of class.entry)) same.hosts is.host_is;
  vlan_is = subst (λ vs. slice_get vs is.vlan ≡ Some class.entry.vlan) same.vlans is.vlan_is;
  atom_is = subst (λ ns. slice_get ns is.atom ≡ Some class.first) same.atoms is.atom_is;
}

pub good_carried : (net : Network) (tables : List (List Rule)) (demands : List DemandView) (a b : ClassList) → HasSameClasses a b → HasGoodPaths net tables demands b → HasGoodPaths net tables demands a
good_carried net tables demands a b same good n class is = good n class (same_class a b same n class is)

in_blocks : (r : Rule) (tables : List (List Rule)) (n : ℕ) → IsIn r (get_or tables n []) → IsIn r.key.pattern.dst (table_blocks tables)
in_blocks r [] n i = absurd i
in_blocks r (rules ∷ tables) zero i = in_append_left r.key.pattern.dst (map (λ r. r.key.pattern.dst) rules) (table_blocks tables) (in_map (λ r. r.key.pattern.dst) r rules i)
in_blocks r (rules ∷ tables) (suc n) i = in_append_right r.key.pattern.dst (map (λ r. r.key.pattern.dst) rules) (table_blocks tables) (in_blocks r tables n i)

module _ (net : Network) (old new : List (List Rule)) where
  abbrev IsKnown : Block → Type 0
  IsKnown b = IsIn b (table_blocks old ++ table_blocks new) ⊎ (b ≡ every_address)

  of_new : (s : SwitchId) (r : Rule) → IsIn r (rules_at new s) → IsKnown r.key.pattern.dst
  of_new s r i = inl (in_append_right r.key.pattern.dst (table_blocks old) (table_blocks new) (in_blocks r new s.0 i))

  known_rule : (s : SwitchId) (r : Rule) → IsAmong net old new s r → IsKnown r.key.pattern.dst
  known_rule s r (inl (inl i)) =
      elim (tagged_cases net s (rules_at new s) r i) [
        | inl c ↦ subst (λ (q : Rule). IsKnown q.key.pattern.dst) (sym c.is) (of_new s c.of_rule c.is_new)
        | inr d ↦ inr (ap (λ (q : Rule). q.key.pattern.dst) d.is)
      ]
  known_rule s r (inl (inr i)) =
      elim (ingress_cases net s (rules_at new s) r i) [
        | inl c ↦ subst (λ (q : Rule). IsKnown q.key.pattern.dst) (sym c.is) (of_new s c.of_rule c.is_new)
        | inr d ↦ inr (ap (λ (q : Rule). q.key.pattern.dst) d.is)
      ]
  known_rule s r (inr (inl i)) = inl (in_append_left r.key.pattern.dst (table_blocks old) (table_blocks new) (in_blocks r old s.0 i))
  known_rule s r (inr (inr i)) = of_new s r i

  module _ (count : length old ≡ switch_count net) where
    no_prefix : (mark : SwitchId → Rule → ℕ) (laid taken : List ℕ) → BringNoPrefix old new (layered_rounds net old new mark laid taken)
    no_prefix mark laid taken b i =
        let rounds = layered_rounds net old new mark laid taken in
        let (round, j, k) = in_from_flat_map (λ round. map (λ c. (rule_of c).key.pattern.dst) round) b rounds i in
        let (c, l, e) = in_from_map (λ c. (rule_of c).key.pattern.dst) b round k in
        let of = each_at (IsOfPlan net old new) round c (each_at (AllByRecursion (IsOfPlan net old new)) rounds round (all_of_plan net old new mark laid taken count) j) l in
        subst IsKnown (sym e) (known_rule of.at (rule_of c) of.among)

    pub own_classes : (layering : Layering) → MakeNoClasses net old new → (demands : List DemandView)
        → HasSameClasses (classes_for (task_by net old new (rounds_by layering net old new) demands)) (classes_before net old new demands)
    own_classes layering none demands = none demands (rounds_by layering net old new) (no_prefix (ingress_layer layering net new) (laying_order layering net new) (taking_order layering net new))

pub certified_before : (net : Network) → IsNetwork net → (old new : List (List Rule)) → IsUserConfig net old → IsUserConfig net new → FitsTwoPhase net old new → MakeNoClasses net old new
    → (layering : Layering) (tried : List (List Change))
    → IsCertifiedWith net old new (rounds_by layering net old new) (layered_plan net (rounds_by layering net old new) (layer_count layering net new) tried)
certified_before net is old new old_user new_user fits none layering tried demands old_good new_good =
    let same = own_classes net old new old_user.count layering none demands in
    let a = classes_for (task_by net old new (rounds_by layering net old new) demands) in
    let b = classes_before net old new demands in
    layered_certified net is old new old_user new_user layering fits demands tried (good_carried net old demands a b same old_good) (good_carried net new demands a b same new_good)
