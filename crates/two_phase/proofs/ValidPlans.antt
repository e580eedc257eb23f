-- The two-phase plan is valid, by rank as well as by depth.
use Rattle.std.proofs.Common.{◌≡◌, ◌<◌, Bool, true, false, List, [], ◌∷◌, sym, ◌∙◌, subst, ap, inl, inr, arith}
use Rattle.net_base.proofs.MemberLaws.{each_from_in}
use Rattle.net_base.specs.declared.ids.Vlan.{Vlan}
use Rattle.net_base.specs.declared.ids.Vlan.TheVariants as vlan
use Rattle.topology.specs.Networks.{Network, IsNetwork, IsVlan}
use Rattle.flow_rules.specs.declared.rules.Rule.{Rule}
use Rattle.path_walk.specs.UserConfigs.{IsUserConfig}
use Rattle.update_model.specs.declared.Change.{Change}
use Rattle.certificates.specs.Valid.{IsChain, IsVlanBefore, IsValidTable, IsValidPlan}
use Rattle.certificates.specs.declared.Label.{Label}
use Rattle.certificates.specs.declared.LabelPick.{LabelPick}
use Rattle.certificates.specs.declared.TwoPhaseEvidence.{TwoPhaseEvidence}
use Rattle.two_phase.specs.Laws.{FitsTwoPhase}
use Rattle.table_difference.specs.Tried.{AreTried}
use Rattle.two_phase.specs.Plans.{layered_plan}
use Rattle.two_phase.specs.TwoPhasePlan.{label_table, vlan_number}
use Rattle.two_phase.specs.Layers.{laying_order, taking_order, layer_count, ingress_layer, rounds_by}
use Rattle.two_phase.specs.declared.layers.Layering.{Layering}
use Rattle.two_phase.proofs.TagLaws.{tagging}
use Rattle.two_phase.proofs.LabelLaws.{label_cases}
use Rattle.two_phase.proofs.LayerLaws.{laid_distinct, taken_distinct}
use Rattle.two_phase.proofs.LayeringLaws.{is_earlier, layering_is, few_layers}
use Rattle.two_phase.proofs.LabelOrderLaws.{Ascend, table_ascends}
use Rattle.two_phase.proofs.ValidCounts.{rounds_count, changes_few, tried_few}
use Rattle.two_phase.proofs.ValidRules.{tag_id, user_vlan, changes_plan}

vlan_before : (v w : Vlan) → vlan_number v < vlan_number w → IsVlanBefore v w
vlan_before vlan.Untagged vlan.Untagged less = absurd (omega arith)
vlan_before vlan.Untagged (vlan.Id n) less = tt
vlan_before (vlan.Id m) vlan.Untagged less = absurd (omega arith)
vlan_before (vlan.Id m) (vlan.Id n) less = omega arith

chain_from_ascent : (ls : List Label) → Ascend ls → IsChain (λ a b. IsVlanBefore a.vlan b.vlan) ls
chain_from_ascent [] up = tt
chain_from_ascent (l ∷ []) up = tt
chain_from_ascent (l ∷ m ∷ ls) up = (vlan_before l.vlan m.vlan up.0.0, chain_from_ascent (m ∷ ls) up.1)

module _ (net : Network) (is : IsNetwork net) (old new : List (List Rule)) (old_user : IsUserConfig net old) (new_user : IsUserConfig net new) (fits : FitsTwoPhase net old new) where
  table_valid : (version : Bool) → IsValidTable (label_table net version)
  table_valid version = (
    each_from_in (λ l. IsVlan l.vlan × IsVlan l.user) (label_table net version) (λ l i.
        let (v, j, k) = label_cases net version l i in
        let user = user_vlan net is v j in
        elim k [
          | inl e ↦ (subst (λ (x : Label). IsVlan x.vlan) (sym e) user, subst (λ (x : Label). IsVlan x.user) (sym e) user)
          | inr e ↦ (subst (λ (x : Label). IsVlan x.vlan) (sym e) (tag_id net is v j), subst (λ (x : Label). IsVlan x.user) (sym e) user)
        ]),
    chain_from_ascent (label_table net version) (table_ascends net version (tagging net is fits.tags)),
  )

  pub plan_valid : (layering : Layering) (tried : List (List Change)) → AreTried net tried
      → IsValidPlan net (layered_plan net (rounds_by layering net old new) (layer_count layering net new) tried)
  plan_valid layering tried are =
      let mark = ingress_layer layering net new in
      let before = is_earlier layering in
      let layers = layer_count layering net new in
      let laid = laying_order layering net new in
      let taken = taking_order layering net new in
      let layered = layering_is layering net new in
      let few = few_layers layering net new new_user.few in
      let count = rounds_count net old new mark laid taken in
      let down = layered.laid_count in
      let up = layered.taken_count in
      let changes = changes_few net is old new fits old_user.few new_user.few mark laid taken (laid_distinct net new mark before layers laid taken layered) (taken_distinct net new mark before layers laid taken layered) in
      let more = tried_few net tried are in
      record {
        few_rounds = omega arith;
        few_changes = omega arith;
        rounds = changes_plan net is old new old_user new_user mark laid taken;
        evidence = record {
          labels = (table_valid false, (table_valid true, tt));
          picks = ((omega arith, omega arith, omega arith, omega arith), ((omega arith, omega arith, omega arith, omega arith), tt));
          ascending = (omega arith, tt);
          few_tried = are.few;
          few_changes = omega arith;
          tried = are.ranges;
        };
      }

-- evidence is its three parts
pub same_evidence : (e : TwoPhaseEvidence) (labels : List (List Label)) (picks : List LabelPick) (tried : List (List Change)) → e.labels ≡ labels → e.picks ≡ picks → e.tried ≡ tried
    → e ≡ record { labels = labels; picks = picks; tried = tried }
same_evidence e labels picks tried a b c =
    ap (λ (x : List (List Label)). let v : TwoPhaseEvidence = record { labels = x; picks = e.picks; tried = e.tried } in v) a
    ∙ ap (λ (x : List LabelPick). let v : TwoPhaseEvidence = record { labels = labels; picks = x; tried = e.tried } in v) b
    ∙ ap (λ (x : List (List Change)). let v : TwoPhaseEvidence = record { labels = labels; picks = picks; tried = x } in v) c
