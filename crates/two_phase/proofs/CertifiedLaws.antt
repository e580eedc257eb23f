-- Two-phase plans are certified, by rank as well as by depth.
use Rattle.std.proofs.Common.{ℕ, ◌<◌, List, length, refl, arith}
use Rattle.topology.specs.Networks.{Network, IsNetwork}
use Rattle.flow_rules.specs.declared.rules.Rule.{Rule}
use Rattle.demands.specs.Duties.{DemandView}
use Rattle.demands.specs.Good.{HasGoodPaths}
use Rattle.path_walk.specs.UserConfigs.{IsUserConfig}
use Rattle.update_model.specs.Changes.{round_after}
use Rattle.update_model.specs.Mixtures.{Rollout, tables_before}
use Rattle.update_model.specs.declared.Change.{Change}
use Rattle.certificates.specs.Certified.{blocks_of, classes_for, IsCertified}
use Rattle.certificates.specs.declared.Evidence.TheVariants.{TwoPhase}
use Rattle.two_phase.specs.Laws.{task_by, layered_evidence, FitsTwoPhase, TwoPhasePlansAreCertified}
use Rattle.two_phase.specs.Layers.{laying_order, taking_order, layer_count, ingress_layer, rounds_by}
use Rattle.two_phase.specs.declared.layers.Layering.{Layering}
use Rattle.two_phase.specs.declared.layers.Layering.TheVariants.{ByRank}
use Rattle.two_phase.proofs.TagLaws.{tagging}
use Rattle.two_phase.proofs.LayeringLaws.{is_earlier, layering_is}
use Rattle.two_phase.proofs.StageLaws.{IsSound}
use Rattle.two_phase.proofs.CertificateLaws.{IsStage, certificate}
use Rattle.two_phase.proofs.PlanLaws.{plan_sound, sound_at, ends_at}
use Rattle.dest_classes.proofs.EntryLaws.{class_entry, class_small}

module _ (net : Network) (net_is : IsNetwork net) (old new : List (List Rule)) (old_user : IsUserConfig net old) (new_user : IsUserConfig net new) where
  pub layered_certified : (layering : Layering) → FitsTwoPhase net old new → (demands : List DemandView) (tried : List (List Change))
      → HasGoodPaths net old demands (classes_for (task_by net old new (rounds_by layering net old new) demands))
      → HasGoodPaths net new demands (classes_for (task_by net old new (rounds_by layering net old new) demands))
      → IsCertified (task_by net old new (rounds_by layering net old new) demands) (TwoPhase (layered_evidence net (layer_count layering net new) tried))
  layered_certified layering fits demands tried old_good new_good =
      let tags = tagging net net_is fits.tags in
      let mark = ingress_layer layering net new in
      let before = is_earlier layering in
      let layers = layer_count layering net new in
      let laid = laying_order layering net new in
      let taken = taking_order layering net new in
      let layered = layering_is layering net new in
      let u : Rollout = record { net = net; old = old; rounds = rounds_by layering net old new } in
      let all = plan_sound net net_is tags old new old_user new_user mark before layers laid taken layered fits.room in
      let at : (k : ℕ) → k < length u.rounds → IsSound net net_is tags old new old_user new_user mark layers k (tables_before u k) (round_after k u.rounds) =
      λ k less. sound_at net net_is tags old new old_user new_user mark before layers laid taken layered fits.room u.rounds old 0 k k (omega arith) all less in
      record {
        old_good = old_good;
        new_good = new_good;
        good = λ k less. (at k less).good;
        clear = λ k less s mixed held. (at k less).clear s mixed held;
        fits = λ k s less inside. (at k less).fits s inside;
        keeps = tt;
        certificates = λ k n class less is_class.
            let sound = at k less in
            let stage : IsStage u new k sound.version = record { banded = sound.banded; raws = sound.raws; tagged = sound.laid } in
            certificate u new k net_is tags old_user new_user sound.version stage class.first
            (class_small net (blocks_of old new demands u.rounds) n class is_class) (layered_evidence net layers tried) refl layers refl sound.of class.entry
            (class_entry net (blocks_of old new demands u.rounds) n class is_class);
        ends = ends_at net net_is tags old new old_user new_user mark before layers laid taken layered fits.room u.rounds old 0 all;
      }

  pub two_phase_certified : TwoPhasePlansAreCertified net old new
  two_phase_certified = layered_certified ByRank
