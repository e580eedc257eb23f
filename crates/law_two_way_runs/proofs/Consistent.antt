-- An update by a certified plan is consistent both ways.
use Rattle.std.proofs.Common.{inl, inr}
use Rattle.net_base.proofs.MemberLaws.{each_weaker}
use Rattle.path_walk.specs.UserConfigs.{IsUserConfig}
use Rattle.update_model.specs.declared.Packet.{Packet}
use Rattle.certificates.specs.Certified.{IsCertified, is_two_phase}
use Rattle.certificates.specs.Consistent.{IsConsistentPacket}
use Rattle.certificates.specs.Updates.{Task, rollout}
use Rattle.certificates.specs.declared.Evidence.{Evidence}
use Rattle.certificates.proofs.Consistency.{packet_consistent}
use Rattle.law_two_way_runs.specs.Laws.{IsTwoWayConsistent}
use Rattle.law_two_way_runs.specs.Runs.{state_after_two_way}
use Rattle.law_two_way_runs.proofs.Turning.{IsSound, sound_both_ways}

module _ (t : Task) (old_user : IsUserConfig t.update.net t.update.old) (new_user : IsUserConfig t.update.net t.update.new) (evidence : Evidence) (certified : IsCertified t evidence) where
  -- what holds of a packet whenever it was born
  born_anytime : (p : Packet) (k : _) → IsConsistentPacket t.update (is_two_phase evidence) (record p { born = k }) → IsConsistentPacket t.update (is_two_phase evidence) p
  born_anytime p k c = record {
    good = c.good;
    version = λ two. elim (c.version two) [
      | inl f ↦ inl (record { path = f.path; is_path = f.is_path; begins = f.begins; whole = f.whole })
      | inr f ↦ inr (record { path = f.path; is_path = f.is_path; begins = f.begins; whole = f.whole })
    ];
    vlan = c.vlan;
  }

  pub both_ways_consistent : IsTwoWayConsistent t.update t.rounds (is_two_phase evidence)
  both_ways_consistent events run =
      let st = state_after_two_way (rollout t) events in
      each_weaker (IsSound (rollout t) st.phase st.settles) (IsConsistentPacket t.update (is_two_phase evidence))
      (λ p sound.
      let (k, within, walked) = sound.walked in
      born_anytime p k (packet_consistent t old_user new_user evidence certified (record p { born = k }) walked (record { entry = sound.entry; dst = sound.dst; born = within })))
      st.packets (sound_both_ways (rollout t) certified.good events run).packets
