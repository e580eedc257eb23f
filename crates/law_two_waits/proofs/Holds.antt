-- What the switches hold while the rounds of a two-phase plan are carried out: which rules stand in every mixture of a round.
use Rattle.std.proofs.Common.{◌≡◌, ◌⊎◌, ℕ, suc, ◌+◌, ◌-◌, ◌*◌, ◌<◌, ◌≤◌, Bool, true, false, List, length, refl, sym, subst, inl, inr, arith}
use Rattle.std.proofs.lemmas.Bool.{both_ways, cases_lt}
use Rattle.net_base.specs.Members.{IsIn, IsSameSet}
use Rattle.net_base.proofs.MemberLaws.{each_at}
use Rattle.net_base.specs.declared.ids.SwitchId.{SwitchId}
use Rattle.topology.specs.Networks.{Network, IsNetwork, switch_count, capacity_of}
use Rattle.flow_rules.specs.Tables.{rules_at}
use Rattle.flow_rules.specs.declared.rules.Rule.{Rule}
use Rattle.path_walk.specs.UserConfigs.{IsUserConfig, IsUserRule}
use Rattle.update_model.specs.Changes.{round_after}
use Rattle.update_model.specs.Mixtures.{Rollout, tables_before, AreGoodRounds, is_insert, is_delete}
use Rattle.update_model.specs.Remaining.{remaining_changes}
use Rattle.update_model.specs.declared.Change.{Change}
use Rattle.update_model.specs.declared.Change.TheVariants.{Insert, Delete, Replace}
use Rattle.update_model.proofs.ChangeLaws.{key_named}
use Rattle.update_model.proofs.DifferenceLaws.{IsDifference, remaining_is}
use Rattle.two_phase.specs.TwoPhasePlan.{layered_rounds, two_phase_need}
use Rattle.two_phase.proofs.TagLaws.{IsTagging}
use Rattle.two_phase.proofs.BandLaws.{tagged_low, tagged_high, ingress_low}
use Rattle.two_phase.proofs.MaskLaws.{IsBanded}
use Rattle.two_phase.proofs.LabelLaws.{IsOfVersion}
use Rattle.two_phase.proofs.LayerLaws.{IsLayering}
use Rattle.two_phase.proofs.StageLaws.{IsSound}
use Rattle.two_phase.proofs.CertificateLaws.{OfMixtures, IsRawVersion, IsMasked, IsTaggedAll}
use Rattle.two_phase.proofs.ValidCounts.{rounds_count}
use Rattle.two_phase.proofs.PlanLaws.{plan_sound, sound_at}
use Rattle.law_two_waits.proofs.Kept.{Deletes, Spares, kept_in_mixture, stood_of_mixture, StandsBefore, inserted_before, kept_until, stood_from}
use Rattle.law_two_waits.proofs.RoundKinds.{tagged, ingress, Lays, Exchanges, Takes, kind_of, lays_tagged, lays_ingress, last_takes}

-- the priorities of the tagged rules, of the ingress rules, and of the raw ones
abbrev pub OfTagged : ℕ → Type 0
OfTagged p = (16384 ≤ p) × (p < 32768)

abbrev pub OfIngress : ℕ → Type 0
OfIngress p = 32768 ≤ p

abbrev pub OfRaw : ℕ → Type 0
OfRaw p = p ≤ 16383

module _ (net : Network) (net_is : IsNetwork net) (tags : IsTagging net) (old new : List (List Rule))
    (old_user : IsUserConfig net old) (new_user : IsUserConfig net new)
    (mark : SwitchId → Rule → ℕ) (before : ℕ → ℕ → Type 0) (layers : ℕ) (laid taken : List ℕ) (layering : IsLayering net new mark before layers laid taken)
    (room : (s : SwitchId) → s.0 < switch_count net → two_phase_need net old new s ≤ capacity_of net s) where
  abbrev pub u : Rollout
  u = record { net = net; old = old; rounds = layered_rounds net old new mark laid taken }

  abbrev round_at : ℕ → List Change
  round_at k = round_after k u.rounds

  count : length u.rounds ≡ 2 * layers + 4
  count =
      let e = rounds_count net old new mark laid taken in
      let a = layering.laid_count in
      let b = layering.taken_count in
      omega arith

  old_low : (s : SwitchId) (r : Rule) → IsIn r (rules_at old s) → r.key.priority ≤ 16383
  old_low s r i = (each_at (IsUserRule net s) (rules_at old s) r (old_user.rules s) i).below

  new_low : (s : SwitchId) (r : Rule) → IsIn r (rules_at new s) → r.key.priority ≤ 16383
  new_low s r i = (each_at (IsUserRule net s) (rules_at new s) r (new_user.rules s) i).below

  low_tagged : (s : SwitchId) (r : Rule) → IsIn r (tagged net net_is tags old new new_user mark before layers laid taken layering s) → OfTagged r.key.priority
  low_tagged s r i = (tagged_low net s (rules_at new s) (new_user.rules s) r i, tagged_high net s (rules_at new s) (new_user.rules s) r i)

  low_ingress : (s : SwitchId) (r : Rule) → IsIn r (ingress net net_is tags old new new_user mark before layers laid taken layering s)
      → OfIngress r.key.priority
  low_ingress s r i = ingress_low net s (rules_at new s) (new_user.rules s) r i

  named_low : (s : SwitchId) (c : Change) → IsDifference s (rules_at old s) (rules_at new s) c → OfRaw (key_named c).priority
  named_low s (Insert t r) d = new_low s r d.1
  named_low s (Delete t r) d = old_low s r d.1
  named_low s (Replace t r) d = new_low s r d.1

  -- the exchange names raw rules alone
  exchange_low : (c : Change) → IsIn c (remaining_changes old new) → OfRaw (key_named c).priority
  exchange_low c i = let (s, _, d) = remaining_is old new c i in named_low s c d

  -- between the first round and the last no tagged rule is taken away
  spares_tagged : (k : ℕ) → 1 ≤ k → k ≤ 2 * layers + 2 → Spares OfTagged (round_at k)
  spares_tagged k some within c i =
      elim (kind_of net net_is tags old new new_user mark before layers laid taken layering k some within) [
        | Lays early lays ↦ (let (s, r, e, j) = lays c i in inl (subst (λ x. is_insert x ≡ true) (sym e) refl))
        | Exchanges early of ↦ (let low = exchange_low c (of c i) in inr (λ band. let high = band.0 in absurd (omega arith)))
        | Takes late takes ↦ (
            let (s, r, e, j) = takes c i in
            let high = low_ingress s r j in
            inr (subst (λ x. ¬ OfTagged (key_named x).priority) (sym e) (λ band. let low = band.1 in absurd (omega arith))))
      ]

  -- up to the exchange no ingress rule is
  spares_ingress : (k : ℕ) → 1 ≤ k → k ≤ layers + 2 → Spares OfIngress (round_at k)
  spares_ingress k some within c i =
      elim (kind_of net net_is tags old new new_user mark before layers laid taken layering k some (omega arith)) [
        | Lays early lays ↦ (let (s, r, e, j) = lays c i in inl (subst (λ x. is_insert x ≡ true) (sym e) refl))
        | Exchanges early of ↦ (let low = exchange_low c (of c i) in inr (λ high. absurd (omega arith)))
        | Takes late takes ↦ absurd (omega arith)
      ]

  -- a delete of a rule above the raw ones
  abbrev IsHighDelete : Change → Type 0
  IsHighDelete c = (s : SwitchId) × (r : Rule) × (c ≡ Delete s r) × (16384 ≤ r.key.priority)

  -- behind the exchange all changes are
  high_deletes : (k : ℕ) → layers + 3 ≤ k → k < length u.rounds → (c : Change) → IsIn c (round_at k) → IsHighDelete c
  high_deletes k late less c i =
      let rounds = count in
      elim (cases_lt k (2 * layers + 3)) [
        | inl sooner ↦ elim (kind_of net net_is tags old new new_user mark before layers laid taken layering k (omega arith) (omega arith)) [
          | Lays early lays ↦ absurd (omega arith)
          | Exchanges early of ↦ absurd (omega arith)
          | Takes behind takes ↦ (let (s, r, e, j) = takes c i in let high = low_ingress s r j in (s, r, e, (omega arith)))
        ]
        | inr no_sooner ↦ (
            let last : k ≡ 2 * layers + 3 = omega arith in
            let (s, r, e, j) = last_takes net net_is tags old new new_user mark before layers laid taken layering c (subst (λ n. IsIn c (round_at n)) last i) in
            (s, r, e, (low_tagged s r j).0))
      ]

  late_deletes : (k : ℕ) → layers + 3 ≤ k → k < length u.rounds → Deletes (round_at k)
  late_deletes k late less c i = let (s, r, e, high) = high_deletes k late less c i in subst (λ x. is_delete x ≡ true) (sym e) refl

  late_spares : (k : ℕ) → layers + 3 ≤ k → k < length u.rounds → Spares OfRaw (round_at k)
  late_spares k late less c i =
      let (s, r, e, high) = high_deletes k late less c i in
      inr (subst (λ x. ¬ OfRaw (key_named x).priority) (sym e) (λ low. absurd (omega arith)))

  sound : (k : ℕ) → k < length u.rounds → IsSound net net_is tags old new old_user new_user mark layers k (tables_before u k) (round_at k)
  sound k less =
      sound_at net net_is tags old new old_user new_user mark before layers laid taken layering room u.rounds old 0 k k (omega arith)
      (plan_sound net net_is tags old new old_user new_user mark before layers laid taken layering room) less

  pub banded_at : (k : ℕ) → k < length u.rounds → OfMixtures u new k (λ s mixed. IsBanded net s (rules_at new s) mixed)
  banded_at k less = (sound k less).banded

  early_version : (k : ℕ) (version : Bool) → k ≤ layers → IsOfVersion layers k version
      → IsRawVersion u new k version ⊎ ((version ≡ true) × IsMasked u new k) → IsRawVersion u new k false
  early_version k true early of raws = absurd (omega arith)
  early_version k false early of (inl raws) = raws
  early_version k false early of (inr masked) = absurd (both_ways false refl masked.0)

  -- before the exchange the raw rules are the old ones
  pub raws_early : (k : ℕ) → k ≤ layers → IsRawVersion u new k false
  raws_early k early =
      let rounds = count in
      let here = sound k (omega arith) in
      early_version k here.version early here.of here.raws

  module _ (good : AreGoodRounds u) where
    -- between the first round and the last all tagged rules stand
    pub tagged_stand : (k : ℕ) → 1 ≤ k → k ≤ 2 * layers + 2 → IsTaggedAll u new k
    tagged_stand k some within s inside mixed held q i =
        let rounds = count in
        let band = low_tagged s q i in
        let begun : StandsBefore u good s q 1 = inserted_before u good s q 0 (omega arith)
        (lays_tagged net net_is tags old new new_user mark before layers laid taken layering s q inside i) in
        kept_in_mixture OfTagged (tables_before u k) (round_at k) (good k (omega arith)) (spares_tagged k some within) s q band
        (kept_until u good s q OfTagged band (k - 1) 1 k (omega arith) (omega arith) (λ j ge less. spares_tagged j ge (omega arith)) begun) mixed held

    -- during the exchange all ingress rules stand
    pub ingress_stand : (k : ℕ) → suc layers ≤ k → k ≤ layers + 2 → IsMasked u new k
    ingress_stand k behind within s inside mixed held q i =
        let rounds = count in
        let band = low_ingress s q i in
        let (j, some, early, laid_in) = lays_ingress net net_is tags old new new_user mark before layers laid taken layering s q inside i in
        kept_in_mixture OfIngress (tables_before u k) (round_at k) (good k (omega arith)) (spares_ingress k (omega arith) within) s q band
        (kept_until u good s q OfIngress band (k - suc j) (suc j) k (omega arith) (omega arith) (λ m ge less. spares_ingress m (omega arith) (omega arith))
        (inserted_before u good s q j (omega arith) laid_in)) mixed held

    module _ (ends : (s : SwitchId) → IsSameSet (rules_at (tables_before u (length u.rounds)) s) (rules_at new s)) where
      -- behind the exchange the raw rules are the new ones
      pub raws_late : (k : ℕ) → layers + 3 ≤ k → k < length u.rounds → IsRawVersion u new k true
      raws_late k late less s inside mixed held =
          let all = length u.rounds in
          record {
            to = λ q i low.
                let stood = stood_of_mixture (tables_before u k) (round_at k) (good k less) (late_deletes k late less) s q mixed held i in
                (ends s q).0 (kept_until u good s q OfRaw low (all - k) k all (omega arith) (omega arith) (λ j ge lt. late_spares j (omega arith) lt) stood);
            from = λ q i.
                kept_in_mixture OfRaw (tables_before u k) (round_at k) (good k less) (late_spares k late less) s q (new_low s q i)
                (stood_from u good s q (all - k) k all (omega arith) (omega arith) (λ j ge lt. late_deletes j (omega arith) lt) ((ends s q).1 i)) mixed held;
          }
