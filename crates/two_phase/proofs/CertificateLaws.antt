-- A round whose mixtures have the bands has the two-phase certificate for every entry.
use Rattle.std.proofs.Common.{◌≡◌, ◌⊎◌, ℕ, suc, ◌<◌, ◌^◌, Bool, true, false, List, [], ◌∷◌, refl, sym, ◌∙◌, subst, ap, inl, inr}
use Rattle.std.specs.Prelude.{slice_get, Some}
use Rattle.std.proofs.lemmas.Bool.{eq-eqb}
use Rattle.net_base.specs.Members.{IsIn}
use Rattle.net_base.specs.Walks.{IsWalk, end_of}
use Rattle.net_base.specs.declared.ids.SwitchId.{SwitchId}
use Rattle.net_base.specs.declared.ids.Port.{Port}
use Rattle.net_base.specs.declared.ids.Place.{Place}
use Rattle.net_base.specs.declared.ids.Vlan.{Vlan}
use Rattle.net_base.specs.declared.ids.Vlan.TheVariants as vlan
use Rattle.topology.specs.Networks.{IsNetwork, IsEntry, switch_count}
use Rattle.flow_rules.specs.Patterns.{covers}
use Rattle.flow_rules.specs.Tables.{lookup, rules_at}
use Rattle.flow_rules.specs.declared.rules.VlanTest.TheVariants as test
use Rattle.flow_rules.specs.declared.rules.Action.TheVariants as action
use Rattle.flow_rules.specs.declared.rules.Rule.{Rule}
use Rattle.path_walk.specs.Outcomes.{action_outcome, header_at}
use Rattle.path_walk.specs.Paths.{outcome_in, Forwards}
use Rattle.path_walk.specs.UserConfigs.{IsUserConfig}
use Rattle.path_walk.specs.declared.Outcome.{Outcome}
use Rattle.path_walk.specs.declared.Outcome.TheVariants.{Discard, Leave, Go}
use Rattle.path_walk.proofs.PathLaws.{HasVlan, outcome_keeps, walk_keeps}
use Rattle.update_model.specs.Mixtures.{Rollout, MayHold, IsPossible}
use Rattle.certificates.specs.TwoPhase.{place_carrying, outcome_carrying, IsLabelled, tables_of, KeepsPath, IsLabelPickInForce, TwoPhaseCertificate}
use Rattle.certificates.specs.declared.Label.{Label}
use Rattle.certificates.specs.declared.TwoPhaseEvidence.{TwoPhaseEvidence}
use Rattle.tag_allocator.specs.Tags.{Tagged, tags_of}
use Rattle.table_difference.specs.SameClasses.{every_address}
use Rattle.two_phase.specs.TwoPhasePlan.{rule, tagged_rules, ingress_rules, label, label_table, label_tables, label_picks}
use Rattle.two_phase.proofs.TagLaws.{IsTagging}
use Rattle.two_phase.proofs.BandLaws.{header, covers_from, every_has, host_default_in}
use Rattle.two_phase.proofs.MaskLaws.{IsBanded, HasRaw, HasAll, HasNone, no_ingress, raw_lookup, tagged_lookup, entering_lookup}
use Rattle.two_phase.proofs.PlaceLaws.{stop_at, place_at, IsInner, goes_inner, entry_within, entry_host, tagged_outcome, entering_outcome, carries_own, user_lookup}
use Rattle.two_phase.proofs.LabelLaws.{user_labelled, tag_labelled, label_cases, users_declared, pick_of, IsOfVersion, in_force, picked}

module _ (u : Rollout) (new : List (List Rule)) (k : ℕ) where
  -- something holds of each mixture at each switch
  abbrev pub OfMixtures : (SwitchId → List Rule → Type 0) → Type 0
  OfMixtures P = (s : SwitchId) → s.0 < switch_count u.net → (mixed : List Rule) → MayHold u k s mixed → P s mixed

  abbrev pub IsRawVersion : Bool → Type 0
  IsRawVersion version = OfMixtures (λ s mixed. HasRaw (rules_at (tables_of u new version) s) mixed)

  abbrev pub IsMasked : Type 0
  IsMasked = OfMixtures (λ s mixed. HasAll (ingress_rules u.net s (rules_at new s)) mixed)

  abbrev pub IsTaggedAll : Type 0
  IsTaggedAll = OfMixtures (λ s mixed. HasAll (tagged_rules u.net s (rules_at new s)) mixed)

  abbrev pub HasNoIngress : Type 0
  HasNoIngress = OfMixtures (λ s mixed. HasNone (ingress_rules u.net s (rules_at new s)) mixed)

  -- a round of a two-phase plan: the bands; the raw rules of the version, or all ingress rules; all tagged rules, or no ingress rule
  pub record IsStage (version : Bool) : Type 0 where
    pub banded : OfMixtures (λ s mixed. IsBanded u.net s (rules_at new s) mixed)
    pub raws : IsRawVersion version ⊎ ((version ≡ true) × IsMasked)
    pub tagged : IsTaggedAll ⊎ HasNoIngress

module _ (u : Rollout) (new : List (List Rule)) (k : ℕ) (net_is : IsNetwork u.net) (tags : IsTagging u.net) (old_user : IsUserConfig u.net u.old) (new_user : IsUserConfig u.net new)
    (version : Bool) (stage : IsStage u new k version) (dst : ℕ) (small : dst < 2 ^ 32) where
  user_of : (b : Bool) → IsUserConfig u.net (tables_of u new b)
  user_of true = new_user
  user_of false = old_user

  walk_inner : (tables : List (List Rule)) (place : Place) (rest : List Place) → IsInner u.net net_is place.switch place.port → IsWalk (Forwards u.net tables dst) place rest
      → IsInner u.net net_is (end_of place rest).switch (end_of place rest).port
  walk_inner tables place [] inner walk = inner
  walk_inner tables place (next ∷ rest) inner walk =
      walk_inner tables next rest (goes_inner u.net net_is place next (lookup (header_at place dst) (rules_at tables place.switch)) walk.0) walk.1

  module _ (v : Tagged) (is_tag : IsIn v (tags_of u.net)) where
    tagged_kept : IsTaggedAll u new k → (s : SwitchId) (port : Port) → IsInner u.net net_is s port → (found : Outcome) → IsPossible u k dst (place_at s port (vlan.Id v.tag)) found
        → found ≡ outcome_carrying (vlan.Id v.tag) (outcome_in u.net new (place_at s port v.user) dst)
    tagged_kept all s port inner found possible =
        possible.is
        ∙ ap (action_outcome u.net (place_at s port (vlan.Id v.tag)))
        (tagged_lookup u.net tags s (rules_at new s) (new_user.clear s) (new_user.rules s) port dst possible.mixed (stage.banded s inner.within possible.mixed possible.held) v is_tag small inner.not_host
        (all s inner.within possible.mixed possible.held))
        ∙ tagged_outcome u.net s port v.user v.tag (lookup (header port v.user dst) (rules_at new s)) (user_lookup u.net s (header port v.user dst) (rules_at new s) (new_user.rules s))

    raw_kept : IsRawVersion u new k version → (s : SwitchId) (port : Port) → s.0 < switch_count u.net → (found : Outcome) → (possible : IsPossible u k dst (place_at s port v.user) found)
        → ((q : Rule) → IsIn q (ingress_rules u.net s (rules_at new s)) → IsIn q possible.mixed → covers q.key.pattern (header port v.user dst) ≡ true → ⊥)
        → found ≡ outcome_carrying v.user (outcome_in u.net (tables_of u new version) (place_at s port v.user) dst)
    raw_kept raws s port within found possible none =
        possible.is
        ∙ ap (action_outcome u.net (place_at s port v.user))
        (raw_lookup u.net tags s (rules_at new s) (new_user.clear s) (new_user.rules s) port dst possible.mixed (stage.banded s within possible.mixed possible.held) v.user (tags.declared v is_tag) none
        (rules_at (tables_of u new version) s) ((user_of version).clear s) (raws s within possible.mixed possible.held))
        ∙ carries_own v.user (outcome_in u.net (tables_of u new version) (place_at s port v.user) dst) (outcome_keeps u.net (tables_of u new version) (user_of version) dst (place_at s port v.user))

    -- an entering packet goes on with its own VLAN by the raw rules, or with its tag by the new ones
    abbrev IsEntered : Place → Outcome → Type 0
    IsEntered entry found =
        (IsRawVersion u new k version × (found ≡ outcome_carrying v.user (outcome_in u.net (tables_of u new version) entry dst)))
        ⊎ (IsTaggedAll u new k × (found ≡ outcome_carrying (vlan.Id v.tag) (outcome_in u.net new entry dst)))

    entered : (s : SwitchId) (port : Port) → IsIn (stop_at s port) u.net.hosts → (found : Outcome) → IsPossible u k dst (place_at s port v.user) found → IsEntered (place_at s port v.user) found
    entered s port host found possible =
        let within = entry_within u.net net_is s port host in
        let banded = stage.banded s within possible.mixed possible.held in
        elim (entering_lookup u.net tags s (rules_at new s) (new_user.clear s) (new_user.rules s) port dst possible.mixed banded v is_tag small) [
          | inl hit ↦ (
              let (e, some) = hit in
              inr (
                elim stage.tagged [ inl all ↦ all | inr none ↦ absurd (none s within possible.mixed possible.held some.0 some.1 some.2) ],
                possible.is ∙ ap (action_outcome u.net (place_at s port v.user)) e
                    ∙ entering_outcome u.net s port v.user v.tag (lookup (header port v.user dst) (rules_at new s)) (user_lookup u.net s (header port v.user dst) (rules_at new s) (new_user.rules s)),
              ))
          | inr none ↦ elim stage.raws [
            | inl raws ↦ inl (raws, raw_kept raws s port within found possible none)
            | inr masked ↦ (
                let d = rule 32768 (Some port) test.Any every_address action.Discard in
                let i = host_default_in u.net s (rules_at new s) port (entry_host u.net s port host) in
                absurd (none d i (masked.1 s within possible.mixed possible.held d i) (covers_from d.key.pattern (header port v.user dst) (eq-eqb port.0 port.0 refl) refl (every_has dst small))))
          ]
        ]

    own_path : IsRawVersion u new k version → (s : SwitchId) (port : Port) (first : Place) → outcome_in u.net (tables_of u new version) (place_at s port v.user) dst ≡ Go first
        → KeepsPath u k dst (tables_of u new version) first v.user
    own_path raws s port first goes place (rest, walk, ends) found possible =
        let tables = tables_of u new version in
        let start : IsInner u.net net_is first.switch first.port = goes_inner u.net net_is (place_at s port v.user) first (lookup (header port v.user dst) (rules_at tables s)) goes in
        let inner : IsInner u.net net_is place.switch place.port = subst (λ p. IsInner u.net net_is p.switch p.port) ends (walk_inner tables first rest start walk) in
        let first_vlan : first.vlan ≡ v.user = subst (HasVlan v.user) goes (outcome_keeps u.net tables (user_of version) dst (place_at s port v.user)) in
        let at_vlan : place.vlan ≡ v.user = sym (ap (λ p. p.vlan) ends) ∙ walk_keeps u.net tables (user_of version) dst first rest walk ∙ first_vlan in
        subst (λ w. found ≡ outcome_carrying v.user (outcome_in u.net tables (place_at place.switch place.port w) dst)) (sym at_vlan)
        (raw_kept raws place.switch place.port inner.within found possible
        (λ q g i c. no_ingress u.net tags place.switch (rules_at new place.switch) (new_user.clear place.switch) (new_user.rules place.switch) place.port dst v.user inner.not_host q g c))

    tag_path : IsTaggedAll u new k → (s : SwitchId) (port : Port) (first : Place) → outcome_in u.net new (place_at s port v.user) dst ≡ Go first
        → KeepsPath u k dst new first (vlan.Id v.tag)
    tag_path all s port first goes place (rest, walk, ends) found possible =
        let start : IsInner u.net net_is first.switch first.port = goes_inner u.net net_is (place_at s port v.user) first (lookup (header port v.user dst) (rules_at new s)) goes in
        let inner : IsInner u.net net_is place.switch place.port = subst (λ p. IsInner u.net net_is p.switch p.port) ends (walk_inner new first rest start walk) in
        let first_vlan : first.vlan ≡ v.user = subst (HasVlan v.user) goes (outcome_keeps u.net new new_user dst (place_at s port v.user)) in
        let at_vlan : place.vlan ≡ v.user = sym (ap (λ p. p.vlan) ends) ∙ walk_keeps u.net new new_user dst first rest walk ∙ first_vlan in
        subst (λ w. found ≡ outcome_carrying (vlan.Id v.tag) (outcome_in u.net new (place_at place.switch place.port w) dst)) (sym at_vlan)
        (tagged_kept all place.switch place.port inner found possible)

    -- the two VLANs of an entry differ
    not_both : vlan.Id v.tag ≡ v.user → ⊥
    not_both e = tags.undeclared v is_tag (subst (λ x. IsIn x u.net.vlans) (sym e) (tags.declared v is_tag))

    goes_vlan : (tag : Vlan) (o : Outcome) (next : Place) → Go next ≡ outcome_carrying tag o → next.vlan ≡ tag
    goes_vlan tag Discard next e = absurd (let f : Go next ≡ Discard = e in cc)
    goes_vlan tag (Leave port w) next e = absurd (let f : Go next ≡ Leave port w = e in cc)
    goes_vlan tag (Go q) next e = let f : next ≡ place_carrying tag q = cc in ap (λ p. p.vlan) f

    labelled : (labels : List Label) (b : Bool) (tag : Vlan) (o : Outcome) → IsIn (label tag b v.user) labels → IsLabelled labels b v.user (outcome_carrying tag o)
    labelled labels b tag Discard i = tt
    labelled labels b tag (Leave port w) i = tt
    labelled labels b tag (Go q) i = i

    module _ (evidence : TwoPhaseEvidence) (labels_are : evidence.labels ≡ label_tables u.net) (layers : ℕ) (picks_are : evidence.picks ≡ label_picks layers) (of : IsOfVersion layers k version) where
      certificate_at : (s : SwitchId) (port : Port) → IsIn (stop_at s port) u.net.hosts → TwoPhaseCertificate u new evidence k dst (place_at s port v.user)
      certificate_at s port host = record {
        pick = pick_of layers version;
        labels = label_table u.net version;
        in_force = subst (λ ps. IsLabelPickInForce ps (suc k) (pick_of layers version)) (sym picks_are) (in_force layers k version of);
        table_is = subst (λ ls. slice_get ls (pick_of layers version).labels ≡ Some (label_table u.net version)) (sym labels_are) (picked u.net layers version);
        declared = users_declared u.net version tags;
        agrees = λ found possible. elim (entered s port host found possible) [
          | inl raw ↦ (
            version,
            record {
              tag = v.user;
              same = raw.1;
              labelled = subst (IsLabelled (label_table u.net version) version v.user) (sym raw.1)
                  (labelled (label_table u.net version) version v.user (outcome_in u.net (tables_of u new version) (place_at s port v.user) dst) (user_labelled u.net version v is_tag));
            },
          )
          | inr hit ↦ (
            true,
            record {
              tag = vlan.Id v.tag;
              same = hit.1;
              labelled = subst (IsLabelled (label_table u.net version) true v.user) (sym hit.1)
                  (labelled (label_table u.net version) true (vlan.Id v.tag) (outcome_in u.net new (place_at s port v.user) dst) (tag_labelled u.net version v is_tag));
            },
          )
        ];
        keeps = λ found possible b agrees first next is_next goes.
            let here : IsIn (label next.vlan b v.user) (label_table u.net version) = subst (IsLabelled (label_table u.net version) b v.user) is_next agrees.labelled in
            let (x, j, either) = label_cases u.net version (label next.vlan b v.user) here in
            elim either [
              | inl own ↦ (
                  let same : v ≡ x = tags.by_user v x is_tag j (ap (λ l. l.user) own) in
                  let own_vlan : next.vlan ≡ v.user = ap (λ l. l.vlan) own ∙ sym (ap (λ y. y.user) same) in
                  let own_version : b ≡ version = ap (λ l. l.new) own in
                  elim (entered s port host found possible) [
                    | inl raw ↦ subst (λ w. KeepsPath u k dst (tables_of u new b) first w) (sym own_vlan)
                        (subst (λ y. outcome_in u.net (tables_of u new y) (place_at s port v.user) dst ≡ Go first → KeepsPath u k dst (tables_of u new y) first v.user) (sym own_version) (own_path raw.0 s port first) goes)
                    | inr hit ↦ absurd (not_both (sym (goes_vlan (vlan.Id v.tag) (outcome_in u.net new (place_at s port v.user) dst) next (sym is_next ∙ hit.1)) ∙ own_vlan))
                  ])
              | inr tag ↦ (
                  let same : v ≡ x = tags.by_user v x is_tag j (ap (λ l. l.user) tag) in
                  let tag_vlan : next.vlan ≡ vlan.Id v.tag = ap (λ l. l.vlan) tag ∙ sym (ap (λ y. vlan.Id y.tag) same) in
                  let tag_version : b ≡ true = ap (λ l. l.new) tag in
                  elim (entered s port host found possible) [
                    | inl raw ↦ absurd (not_both (sym tag_vlan ∙ goes_vlan v.user (outcome_in u.net (tables_of u new version) (place_at s port v.user) dst) next (sym is_next ∙ raw.1)))
                    | inr hit ↦ subst (λ w. KeepsPath u k dst (tables_of u new b) first w) (sym tag_vlan)
                        (subst (λ y. outcome_in u.net (tables_of u new y) (place_at s port v.user) dst ≡ Go first → KeepsPath u k dst (tables_of u new y) first (vlan.Id v.tag)) (sym tag_version) (tag_path hit.0 s port first) goes)
                  ])
            ];
      }

  pub certificate : (evidence : TwoPhaseEvidence) → evidence.labels ≡ label_tables u.net → (layers : ℕ) → evidence.picks ≡ label_picks layers → IsOfVersion layers k version
      → (entry : Place) → IsEntry u.net entry → TwoPhaseCertificate u new evidence k dst entry
  certificate evidence labels_are layers picks_are of entry is_entry =
      let (v, is_tag, e) = tags.each entry.vlan is_entry.declared in
      subst (λ w. TwoPhaseCertificate u new evidence k dst (place_at entry.switch entry.port w)) e (certificate_at v is_tag evidence labels_are layers picks_are of entry.switch entry.port is_entry.host)
