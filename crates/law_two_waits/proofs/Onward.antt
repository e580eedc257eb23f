-- How a packet that went on from the entry in one round of a two-phase plan goes on in a later one.
use Rattle.std.proofs.Common.{◌≡◌, ◌⊎◌, ℕ, suc, ◌<◌, ◌≤◌, ◌^◌, Bool, true, false, List, [], ◌∷◌, refl, sym, ◌∙◌, subst, ap, inl, inr, arith}
use Rattle.std.specs.Prelude.{slice_get, Some}
use Rattle.std.proofs.lemmas.Bool.{eq-eqb, cases_lt}
use Rattle.net_base.specs.Members.{IsIn}
use Rattle.net_base.specs.Walks.{IsWalk, IsReached, end_of}
use Rattle.net_base.specs.declared.ids.SwitchId.{SwitchId}
use Rattle.net_base.specs.declared.ids.Port.{Port}
use Rattle.net_base.specs.declared.ids.Place.{Place}
use Rattle.net_base.specs.declared.ids.Vlan.{Vlan}
use Rattle.net_base.specs.declared.ids.Vlan.TheVariants as vlan
use Rattle.topology.specs.Networks.{IsNetwork, IsEntry}
use Rattle.flow_rules.specs.Tables.{lookup, rules_at}
use Rattle.flow_rules.specs.declared.rules.VlanTest.TheVariants as test
use Rattle.flow_rules.specs.declared.rules.Action.TheVariants as action
use Rattle.flow_rules.specs.declared.rules.Rule.{Rule}
use Rattle.path_walk.specs.Outcomes.{action_outcome, header_at}
use Rattle.path_walk.specs.Paths.{outcome_in, Forwards}
use Rattle.path_walk.specs.UserConfigs.{IsUserConfig}
use Rattle.path_walk.specs.declared.Outcome.{Outcome}
use Rattle.path_walk.specs.declared.Outcome.TheVariants.{Discard, Leave, Go}
use Rattle.path_walk.proofs.PathLaws.{HasVlan, outcome_keeps, walk_keeps}
use Rattle.update_model.specs.Mixtures.{Rollout, IsPossible}
use Rattle.certificates.specs.TwoPhase.{place_carrying, outcome_carrying, IsLabelled, tables_of, Agrees, KeepsPath, KeepsOn, IsLabelPickInForce}
use Rattle.certificates.specs.TwoPhase.{TwoPhaseCertificate}
use Rattle.certificates.specs.declared.Label.{Label}
use Rattle.certificates.specs.declared.LabelPick.{LabelPick}
use Rattle.certificates.specs.declared.TwoPhaseEvidence.{TwoPhaseEvidence}
use Rattle.tag_allocator.specs.Tags.{Tagged, tags_of}
use Rattle.table_difference.specs.SameClasses.{every_address}
use Rattle.two_phase.specs.TwoPhasePlan.{rule, label, label_table, label_tables, label_picks}
use Rattle.two_phase.proofs.TagLaws.{IsTagging}
use Rattle.two_phase.proofs.BandLaws.{header, covers_from, every_has, host_default_in}
use Rattle.two_phase.proofs.MaskLaws.{IsBanded, no_ingress, raw_lookup, tagged_lookup, entering_lookup}
use Rattle.two_phase.proofs.PlaceLaws.{stop_at, place_at, IsInner, goes_inner, entry_within, entry_host}
use Rattle.two_phase.proofs.PlaceLaws.{tagged_outcome, entering_outcome, carries_own, user_lookup}
use Rattle.two_phase.proofs.LabelLaws.{label_cases, pick_of, IsOfVersion, picked}
use Rattle.two_phase.proofs.CertificateLaws.{OfMixtures, IsRawVersion, IsMasked, IsTaggedAll}

-- the pick that is in force is that of the round's version
pick_is : (layers k : ℕ) (version : Bool) (pick : LabelPick) → IsOfVersion layers k version → IsLabelPickInForce (label_picks layers) (suc k) pick
    → pick ≡ pick_of layers version
pick_is layers k false pick of force =
    elim force.stands [
      | inl first ↦ first
      | inr more ↦ elim more [
        | inl second ↦ (let begun = force.begun in let e = ap (λ p. p.round) second in absurd (omega arith))
        | inr none ↦ absurd none
      ]
    ]
pick_is layers k true pick of force =
    elim force.stands [
      | inl first ↦ (
          let latest = force.latest (pick_of layers true) (inr (inl refl)) (omega arith) in
          let e = ap (λ p. p.round) first in
          absurd (omega arith))
      | inr more ↦ elim more [ inl second ↦ second | inr none ↦ absurd none ]
    ]

-- so the label table is that of its version
table_is : (u : Rollout) (layers k : ℕ) (version : Bool) (evidence : TwoPhaseEvidence) (pick : LabelPick) (labels : List Label)
    → evidence.labels ≡ label_tables u.net → evidence.picks ≡ label_picks layers
    → IsOfVersion layers k version → IsLabelPickInForce evidence.picks (suc k) pick → slice_get evidence.labels pick.labels ≡ Some labels
    → labels ≡ label_table u.net version
table_is u layers k version evidence pick labels labels_are picks_are of force there =
    let is : pick ≡ pick_of layers version = pick_is layers k version pick of (subst (λ ps. IsLabelPickInForce ps (suc k) pick) picks_are force) in
    let same : Some labels ≡ Some (label_table u.net version) =
    sym there ∙ ap (λ ls. slice_get ls pick.labels) labels_are
    ∙ ap (λ (p : LabelPick). slice_get (label_tables u.net) p.labels) is ∙ picked u.net layers version in
    cc

module _ (u : Rollout) (new : List (List Rule)) (net_is : IsNetwork u.net) (tags : IsTagging u.net) (old_user : IsUserConfig u.net u.old)
    (new_user : IsUserConfig u.net new) (dst : ℕ) (small : dst < 2 ^ 32) (v : Tagged) (is_tag : IsIn v (tags_of u.net)) where
  user_of : (b : Bool) → IsUserConfig u.net (tables_of u new b)
  user_of true = new_user
  user_of false = old_user

  abbrev IsBandedIn : ℕ → Type 0
  IsBandedIn k = OfMixtures u new k (λ s mixed. IsBanded u.net s (rules_at new s) mixed)

  walk_inner : (tables : List (List Rule)) (place : Place) (rest : List Place) → IsInner u.net net_is place.switch place.port
      → IsWalk (Forwards u.net tables dst) place rest
      → IsInner u.net net_is (end_of place rest).switch (end_of place rest).port
  walk_inner tables place [] inner walk = inner
  walk_inner tables place (next ∷ rest) inner walk =
      walk_inner tables next rest (goes_inner u.net net_is place next (lookup (header_at place dst) (rules_at tables place.switch)) walk.0) walk.1

  -- behind the entry the path of a version comes in by no host port, and keeps the user's VLAN
  behind_entry : (b : Bool) (s : SwitchId) (port : Port) (first place : Place) → outcome_in u.net (tables_of u new b) (place_at s port v.user) dst ≡ Go first
      → IsReached (Forwards u.net (tables_of u new b) dst) first place → IsInner u.net net_is place.switch place.port × (place.vlan ≡ v.user)
  behind_entry b s port first place goes (rest, walk, ends) =
      let tables = tables_of u new b in
      let start : IsInner u.net net_is first.switch first.port =
      goes_inner u.net net_is (place_at s port v.user) first (lookup (header port v.user dst) (rules_at tables s)) goes in
      let first_vlan : first.vlan ≡ v.user = subst (HasVlan v.user) goes (outcome_keeps u.net tables (user_of b) dst (place_at s port v.user)) in (
        subst (λ p. IsInner u.net net_is p.switch p.port) ends (walk_inner tables first rest start walk),
        sym (ap (λ p. p.vlan) ends) ∙ walk_keeps u.net tables (user_of b) dst first rest walk ∙ first_vlan,
      )

  -- with the user's VLAN a packet keeps to the path of the raw rules
  raw_path : (k : ℕ) → IsBandedIn k → (b : Bool) → IsRawVersion u new k b → (s : SwitchId) (port : Port) (first : Place)
      → outcome_in u.net (tables_of u new b) (place_at s port v.user) dst ≡ Go first
      → KeepsPath u k dst (tables_of u new b) first v.user
  raw_path k banded b raws s port first goes place reached found possible =
      let tables = tables_of u new b in
      let (inner, at_vlan) = behind_entry b s port first place goes reached in
      let t = place.switch in
      let p = place.port in
      let kept : found ≡ outcome_carrying v.user (outcome_in u.net tables (place_at t p v.user) dst) =
      possible.is
      ∙ ap (action_outcome u.net (place_at t p v.user))
      (raw_lookup u.net tags t (rules_at new t) (new_user.clear t) (new_user.rules t) p dst possible.mixed (banded t inner.within possible.mixed possible.held)
      v.user (tags.declared v is_tag)
      (λ q g i c. no_ingress u.net tags t (rules_at new t) (new_user.clear t) (new_user.rules t) p dst v.user inner.not_host q g c)
      (rules_at tables t) ((user_of b).clear t) (raws t inner.within possible.mixed possible.held))
      ∙ carries_own v.user (outcome_in u.net tables (place_at t p v.user) dst) (outcome_keeps u.net tables (user_of b) dst (place_at t p v.user)) in
      subst (λ w. found ≡ outcome_carrying v.user (outcome_in u.net tables (place_at t p w) dst)) (sym at_vlan) kept

  -- with the tag it keeps to the new path, where all tagged rules stand
  tagged_path : (k : ℕ) → IsBandedIn k → IsTaggedAll u new k → (s : SwitchId) (port : Port) (first : Place)
      → outcome_in u.net new (place_at s port v.user) dst ≡ Go first
      → KeepsPath u k dst new first (vlan.Id v.tag)
  tagged_path k banded all s port first goes place reached found possible =
      let (inner, at_vlan) = behind_entry true s port first place goes reached in
      let t = place.switch in
      let p = place.port in
      let kept : found ≡ outcome_carrying (vlan.Id v.tag) (outcome_in u.net new (place_at t p v.user) dst) =
      possible.is
      ∙ ap (action_outcome u.net (place_at t p (vlan.Id v.tag)))
      (tagged_lookup u.net tags t (rules_at new t) (new_user.clear t) (new_user.rules t) p dst possible.mixed
      (banded t inner.within possible.mixed possible.held) v is_tag small inner.not_host
      (all t inner.within possible.mixed possible.held))
      ∙ tagged_outcome u.net t p v.user v.tag (lookup (header p v.user dst) (rules_at new t))
      (user_lookup u.net t (header p v.user dst) (rules_at new t) (new_user.rules t)) in
      subst (λ w. found ≡ outcome_carrying (vlan.Id v.tag) (outcome_in u.net new (place_at t p w) dst)) (sym at_vlan) kept

  -- the two VLANs of an entry differ
  not_both : vlan.Id v.tag ≡ v.user → ⊥
  not_both e = tags.undeclared v is_tag (subst (λ x. IsIn x u.net.vlans) (sym e) (tags.declared v is_tag))

  goes_vlan : (tag : Vlan) (o : Outcome) (next : Place) → Go next ≡ outcome_carrying tag o → next.vlan ≡ tag
  goes_vlan tag Discard next e = absurd (let f : Go next ≡ Discard = e in cc)
  goes_vlan tag (Leave port w) next e = absurd (let f : Go next ≡ Leave port w = e in cc)
  goes_vlan tag (Go q) next e = let f : next ≡ place_carrying tag q = cc in ap (λ p. p.vlan) f

  -- where all ingress rules stand a packet goes on from the entry with the tag alone
  enters_tagged : (r : ℕ) → IsBandedIn r → IsMasked u new r → (s : SwitchId) (port : Port) → IsIn (stop_at s port) u.net.hosts → (next : Place)
      → IsPossible u r dst (place_at s port v.user) (Go next)
      → next.vlan ≡ vlan.Id v.tag
  enters_tagged r banded masked s port host next possible =
      let within = entry_within u.net net_is s port host in
      let here = banded s within possible.mixed possible.held in
      elim (entering_lookup u.net tags s (rules_at new s) (new_user.clear s) (new_user.rules s) port dst possible.mixed here v is_tag small) [
        | inl hit ↦ goes_vlan (vlan.Id v.tag) (outcome_in u.net new (place_at s port v.user) dst) next
            (possible.is ∙ ap (action_outcome u.net (place_at s port v.user)) hit.0
            ∙ entering_outcome u.net s port v.user v.tag (lookup (header port v.user dst) (rules_at new s))
            (user_lookup u.net s (header port v.user dst) (rules_at new s) (new_user.rules s)))
        | inr none ↦ (
            let d = rule 32768 (Some port) test.Any every_address action.Discard in
            let i = host_default_in u.net s (rules_at new s) port (entry_host u.net s port host) in
            absurd (none d i (masked s within possible.mixed possible.held d i)
            (covers_from d.key.pattern (header port v.user dst) (eq-eqb port.0 port.0 refl) refl (every_has dst small))))
      ]

  -- what went on from the entry in round r keeps to its path in a later round k, if the tagged rules stand in k, and if the raw rules of the version
  -- stand there or no packet goes on untagged in r
  module _ (r k : ℕ) (banded_first : IsBandedIn r) (banded : IsBandedIn k) (version : Bool) (all : IsTaggedAll u new k)
      (raws : IsRawVersion u new k version ⊎ IsMasked u new r) where
    later_at : (s : SwitchId) (port : Port) → IsIn (stop_at s port) u.net.hosts → (found : Outcome) → IsPossible u r dst (place_at s port v.user) found
        → (b : Bool) → Agrees u.net (tables_of u new b) (label_table u.net version) b dst (place_at s port v.user) found
        → KeepsOn u k dst (tables_of u new b) (place_at s port v.user) found
    later_at s port host found possible b agrees first next is_next goes =
        let entry = place_at s port v.user in
        let here : IsIn (label next.vlan b v.user) (label_table u.net version) =
        subst (IsLabelled (label_table u.net version) b v.user) is_next agrees.labelled in
        let (x, j, either) = label_cases u.net version (label next.vlan b v.user) here in
        elim either [
          | inl own ↦ (
              let same : v ≡ x = tags.by_user v x is_tag j (ap (λ l. l.user) own) in
              let own_vlan : next.vlan ≡ v.user = ap (λ l. l.vlan) own ∙ sym (ap (λ y. y.user) same) in
              let own_version : b ≡ version = ap (λ l. l.new) own in
              elim raws [
                | inl standing ↦ subst (λ w. KeepsPath u k dst (tables_of u new b) first w) (sym own_vlan)
                    (subst (λ y. outcome_in u.net (tables_of u new y) entry dst ≡ Go first → KeepsPath u k dst (tables_of u new y) first v.user)
                    (sym own_version) (raw_path k banded version standing s port first) goes)
                | inr masked ↦ (
                    let tagged = enters_tagged r banded_first masked s port host next (subst (IsPossible u r dst entry) is_next possible) in
                    absurd (not_both (sym tagged ∙ own_vlan)))
              ])
          | inr tag ↦ (
              let same : v ≡ x = tags.by_user v x is_tag j (ap (λ l. l.user) tag) in
              let tag_vlan : next.vlan ≡ vlan.Id v.tag = ap (λ l. l.vlan) tag ∙ sym (ap (λ y. vlan.Id y.tag) same) in
              let tag_version : b ≡ true = ap (λ l. l.new) tag in
              subst (λ w. KeepsPath u k dst (tables_of u new b) first w) (sym tag_vlan)
              (subst (λ y. outcome_in u.net (tables_of u new y) entry dst ≡ Go first → KeepsPath u k dst (tables_of u new y) first (vlan.Id v.tag))
              (sym tag_version) (tagged_path k banded all s port first) goes))
        ]

module _ (u : Rollout) (new : List (List Rule)) (net_is : IsNetwork u.net) (tags : IsTagging u.net) (old_user : IsUserConfig u.net u.old)
    (new_user : IsUserConfig u.net new) (dst : ℕ) (small : dst < 2 ^ 32) (entry : Place) (is_entry : IsEntry u.net entry) where
  abbrev IsBandedAt : ℕ → Type 0
  IsBandedAt k = OfMixtures u new k (λ s mixed. IsBanded u.net s (rules_at new s) mixed)

  pub later : (r k : ℕ) → IsBandedAt r → IsBandedAt k → (version : Bool) → IsTaggedAll u new k → IsRawVersion u new k version ⊎ IsMasked u new r
      → (found : Outcome) → IsPossible u r dst entry found
      → (b : Bool) → Agrees u.net (tables_of u new b) (label_table u.net version) b dst entry found → KeepsOn u k dst (tables_of u new b) entry found
  later r k banded_first banded version all raws =
      let (v, is_tag, e) = tags.each entry.vlan is_entry.declared in
      subst (λ w. (found : Outcome) → IsPossible u r dst (place_at entry.switch entry.port w) found
      → (b : Bool) → Agrees u.net (tables_of u new b) (label_table u.net version) b dst (place_at entry.switch entry.port w) found
      → KeepsOn u k dst (tables_of u new b) (place_at entry.switch entry.port w) found) e
      (later_at u new net_is tags old_user new_user dst small v is_tag r k banded_first banded version all raws entry.switch entry.port is_entry.host)

  -- the certificate of round r in a span up to round `last`, from that of the round alone
  pub labelled_until : (layers r last : ℕ) (version : Bool) (evidence : TwoPhaseEvidence) → evidence.labels ≡ label_tables u.net
      → evidence.picks ≡ label_picks layers → IsOfVersion layers r version
      → (alone : TwoPhaseCertificate u new evidence r dst entry) → IsBandedAt r
      → ((k : ℕ) → r < k → k ≤ last → IsBandedAt k × IsTaggedAll u new k × (IsRawVersion u new k version ⊎ IsMasked u new r))
      → (found : Outcome) → IsPossible u r dst entry found → (b : Bool) → Agrees u.net (tables_of u new b) alone.labels b dst entry found
      → (k : ℕ) → r ≤ k → k ≤ last → KeepsOn u k dst (tables_of u new b) entry found
  labelled_until layers r last version evidence labels_are picks_are of alone banded then found possible b agrees k ge le =
      elim (cases_lt r k) [
        | inl behind ↦ (
            let (here, all, raws) = then k behind le in
            let labels_is = table_is u layers r version evidence alone.pick alone.labels labels_are picks_are of alone.in_force alone.table_is in
            later r k banded here version all raws found possible b (subst (λ ls. Agrees u.net (tables_of u new b) ls b dst entry found) labels_is agrees))
        | inr not_behind ↦ subst (λ n. KeepsOn u n dst (tables_of u new b) entry found) (let e : r ≡ k = omega arith in e) (alone.keeps found possible b agrees)
      ]
