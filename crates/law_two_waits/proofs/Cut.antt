-- The three spans of a two-phase plan with the two waits are certified.
--
-- Let the ingress rules have F layers, ranks or depths: there is always one, of the defaults at the host ports. The plan has 2F + 4 rounds, here
-- counted from 1 as its waits are. Round 1 lays the tagged rules, rounds 2 to F + 1 lay the ingress rules, F + 2 and F + 3 exchange the raw rules,
-- F + 4 to 2F + 3 take the ingress rules away, and 2F + 4 takes the tagged ones. Waits at F + 2 and 2F + 4 make three spans. What a span needs
-- besides the certificates of its rounds is this: a packet that went on from its entry in round r, with the user's VLAN or with its tag, keeps to
-- the path of that version in each later round of the span. On that path it comes in by no host port, so no ingress rule covers it, and its VLAN says
-- whether the raw rules decide or the tagged ones.
--
-- In rounds 1 to F + 1 the user's VLAN says the old version. A packet with it meets raw rules, and these are the old ones throughout, since only
-- rules of the bands are laid. A packet with a tag went on behind round 1: it meets the tagged rules, and all of them stand from round 2 on.
--
-- In rounds F + 2 to 2F + 3 both VLANs say the new version, and all tagged rules stand throughout, so a packet with a tag keeps to the new path. During
-- the exchange the ingress rules stand, all of them: no packet goes on with the user's VLAN. One that does so later meets the raw rules behind the
-- exchange, and these are the new ones until the end, since only rules of the bands are taken.
--
-- The last round is a span alone.
--
-- Nothing of this depends on demands or their waypoints, nor on whether a round changes anything at a switch or at all. Where both versions agree at
-- an entry, a packet with the user's VLAN is of the version that the label table of its round says, and this changes with the first wait alone.
use Rattle.std.proofs.Common.{◌≡◌, ◌⊎◌, ℕ, suc, ◌+◌, ◌*◌, ◌<◌, ◌≤◌, Bool, true, false, List, length, refl, inl, inr, arith}
use Rattle.std.proofs.lemmas.Bool.{cases_lt}
use Rattle.net_base.specs.declared.ids.SwitchId.{SwitchId}
use Rattle.topology.specs.Networks.{Network, IsNetwork}
use Rattle.flow_rules.specs.declared.rules.Rule.{Rule}
use Rattle.path_walk.specs.UserConfigs.{IsUserConfig}
use Rattle.dest_classes.specs.Classes.{IsClass}
use Rattle.dest_classes.specs.declared.Class.{Class}
use Rattle.dest_classes.proofs.EntryLaws.{class_entry, class_small}
use Rattle.demands.specs.Duties.{DemandView}
use Rattle.update_model.specs.Mixtures.{Rollout}
use Rattle.update_model.specs.declared.Change.{Change}
use Rattle.certificates.specs.Certified.{IsCertified, classes_for, blocks_of}
use Rattle.certificates.specs.Updates.{Task}
use Rattle.certificates.specs.declared.Evidence.TheVariants.{TwoPhase}
use Rattle.certificates.specs.declared.TwoPhaseEvidence.{TwoPhaseEvidence}
use Rattle.law_spans.specs.Spans.{Span, HasRound, IsPart, IsSpan}
use Rattle.law_spans.specs.Certificates.{IsLabelledInSpan}
use Rattle.law_spans.specs.Certified.{IsCertifiedWithWaits}
use Rattle.law_spans.specs.Cuts.{AreWaits, CanBeCertified}
use Rattle.law_spans.proofs.Parts.{two_phase_part}
use Rattle.two_phase.specs.TwoPhasePlan.{layered_rounds}
use Rattle.two_phase.specs.Laws.{task_by, layered_evidence, FitsTwoPhase}
use Rattle.two_phase.proofs.TagLaws.{IsTagging, tagging}
use Rattle.two_phase.proofs.LabelLaws.{IsOfVersion}
use Rattle.two_phase.proofs.LayerLaws.{IsLayering}
use Rattle.two_phase.proofs.CertificateLaws.{IsRawVersion, IsMasked, IsTaggedAll}
use Rattle.two_phase.proofs.ValidCounts.{rounds_count}
use Rattle.law_two_waits.specs.TwoWaits.{waits_by}
use Rattle.law_two_waits.proofs.Holds.{banded_at, raws_early, tagged_stand, ingress_stand, raws_late}
use Rattle.law_two_waits.proofs.Onward.{labelled_until}

module _ (net : Network) (old new : List (List Rule)) (mark : SwitchId → Rule → ℕ) (before : ℕ → ℕ → Type 0) (layers : ℕ) (laid taken : List ℕ)
    (layering : IsLayering net new mark before layers laid taken) where
  abbrev rounds : List (List Change)
  rounds = layered_rounds net old new mark laid taken

  pub layered_count : length rounds ≡ 2 * layers + 4
  layered_count =
      let e = rounds_count net old new mark laid taken in
      let a = layering.laid_count in
      let b = layering.taken_count in
      omega arith

  pub two_are_waits : AreWaits (waits_by layers) (length rounds)
  two_are_waits =
      let e = layered_count in
      record { ascending = ((omega arith), tt); behind_first = ((omega arith), ((omega arith), tt)); within = ((omega arith), ((omega arith), tt)) }

module _ (net : Network) (net_is : IsNetwork net) (old new : List (List Rule)) (old_user : IsUserConfig net old)
    (new_user : IsUserConfig net new) (fits : FitsTwoPhase net old new)
    (mark : SwitchId → Rule → ℕ) (before : ℕ → ℕ → Type 0) (layers : ℕ) (laid taken : List ℕ) (layering : IsLayering net new mark before layers laid taken)
    (demands : List DemandView) (tried : List (List Change)) where
  abbrev pub t : Task
  t = task_by net old new (layered_rounds net old new mark laid taken) demands

  abbrev pub evidence : TwoPhaseEvidence
  evidence = layered_evidence net layers tried

  abbrev u : Rollout
  u = record { net = net; old = old; rounds = layered_rounds net old new mark laid taken }

  -- what the rounds behind one of a span need: all tagged rules stand, and the raw rules are those of the version, or in the one no packet goes on untagged
  abbrev AreBehind : ℕ → ℕ → Bool → Type 0
  AreBehind r last version = (k : ℕ) → r < k → k ≤ last → IsTaggedAll u new k × (IsRawVersion u new k version ⊎ IsMasked u new r)

  count : length t.rounds ≡ 2 * layers + 4
  count = layered_count net old new mark before layers laid taken layering

  tags : IsTagging net
  tags = tagging net net_is fits.tags

  module _ (certified : IsCertified t (TwoPhase evidence)) where
    labelled : (span : Span) (r : ℕ) → HasRound span r → span.last < length t.rounds → (version : Bool) → IsOfVersion layers r version
        → AreBehind r span.last version
        → (n : ℕ) (class : Class) → IsClass (classes_for t) n class → IsLabelledInSpan u new evidence span r class.first class.entry
    labelled span r has less version of behind n class is_class =
        let from = has.0 in
        let to = has.1 in
        let alone = certified.certificates r n class (omega arith) is_class in
        let small = class_small net (blocks_of old new demands u.rounds) n class is_class in
        let entry = class_entry net (blocks_of old new demands u.rounds) n class is_class in
        let banded = banded_at net net_is tags old new old_user new_user mark before layers laid taken layering fits.room in
        record {
          alone = alone;
          later = labelled_until u new net_is tags old_user new_user class.first small class.entry entry layers r span.last version evidence refl refl of alone
              (banded r (omega arith))
              (λ k ge le. (banded k (omega arith), (behind k ge le).0, (behind k ge le).1));
        }

    all_tagged : (k : ℕ) → 1 ≤ k → k ≤ 2 * layers + 2 → IsTaggedAll u new k
    all_tagged =
        tagged_stand net net_is tags old new old_user new_user mark before layers laid taken layering fits.room certified.good

    old_raws : (k : ℕ) → k ≤ layers → IsRawVersion u new k false
    old_raws =
        raws_early net net_is tags old new old_user new_user mark before layers laid taken layering fits.room

    masked : (k : ℕ) → suc layers ≤ k → k ≤ layers + 2 → IsMasked u new k
    masked =
        ingress_stand net net_is tags old new old_user new_user mark before layers laid taken layering fits.room certified.good

    new_raws : (k : ℕ) → layers + 3 ≤ k → k < length u.rounds → IsRawVersion u new k true
    new_raws =
        raws_late net net_is tags old new old_user new_user mark before layers laid taken layering fits.room certified.good certified.ends

    -- the spans by rounds counted from 0
    abbrev pub first_span : Span
    first_span = record { first = 0; last = layers }

    abbrev second_span : Span
    second_span = record { first = layers + 1; last = 2 * layers + 2 }

    abbrev third_span : Span
    third_span = record { first = 2 * layers + 3; last = 2 * layers + 3 }

    pub first_certified : CanBeCertified t (TwoPhase evidence) first_span
    first_certified n class is_class r has =
        let rounds = count in
        let to = has.1 in
        labelled first_span r has (omega arith) false to (λ k behind le. (all_tagged k (omega arith) (omega arith), inl (old_raws k le))) n class is_class

    second_certified : CanBeCertified t (TwoPhase evidence) second_span
    second_certified n class is_class r has =
        let rounds = count in
        let from = has.0 in
        labelled second_span r has (omega arith) true (omega arith) (λ k behind le. (
          all_tagged k (omega arith) le,
          elim (cases_lt r (layers + 3)) [
            | inl early ↦ inr (masked r (omega arith) (omega arith))
            | inr late ↦ inl (new_raws k (omega arith) (omega arith))
          ],
        )) n class is_class

    third_certified : CanBeCertified t (TwoPhase evidence) third_span
    third_certified n class is_class r has =
        let rounds = count in
        let from = has.0 in
        labelled third_span r has (omega arith) true (omega arith) (λ k behind le. absurd (omega arith)) n class is_class

    pub part_certified : (part span : Span) → IsPart part span → CanBeCertified t (TwoPhase evidence) span → CanBeCertified t (TwoPhase evidence) part
    part_certified part span is whole n class is_class = two_phase_part u new evidence part span class.first class.entry is (whole n class is_class)

    -- each span with the two waits is a part of one of the three
    span_certified : (span : Span) → IsSpan (waits_by layers) (length t.rounds) span → CanBeCertified t (TwoPhase evidence) span
    span_certified span is =
        let rounds = count in
        let within = is.within in
        elim (cases_lt layers span.last) [
          | inl behind ↦ elim (cases_lt span.first (layers + 1)) [
            | inl across ↦ absurd (is.unbroken (layers + 1) across (omega arith) (inl (omega arith)))
            | inr second ↦ elim (cases_lt span.last (2 * layers + 3)) [
              | inl sooner ↦ part_certified span second_span (second, (omega arith)) second_certified
              | inr last ↦ elim (cases_lt span.first (2 * layers + 3)) [
                | inl across ↦ absurd (is.unbroken (2 * layers + 3) across last (inr (inl (omega arith))))
                | inr third ↦ part_certified span third_span (third, (omega arith)) third_certified
              ]
            ]
          ]
          | inr first ↦ part_certified span first_span ((omega arith), first) first_certified
        ]

    pub with_two_waits : IsCertifiedWithWaits t (TwoPhase evidence) (waits_by layers)
    with_two_waits = record {
      old_good = certified.old_good;
      new_good = certified.new_good;
      good = certified.good;
      clear = certified.clear;
      fits = certified.fits;
      keeps = certified.keeps;
      certificates = λ span n class is is_class. span_certified span is n class is_class;
      ends = certified.ends;
    }
