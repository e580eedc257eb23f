-- The greedy cut of a two-phase plan: at most two waits, and none before the exchange begins.
use Rattle.std.proofs.Common.{ℕ, zero, suc, ◌+◌, ◌≤◌, List, length, inl, inr, arith}
use Rattle.std.proofs.lemmas.Bool.{cases_lt}
use Rattle.net_base.specs.Members.{IsIn}
use Rattle.net_base.proofs.MemberLaws.{each_at, each_from_in}
use Rattle.net_base.specs.declared.ids.SwitchId.{SwitchId}
use Rattle.topology.specs.Networks.{Network}
use Rattle.flow_rules.specs.declared.rules.Rule.{Rule}
use Rattle.demands.specs.Duties.{DemandView}
use Rattle.update_model.specs.declared.Change.{Change}
use Rattle.certificates.specs.declared.Evidence.TheVariants.{TwoPhase}
use Rattle.law_spans.specs.Cuts.{IsGreedyCut}
use Rattle.law_spans.proofs.SpanLaws.{span_of}
use Rattle.law_spans.proofs.Cuts.{fewest_two_phase}
use Rattle.two_phase.specs.TwoPhasePlan.{layered_rounds}
use Rattle.two_phase.specs.Laws.{task_by, layered_evidence}
use Rattle.two_phase.specs.Plans.{layered_plan}
use Rattle.two_phase.proofs.LayerLaws.{IsLayering}
use Rattle.law_two_waits.specs.TwoWaits.{waits_by, IsPromised, IsCertifiedByTwo, NeedsAtMostTwo}
use Rattle.law_two_waits.proofs.Cut.{layered_count, two_are_waits, first_certified, part_certified, with_two_waits}

module _ (net : Network) (old new : List (List Rule)) (mark : SwitchId → Rule → ℕ) (before : ℕ → ℕ → Type 0) (layers : ℕ) (laid taken : List ℕ)
    (layering : IsLayering net new mark before layers laid taken) (tried : List (List Change)) (demands : List DemandView) where
  abbrev rounds : List (List Change)
  rounds = layered_rounds net old new mark laid taken

  pub certified_by_two : IsCertifiedByTwo net old new demands (layered_plan net rounds layers tried) layers
  certified_by_two promised =
      with_two_waits net promised.network old new promised.old_user promised.new_user promised.fits mark before layers laid taken layering demands tried
      promised.certified

  module _ (promised : IsPromised net old new demands (layered_plan net rounds layers tried)) (waits : List ℕ)
      (greedy : IsGreedyCut (task_by net old new rounds demands) (TwoPhase (layered_evidence net layers tried)) waits) where
    -- a wait before the exchange begins would end a span that can have one more round
    none_sooner : (w : ℕ) → IsIn w waits → layers + 2 ≤ w
    none_sooner zero i = absurd (let h = each_at (λ w. 2 ≤ w) waits zero greedy.are_waits.behind_first i in omega arith)
    none_sooner (suc zero) i = absurd (let h = each_at (λ w. 2 ≤ w) waits (suc zero) greedy.are_waits.behind_first i in omega arith)
    none_sooner (suc (suc q)) i =
        let count = layered_count net old new mark before layers laid taken layering in
        elim (cases_lt q layers) [
          | inl early ↦ (
              let (span, is, has) = span_of waits (length rounds) q (omega arith) in
              let from = has.0 in
              let to = has.1 in
              let ends : span.last ≤ q = elim (cases_lt q span.last) [
                | inl behind ↦ absurd (is.unbroken (suc q) (omega arith) (omega arith) i)
                | inr no_later ↦ no_later
              ] in
              absurd (greedy.no_longer span is (omega arith)
              (part_certified net promised.network old new promised.old_user promised.new_user promised.fits mark before layers laid taken layering
              demands tried promised.certified
              (record { first = span.first; last = suc span.last }) (record { first = 0; last = layers }) ((omega arith), (omega arith))
              (first_certified net promised.network old new promised.old_user promised.new_user promised.fits mark before layers laid taken layering
              demands tried promised.certified))))
          | inr late ↦ omega arith
        ]

    no_more : length waits ≤ 2
    no_more =
        fewest_two_phase (task_by net old new rounds demands) (layered_evidence net layers tried) waits (waits_by layers) greedy
        (two_are_waits net old new mark before layers laid taken layering)
        (certified_by_two promised)

  pub at_most_two : NeedsAtMostTwo net old new demands (layered_plan net rounds layers tried) layers
  at_most_two promised waits greedy = (no_more promised waits greedy, each_from_in (λ w. layers + 2 ≤ w) waits (none_sooner promised waits greedy))
