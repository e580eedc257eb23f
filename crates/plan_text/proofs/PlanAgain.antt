-- Reading the text of a plan gives the plan.
use Rattle.std.proofs.Common.{◌≡◌, ℕ, ◌+◌, ◌^◌, ◌<◌, ◌≤◌, List, [], ◌∷◌, ◌++◌, length, sum_by, Some, Ok, refl, ap, ◌∙◌, arith}
use Rattle.std.specs.List.{AllByRecursion}
use Rattle.std.proofs.lemmas.List.Sums.{sum_by-append}
use Rattle.serde_json.specs.Data.{object, Members}
use Rattle.net_base.specs.Members.{IsDistinct}
use Rattle.flat_json.specs.JsonTree.{tree_in}
use Rattle.net_base.specs.declared.field.Field.TheVariants as field
use Rattle.net_base.proofs.MemberLaws.{each_append, each_first, each_last}
use Rattle.json.specs.Lex.{tokens}
use Rattle.json.specs.Print.{print}
use Rattle.json.specs.Written.{Written}
use Rattle.std.specs.Str.{IsUtf8}
use Rattle.topology.specs.Networks.{Network, IsNetwork, switch_count}
use Rattle.plan_text.specs.Tokens.{tokens_of, before_count, Adds}
use Rattle.plan_text.proofs.Order.{ordered_is, two_phase_is}
use Rattle.plan_text.proofs.Shallow.{plan_flat}
use Rattle.plan_text.proofs.ReadBack.{IsRead, ordered_read, two_phase_read, tree_is}
use Rattle.update_model.specs.declared.Change.{Change}
use Rattle.update_model.specs.Ranges.{IsPlanChange}
use Rattle.certificates.specs.declared.OrderedEvidence.{OrderedEvidence}
use Rattle.certificates.specs.declared.TwoPhaseEvidence.{TwoPhaseEvidence}
use Rattle.certificates.specs.declared.Evidence.{Evidence}
use Rattle.certificates.specs.declared.Evidence.TheVariants.{Ordered, TwoPhase}
use Rattle.certificates.specs.declared.Plan.{Plan}
use Rattle.certificates.specs.Valid.{IsValidOrdered, IsValidTwoPhase, IsValidEvidence, IsValidPlan}
use Rattle.plan_format.specs.Evidence.{uses_and_picks_in}
use Rattle.plan_format.specs.Plans.{spelling_in, ordered_in, two_phase_in, evidence_in, plan_at, plan_in}
use Rattle.plan_text.specs.PlanText.{with_evidence, plan_members, plan_tree, used_rules, tried_of, rules_once, rules_of}
use Rattle.plan_format.specs.declared.rules.PlanRule.{PlanRule}
use Rattle.plan_text.proofs.ChangesAgain.{IsInRange, HasNumber, rules_again, rounds_again}
use Rattle.plan_text.proofs.EvidenceAgain.{numberings_again, befores_again, uses_again, picks_again, labels_again, label_picks_again}
use Rattle.plan_text.proofs.UsedAgain.{used_numbered, used_in_range, used_few}
use Rattle.net_base.specs.Switches.{most_switches}

-- ---- with a list of rules that has those of all changes

-- the list has few rules, each in range, and the rules of these rounds
record Serves (net : Network) (rules : List PlanRule) (rounds : List (List Change)) : Type 0 where
  few : length rules ≤ 2200000
  in_range : AllByRecursion (IsInRange net) rules
  numbered : AllByRecursion (AllByRecursion (HasNumber rules)) rounds
  few_changes : sum_by length rounds ≤ 2200000
  few_rounds : length rounds ≤ 4200

module _ (net : Network) (rules : List PlanRule) (rounds : List (List Change)) (distinct : IsDistinct net.names) (serves : Serves net rules rounds) where
  module _ (e : OrderedEvidence) where
    abbrev ordered : Plan
    ordered = record { rounds = rounds; evidence = Ordered e }

    ordered_again : IsValidOrdered net (length rounds) e → plan_at net (object (plan_members net rules ordered)) ≡ Ok ordered
    unfolding plan_at spelling_in evidence_in ordered_in uses_and_picks_in plan_members with_evidence
    ordered_again h =
        let ms : Members = plan_members net rules ordered in
        rw (
          rules_again net ms rules refl distinct serves.few serves.in_range,
          rounds_again net rules field.Rounds 4200 0 ms rounds refl serves.few_rounds (omega (arith, serves.few_changes)) serves.numbered,
          numberings_again net ms e.numberings refl h.numberings,
          befores_again net ms e.befores refl h.befores,
          uses_again (length e.numberings) (length e.befores) ms e.uses refl h.uses,
          picks_again (length rounds) (length e.uses) ms e.picks refl h.picks h.ascending,
        ) refl

  module _ (e : TwoPhaseEvidence) where
    abbrev two_phase : Plan
    two_phase = record { rounds = rounds; evidence = TwoPhase e }

    two_phase_again : IsValidTwoPhase net (length rounds) (sum_by length rounds) e → AllByRecursion (AllByRecursion (HasNumber rules)) e.tried
        → plan_at net (object (plan_members net rules two_phase)) ≡ Ok two_phase
    unfolding plan_at spelling_in evidence_in two_phase_in plan_members with_evidence
    two_phase_again h tried =
        let ms : Members = plan_members net rules two_phase in
        rw (
          rules_again net ms rules refl distinct serves.few serves.in_range,
          rounds_again net rules field.Rounds 4200 0 ms rounds refl serves.few_rounds (omega (arith, serves.few_changes)) serves.numbered,
          labels_again ms e.labels refl h.labels,
          label_picks_again (length rounds) (length e.labels) ms e.picks refl h.picks h.ascending,
          rounds_again net rules field.Tried 4096 (sum_by length rounds) ms e.tried refl h.few_tried h.few_changes tried,
        ) refl

  evidence_again : (e : Evidence) → IsValidEvidence net (length rounds) (sum_by length rounds) e → AllByRecursion (AllByRecursion (HasNumber rules)) (tried_of e)
      → let plan : Plan = record { rounds = rounds; evidence = e } in plan_at net (object (plan_members net rules plan)) ≡ Ok plan
  evidence_again (Ordered e) h tried = ordered_again e h
  evidence_again (TwoPhase e) h tried = two_phase_again e h tried

-- ---- with the rules that it uses

few_in_all : (net : Network) (rounds : List (List Change)) (e : Evidence) → sum_by length rounds ≤ 2200000 → IsValidEvidence net (length rounds) (sum_by length rounds) e
    → sum_by length rounds + sum_by length (tried_of e) ≤ 2200000
few_in_all net rounds (Ordered e) few h = omega arith
few_in_all net rounds (TwoPhase e) few h = h.few_changes

tried_in_range : (net : Network) (rounds changes : ℕ) (e : Evidence) → IsValidEvidence net rounds changes e → AllByRecursion (AllByRecursion (IsPlanChange net)) (tried_of e)
tried_in_range net rounds changes (Ordered e) h = tt
tried_in_range net rounds changes (TwoPhase e) h = h.tried

-- the list of the rules in use, each with its number
used_serves : (net : Network) (plan : Plan) → IsValidPlan net plan
    → Serves net (rules_once (rules_of (plan.rounds ++ tried_of plan.evidence))) plan.rounds × AllByRecursion (AllByRecursion (HasNumber (rules_once (rules_of (plan.rounds ++ tried_of plan.evidence))))) (tried_of plan.evidence)
used_serves net plan valid =
    let tried : List (List Change) = tried_of plan.evidence in
    let all : List (List Change) = plan.rounds ++ tried in
    let rules : List PlanRule = rules_once (rules_of all) in
    let few : sum_by length plan.rounds + sum_by length tried ≤ 2200000 = few_in_all net plan.rounds plan.evidence valid.few_changes valid.evidence in
    let count : sum_by length all ≡ sum_by length plan.rounds + sum_by length tried = sum_by-append (λ (r : List Change). length r) plan.rounds tried in
    let in_range : AllByRecursion (IsInRange net) rules = used_in_range net all
    (each_append (AllByRecursion (IsPlanChange net)) plan.rounds tried valid.rounds (tried_in_range net (length plan.rounds) (sum_by length plan.rounds) plan.evidence valid.evidence)) in
    let numbered : AllByRecursion (AllByRecursion (HasNumber rules)) all = used_numbered all in
    let serves : Serves net rules plan.rounds = record {
      few = omega (arith, used_few all, few, count);
      in_range = in_range;
      numbered = each_first (AllByRecursion (HasNumber rules)) plan.rounds tried numbered;
      few_changes = valid.few_changes;
      few_rounds = valid.few_rounds;
    } in
    (serves, each_last (AllByRecursion (HasNumber rules)) plan.rounds tried numbered)

pub plan_again : (net : Network) (plan : Plan) → IsNetwork net → IsValidPlan net plan → plan_at net (plan_tree net plan) ≡ Ok plan
unfolding used_rules
plan_again net plan kept valid =
    let both = used_serves net plan valid in
    evidence_again net (rules_once (rules_of (plan.rounds ++ tried_of plan.evidence))) plan.rounds kept.names both.0 plan.evidence valid.evidence both.1

-- ---- as bytes

evidence_read : (net : Network) (rules : List PlanRule) (rounds : List (List Change)) (e : Evidence) → switch_count net ≤ most_switches → before_count e < 2 ^ 64 → Serves net rules rounds
    → IsValidEvidence net (length rounds) (sum_by length rounds) e → let plan : Plan = record { rounds = rounds; evidence = e } in IsRead (object (plan_members net rules plan))
evidence_read net rules rounds (Ordered e) switches few serves h =
    rw (ordered_is net rules (record { rounds = rounds; evidence = Ordered e }) e refl) (ordered_read net rules rounds serves.few serves.in_range serves.few_rounds e switches few h)
evidence_read net rules rounds (TwoPhase e) switches few serves h =
    rw (two_phase_is net rules (record { rounds = rounds; evidence = TwoPhase e }) e refl) (two_phase_read net rules rounds serves.few serves.in_range serves.few_rounds e h)

plan_read : (net : Network) (plan : Plan) → IsNetwork net → IsValidPlan net plan → before_count plan.evidence < 2 ^ 64 → IsRead (plan_tree net plan)
unfolding used_rules
plan_read net plan kept valid few =
    let both = used_serves net plan valid in
    evidence_read net (rules_once (rules_of (plan.rounds ++ tried_of plan.evidence))) plan.rounds plan.evidence kept.few few both.0 valid.evidence

-- the bytes of a writer that has written the plan, and a line end
pub text_again : (net : Network) (plan : Plan) (bytes : List ℕ) (start w : Written) → IsNetwork net → IsValidPlan net plan → before_count plan.evidence < 2 ^ 64
    → start.before ≡ [] → start.tokens ≡ [] → Adds start w (tokens_of (plan_tree net plan)) → tokens (print w.tokens) ≡ w.tokens → IsUtf8 (print w.tokens)
    → bytes ≡ (w.before ++ print w.tokens) ++ 10 ∷ [] → plan_in net bytes ≡ Ok plan
unfolding plan_in
text_again net plan bytes start w kept valid few before none adds same utf8 is =
    let flat = plan_flat net plan in
    let reads : tree_in bytes ≡ Some (plan_tree net plan) =
    ap tree_in is ∙ tree_is start w (plan_tree net plan) before none adds same utf8 (plan_read net plan kept valid few) (omega (arith, flat.shallow)) in
    rw reads (plan_again net plan kept valid)
