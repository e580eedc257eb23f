-- A plan that is read is valid.
use Rattle.std.proofs.Common.{◌≡◌, ℕ, ◌≤◌, List, length, Result, Ok, Err, subst, arith}
use Rattle.std.specs.Prelude.{IfOk, sum_by, codes, option_and_then}
use Rattle.serde_json.specs.Data.{Data}
use Rattle.net_base.specs.declared.field.Field.TheVariants as field
use Rattle.net_base.specs.Reading.{check, need, Gives}
use Rattle.flat_json.specs.JsonTree.{is_object, text_at, whole_at, tree_in}
use Rattle.net_base.proofs.Turns.{ok_is}
use Rattle.topology.specs.Networks.{Network}
use Rattle.update_model.specs.declared.Change.{Change}
use Rattle.certificates.specs.declared.OrderedEvidence.{OrderedEvidence}
use Rattle.certificates.specs.declared.TwoPhaseEvidence.{TwoPhaseEvidence}
use Rattle.certificates.specs.declared.Evidence.{Evidence}
use Rattle.certificates.specs.declared.Evidence.TheVariants as evidence
use Rattle.certificates.specs.declared.Plan.{Plan}
use Rattle.certificates.specs.Valid.{IsValidOrdered, IsValidTwoPhase, IsValidEvidence, IsValidPlan}
use Rattle.plan_format.specs.Changes.{rules_in, rounds_in}
use Rattle.plan_format.specs.Evidence.{numberings_in, befores_in, labels_in, label_picks_in}
use Rattle.plan_format.specs.Plans.{format_of, kind_of, spelling_in, pick_table_in, ordered_in, two_phase_in, evidence_in, plan_at, plan_in}
use Rattle.plan_format.specs.declared.changes.Spelling.{Spelling}
use Rattle.plan_format.specs.declared.changes.Spelling.TheVariants.{Objects, Numbers}
use Rattle.plan_format.specs.declared.picks.PickTable.{PickTable}
use Rattle.plan_format.specs.declared.read.Format.{Format}
use Rattle.plan_format.specs.declared.read.Format.TheVariants.{One, Two}
use Rattle.plan_format.specs.declared.read.PlanKind.{PlanKind}
use Rattle.plan_format.specs.declared.read.PlanKind.TheVariants.{Ordered, TwoPhase}
use Rattle.plan_format.specs.declared.fault.PlanFault.{PlanFault}
use Rattle.plan_format.specs.declared.fault.PlanFault.TheVariants.{NotJson, Shape, BadFormat, Memory}
use Rattle.plan_format.proofs.ReadLaws.{step}
use Rattle.plan_format.proofs.ValidChanges.{IsSpelling, rules_are, rounds_are}
use Rattle.plan_format.proofs.ValidEvidence.{IsTable, numberings_are, befores_are, full_picks_are, uses_and_picks_are, labels_are, label_picks_are}

module _ (net : Network) where
  spelling_is : (format : Format) (top : Data) (spelling : Spelling) → spelling_in net format top ≡ Ok spelling → IsSpelling net spelling
  unfolding spelling_in
  spelling_is One top spelling e = subst (IsSpelling net) (ok_is {E = PlanFault} Objects spelling e) tt
  spelling_is Two top spelling e =
      step (rules_in net top) _ spelling e (λ rules h e1.
      subst (IsSpelling net) (ok_is {E = PlanFault} (Numbers rules) spelling e1) (rules_are net top rules h))

  table_is : (format : Format) (rounds numberings befores : ℕ) (top : Data) (t : PickTable) → rounds ≤ 4200 → pick_table_in format rounds numberings befores top ≡ Ok t → IsTable rounds numberings befores t
  table_is One rounds numberings befores top t few e = full_picks_are rounds numberings befores top t few e
  table_is Two rounds numberings befores top t few e = uses_and_picks_are rounds numberings befores top t e

  ordered_is : (format : Format) (rounds : ℕ) (top : Data) (o : OrderedEvidence) → rounds ≤ 4200 → ordered_in net format rounds top ≡ Ok o → IsValidOrdered net rounds o
  unfolding ordered_in
  ordered_is format rounds top o few e =
      step (numberings_in net top) _ o e (λ numberings h0 e0.
      step (befores_in net top) _ o e0 (λ befores h1 e1.
      step (pick_table_in format rounds (length numberings) (length befores) top) _ o e1 (λ table h2 e2.
      let all = table_is format rounds (length numberings) (length befores) top table few h2 in
      let one : OrderedEvidence = record { numberings = numberings; befores = befores; uses = table.uses; picks = table.picks } in
      subst (IsValidOrdered net rounds) (ok_is {E = PlanFault} one o e2) (record {
        numberings = numberings_are net top numberings h0;
        befores = befores_are net top befores h1;
        uses = all.uses;
        picks = all.picks;
        ascending = all.chain;
      }))))

  two_phase_is : (spelling : Spelling) (rounds : List (List Change)) (top : Data) (t : TwoPhaseEvidence) → IsSpelling net spelling → sum_by length rounds ≤ 2200000 → two_phase_in net spelling rounds top ≡ Ok t
      → IsValidTwoPhase net (length rounds) (sum_by length rounds) t
  unfolding two_phase_in
  two_phase_is spelling rounds top t good few e =
      step (labels_in top) _ t e (λ labels h0 e0.
      step (label_picks_in (length rounds) (length labels) top) _ t e0 (λ picks h1 e1.
      step (rounds_in net spelling field.Tried 4096 (sum_by length rounds) top) _ t e1 (λ tried h2 e2.
      let all = label_picks_are (length rounds) (length labels) top picks h1 in
      let (tries, count) = rounds_are net spelling field.Tried good 4096 (sum_by length rounds) top tried few h2 in
      let one : TwoPhaseEvidence = record { labels = labels; picks = picks; tried = tried } in
      subst (IsValidTwoPhase net (length rounds) (sum_by length rounds)) (ok_is {E = PlanFault} one t e2) (record {
        labels = labels_are top labels h0;
        picks = all.each;
        ascending = all.chain;
        few_tried = count;
        few_changes = tries.few;
        tried = tries.each;
      }))))

  evidence_is : (format : Format) (kind : PlanKind) (spelling : Spelling) (rounds : List (List Change)) (top : Data) (v : Evidence) → IsSpelling net spelling → length rounds ≤ 4200 → sum_by length rounds ≤ 2200000
      → evidence_in net format kind spelling rounds top ≡ Ok v → IsValidEvidence net (length rounds) (sum_by length rounds) v
  unfolding evidence_in
  evidence_is format Ordered spelling rounds top v good few changes e =
      step (ordered_in net format (length rounds) top) _ v e (λ o h e1.
      subst (IsValidEvidence net (length rounds) (sum_by length rounds)) (ok_is {E = PlanFault} (evidence.Ordered o) v e1) (ordered_is format (length rounds) top o few h))
  evidence_is format TwoPhase spelling rounds top v good few changes e =
      step (two_phase_in net spelling rounds top) _ v e (λ t h e1.
      subst (IsValidEvidence net (length rounds) (sum_by length rounds)) (ok_is {E = PlanFault} (evidence.TwoPhase t) v e1) (two_phase_is spelling rounds top t good changes h))

  -- the plan of a tree is valid
  pub plan_at_is : (top : Data) (plan : Plan) → plan_at net top ≡ Ok plan → IsValidPlan net plan
  unfolding plan_at
  plan_at_is top plan e =
      step (check (is_object top) (Shape field.Top 0)) _ plan e (λ _ h0 e0.
      step (need (whole_at (codes "format") top) (Shape field.Format 0)) _ plan e0 (λ number h1 e1.
      step (need (format_of number) BadFormat) _ plan e1 (λ format h2 e2.
      step (need (option_and_then kind_of (text_at (codes "kind") top)) (Shape field.Kind 0)) _ plan e2 (λ kind h3 e3.
      step (spelling_in net format top) _ plan e3 (λ spelling h4 e4.
      step (rounds_in net spelling field.Rounds 4200 0 top) _ plan e4 (λ rounds h5 e5.
      step (evidence_in net format kind spelling rounds top) _ plan e5 (λ v h6 e6.
      let good = spelling_is format top spelling h4 in
      let (all, count) = rounds_are net spelling field.Rounds good 4200 0 top rounds (omega arith) h5 in
      let few : sum_by length rounds ≤ 2200000 = omega (arith, all.few) in
      let one : Plan = record { rounds = rounds; evidence = v } in
      subst (IsValidPlan net) (ok_is {E = PlanFault} one plan e6) (record {
        few_rounds = count;
        few_changes = few;
        rounds = all.each;
        evidence = evidence_is format kind spelling rounds top v good count few h6;
      }))))))))

  pub plans_are : (bytes : List ℕ) (plan : Plan) → plan_in net bytes ≡ Ok plan → IsValidPlan net plan
  unfolding plan_in
  plans_are bytes plan e = step (need (tree_in bytes) NotJson) _ plan e (λ top h e1. plan_at_is top plan e1)

  -- what a reader that gives the plan of the bytes returned is valid
  pub valid_if_given : (bytes : List ℕ) (result : Result Plan PlanFault) → Gives Memory (λ p. p) result (plan_in net bytes) → IfOk result (IsValidPlan net)
  valid_if_given bytes (Ok plan) h = plans_are bytes plan h
  valid_if_given bytes (Err e) h = tt
