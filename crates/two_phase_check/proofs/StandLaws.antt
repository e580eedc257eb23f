-- Where no change of a round covers the address of a class, and the label table was in force before, its certificate of the round before stands.
use Rattle.std.proofs.Common.{◌≡◌, ℕ, zero, suc, ◌<◌, ◌≤◌, Bool, List, length, sym, subst, inl, inr, arith}
use Rattle.std.proofs.lemmas.Bool.{cases_lt}
use Rattle.net_base.proofs.ItemLaws.{get_from_in}
use Rattle.net_base.specs.declared.ids.SwitchId.{SwitchId}
use Rattle.net_base.specs.declared.ids.Place.{Place}
use Rattle.net_base.specs.declared.ids.Vlan.{Vlan}
use Rattle.flow_rules.specs.Tables.{IsClear}
use Rattle.flow_rules.specs.declared.rules.Rule.{Rule}
use Rattle.path_walk.specs.declared.Outcome.{Outcome}
use Rattle.dest_classes.specs.declared.Class.{Class}
use Rattle.update_model.specs.Changes.{round_after, IsGoodRound}
use Rattle.update_model.specs.Mixtures.{Rollout, tables_before, MayHold, IsPossible}
use Rattle.certificates.specs.Updates.{Task, rollout}
use Rattle.certificates.specs.Certified.{classes_for}
use Rattle.certificates.specs.TwoPhase.{place_carrying, tables_of, KeepsPath, KeepsOn, IsLabelPickInForce, TwoPhaseCertificate}
use Rattle.certificates.specs.declared.Label.{Label}
use Rattle.certificates.specs.declared.LabelPick.{LabelPick}
use Rattle.certificates.specs.declared.TwoPhaseEvidence.{TwoPhaseEvidence}
use Rattle.certificates.specs.declared.Evidence.TheVariants.{TwoPhase}
use Rattle.check_reasons.specs.Passed.{ChangesPass, RoundsPass}
use Rattle.check_reasons.specs.Reasons.{IsTableInForce}
use Rattle.check_reasons.proofs.TouchLaws.{possible_before}
use Rattle.two_phase_check.specs.Agreements.{AgreesAt}
use Rattle.two_phase_check.specs.InForce.{AreBegun}
use Rattle.two_phase_check.specs.Judged.{StandsUntouched, StandUntouched}
use Rattle.two_phase_check.proofs.InForceLaws.{Rise, HaveBegun}
use Rattle.two_phase_check.proofs.JudgedLaws.{table_one}

-- ---- the paths, where all that is possible was possible in the round before

module _ (u : Rollout) (k dst : ℕ) (was : (place : Place) (found : Outcome) → IsPossible u (suc k) dst place found → IsPossible u k dst place found) where
  path_stands : (tables : List (List Rule)) (first : Place) (tag : Vlan) → KeepsPath u k dst tables first tag → KeepsPath u (suc k) dst tables first tag
  path_stands tables first tag keeps place reached found possible = keeps place reached found (was (place_carrying tag place) found possible)

  way_stands : (tables : List (List Rule)) (entry : Place) (found : Outcome) → KeepsOn u k dst tables entry found → KeepsOn u (suc k) dst tables entry found
  way_stands tables entry found keeps first next is goes = path_stands tables first next.vlan (keeps first next is goes)

-- ---- the label table

-- where no pick began with a round, the one in force had begun before
begun_before : (picks : List LabelPick) (round n : ℕ) → AreBegun picks (suc round) n → HaveBegun picks round n → (pick : LabelPick) → IsLabelPickInForce picks (suc round) pick → pick.round ≤ round
begun_before picks round n begun so_far pick force =
    let (i, at) = get_from_in picks pick force.stands in
    elim (cases_lt i n) [
      | inl before ↦ so_far i pick at before
      | inr after ↦ absurd (let later = begun.later i pick at (omega arith) in let now = force.begun in omega arith)
    ]

-- a label table whose pick had begun before was in force before
table_before : (t : Task) (e : TwoPhaseEvidence) (k : ℕ) (labels : List Label) (force : IsTableInForce t e (suc k) labels) → force.pick.round ≤ suc k → IsTableInForce t e k labels
table_before t e k labels force begun = record {
  pick = force.pick;
  in_force = record { stands = force.in_force.stands; begun = begun; latest = λ other i le. force.in_force.latest other i (omega arith) };
  is = force.is;
  declared = force.declared;
}

-- ---- the certificate

-- a class that no change of a round touches keeps the versions apart where it has the certificate of the round before, for the same labels
pub certificate_stands : (t : Task) (e : TwoPhaseEvidence) (k : ℕ) (class : Class) (labels : List Label) → Rise e.picks → suc k < length t.rounds
    → IsGoodRound (tables_before (rollout t) k) (round_after k t.rounds) → IsGoodRound (tables_before (rollout t) (suc k)) (round_after (suc k) t.rounds)
    → ((s : SwitchId) (mixed : List Rule) → MayHold (rollout t) (suc k) s mixed → IsClear mixed)
    → TwoPhaseCertificate (rollout t) t.update.new e k class.first class.entry → IsTableInForce t e k labels → StandsUntouched t (suc k) class labels
certificate_stands t e k class labels rise within good_before good clear cert force off found possible =
    let was = possible_before (rollout t) k class.first within good_before good clear off in
    let before : IsPossible (rollout t) k class.first class.entry found = was class.entry found possible in
    let cert_force : IsTableInForce t e k cert.labels = record { pick = cert.pick; in_force = cert.in_force; is = cert.table_is; declared = cert.declared } in
    let same : cert.labels ≡ labels = table_one t e k cert.labels labels rise cert_force force in
    record {
      agrees = subst (λ (ls : List Label). (version : Bool) × AgreesAt t class ls version found) same (cert.agrees found before);
      keeps = λ version agrees.
          way_stands (rollout t) k class.first was (tables_of (rollout t) t.update.new version) class.entry found
          (cert.keeps found before version (subst (λ (ls : List Label). AgreesAt t class ls version found) (sym same) agrees));
    }

-- in a round that isn't the first and with which no pick begins, the classes that it doesn't touch keep the versions apart where the rounds before passed
pub certificates_stand : (t : Task) (e : TwoPhaseEvidence) (k n : ℕ) (labels : List Label) → Rise e.picks → 0 < k → k < length t.rounds → RoundsPass t (TwoPhase e) k → ChangesPass t (TwoPhase e) k
    → IsTableInForce t e k labels → AreBegun e.picks (suc k) n → HaveBegun e.picks k n → StandUntouched t k (classes_for t) labels
certificates_stand t e zero n labels rise some within before pass force begun so_far = absurd (omega arith)
certificates_stand t e (suc k) n labels rise some within before pass force begun so_far =
    let (changes, classes) = before k (omega arith) in
    let earlier : IsTableInForce t e k labels = table_before t e k labels force (begun_before e.picks (suc k) n begun so_far force.pick force.in_force) in
    λ m class is. certificate_stands t e k class labels rise within changes.good pass.good pass.clear (classes m class is) earlier
