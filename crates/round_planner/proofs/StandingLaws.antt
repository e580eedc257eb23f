-- Where a search stands after one change more.
use Rattle.std.proofs.Common.{◌≡◌, ℕ, suc, ◌<◌, ◌≤◌, List, [], ◌∷◌, ◌++◌, length, refl, ◌∙◌, subst, ap, arith, length-append}
use Rattle.std.specs.List.{AllByRecursion}
use Rattle.net_base.proofs.MemberLaws.{each_at}
use Rattle.net_base.specs.declared.ids.Place.{Place}
use Rattle.flow_rules.specs.declared.rules.Rule.{Rule}
use Rattle.dest_classes.specs.Classes.{class_count}
use Rattle.demands.specs.Duties.{PacketDuties}
use Rattle.update_model.specs.Changes.{tables_after, tables_after_change}
use Rattle.update_model.specs.Mixtures.{Rollout}
use Rattle.update_model.specs.Remaining.{remaining_changes}
use Rattle.update_model.specs.declared.Change.{Change}
use Rattle.certificates.specs.Ordered.{OrderedCertificate}
use Rattle.certificates.specs.declared.OrderedPick.{OrderedPick}
use Rattle.certificates.specs.declared.OrderedEvidence.{OrderedEvidence}
use Rattle.evidence_store.specs.Stored.{IsStored, no_evidence}
use Rattle.round_judge.specs.declared.judging.FoundEvidence.{FoundEvidence}
use Rattle.table_difference.specs.Targets.{Target}
use Rattle.round_judge.specs.Goals.{duties_in}
use Rattle.round_judge.specs.Evidence.{evidence_until, HasEvidenceTo}
use Rattle.round_judge.specs.Judged.{AreSafeBelow, AreWithPicks}
use Rattle.round_judge.proofs.EvidenceLaws.{evidence_none, evidence_more, begun_before}
use Rattle.round_planner.specs.Search.{update_by, single_rounds, IsFirstQualifying, AreFirstQualifying}
use Rattle.round_planner.specs.Standing.{Stands}
use Rattle.round_planner.proofs.SameRound.{IsSameRound, same_back, safe_same, least_same, same_prefix}

-- ---- the changes

-- one more change that is the first that qualifies
pub found_more : (to : Target) (tables : List (List Rule)) (changes : List Change) (c : Change) → AreFirstQualifying to tables changes
    → IsFirstQualifying to (tables_after changes tables) (remaining_changes (tables_after changes tables) to.new) c → AreFirstQualifying to tables (changes ++ c ∷ [])
found_more to tables [] c found first = (first, tt)
found_more to tables (d ∷ changes) c found first = (found.0, found_more to (tables_after_change d tables) changes c found.1 first)

pub length_rounds : (changes : List Change) → length (single_rounds changes) ≡ length changes
length_rounds [] = refl
length_rounds (c ∷ changes) = ap suc (length_rounds changes)

length_more : (changes : List Change) (c : Change) → length (single_rounds (changes ++ c ∷ [])) ≡ suc (length changes)
length_more changes c = length_rounds (changes ++ c ∷ []) ∙ length-append changes (c ∷ []) ∙ (omega arith)

-- ---- evidence for the same rounds of another update

certificate_as : (u v : Rollout) (k : ℕ) → IsSameRound u k v k → (e : OrderedEvidence) (n dst : ℕ) (entry : Place) (duties : PacketDuties)
    → OrderedCertificate u e k n dst entry duties → OrderedCertificate v e k n dst entry duties
certificate_as u v k same e n dst entry duties h =
    record { pick = h.pick; numbers = h.numbers; sets = h.sets; in_force = h.in_force; meant = h.meant; safe = safe_same u k v k same dst entry duties h.numbers h.sets h.safe }

evidence_as : (to : Target) (u v : Rollout) (k : ℕ) → k ≤ length v.rounds → ((j : ℕ) → j < k → IsSameRound u j v j) → (e : OrderedEvidence) → HasEvidenceTo to u k e → HasEvidenceTo to v k e
evidence_as to u v k within same e h = record {
  within = within;
  picks = λ j n class less is.
      let there = same j less in
      let before = h.picks j n class less is in (
        λ has c. before.0 has (certificate_as v u j (same_back u j v j there) (evidence_until j e) n class.first class.entry (duties_in to class) c),
        λ fails. before.1 (λ c. fails (certificate_as u v j there (evidence_until j e) n class.first class.entry (duties_in to class) c)),
      );
  picked = λ p i.
      let l = h.picked p i in
      let less : l.k < k = (let in_rounds = each_at (λ (q : OrderedPick). (0 < q.round) × (q.round ≤ k)) e.picks p h.begun i in let le = in_rounds.1 in let round = l.round_is in omega arith) in
      record {
        k = l.k;
        class = l.class;
        numbers = l.numbers;
        sets = l.sets;
        within = omega arith;
        round_is = l.round_is;
        class_is = l.class_is;
        meant = l.meant;
        least = least_same u l.k v l.k (same l.k less) l.class (duties_in to l.class) l.numbers l.sets l.least;
      };
  begun = h.begun;
  ascending = h.ascending;
  once = h.once;
  certificates = λ j n class less is. certificate_as u v j (same j less) e n class.first class.entry (duties_in to class) (h.certificates j n class less is);
  numberings = h.numberings;
  befores = h.befores;
}

-- ---- where a search begins

pub stands_none : (to : Target) (old : List (List Rule)) → Stands to old [] no_evidence
stands_none to old = record { found = tt; so_far = evidence_none to (update_by to old []) }

-- ---- one change more

-- the picks so far are of the rounds so far
pub begun : (to : Target) (old : List (List Rule)) (changes : List Change) (e : OrderedEvidence) → Stands to old changes e → AllByRecursion (λ p. p.round < suc (length changes)) e.picks
begun to old changes e stands = begun_before to (update_by to old changes) (length changes) e stands.so_far

-- the evidence so far is that for the rounds so far of a longer search
pub evidence_there : (to : Target) (old : List (List Rule)) (changes : List Change) (c : Change) (e : OrderedEvidence) → Stands to old changes e
    → HasEvidenceTo to (update_by to old (changes ++ c ∷ [])) (length changes) e
evidence_there to old changes c e stands =
    evidence_as to (update_by to old changes) (update_by to old (changes ++ c ∷ [])) (length changes) (let count = length_more changes c in omega arith)
    (λ j less. same_prefix to old changes (c ∷ []) j less) e stands.so_far

-- the search goes on
pub stands_more : (to : Target) (old : List (List Rule)) (changes : List Change) (c : Change) (e more : OrderedEvidence) (found : List FoundEvidence)
    → Stands to old changes e → IsFirstQualifying to (tables_after changes old) (remaining_changes (tables_after changes old) to.new) c
    → IsStored e → AreSafeBelow to (update_by to old (changes ++ c ∷ [])) e (length changes) (class_count to.classes) found
    → AreWithPicks e (suc (length changes)) found more → IsStored more → Stands to old (changes ++ c ∷ []) more
stands_more to old changes c e more found stands first stored_old safe added stored =
    let count : suc (length changes) ≡ length (changes ++ c ∷ []) = (let sum = length-append changes (c ∷ []) in omega arith) in
    let rounds = length_more changes c in
    record {
      found = found_more to old changes c stands.found first;
      so_far = subst (λ n. HasEvidenceTo to (update_by to old (changes ++ c ∷ [])) n more) count
          (evidence_more to (update_by to old (changes ++ c ∷ [])) refl (length changes) (omega arith) e more found (evidence_there to old changes c e stands) stored_old safe added stored);
    }
