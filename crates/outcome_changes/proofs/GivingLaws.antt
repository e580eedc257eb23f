-- What a trial gives, and that one of them gives what may be.
use Rattle.std.proofs.Common.{◌≡◌, ℕ, ◌+◌, ◌<◌, ◌≤◌, true, List, [], ◌∷◌, ◌++◌, length, get_or, take, sym, ◌∙◌, subst, ap, inl, inr, arith}
use Rattle.std.specs.Prelude.{Some, None, slice_get}
use Rattle.std.proofs.lemmas.Bool.{and_parts, eqb-true}
use Rattle.std.proofs.lemmas.List.{take_more, take_all}
use Rattle.net_base.specs.Members.{IsIn}
use Rattle.net_base.proofs.MemberLaws.{in_from_filter, in_append_cases}
use Rattle.net_base.specs.declared.ids.SwitchId.{SwitchId}
use Rattle.net_base.specs.declared.ids.Place.{Place}
use Rattle.topology.specs.Networks.{Network}
use Rattle.flow_rules.specs.declared.rules.Rule.{Rule}
use Rattle.path_walk.specs.Outcomes.{header_at, outcome}
use Rattle.path_walk.specs.declared.Outcome.{Outcome}
use Rattle.update_model.specs.Changes.{switch_of, rules_after, changes_at}
use Rattle.update_model.specs.Mixtures.{MayBe}
use Rattle.update_model.specs.declared.Change.{Change}
use Rattle.update_model.proofs.ChangeLaws.{key_named}
use Rattle.round_mix.specs.Prepared.{AreGood, AreClear}
use Rattle.outcome_changes.specs.Giving.{IsChangeAt, GiveOutcome}
use Rattle.outcome_changes.specs.Trials.{is_at, is_tried, takes, numbers_where, trial_of, outcome_after, FailsWith}
use Rattle.outcome_changes.specs.declared.trying.Trial.{Trial}
use Rattle.outcome_changes.proofs.NumberLaws.{numbers_rise, each_number, numbered}
use Rattle.outcome_changes.proofs.AppliedLaws.{taken_there}
use Rattle.outcome_changes.proofs.TrialLaws.{some_gives}

-- the numbers of what a trial takes give what it gives
pub gives_from : (net : Network) (rules : List Rule) (round : List Change) (t : Trial) (wanted : Outcome) (numbers : List ℕ)
    → numbers ≡ numbers_where 0 (takes t) round → outcome_after net rules round t ≡ wanted → GiveOutcome net rules round t.place t.dst wanted numbers
gives_from net rules round t wanted numbers are gives =
    subst (GiveOutcome net rules round t.place t.dst wanted) (sym are) (record {
      rise = numbers_rise (takes t) 0 round;
      there = each_number (takes t) (IsChangeAt round t.place.switch) 0 round (λ i c at passes. let e : i ≡ 0 + i = omega arith in subst (IsChangeAt round t.place.switch) e (here i c at passes));
      gives = ap (λ (cs : List Change). outcome net (rules_after cs rules) t.place t.dst) (numbered (takes t) (slice_get round) 0 round (λ i. let e : 0 + i ≡ i = omega arith in ap (slice_get round) e)) ∙ gives;
    })
  where
    same_switch : (a b : SwitchId) → a.0 ≡ b.0 → a ≡ b
    same_switch a b e = ap (λ (n : ℕ). let x : SwitchId = record { 0 = n } in x) e

    here : (i : ℕ) (c : Change) → slice_get round i ≡ Some c → takes t c ≡ true → IsChangeAt round t.place.switch i
    here i c at passes = record {
      change = c;
      is = at;
      at = same_switch (switch_of c) t.place.switch (eqb-true _ _ (and_parts (is_at t.place.switch c) (is_tried (header_at t.place t.dst) t.turned c) passes).0);
    }

-- one of the trials gives what may be
pub some_trial : (net : Network) (rules : List Rule) (round : List Change) (place : Place) (dst : ℕ) (wanted : Outcome)
    → AreGood rules (changes_at place.switch round) → AreClear rules (changes_at place.switch round)
    → MayBe net rules (changes_at place.switch round) place dst wanted
    → ¬ (outcome_after net rules round (trial_of place dst None) ≡ wanted) → ¬ ((c : Change) → IsIn c round → FailsWith net rules round place dst wanted c)
some_trial net rules round place dst wanted good clear may first each =
    elim (some_gives net rules (changes_at place.switch round) good clear place dst wanted may) [
      | inl g ↦ first (ap (λ (cs : List Change). outcome net (rules_after cs rules) place dst) (taken_there (trial_of place dst None) round) ∙ g)
      | inr w ↦ (
          let (i, here) = in_from_filter (is_at place.switch) w.0 round w.1 in
          each w.0 i here w.2 (ap (λ (cs : List Change). outcome net (rules_after cs rules) place dst) (taken_there (trial_of place dst (Some (key_named w.0))) round) ∙ w.3))
    ]

-- a change more of which the trial fails
pub fails_more : (P : Change → Type 0) (cs : List Change) (i : ℕ) (c : Change) → i < length cs → c ≡ get_or cs i c
    → ((d : Change) → IsIn d (take i cs) → P d) → P c → (d : Change) → IsIn d (take (i + 1) cs) → P d
fails_more P cs i c less at before here d j =
    let more : take (i + 1) cs ≡ take i cs ++ c ∷ [] = take_more cs i c less ∙ ap (λ (x : Change). take i cs ++ x ∷ []) (sym at) in
    elim (in_append_cases d (take i cs) (c ∷ []) (subst (IsIn d) more j)) [
      | inl k ↦ before d k
      | inr k ↦ elim k [ inl e ↦ subst P (sym e) here | inr l ↦ absurd l ]
    ]

pub fails_all : (P : Change → Type 0) (cs : List Change) (i : ℕ) → length cs ≤ i → ((d : Change) → IsIn d (take i cs) → P d) → (d : Change) → IsIn d cs → P d
fails_all P cs i past each d j = each d (subst (IsIn d) (sym (take_all i cs past)) j)
