-- Rounds for which the switches are prepared are good and clear, and the first fault of the first other round is the first of all.
use Rattle.std.proofs.Common.{◌≡◌, ℕ, suc, ◌<◌, ◌≤◌, List, [], ◌∷◌, length, refl, sym, ◌∙◌, subst, inl, inr, arith}
use Rattle.std.specs.Prelude.{Option, Some, None, IsSomeAnd}
use Rattle.std.proofs.lemmas.Bool.{cases_lt}
use Rattle.std.proofs.lemmas.List.{get_or_past}
use Rattle.std.proofs.lemmas.Option.{get_or_from_slice_get, slice_get_within}
use Rattle.net_base.specs.Members.{IsIn, IsSubsequence}
use Rattle.net_base.specs.declared.ids.SwitchId.{SwitchId}
use Rattle.topology.specs.Networks.{switch_count}
use Rattle.flow_rules.specs.Tables.{rules_at}
use Rattle.flow_rules.specs.declared.rules.Rule.{Rule}
use Rattle.update_model.specs.Changes.{changes_at, round_after, rules_after, IsGoodRound}
use Rattle.update_model.specs.Mixtures.{Rollout, tables_before, need_of}
use Rattle.update_model.specs.declared.Change.{Change}
use Rattle.round_mix.specs.Prepared.{MixedState, AreGood, AreClear, IsPrepared}
use Rattle.round_mix.specs.declared.MarkedRule.{MarkedRule}
use Rattle.round_mix.proofs.ClearLaws.{prepared_needed}
use Rattle.round_mix.proofs.RoundLaws.{good_round, good_there, within_good}
use Rattle.check_reasons.specs.Loaded.{AreLoaded, IsLoaded}
use Rattle.check_reasons.specs.Ranks.{IsBefore, rank_of}
use Rattle.check_reasons.specs.Reasons.{IsBadChange, IsUnclear}
use Rattle.check_reasons.specs.declared.reason.Reason.{Reason}
use Rattle.check_reasons.specs.declared.reason.Reason.TheVariants.{BadChange, Ambiguous}
use Rattle.round_tables.specs.PreparedTables.{PreparedState, IsMixed, mix_at}
use Rattle.round_tables.specs.Loading.{ArePrepared, AreSwitchesBelow, IsFirstBadChange, IsFirstUnclear}
use Rattle.round_tables.specs.Sound.{IsRoundReason, IsFirstRoundReason, bad_change, ambiguous, IsFault, IsFaultIn}
use Rattle.round_tables.specs.declared.sound.SoundFault.{SoundFault}
use Rattle.round_tables.specs.declared.sound.SoundFault.TheVariants as fault
use Rattle.update_model.proofs.RoundLaws.{length-settled}
use Rattle.round_tables.proofs.LoadLaws.{good_mixed, clear_mixed}
use Rattle.round_tables.proofs.FaultLaws.{good_no_bad}
use Rattle.round_tables.proofs.ApplyLaws.{none_past}

nothing_made : (made : List Change) → IsSubsequence made [] → made ≡ []
nothing_made [] h = refl
nothing_made (c ∷ made) h = absurd h

-- without rules and changes all is good and clear
good_none : AreGood [] []
good_none = record { applies = tt; distinct = tt }

clear_none : AreClear [] []
clear_none mixed held h a b in_a in_b over_a over_b same =
    absurd (subst (λ (cs : List Change). IsIn a (rules_after cs [])) (nothing_made held.made held.some) ((held.same a).0 in_a))

module _ (u : Rollout) (k : ℕ) (p : PreparedState) (prepared : ArePrepared u k p) where
  len : length (tables_before u k) ≡ length u.old
  len = length-settled u.rounds k u.old

  pub prepared_within : AreSwitchesBelow (length (tables_before u k)) (round_after k u.rounds)
  prepared_within = subst (λ (n : ℕ). AreSwitchesBelow n (round_after k u.rounds)) (sym len) prepared.within

  -- beyond the switches there are no rules and no changes
  pub rules_beyond : (s : SwitchId) → length u.old ≤ s.0 → rules_at (tables_before u k) s ≡ []
  rules_beyond s past = get_or_past (tables_before u k) s.0 [] (let l = len in omega arith)

  pub changes_beyond : (s : SwitchId) → length u.old ≤ s.0 → changes_at s (round_after k u.rounds) ≡ []
  changes_beyond s past = none_past (length u.old) (round_after k u.rounds) s prepared.within past

  -- the changes at each switch are good, and each mixture is clear
  pub good_each : (s : SwitchId) → AreGood (rules_at (tables_before u k) s) (changes_at s (round_after k u.rounds))
  good_each s =
      elim (cases_lt s.0 (length u.old)) [
        | inl below ↦ good_mixed (rules_at (tables_before u k) s) (changes_at s (round_after k u.rounds)) (mix_at p.mixes s) (prepared.each s below)
        | inr past ↦ subst (λ (rs : List Rule). AreGood rs (changes_at s (round_after k u.rounds))) (sym (rules_beyond s past))
            (subst (AreGood []) (sym (changes_beyond s past)) good_none)
      ]

  pub clear_each : (s : SwitchId) → AreClear (rules_at (tables_before u k) s) (changes_at s (round_after k u.rounds))
  clear_each s =
      elim (cases_lt s.0 (length u.old)) [
        | inl below ↦ clear_mixed (rules_at (tables_before u k) s) (changes_at s (round_after k u.rounds)) (mix_at p.mixes s) (prepared.each s below)
        | inr past ↦ subst (λ (rs : List Rule). AreClear rs (changes_at s (round_after k u.rounds))) (sym (rules_beyond s past))
            (subst (AreClear []) (sym (changes_beyond s past)) clear_none)
      ]

  -- so the round is good
  pub good_prepared : IsGoodRound (tables_before u k) (round_after k u.rounds)
  good_prepared = good_round (tables_before u k) (round_after k u.rounds) prepared_within good_each

  -- where the switches are those of the network, and each needs few entries, each is prepared with few marked rules
  module _ (count : length u.old ≡ switch_count u.net) (few : (s : SwitchId) → s.0 < switch_count u.net → need_of u k s ≤ 8192) where
    loaded_from : (s : SwitchId) (mixed : MixedState) → s.0 < switch_count u.net → IsMixed (rules_at (tables_before u k) s) (changes_at s (round_after k u.rounds)) mixed → IsLoaded u k s mixed
    loaded_from s mixed below h = go mixed.prepared refl h
      where
        go : (o : Option (List MarkedRule)) → mixed.prepared ≡ o → IsSomeAnd o (IsPrepared (rules_at (tables_before u k) s) (changes_at s (round_after k u.rounds))) → IsLoaded u k s mixed
        go None e g = absurd g
        go (Some marks) e g =
            let needed = prepared_needed (rules_at (tables_before u k) s) (changes_at s (round_after k u.rounds)) marks g in
            let need = few s below in
            record { marks = marks; is = e; prepared = g; few = omega arith }

    pub are_loaded : AreLoaded u k p.mixes
    are_loaded = record {
      count = prepared.count ∙ count;
      each = λ s mixed at.
          let below = slice_get_within p.mixes s.0 mixed at in
          let same : mix_at p.mixes s ≡ mixed = get_or_from_slice_get p.mixes s.0 mixed (record { prepared = None; room = 0; aimed = None }) at in
          let mixes = prepared.count in
          loaded_from s mixed (omega arith)
          (subst (IsMixed (rules_at (tables_before u k) s) (changes_at s (round_after k u.rounds))) same (prepared.each s (omega arith)));
    }

-- a round is good, and each mixture of each switch is clear
pub record IsSound (u : Rollout) (k : ℕ) : Type 0 where
  pub good : IsGoodRound (tables_before u k) (round_after k u.rounds)
  pub clear : (s : SwitchId) → AreClear (rules_at (tables_before u k) s) (changes_at s (round_after k u.rounds))

pub sound_prepared : (u : Rollout) (k : ℕ) (p : PreparedState) → ArePrepared u k p → IsSound u k
sound_prepared u k p prepared = record { good = good_prepared u k p prepared; clear = clear_each u k p prepared }

pub no_bad_sound : (u : Rollout) (k i : ℕ) (o : SwitchId) → IsSound u k → ¬ IsBadChange u k i o
no_bad_sound u k i o sound bad =
    let tables = tables_before u k in
    let round = round_after k u.rounds in
    good_no_bad u k (within_good tables round sound.good.applies) o i (good_there tables round o sound.good) bad

pub no_unclear_sound : (u : Rollout) (k : ℕ) (o : SwitchId) → IsSound u k → ¬ IsUnclear u k o
no_unclear_sound u k o sound bad = bad.unclear (sound.clear o bad.mixed bad.held)

module _ (u : Rollout) (k : ℕ) (less : k < length u.rounds) (below : (j : ℕ) → j < k → IsSound u j) where
  module _ (s : SwitchId) (i : ℕ) (found : IsFirstBadChange u k s i) where
    none_before : (other : Reason) → IsRoundReason u other → ¬ IsBefore (rank_of 0 other) (rank_of 0 (BadChange (suc k) s i))
    none_before other (bad_change j m o bad) before =
        elim (cases_lt j k) [
          | inl earlier ↦ no_bad_sound u j m o (below j earlier) bad
          | inr more ↦ (
              let e : j ≡ k = omega arith in
              found.first o m (subst (λ (n : ℕ). IsBadChange u n m o) e bad)
              (elim (cases_lt o.0 s.0) [ inl lower ↦ inl lower | inr high ↦ inr (omega arith, omega arith) ]))
        ]
    none_before other (ambiguous j o within bad) before = elim (cases_lt j k) [ inl earlier ↦ no_unclear_sound u j o (below j earlier) bad | inr more ↦ omega arith ]

    first_bad_change : IsFirstRoundReason u (BadChange (suc k) s i)
    first_bad_change = record { holds = bad_change k i s found.bad; first = none_before }

  module _ (s : SwitchId) (found : IsFirstUnclear u k s) where
    no_unclear_before : (other : Reason) → IsRoundReason u other → ¬ IsBefore (rank_of 0 other) (rank_of 0 (Ambiguous (suc k) s))
    no_unclear_before other (bad_change j m o bad) before =
        elim (cases_lt j k) [
          | inl earlier ↦ no_bad_sound u j m o (below j earlier) bad
          | inr more ↦ (let e : j ≡ k = omega arith in found.good o m (subst (λ (n : ℕ). IsBadChange u n m o) e bad))
        ]
    no_unclear_before other (ambiguous j o within bad) before =
        elim (cases_lt j k) [
          | inl earlier ↦ no_unclear_sound u j o (below j earlier) bad
          | inr more ↦ (let e : j ≡ k = omega arith in found.first o (omega arith) (subst (λ (n : ℕ). IsUnclear u n o) e bad))
        ]

    first_unclear_switch : IsFirstRoundReason u (Ambiguous (suc k) s)
    first_unclear_switch = record { holds = ambiguous k s less found.unclear; first = no_unclear_before }

  -- the first fault of round k is the first of all
  pub fault_first : (f : SoundFault) → IsFaultIn u k f → IsFault u f
  fault_first (fault.BadChange number s i) (is, found) = subst (λ (n : ℕ). IsFirstRoundReason u (BadChange n s i)) (sym is) (first_bad_change s i found)
  fault_first (fault.Ambiguous number s) (is, found) = subst (λ (n : ℕ). IsFirstRoundReason u (Ambiguous n s)) (sym is) (first_unclear_switch s found)
  fault_first fault.Memory h = tt
