-- The tables of an update whose rounds are good, and when each switch is prepared for a round.
use Rattle.std.proofs.Common.{◌≡◌, ℕ, ◌<◌, List, length, ◌∙◌, subst, ap, arith}
use Rattle.std.specs.Prelude.{Some, None, slice_get}
use Rattle.std.proofs.lemmas.Option.{get_or_from_slice_get, slice_get_within}
use Rattle.topology.specs.Networks.{switch_count}
use Rattle.flow_rules.specs.Tables.{rules_at}
use Rattle.update_model.specs.Changes.{changes_at, round_after}
use Rattle.update_model.specs.Mixtures.{Rollout, tables_before}
use Rattle.round_mix.specs.Prepared.{MixedState}
use Rattle.round_tables.specs.PreparedTables.{PreparedState, IsMixed, mix_at}
use Rattle.round_tables.specs.Loading.{ArePrepared, IsFirstRoundFault}
use Rattle.round_tables.specs.declared.loading.RoundFault.{RoundFault}
use Rattle.round_tables.specs.declared.loading.RoundFault.TheVariants.{BadChange, Unclear}
use Rattle.round_tables.proofs.SoundLaws.{IsSound, no_bad_sound, no_unclear_sound}
use Rattle.breaking_walks.specs.Rounds.{round_rollout, SwitchesArePrepared}
use Rattle.breaking_walks.specs.declared.round.PreparedRound.{PreparedRound}
use Rattle.counter_run.specs.Updates.{IsClassed, rollout_of}
use Rattle.counter_run.specs.declared.update.ClassedUpdate.{ClassedUpdate}
use Rattle.counter_run.proofs.StageLaws.{length_all}

-- there are as many tables before the update as switches
pub count_old : (update : ClassedUpdate) → IsClassed update → length (rollout_of update).old ≡ switch_count update.net.now
count_old update classed = length_all update.old.now ∙ classed.tables

module _ (update : ClassedUpdate) (classed : IsClassed update) where
  abbrev u : Rollout
  u = rollout_of update

  sound : (k : ℕ) → k < length update.rounds.now → IsSound u k
  sound k less = record { good = classed.good k less; clear = λ s mixed held. classed.clear k less s mixed held }

  -- no round has a fault
  pub no_fault : (k : ℕ) → k < length update.rounds.now → (fault : RoundFault) → ¬ IsFirstRoundFault u k fault
  no_fault k less (BadChange s i) first = no_bad_sound u k i s (sound k less) first.bad
  no_fault k less (Unclear s) first = no_unclear_sound u k s (sound k less) first.unclear

-- a round for which each switch of its tables is prepared
pub switches_prepared : (round : PreparedRound) (p : PreparedState) → ArePrepared (round_rollout round) round.number p → length p.mixes ≡ switch_count round.net.now → round.mixes.now ≡ p.mixes → SwitchesArePrepared round
switches_prepared round p prepared count same = record {
  count = ap length same ∙ count;
  each = λ s mixed at.
      let there : slice_get p.mixes s.0 ≡ Some mixed = subst (λ (ms : List MixedState). slice_get ms s.0 ≡ Some mixed) same at in
      let below = slice_get_within p.mixes s.0 mixed there in
      let mixes = prepared.count in
      let read : mix_at p.mixes s ≡ mixed = get_or_from_slice_get p.mixes s.0 mixed (record { prepared = None; room = 0; aimed = None }) there in
      subst (IsMixed (rules_at (tables_before (round_rollout round) round.number) s) (changes_at s (round_after round.number round.rounds.now))) read (prepared.each s (omega arith));
}
