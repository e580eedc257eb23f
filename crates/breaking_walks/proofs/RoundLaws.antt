-- What is prepared of a switch for a round.
use Rattle.std.proofs.Common.{◌≡◌, ◌<◌, List, length, get_or, refl, subst, arith}
use Rattle.std.specs.Prelude.{Option, Some, None, IsSome, IsSomeAnd}
use Rattle.std.proofs.lemmas.Option.{slice_get-get_or}
use Rattle.net_base.specs.declared.ids.SwitchId.{SwitchId}
use Rattle.topology.specs.Networks.{switch_count}
use Rattle.flow_rules.specs.declared.rules.Rule.{Rule}
use Rattle.update_model.specs.Mixtures.{entries_needed}
use Rattle.update_model.specs.declared.Change.{Change}
use Rattle.round_mix.specs.Prepared.{MixedState, IsPrepared}
use Rattle.round_mix.specs.declared.MarkedRule.{MarkedRule}
use Rattle.round_mix.proofs.ClearLaws.{prepared_needed}
use Rattle.breaking_walks.specs.Rounds.{IsPreparedFor, SwitchesArePrepared}
use Rattle.breaking_walks.specs.declared.round.PreparedRound.{PreparedRound}

-- a switch that is read is prepared
pub prepared_read : (round : PreparedRound) → SwitchesArePrepared round → (s : SwitchId) → s.0 < switch_count round.net.now → (none : MixedState)
    → IsPreparedFor round s (get_or round.mixes.now s.0 none)
prepared_read round all s within none =
    let count = all.count in
    all.each s (get_or round.mixes.now s.0 none) (slice_get-get_or round.mixes.now s.0 none (omega arith))

module _ (table : List Rule) (changes : List Change) where
  pub is_prepared : (o : Option (List MarkedRule)) → IsSomeAnd o (IsPrepared table changes) → IsSome o
  is_prepared None h = absurd h
  is_prepared (Some marks) h = refl

  -- it has as many marked rules as entries are needed
  pub marks_count : (o : Option (List MarkedRule)) → IsSomeAnd o (IsPrepared table changes) → (marks : List MarkedRule) → o ≡ Some marks → length marks ≡ entries_needed table changes
  marks_count o prepared marks is = prepared_needed table changes marks (subst (λ (p : Option (List MarkedRule)). IsSomeAnd p (IsPrepared table changes)) is prepared)
