-- The state of a network while an update is carried out, taken back, and carried out again, and what each event does to it.
use Rattle.std.specs.Prelude.{◌≡◌, ◌^◌, ℕ, suc, ◌<◌, ◌≤◌, Bool, true, false, List, [], ◌∷◌, ◌++◌, length, filter, not, replicate, slice_get, slice_set, Some}
use Rattle.std.specs.Option.{option_map_or}
use Rattle.std.specs.List.{AllByRecursion}
use Rattle.topology.specs.Networks.{IsEntry}
use Rattle.flow_rules.specs.Patterns.{key_eq}
use Rattle.flow_rules.specs.Tables.{rules_at}
use Rattle.flow_rules.specs.declared.rules.Key.{Key}
use Rattle.flow_rules.specs.declared.rules.Rule.{Rule}
use Rattle.path_walk.specs.Paths.{outcome_in}
use Rattle.path_walk.specs.declared.Ended.TheVariants.{UnderWay}
use Rattle.update_model.specs.Changes.{switch_of, rule_of, Applies, round_after, tables_after_change}
use Rattle.update_model.specs.Mixtures.{Rollout, tables_before}
use Rattle.update_model.specs.States.{IsHopping, entered_packet, hopped_packet, lost_packet, phase_after_settle, settled_count, with_packet}
use Rattle.update_model.specs.declared.Change.{Change}
use Rattle.update_model.specs.declared.Event.{Event}
use Rattle.update_model.specs.declared.Event.TheVariants as event
use Rattle.update_model.specs.declared.Packet.{Packet}
use Rattle.update_model.specs.declared.Phase.{Phase}
use Rattle.update_model.specs.declared.Phase.TheVariants.{Settled, Running}

-- an event of an update that is carried out; or a change of the running round is taken back, the round that was settled last begins to be taken back, or a round that was taken back is settled
pub data TwoWayEvent : Type 0 where
  Onward : Event → TwoWayEvent
  Undo : ℕ → TwoWayEvent
  Back : TwoWayEvent
  SettleBack : TwoWayEvent

-- a phase, the tables, which changes of the running round are in force, how often a round was settled in either way, and the packets in the order of entry
pub record TwoWayState : Type 0 where
  pub phase : Phase
  pub tables : List (List Rule)
  pub in_force : List Bool
  pub settles : ℕ
  pub packets : List Packet

-- the first state: the old tables and no packets
abbrev pub first_two_way : List (List Rule) → TwoWayState
first_two_way old = record { phase = Settled 0; tables = old; in_force = []; settles = 0; packets = [] }

-- each packet under way entered after a round was settled last, in whichever way
abbrev pub NoneOlder : TwoWayState → Type 0
NoneOlder st = AllByRecursion (λ p. p.ended ≡ UnderWay → st.settles ≤ p.born) st.packets

-- the next round may begin
pub record MayStart (u : Rollout) (st : TwoWayState) : Type 0 where
  pub k : ℕ
  pub settled : st.phase ≡ Settled k
  pub more : k < length u.rounds
  pub none_older : NoneOlder st

-- change i of the running round may be made: it isn't in force
pub record MayChange (u : Rollout) (st : TwoWayState) (i : ℕ) : Type 0 where
  pub k : ℕ
  pub running : st.phase ≡ Running (suc k)
  pub change : Change
  pub is : slice_get (round_after k u.rounds) i ≡ Some change
  pub not_in_force : slice_get st.in_force i ≡ Some false
  pub applies : Applies st.tables change

-- the running round is carried out: all its changes are in force
pub record MaySettle (st : TwoWayState) : Type 0 where
  pub k : ℕ
  pub running : st.phase ≡ Running k
  pub all_in_force : AllByRecursion (λ b. b ≡ true) st.in_force

-- change i of the running round may be taken back: it is in force
pub record MayUndo (u : Rollout) (st : TwoWayState) (i : ℕ) : Type 0 where
  pub k : ℕ
  pub running : st.phase ≡ Running (suc k)
  pub change : Change
  pub is : slice_get (round_after k u.rounds) i ≡ Some change
  pub is_in_force : slice_get st.in_force i ≡ Some true

-- the round that was settled last may begin to be taken back
pub record MayTurnBack (st : TwoWayState) : Type 0 where
  pub k : ℕ
  pub settled : st.phase ≡ Settled (suc k)
  pub none_older : NoneOlder st

-- the running round is taken back: none of its changes is in force
pub record MaySettleBack (st : TwoWayState) : Type 0 where
  pub k : ℕ
  pub running : st.phase ≡ Running (suc k)
  pub none_in_force : AllByRecursion (λ b. b ≡ false) st.in_force

-- when an event may happen
abbrev pub IsTwoWayEnabled : Rollout → TwoWayState → TwoWayEvent → Type 0
IsTwoWayEnabled u st (Onward event.Start) = MayStart u st
IsTwoWayEnabled u st (Onward (event.Change i)) = MayChange u st i
IsTwoWayEnabled u st (Onward event.Settle) = MaySettle st
IsTwoWayEnabled u st (Onward (event.Enter place dst)) = IsEntry u.net place × (dst < 2 ^ 32)
IsTwoWayEnabled u st (Onward (event.Hop i)) = IsHopping st.packets i
IsTwoWayEnabled u st (Onward (event.Lose i)) = IsHopping st.packets i
IsTwoWayEnabled u st (Undo i) = MayUndo u st i
IsTwoWayEnabled u st Back = MayTurnBack st
IsTwoWayEnabled u st SettleBack = MaySettleBack st

-- the rules of a switch after the entry of a key is again what it is in other rules, or is gone where they have none
abbrev pub with_entry_of : List Rule → Key → List Rule → List Rule
with_entry_of before key rules = filter (λ q. not (key_eq q.key key)) rules ++ filter (λ q. key_eq q.key key) before

-- all tables after the entry that a change of round k names is again what it was before that round
abbrev pub tables_undone : Rollout → ℕ → Change → List (List Rule) → List (List Rule)
tables_undone u k c tables =
    slice_set tables (switch_of c).0 (with_entry_of (rules_at (tables_before u k) (switch_of c)) (rule_of c).key (rules_at tables (switch_of c)))

-- all tables after change i of the running round is made
abbrev pub tables_made : Rollout → TwoWayState → ℕ → List (List Rule)
tables_made u st i =
    option_map_or (λ c. tables_after_change c st.tables) (slice_get (round_after (settled_count st.phase) u.rounds) i) st.tables

-- all tables after change i of the running round is taken back
abbrev pub tables_taken_back : Rollout → TwoWayState → ℕ → List (List Rule)
tables_taken_back u st i =
    option_map_or (λ c. tables_undone u (settled_count st.phase) c st.tables) (slice_get (round_after (settled_count st.phase) u.rounds) i) st.tables

-- the phase in which the round that was settled last runs again
abbrev pub turned_back : Phase → Phase
turned_back (Settled k) = Running k
turned_back (Running k) = Running k

-- the state after an event
abbrev pub two_way_after : Rollout → TwoWayState → TwoWayEvent → TwoWayState
two_way_after u a (Onward event.Start) =
    record a { phase = Running (suc (settled_count a.phase)); in_force = replicate (length (round_after (settled_count a.phase) u.rounds)) false }
two_way_after u a (Onward (event.Change i)) = record a { tables = tables_made u a i; in_force = slice_set a.in_force i true }
two_way_after u a (Onward event.Settle) = record a { phase = phase_after_settle a.phase; settles = suc a.settles }
two_way_after u a (Onward (event.Enter place dst)) = record a { packets = a.packets ++ entered_packet place dst a.settles ∷ [] }
two_way_after u a (Onward (event.Hop i)) =
    record a { packets = with_packet (λ p. hopped_packet p (outcome_in u.net a.tables p.at p.dst)) i a.packets }
two_way_after u a (Onward (event.Lose i)) = record a { packets = with_packet lost_packet i a.packets }
two_way_after u a (Undo i) = record a { tables = tables_taken_back u a i; in_force = slice_set a.in_force i false }
two_way_after u a Back =
    record a { phase = turned_back a.phase; in_force = replicate (length (round_after (settled_count (turned_back a.phase)) u.rounds)) true }
two_way_after u a SettleBack = record a { phase = Settled (settled_count a.phase); settles = suc a.settles }
