-- The messages that carry out rounds, in the order in which they are sent. Round k is the one after the first k rounds.
use Rattle.std.specs.Prelude.{ℕ, suc, ◌+◌, ◌==◌, Bool, List, [], ◌∷◌, ◌++◌, length, take, map, filter, Option, None, Some}
use Rattle.std.specs.List.{list_any, range_with_len}
use Rattle.net_base.specs.declared.ids.SwitchId.{SwitchId}
use Rattle.topology.specs.Networks.{Network, switch_count}
use Rattle.update_model.specs.Changes.{switch_of}
use Rattle.update_model.specs.declared.Change.{Change}
use Rattle.openflow10.specs.Messages.{message_of}
use Rattle.openflow10.specs.declared.Message.{Message}
use Rattle.openflow10.specs.declared.Message.TheVariants.{BarrierRequest}

-- whether a round has a change at the switch
abbrev pub is_changed : List Change → SwitchId → Bool
is_changed round s = list_any (λ c. (switch_of c).0 == s.0) round

-- the switch of a number
abbrev pub switch_numbered : ℕ → SwitchId
switch_numbered n = record { 0 = n }

-- all switches, ascending
abbrev pub switches_of : Network → List SwitchId
switches_of net = map switch_numbered (range_with_len 0 (switch_count net))

-- the switches with a change in a round, ascending
abbrev pub switches_changed : Network → List Change → List SwitchId
switches_changed net round = filter (is_changed round) (switches_of net)

-- what a switch is asked for in a round: to make a change; or, without one, to answer when all before it is done
pub record Request : Type 0 where
  pub round : ℕ
  pub switch : SwitchId
  pub change : Option Change

abbrev pub change_request : ℕ → Change → Request
change_request k c = record { round = k; switch = switch_of c; change = Some c }

abbrev pub barrier_request : ℕ → SwitchId → Request
barrier_request k s = record { round = k; switch = s; change = None }

-- round k: its changes in order, then one barrier for each switch with a change, ascending
abbrev pub round_requests : Network → ℕ → List Change → List Request
round_requests net k round = map (change_request k) round ++ map (barrier_request k) (switches_changed net round)

-- the rounds in turn, the first of which is round k
abbrev pub requests_from : Network → ℕ → List (List Change) → List Request
requests_from net k [] = []
requests_from net k (round ∷ rounds) = round_requests net k round ++ requests_from net (suc k) rounds

-- the message that asks for a change, or for a barrier
abbrev pub message_for : Option Change → ℕ → Message
message_for (Some c) xid = message_of c xid
message_for None xid = BarrierRequest xid

-- a message to a switch in a round
pub record Sent : Type 0 where
  pub round : ℕ
  pub switch : SwitchId
  pub message : Message

abbrev pub sent_for : Request → ℕ → Sent
sent_for r xid = record { round = r.round; switch = r.switch; message = message_for r.change xid }

-- the messages of requests, with ascending xids from the first on
abbrev pub sent_from : ℕ → List Request → List Sent
sent_from xid [] = []
sent_from xid (r ∷ rs) = sent_for r xid ∷ sent_from (suc xid) rs

-- the messages that carry out the rounds; their xids count from 1
abbrev pub sent_in : Network → List (List Change) → List Sent
sent_in net rounds = sent_from 1 (requests_from net 0 rounds)

-- the xid of the first message of round k
abbrev pub first_xid : Network → List (List Change) → ℕ → ℕ
first_xid net rounds k = 1 + length (requests_from net 0 (take k rounds))
