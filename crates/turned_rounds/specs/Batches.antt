-- The messages of a round in the order in which they are sent, with xids that begin again behind the greatest.
use Rattle.std.specs.Prelude.{Bool, ℕ, zero, suc, ◌==◌, ◌<◌, if◌then◌else◌, List, [], ◌∷◌, ◌++◌, length}
use Rattle.std.specs.List.{AllByRecursion}
use Rattle.net_base.specs.declared.ids.SwitchId.{SwitchId}
use Rattle.topology.specs.Networks.{Network, switch_count}
use Rattle.update_model.specs.Changes.{switch_of}
use Rattle.update_model.specs.declared.Change.{Change}
use Rattle.openflow10.specs.Messages.{wire_text, message_of}
use Rattle.openflow10.specs.declared.Message.TheVariants.{BarrierRequest}
use Rattle.round_messages.specs.Requests.{Sent, switches_changed}
use Rattle.turned_rounds.specs.declared.outgoing.Outgoing.{Outgoing}

-- the xid behind another: 1 behind the greatest number of 32 bits
abbrev pub next_xid : ℕ → ℕ
next_xid x = if x == 4294967295 then 1 else suc x

-- the xid behind another, if that is used
abbrev pub next_if : Bool → ℕ → ℕ
next_if used x = if used then next_xid x else x

-- the xid behind so many messages, the first of which has xid x
abbrev pub xid_behind : ℕ → ℕ → ℕ
xid_behind x zero = x
xid_behind x (suc n) = xid_behind (next_xid x) n

-- the message that asks for a change
abbrev pub change_message : ℕ → Change → Outgoing
change_message x c = record { switch = switch_of c; text = wire_text (message_of c x) }

-- the barrier request to a switch
abbrev pub barrier_message : ℕ → SwitchId → Outgoing
barrier_message x s = record { switch = s; text = wire_text (BarrierRequest x) }

-- a message for each change, the first with xid x
abbrev pub change_messages : ℕ → List Change → List Outgoing
change_messages x [] = []
change_messages x (c ∷ changes) = change_message x c ∷ change_messages (next_xid x) changes

-- a barrier request to each switch, the first with xid x
abbrev pub barrier_messages : ℕ → List SwitchId → List Outgoing
barrier_messages x [] = []
barrier_messages x (s ∷ switches) = barrier_message x s ∷ barrier_messages (next_xid x) switches

-- the messages of a round, the first with xid x: its changes in order, then one barrier request to each switch with a change, ascending
abbrev pub batch_of : Network → ℕ → List Change → List Outgoing
batch_of net x round = change_messages x round ++ barrier_messages (xid_behind x (length round)) (switches_changed net round)

-- a message of `emit`, as it goes out
abbrev pub outgoing_of : Sent → Outgoing
outgoing_of m = record { switch = m.switch; text = wire_text m.message }

-- each message is to a switch of the network
abbrev pub AreToSwitches : Network → List Outgoing → Type 0
AreToSwitches net messages = AllByRecursion (λ (m : Outgoing). m.switch.0 < switch_count net) messages
