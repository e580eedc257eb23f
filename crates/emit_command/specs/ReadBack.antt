-- What a reader of the lines finds in them.
use Rattle.std.specs.Prelude.{◌≡◌, ◌==◌, ◌&&◌, ◌+◌, ℕ, List, [], ◌∷◌, ◌++◌, length, map, filter, Some, Ok}
use Rattle.hex.specs.Hex.{decode_of}
use Rattle.net_base.specs.Text.{cut_first, decimal_in}
use Rattle.net_base.specs.declared.ids.SwitchId.{SwitchId}
use Rattle.topology.specs.Networks.{Network, switch_named}
use Rattle.update_model.specs.Changes.{changes_at, round_after}
use Rattle.update_model.specs.declared.Change.{Change}
use Rattle.openflow10.specs.Messages.{BeginsWith, message_of}
use Rattle.openflow10.specs.declared.Message.{Message}
use Rattle.openflow10.specs.declared.Message.TheVariants.{BarrierRequest}
use Rattle.round_messages.specs.Requests.{Sent}
use Rattle.round_messages.specs.ToSwitch.{messages_to, AreFor}

-- A line is read as a message to a switch in a round: round, name and digits are cut at the first two spaces, and the digits are
-- the bytes of the message and no more.
pub record ReadsAs (net : Network) (line : List ℕ) (m : Sent) : Type 0 where
  pub round : List ℕ
  pub rest : List ℕ
  pub name : List ℕ
  pub digits : List ℕ
  pub bytes : List ℕ
  pub first_space : cut_first 32 line ≡ Some (round, rest)
  pub next_space : cut_first 32 rest ≡ Some (name, digits)
  pub round_is : decimal_in round 4294967295 ≡ Some (m.round + 1)
  pub switch_is : switch_named net.names name ≡ Some m.switch.0
  pub bytes_are : decode_of digits ≡ Ok bytes
  pub message_is : BeginsWith bytes m.message (length bytes)

-- a text is read as these messages, one a line
abbrev pub AreReadAs : Network → List ℕ → List Sent → Type 0
AreReadAs net text [] = text ≡ []
AreReadAs net text (m ∷ ms) = (line : List ℕ) × (rest : List ℕ) × (cut_first 10 text ≡ Some (line, rest)) × ReadsAs net line m × AreReadAs net rest ms

-- Read back, the text carries out the rounds: in each round each switch gets just its changes, in their order, and then a barrier
-- request, and nothing is lost or added.
pub record ReadsBack (net : Network) (rounds : List (List Change)) (text : List ℕ) : Type 0 where
  pub sent : List Sent
  pub read : AreReadAs net text sent
  pub read_only : (others : List Sent) → AreReadAs net text others → others ≡ sent
  pub each : (k : ℕ) (s : SwitchId) → AreFor (changes_at s (round_after k rounds)) (messages_to k s sent)
