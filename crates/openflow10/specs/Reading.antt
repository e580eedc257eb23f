-- The message that the fields of bytes name, where none is refused.
use Rattle.std.specs.Prelude.{◌≡◌, ℕ, List, Some}
use Rattle.openflow10.specs.Layout.{number_at}
use Rattle.openflow10.specs.FlowMod.{flow_mod_at, key_in}
use Rattle.openflow10.specs.Actions.{actions_in, verb_in}
use Rattle.openflow10.specs.Messages.{type_of, xid_of}
use Rattle.openflow10.specs.declared.FlowMod as flow
use Rattle.openflow10.specs.declared.Message.{Message}
use Rattle.openflow10.specs.declared.Message.TheVariants as message
use Rattle.openflow10.specs.declared.reading.MessageType.{MessageType}
use Rattle.openflow10.specs.declared.reading.MessageType.TheVariants.{FlowMod, BarrierRequest, BarrierReply}

-- the number of a type
abbrev pub type_number : MessageType → ℕ
type_number FlowMod = 14
type_number BarrierRequest = 18
type_number BarrierReply = 19

-- the fixed part names the key, and the command with the actions the verb
pub record NamesFlow (bytes : List ℕ) (m : flow.FlowMod) : Type 0 where
  pub key : m.key ≡ key_in (flow_mod_at bytes)
  pub verb : verb_in (flow_mod_at bytes).command (actions_in bytes) ≡ Some m.verb

-- what follows the header names the body of the message
abbrev pub NamesBody : List ℕ → Message → Type 0
NamesBody bytes (message.Flow m) = NamesFlow bytes m
NamesBody bytes (message.BarrierRequest xid) = Unit {0}
NamesBody bytes (message.BarrierReply xid) = Unit {0}

-- the header names the type and the xid of the message, and the rest its body
pub record Names (bytes : List ℕ) (m : Message) : Type 0 where
  pub type : number_at 1 1 bytes ≡ type_of m
  pub xid : number_at 4 4 bytes ≡ xid_of m
  pub body : NamesBody bytes m
