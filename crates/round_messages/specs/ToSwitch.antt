-- The messages that one switch gets.
use Rattle.std.specs.Prelude.{◌≡◌, ◌==◌, ◌&&◌, ℕ, List, [], ◌∷◌, ◌++◌, map, filter}
use Rattle.net_base.specs.declared.ids.SwitchId.{SwitchId}
use Rattle.update_model.specs.declared.Change.{Change}
use Rattle.openflow10.specs.Messages.{message_of}
use Rattle.openflow10.specs.declared.Message.{Message}
use Rattle.openflow10.specs.declared.Message.TheVariants.{BarrierRequest}
use Rattle.round_messages.specs.Requests.{Sent}

-- the messages to a switch in round k, in order
abbrev pub messages_to : ℕ → SwitchId → List Sent → List Message
messages_to k s sent = map (λ m. m.message) (filter (λ m. m.round == k && m.switch.0 == s.0) sent)

-- each message asks for the change at its place
abbrev pub AskFor : List Change → List Message → Type 0
AskFor [] [] = Unit {0}
AskFor (c ∷ cs) (m ∷ ms) = ((xid : ℕ) × (m ≡ message_of c xid)) × AskFor cs ms
AskFor _ _ = ⊥

-- messages that ask for these changes, in order, and then one barrier request
pub record AskAndWait (changes : List Change) (messages : List Message) : Type 0 where
  pub asking : List Message
  pub xid : ℕ
  pub ask : AskFor changes asking
  pub are : messages ≡ asking ++ BarrierRequest xid ∷ []

-- the messages that a switch with these changes has to get: none where it has no change
abbrev pub AreFor : List Change → List Message → Type 0
AreFor [] messages = messages ≡ []
AreFor (c ∷ cs) messages = AskAndWait (c ∷ cs) messages
