-- The lines of `emit`.
use Rattle.std.specs.Prelude.{ℕ, ◌+◌, List, ◌++◌, flat_map, decimal, codes}
use Rattle.hex.specs.Hex.{encode_lower}
use Rattle.topology.specs.Networks.{Network}
use Rattle.update_model.specs.declared.Change.{Change}
use Rattle.openflow10.specs.Messages.{wire_text}
use Rattle.command_base.specs.Lines.{switch_name}
use Rattle.round_messages.specs.Requests.{Sent, sent_in}

-- a round, which is printed from 1, a switch's name, and bytes in hexadecimal
abbrev pub line : ℕ → List ℕ → List ℕ → List ℕ
line k name bytes = decimal (k + 1) ++ codes " " ++ name ++ codes " " ++ encode_lower bytes ++ codes "\n"

-- the line of a message
abbrev pub line_of : Network → Sent → List ℕ
line_of net m = line m.round (switch_name net m.switch) (wire_text m.message)

-- one line a message, in the order in which they are sent
unfoldable pub emit_text : Network → List (List Change) → List ℕ
emit_text net rounds = flat_map (line_of net) (sent_in net rounds)
