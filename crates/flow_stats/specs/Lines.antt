-- The lines of a file of flow statistics.
use Rattle.std.specs.Prelude.{ℕ, List, Result, Ok, Err, if◌then◌else◌}
use Rattle.std.specs.Str.{is_utf8}
use Rattle.net_base.specs.declared.ids.SwitchId.{SwitchId}
use Rattle.net_base.specs.Reading.{◌>>=◌, need}
use Rattle.net_base.specs.Text.{cut_first}
use Rattle.text_lines.specs.Words.{bytes_in}
use Rattle.topology.specs.Networks.{Network, switch_named}
use Rattle.flow_stats.specs.declared.fault.StatsFault.{StatsFault}
use Rattle.flow_stats.specs.declared.fault.StatsFault.TheVariants.{BadLine}
use Rattle.flow_stats.specs.declared.lines.SentMessage.{SentMessage}

-- the bytes of a message and the switch that sent it
pub record Sent : Type 0 where
  pub switch : SwitchId
  pub bytes : List ℕ

-- a message without where its bytes lie in memory
abbrev pub sent_seen : SentMessage → Sent
sent_seen s = record { switch = s.switch; bytes = s.bytes.items }

-- the message in a text: the name of a switch of the network, one space, and digits
unfoldable pub text_in : Network → ℕ → List ℕ → Result Sent StatsFault
text_in net number text = do
  parts ← need (cut_first 32 text) (BadLine number)
  switch ← need (switch_named net.names parts.0) (BadLine number)
  bytes ← need (bytes_in parts.1) (BadLine number)
  Ok (record { switch = record { 0 = switch }; bytes = bytes })

-- the message in a line; bytes that are no text (UTF-8) have none
abbrev pub sent_in : Network → ℕ → List ℕ → Result Sent StatsFault
sent_in net number line = if is_utf8 line then text_in net number line else Err (BadLine number)
