-- The words of `trace`.
use Rattle.std.specs.Prelude.{ℕ, ◌&&◌, nat_le, List, [], ◌∷◌, Option, None, Some, if◌then◌else◌}
use Rattle.net_base.specs.declared.ids.Port.{Port}
use Rattle.net_base.specs.declared.ids.Vlan.{Vlan}
use Rattle.net_base.specs.Text.{cut_last, decimal_in, address_in}
use Rattle.text_lines.specs.Words.{◌>>=◌, vlan_in}
use Rattle.topology.specs.Networks.{is_name}
use Rattle.trace_command.specs.declared.names.TraceNames as code
use Rattle.trace_command.specs.declared.names.EntryName as entry_code

-- a port that packets may come in by, by the name of its switch, and a VLAN
pub record EntryName : Type 0 where
  pub switch : List ℕ
  pub port : Port
  pub vlan : Vlan

-- the names of the network and the configuration, where a packet enters, and its address
pub record TraceNames : Type 0 where
  pub topology : List ℕ
  pub config : List ℕ
  pub entry : EntryName
  pub dst : ℕ

-- `NAME:PORT` and a VLAN, NAME of the form that names of switches have, PORT from 1 to 65279
unfoldable pub entry_in : List ℕ → List ℕ → Option EntryName
entry_in stop word = do
  parts ← cut_last 58 stop
  port ← decimal_in parts.1 65279
  vlan ← vlan_in word
  if is_name parts.0 && nat_le 1 port then Some (record { switch = parts.0; port = record { 0 = port }; vlan = vlan }) else None

-- the names with the entry and the address, if both are spelled
abbrev pub with_packet : List ℕ → List ℕ → Option EntryName → Option ℕ → Option TraceNames
with_packet topology config (Some entry) (Some dst) = Some (record { topology = topology; config = config; entry = entry; dst = dst })
with_packet topology config (Some entry) None = None
with_packet topology config None dst = None

-- TOPO CONFIG ENTRY VLAN ADDRESS
abbrev pub names_in : List (List ℕ) → Option TraceNames
names_in (topology ∷ config ∷ entry ∷ vlan ∷ address ∷ []) = with_packet topology config (entry_in entry vlan) (address_in address)
names_in _ = None

-- an entry without where its name lies in memory
abbrev pub entry_seen : entry_code.EntryName → EntryName
entry_seen entry = record { switch = entry.switch.now; port = entry.port; vlan = entry.vlan }

-- the names without where they lie in memory
abbrev pub names_seen : code.TraceNames → TraceNames
names_seen names = record { topology = names.topology.now; config = names.config.now; entry = entry_seen names.entry; dst = names.dst }
