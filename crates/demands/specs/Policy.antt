-- The reading of a policy, by the table of its members.
use Rattle.std.specs.Prelude.{ℕ, ◌&&◌, List, [], ◌∷◌, ◌++◌, length, Bool, false, not, nat_lt, nat_le, Option, None, Some, is_some, option_and_then, option_map, Result, Ok, codes, if◌then◌else◌, ⊤}
use Rattle.std.specs.List.{list_any}
use Rattle.std.specs.Option.{option_or}
use Rattle.std.specs.Str.{bytes_eq}
use Rattle.serde_json.specs.Data.{Data}
use Rattle.serde_json.specs.Find.{get, as_str, as_bool}
use Rattle.net_base.specs.Blocks.{Block}
use Rattle.net_base.specs.declared.ids.SwitchId.{SwitchId}
use Rattle.net_base.specs.declared.ids.Stop.{Stop}
use Rattle.net_base.specs.declared.field.Field.TheVariants.{Top, Demands, From, Vlan, Dst, Through, Deliver, To, Deny}
use Rattle.net_base.specs.Reading.{◌>>=◌, check, need, in_turn}
use Rattle.net_base.specs.Text.{prefix_in}
use Rattle.flat_json.specs.JsonTree.{is_object, text_at, whole_in, list_in, list_at, tree_in}
use Rattle.topology.specs.Networks.{Network, switch_named, stop_eq, is_host, is_vlan_id}
use Rattle.topology.specs.References.{reference_parts}
use Rattle.flow_rules.specs.declared.rules.VlanTest.{VlanTest}
use Rattle.flow_rules.specs.declared.rules.VlanTest.TheVariants as test
use Rattle.demands.specs.declared.Cover.{Cover}
use Rattle.demands.specs.declared.read.TestWord.{TestWord}
use Rattle.demands.specs.declared.read.TestWord.TheVariants as word
use Rattle.demands.specs.declared.fault.DemandFault.{DemandFault}
use Rattle.demands.specs.declared.fault.DemandFault.TheVariants.{NotJson, Shape, UnknownSwitch, NotHost, BadVlan, BadPrefix, TooMany}
use Rattle.demands.specs.Duties.{DemandView}

-- ---- from

-- a host port with this number, where the network has it
abbrev pub host_with : Network → ℕ → ℕ → Option Stop
host_with net switch number =
    if nat_le number 65279 && is_host net (record { switch = record { 0 = switch }; port = record { 0 = number } })
    then Some (record { switch = record { 0 = switch }; port = record { 0 = number } })
    else None

-- a port reference to a host port
unfoldable pub host_in : Network → ℕ → List ℕ → Result Stop DemandFault
host_in net place text = do
  parts ← need (reference_parts text) (Shape From place)
  switch ← need (switch_named net.names parts.0) (UnknownSwitch place)
  need (host_with net switch parts.1) (NotHost place)

-- `any`, or a host port
unfoldable pub source_in : Network → ℕ → List ℕ → Result (Option (List Stop)) DemandFault
source_in net place text = if bytes_eq text (codes "any") then Ok None else (host_in net place text >>= λ stop. Ok (Some (stop ∷ [])))

-- a host port behind these, where it isn't among them
abbrev pub with_source : List Stop → Stop → List Stop
with_source before stop = if list_any (stop_eq stop) before then before else before ++ stop ∷ []

-- one item of a list of port references, after these host ports
unfoldable pub source_at : Network → ℕ → List Stop → Data → Result (List Stop) DemandFault
source_at net place before d = do
  text ← need (as_str d) (Shape From place)
  stop ← host_in net place text
  Ok (with_source before stop)

-- in a wide network, a list of at least one and at most 1,024 port references
unfoldable pub listed_in : Network → ℕ → Data → Result (List Stop) DemandFault
listed_in net place d = do
  _ ← check net.wide (Shape From place)
  items ← need (list_in d) (Shape From place)
  _ ← check (nat_lt 0 (length items)) (Shape From place)
  _ ← check (nat_le (length items) 1024) (TooMany From place)
  in_turn (λ i. source_at net place) 0 [] items

-- the value of `from`, which may be this text
abbrev pub sources_in : Network → ℕ → Data → Option (List ℕ) → Result (Option (List Stop)) DemandFault
sources_in net place d (Some text) = source_in net place text
sources_in net place d None = listed_in net place d >>= λ stops. Ok (Some stops)

-- the member `from`, any host port where it is absent
unfoldable pub from_in : Network → ℕ → Option Data → Result (Option (List Stop)) DemandFault
from_in net place None = Ok None
from_in net place (Some d) = sources_in net place d (as_str d)

-- ---- vlan

-- the text `any` or `untagged`
abbrev pub word_of_text : List ℕ → Option TestWord
word_of_text text = if bytes_eq text (codes "any") then Some word.Any else (if bytes_eq text (codes "untagged") then Some word.Untagged else None)

-- the text `any` or `untagged`, or a whole number
abbrev pub test_word : Data → Option TestWord
test_word d = option_or (option_and_then word_of_text (as_str d)) (option_map word.Number (whole_in d))

-- the test, where a VLAN may have the number
abbrev pub test_of : TestWord → Option VlanTest
test_of word.Any = Some test.Any
test_of word.Untagged = Some test.Untagged
test_of (word.Number n) = if is_vlan_id n then Some (test.Id n) else None

-- the member `vlan`, any VLAN where it is absent
unfoldable pub test_in : ℕ → Option Data → Result VlanTest DemandFault
test_in place None = Ok test.Any
test_in place (Some d) = need (test_word d) (Shape Vlan place) >>= λ w. need (test_of w) (BadVlan place)

-- ---- through

-- one name of `through`, after these switches
unfoldable pub waypoint_at : Network → ℕ → List SwitchId → Data → Result (List SwitchId) DemandFault
waypoint_at net place before d = do
  name ← need (as_str d) (Shape Through place)
  switch ← need (switch_named net.names name) (UnknownSwitch place)
  Ok (before ++ record { 0 = switch } ∷ [])

-- a list of at most 16 names of switches
unfoldable pub waypoints_in : Network → ℕ → Data → Result (List SwitchId) DemandFault
waypoints_in net place d = do
  items ← need (list_in d) (Shape Through place)
  _ ← check (nat_le (length items) 16) (TooMany Through place)
  in_turn (λ i. waypoint_at net place) 0 [] items

-- the member `through`, no waypoints where it is absent
unfoldable pub through_in : Network → ℕ → Option Data → Result (List SwitchId) DemandFault
through_in net place None = Ok []
through_in net place (Some d) = waypoints_in net place d

-- ---- deliver

-- the member `deliver`, false where it is absent
unfoldable pub deliver_in : ℕ → Option Data → Result Bool DemandFault
deliver_in place None = Ok false
deliver_in place (Some d) = need (as_bool d) (Shape Deliver place)

-- ---- to, deny

-- in a wide network `to` and `deny` have a meaning that this version doesn't know, and must be absent
unfoldable pub unknown_in : Network → ℕ → Data → Result ⊤ DemandFault
unknown_in net place d = do
  _ ← check (not (net.wide && is_some (get (codes "to") d))) (Shape To place)
  check (not (net.wide && is_some (get (codes "deny") d))) (Shape Deny place)

-- ---- a demand

-- the prefix of the destinations
unfoldable pub dst_in : ℕ → Data → Result Block DemandFault
dst_in place d = do
  text ← need (text_at (codes "dst") d) (Shape Dst place)
  need (prefix_in text) (BadPrefix place)

-- the packets that a demand speaks of
unfoldable pub cover_in : Network → ℕ → Data → Result Cover DemandFault
cover_in net place d = do
  from ← from_in net place (get (codes "from") d)
  vlan ← test_in place (get (codes "vlan") d)
  dst ← dst_in place d
  Ok (record { from = from; vlan = vlan; dst = dst })

-- one demand
unfoldable pub demand_in : Network → ℕ → Data → Result DemandView DemandFault
demand_in net place d = do
  cover ← cover_in net place d
  through ← through_in net place (get (codes "through") d)
  deliver ← deliver_in place (get (codes "deliver") d)
  _ ← unknown_in net place d
  Ok (record { from = cover.from; vlan = cover.vlan; dst = cover.dst; through = through; deliver = deliver })

-- ---- the file

-- one item of `demands`, after these demands
unfoldable pub demand_at : Network → ℕ → List DemandView → Data → Result (List DemandView) DemandFault
demand_at net place before d = do
  _ ← check (nat_lt (length before) 512) (TooMany Demands place)
  _ ← check (is_object d) (Shape Demands place)
  demand ← demand_in net place d
  Ok (before ++ demand ∷ [])

-- the member `demands`
unfoldable pub members_in : Network → Data → Result (List DemandView) DemandFault
members_in net top = do
  _ ← check (is_object top) (Shape Top 0)
  items ← need (list_at (codes "demands") top) (Shape Demands 0)
  in_turn (demand_at net) 0 [] items

-- the demands that the bytes describe, or the first refusal
unfoldable pub demands_in : Network → List ℕ → Result (List DemandView) DemandFault
demands_in net bytes = do
  top ← need (tree_in bytes) NotJson
  members_in net top
