-- What the files of `trace` mean, and what is said of the packet.
use Rattle.std.specs.Prelude.{◌≡◌, ◌⊎◌, ℕ, List, [], ◌∷◌, ◌++◌, map, codes, decimal, Option, None, Some, option_map}
use Rattle.std.specs.Io.KnownBytes.{Appends}
use Rattle.file_access.specs.Outside.{Files}
use Rattle.net_base.specs.Lines.{text_of}
use Rattle.net_base.specs.Places.{stop_of}
use Rattle.net_base.specs.Text.{prefix_text, vlan_text}
use Rattle.net_base.specs.declared.ids.Port.{Port}
use Rattle.net_base.specs.declared.ids.Place.{Place}
use Rattle.topology.specs.Networks.{Network, IsEntry, switch_named}
use Rattle.topology_files.specs.Topology.{network_in}
use Rattle.flow_rules.specs.Tables.{matched_rule, rules_at, rules_of_all}
use Rattle.flow_rules.specs.declared.rules.Rule.{Rule}
use Rattle.flow_rules.specs.declared.rules.VlanTest.{VlanTest}
use Rattle.flow_rules.specs.declared.rules.VlanTest.TheVariants as test
use Rattle.flow_rules.specs.declared.rules.Action.{Action}
use Rattle.flow_rules.specs.declared.rules.Action.TheVariants.{Discard, Out}
use Rattle.path_walk.specs.Outcomes.{header_at}
use Rattle.path_walk.specs.Walked.{IsFollowed, PathEndsAs}
use Rattle.path_walk.specs.declared.PlacesEnd.{PlacesEnd}
use Rattle.path_walk.specs.declared.PlacesEnd.TheVariants.{Left, Dropped, Again}
use Rattle.config_files.specs.Configuration.{configuration_in}
use Rattle.command_base.specs.declared.kinds.FileKind.TheVariants as kind
use Rattle.command_base.specs.declared.status.Status.TheVariants as status
use Rattle.command_base.specs.Answers.{Answer}
use Rattle.command_base.specs.Dialogues.{Dialogue, Ends, and_then}
use Rattle.command_base.specs.Lines.{switch_name}
use Rattle.command_base.specs.Meanings.{IsReadAs}
use Rattle.command_base.specs.Readings.{reading_topology, reading_config}
use Rattle.trace_command.specs.declared.files.TraceFiles.{TraceFiles}
use Rattle.trace_command.specs.Names.{EntryName, TraceNames}

-- a network, a configuration of it, where a packet enters, and its address
pub record TraceMeaning : Type 0 where
  pub net : Network
  pub tables : List (List Rule)
  pub entry : EntryName
  pub dst : ℕ

-- what files that were read mean with these words
abbrev pub meaning_of : TraceFiles → TraceNames → TraceMeaning
meaning_of files names = record { net = files.net; tables = rules_of_all files.config; entry = names.entry; dst = names.dst }

-- reads the network and the configuration
unfoldable pub trace_dialogue : TraceNames → Dialogue TraceMeaning
trace_dialogue names =
    and_then (reading_topology names.topology) (λ net. and_then (reading_config kind.Config net names.config) (λ tables.
    Ends (record { net = net; tables = tables; entry = names.entry; dst = names.dst })))

-- ---- entries

-- the place that is named; none where the network has no switch of that name
abbrev pub place_named : Network → EntryName → Option Place
place_named net entry =
    option_map (λ s. record { switch = record { 0 = s }; port = entry.port; vlan = entry.vlan }) (switch_named net.names entry.switch)

-- it is an entry of the network: a host port with a declared VLAN
pub record NamesEntry (net : Network) (entry : EntryName) (place : Place) : Type 0 where
  pub place_is : place_named net entry ≡ Some place
  pub is_entry : IsEntry net place

-- no entry of the network is named
abbrev pub NamesNoEntry : Network → EntryName → Type 0
NamesNoEntry net entry = (place : Place) → ¬ NamesEntry net entry place

-- ---- lines

-- a named entry: `NAME:PORT VLAN`
abbrev pub entry_text : EntryName → List ℕ
entry_text entry = entry.switch ++ codes ":" ++ decimal entry.port.0 ++ codes " " ++ vlan_text entry.vlan

-- the line on one that is no entry of the network
abbrev pub no_entry_line : EntryName → List ℕ
no_entry_line entry = codes "no entry: " ++ entry_text entry ++ codes "\n"

-- a place, in the same form
abbrev pub place_text : Network → Place → List ℕ
place_text net place = entry_text (record { switch = switch_name net place.switch; port = place.port; vlan = place.vlan })

-- an ingress port, or `any`
abbrev pub port_text : Option Port → List ℕ
port_text None = codes "any"
port_text (Some port) = decimal port.0

-- a VLAN, or `any`
abbrev pub test_text : VlanTest → List ℕ
test_text test.Any = codes "any"
test_text test.Untagged = codes "untagged"
test_text (test.Id id) = decimal id

-- `drop`, or `port P`
abbrev pub action_text : Action → List ℕ
action_text Discard = codes "drop"
action_text (Out port rewrite) = codes "port " ++ decimal port.0

-- a rule: `PRIORITY IN_PORT VLAN DST -> ACTION`
abbrev pub rule_text : Rule → List ℕ
rule_text r =
    decimal r.key.priority ++ codes " " ++ port_text r.key.pattern.in_port ++ codes " " ++ test_text r.key.pattern.vlan ++ codes " "
    ++ prefix_text r.key.pattern.dst ++ codes " -> " ++ action_text r.action

-- the rule that a lookup picks, or that there is none
abbrev pub picked_text : Option Rule → List ℕ
picked_text None = codes "no rule"
picked_text (Some r) = rule_text r

-- a stop: the place, and the rule that the lookup there picks for a packet to the address
abbrev pub stop_line : Network → List (List Rule) → ℕ → Place → List ℕ
stop_line net tables dst place =
    place_text net place ++ codes ": " ++ picked_text (matched_rule (header_at place dst) (rules_at tables place.switch))

-- how the path ends
abbrev pub end_line : Network → PlacesEnd → List ℕ
end_line net (Left s port vlan) = codes "left " ++ place_text net (record { switch = s; port = port; vlan = vlan })
end_line net (Dropped s) = codes "dropped " ++ switch_name net s
end_line net (Again s) = codes "again " ++ switch_name net s

-- a line for each stop, and one for the end
abbrev pub trace_text : Network → List (List Rule) → ℕ → List Place → PlacesEnd → List ℕ
trace_text net tables dst places end = text_of (map (stop_line net tables dst) places ++ end_line net end ∷ [])

-- ---- answers

-- the text is on the path of an entry and an address, up to its end or up to the first stop at a switch that comes again, with
-- the rule of the lookup at each stop
pub record IsPathText (net : Network) (tables : List (List Rule)) (entry : Place) (dst : ℕ) (text : List ℕ) : Type 0 where
  pub places : List Place
  pub end : PlacesEnd
  pub followed : IsFollowed net tables entry dst places
  pub ends : PathEndsAs net tables entry dst (map stop_of places) end
  pub text_is : text ≡ trace_text net tables dst places end

-- the text is on the path of the packet from the named entry
pub record IsTraceOf (m : TraceMeaning) (text : List ℕ) : Type 0 where
  pub place : Place
  pub named : NamesEntry m.net m.entry place
  pub path : IsPathText m.net m.tables place m.dst text

-- the answer is such a text
pub record SaysTrace (m : TraceMeaning) (answer : Answer) : Type 0 where
  pub text : List ℕ
  pub trace : IsTraceOf m text
  pub answer_is : answer ≡ record { status = status.Done; text = text }

-- the answer is that no entry is named
pub record SaysNoEntry (m : TraceMeaning) (answer : Answer) : Type 0 where
  pub none : NamesNoEntry m.net m.entry
  pub answer_is : answer ≡ record { status = status.Refused; text = no_entry_line m.entry }

-- the answer of `trace`
abbrev pub IsTraceAnswer : TraceMeaning → Answer → Type 0
IsTraceAnswer m answer = SaysTrace m answer ⊎ SaysNoEntry m answer

-- ---- files

-- the files and the words mean this network, this configuration of it, this entry and this address
pub record FilesMeanTrace (files : Files) (names : TraceNames) (m : TraceMeaning) : Type 0 where
  pub topology_is : IsReadAs files kind.Topology network_in names.topology m.net
  pub config_is : IsReadAs files kind.Config (configuration_in m.net) names.config m.tables
  pub entry_is : m.entry ≡ names.entry
  pub dst_is : m.dst ≡ names.dst

-- the files are read, and an entry of the network is named
pub record FilesHaveEntry (files : Files) (names : TraceNames) : Type 0 where
  pub meaning : TraceMeaning
  pub mean : FilesMeanTrace files names meaning
  pub place : Place
  pub named : NamesEntry meaning.net meaning.entry place

-- the files are read, and no entry of the network is named
pub record FilesLackEntry (files : Files) (names : TraceNames) : Type 0 where
  pub meaning : TraceMeaning
  pub mean : FilesMeanTrace files names meaning
  pub none : NamesNoEntry meaning.net meaning.entry

-- such a text was written
pub record WritesTrace (m : TraceMeaning) (old new : Option (List ℕ)) : Type 0 where
  pub text : List ℕ
  pub trace : IsTraceOf m text
  pub written : Appends old new text
