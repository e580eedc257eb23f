-- The fixed part of a flow message, between its header and its actions (OpenFlow 1.0.0, section 5.3.3).
use Rattle.std.specs.Prelude.{ℕ, List, [], ◌∷◌, ◌++◌}
use Rattle.flow_rules.specs.declared.rules.Key.{Key}
use Rattle.openflow10.specs.Layout.{Row, field, number_at}
use Rattle.openflow10.specs.Match.{match_table, match_at, match_of, pattern_in}
use Rattle.openflow10.specs.declared.ofp_flow_mod.FlowModFields.{FlowModFields}
use Rattle.openflow10.specs.declared.Verb.{Verb}
use Rattle.openflow10.specs.declared.Verb.TheVariants.{Add, Modify, Remove}

-- struct ofp_flow_mod behind its match
abbrev pub command_table : FlowModFields → List Row
command_table m =
    field 48 8 m.cookie
    ∷ field 56 2 m.command
    ∷ field 58 2 m.idle_timeout
    ∷ field 60 2 m.hard_timeout
    ∷ field 62 2 m.priority
    ∷ field 64 4 m.buffer_id
    ∷ field 68 2 m.out_port
    ∷ field 70 2 m.flags
    ∷ []

-- struct ofp_flow_mod, without its header and its actions
abbrev pub flow_mod_table : FlowModFields → List Row
flow_mod_table m = match_table 8 m.pattern ++ command_table m

-- the struct in the bytes of a message
abbrev pub flow_mod_at : List ℕ → FlowModFields
flow_mod_at bytes = record {
  pattern = match_at 8 bytes;
  cookie = number_at 48 8 bytes;
  command = number_at 56 2 bytes;
  idle_timeout = number_at 58 2 bytes;
  hard_timeout = number_at 60 2 bytes;
  priority = number_at 62 2 bytes;
  buffer_id = number_at 64 4 bytes;
  out_port = number_at 68 2 bytes;
  flags = number_at 70 2 bytes;
}

-- enum ofp_flow_mod_command: OFPFC_ADD, OFPFC_MODIFY_STRICT, OFPFC_DELETE_STRICT
abbrev pub command_of : Verb → ℕ
command_of (Add action) = 0
command_of (Modify action) = 2
command_of Remove = 4

-- what a command writes into the struct: no cookie, no timeouts, no buffered packet, any output port (OFPP_NONE), no flags
abbrev pub flow_mod_of : Verb → Key → FlowModFields
flow_mod_of verb key = record {
  pattern = match_of key.pattern;
  cookie = 0;
  command = command_of verb;
  idle_timeout = 0;
  hard_timeout = 0;
  priority = key.priority;
  buffer_id = 0xffffffff;
  out_port = 0xffff;
  flags = 0;
}

-- the key that the struct names
abbrev pub key_in : FlowModFields → Key
key_in m = record { priority = m.priority; pattern = pattern_in m.pattern }
