-- The structs of flow statistics as tables of fields (OpenFlow 1.0.0, section 5.3.5). The 40 bytes of a match are those of
-- a flow message (section 5.2.3).
use Rattle.std.specs.Prelude.{ℕ, ◌+◌, List, [], ◌∷◌, ◌++◌}
use Rattle.openflow10.specs.Layout.{Row, field, number_at}
use Rattle.openflow10.specs.Match.{match_table, match_at}
use Rattle.flow_stats.specs.declared.fields.StatsReplyFields.{StatsReplyFields}
use Rattle.flow_stats.specs.declared.fields.FlowStatsFields.{FlowStatsFields}

-- struct ofp_stats_reply before its body, behind struct ofp_header (section 5.1)
abbrev pub stats_reply_table : StatsReplyFields → List Row
stats_reply_table m =
    field 0 1 m.version
    ∷ field 1 1 m.kind
    ∷ field 2 2 m.len
    ∷ field 4 4 m.xid
    ∷ field 8 2 m.stats
    ∷ field 10 2 m.flags
    ∷ []

-- the struct at the beginning of a message
abbrev pub stats_reply_at : List ℕ → StatsReplyFields
stats_reply_at bytes = record {
  version = number_at 0 1 bytes;
  kind = number_at 1 1 bytes;
  len = number_at 2 2 bytes;
  xid = number_at 4 4 bytes;
  stats = number_at 8 2 bytes;
  flags = number_at 10 2 bytes;
}

-- struct ofp_flow_stats before its match, from an offset on
abbrev pub entry_head_table : ℕ → FlowStatsFields → List Row
entry_head_table at e =
    field at 2 e.len
    ∷ field (at + 2) 1 e.table
    ∷ field (at + 3) 1 e.pad
    ∷ []

-- struct ofp_flow_stats between its match and its actions, from an offset on
abbrev pub entry_rest_table : ℕ → FlowStatsFields → List Row
entry_rest_table at e =
    field (at + 44) 4 e.duration_sec
    ∷ field (at + 48) 4 e.duration_nsec
    ∷ field (at + 52) 2 e.priority
    ∷ field (at + 54) 2 e.idle_timeout
    ∷ field (at + 56) 2 e.hard_timeout
    ∷ field (at + 58) 6 e.pad2
    ∷ field (at + 64) 8 e.cookie
    ∷ field (at + 72) 8 e.packet_count
    ∷ field (at + 80) 8 e.byte_count
    ∷ []

-- struct ofp_flow_stats before its actions, from an offset on
abbrev pub flow_stats_table : ℕ → FlowStatsFields → List Row
flow_stats_table at e = entry_head_table at e ++ (match_table (at + 4) e.pattern ++ entry_rest_table at e)

-- the struct in the bytes, from an offset on
abbrev pub flow_stats_at : ℕ → List ℕ → FlowStatsFields
flow_stats_at at bytes = record {
  len = number_at at 2 bytes;
  table = number_at (at + 2) 1 bytes;
  pad = number_at (at + 3) 1 bytes;
  pattern = match_at (at + 4) bytes;
  duration_sec = number_at (at + 44) 4 bytes;
  duration_nsec = number_at (at + 48) 4 bytes;
  priority = number_at (at + 52) 2 bytes;
  idle_timeout = number_at (at + 54) 2 bytes;
  hard_timeout = number_at (at + 56) 2 bytes;
  pad2 = number_at (at + 58) 6 bytes;
  cookie = number_at (at + 64) 8 bytes;
  packet_count = number_at (at + 72) 8 bytes;
  byte_count = number_at (at + 80) 8 bytes;
}
