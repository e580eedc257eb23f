-- Flow statistics replies (OpenFlow 1.0.0, section 5.3.5; version 0x01).
use Rattle.std.specs.Prelude.{ℕ, ◌%◌, ◌==◌, ◌&&◌, nat_le, Bool, if◌then◌else◌, List, length, Option, None, option_map}
use Rattle.flow_stats.specs.Layout.{stats_reply_at}
use Rattle.flow_stats.specs.Entries.{entries_in}
use Rattle.flow_stats.specs.declared.entries.Entry.{Entry}
use Rattle.flow_stats.specs.declared.fields.StatsReplyFields.{StatsReplyFields}
use Rattle.flow_stats.specs.declared.messages.FlowReply.{FlowReply}
use Rattle.flow_stats.specs.declared.messages.Progress.{Progress}
use Rattle.flow_stats.specs.declared.messages.Progress.TheVariants.{Begun, Whole}

-- a reply: how much of the table is told by it, and its entries
pub record Reply : Type 0 where
  pub progress : Progress
  pub entries : List Entry

-- a reply without where its entries lie in memory
abbrev pub reply_seen : FlowReply → Reply
reply_seen r = record { progress = r.progress; entries = r.entries.items }

-- whether the fields of a message of so many bytes are those of a flow statistics reply: version 0x01, type
-- OFPT_STATS_REPLY, its own length, statistics of type OFPST_FLOW
unfoldable pub is_flow_reply : StatsReplyFields → ℕ → Bool
is_flow_reply m size = (m.version == 1) && (m.kind == 17) && (m.len == size) && (m.stats == 1)

-- how much is told by a message with these flags: more follows where OFPSF_REPLY_MORE, bit 0, is set
abbrev pub progress_of : ℕ → Progress
progress_of flags = if flags % 2 == 1 then Begun else Whole

-- the reply that the bytes are, whole, with entries that fill it
unfoldable pub reply_in : List ℕ → Option Reply
reply_in bytes =
    if nat_le 12 (length bytes) && is_flow_reply (stats_reply_at bytes) (length bytes)
    then option_map (λ es. record { progress = progress_of (stats_reply_at bytes).flags; entries = es }) (entries_in bytes)
    else None
