-- The configuration that a file of flow statistics tells.
use Rattle.std.specs.Prelude.{◌≡◌, ◌≤◌, ℕ, ◌+◌, Bool, true, false, not, List, [], length, replicate, slice_set, slice_index_or, find, Option, None, Some, Result, Ok, Err, ⊤, if◌then◌else◌}
use Rattle.std.specs.List.{range_with_len}
use Rattle.net_base.specs.declared.ids.SwitchId.{SwitchId}
use Rattle.net_base.specs.Reading.{◌>>=◌, check, need, in_turn}
use Rattle.net_base.specs.Lines.{lines_of, is_comment}
use Rattle.topology.specs.Networks.{Network, switch_count}
use Rattle.flow_rules.specs.Tables.{rules_of_all}
use Rattle.flow_rules.specs.declared.rules.Rule.{Rule}
use Rattle.config_files.specs.Configuration.{over_capacity}
use Rattle.flow_stats.specs.Lines.{Sent, sent_in}
use Rattle.flow_stats.specs.Messages.{Reply, reply_in}
use Rattle.flow_stats.specs.Tables.{entry_at}
use Rattle.flow_stats.specs.Index.{AreIndexed}
use Rattle.flow_stats.specs.declared.fault.StatsFault.{StatsFault}
use Rattle.flow_stats.specs.declared.fault.StatsFault.TheVariants.{BadMessage, Incomplete, OverCapacity}
use Rattle.flow_stats.specs.declared.messages.Progress.{Progress}
use Rattle.flow_stats.specs.declared.messages.Progress.TheVariants.{Awaited, Begun, Whole}
use Rattle.flow_stats.specs.declared.read.StatsSoFar as code

-- what lines tell: the tables, how much of its table each switch has told, and the number of entries
pub record StatsView : Type 0 where
  pub tables : List (List Rule)
  pub progress : List Progress
  pub entries : ℕ

-- what is told without where it lies in memory
abbrev pub told_seen : code.StatsSoFar → StatsView
told_seen t = record { tables = rules_of_all t.config; progress = t.progress.items; entries = t.entries }

-- it has a table and a progress for each switch, the marks of the rules, and at most 2048 entries
pub record AreFor (net : Network) (t : code.StatsSoFar) : Type 0 where
  pub tables : length t.config ≡ switch_count net
  pub index : AreIndexed (rules_of_all t.config) t.index
  pub progress : length t.progress.items ≡ switch_count net
  pub entries : t.entries ≤ 2048

-- before the first line
abbrev pub nothing_told : Network → StatsView
nothing_told net = record { tables = replicate (switch_count net) []; progress = replicate (switch_count net) Awaited; entries = 0 }

-- whether a progress is that of a table which is told
abbrev pub is_told : Progress → Bool
is_told Awaited = false
is_told Begun = false
is_told Whole = true

-- whether a progress is that of a table of which more follows
abbrev pub is_begun : Progress → Bool
is_begun Awaited = false
is_begun Begun = true
is_begun Whole = false

-- whether the last message of the switch stands
abbrev pub is_whole : List Progress → SwitchId → Bool
is_whole progress s = is_told (slice_index_or progress s.0 Awaited)

-- with the entries of a reply of the switch, which are numbered over the file
unfoldable pub with_reply : Network → SwitchId → StatsView → Reply → Result StatsView StatsFault
with_reply net s before reply = do
  tables ← in_turn (entry_at net s) before.entries before.tables reply.entries
  Ok (record { tables = tables; progress = slice_set before.progress s.0 reply.progress; entries = before.entries + length reply.entries })

-- with a message: a reply of a switch whose last one doesn't stand yet
unfoldable pub reply_at : Network → ℕ → StatsView → Sent → Result StatsView StatsFault
reply_at net number before sent = do
  reply ← need (reply_in sent.bytes) (BadMessage number)
  _ ← check (not (is_whole before.progress sent.switch)) (BadMessage number)
  with_reply net sent.switch before reply

-- with the message of a line
unfoldable pub message_at : Network → ℕ → StatsView → List ℕ → Result StatsView StatsFault
message_at net number before line = do
  sent ← sent_in net number line
  reply_at net number before sent

-- with a line, which may be a comment
abbrev pub line_at : Network → ℕ → StatsView → List ℕ → Result StatsView StatsFault
line_at net number before line = if is_comment line then Ok before else message_at net number before line

-- what the lines of the file tell, which are numbered from 1; or the first refusal
abbrev pub told_in : Network → List ℕ → Result StatsView StatsFault
told_in net bytes = in_turn (line_at net) 1 (nothing_told net) (lines_of bytes)

-- the least switch whose last message says that more follow
abbrev pub incomplete : Network → List Progress → Option ℕ
incomplete net progress = find (λ s. is_begun (slice_index_or progress s Awaited)) (range_with_len 0 (switch_count net))

-- there is no such switch
abbrev pub no_switch : Option ℕ → (SwitchId → StatsFault) → Result ⊤ StatsFault
no_switch None fault = Ok tt
no_switch (Some s) fault = Err (fault (record { 0 = s }))

-- the tables that the file tells, where all is told and each table fits; or the first refusal
unfoldable pub replies_in : Network → List ℕ → Result (List (List Rule)) StatsFault
replies_in net bytes = do
  told ← told_in net bytes
  _ ← no_switch (incomplete net told.progress) Incomplete
  _ ← no_switch (over_capacity net told.tables) OverCapacity
  Ok told.tables
