use Rattle.std.proofs.Common.{◌≡◌, ◌-◌, ◌≤◌, length}
use Rattle.flow_stats.specs.Entries.{entries_in}
use Rattle.flow_stats.proofs.EntryLaws.{behind, rest_at}
use Rattle.flow_stats.proofs.entries.read_entries.Given as goal

abbrev pub invariant-entries : goal.invariant-entries
invariant-entries l = record {
  within : l.at ≤ length l.bytes;
  read : behind l.bytes l.entries.items (rest_at l.bytes l.at) ≡ entries_in l.bytes;
}

abbrev pub decreases-entries : goal.decreases-entries
decreases-entries l = length l.bytes - l.at
