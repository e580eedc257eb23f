-- What a run of `trace` promises over the files of a source that tells.
use Rattle.std.specs.Prelude.{◌≡◌, ◌↔◌, ℕ, List, Option}
use Rattle.std.specs.Io.KnownBytes.{Appends}
use Rattle.file_access.specs.Outside.{Files}
use Rattle.command_base.specs.declared.status.Status.{Status}
use Rattle.command_base.specs.declared.status.Status.TheVariants as status
use Rattle.command_base.specs.Runs.{IsComplete}
use Rattle.trace_command.specs.Names.{TraceNames}
use Rattle.trace_command.specs.Traced.{TraceMeaning, FilesMeanTrace, FilesHaveEntry, FilesLackEntry, WritesTrace, no_entry_line}

-- the files and their names, what was written before and after the run, and how it ended
pub record TracePromise (files : Files) (names : TraceNames) (old new : Option (List ℕ)) (result : Status) : Type 0 where
  -- Done comes exactly where both files are read, and ENTRY and VLAN name a host port and a declared VLAN of the network.
  pub done : IsComplete result → ((result ≡ status.Done) ↔ FilesHaveEntry files names)
  -- Then the path of the packet in the configuration was written, up to its end, or up to and with the first stop at a switch that comes
  -- again, and at each stop the rule that the lookup picks.
  pub trace : (m : TraceMeaning) → FilesMeanTrace files names m → result ≡ status.Done → WritesTrace m old new
  -- Refused comes exactly where both files are read, and ENTRY and VLAN name none; the line says which was named.
  pub refused : IsComplete result → ((result ≡ status.Refused) ↔ FilesLackEntry files names)
  pub no_entry : (m : TraceMeaning) → FilesMeanTrace files names m → result ≡ status.Refused → Appends old new (no_entry_line m.entry)
