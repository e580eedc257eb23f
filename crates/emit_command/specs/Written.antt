-- What is appended while the lines are written.
use Rattle.std.specs.Prelude.{◌≡◌, ◌+◌, List, ◌++◌, length, flat_map}
use Rattle.topology.specs.Networks.{Network}
use Rattle.emit_command.specs.declared.lines.Lines.{Lines}
use Rattle.round_messages.specs.Requests.{Request, sent_from}
use Rattle.emit_command.specs.Lines.{line_of}

-- the lines of these requests, whose xids follow those before
pub record AddsLines (net : Network) (requests : List Request) (old new : Lines) : Type 0 where
  pub text_is : new.text.items ≡ old.text.items ++ flat_map (line_of net) (sent_from old.xid requests)
  pub xid_is : new.xid ≡ old.xid + length requests
