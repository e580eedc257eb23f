-- What the fields of a sink in memory stand for.
use Rattle.std.specs.Prelude.{◌≤◌, vec_len, vec_capacity}
use Rattle.file_access.specs.declared.in_memory.MemorySink.TheInside.{Inside}
use Rattle.file_access.specs.Drawer.{Drawer}

abbrev pub drawer_of : Inside → Drawer
drawer_of a = record {
  room = a.room;
  piece = a.piece;
  failing = a.failing.items;
  bytes = a.bytes.items;
  calls = a.calls;
  faults = a.faults;
}

-- there is memory for all that it holds
pub record HasRoomInside (a : Inside) : Type 0 where
  pub piece : 1 ≤ a.piece
  pub reserved : a.room ≤ vec_capacity a.bytes
  pub within : vec_len a.bytes ≤ a.room
