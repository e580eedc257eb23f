use Rattle.std.proofs.Common.{◌≡◌, map, drop}
use Rattle.file_access.specs.Shelf.{file_of}
use Rattle.file_access.specs.Stored.{pair_of}
use Rattle.file_access.proofs.in_memory.find.Given as goal

-- none before this one has the name
abbrev pub invariant-looks : goal.invariant-looks
invariant-looks l = file_of (map pair_of (drop l.i l.files)) l.name ≡ file_of (map pair_of l.files) l.name
