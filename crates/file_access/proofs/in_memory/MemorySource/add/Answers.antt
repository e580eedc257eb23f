use Rattle.std.proofs.Common.{List, ◌∷◌, [], refl}
use Rattle.file_access.specs.Stored.{pair_of}
use Rattle.file_access.specs.declared.in_memory.StoredFile.{StoredFile}
use Rattle.file_access.proofs.Shelves.{left-grown, name-grown}
use Rattle.std.proofs.lemmas.List.{map-append}
use Rattle.file_access.proofs.in_memory.MemorySource.add.Goals as goal

pub returns-clause-ok : goal.returns-clause-ok
returns-clause-ok c =
    let stored : List StoredFile = record { name = c.args.name; bytes = c.args.bytes } ∷ [] in
    let files = c.self.inside.files.items in
    let within = c.self.invariant.place in
    rw (c.in_ok-push.ensures.items, ← c.self.view_is) (rw (left-grown files stored c.self.inside.current c.self.inside.at within, name-grown files stored c.self.inside.current c.self.inside.at within, map-append pair_of files stored) refl)
