use Rattle.paths_command.specs.Listed.{AreRooms, IsListing, meaning_of}
use Rattle.paths_command.proofs.listing.list_classes.Given as goal

abbrev pub invariant-loop-number : goal.invariant-loop-number
invariant-loop-number l = record {
  rooms : AreRooms l.judged.net.now l.judged.duties.now l.rooms;
  listing : IsListing (meaning_of l.judged) l.number l.text.items l.counts;
}
