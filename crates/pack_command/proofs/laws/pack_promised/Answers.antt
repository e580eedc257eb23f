use Rattle.pack_command.proofs.PackedLaws.{promised}
use Rattle.pack_command.proofs.laws.pack_promised.Goals as goal

pub returns : goal.returns
returns c = λ files names old new result answered.
    promised files names old new result c.searches_end_once.ensures.apart c.searches_end_once.ensures.stuck c.packing_ends_once.ensures.either c.packing_ends_once.ensures.ordered
    c.rounds_are_full.ensures c.one_round_where_one_is_enough.ensures.enough c.one_round_where_one_is_enough.ensures.needed c.never_more_rounds_than_changes.ensures c.depth_rounds_count.ensures answered
