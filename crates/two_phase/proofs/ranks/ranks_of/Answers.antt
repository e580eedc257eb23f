use Rattle.std.proofs.Common.{◌∙◌, ap}
use Rattle.std.specs.Prelude.{◌==◌, reverse}
use Rattle.std.proofs.lemmas.List.Filters.{dedup_is}
use Rattle.dest_classes.specs.Classes.{ascending_numbers}
use Rattle.dest_classes.proofs.AtomLaws.{ascending_is}
use Rattle.two_phase.proofs.ranks.ranks_of.Goals as goal

pub returns : goal.returns
returns c =
    c.reverse.ensures.items
    ∙ ap reverse
    (dedup_is (λ a b. a == b) c.sort_unstable.new.self.items c.dedup.new.self.items c.dedup.ensures.filtered
    ∙ ascending_is c.in_ok-ranks.ranks.items c.sort_unstable.new.self.items c.sort_unstable.ensures.permutation c.sort_unstable.ensures.sorted
    ∙ ap ascending_numbers c.in_ok-ranks.ensures)
