use Rattle.std.proofs.Common.{◌≡◌, ◌∙◌, sym, subst, ap}
use Rattle.std.specs.Prelude.{◌==◌}
use Rattle.std.proofs.lemmas.List.Filters.{dedup_is}
use Rattle.dest_classes.specs.Classes.{boundaries, ascending_numbers}
use Rattle.dest_classes.specs.Atoms.{AreFirsts}
use Rattle.dest_classes.proofs.AtomLaws.{ascending_is, are_firsts}
use Rattle.dest_classes.proofs.Atoms.of_prefixes.Goals as goal

made : (c : goal.After-dedup) → c.dedup.new.self.items ≡ boundaries c.args.prefixes.now
made c =
    dedup_is (λ a b. a == b) c.sort_unstable.new.self.items c.dedup.new.self.items c.dedup.ensures.filtered
    ∙ ascending_is c.in_ok-firsts.firsts.items c.sort_unstable.new.self.items c.sort_unstable.ensures.permutation c.sort_unstable.ensures.sorted
    ∙ ap ascending_numbers c.in_ok-firsts.ensures

pub invariant_of-result : goal.invariant_of-result
invariant_of-result c = subst AreFirsts (sym (made c)) (are_firsts c.args.prefixes.now)

pub returns : goal.returns
returns c = made c
