use Rattle.std.proofs.Common.{rules, List, Some, sym, ap, subst, ◌∙◌}
use Rattle.std.proofs.lemmas.Option.{slice_get-get_or}
use Rattle.net_base.specs.Blocks.{Block}
use Rattle.net_base.specs.Members.{IsIn}
use Rattle.net_base.proofs.ItemLaws.{in_from_get}
use Rattle.configuration_tests.proofs.dest_classes_tests.touches.Goals as goal

pub touched-requires-clause-known : goal.touched-requires-clause-known
touched-requires-clause-known g c =
    let xs = c.args.prefixes.now in
    let p = c.index-prefixes-i.result in
    subst (λ (ps : List Block). IsIn p ps) (sym c.requires) (in_from_get xs c.args.i p (slice_get-get_or xs c.args.i p (search rules) ∙ ap Some (sym c.index-prefixes-i.is)))
