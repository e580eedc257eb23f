use Rattle.std.proofs.Common.{map, Some, sym, ap, ◌∙◌}
use Rattle.flat_json.specs.JsonTree.{list_in}
use Rattle.flat_json.specs.Nodes.{part}
use Rattle.flat_json.specs.Trees.{data_of}
use Rattle.flat_json.specs.Stores.{data_in}
use Rattle.flat_json.proofs.Lookups.{list_found}
use Rattle.flat_json.proofs.tree.Tree.list_in.Goals as goal

pub returns-in-List : goal.returns-in-List
unfolding data_of
returns-in-List c =
    let tree = c.args.self.now in
    let found = c.part_of.ensures ∙ ap (part c.in-List.first c.in-List.count) c.deref.ensures.value in
    ap (λ l. Some (map (data_in tree.store) l)) found ∙ list_found tree.store c.in-List.first c.in-List.count tree.ordered ∙ ap (λ n. list_in (data_in tree.store n)) (sym c.in-List.is)
