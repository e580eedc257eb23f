use Rattle.std.proofs.Common.{map, sym, ap, ap₂, ◌∙◌}
use Rattle.serde_json.specs.Data.{no_members}
use Rattle.serde_json.specs.Find.{get, get_member}
use Rattle.flat_json.specs.Nodes.{part, with_members}
use Rattle.flat_json.specs.Trees.{data_of}
use Rattle.flat_json.specs.Stores.{data_in}
use Rattle.flat_json.proofs.Lookups.{member_found}
use Rattle.flat_json.proofs.tree.Tree.get.Goals as goal

pub returns-in-Object : goal.returns-in-Object
unfolding data_of
returns-in-Object c =
    let tree = c.args.self.now in
    let name = c.args.name.now in
    let m = c.in-Object in
    let keys = c.part_of-keys.ensures ∙ ap (part m.key m.count) c.deref.ensures.value in
    let values = c.part_of-values.ensures ∙ ap (part m.first m.count) c.deref-in-Object.ensures.value in
    c.last_named.ensures (data_in tree.store) ∙ ap₂ (λ ks vs. get_member name (with_members (map (λ k. k.now) ks) (map (data_in tree.store) vs) no_members)) keys values
    ∙ member_found tree.store name m.key m.first m.count tree.ordered ∙ ap (λ n. get name (data_in tree.store n)) (sym m.is)
