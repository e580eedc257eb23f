use Rattle.std.proofs.Common.{◌≡◌, [], length, sym, rules}
use Rattle.std.proofs.lemmas.List.{append-nil}
use Rattle.flat_json.specs.Stores.{texts_of}
use Rattle.flat_json.proofs.Growth.{list_added}
use Rattle.flat_json.proofs.store.add_list.Goals as goal

pub returns-clause-kept : goal.returns-clause-kept
returns-clause-kept c =
    let old = c.args.store.now in
    let first : c.in_ok-first.first ≡ length old.nodes.items = search rules in
    let count : c.in_ok-count.count ≡ length c.args.items.now = search rules in
    (list_added old (record { nodes = c.extend_from_slice.new.self; texts = old.texts }) [] c.args.items.now c.requires.ordered c.requires.known (sym (append-nil (texts_of old))) c.in_ok-extend_from_slice.ensures.items _ _ first count).0

pub returns-clause-means : goal.returns-clause-means
returns-clause-means c =
    let old = c.args.store.now in
    let first : c.in_ok-first.first ≡ length old.nodes.items = search rules in
    let count : c.in_ok-count.count ≡ length c.args.items.now = search rules in
    (list_added old (record { nodes = c.extend_from_slice.new.self; texts = old.texts }) [] c.args.items.now c.requires.ordered c.requires.known (sym (append-nil (texts_of old))) c.in_ok-extend_from_slice.ensures.items _ _ first count).1
