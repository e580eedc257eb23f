use Rattle.std.proofs.Common.{◌≡◌, ◌++◌, length, map, sym, ap, ◌∙◌, rules}
use Rattle.std.proofs.lemmas.List.{map-append, length-map}
use Rattle.flat_json.proofs.Growth.{object_added}
use Rattle.flat_json.proofs.store.add_object.Goals as goal

pub returns-clause-kept : goal.returns-clause-kept
returns-clause-kept c =
    let old = c.args.store.now in
    let keys = c.args.members.now.keys.items in
    let values = c.args.members.now.values.items in
    let texts = ap (map (λ t. t.now)) c.in_ok-extend_from_slice.ensures.items ∙ map-append (λ t. t.now) old.texts.items c.deref.result.now ∙ ap (λ k. map (λ t. t.now) old.texts.items ++ map (λ t. t.now) k) c.deref.ensures.value in
    let nodes = c.in_ok-extend_from_slice-2.ensures.items ∙ ap (λ v. old.nodes.items ++ v) c.deref-2.ensures.value in
    let key : c.in_ok-key.key ≡ length old.texts.items = search rules in
    let first : c.in_ok-first.first ≡ length old.nodes.items = search rules in
    let count : c.in_ok-count.count ≡ length values = search rules in
    let paired : length keys ≡ length values = search rules in
    (object_added old (record { nodes = c.extend_from_slice-2.new.self; texts = c.extend_from_slice.new.self }) (map (λ k. k.now) keys) values c.requires.ordered c.requires.known texts nodes
    _ _ _ (key ∙ sym (length-map old.texts.items (λ t. t.now))) first count (count ∙ sym paired ∙ sym (length-map keys (λ k. k.now)))).0

pub returns-clause-means : goal.returns-clause-means
returns-clause-means c =
    let old = c.args.store.now in
    let keys = c.args.members.now.keys.items in
    let values = c.args.members.now.values.items in
    let texts = ap (map (λ t. t.now)) c.in_ok-extend_from_slice.ensures.items ∙ map-append (λ t. t.now) old.texts.items c.deref.result.now ∙ ap (λ k. map (λ t. t.now) old.texts.items ++ map (λ t. t.now) k) c.deref.ensures.value in
    let nodes = c.in_ok-extend_from_slice-2.ensures.items ∙ ap (λ v. old.nodes.items ++ v) c.deref-2.ensures.value in
    let key : c.in_ok-key.key ≡ length old.texts.items = search rules in
    let first : c.in_ok-first.first ≡ length old.nodes.items = search rules in
    let count : c.in_ok-count.count ≡ length values = search rules in
    let paired : length keys ≡ length values = search rules in
    (object_added old (record { nodes = c.extend_from_slice-2.new.self; texts = c.extend_from_slice.new.self }) (map (λ k. k.now) keys) values c.requires.ordered c.requires.known texts nodes
    _ _ _ (key ∙ sym (length-map old.texts.items (λ t. t.now))) first count (count ∙ sym paired ∙ sym (length-map keys (λ k. k.now)))).1
