use Rattle.std.proofs.Common.{◌≡◌, [], ◌∷◌, length, map, refl, ap, ◌∙◌, rules, arith}
use Rattle.std.proofs.lemmas.List.{map-append, length-map}
use Rattle.flat_json.proofs.Growth.{text_added}
use Rattle.flat_json.proofs.store.add_text.Goals as goal

pub returns-clause-kept : goal.returns-clause-kept
returns-clause-kept c =
    let old = c.args.store.now in
    let texts = ap (map (λ t. t.now)) c.in_ok-push.ensures.items ∙ map-append (λ t. t.now) old.texts.items (c.args.text ∷ []) in
    let at : c.in_ok-at.at ≡ length old.texts.items = search rules in
    (text_added old (record { nodes = old.nodes; texts = c.push.new.self }) c.args.text.now _ c.requires texts refl (omega (arith, at, length-map old.texts.items (λ t. t.now)))).0

pub returns-clause-means : goal.returns-clause-means
returns-clause-means c =
    let old = c.args.store.now in
    let texts = ap (map (λ t. t.now)) c.in_ok-push.ensures.items ∙ map-append (λ t. t.now) old.texts.items (c.args.text ∷ []) in
    let at : c.in_ok-at.at ≡ length old.texts.items = search rules in
    (text_added old (record { nodes = old.nodes; texts = c.push.new.self }) c.args.text.now _ c.requires texts refl (omega (arith, at, length-map old.texts.items (λ t. t.now)))).1
