use Rattle.std.proofs.Common.{◌<◌, length, map, None, option_map, refl, sym, ap, ◌∙◌, arith}
use Rattle.serde_json.specs.Data.{no_members}
use Rattle.flat_json.specs.declared.node.Node.TheVariants as node
use Rattle.flat_json.proofs.Lookups.{key_found, key_passed, all_keys, get_member-with_members, option_map-twice}
use Rattle.flat_json.proofs.parts.last_named.Goals as goal
use Rattle.flat_json.proofs.parts.last_named.Goals.{then-eq, else-eq}

pub loop-i-preserved : goal.loop-i-preserved
loop-i-preserved c =
    let i = c.loop-i.i in
    let name = c.args.name.now in
    let keys = c.args.keys.now in
    let values = c.args.values.now in
    let in_keys : i < length keys = omega (arith, c.loop-i-test.true, c.min-i-end.ensures) in
    let in_values : i < length values = omega (arith, c.loop-i-test.true, c.min-i-end.ensures) in
    elim c.if-eq.branch [
      | then-eq w ↦ key_found name keys values i _ _ (option_map (λ v. v.now) c.loop-i.found) _ in_keys in_values c.loop-i.invariant _ (sym c.eq.ensures ∙ w.if-eq.true) (ap (option_map (λ v. v.now)) w.found-is)
      | else-eq w ↦ key_passed name keys values i _ node.Null (option_map (λ v. v.now) c.loop-i.found) _ in_keys in_values c.loop-i.invariant _ (sym c.eq.ensures ∙ w.if-eq.false) (ap (option_map (λ v. v.now)) w.found-is)
    ]

pub returns : goal.returns
returns c f =
    let name = c.args.name.now in
    let keys = map (λ k. k.now) c.args.keys.now in
    let values = c.args.values.now in
    let last = all_keys name c.args.keys.now values c.loop-i.i _ _ (omega (arith, c.loop-i-test.false, c.min-i-end.ensures)) c.loop-i.invariant in
    option_map-twice f (λ v. v.now) c.loop-i.found ∙ ap (option_map f) last ∙ sym (get_member-with_members f name keys values None no_members refl)
