use Rattle.std.proofs.Common.{◌<◌, length, rules, ◌∙◌, ap, add-one}
use Rattle.flow_rules.specs.Replaced.{in_place_of}
use Rattle.flow_rules.proofs.ReplaceLaws.{mapped_next}
use Rattle.flow_rules.proofs.replaces.replace_sorted.Goals as goal

pub loop-i-preserved : goal.loop-i-preserved
loop-i-preserved c =
    let less : c.loop-i.i < length c.args.rules.now.items = search rules in (
      search rules,
      rw add-one (mapped_next (in_place_of c.args.others.now) c.args.rules.now.items c.loop-i.rules.items _ c.loop-i.i c.index.result.now c.in_place_of.result less
          c.loop-i.invariant.1 (c.in_place_of.ensures ∙ ap (in_place_of c.args.others.now) c.index.ensures) (search rules)),
      search rules,
      search rules,
    )
