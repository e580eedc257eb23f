use Rattle.std.proofs.Common.{◌≡◌, ◌<◌, length, rules, sym, ◌∙◌, ap, subst, true, false, add-one, Vec, Global}
use Rattle.flow_rules.specs.Patterns.{key_eq}
use Rattle.flow_rules.specs.declared.rules.Rule.{Rule}
use Rattle.flow_rules.proofs.TableLaws.{replaced_then, replaced_else}
use Rattle.flow_rules.proofs.tables.replace_in.Goals as goal
use Rattle.flow_rules.proofs.tables.replace_in.Goals.{then-is_same, else-is_same}

pub loop-i-preserved : goal.loop-i-preserved
loop-i-preserved c =
    let less : c.loop-i.i < length c.args.rules.now.items = search rules in
    elim c.if-is_same.branch [
      | then-is_same w ↦ (
        search rules,
        rw add-one (replaced_then c.args.rule c.args.rules.now.items c.loop-i.rules.items c.if-is_same.rules.items c.loop-i.i c.index.result.now less c.loop-i.invariant.1
            (subst (λ (r : Rule). key_eq r.key c.args.rule.key ≡ true) c.index.ensures (sym c.is_same.ensures ∙ w.if-is_same.true)) (ap (λ (v : Vec Rule Global). v.items) w.rules-is)),
        search rules,
        search rules,
      )
      | else-is_same w ↦ (
        search rules,
        rw add-one (replaced_else c.args.rule c.args.rules.now.items c.loop-i.rules.items c.if-is_same.rules.items c.loop-i.i c.index.result.now less c.loop-i.invariant.1
            (subst (λ (r : Rule). key_eq r.key c.args.rule.key ≡ false) c.index.ensures (sym c.is_same.ensures ∙ w.if-is_same.false)) (ap (λ (v : Vec Rule Global). v.items) w.rules-is)),
        search rules,
        search rules,
      )
    ]
