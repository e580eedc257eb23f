use Rattle.std.proofs.Common.{map, sym, ◌∙◌, subst}
use Rattle.std.proofs.lemmas.Bool.{not-true, not_from_false, both_ways, false_from_ne_true}
use Rattle.net_base.specs.Members.{IsIn}
use Rattle.flow_rules.specs.declared.rules.Rule.{Rule}
use Rattle.update_model.specs.Changes.{rule_of}
use Rattle.round_mix.proofs.GoodLaws.{names_key_is}
use Rattle.round_mix.proofs.changes.is_good_after.Goals as goal

pub returns-then-applies_to : goal.returns-then-applies_to
returns-then-applies_to c =
    let before = c.args.before.now in
    let is = names_key_is c.rule-key.result.key before in (
      λ e. record {
        applies = c.applies_to.ensures.0 c.if-applies_to.true;
        fresh = λ i. both_ways c.names_key.result (not-true c.names_key.result e)
            (c.names_key.ensures ∙ is.1 (subst (λ (r : Rule). IsIn r.key (map (λ d. (rule_of d).key) before)) (sym c.rule-key.ensures) i));
      },
      λ good. not_from_false c.names_key.result (false_from_ne_true c.names_key.result (λ e.
          good.fresh (subst (λ (r : Rule). IsIn r.key (map (λ d. (rule_of d).key) before)) c.rule-key.ensures (is.0 (sym c.names_key.ensures ∙ e))))),
    )
