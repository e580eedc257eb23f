use Rattle.std.proofs.Common.{◌≡◌, List, false, subst, sym, ◌∙◌}
use Rattle.std.specs.List.{list_any}
use Rattle.std.proofs.lemmas.Bool.{both_ways}
use Rattle.net_base.specs.Members.{IsIn}
use Rattle.flow_rules.specs.Overlaps.{keys_clash}
use Rattle.flow_rules.specs.Patterns.{key_eq}
use Rattle.flow_rules.specs.Tables.{keys_of}
use Rattle.flow_rules.specs.declared.rules.Rule.{Rule}
use Rattle.flow_rules.proofs.TableLaws.{key_found}
use Rattle.config_files.proofs.KeyClashes.{no_key, rules_with_clear}
use Rattle.config_files.proofs.read.add_rule.Goals as goal

pub returns : goal.returns
returns c =
    let k = c.args.rule.key in
    let none = subst (λ (rs : List Rule). list_any (λ q. keys_clash q.key k) rs ≡ false) c.rules.ensures.value (sym c.has_clash.ensures ∙ c.if-has_clash.false) in
    rw c.insert.ensures.rules (rw c.reserve.ensures.rules (rules_with_clear c.args.place c.args.table.now.rules c.args.rule none))

pub insert-requires-clause-absent : goal.insert-requires-clause-absent
insert-requires-clause-absent c i =
    let k = c.args.rule.key in
    let none = subst (λ (rs : List Rule). list_any (λ q. keys_clash q.key k) rs ≡ false) c.rules.ensures.value (sym c.has_clash.ensures ∙ c.if-has_clash.false) in
    both_ways (list_any (λ q. key_eq q.key k) c.args.table.now.rules) (no_key k c.args.table.now.rules none)
    ((key_found k c.args.table.now.rules).1 (subst (λ (rs : List Rule). IsIn k (keys_of rs)) c.reserve.ensures.rules i))
