use Rattle.std.proofs.Common.{List, [], ◌∷◌, ◌++◌, subst, ap, ◌∙◌}
use Rattle.std.proofs.lemmas.Bool.{both_ways}
use Rattle.net_base.specs.Members.{IsIn}
use Rattle.flow_rules.specs.Tables.{keys_of}
use Rattle.flow_rules.specs.declared.rules.Rule.{Rule}
use Rattle.flow_rules.proofs.TableLaws.{key_found}
use Rattle.flow_stats.proofs.TableUpdates.{twice, overlaps, fits}
use Rattle.flow_stats.proofs.adding.add_rule.Goals as goal

pub returns-then-has_key-clause-read : goal.returns-then-has_key-clause-read
returns-then-has_key-clause-read c _ = twice c.args.place c.args.table.now.rules c.args.rule c.has_key.result (c.has_key.ensures c.args.table.now.rules c.requires) c.if-has_key.true

pub returns-then-has_clash-clause-read : goal.returns-then-has_clash-clause-read
returns-then-has_clash-clause-read c _ =
    overlaps c.args.place c.args.table.now.rules c.args.rule c.has_key.result c.has_clash.result (c.has_key.ensures c.args.table.now.rules c.requires) c.if-has_key.false
    (c.has_clash.ensures c.args.table.now.rules c.requires) c.if-has_clash.true

pub insert-requires-clause-absent : goal.insert-requires-clause-absent
insert-requires-clause-absent c i =
    both_ways c.has_key.result c.if-has_key.false (c.has_key.ensures c.args.table.now.rules c.requires
    ∙ (key_found c.args.rule.key c.args.table.now.rules).1 (subst (λ (rs : List Rule). IsIn c.args.rule.key (keys_of rs)) c.reserve.ensures.rules i))

pub returns-clause-read : goal.returns-clause-read
returns-clause-read c =
    fits c.args.place c.args.table.now.rules c.args.rule c.reserve.new.self.rules c.insert.new.self.rules c.has_key.result c.has_clash.result (c.has_key.ensures c.args.table.now.rules c.requires) c.if-has_key.false
    (c.has_clash.ensures c.args.table.now.rules c.requires) c.if-has_clash.false c.reserve.ensures.rules c.insert.ensures.rules

pub returns-clause-index : goal.returns-clause-index
returns-clause-index c = (c.insert.ensures.rules ∙ ap (λ rs. rs ++ c.args.rule ∷ []) c.reserve.ensures.rules, c.in_ok-add.ensures.added, c.in_ok-add.ensures.block)
