use Rattle.std.proofs.Common.{◌≡◌, get_or, refl, ap, inl, inr, arith}
use Rattle.flow_rules.specs.declared.rules.Rule.{Rule}
use Rattle.flow_rules.proofs.SearchLaws.{over_self, over_by}
use Rattle.flow_rules.proofs.searches.better_position.Goals as goal

pub returns-then-position-best-clause-best : goal.returns-then-position-best-clause-best
returns-then-position-best-clause-best c =
    let a = c.index-rules-position.result in
    let b = c.index-rules-best.result in
    let p : a.key.priority ≡ (get_or c.args.rules.now c.args.position a).key.priority = ap (λ (x : Rule). x.key.priority) c.index-rules-position.is in
    let q : b.key.priority ≡ (get_or c.args.rules.now c.args.best b).key.priority = ap (λ (x : Rule). x.key.priority) c.index-rules-best.is in
    over_by c.args.rules.now c.args.position c.args.best a b c.requires.position c.requires.best c.index-rules-position.is c.index-rules-best.is (omega arith) (λ e. omega arith)

pub returns-then-position-best-clause-position : goal.returns-then-position-best-clause-position
returns-then-position-best-clause-position c = over_self c.args.rules.now c.args.position

pub returns-then-position-best-clause-either : goal.returns-then-position-best-clause-either
returns-then-position-best-clause-either c = inr refl

pub returns-else-position-best-clause-best : goal.returns-else-position-best-clause-best
returns-else-position-best-clause-best c = over_self c.args.rules.now c.args.best

pub returns-else-position-best-clause-position : goal.returns-else-position-best-clause-position
returns-else-position-best-clause-position c =
    let a = c.index-rules-best.result in
    let b = c.index-rules-position.result in
    let p : a.key.priority ≡ (get_or c.args.rules.now c.args.best a).key.priority = ap (λ (x : Rule). x.key.priority) c.index-rules-best.is in
    let q : b.key.priority ≡ (get_or c.args.rules.now c.args.position b).key.priority = ap (λ (x : Rule). x.key.priority) c.index-rules-position.is in
    over_by c.args.rules.now c.args.best c.args.position a b c.requires.best c.requires.position c.index-rules-best.is c.index-rules-position.is (omega arith) (λ e. omega arith)

pub returns-else-position-best-clause-either : goal.returns-else-position-best-clause-either
returns-else-position-best-clause-either c = inl refl
