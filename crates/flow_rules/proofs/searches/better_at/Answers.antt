use Rattle.std.proofs.Common.{◌≡◌, ◌∙◌, ℕ, true, refl, sym, subst, ap}
use Rattle.std.specs.Prelude.{Option, slice_get, Some}
use Rattle.flow_rules.specs.Patterns.{Header, covers}
use Rattle.flow_rules.specs.Scan.{covers_at, IsBeaten, IsHit}
use Rattle.flow_rules.specs.declared.rules.Rule.{Rule}
use Rattle.flow_rules.proofs.ClashLaws.{rule_at}
use Rattle.flow_rules.proofs.SearchLaws.{covers_of, over_self, beaten_by, beaten_by_none, missed_beaten, hit_either}
use Rattle.flow_rules.proofs.searches.better_at.Goals as goal

pub returns-in-Some-clause-hit : goal.returns-in-Some-clause-hit
returns-in-Some-clause-hit c =
    let h : Header = record { port = c.args.packet.port; vlan = c.args.packet.vlan; dst = c.args.packet.dst } in
    let rules = c.args.rules.now in
    let r = c.index-rules-position.result in
    let told : covers r.key.pattern h ≡ c.covers.result = ap (λ (x : Rule). covers x.key.pattern h) c.index-rules-position.is ∙ sym c.covers.ensures in
    let at : slice_get rules c.args.position ≡ Some r = rule_at rules c.args.position r c.requires.position c.index-rules-position.is in
    let here : covers_at h rules c.args.position ≡ true = covers_of h rules c.args.position r at ∙ told ∙ c.if-not-covers.false in
    hit_either h rules c.in-Some.b c.args.position c.better_position.result c.better_position.ensures.either
    (subst (λ (o : Option ℕ). IsHit h rules o) c.in-Some.is c.requires.hit) here

pub returns-in-Some-clause-kept : goal.returns-in-Some-clause-kept
returns-in-Some-clause-kept c = λ j b.
    let h : Header = record { port = c.args.packet.port; vlan = c.args.packet.vlan; dst = c.args.packet.dst } in
    let rules = c.args.rules.now in
    beaten_by h rules c.in-Some.b c.better_position.result j c.better_position.ensures.best (subst (λ (o : Option ℕ). IsBeaten h rules o j) c.in-Some.is b)

pub returns-in-Some-clause-here : goal.returns-in-Some-clause-here
returns-in-Some-clause-here c = λ e. (c.better_position.result, refl, c.better_position.ensures.position)

pub returns-in-None-clause-hit : goal.returns-in-None-clause-hit
returns-in-None-clause-hit c =
    let h : Header = record { port = c.args.packet.port; vlan = c.args.packet.vlan; dst = c.args.packet.dst } in
    let rules = c.args.rules.now in
    let r = c.index-rules-position.result in
    let told : covers r.key.pattern h ≡ c.covers.result = ap (λ (x : Rule). covers x.key.pattern h) c.index-rules-position.is ∙ sym c.covers.ensures in
    covers_of h rules c.args.position r (rule_at rules c.args.position r c.requires.position c.index-rules-position.is) ∙ told ∙ c.if-not-covers.false

pub returns-in-None-clause-kept : goal.returns-in-None-clause-kept
returns-in-None-clause-kept c = λ j b.
    let h : Header = record { port = c.args.packet.port; vlan = c.args.packet.vlan; dst = c.args.packet.dst } in
    beaten_by_none h c.args.rules.now c.args.position j (subst (λ (o : Option ℕ). IsBeaten h c.args.rules.now o j) c.in-None.is b)

pub returns-in-None-clause-here : goal.returns-in-None-clause-here
returns-in-None-clause-here c = λ e. (c.args.position, refl, over_self c.args.rules.now c.args.position)

pub returns-then-not-covers-clause-hit : goal.returns-then-not-covers-clause-hit
returns-then-not-covers-clause-hit c = c.requires.hit

pub returns-then-not-covers-clause-kept : goal.returns-then-not-covers-clause-kept
returns-then-not-covers-clause-kept c = λ j b. b

pub returns-then-not-covers-clause-here : goal.returns-then-not-covers-clause-here
returns-then-not-covers-clause-here c =
    let h : Header = record { port = c.args.packet.port; vlan = c.args.packet.vlan; dst = c.args.packet.dst } in
    let rules = c.args.rules.now in
    let r = c.index-rules-position.result in
    let told : covers r.key.pattern h ≡ c.covers.result = ap (λ (x : Rule). covers x.key.pattern h) c.index-rules-position.is ∙ sym c.covers.ensures in
    missed_beaten h rules c.args.best c.args.position r (rule_at rules c.args.position r c.requires.position c.index-rules-position.is) (sym (told ∙ c.if-not-covers.true))
