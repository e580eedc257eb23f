use Rattle.std.proofs.Common.{◌≡◌, ◌+◌, ◌≤◌, ℕ, length, get_or, subst, ap, arith}
use Rattle.std.specs.Prelude.{Option}
use Rattle.flow_rules.specs.Patterns.{Header}
use Rattle.flow_rules.specs.Scan.{IsBeaten}
use Rattle.flow_rules.specs.Tuples.{pattern_around, slot_of, slots_of, link_number}
use Rattle.flow_rules.proofs.SearchLaws.{first_same, first_seen, less_link, none_below, step_same, step_seen}
use Rattle.flow_rules.proofs.searches.best_of_kind.Goals as goal

pub loop-at-preserved : goal.loop-at-preserved
loop-at-preserved c =
    let h : Header = record { port = c.args.packet.port; vlan = c.args.packet.vlan; dst = c.args.packet.dst } in
    let rules = c.args.rules.now in
    let slots = slots_of c.args.space.now in
    let slot = slot_of c.args.space.now.count (pattern_around c.args.kind.now h) in
    let i = c.in-Some.position in
    let held = c.loop-at.invariant in
    let same : get_or slots i 0 ≡ slot = held.same i c.in-Some.is in
    let inside : i + 1 ≤ length rules = subst (λ (o : Option ℕ). link_number o ≤ length rules) c.in-Some.is held.within in
    let seen : (j : ℕ) → i + 1 ≤ j → get_or slots j 0 ≡ slot → IsBeaten h rules c.loop-at.best j =
    subst (λ (o : Option ℕ). (j : ℕ) → link_number o ≤ j → get_or slots j 0 ≡ slot → IsBeaten h rules c.loop-at.best j) c.in-Some.is held.seen in
    record {
      within = let w = c.after-at.ensures.within in omega arith;
      same = step_same slots slot i same c.after-at.result c.after-at.ensures;
      hit = c.better_at-best.ensures.hit;
      kept = λ j b. c.better_at-best.ensures.kept j (held.kept j b);
      seen = step_seen slots slot i same c.after-at.result c.after-at.ensures h rules c.loop-at.best c.better_at-best.result c.better_at-best.ensures.kept c.better_at-best.ensures.here seen;
    }

pub loop-at-init : goal.loop-at-init
loop-at-init c =
    let h : Header = record { port = c.args.packet.port; vlan = c.args.packet.vlan; dst = c.args.packet.dst } in
    let slots = slots_of c.args.space.now in
    let slot = slot_of c.args.space.now.count (pattern_around c.args.kind.now h) in
    let count = c.requires.count in
    let within : link_number c.first-at.result ≤ length c.args.space.now.patterns = c.first-at.ensures.within in
    record {
      within = subst (λ (n : ℕ). link_number c.first-at.result ≤ n) count within;
      same = first_same slots slot (length c.args.space.now.patterns) c.first-at.result c.first-at.ensures;
      hit = c.requires.hit;
      kept = λ j b. b;
      seen = first_seen slots slot (length c.args.space.now.patterns) c.first-at.result c.first-at.ensures h c.args.rules.now c.args.best count;
    }

pub loop-at-smaller : goal.loop-at-smaller
loop-at-smaller c =
    let now : link_number c.loop-at.at ≡ c.in-Some.position + 1 = ap link_number c.in-Some.is in
    let next : link_number c.after-at.result ≤ c.in-Some.position = c.after-at.ensures.within in
    less_link (link_number c.after-at.result) (link_number c.loop-at.at) c.in-Some.position next now

pub returns : goal.returns
returns c = record {
  hit = c.loop-at.invariant.hit;
  kept = c.loop-at.invariant.kept;
  slot = λ j e. c.loop-at.invariant.seen j (none_below c.loop-at.at j c.in_default.is) e;
}
