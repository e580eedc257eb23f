use Rattle.std.proofs.Common.{refl, inl, inr, arith}
use Rattle.net_base.specs.Places.{stop_of}
use Rattle.mixed_walks.proofs.PlaceLaws.{port_within}
use Rattle.mixed_walks.proofs.TogetherLaws.{few_together, together_counted}
use Rattle.mixed_walks.proofs.walk.WalkRoom.walk_more.Goals as goal

pub enter-requires-clause-near : goal.enter-requires-clause-near
enter-requires-clause-near c =
    let within = port_within c.args.net.now c.keeps_rules.ensures (stop_of c.args.class.entry) c.requires.entry in
    let few = c.keeps_rules.ensures.few in
    omega arith

pub enter-requires-clause-room : goal.enter-requires-clause-room
enter-requires-clause-room c =
    let (u, k, round, together) = c.requires.round in
    let few = few_together u k c.args.class.first c.args.class.entry.vlan c.args.net.now c.args.mixes.now round c.keeps_rules.ensures c.args.self.now together in
    omega arith

pub go_on-requires : goal.go_on-requires
go_on-requires c =
    let (u, k, round, together) = c.requires.round in
    record { round = (u, k, round, together_counted u k c.args.class.first c.args.class.entry c.args.net.now c.args.mixes.now round c.requires.entry c.args.self.now c.enter.new.self together c.enter.ensures c.count-from.result c.count-from.ensures) }

pub returns : goal.returns
returns c = record {
  together = λ u k round together.
      c.go_on.ensures.together u k round
      (together_counted u k c.args.class.first c.args.class.entry c.args.net.now c.args.mixes.now round c.requires.entry c.args.self.now c.enter.new.self together c.enter.ensures c.count-from.result c.count-from.ensures);
  entry = c.go_on.ensures.kept c.args.class.entry ((c.enter.ensures.places c.args.class.entry).1 (inr refl));
  kept = λ p i. c.go_on.ensures.kept p ((c.enter.ensures.places p).1 (inl i));
}
