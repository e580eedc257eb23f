use Rattle.std.proofs.lemmas.Bool.{MatchBool-at_true, MatchBool-at_false}
use Rattle.flow_stats.proofs.MarkLaws.{met_around, met_within}
use Rattle.flow_stats.proofs.index.RuleIndex.is_met.Goals as goal

pub returns-then-has_around : goal.returns-then-has_around
returns-then-has_around c rules index =
    let found = MatchBool-at_true _ _ c.if-has_around.true c.has_around.ensures.found in
    met_around c.args.group c.args.prefix.now c.args.self.now rules index c.has_around.ensures.block found.0 found.2

pub returns : goal.returns
returns c rules index =
    met_within c.args.group c.args.prefix.now c.args.self.now rules index c.has_around.ensures.block c.has.result c.has.ensures (MatchBool-at_false _ _ c.if-has_around.false c.has_around.ensures.found)
