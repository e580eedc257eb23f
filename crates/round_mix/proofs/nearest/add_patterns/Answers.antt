use Rattle.std.proofs.Common.{◌≤◌, ◌++◌, List, length, sym, ◌∙◌, ap, arith}
use Rattle.std.proofs.lemmas.List.{append-nil, drop_all}
use Rattle.round_mix.specs.Nearest.{patterns_back}
use Rattle.round_mix.specs.declared.MarkedRule.{MarkedRule}
use Rattle.round_mix.proofs.NearestLaws.{back_more}
use Rattle.round_mix.proofs.nearest.add_patterns.Goals as goal

pub loop-position-init : goal.loop-position-init
loop-position-init c =
    let rules = c.args.rules.now in
    let all : length rules ≤ length rules = omega arith in
    let start = c.args.space.now.patterns in
    record {
      added = sym (ap (λ (ms : List MarkedRule). start ++ patterns_back ms) (drop_all (length rules) rules all) ∙ append-nil start);
      within = all;
    }

pub loop-position-preserved : goal.loop-position-preserved
loop-position-preserved c = record {
  added = back_more c.args.space.now.patterns c.loop-position.space.patterns c.add.new.self.patterns c.args.rules.now c.loop-position.position c.index-rules-position.result c.loop-position-test.true
      c.loop-position.invariant.within c.loop-position.invariant.added (c.add.ensures.added c.if-not-add.false);
  within = let w = c.loop-position.invariant.within in omega arith;
}
