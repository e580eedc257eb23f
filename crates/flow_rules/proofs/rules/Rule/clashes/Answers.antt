use Rattle.std.proofs.Common.{sym, ◌∙◌}
use Rattle.std.specs.Prelude.{◌==◌}
use Rattle.std.proofs.lemmas.Bool.{and_parts, and_from, eqb-true, eq-eqb}
use Rattle.flow_rules.specs.Overlaps.{patterns_meet}
use Rattle.flow_rules.proofs.OverlapLaws.{meet_in, meet_out}
use Rattle.flow_rules.proofs.rules.Rule.clashes.Goals as goal

pub returns : goal.returns
returns c =
    let a = c.args.self.now.key in
    let b = c.args.other.now.key in (
      λ e.
          let (same, meet) = and_parts (a.priority == b.priority) (patterns_meet a.pattern b.pattern) (sym c.clashes.ensures ∙ e) in
          let (h, first, second) = meet_in a.pattern b.pattern meet in
          record { priority = eqb-true a.priority b.priority same; header = h; first = first; second = second },
      λ k. c.clashes.ensures
          ∙ and_from (a.priority == b.priority) (patterns_meet a.pattern b.pattern) (eq-eqb a.priority b.priority k.priority)
          (meet_out a.pattern b.pattern k.header k.first k.second),
    )
