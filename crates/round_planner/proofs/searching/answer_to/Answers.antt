use Rattle.std.proofs.Common.{◌≤◌, List, [], ◌∙◌, ap, subst}
use Rattle.flow_rules.specs.Tables.{rules_of_all}
use Rattle.update_model.specs.declared.Change.{Change}
use Rattle.certificates.specs.declared.OrderedEvidence.{OrderedEvidence}
use Rattle.round_planner.specs.Searching.{answer_of}
use Rattle.round_planner.proofs.searching.answer_to.Goals as goal

pub run-none_remains-requires : goal.run-none_remains-requires
run-none_remains-requires c = (rules_of_all c.args.old.now, [], c.requires, c.in_ok-search.ensures.at)

pub returns : goal.returns
returns c = record {
  search = c.run-none_remains.new.self;
  none_remains = c.in_ok-none_remains.field-0;
  ended = c.in_ok-none_remains.ensures (rules_of_all c.args.old.now) [] c.requires c.in_ok-search.ensures.at;
  stored = c.into_found-rounds.ensures.stored;
  few = subst (λ n. n ≤ 8192) c.in_ok-search.ensures.at.classes c.in_ok-search.ensures.few;
  answer_is = c.answer_of.ensures
      ∙ ap (λ (rounds : List (List Change)). answer_of rounds c.into_found-rounds.result.1 c.in_ok-none_remains.field-0) c.into_found-rounds.ensures.rounds
      ∙ ap (λ (e : OrderedEvidence). answer_of c.run-none_remains.new.self.rounds e c.in_ok-none_remains.field-0) c.into_found-rounds.ensures.evidence;
}
