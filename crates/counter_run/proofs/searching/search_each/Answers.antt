use Rattle.std.proofs.Common.{ℕ, sym, subst, arith, add-one}
use Rattle.std.specs.Prelude.{Option, IfNone}
use Rattle.round_tables.specs.PreparedTables.{StandsBefore}
use Rattle.class_watch.specs.Walks.{WalksStand}
use Rattle.counter_run.specs.Explaining.{NoneBreaks}
use Rattle.counter_run.specs.Updates.{rollout_of}
use Rattle.counter_run.proofs.ClassLaws.{rounds_more}
use Rattle.counter_run.proofs.searching.search_each.Goals as goal

pub loop-k-preserved : goal.loop-k-preserved
loop-k-preserved c =
    let update = c.args.update in
    let u = rollout_of update in
    let k = c.loop-k.k in
    let survey = c.search_round.new.survey in
    record {
      stands = subst (λ (n : ℕ). StandsBefore u n c.apply.new.tables) (sym (add-one k)) c.apply.ensures.stands;
      tables = c.apply.ensures.room;
      room = c.in_ok-events.ensures.room;
      keeps = λ on. c.loop-k.invariant.keeps (c.goes_on-by_survey.ensures.before on);
      walks = λ on. subst (λ (n : ℕ). WalksStand u n survey.classes.items survey.came.items) (sym (add-one k)) (c.in_ok-events.ensures.walks on);
      none = rounds_more u update.classes.now update.duties.now.demands k c.loop-k.invariant.none
          (subst (λ (o : Option _). IfNone o (NoneBreaks u update.classes.now update.duties.now.demands k)) c.in_default.is c.in_ok-events.ensures.none);
    }

pub returns-clause-answer : goal.returns-clause-answer
returns-clause-answer c k less = c.loop-k.invariant.none k (let past = c.loop-k-test.false in let n = c.count-k-end.ensures in omega arith)
