use Rattle.std.proofs.Common.{◌≡◌, Bool, List, sym, ◌∙◌, ap, subst}
use Rattle.std.specs.Prelude.{OnOk, slice_get}
use Rattle.std.specs.Vec.{with_items}
use Rattle.std.proofs.lemmas.List.{with_items_is}
use Rattle.dest_classes.specs.Classes.{ClassList, IsClass}
use Rattle.round_survey.specs.Surveys.{AreGood}
use Rattle.counter_run.specs.Showing.{shown_rollout}
use Rattle.counter_run.proofs.searching.mark_good.Goals as goal

pub survey_round-requires-clause-before : goal.survey_round-requires-clause-before
survey_round-requires-clause-before c j less n class is = c.requires.before j less n class (subst (λ (map : ClassList). IsClass map n class) c.requires.duties is)

pub returns-then-by_survey-clause-good : goal.returns-then-by_survey-clause-good
returns-then-by_survey-clause-good c =
    subst (λ (map : ClassList). OnOk c.survey_round.result (AreGood (shown_rollout c.args.stage) c.args.duties.now.demands c.args.stage.round.number map c.survey_round.new.survey.good.items)) c.requires.duties
    c.survey_round.ensures.good

pub returns-clause-good : goal.returns-clause-good
returns-clause-good c n class is on =
    let good = c.args.survey.now.good in
    let marked = c.mark_unchanged.new.good in
    let good_is : (with_items good marked).items ≡ marked = with_items_is good marked (c.mark_unchanged.ensures.count ∙ c.deref_mut.ensures.len) in
    c.mark_unchanged.ensures.good n class is (ap (λ (bs : List Bool). slice_get bs n) (sym good_is) ∙ on)
