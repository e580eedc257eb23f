use Rattle.std.proofs.Common.{sym, subst}
use Rattle.round_survey.specs.Rounds.{round_rollout}
use Rattle.round_survey.specs.Surveys.{IsSeen}
use Rattle.round_survey.specs.declared.seen.SurveyedWalks.{SurveyedWalks}
use Rattle.round_survey.proofs.SeenLaws.{seen_once}
use Rattle.round_survey.proofs.members.see_members.Goals as goal
use Rattle.round_survey.proofs.members.see_members.Goals.{then-not-seen+in_ok-seen-2, else-not-seen}

pub returns : goal.returns
returns c m i =
    let u = round_rollout c.args.round in
    let k = c.args.round.number in
    let seen = c.in_ok-seen.seen in
    let was : IsSeen u k m.class seen = c.in_ok-seen.ensures u k m.class (c.requires.covers m i) in
    elim c.if-not-seen.branch [
      | then-not-seen+in_ok-seen-2 w ↦
          subst (λ (s : SurveyedWalks). IsSeen u k m.class s) (sym w.seen-is) (seen_once u k m.class seen was _ (λ on. w.in_ok-seen-2.ensures on m i))
      | else-not-seen w ↦ subst (λ (s : SurveyedWalks). IsSeen u k m.class s) (sym w.seen-is) was
    ]
