use Rattle.std.proofs.Common.{◌<◌, ℕ, get_or, sym, subst}
use Rattle.std.proofs.lemmas.Result.{IfOk-weaker}
use Rattle.net_base.specs.Places.{stop_of}
use Rattle.topology.specs.Networks.{switch_count}
use Rattle.mixed_walks.proofs.PlaceLaws.{port_within}
use Rattle.net_base.proofs.ItemLaws.{in_at}
use Rattle.net_base.specs.declared.ids.Place.{Place}
use Rattle.breaking_walks.specs.Surveys.{NeverRepeats}
use Rattle.breaking_walks.proofs.StepLaws.{notes_none}
use Rattle.round_survey.specs.Rounds.{round_rollout}
use Rattle.round_survey.proofs.stepping.come_once.Goals as goal

pub returns : goal.returns
returns c =
    let u = round_rollout c.args.round in
    let k = c.args.round.number in
    IfOk-weaker c.are_passed_once.result _ _ (λ once told on m i.
    subst (λ (dst : ℕ). NeverRepeats u k dst m.class.entry) (c.requires.alike m i).address
    (told on u k c.args.class.first c.in_ok-walk_on.ensures.whole m.class.entry (c.in_ok-walk_on.ensures.kept m.class.entry (c.in_ok-put_entries.ensures.begins m i))))
    c.are_passed_once.ensures

pub walk_on-requires-clause-so_far : goal.walk_on-requires-clause-so_far
walk_on-requires-clause-so_far c =
    notes_none (round_rollout c.args.round) c.args.round.number c.args.class.first c.put_entries.new.noted
    (λ p i.
    let (m, among, e) = c.in_ok-put_entries.ensures.each p i in
    subst (λ (x : Place). x.switch.0 < switch_count c.args.round.net.now) (sym e)
    (port_within c.args.round.net.now c.keeps_rules.ensures (stop_of m.class.entry) (c.requires.entries m among)))
    c.in_ok-put_entries.ensures.steps

pub are_passed_once-requires : goal.are_passed_once-requires
are_passed_once-requires c = λ n d less.
    let step = get_or c.walk_on.new.noted.steps n d in
    subst (λ (count : ℕ). step.from.switch.0 < count) (sym c.switches.ensures.value) (c.in_ok-walk_on.ensures.whole.within step (in_at c.walk_on.new.noted.steps n d less))
