use Rattle.std.proofs.Common.{◌≡◌, ◌↔◌, ◌<◌, ℕ, List, get_or, length, refl, sym, ◌∙◌, subst, ap, arith}
use Rattle.std.specs.Prelude.{Option, Some, IsSome, slice_get}
use Rattle.std.proofs.lemmas.Result.{on_ok_weaker}
use Rattle.net_base.specs.Members.{IsIn}
use Rattle.net_base.specs.declared.ids.Place.{Place}
use Rattle.net_base.proofs.ItemLaws.{in_from_get}
use Rattle.path_walk.specs.declared.Outcome.{Outcome}
use Rattle.update_model.specs.Mixtures.{IsPossible}
use Rattle.round_mix.specs.Prepared.{MixedState}
use Rattle.round_mix.specs.declared.MarkedRule.{MarkedRule}
use Rattle.check_reasons.specs.Loaded.{IsLoaded}
use Rattle.mixed_walks.proofs.WalkedLaws.{loaded_at, all_possible}
use Rattle.breaking_walks.specs.PlaceSteps.{StepState, NotesSteps}
use Rattle.breaking_walks.specs.declared.round.PreparedRound.{PreparedRound}
use Rattle.round_survey.specs.Rounds.{round_rollout, IsPreparedRound}
use Rattle.round_survey.proofs.stepping.add_steps.Goals as goal

-- the switch of a noted place is prepared for the round
module _ (round : PreparedRound) (is : IsPreparedRound round) (dst n : ℕ) (noted : StepState) (so_far : NotesSteps (round_rollout round) round.number dst n noted) (place : Place)
    (at : slice_get noted.places n ≡ Some place) where
  within : place.switch.0 < length round.mixes.now
  within = let near = so_far.near place (in_from_get noted.places n place at) in let count = is.is.loaded.count in omega arith

  loaded : (mixed : MixedState) → mixed ≡ get_or round.mixes.now place.switch.0 mixed → IsLoaded (round_rollout round) round.number place.switch (get_or round.mixes.now place.switch.0 mixed)
  loaded mixed same =
      subst (λ (m : MixedState). IsLoaded (round_rollout round) round.number place.switch m) same (loaded_at (round_rollout round) round.number round.mixes.now is.is.loaded place.switch mixed within same)

pub bounds-round-place : goal.bounds-round-place
bounds-round-place c = within c.args.round c.requires.round c.args.class.first c.args.number c.args.noted.now c.requires.so_far c.at-place.result c.at-place.ensures

pub possible-requires-clause-prepared : goal.possible-requires-clause-prepared
possible-requires-clause-prepared c =
    let here = loaded c.args.round c.requires.round c.args.class.first c.args.number c.args.noted.now c.requires.so_far c.at-place.result c.at-place.ensures c.index-round-place.result c.index-round-place.is in
    subst (λ (p : Option (List MarkedRule)). IsSome p) (sym here.is) refl

pub possible-requires-clause-room : goal.possible-requires-clause-room
possible-requires-clause-room c marks is =
    let here = loaded c.args.round c.requires.round c.args.class.first c.args.number c.args.noted.now c.requires.so_far c.at-place.result c.at-place.ensures c.index-round-place.result c.index-round-place.is in
    let e : Some marks ≡ Some here.marks = sym is ∙ here.is in
    let same : marks ≡ here.marks = cc in
    let longer = ap length same in
    let few = here.few in
    let spare = c.requires.room in
    omega arith

pub returns-clause-so_far : goal.returns-clause-so_far
returns-clause-so_far c =
    let dst = c.args.class.first in
    let u = round_rollout c.args.round in
    let k = c.args.round.number in
    let place = c.at-place.result in
    let mixed = get_or c.args.round.mixes.now place.switch.0 c.index-round-place.result in
    let here = loaded c.args.round c.requires.round dst c.args.number c.args.noted.now c.requires.so_far place c.at-place.ensures c.index-round-place.result c.index-round-place.is in
    let all : (o : Outcome) → IsIn o c.list.result.now ↔ IsPossible u k dst place o =
    all_possible u k dst place c.args.round.net.now (sym c.requires.round.is.net_is) mixed here c.possible.new.out.list c.possible.ensures.exact c.list.result.now c.list.ensures in
    on_ok_weaker c.add.result (λ notes. notes u k dst place c.keeps_rules.ensures c.at-place.ensures all c.requires.so_far) c.add.ensures.notes
