-- Which plan is written, as an answer says it.
use Rattle.std.proofs.Common.{◌≡◌, ℕ, List, sym, subst, inl, inr, arith}
use Rattle.net_base.specs.declared.ids.SwitchId.{SwitchId}
use Rattle.update_model.specs.declared.Change.{Change}
use Rattle.certificates.specs.Updates.{Update}
use Rattle.certificates.specs.declared.Plan.{Plan}
use Rattle.two_phase.specs.Laws.{FitsTwoPhase}
use Rattle.two_phase.specs.Plans.{AreTooFew, IsFirstTooSmall}
use Rattle.command_base.specs.Answers.{Answer}
use Rattle.plan_command.specs.Planned.{SaysPlanOf}
use Rattle.pack_command.specs.declared.names.PackKind.{PackKind}
use Rattle.pack_command.specs.declared.names.PackKind.TheVariants as pack_kind
use Rattle.pack_command.specs.Chosen.{AreTriedFor, IsOrderedPlan, IsPackPlan, phased_plan}

-- an answer by a plan that is one of some kind is an answer by one of that kind
pub planned_by : (Is : Update → Plan → Type 0) (u : Update) (q : Plan) (answer : Answer) → Is u q → SaysPlanOf (λ v p. p ≡ q) u answer → SaysPlanOf Is u answer
planned_by Is u q answer is said = record {
  plan = said.plan;
  which = subst (Is u) (sym said.which) is;
  says = said.says;
  certified = said.certified;
  consistent = said.consistent;
  classes = said.classes;
}

-- where rounds are tried before two phases that fit, the plan of two phases is written
pub only_phased : (k : PackKind) (u : Update) (tried : List (List Change)) (p : Plan) → AreTriedFor k u tried → FitsTwoPhase u.net u.old u.new → p ≡ phased_plan u tried → IsPackPlan k u p
only_phased pack_kind.Any u tried p are fits is = inr (inr (record { tried = tried; are_tried = are; fits = fits; plan_is = is }))
only_phased pack_kind.Ordered u tried p are fits is = absurd are
only_phased pack_kind.TwoPhase u tried p are fits is = record { tried = tried; are_tried = are; fits = fits; plan_is = is }

-- where there are too few tags, or a switch is too small, two phases don't fit
few_not_fit : (u : Update) (need has : ℕ) → AreTooFew u.net need has → ¬ FitsTwoPhase u.net u.old u.new
few_not_fit u need has few fits =
    let need_is = few.need_is in
    let has_is = few.has_is in
    let fewer = few.fewer in
    let tags = fits.tags in
    omega (arith, need_is, has_is, fewer, tags)

small_not_fit : (u : Update) (s : SwitchId) (need capacity : ℕ) → IsFirstTooSmall u.net u.old u.new s need capacity → ¬ FitsTwoPhase u.net u.old u.new
small_not_fit u s need capacity small fits =
    let need_is = small.need_is in
    let capacity_is = small.capacity_is in
    let over = small.over in
    let room = fits.room s small.within in
    omega (arith, need_is, capacity_is, over, room)

-- so the ordered plan is written
pub ordered_without_tags : (u : Update) (p : Plan) (need has : ℕ) → IsOrderedPlan u p → AreTooFew u.net need has → IsPackPlan pack_kind.Any u p
ordered_without_tags u p need has ordered few = inl (record { ordered = ordered; few = λ fits. absurd (few_not_fit u need has few fits) })

pub ordered_without_room : (u : Update) (p : Plan) (s : SwitchId) (need capacity : ℕ) → IsOrderedPlan u p → IsFirstTooSmall u.net u.old u.new s need capacity → IsPackPlan pack_kind.Any u p
ordered_without_room u p s need capacity ordered small = inl (record { ordered = ordered; few = λ fits. absurd (small_not_fit u s need capacity small fits) })
