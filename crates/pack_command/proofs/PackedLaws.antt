-- What a run of `pack` says of the files of a source that tells.
use Rattle.std.proofs.Common.{◌≡◌, ◌≢◌, ℕ, ◌+◌, ◌*◌, ◌≤◌, false, true, List, [], ◌∷◌, ◌++◌, length, refl, sym, ap, ◌∙◌, subst, inl, inr, arith}
use Rattle.std.specs.declared.option.Option.{Option}
use Rattle.std.specs.List.{AllByRecursion}
use Rattle.file_access.specs.Outside.{Files}
use Rattle.net_base.specs.Members.{IsIn}
use Rattle.flow_rules.specs.Tables.{IsTable}
use Rattle.flow_rules.specs.declared.rules.Rule.{Rule}
use Rattle.path_walk.specs.UserConfigs.{IsUserConfig}
use Rattle.config_files.proofs.UserTables.{configuration_shown}
use Rattle.update_model.specs.Changes.{tables_after}
use Rattle.update_model.specs.Remaining.{remaining_changes}
use Rattle.update_model.specs.declared.Change.{Change}
use Rattle.certificates.specs.Certified.{is_two_phase}
use Rattle.certificates.specs.Updates.{Update}
use Rattle.certificates.specs.declared.Plan.{Plan}
use Rattle.table_difference.specs.Targets.{Target}
use Rattle.law_packed_rounds.specs.Packing.{CanStand, IsPackedRound, ArePacked, PacksOrdered, PacksStuck}
use Rattle.law_packed_trees.specs.Bounds.{AreBounds}
use Rattle.round_planner.specs.Search.{single_rounds}
use Rattle.round_planner.proofs.StandingLaws.{length_rounds}
use Rattle.round_planner.proofs.UserTables.{user_start, remaining_count}
use Rattle.round_planner.specs.Updates.{update_count, update_target, bare_task}
use Rattle.topology.specs.Networks.{Network}
use Rattle.two_phase.specs.Depths.{depth_rounds, depth_count}
use Rattle.two_phase.specs.Laws.{FitsTwoPhase}
use Rattle.command_base.specs.declared.status.Status.{Status}
use Rattle.command_base.specs.declared.status.Status.TheVariants as status
use Rattle.command_base.specs.Names.{UpdateNames}
use Rattle.command_base.specs.Answers.{Answer}
use Rattle.command_base.specs.Readings.{reading_update}
use Rattle.command_base.specs.Runs.{IsComplete, Answered}
use Rattle.command_base.specs.Updates.{FilesMeanUpdate}
use Rattle.command_base.proofs.JudgementLaws.{IsAnswerOn, refusals}
use Rattle.command_base.proofs.RunLaws.{settled_done}
use Rattle.plan_command.specs.Ends.{BothEndsAreGood}
use Rattle.plan_command.specs.NewPlans.{FilesMeanGoodEnds}
use Rattle.plan_command.specs.Planned.{SaysWhyNone}
use Rattle.plan_command.proofs.PlannedLaws.{one_searched}
use Rattle.plan_command.proofs.UpdateAnswers as law
use Rattle.plan_command.proofs.UpdateAnswers.{AreApart, IsOneStuck, IsOneTried, AnswersUpdate, SaysOfEnds, answer_on, answers_as, none_fits, trees_good}
use Rattle.pack_command.specs.declared.names.PackKind.{PackKind}
use Rattle.pack_command.specs.declared.names.PackKind.TheVariants as pack_kind
use Rattle.pack_command.specs.Chosen.{IsPackedPlan, IsPackingOrdered, IsOrderedPlan, HasOrderedPlan, HasNoOrderedPlan, AreTriedFor, phased_plan, phased_count, IsPackPlan}
use Rattle.pack_command.specs.Names.{PackNames}
use Rattle.pack_command.specs.Packed.{SaysNoPlan, PacksInFewRounds, IsPacked, no_ordered_lines}
use Rattle.pack_command.specs.PackFiles.{EndsInOrder, HasPackPlan, IsPackable, IsPackRefusal, AreFull}
use Rattle.pack_command.specs.Promise.{PackPromise}
use Rattle.pack_command.proofs.StandLaws.{tables_of_user}

-- ---- what holds of packing

-- packing that ends stuck doesn't end ordered
abbrev pub PackingIsApart : Type 0
PackingIsApart = (to : Target) (old : List (List Rule)) (one other : List (List Change)) → PacksOrdered to old one → ¬ PacksStuck to old other

-- packing ends ordered with one list of rounds at most
abbrev pub PackingIsOne : Type 0
PackingIsOne = (to : Target) (old : List (List Rule)) (one other : List (List Change)) → PacksOrdered to old one → PacksOrdered to old other → one ≡ other

-- a packed round is full
abbrev pub PackedIsFull : Type 0
PackedIsFull = (to : Target) (tables : List (List Rule)) (round : List Change) → IsPackedRound to tables round → (c : Change) → IsIn c (remaining_changes tables to.new) → ¬ IsIn c round → ¬ CanStand to tables (round ++ c ∷ [])

-- where all changes can be one round, they are the packed one
abbrev pub OneIsEnough : Type 0
OneIsEnough = (to : Target) (old : List (List Rule)) → remaining_changes old to.new ≢ [] → AllByRecursion IsTable old → AllByRecursion IsTable to.new → CanStand to old (remaining_changes old to.new)
    → PacksOrdered to old (remaining_changes old to.new ∷ [])

-- where there is one packed round, all changes can be one
abbrev pub OneIsNeeded : Type 0
OneIsNeeded = (to : Target) (old : List (List Rule)) (round : List Change) → AllByRecursion IsTable old → AllByRecursion IsTable to.new → PacksOrdered to old (round ∷ [])
    → CanStand to old (remaining_changes old to.new)

-- there are no more packed rounds than changes
abbrev pub PackedAreFew : Type 0
PackedAreFew = (to : Target) (old : List (List Rule)) (rounds : List (List Change)) → AllByRecursion IsTable old → AllByRecursion IsTable to.new → PacksOrdered to old rounds
    → length rounds ≤ length (remaining_changes old to.new)

all_full : PackedIsFull → (to : Target) (tables : List (List Rule)) (rounds : List (List Change)) → ArePacked to tables rounds → AreFull to tables rounds
all_full full to tables [] packed = tt
all_full full to tables (round ∷ rounds) packed = (full to tables round packed.0, all_full full to (tables_after round tables) rounds packed.2)

-- the plan of two phases has two rounds for each depth, and four
abbrev pub PhasedIsCounted : Type 0
PhasedIsCounted = (net : Network) (old new : List (List Rule)) → length (depth_rounds net old new) ≡ 2 * depth_count net new + 4

-- ---- the chosen plan

-- the plan of two phases has as many rounds, whatever was tried
pub phased_same : PhasedIsCounted → (u : Update) (p : Plan) (tried : List (List Change)) → p ≡ phased_plan u tried → length p.rounds ≡ phased_count u
phased_same counted u p tried is = ap (λ (q : Plan). length q.rounds) is ∙ counted u.net u.old u.new

phased_kind : (u : Update) (p : Plan) (tried : List (List Change)) → p ≡ phased_plan u tried → is_two_phase p.evidence ≡ true
phased_kind u p tried is = ap (λ (q : Plan). is_two_phase q.evidence) is

not_phased : (u : Update) (p : Plan) (tried : List (List Change)) → p ≡ phased_plan u tried → is_two_phase p.evidence ≢ false
not_phased u p tried is = λ ordered. let two = phased_kind u p tried is in cc

-- an ordered plan is packed, or that of a search
ordered_ends : (u : Update) (p : Plan) → IsOrderedPlan u p → EndsInOrder u
ordered_ends u p (inl packed) = inl (record { rounds = p.rounds; ends = packed.packed })
ordered_ends u p (inr (stuck, search)) = inr (record { changes = search.changes; ends = search.searched.ends })

ordered_kind : (u : Update) (p : Plan) → IsOrderedPlan u p → is_two_phase p.evidence ≡ false
ordered_kind u p (inl packed) = ap is_two_phase packed.evidence_is
ordered_kind u p (inr (stuck, search)) = ap (λ (q : Plan). is_two_phase q.evidence) search.plan_is

has_pack : (k : PackKind) (u : Update) (p : Plan) → IsPackPlan k u p → HasPackPlan k u
has_pack pack_kind.Any u p (inl short) = inl (ordered_ends u p short.ordered)
has_pack pack_kind.Any u p (inr (inl phased)) = inr phased.fits
has_pack pack_kind.Any u p (inr (inr only)) = inr only.fits
has_pack pack_kind.Ordered u p ordered = ordered_ends u p ordered
has_pack pack_kind.TwoPhase u p only = only.fits

pub few_rounds_of : PhasedIsCounted → (u : Update) (p : Plan) → FitsTwoPhase u.net u.old u.new → IsPackPlan pack_kind.Any u p → length p.rounds ≤ 2 * phased_count u
few_rounds_of counted u p fits (inl short) = short.few fits
few_rounds_of counted u p fits (inr (inl phased)) = let same = phased_same counted u p [] phased.plan_is in omega (arith, same)
few_rounds_of counted u p fits (inr (inr only)) = let same = phased_same counted u p only.tried only.plan_is in omega (arith, same)

module _ (apart : AreApart) (packing_apart : PackingIsApart) (u : Update) where
  -- where packing or the search ends ordered, they don't both end stuck
  order_apart : EndsInOrder u → (tried : List (List Change)) → ¬ HasNoOrderedPlan u tried
  order_apart (inl packing) tried none = packing_apart (update_target u) u.old packing.rounds none.packing.rounds packing.ends none.packing.ends
  order_apart (inr ordered) tried none = apart (update_target u) u.old ordered.changes none.search.changes ordered.ends none.search.ends

  plan_apart : HasOrderedPlan u → (tried : List (List Change)) → ¬ HasNoOrderedPlan u tried
  plan_apart (inl packing) tried none = order_apart (inl packing) tried none
  plan_apart (inr (stuck, ordered)) tried none = order_apart (inr ordered) tried none

  -- where packing ends ordered an ordered plan is the packed one
  packed_of : IsPackingOrdered u → (p : Plan) → IsOrderedPlan u p → IsPackedPlan u p
  packed_of packing p (inl packed) = packed
  packed_of packing p (inr (stuck, search)) = absurd (packing_apart (update_target u) u.old packing.rounds stuck.rounds packing.ends stuck.ends)

  ordered_full : PackedIsFull → (p : Plan) → IsPackingOrdered u → IsOrderedPlan u p → PacksOrdered (update_target u) u.old p.rounds × AreFull (update_target u) u.old p.rounds
  ordered_full full p packing ordered =
      let packed = (packed_of packing p ordered).packed in
      (packed, all_full full (update_target u) u.old p.rounds packed.packed)

  pub full_of : PackedIsFull → (k : PackKind) (p : Plan) → IsPackingOrdered u → is_two_phase p.evidence ≡ false → IsPackPlan k u p
      → PacksOrdered (update_target u) u.old p.rounds × AreFull (update_target u) u.old p.rounds
  full_of full pack_kind.Any p packing is (inl short) = ordered_full full p packing short.ordered
  full_of full pack_kind.Any p packing is (inr (inl phased)) = absurd (not_phased u p [] phased.plan_is is)
  full_of full pack_kind.Any p packing is (inr (inr only)) = absurd (not_phased u p only.tried only.plan_is is)
  full_of full pack_kind.Ordered p packing is ordered = ordered_full full p packing ordered
  full_of full pack_kind.TwoPhase p packing is only = absurd (not_phased u p only.tried only.plan_is is)

  -- where packing ends ordered, the plan has no more rounds than the packed one
  module _ (one : PackingIsOne) (rounds : List (List Change)) (ends : PacksOrdered (update_target u) u.old rounds) where
    packing : IsPackingOrdered u
    packing = record { rounds = rounds; ends = ends }

    ordered_as_packed : (p : Plan) → IsOrderedPlan u p → length p.rounds ≡ length rounds
    ordered_as_packed p ordered = ap length (one (update_target u) u.old p.rounds rounds (packed_of packing p ordered).packed ends)

    pub within_packed : PhasedIsCounted → (k : PackKind) → k ≢ pack_kind.TwoPhase → (p : Plan) → IsPackPlan k u p → length p.rounds ≤ length rounds
    within_packed counted pack_kind.Any other p (inl short) = let same = ordered_as_packed p short.ordered in omega (arith, same)
    within_packed counted pack_kind.Any other p (inr (inl phased)) =
        let longer = ordered_as_packed phased.longer phased.ordered in
        let same = phased_same counted u p [] phased.plan_is in
        let many = phased.many in
        omega (arith, longer, same, many)
    within_packed counted pack_kind.Any other p (inr (inr only)) = absurd (order_apart (inl packing) only.tried only.are_tried)
    within_packed counted pack_kind.Ordered other p ordered = let same = ordered_as_packed p ordered in omega (arith, same)
    within_packed counted pack_kind.TwoPhase other p only = absurd (other refl)

  pub tree_rounds_of : PhasedIsCounted → PackingIsOne → PacksInFewRounds u → (k : PackKind) → k ≢ pack_kind.TwoPhase → (p : Plan) → IsPackPlan k u p
      → (most dropped unmet : ℕ) → AreBounds (bare_task u) u.old most dropped unmet → length p.rounds ≤ most + dropped + unmet
  tree_rounds_of counted one packs k other p is most dropped unmet bounds =
      let within = within_packed one packs.rounds packs.ends counted k other p is in
      let few = packs.few most dropped unmet bounds in
      omega (arith, within, few)

  module _ (old_user : IsUserConfig u.net u.old) (new_user : IsUserConfig u.net u.new) where
    ordered_few : PackedAreFew → (p : Plan) → IsOrderedPlan u p → length p.rounds ≤ length (remaining_changes u.old u.new)
    ordered_few few p (inl packed) = few (update_target u) u.old p.rounds (tables_of_user u u.old old_user) (tables_of_user u u.new new_user) packed.packed
    ordered_few few p (inr (stuck, search)) =
        let count = remaining_count (update_target u) u.old new_user u.old (user_start (update_target u) u.old new_user old_user) search.changes search.searched.ends.found in
        let rounds : length p.rounds ≡ length (single_rounds search.changes) = ap (λ (q : Plan). length q.rounds) search.plan_is in
        let singles = length_rounds search.changes in
        omega arith

    pub never_more_of : PhasedIsCounted → PackedAreFew → (k : PackKind) → k ≢ pack_kind.TwoPhase → (p : Plan) → EndsInOrder u → IsPackPlan k u p → length p.rounds ≤ length (remaining_changes u.old u.new)
    never_more_of counted few pack_kind.Any other p ends (inl short) = ordered_few few p short.ordered
    never_more_of counted few pack_kind.Any other p ends (inr (inl phased)) =
        let most = ordered_few few phased.longer phased.ordered in
        let same = phased_same counted u p [] phased.plan_is in
        let many = phased.many in
        omega (arith, most, same, many)
    never_more_of counted few pack_kind.Any other p ends (inr (inr only)) = absurd (order_apart ends only.tried only.are_tried)
    never_more_of counted few pack_kind.Ordered other p ends ordered = ordered_few few p ordered
    never_more_of counted few pack_kind.TwoPhase other p ends only = absurd (other refl)

    -- packing ends ordered with one round at most
    record PacksOnce : Type 0 where
      rounds : List (List Change)
      ends : PacksOrdered (update_target u) u.old rounds
      few : length rounds ≤ 1

    packs_once : OneIsEnough → CanStand (update_target u) u.old (remaining_changes u.old u.new) → (cs : List Change) → remaining_changes u.old u.new ≡ cs → PacksOnce
    packs_once enough can [] none = record { rounds = []; ends = record { packed = tt; none_remains = none }; few = omega arith }
    packs_once enough can (c ∷ cs) is = record {
      rounds = remaining_changes u.old u.new ∷ [];
      ends = enough (update_target u) u.old (λ none. let e : c ∷ cs ≡ [] = sym is ∙ none in cc) (tables_of_user u u.old old_user) (tables_of_user u u.new new_user) can;
      few = omega arith;
    }

    pub one_round_of_all : PhasedIsCounted → PackingIsOne → OneIsEnough → CanStand (update_target u) u.old (remaining_changes u.old u.new) → (k : PackKind) → k ≢ pack_kind.TwoPhase → (p : Plan) → IsPackPlan k u p
        → length p.rounds ≤ 1
    one_round_of_all counted one enough can k other p is =
        let once = packs_once enough can (remaining_changes u.old u.new) refl in
        let within = within_packed one once.rounds once.ends counted k other p is in
        let few = once.few in
        omega (arith, within, few)

    -- all changes can be the one packed round
    single_needed : OneIsNeeded → (rounds : List (List Change)) → PacksOrdered (update_target u) u.old rounds → length rounds ≡ 1 → CanStand (update_target u) u.old (remaining_changes u.old u.new)
    single_needed needed [] ends is = cc
    single_needed needed (round ∷ []) ends is = needed (update_target u) u.old round (tables_of_user u u.old old_user) (tables_of_user u u.new new_user) ends
    single_needed needed (round ∷ other ∷ rounds) ends is = let none : ⊥ = omega (arith, is) in absurd none

    pub one_round_needed : PackedIsFull → OneIsNeeded → (k : PackKind) (p : Plan) → IsPackingOrdered u → is_two_phase p.evidence ≡ false → IsPackPlan k u p → length p.rounds ≡ 1
        → CanStand (update_target u) u.old (remaining_changes u.old u.new)
    one_round_needed full needed k p packing ordered is one = single_needed needed p.rounds (full_of full k p packing ordered is).0 one

-- ---- the answer

-- where such rounds are tried before two phases, the update isn't refused
tried_packable : (k : PackKind) (u : Update) (tried : List (List Change)) → AreTriedFor k u tried → BothEndsAreGood u → IsPackable k u
tried_packable pack_kind.Any u tried are good = good
tried_packable pack_kind.Ordered u tried are good = absurd are
tried_packable pack_kind.TwoPhase u tried are good = good

has_packable : (k : PackKind) (u : Update) → BothEndsAreGood u → HasPackPlan k u → IsPackable k u
has_packable pack_kind.Any u good has = good
has_packable pack_kind.Ordered u good has = (good, has)
has_packable pack_kind.TwoPhase u good has = good

-- where packing ends ordered there is a plan, unless two phases alone may be written
packing_has : (k : PackKind) → k ≢ pack_kind.TwoPhase → (u : Update) → IsPackingOrdered u → HasPackPlan k u
packing_has pack_kind.Any other u ends = inl (inl ends)
packing_has pack_kind.Ordered other u ends = inl ends
packing_has pack_kind.TwoPhase other u ends = absurd (other refl)

module _ (apart : AreApart) (packing_apart : PackingIsApart) where
  -- where there is a plan, no cause says that there is none
  not_none : (k : PackKind) (u : Update) (answer : Answer) → HasPackPlan k u → ¬ SaysWhyNone (AreTriedFor k) u answer
  not_none pack_kind.Any u answer (inl ends) v = order_apart apart packing_apart u ends v.tried v.are_tried
  not_none pack_kind.Any u answer (inr fits) v = none_fits u v.tried answer fits v.why
  not_none pack_kind.Ordered u answer has v = v.are_tried
  not_none pack_kind.TwoPhase u answer fits v = none_fits u v.tried answer fits v.why

  -- where rounds are tried before two phases the chosen plan is that of two phases, which fits
  tried_fits : (k : PackKind) (u : Update) (tried : List (List Change)) → AreTriedFor k u tried → (p : Plan) → IsPackPlan k u p → FitsTwoPhase u.net u.old u.new
  tried_fits pack_kind.Any u tried none p (inl short) = absurd (order_apart apart packing_apart u (ordered_ends u p short.ordered) tried none)
  tried_fits pack_kind.Any u tried none p (inr (inl phased)) = phased.fits
  tried_fits pack_kind.Any u tried none p (inr (inr only)) = only.fits
  tried_fits pack_kind.Ordered u tried are p ordered = absurd are
  tried_fits pack_kind.TwoPhase u tried are p only = only.fits

  -- they are the only ones
  one_tried : IsOneStuck → (k : PackKind) → IsOneTried (AreTriedFor k)
  one_tried one pack_kind.Any u tried others none other = one_searched one u tried others none.search other.search
  one_tried one pack_kind.Ordered u tried others are other = absurd are
  one_tried one pack_kind.TwoPhase u tried others (inl (has, is)) (inl (too, also)) = is ∙ sym also
  one_tried one pack_kind.TwoPhase u tried others (inl (has, is)) (inr none) = absurd (plan_apart apart packing_apart u has others none)
  one_tried one pack_kind.TwoPhase u tried others (inr none) (inl (has, is)) = absurd (plan_apart apart packing_apart u has tried none)
  one_tried one pack_kind.TwoPhase u tried others (inr none) (inr other) = one_searched one u tried others none.search other.search

  -- what is said of an update with good ends
  abbrev OfEnds : PackKind → Update → Answer → Type 0
  OfEnds k u answer = SaysOfEnds (IsPackPlan k) (AreTriedFor k) (λ v said. PacksInFewRounds v) u answer

  -- each part of an answer with `ordered` in its place
  ordered_on : (u : Update) (answer : Answer) → IsPacked pack_kind.Ordered u answer
      → IsAnswerOn (update_count u) (IsPackable pack_kind.Ordered u) (OfEnds pack_kind.Ordered u answer) (IsPackRefusal pack_kind.Ordered u) answer
  ordered_on u answer (inl (inl many)) = inl many
  ordered_on u answer (inl (inr v)) = inr (inr (record { few = v.few; fails = λ ok. v.fails ok.0; line = v.line; is_why = inl v.is_why; answer_is = v.answer_is }))
  ordered_on u answer (inr says) = elim says.found [
    | inl v ↦ inr (inl (record { few = says.few; good = says.good; found = inl v; tree = says.tree }))
    | inr v ↦ inr (inr (record {
      few = says.few;
      fails = λ ok. order_apart apart packing_apart u ok.1 v.tried v.none;
      line = no_ordered_lines u.net v.tried;
      is_why = inr (record { good = says.good; tried = v.tried; none = v.none; text_is = refl });
      answer_is = v.answer_is;
    }))
  ]

  pack_on : (k : PackKind) (u : Update) (answer : Answer) → IsPacked k u answer → IsAnswerOn (update_count u) (IsPackable k u) (OfEnds k u answer) (IsPackRefusal k u) answer
  pack_on pack_kind.Any u answer said = answer_on (IsPackPlan pack_kind.Any) (AreTriedFor pack_kind.Any) (λ v said. PacksInFewRounds v) u answer said
  pack_on pack_kind.Ordered u answer said = ordered_on u answer said
  pack_on pack_kind.TwoPhase u answer said = answer_on (IsPackPlan pack_kind.TwoPhase) (AreTriedFor pack_kind.TwoPhase) (λ v said. PacksInFewRounds v) u answer said

  said_packable : (k : PackKind) (u : Update) (answer : Answer) → OfEnds k u answer → IsPackable k u
  said_packable pack_kind.Any u answer says = says.good
  said_packable pack_kind.Ordered u answer says = (says.good, elim says.found [ inl v ↦ ordered_ends u v.plan v.which | inr v ↦ absurd v.are_tried ])
  said_packable pack_kind.TwoPhase u answer says = says.good

-- ---- a run

-- a settled run of `pack` over a source that tells
abbrev AnswersPack : Files → PackNames → Option (List ℕ) → Option (List ℕ) → Status → Type 0
AnswersPack files names old new result =
    AnswersUpdate (IsPackable names.kind) (IsPackRefusal names.kind) (IsPackPlan names.kind) (AreTriedFor names.kind) (λ v said. PacksInFewRounds v) files names.files old new result

-- the configurations of an update that files mean are those of a user
old_user_of : (files : Files) (names : UpdateNames) (u : Update) → FilesMeanUpdate files names u → IsUserConfig u.net u.old
old_user_of files names u mean = configuration_shown u.net mean.old_is.bytes u.old mean.old_is.means

new_user_of : (files : Files) (names : UpdateNames) (u : Update) → FilesMeanUpdate files names u → IsUserConfig u.net u.new
new_user_of files names u mean = configuration_shown u.net mean.new_is.bytes u.new mean.new_is.means

pub promised : (files : Files) (names : PackNames) (old new : Option (List ℕ)) (result : Status) → AreApart → IsOneStuck → PackingIsApart → PackingIsOne → PackedIsFull → OneIsEnough → OneIsNeeded → PackedAreFew → PhasedIsCounted
    → (IsComplete result → Answered (IsPacked names.kind) files (reading_update names.files) old new result) → PackPromise files names old new result
promised files names old new result apart one packing_apart packing_one full enough needed few counted answered =
    let k : PackKind = names.kind in
    let runs : IsComplete result → AnswersPack files names old new result =
    λ settled. answers_as (SaysNoPlan k) (IsPackable k) (IsPackRefusal k) (pack_on apart packing_apart k) (said_packable apart packing_apart k) (answered settled) in
    let none : (u : Update) (answer : Answer) → HasPackPlan k u → ¬ SaysWhyNone (AreTriedFor k) u answer = not_none apart packing_apart k in
    let done_at : IsComplete result → (u : Update) → FilesMeanGoodEnds files names.files u → HasPackPlan k u → result ≡ status.Done =
    λ settled. law.done_at (runs settled) (HasPackPlan k) (has_pack k) (has_packable k) none in
    record {
      done = λ settled. law.done (runs settled) (HasPackPlan k) (has_pack k) (has_packable k) none;
      wherever = λ any settled h. done_at settled h.update h.mean
          (subst (λ x. HasPackPlan x h.update) (sym any) (elim h.has [ inl ordered ↦ inl (inr ordered) | inr (stuck, fits) ↦ inr fits ]));
      writes = λ u mean is. law.writes (runs (settled_done _ is)) is u mean;
      keeps = λ before u p told is mean text. law.keeps (runs (settled_done _ is)) before told is u p mean text;
      checked = λ others before plan text told is there within beside. law.checked (runs (settled_done _ is)) before told is others plan text there within beside;
      never_more = λ other before u p told is mean text ends.
          never_more_of apart packing_apart u (old_user_of files names.files u mean) (new_user_of files names.files u mean) counted few k other p ends (law.which_of (runs (settled_done _ is)) before told is u p mean text);
      few_rounds = λ any before u p told is mean text fits.
          few_rounds_of counted u p fits (subst (λ x. IsPackPlan x u p) any (law.which_of (runs (settled_done _ is)) before told is u p mean text));
      phased_rounds = λ two before u p told is mean text.
          let only = subst (λ x. IsPackPlan x u p) two (law.which_of (runs (settled_done _ is)) before told is u p mean text) in
          phased_same counted u p only.tried only.plan_is;
      kind_ordered = λ ordered before u p told is mean text.
          ordered_kind u p (subst (λ x. IsPackPlan x u p) ordered (law.which_of (runs (settled_done _ is)) before told is u p mean text));
      kind_two_phase = λ two before u p told is mean text.
          let only = subst (λ x. IsPackPlan x u p) two (law.which_of (runs (settled_done _ is)) before told is u p mean text) in
          phased_kind u p only.tried only.plan_is;
      full = λ before u p told is mean text packing ordered.
          full_of apart packing_apart u full k p packing ordered (law.which_of (runs (settled_done _ is)) before told is u p mean text);
      one_round = λ other before u p told is mean text can.
          one_round_of_all apart packing_apart u (old_user_of files names.files u mean) (new_user_of files names.files u mean) counted packing_one enough can k other p
          (law.which_of (runs (settled_done _ is)) before told is u p mean text);
      one_round_only = λ before u p told is mean text packing ordered.
          one_round_needed apart packing_apart u (old_user_of files names.files u mean) (new_user_of files names.files u mean) full needed k p packing ordered
          (law.which_of (runs (settled_done _ is)) before told is u p mean text);
      tree = λ settled u trees.
          let packs = (runs settled).of_trees u trees in
          let packing : IsPackingOrdered u = record { rounds = packs.rounds; ends = packs.ends } in
          (λ other. done_at settled u (trees_good u trees) (packing_has k other u packing), packing);
      tree_rounds = λ other before u p told is trees text most dropped unmet bounds.
          let run = runs (settled_done _ is) in
          tree_rounds_of apart packing_apart u counted packing_one (run.of_trees u trees) k other p (law.which_of run before told is u p trees.mean text) most dropped unmet bounds;
      refusals = refusals (λ settled. (runs settled).judged);
      too_few = λ settled. (
        λ is. law.lack_tags (runs settled) is,
        λ h. law.too_few (runs settled) h (tried_packable k h.update h.tried h.are_tried h.mean.good) (tried_fits apart packing_apart k h.update h.tried h.are_tried),
      );
      too_few_lines = λ settled h.
          law.too_few_written (runs settled) h (tried_packable k h.update h.tried h.are_tried h.mean.good) (tried_fits apart packing_apart k h.update h.tried h.are_tried) (one_tried apart packing_apart one k);
      too_small = λ settled. (
        λ is. law.lack_room (runs settled) is,
        λ h. law.too_small (runs settled) h (tried_packable k h.update h.tried h.are_tried h.mean.good) (tried_fits apart packing_apart k h.update h.tried h.are_tried),
      );
      too_small_lines = λ settled h.
          law.too_small_written (runs settled) h (tried_packable k h.update h.tried h.are_tried h.mean.good) (tried_fits apart packing_apart k h.update h.tried h.are_tried) (one_tried apart packing_apart one k);
    }
