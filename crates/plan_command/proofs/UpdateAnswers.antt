-- A run of a command that plans an update, over a source that tells: there are too many classes, an end isn't good, or it says
-- something of an update with good ends.
use Rattle.std.proofs.Common.{◌≡◌, ◌≢◌, ◌⊎◌, ◌↔◌, ℕ, ◌*◌, ◌<◌, ◌≤◌, List, length, Some, Ok, sym, ap, ◌∙◌, subst, inl, inr, arith}
use Rattle.std.specs.declared.option.Option.{Option}
use Rattle.std.specs.declared.result.Result.{Result}
use Rattle.std.specs.Io.KnownBytes.{Appends}
use Rattle.file_access.specs.Outside.{Files}
use Rattle.net_base.specs.declared.ids.SwitchId.{SwitchId}
use Rattle.topology.specs.Networks.{Network, capacity_of}
use Rattle.flow_rules.specs.declared.rules.Rule.{Rule}
use Rattle.dest_classes.specs.Classes.{ClassList, class_count, boundaries}
use Rattle.update_model.specs.declared.Change.{Change}
use Rattle.certificates.specs.Certified.{classes_for}
use Rattle.certificates.specs.Trees.{IsTreeUpdate}
use Rattle.certificates.specs.Updates.{Update, task_for}
use Rattle.certificates.specs.declared.Plan.{Plan}
use Rattle.table_difference.specs.SameClasses.{HasSameClasses}
use Rattle.plan_format.specs.Plans.{plan_in}
use Rattle.plan_text.specs.PlanText.{plan_text}
use Rattle.table_difference.specs.Targets.{Target}
use Rattle.round_planner.specs.Search.{EndsOrdered, EndsStuck}
use Rattle.round_planner.specs.Updates.{update_classes, update_count, bare_task, KeepsConsistent}
use Rattle.tag_allocator.specs.Tags.{available_tags}
use Rattle.two_phase.specs.TwoPhasePlan.{two_phase_need}
use Rattle.two_phase.specs.Laws.{FitsTwoPhase}
use Rattle.two_phase.specs.Plans.{IsFirstTooSmall}
use Rattle.command_base.specs.declared.status.Status.{Status}
use Rattle.command_base.specs.declared.status.Status.TheVariants as status
use Rattle.command_base.specs.declared.kinds.FileKind.{FileKind}
use Rattle.command_base.specs.declared.kinds.FileKind.TheVariants as kind
use Rattle.command_base.specs.Kinds.{limit_of}
use Rattle.command_base.specs.Names.{UpdateNames}
use Rattle.command_base.specs.Answers.{Answer}
use Rattle.command_base.specs.Judgements.{most_classes}
use Rattle.command_base.specs.Meanings.{IsReadAs}
use Rattle.command_base.specs.Updates.{FilesMeanUpdate, WritesPlan}
use Rattle.command_base.specs.Readings.{reading_update}
use Rattle.command_base.specs.Runs.{Answered}
use Rattle.command_base.proofs.MeaningLaws.{update_meant}
use Rattle.command_base.proofs.AnswerLaws.{says_of_files, meant, wrote, status_of, text_of, texts_same}
use Rattle.command_base.proofs.JudgementLaws.{IsAnswerOn, SaysOfGood, JudgesFiles, judges_by, says_of, says_good}
use Rattle.check_base.specs.Checks.{FilesAreCertified}
use Rattle.upgrade_command.specs.Texts.{SaysPlan}
use Rattle.plan_command.specs.NoPlanLines.{too_few_lines, too_small_lines}
use Rattle.plan_command.specs.NewPlans.{FilesMeanGoodEnds, FilesMeanTrees, FilesHave, FilesLackTags, FilesLackRoom, HoldBeside, WritesPlanOf}
use Rattle.plan_command.specs.Ends.{BothEndsAreGood, IsEndLine}
use Rattle.plan_command.specs.Planned.{SaysPlanOf, SaysTooFew, SaysTooSmall, SaysNoPhases, SaysWhyNone, SaysOfGoodEnds, IsPlanAnswer}

-- both ends of an update of destination trees are good
tree_ends : (u : Update) → IsTreeUpdate (bare_task u) → BothEndsAreGood u
tree_ends u tree = record { old_good = tree.old_good; new_good = tree.new_good }

-- a search that is stuck doesn't end ordered
abbrev pub AreApart : Type 0
AreApart = (to : Target) (old : List (List Rule)) (changes others : List Change) → EndsOrdered to old changes → ¬ EndsStuck to old others

-- the changes of a search that is stuck are the only ones
abbrev pub IsOneStuck : Type 0
IsOneStuck = (to : Target) (old : List (List Rule)) (changes others : List Change) → EndsStuck to old changes → EndsStuck to old others → changes ≡ others

-- there is one list at most of rounds that were tried
abbrev pub IsOneTried : (Update → List (List Change) → Type 0) → Type 0
IsOneTried Tried = (u : Update) (tried others : List (List Change)) → Tried u tried → Tried u others → tried ≡ others

-- ---- why there is no plan

pub plan_status : (u : Update) (answer : Answer) (p : Plan) → SaysPlan u.net p answer → answer.status ≡ status.Done
plan_status u answer p says = status_of answer _ _ says.answer_is

module _ (u : Update) (tried : List (List Change)) (answer : Answer) where
  none_other : (s : Status) → s ≢ status.TooFewTags → s ≢ status.TooSmall → SaysNoPhases u tried answer → answer.status ≢ s
  none_other s few small (inl v) = λ is. few (sym is ∙ status_of answer _ _ v.answer_is)
  none_other s few small (inr v) = λ is. small (sym is ∙ status_of answer _ _ v.answer_is)

  few_by_status : SaysNoPhases u tried answer → answer.status ≡ status.TooFewTags → SaysTooFew u tried answer
  few_by_status (inl v) is = v
  few_by_status (inr v) is = absurd (let e = status_of answer _ _ v.answer_is in cc)

  small_by_status : SaysNoPhases u tried answer → answer.status ≡ status.TooSmall → SaysTooSmall u tried answer
  small_by_status (inl v) is = absurd (let e = status_of answer _ _ v.answer_is in cc)
  small_by_status (inr v) is = v

  -- where two phases fit, there is no such cause
  pub none_fits : FitsTwoPhase u.net u.old u.new → ¬ SaysNoPhases u tried answer
  none_fits fits (inl v) = let need = v.few.need_is in let has = v.few.has_is in let fewer = v.few.fewer in let tags = fits.tags in omega (arith, need, has, fewer, tags)
  none_fits fits (inr v) = let need = v.small.need_is in let capacity = v.small.capacity_is in let over = v.small.over in let room = fits.room v.switch v.small.within in omega (arith, need, capacity, over, room)

  few_of_none : length (available_tags u.net) < length u.net.vlans → SaysNoPhases u tried answer → SaysTooFew u tried answer
  few_of_none fewer (inl v) = v
  few_of_none fewer (inr v) = absurd (let tags = v.small.tags in omega (arith, tags, fewer))

  small_of_none : (s : SwitchId) (need capacity : ℕ) → IsFirstTooSmall u.net u.old u.new s need capacity → SaysNoPhases u tried answer → SaysTooSmall u tried answer
  small_of_none s need capacity small (inl v) = absurd (let n = v.few.need_is in let has = v.few.has_is in let fewer = v.few.fewer in let tags = small.tags in omega (arith, n, has, fewer, tags))
  small_of_none s need capacity small (inr v) = v

-- two phases that fit have enough tags, and room at each switch
fits_tags : (u : Update) → FitsTwoPhase u.net u.old u.new → ¬ (length (available_tags u.net) < length u.net.vlans)
fits_tags u fits = λ fewer. let tags = fits.tags in omega (arith, tags, fewer)

fits_room : (u : Update) (s : SwitchId) (need capacity : ℕ) → FitsTwoPhase u.net u.old u.new → ¬ IsFirstTooSmall u.net u.old u.new s need capacity
fits_room u s need capacity fits = λ small.
    let n = small.need_is in
    let c = small.capacity_is in
    let over = small.over in
    let room = fits.room s small.within in
    omega (arith, n, c, over, room)

-- the first switch that is too small is the only first one
below_not_over : (net : Network) (old new : List (List Rule)) (s t : SwitchId) (need capacity other room : ℕ) → IsFirstTooSmall net old new s need capacity → IsFirstTooSmall net old new t other room → ¬ (s.0 < t.0)
below_not_over net old new s t need capacity other room small second = λ less.
    let le = second.below s less in
    let over = small.over in
    let need_is = small.need_is in
    let capacity_is = small.capacity_is in
    omega (arith, le, over, need_is, capacity_is)

switch_same : (s t : SwitchId) → s.0 ≡ t.0 → s ≡ t
switch_same s t is = ap (λ n. record { 0 = n }) is

one_small : (net : Network) (old new : List (List Rule)) (s t : SwitchId) (need capacity other room : ℕ) → IsFirstTooSmall net old new s need capacity → IsFirstTooSmall net old new t other room → s ≡ t
one_small net old new s t need capacity other room small second =
    let not_less = below_not_over net old new s t need capacity other room small second in
    let not_more = below_not_over net old new t s other room need capacity second small in
    switch_same s t (omega (arith, not_less, not_more))

small_lines_same : (net : Network) (old new : List (List Rule)) (s t : SwitchId) (need capacity other room : ℕ) (tried : List (List Change)) → IsFirstTooSmall net old new s need capacity → IsFirstTooSmall net old new t other room
    → too_small_lines net s need capacity tried ≡ too_small_lines net t other room tried
small_lines_same net old new s t need capacity other room tried small second =
    let switch_is = one_small net old new s t need capacity other room small second in
    let need_is : need ≡ other = small.need_is ∙ ap (λ x. two_phase_need net old new x) switch_is ∙ sym second.need_is in
    let capacity_is : capacity ≡ room = small.capacity_is ∙ ap (λ x. capacity_of net x) switch_is ∙ sym second.capacity_is in
    ap (λ x. too_small_lines net x need capacity tried) switch_is
    ∙ ap (λ x. too_small_lines net t x capacity tried) need_is
    ∙ ap (λ x. too_small_lines net t other x tried) capacity_is

-- ---- files beside files

-- the same classes are as many
pub count_same : (a b : ClassList) → HasSameClasses a b → class_count a ≡ class_count b
count_same a b same =
    ap (λ hosts. length hosts * length a.vlans * length (boundaries a.prefixes)) same.hosts
    ∙ ap (λ vlans. length b.hosts * length vlans * length (boundaries a.prefixes)) same.vlans
    ∙ ap (λ atoms. length b.hosts * length b.vlans * length atoms) same.atoms

read_beside : {A E : Type 0} (files others : Files) (kind : FileKind) (meaning : List ℕ → Result A E) (name : List ℕ) (value : A) → others name ≡ files name → IsReadAs files kind meaning name value → IsReadAs others kind meaning name value
read_beside files others kind meaning name value same read = record { bytes = read.bytes; held = same ∙ read.held; within = read.within; means = read.means }

update_beside : (files others : Files) (names : UpdateNames) (plan text : List ℕ) (u : Update) → HoldBeside files others names plan text → FilesMeanUpdate files names u → FilesMeanUpdate others names u
update_beside files others names plan text u beside mean = record {
  topology_is = read_beside files others kind.Topology _ names.topology u.net beside.topology mean.topology_is;
  old_is = read_beside files others kind.Old _ names.old u.old beside.old mean.old_is;
  new_is = read_beside files others kind.New _ names.new u.new beside.new mean.new_is;
  policy_is = read_beside files others kind.Policy _ names.policy u.demands beside.policy mean.policy_is;
}

-- ---- the answer

-- such a plan, or why there is none
module _ (Is : Update → Plan → Type 0) (Tried : Update → List (List Change) → Type 0) (u : Update) (answer : Answer) where
  abbrev IsFound : Type 0
  IsFound = SaysPlanOf Is u answer ⊎ SaysWhyNone Tried u answer

  done_found : IsFound → answer.status ≡ status.Done → SaysPlanOf Is u answer
  done_found (inl v) is = v
  done_found (inr v) is = absurd (none_other u v.tried answer status.Done (λ e. cc) (λ e. cc) v.why is)

  none_found : (s : Status) → s ≢ status.Done → IsFound → answer.status ≡ s → SaysWhyNone Tried u answer
  none_found s other (inl v) is = absurd (other (sym is ∙ plan_status u answer v.plan v.says))
  none_found s other (inr v) is = v

  found_other : (s : Status) → s ≢ status.Done → s ≢ status.TooFewTags → s ≢ status.TooSmall → IsFound → answer.status ≢ s
  found_other s done few small (inl v) = λ is. done (sym is ∙ plan_status u answer v.plan v.says)
  found_other s done few small (inr v) = none_other u v.tried answer s few small v.why

module _ (Is : Update → Plan → Type 0) (Tried : Update → List (List Change) → Type 0) (OfTrees : Update → Answer → Type 0) where
  -- what is said of an update with good ends
  abbrev pub SaysOfEnds : Update → Answer → Type 0
  SaysOfEnds u answer = SaysOfGoodEnds Is (SaysWhyNone Tried) OfTrees u answer

  -- each part in its place
  pub answer_on : (u : Update) (answer : Answer) → IsPlanAnswer Is (SaysWhyNone Tried) OfTrees u answer → IsAnswerOn (update_count u) (BothEndsAreGood u) (SaysOfEnds u answer) (IsEndLine u) answer
  answer_on u answer (inl (inl many)) = inl many
  answer_on u answer (inl (inr why)) = inr (inr why)
  answer_on u answer (inr says) = inr (inl says)

  of_good_ends : (Good : Update → Type 0) → ((u : Update) (answer : Answer) → SaysOfEnds u answer → Good u) → (u : Update) (answer : Answer) → SaysOfEnds u answer → SaysOfGood (update_count u) (Good u) answer
  of_good_ends Good good u answer says = record {
    few = says.few;
    holds = good u answer says;
    not_refused = found_other Is Tried u answer status.Refused (λ e. cc) (λ e. cc) (λ e. cc) says.found;
    not_bad = found_other Is Tried u answer status.BadFile (λ e. cc) (λ e. cc) (λ e. cc) says.found;
  }

-- a settled run of a command that plans: it refuses by such a line what isn't good in this sense
pub record AnswersUpdate (Good : Update → Type 0) (Line : Update → List ℕ → Type 0) (Is : Update → Plan → Type 0) (Tried : Update → List (List Change) → Type 0) (OfTrees : Update → Answer → Type 0)
    (files : Files) (names : UpdateNames) (old new : Option (List ℕ)) (result : Status) : Type 0 where
  pub judged : JudgesFiles (FilesMeanUpdate files names) update_count Good (SaysOfEnds Is Tried OfTrees) Line old new result
  pub of_trees : (u : Update) → FilesMeanTrees files names u → OfTrees u judged.run.answer

-- on destination trees, of which both ends are good
trees_said : (Is : Update → Plan → Type 0) (SaysNone OfTrees : Update → Answer → Type 0) (u : Update) (answer : Answer) → update_count u ≤ most_classes → IsTreeUpdate (bare_task u)
    → IsPlanAnswer Is SaysNone OfTrees u answer → OfTrees u answer
trees_said Is SaysNone OfTrees u answer few tree (inl (inl v)) = absurd (let many = v.many in omega (arith, few, many))
trees_said Is SaysNone OfTrees u answer few tree (inl (inr v)) = absurd (v.fails (tree_ends u tree))
trees_said Is SaysNone OfTrees u answer few tree (inr says) = says.tree tree

module _ {Is : Update → Plan → Type 0} {Tried : Update → List (List Change) → Type 0} {OfTrees : Update → Answer → Type 0} {files : Files} {names : UpdateNames} {old new : Option (List ℕ)} {result : Status} where
  -- the run of such a command's dialogue is one
  pub answers_as : (SaysNone : Update → Answer → Type 0) (Good : Update → Type 0) (Line : Update → List ℕ → Type 0)
      → ((u : Update) (answer : Answer) → IsPlanAnswer Is SaysNone OfTrees u answer → IsAnswerOn (update_count u) (Good u) (SaysOfEnds Is Tried OfTrees u answer) (Line u) answer)
      → ((u : Update) (answer : Answer) → SaysOfEnds Is Tried OfTrees u answer → Good u)
      → Answered (IsPlanAnswer Is SaysNone OfTrees) files (reading_update names) old new result → AnswersUpdate Good Line Is Tried OfTrees files names old new result
  answers_as SaysNone Good Line on good a =
      let said = says_of_files (update_meant files names) a in
      record {
        judged = judges_by (update_meant files names) a on (of_good_ends Is Tried OfTrees Good good);
        of_trees = λ u trees. trees_said Is SaysNone OfTrees u said.answer trees.few trees.tree (said.said u trees.mean);
      }

  -- where it refuses nothing but ends that aren't good
  pub answers_by : Answered (IsPlanAnswer Is (SaysWhyNone Tried) OfTrees) files (reading_update names) old new result
      → AnswersUpdate BothEndsAreGood IsEndLine Is Tried OfTrees files names old new result
  answers_by a = answers_as (SaysWhyNone Tried) BothEndsAreGood IsEndLine (answer_on Is Tried OfTrees) (λ u answer says. says.good) a

-- destination trees have good ends
pub trees_good : {files : Files} {names : UpdateNames} (u : Update) → FilesMeanTrees files names u → FilesMeanGoodEnds files names u
trees_good u trees = record { mean = trees.mean; few = trees.few; good = tree_ends u trees.tree }

-- of a settled run over a source that tells
module _ {Good : Update → Type 0} {Line : Update → List ℕ → Type 0} {Is : Update → Plan → Type 0} {Tried : Update → List (List Change) → Type 0} {OfTrees : Update → Answer → Type 0}
    {files : Files} {names : UpdateNames} {old new : Option (List ℕ)} {result : Status} (r : AnswersUpdate Good Line Is Tried OfTrees files names old new result) where
  abbrev pub run_answer : Answer
  run_answer = r.judged.run.answer

  -- what is said of an update
  says : (u : Update) → FilesMeanUpdate files names u → result ≢ status.BadFile → result ≢ status.Refused → SaysOfEnds Is Tried OfTrees u run_answer
  says u mean other broken = says_of r.judged u mean other broken

  -- what is said where it isn't refused
  of_good : (u : Update) → FilesMeanGoodEnds files names u → Good u → SaysOfEnds Is Tried OfTrees u run_answer
  of_good u ends good = says_good r.judged u ends.mean ends.few good

  good_ends : (u : Update) → FilesMeanUpdate files names u → SaysOfEnds Is Tried OfTrees u run_answer → FilesMeanGoodEnds files names u
  good_ends u mean says = record { mean = mean; few = says.few; good = says.good }

  -- ---- the plan that was written

  pub wrote_plan : (u : Update) (p : Plan) → SaysPlan u.net p run_answer → Appends old new (plan_text u.net p)
  wrote_plan u p said = wrote r.judged.run (plan_text u.net p) (text_of run_answer _ _ said.answer_is)

  text_is : (before : List ℕ) → old ≡ Some before → (u : Update) (p : Plan) → SaysPlan u.net p run_answer → (text : List ℕ) → Appends old new text → text ≡ plan_text u.net p
  text_is before told u p said text there =
      texts_same before new text (plan_text u.net p) (subst (λ o. Appends o new text) told there)
      (subst (λ o. Appends o new (plan_text u.net p)) told (wrote_plan u p said))

  -- the plan that was written is the one that the answer has
  written_is : (before : List ℕ) → old ≡ Some before → (u : Update) (q : Plan) → SaysPlan u.net q run_answer → (p : Plan) → WritesPlan u.net p old new → q ≡ p
  written_is before told u q said p writes =
      let same = text_is before told u q said writes.text writes.written in
      let plans : Ok p ≡ Ok q = sym writes.means ∙ ap (λ t. plan_in u.net t) same ∙ said.means in
      cc

  plan_of : result ≡ status.Done → (u : Update) → FilesMeanUpdate files names u → SaysPlanOf Is u run_answer
  plan_of is u mean = done_found Is Tried u run_answer (says u mean (λ e. cc) (λ e. cc)).found (r.judged.run.status_is ∙ is)

  pub writes : result ≡ status.Done → (u : Update) → FilesMeanUpdate files names u → WritesPlanOf Is u old new
  writes is u mean =
      let v = plan_of is u mean in
      record { plan = v.plan; which = v.which; means = v.says.means; written = wrote_plan u v.plan v.says }

  pub which_of : (before : List ℕ) → old ≡ Some before → result ≡ status.Done → (u : Update) (p : Plan) → FilesMeanUpdate files names u → WritesPlan u.net p old new → Is u p
  which_of before told is u p mean writes =
      let v = plan_of is u mean in
      subst (Is u) (written_is before told u v.plan v.says p writes) v.which

  pub keeps : (before : List ℕ) → old ≡ Some before → result ≡ status.Done → (u : Update) (p : Plan) → FilesMeanUpdate files names u → WritesPlan u.net p old new → KeepsConsistent u p
  keeps before told is u p mean writes =
      let v = plan_of is u mean in
      subst (λ q. KeepsConsistent u q) (written_is before told u v.plan v.says p writes) (record { certified = v.certified; consistent = v.consistent })

  pub checked : (before : List ℕ) → old ≡ Some before → result ≡ status.Done → (others : Files) (plan text : List ℕ) → Appends old new text → length text ≤ limit_of kind.Plan → HoldBeside files others names plan text → FilesAreCertified others (record { update = names; plan = plan })
  checked before told is others plan text there within beside =
      let (u, mean) = meant r.judged.run status.Done (λ e. cc) is in
      let v = plan_of is u mean in
      let same = text_is before told u v.plan v.says text there in
      let count = count_same (classes_for (task_for u v.plan)) (update_classes u) v.classes in
      record {
        meaning = record { update = u; plan = v.plan };
        mean = record {
          update_is = update_beside files others names plan text u beside mean;
          plan_is = record { bytes = text; held = beside.plan_is; within = within; means = ap (λ t. plan_in u.net t) same ∙ v.says.means };
        };
        few = subst (λ n. n ≤ most_classes) (sym count) (says u mean (λ e. cc) (λ e. cc)).few;
        holds = v.certified;
      }

  -- ---- whether there is a plan

  module _ (Has : Update → Type 0) (has : (u : Update) (p : Plan) → Is u p → Has u) (good : (u : Update) → BothEndsAreGood u → Has u → Good u) (not_none : (u : Update) (answer : Answer) → Has u → ¬ SaysWhyNone Tried u answer) where
    pub done_at : (u : Update) → FilesMeanGoodEnds files names u → Has u → result ≡ status.Done
    done_at u ends there =
        let is : run_answer.status ≡ status.Done = elim (of_good u ends (good u ends.good there)).found [
          | inl v ↦ plan_status u run_answer v.plan v.says
          | inr v ↦ absurd (not_none u run_answer there v)
        ] in
        sym r.judged.run.status_is ∙ is

    pub done : (result ≡ status.Done) ↔ FilesHave Has files names
    done = (
      λ is.
          let (u, mean) = meant r.judged.run status.Done (λ e. cc) is in
          let v = plan_of is u mean in
          record { update = u; mean = good_ends u mean (says u mean (λ e. cc) (λ e. cc)); has = has u v.plan v.which },
      λ h. done_at h.update h.mean h.has,
    )

  -- ---- why none was written

  pub lack_tags : result ≡ status.TooFewTags → FilesLackTags Tried files names
  lack_tags is =
      let (u, mean) = meant r.judged.run status.TooFewTags (λ e. cc) is in
      let said = says u mean (λ e. cc) (λ e. cc) in
      let status_is = r.judged.run.status_is ∙ is in
      let none = none_found Is Tried u run_answer status.TooFewTags (λ e. cc) said.found status_is in
      let v = few_by_status u none.tried run_answer none.why status_is in
      record {
        update = u;
        mean = good_ends u mean said;
        tried = none.tried;
        are_tried = none.are_tried;
        fewer = let need = v.few.need_is in let has = v.few.has_is in let fewer = v.few.fewer in omega (arith, need, has, fewer);
      }

  pub lack_room : result ≡ status.TooSmall → FilesLackRoom Tried files names
  lack_room is =
      let (u, mean) = meant r.judged.run status.TooSmall (λ e. cc) is in
      let said = says u mean (λ e. cc) (λ e. cc) in
      let status_is = r.judged.run.status_is ∙ is in
      let none = none_found Is Tried u run_answer status.TooSmall (λ e. cc) said.found status_is in
      let v = small_by_status u none.tried run_answer none.why status_is in
      record {
        update = u;
        mean = good_ends u mean said;
        tried = none.tried;
        are_tried = none.are_tried;
        switch = v.switch;
        need = v.need;
        capacity = v.capacity;
        small = v.small;
      }

  -- where such a plan is one of two phases that fit
  module _ (h : FilesLackTags Tried files names) (good : Good h.update) (fits : (p : Plan) → Is h.update p → FitsTwoPhase h.update.net h.update.old h.update.new) where
    none_few : SaysWhyNone Tried h.update run_answer
    none_few = elim (of_good h.update h.mean good).found [
      | inl v ↦ absurd (fits_tags h.update (fits v.plan v.which) h.fewer)
      | inr v ↦ v
    ]

    says_few : SaysTooFew h.update none_few.tried run_answer
    says_few = few_of_none h.update none_few.tried run_answer h.fewer none_few.why

    pub too_few : result ≡ status.TooFewTags
    too_few = sym r.judged.run.status_is ∙ status_of run_answer _ _ says_few.answer_is

    pub too_few_written : IsOneTried Tried → Appends old new (too_few_lines h.update.net (length h.update.net.vlans) (length (available_tags h.update.net)) h.tried)
    too_few_written one =
        let v = says_few in
        let rounds = one h.update none_few.tried h.tried none_few.are_tried h.are_tried in
        wrote r.judged.run _ (text_of run_answer _ _ v.answer_is
        ∙ ap (λ n. too_few_lines h.update.net n v.has none_few.tried) v.few.need_is
        ∙ ap (λ n. too_few_lines h.update.net (length h.update.net.vlans) n none_few.tried) v.few.has_is
        ∙ ap (λ rs. too_few_lines h.update.net (length h.update.net.vlans) (length (available_tags h.update.net)) rs) rounds)

  module _ (h : FilesLackRoom Tried files names) (good : Good h.update) (fits : (p : Plan) → Is h.update p → FitsTwoPhase h.update.net h.update.old h.update.new) where
    none_small : SaysWhyNone Tried h.update run_answer
    none_small = elim (of_good h.update h.mean good).found [
      | inl v ↦ absurd (fits_room h.update h.switch h.need h.capacity (fits v.plan v.which) h.small)
      | inr v ↦ v
    ]

    says_small : SaysTooSmall h.update none_small.tried run_answer
    says_small = small_of_none h.update none_small.tried run_answer h.switch h.need h.capacity h.small none_small.why

    pub too_small : result ≡ status.TooSmall
    too_small = sym r.judged.run.status_is ∙ status_of run_answer _ _ says_small.answer_is

    pub too_small_written : IsOneTried Tried → Appends old new (too_small_lines h.update.net h.switch h.need h.capacity h.tried)
    too_small_written one =
        let v = says_small in
        let rounds = one h.update none_small.tried h.tried none_small.are_tried h.are_tried in
        wrote r.judged.run _ (text_of run_answer _ _ v.answer_is
        ∙ small_lines_same h.update.net h.update.old h.update.new v.switch h.switch v.need v.capacity h.need h.capacity none_small.tried v.small h.small
        ∙ ap (λ rs. too_small_lines h.update.net h.switch h.need h.capacity rs) rounds)
