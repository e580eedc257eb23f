use Rattle.std.proofs.Common.{ℕ, List, sym, ◌∙◌, subst}
use Rattle.net_base.specs.Members.{IsIn}
use Rattle.dest_classes.specs.declared.NumberedClass.{NumberedClass}
use Rattle.mixed_walks.specs.Walks.{Covers}
use Rattle.class_watch.proofs.MarkLaws.{host_used}
use Rattle.round_survey.specs.Rounds.{round_rollout}
use Rattle.round_survey.proofs.KeepLaws.{keep_in}
use Rattle.round_survey.proofs.judge.SurveyJudgeClassJudge.together.Goals as goal

pub have_chains-wants_gates-requires : goal.have_chains-wants_gates-requires
have_chains-wants_gates-requires c m i = (c.requires.members m (subst (λ (xs : List NumberedClass). IsIn m xs) c.deref.ensures.value i)).is

pub see_members-requires-clause-entries : goal.see_members-requires-clause-entries
see_members-requires-clause-entries c m i =
    let judge = c.args.self.now in
    host_used judge.duties.now.classes judge.round.net.now c.requires.ready.hosts m.number m.class (c.requires.members m (subst (λ (xs : List NumberedClass). IsIn m xs) c.deref-2.ensures.value i)).is

pub see_members-requires-clause-alike : goal.see_members-requires-clause-alike
see_members-requires-clause-alike c one other i j =
    let of = c.requires.members one (subst (λ (xs : List NumberedClass). IsIn one xs) c.deref-2.ensures.value i) in
    let by = c.requires.members other (subst (λ (xs : List NumberedClass). IsIn other xs) c.deref-2.ensures.value j) in
    record { address = of.address ∙ sym by.address; vlan = of.vlan ∙ sym by.vlan }

pub see_members-requires-clause-covers : goal.see_members-requires-clause-covers
see_members-requires-clause-covers c m i =
    let round = c.args.self.now.round in
    let among = subst (λ (xs : List NumberedClass). IsIn m xs) c.deref-2.ensures.value i in
    subst (λ (a : ℕ). Covers (round_rollout round) round.number a m.class.entry c.args.walk.now) (sym (c.requires.members m among).address) (c.requires.walked.covers m.class.entry (c.requires.entries m among))

pub see_members-requires-clause-within : goal.see_members-requires-clause-within
see_members-requires-clause-within c = c.requires.walked.steps_within

pub keep_good-requires : goal.keep_good-requires
keep_good-requires c m i = (c.requires.members m i).is

pub returns-in-Ok-clause-held : goal.returns-in-Ok-clause-held
returns-in-Ok-clause-held c m i =
    let judge = c.args.self.now in
    keep_in c.in-Ok.seen judge.duties.now.demands c.keep_good.new.members.items c.keep_good.ensures.keep m i (round_rollout judge.round) judge.round.number
    (c.in-Ok.ensures m (subst (λ (xs : List NumberedClass). IsIn m xs) (sym c.deref-2.ensures.value) (c.keep_good.ensures.left m i)))
