use Rattle.std.proofs.Common.{◌≡◌, ℕ, suc, ◌+◌, ◌-◌, ◌<◌, ◌≤◌, List, take, drop, sym, ◌∙◌, ap, subst, add-one, arith}
use Rattle.std.specs.List.{AllByRecursion}
use Rattle.net_base.specs.Members.{IsIn}
use Rattle.dest_classes.specs.Classes.{ClassList}
use Rattle.update_model.specs.Changes.{round_after}
use Rattle.update_model.specs.declared.Change.{Change}
use Rattle.certificates.specs.Certified.{classes_for}
use Rattle.certificates.specs.declared.OrderedPick.{OrderedPick}
use Rattle.check_reasons.specs.AtomMarks.{AreTouched}
use Rattle.ordered_check.specs.Cases.{OrderedView}
use Rattle.ordered_check.specs.Standing.{StandingState}
use Rattle.ordered_check.proofs.LookedLaws.{begun_since}
use Rattle.ordered_check.proofs.standing.Standing.prepare.Goals as goal

pub choose-requires-clause-touched : goal.choose-requires-clause-touched
choose-requires-clause-touched c =
    let k = c.args.round.now.number in
    let marked = round_after k c.of.inside.case.now.task.rounds in
    let same : marked ≡ c.args.round.now.changes.now = ap (λ (v : OrderedView). round_after k v.task.rounds) c.of.view_is ∙ sym c.requires.changes in
    subst (λ (round : List Change). AreTouched (classes_for c.args.of.now.task) round c.mark.new.self) same
    (subst (λ (classes : ClassList). AreTouched classes marked c.mark.new.self) c.class_map.ensures c.mark.ensures)

pub choose-requires-clause-begun : goal.choose-requires-clause-begun
choose-requires-clause-begun c pick i round_is =
    let k = c.args.round.now.number in
    let picks = c.args.of.now.evidence.picks in
    let taken = c.taken-taken.result in
    let next = c.advance.new.self.next in
    let listed : c.list-picks.result.now ≡ picks = c.list-picks.ensures ∙ ap (λ (v : OrderedView). v.evidence.picks) c.of.view_is in
    let taken_is : taken ≡ c.args.self.now.picks.next = c.taken-taken.ensures ∙ ap (λ (s : StandingState). s.picks.next) c.self.view_is in
    let begun : AllByRecursion (λ p. p.round ≤ k) (take taken picks) = subst (λ (n : ℕ). AllByRecursion (λ p. p.round ≤ k) (take n picks)) (sym taken_is) c.requires.stands.begun in
    let later : AllByRecursion (λ p. suc k < p.round) (drop next picks) =
    subst (λ (m : ℕ). AllByRecursion (λ p. m < p.round) (drop next picks)) (add-one k)
    (subst (λ (ps : List OrderedPick). AllByRecursion (λ p. k + 1 < p.round) (drop next ps)) listed c.advance.ensures.stands.later) in
    let further : taken ≤ next = (let is = c.taken-taken.ensures in let le = c.advance.ensures.further in omega arith) in
    subst (IsIn pick) (sym (c.taken_since-begun.ensures ∙ ap (λ (ps : List OrderedPick). take (next - taken) (drop taken ps)) listed))
    (begun_since picks k taken next begun later further pick i round_is)

pub returns-clause-touched : goal.returns-clause-touched
returns-clause-touched c =
    let k = c.args.round.now.number in
    let marked = round_after k c.of.inside.case.now.task.rounds in
    let same : marked ≡ c.args.round.now.changes.now = ap (λ (v : OrderedView). round_after k v.task.rounds) c.of.view_is ∙ sym c.requires.changes in
    subst (λ (round : List Change). AreTouched (classes_for c.args.of.now.task) round c.mark.new.self) same
    (subst (λ (classes : ClassList). AreTouched classes marked c.mark.new.self) c.class_map.ensures c.mark.ensures)
