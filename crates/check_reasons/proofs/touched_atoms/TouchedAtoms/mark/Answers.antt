use Rattle.std.proofs.Common.{◌≡◌, ℕ, Bool, List, All, length, sym, ◌∙◌, ap, subst}
use Rattle.net_base.specs.Members.{IsIn}
use Rattle.dest_classes.specs.Classes.{ClassList}
use Rattle.update_model.specs.Changes.{round_after}
use Rattle.update_model.specs.declared.Change.{Change}
use Rattle.check_reasons.specs.Cases.{CaseView}
use Rattle.check_reasons.specs.AtomMarks.{AreTouched}
use Rattle.check_reasons.proofs.AtomMarkLaws.{prefix_of, prefixes_known, written_back}
use Rattle.check_reasons.proofs.touched_atoms.TouchedAtoms.mark.Goals as goal

pub mark_all-requires-clause-known : goal.mark_all-requires-clause-known
mark_all-requires-clause-known c =
    let t = c.args.case.now.task in
    let round_is : c.round.result.now ≡ round_after c.args.k t.rounds = c.round.ensures ∙ ap (λ (v : CaseView). round_after c.args.k v.task.rounds) c.case.view_is in
    subst (λ (round : List Change). All (λ d. IsIn (prefix_of d) c.args.classes.now.prefixes) round) (sym round_is)
    (subst (λ (m : ClassList). All (λ d. IsIn (prefix_of d) m.prefixes) (round_after c.args.k t.rounds)) (sym c.requires.classes) (prefixes_known t c.args.k))

pub returns : goal.returns
returns c =
    let t = c.args.case.now.task in
    let round_is : c.round.result.now ≡ round_after c.args.k t.rounds = c.round.ensures ∙ ap (λ (v : CaseView). round_after c.args.k v.task.rounds) c.case.view_is in
    let inside = c.self.inside.marks in
    let marks = c.mark_all.new.marks in
    let same : length marks ≡ length inside.items = c.mark_all.ensures.count ∙ ap (λ (ms : List Bool). length ms) c.deref_mut.ensures.value in
    subst (AreTouched c.args.classes.now (round_after c.args.k t.rounds)) (sym (written_back inside.len marks inside.items same (sym inside.ok.0)))
    (subst (λ (round : List Change). AreTouched c.args.classes.now round marks) round_is c.mark_all.ensures.touched)
