use Rattle.std.proofs.Common.{◌<◌, sym, subst}
use Rattle.dest_classes.specs.Classes.{class_count}
use Rattle.dest_classes.proofs.MapLaws.{number_fits}
use Rattle.demands.specs.OfClass.{HaveSameDuties}
use Rattle.evidence_store.specs.Last.{SetsState}
use Rattle.evidence_store.proofs.last_sets.ClassSets.are_for.Goals as goal

pub are_shared-requires-clause-one : goal.are_shared-requires-clause-one
are_shared-requires-clause-one c =
    let kept = c.args.self.now in
    subst (λ (s : SetsState). s.class.number < class_count c.args.duties.now.classes) (sym c.self.view_is) (number_fits c.args.duties.now.classes kept.class.number kept.class.class c.requires.known)

pub returns-then-self-numbered-clause-duties : goal.returns-then-self-numbered-clause-duties
returns-then-self-numbered-clause-duties c same =
    subst (λ (s : SetsState). HaveSameDuties c.args.duties.now s.class.number c.args.numbered.number) c.self.view_is (c.are_shared.ensures same)
