use Rattle.std.proofs.Common.{◌+◌, Bool, List, refl, subst, sym, ◌∙◌}
use Rattle.demands.specs.Duties.{DemandView}
use Rattle.demands.specs.Sets.{IsSetBelow, speaks_of_entry}
use Rattle.demands.specs.declared.sets.DemandSet.{DemandSet}
use Rattle.demands.proofs.SetLaws.{passes_at, set_none, set_more, set_still, set_all}
use Rattle.demands.proofs.class_sets.EntrySet.of.Goals.{then-speaks_of_entry, else-speaks_of_entry}
use Rattle.demands.proofs.class_sets.EntrySet.of.Goals as goal

pub loop-n-init : goal.loop-n-init
loop-n-init c = set_none c.args.demands.now (λ d. speaks_of_entry d c.args.entry) c.none-set.result.words c.none-set.ensures

pub loop-n-preserved : goal.loop-n-preserved
loop-n-preserved c =
    let demands : List DemandView = c.args.demands.now in
    let test : DemandView → Bool = λ d. speaks_of_entry d c.args.entry in
    let n = c.loop-n.n in
    let old = c.loop-n.set.words in
    let passes = passes_at demands test n c.index-demands-n.result c.loop-n-test.true c.index-demands-n.is ∙ sym c.speaks_of_entry.ensures in
    elim c.if-speaks_of_entry.branch [
      | then-speaks_of_entry w ↦
          subst (λ (s : DemandSet). IsSetBelow (n + 1) demands test s.words) (sym w.set-is)
          (set_more demands test n old w.put.new.self.words c.loop-n.invariant (passes ∙ w.if-speaks_of_entry.true) w.put.ensures.there w.put.ensures.others)
      | else-speaks_of_entry w ↦
          subst (λ (s : DemandSet). IsSetBelow (n + 1) demands test s.words) (sym w.set-is)
          (set_still demands test n old old c.loop-n.invariant (passes ∙ w.if-speaks_of_entry.false) (λ i. refl))
    ]

pub returns-clause-set : goal.returns-clause-set
returns-clause-set c = set_all c.args.demands.now (λ d. speaks_of_entry d c.args.entry) c.loop-n.n c.loop-n.set.words c.loop-n-test.false c.loop-n.invariant
