use Rattle.std.proofs.Common.{◌≡◌, ◌↔◌, ◌%◌, Bool, true, List, sym, subst, ap, ◌∙◌}
use Rattle.net_base.specs.Blocks.{in_block}
use Rattle.dest_classes.specs.Atoms.{IsAmong}
use Rattle.dest_classes.specs.Classes.{atom_count}
use Rattle.demands.specs.Duties.{DemandView}
use Rattle.demands.specs.Sets.{passes, set_at}
use Rattle.demands.proofs.SetLaws.{passes_at, set_next, set_all}
use Rattle.demands.proofs.class_sets.atom_sets.Goals as goal

pub loop-n-preserved : goal.loop-n-preserved
loop-n-preserved c =
    let demands : List DemandView = c.args.demands.now in
    let n = c.loop-n.n in
    let range = c.touched-range.result in
    record {
      count = c.put_in_range.ensures.count ∙ c.loop-n.invariant.count;
      sets = λ m class is.
          let at = m % atom_count c.args.classes.now in
          let test : DemandView → Bool = λ d. in_block d.dst class.first in
          let pass : passes demands test n ≡ in_block c.demand.inside.cover.dst class.first =
          passes_at demands test n c.index-demands-n.result c.loop-n-test.true c.index-demands-n.is ∙ ap test (sym c.demand.view_is) in
          let among : IsAmong range at ↔ (passes demands test n ≡ true) =
          subst (λ (b : Bool). IsAmong range at ↔ (b ≡ true)) (sym pass) (c.touched-range.ensures.class m class is) in
          set_next demands test n (set_at c.loop-n.sets.items at) (set_at c.put_in_range.new.sets.items at) (IsAmong range at) (c.loop-n.invariant.sets m class is) among
          (c.put_in_range.ensures.there at) (c.put_in_range.ensures.others at);
    }

pub returns-clause-sets : goal.returns-clause-sets
returns-clause-sets c m class is =
    set_all c.args.demands.now (λ d. in_block d.dst class.first) c.loop-n.n (set_at c.loop-n.sets.items (m % atom_count c.args.classes.now)) c.loop-n-test.false (c.loop-n.invariant.sets m class is)
