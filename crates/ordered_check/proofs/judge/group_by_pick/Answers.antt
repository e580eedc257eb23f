use Rattle.std.proofs.Common.{◌≡◌, List, IsTrue, refl, sym, ◌∙◌, ap, subst, length}
use Rattle.std.proofs.lemmas.Bool.{eqb-true}
use Rattle.std.proofs.lemmas.List.{nil_from_length}
use Rattle.demands.specs.Duties.{ClassDuties, DemandView, duties_of}
use Rattle.check_reasons.specs.Positions.{position_count}
use Rattle.ordered_check.proofs.TogetherLaws.{counted_in, class_in}
use Rattle.ordered_check.proofs.judge.group_by_pick.Goals as goal

pub has_positions-requires-clause-number : goal.has_positions-requires-clause-number
has_positions-requires-clause-number c = counted_in c.args.of.now.task c.class_duties-duties.result.now c.args.numbered.number c.args.numbered.class c.class_duties-duties.ensures c.requires.class

pub has_positions-requires-clause-class : goal.has_positions-requires-clause-class
has_positions-requires-clause-class c = class_in c.args.of.now.task c.class_duties-duties.result.now c.args.numbered.number c.args.numbered.class c.class_duties-duties.ensures c.requires.class

pub must_arrive-requires : goal.must_arrive-requires
must_arrive-requires c = counted_in c.args.of.now.task c.class_duties-duties.result.now c.args.numbered.number c.args.numbered.class c.class_duties-duties.ensures c.requires.class

pub returns : goal.returns
returns c =
    let t = c.args.of.now.task in
    let class = c.args.numbered.class in
    let demands : c.class_duties-duties.result.now.demands ≡ t.update.demands = ap (λ (d : ClassDuties). d.demands) c.class_duties-duties.ensures in
    λ k force.
    record {
      is = c.requires.class;
      address = refl;
      vlan = refl;
      fits = record {
        pick = c.args.pick;
        use_ = c.shared-shared.result.now;
        in_force = force;
        shared = refl;
        use_is = c.shared-shared.ensures;
        no_sets = sym c.list-indices.ensures ∙ nil_from_length c.list-indices.result.now (eqb-true (length c.list-indices.result.now) 0 (sym c.is_empty.ensures ∙ c.if-not-is_empty.false));
        no_waypoints = subst (λ (ds : List DemandView). 0 ≡ position_count (duties_of ds class.entry class.first).chains) demands (c.has_positions.ensures.0 c.if-not-has_positions.false);
        arrive = λ arrive.
            c.must_arrive.ensures.arrive class (class_in t c.class_duties-duties.result.now c.args.numbered.number class c.class_duties-duties.ensures c.requires.class)
            ∙ subst (λ (ds : List DemandView). IsTrue (duties_of ds class.entry class.first).arrive) (sym demands) arrive;
      };
    }
