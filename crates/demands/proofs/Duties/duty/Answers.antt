use Rattle.std.proofs.Common.{◌≡◌, ◌<◌, length, sym, subst, arith}
use Rattle.std.proofs.lemmas.Option.{slice_get_within}
use Rattle.dest_classes.specs.Classes.{class_count}
use Rattle.dest_classes.proofs.MapLaws.{class_exists}
use Rattle.demands.specs.Duties.{ClassDuties, duties_of}
use Rattle.demands.specs.OfClass.{OfClass, HasDutiesOfEachAddress}
use Rattle.demands.proofs.RowLaws.{row_at, row_is, each_address}
use Rattle.demands.proofs.Duties.duty.Goals as goal

pub index-requires-2 : goal.index-requires-2
index-requires-2 c =
    let seen : ClassDuties = record { demands = c.self.inside.demands; classes = c.self.inside.classes } in
    let fits : c.args.class < class_count seen.classes = subst (λ (d : ClassDuties). c.args.class < class_count d.classes) (sym c.self.view_is) c.requires in
    let (class, is) = class_exists seen.classes c.args.class fits in
    let rows = c.self.inside.rows.items in
    let at = row_at seen.demands seen.classes rows c.self.inside.row_numbers.items c.self.invariant c.args.class fits c.index.result.now c.index.ensures class is in
    let within : c.index.result.now < length rows = slice_get_within rows c.index.result.now (duties_of seen.demands class.entry class.first) at in
    let len = c.self.inside.rows.ok.0 in
    omega arith

pub returns-clause-duty : goal.returns-clause-duty
returns-clause-duty c =
    let seen : ClassDuties = record { demands = c.self.inside.demands; classes = c.self.inside.classes } in
    let fits : c.args.class < class_count seen.classes = subst (λ (d : ClassDuties). c.args.class < class_count d.classes) (sym c.self.view_is) c.requires in
    subst (λ (d : ClassDuties). OfClass d c.args.class (λ duties. c.index-2.result.now ≡ duties)) c.self.view_is
    (λ class is.
    row_is c.self.inside.rows.items c.index.result.now (duties_of seen.demands class.entry class.first) c.index-2.result.now
    (row_at seen.demands seen.classes c.self.inside.rows.items c.self.inside.row_numbers.items c.self.invariant c.args.class fits c.index.result.now c.index.ensures class is) c.index-2.ensures)

pub returns-clause-each_address : goal.returns-clause-each_address
returns-clause-each_address c =
    let seen : ClassDuties = record { demands = c.self.inside.demands; classes = c.self.inside.classes } in
    subst (λ (d : ClassDuties). HasDutiesOfEachAddress d c.args.class) c.self.view_is (each_address seen c.args.class c.self.invariant.covered)
