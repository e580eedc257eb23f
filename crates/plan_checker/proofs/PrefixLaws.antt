-- The prefixes of an update.
use Rattle.std.proofs.Common.{◌++◌, map}
use Rattle.net_base.proofs.MemberLaws.{in_append_left, in_append_right}
use Rattle.flow_rules.specs.Tables.{table_blocks}
use Rattle.demands.specs.Duties.{DemandView}
use Rattle.demands.proofs.RowLaws.{each_there}
use Rattle.demands.specs.OfClass.{AreCovered}
use Rattle.update_model.specs.Changes.{round_blocks}
use Rattle.certificates.specs.Updates.{Task}
use Rattle.certificates.specs.Certified.{blocks_of, classes_for}

-- the demands' prefixes are among those of an update
pub covered : (t : Task) → AreCovered t.update.demands (classes_for t)
covered t =
    let tables = table_blocks t.update.old ++ table_blocks t.update.new in
    let demanded = map (λ (d : DemandView). d.dst) t.update.demands in
    each_there t.update.demands (blocks_of t.update.old t.update.new t.update.demands t.rounds)
    (λ b i. in_append_left b (tables ++ demanded) (round_blocks t.rounds) (in_append_right b tables demanded i))
