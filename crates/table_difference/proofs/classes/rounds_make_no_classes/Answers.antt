use Rattle.std.proofs.Common.{◌++◌, map, inl, inr, refl}
use Rattle.net_base.proofs.MemberLaws.{in_append_left}
use Rattle.flow_rules.specs.Tables.{rules_of_all, table_blocks}
use Rattle.update_model.specs.Changes.{round_blocks}
use Rattle.table_difference.proofs.BoundaryLaws.{none_made}
use Rattle.table_difference.proofs.classes.rounds_make_no_classes.Goals as goal

pub returns : goal.returns
returns c demands rounds brings = record {
  hosts = refl;
  vlans = refl;
  atoms = none_made
      (table_blocks (rules_of_all c.args.old.now) ++ table_blocks (rules_of_all c.args.new.now) ++ map (λ d. d.dst) demands) (round_blocks rounds)
      (λ b i. elim (brings b i) [
        | inl j ↦ inl (in_append_left b (table_blocks (rules_of_all c.args.old.now) ++ table_blocks (rules_of_all c.args.new.now)) (map (λ d. d.dst) demands) j)
        | inr e ↦ inr e
      ]);
}
