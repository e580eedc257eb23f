use Rattle.std.proofs.Common.{◌≡◌, ℕ, Vec, Global, length, sym, subst, ap, ◌∙◌, arith}
use Rattle.dest_classes.specs.Classes.{class_count}
use Rattle.dest_classes.proofs.MapLaws.{number_fits}
use Rattle.demands.specs.Duties.{PacketDuties}
use Rattle.demands.specs.OfClass.{AreInOrder}
use Rattle.demands.proofs.stored.all_duties.Goals.{then-count-gt0+in_ok-atoms+in_ok-put, else-count-gt0}
use Rattle.demands.proofs.stored.all_duties.Goals as goal

pub returns : goal.returns
returns c =
    let demands = c.args.demands.now in
    let classes = c.args.classes.now in
    let count = c.count.ensures.count in
    elim c.if-count-gt0.branch [
      | then-count-gt0+in_ok-atoms+in_ok-put w ↦
          subst (λ (v : Vec ℕ Global). (length v.items ≡ class_count classes) × AreInOrder demands classes c.if-count-gt0.rows.items v.items) (sym w.numbers-is)
          (subst (λ (v : Vec PacketDuties Global). (length w.put_rows-put.new.numbers.items ≡ class_count classes) × AreInOrder demands classes v.items w.put_rows-put.new.numbers.items) (sym w.rows-is)
          w.in_ok-put.ensures)
      | else-count-gt0 w ↦ (
          let none = w.if-count-gt0.false in (
            ap (λ (v : Vec ℕ Global). length v.items) w.numbers-is ∙ ap length c.new-numbers.ensures.items ∙ omega arith,
            λ n class is. let fits = number_fits classes n class is in absurd (omega arith),
          ))
    ]
