use Rattle.std.proofs.Common.{◌≡◌, ℕ, ◌+◌, List, [], ◌∷◌, length, Some, sym, ap, ◌∙◌, subst, arith, length-append}
use Rattle.std.specs.Prelude.{slice_get}
use Rattle.dest_classes.specs.Classes.{IsClass}
use Rattle.dest_classes.specs.declared.Class.{Class}
use Rattle.class_watch.proofs.ListLaws.{classes_more}
use Rattle.class_watch.proofs.classes.all_classes.Goals as goal

pub loop-number-preserved : goal.loop-number-preserved
loop-number-preserved c =
    let list = c.loop-number.list.items in
    let next = c.class.result in
    let so_far = c.loop-number.invariant.count in
    let longer : length c.push.new.self.items ≡ length list + 1 = ap (λ (xs : List Class). length xs) c.in_ok-push.ensures.items ∙ length-append list (next ∷ []) in
    record {
      count = omega arith;
      each = subst (λ (xs : List Class). (n : ℕ) (class : Class) → slice_get xs n ≡ Some class → IsClass c.args.classes.now n class) (sym c.in_ok-push.ensures.items)
          (classes_more c.args.classes.now list c.loop-number.number next so_far c.loop-number.invariant.each c.class.ensures.is);
    }
