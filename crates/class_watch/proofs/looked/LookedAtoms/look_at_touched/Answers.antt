use Rattle.std.proofs.Common.{◌∙◌, ap, length, List, Bool}
use Rattle.net_base.specs.Blocks.{in_block}
use Rattle.class_watch.proofs.LookedLaws.{touched_by_first}
use Rattle.class_watch.proofs.looked.LookedAtoms.look_at_touched.Goals as goal

pub returns-clause-touched : goal.returns-clause-touched
returns-clause-touched c = λ map are count.
    let marks = c.mark_covered.new.marks.items in
    let prefix_is = ap (λ r. r.key.pattern.dst) c.rule.ensures in
    touched_by_first map c.args.classes.now c.args.change.now marks are (λ some. c.mark_covered.ensures.count ∙ ap (λ (bs : List Bool). length bs) c.self.view_is ∙ count some)
    (λ atom class within at. c.mark_covered.ensures.each atom class within at ∙ ap (λ block. in_block block class.first) prefix_is)
