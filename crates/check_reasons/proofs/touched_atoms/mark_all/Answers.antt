use Rattle.std.proofs.Common.{◌≡◌, ℕ, ◌%◌, true, List, sym, ◌∙◌, ap, subst}
use Rattle.std.specs.Prelude.{◌↔◌}
use Rattle.std.proofs.lemmas.List.{take_all}
use Rattle.net_base.specs.Blocks.{in_block}
use Rattle.net_base.specs.Members.{IsIn}
use Rattle.flow_rules.specs.declared.rules.Rule.{Rule}
use Rattle.dest_classes.specs.Classes.{IsClass, atom_count}
use Rattle.dest_classes.specs.Atoms.{IsAmong}
use Rattle.dest_classes.specs.declared.Class.{Class}
use Rattle.update_model.specs.Changes.{rule_of}
use Rattle.update_model.specs.declared.Change.{Change}
use Rattle.check_reasons.specs.AtomMarks.{AreTouched}
use Rattle.check_reasons.proofs.AtomMarkLaws.{touched_more}
use Rattle.check_reasons.proofs.touched_atoms.mark_all.Goals as goal

pub touched-requires-clause-known : goal.touched-requires-clause-known
touched-requires-clause-known c =
    let item = c.change-item.result in
    subst (λ (r : Rule). IsIn r.key.pattern.dst c.args.classes.now.prefixes) (sym (c.rule.ensures ∙ ap rule_of c.change-item.is)) (c.requires.known c.loop-change.change-index item c.loop-change-test.true)

pub loop-change-preserved : goal.loop-change-preserved
loop-change-preserved c =
    let classes = c.args.classes.now in
    let i = c.loop-change.change-index in
    let range = c.touched.result in
    record {
      touched = touched_more classes c.args.changes.now i c.change-item.result range c.loop-change.marks c.mark_range.new.marks c.loop-change-test.true
          (subst (λ (r : Rule). (n : ℕ) (class : Class) → IsClass classes n class → IsAmong range (n % atom_count classes) ↔ (in_block r.key.pattern.dst class.first ≡ true)) (c.rule.ensures ∙ ap rule_of c.change-item.is)
          c.touched.ensures.class)
          c.mark_range.ensures.among c.mark_range.ensures.others c.loop-change.invariant.touched;
      count = c.mark_range.ensures.count ∙ c.loop-change.invariant.count;
    }

pub returns-clause-touched : goal.returns-clause-touched
returns-clause-touched c =
    subst (λ (round : List Change). AreTouched c.args.classes.now round c.loop-change.marks) (take_all c.loop-change.change-index c.args.changes.now c.loop-change-test.false) c.loop-change.invariant.touched
