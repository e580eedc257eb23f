use Rattle.std.proofs.Common.{◌∷◌, [], ◌++◌, List, take, refl, sym, ◌∙◌, ap, subst}
use Rattle.std.proofs.lemmas.List.{take_more}
use Rattle.update_model.specs.declared.Change.{Change}
use Rattle.round_mix.specs.Marks.{rules_of}
use Rattle.round_mix.specs.Named.{AreMarked}
use Rattle.round_mix.proofs.NamedLaws.{none_marked, marked_push}
use Rattle.round_mix.proofs.named.put_marks.Goals as goal

pub loop-change-init : goal.loop-change-init
loop-change-init c = (none_marked c.args.marks.now.items c.requires.sure, refl)

pub loop-change-preserved : goal.loop-change-preserved
loop-change-preserved c =
    let rules = rules_of c.args.marks.now.items in
    let changes = c.args.changes.now in
    let i = c.loop-change.change-index in
    let this = c.change-item.result in
    let seen = take i changes in (
      subst (λ (cs : List Change). AreMarked rules cs c.put_mark.new.marks.items)
          (sym (take_more changes i this c.loop-change-test.true ∙ ap (λ (x : Change). seen ++ x ∷ []) (sym c.change-item.is)))
          (marked_push rules seen this c.loop-change.marks.items c.put_mark.new.marks.items c.requires.distinct c.loop-change.invariant.0 (c.put_mark.ensures.marked c.if-not-put_mark.false)),
      c.put_mark.ensures.room ∙ c.loop-change.invariant.1,
    )
