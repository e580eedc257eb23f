use Rattle.std.proofs.Common.{◌∷◌, [], ◌++◌, take, sym, ◌∙◌, ap, subst}
use Rattle.std.proofs.lemmas.List.{take_more}
use Rattle.update_model.specs.declared.Change.{Change}
use Rattle.round_mix.specs.Prepared.{AreGood}
use Rattle.round_mix.proofs.GoodLaws.{good_push}
use Rattle.round_mix.proofs.changes.first_bad_from.Goals as goal

pub loop-i-preserved : goal.loop-i-preserved
loop-i-preserved c =
    let seen = take c.loop-i.i c.args.changes.now in
    let this = c.index-changes-i.result in
    subst (AreGood c.args.table.now.rules)
    (sym (take_more c.args.changes.now c.loop-i.i this c.loop-i-test.true ∙ ap (λ (x : Change). seen ++ x ∷ []) (sym c.index-changes-i.is)))
    (good_push c.args.table.now.rules seen this c.loop-i.invariant (c.is_good_after.ensures.0 c.if-not-is_good_after.false))
