use Rattle.std.proofs.Common.{◌≡◌, false, List, subst}
use Rattle.update_model.specs.declared.Change.{Change}
use Rattle.class_watch.specs.Walks.{meets_any}
use Rattle.class_watch.proofs.unmet.is_unmet.Goals as goal

pub returns : goal.returns
returns g c on = record {
  stands = c.can_stand.ensures c.if-not-can_stand.false;
  unmet = subst (λ (cs : List Change). meets_any cs c.args.numbered.class c.args.came ≡ false) c.requires.changes (c.misses_walk.ensures on);
}
