use Rattle.std.proofs.Common.{Bool, List, refl, sym, ◌∙◌, subst, ap}
use Rattle.std.specs.Prelude.{slice_get}
use Rattle.round_mix.specs.Prepared.{MixedState}
use Rattle.check_reasons.specs.Loaded.{AreLoaded}
use Rattle.counter_run.specs.Updates.{rollout_of}
use Rattle.counter_run.proofs.PrepareLaws.{count_old, switches_prepared}
use Rattle.counter_run.proofs.searching.search_round.Goals as goal

pub round_run-requires-clause-prepared : goal.round_run-requires-clause-prepared
round_run-requires-clause-prepared c =
    switches_prepared _ c.args.tables.now c.requires.prepared (c.requires.prepared.count ∙ count_old c.args.update c.requires.classed) c.mixes.ensures

pub mark_good-requires-clause-prepared : goal.mark_good-requires-clause-prepared
mark_good-requires-clause-prepared c on = record {
  is = record {
    net_is = refl;
    loaded = subst (λ (mixes : List MixedState). AreLoaded (rollout_of c.args.update) c.args.k mixes) (sym c.mixes.ensures) (c.requires.loaded on);
    keeps_old = (c.requires.keeps on).tables;
    keeps = λ j le. (c.requires.keeps on).changes j;
  };
  within = c.requires.round;
  good = c.requires.classed.good;
  clear = c.requires.classed.clear;
}

pub round_run-requires-clause-good : goal.round_run-requires-clause-good
round_run-requires-clause-good c n class is on = c.in_ok-mark_good.ensures.good n class is (ap (λ (bs : List Bool). slice_get bs n) (sym c.deref.ensures.value) ∙ on)
