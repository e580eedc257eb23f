use Rattle.std.proofs.Common.{◌≡◌, ◌<◌, refl, sym, ◌∙◌, subst, inl, inr, arith}
use Rattle.std.proofs.lemmas.Bool.{false≢true, cases_lt}
use Rattle.flow_rules.specs.Tables.{rules_of_all}
use Rattle.dest_classes.specs.Classes.{IsClass}
use Rattle.dest_classes.specs.declared.Class.{Class}
use Rattle.dest_classes.proofs.MapLaws.{number_fits}
use Rattle.demands.specs.Good.{HasGoodPath}
use Rattle.config_check.proofs.BreakLaws.{break_is_bad}
use Rattle.config_check.proofs.JudgeLaws.{class_within}
use Rattle.config_check.proofs.checking.check_config.Goals as goal

pub how_broken-requires-clause-entry : goal.how_broken-requires-clause-entry
how_broken-requires-clause-entry c = class_within c.args.net.now c.keeps_rules.ensures c.args.classes.now c.loop-number.number c.class-class.result c.requires.hosts c.class-class.ensures.is

pub returns-in-Some-clause-ok : goal.returns-in-Some-clause-ok
returns-in-Some-clause-ok c = (
  λ e. absurd (false≢true e),
  λ good.
      let class = c.class-class.result in
      absurd
      (break_is_bad c.args.net.now (rules_of_all c.args.config.now) c.args.duties.now.demands class.entry class.first c.in-Some.how c.in-Some.ensures.some
      (good c.loop-number.number class c.class-class.ensures.is)),
)

pub loop-number-preserved : goal.loop-number-preserved
loop-number-preserved c = record {
  good = λ n class below is.
      elim (cases_lt n c.loop-number.number) [
        | inl earlier ↦ c.loop-number.invariant.good n class earlier is
        | inr late ↦ (
            let here : n ≡ c.loop-number.number = omega arith in
            let same : class ≡ c.class-class.result = c.class-class.ensures.only class (subst (λ m. IsClass c.args.classes.now m class) here is) in
            subst (λ (x : Class). HasGoodPath c.args.net.now (rules_of_all c.args.config.now) c.args.duties.now.demands x.entry x.first) (sym same) c.in_default.ensures.none)
      ];
  same_room = c.how_broken.ensures.same_room ∙ c.loop-number.invariant.same_room;
  kept = c.how_broken.ensures.kept;
}

pub returns-clause-ok : goal.returns-clause-ok
returns-clause-ok c = (
  λ _ n class is.
      let fits = number_fits c.args.classes.now n class is in
      let all : n < c.loop-number.number = (let past = c.loop-number-test.false in let end = c.count-number-end.ensures.count in omega arith) in
      c.loop-number.invariant.good n class all is,
  λ _. refl,
)
