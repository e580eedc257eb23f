use Rattle.std.proofs.Common.{◌≡◌, ◌+◌, ◌<◌, ℕ, suc, List, [], ◌∷◌, length, get_or, drop, sym, ◌∙◌, ap, subst, add-one}
use Rattle.std.specs.Prelude.{filter}
use Rattle.std.proofs.Math.Seq.{drop-cons}
use Rattle.std.proofs.lemmas.List.{drop_all}
use Rattle.flow_rules.specs.declared.rules.Rule.{Rule}
use Rattle.update_model.specs.Changes.{rules_after}
use Rattle.update_model.specs.declared.Change.{Change}
use Rattle.round_mix.specs.Prepared.{AreGood}
use Rattle.outcome_changes.specs.Trials.{takes}
use Rattle.outcome_changes.proofs.AppliedLaws.{good_taken, first_applies, others_good, after_others}
use Rattle.outcome_changes.proofs.trying.Trial.table_after.Goals as goal

split_at : (cs : List Change) (i : ℕ) (c : Change) → i < length cs → c ≡ get_or cs i c → drop i cs ≡ c ∷ drop (i + 1) cs
split_at cs i c less at = drop-cons cs i c less ∙ ap (λ (x : Change). x ∷ drop (suc i) cs) (sym at) ∙ ap (λ n. c ∷ drop n cs) (sym (add-one i))

pub loop-change-init : goal.loop-change-init
loop-change-init c =
    let copied = c.in_ok-tried.ensures in
    let p = takes c.args.self.now in
    record {
      good = subst (λ (rs : List Rule). AreGood rs (filter p c.args.round.now)) (sym copied) (good_taken c.args.table.now.rules c.args.self.now c.args.round.now c.requires);
      rules = ap (rules_after (filter p c.args.round.now)) copied;
    }

pub make_one-requires : goal.make_one-requires
make_one-requires c passes =
    let i = c.loop-change.change-index in
    let round = c.args.round.now in
    let d = c.change-item.result in
    let p = takes c.args.self.now in
    first_applies p c.loop-change.tried.rules d (drop (i + 1) round)
    (subst (λ (cs : List Change). AreGood c.loop-change.tried.rules (filter p cs)) (split_at round i d c.loop-change-test.true c.change-item.is) c.loop-change.invariant.good) passes

pub loop-change-preserved : goal.loop-change-preserved
loop-change-preserved c =
    let i = c.loop-change.change-index in
    let round = c.args.round.now in
    let d = c.change-item.result in
    let p = takes c.args.self.now in
    let rest = drop (i + 1) round in
    let before = c.loop-change.tried.rules in
    let split = split_at round i d c.loop-change-test.true c.change-item.is in
    let made : c.make_one.new.table.rules ≡ rules_after (filter p (d ∷ [])) before = c.in_ok-make_one.ensures in
    let good : AreGood before (filter p (d ∷ rest)) = subst (λ (cs : List Change). AreGood before (filter p cs)) split c.loop-change.invariant.good in
    record {
      good = subst (λ (rs : List Rule). AreGood rs (filter p rest)) (sym made) (others_good p before d rest good);
      rules = ap (rules_after (filter p rest)) made ∙ after_others p before d rest ∙ ap (λ (cs : List Change). rules_after (filter p cs) before) (sym split) ∙ c.loop-change.invariant.rules;
    }

pub returns : goal.returns
returns c =
    ap (λ (cs : List Change). rules_after (filter (takes c.args.self.now) cs) c.loop-change.tried.rules)
    (sym (drop_all c.loop-change.change-index c.args.round.now c.loop-change-test.false)) ∙ c.loop-change.invariant.rules
