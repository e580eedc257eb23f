use Rattle.std.proofs.Common.{◌≡◌, ℕ, ◌+◌, ◌-◌, ◌++◌, cond, List, take, drop, sym, ◌∙◌, ap, arith}
use Rattle.std.proofs.lemmas.Bool.{cond-false}
use Rattle.std.proofs.lemmas.List.{drop-drop}
use Rattle.flow_rules.specs.Patterns.{key_eq}
use Rattle.flow_rules.specs.declared.rules.Key.{Key}
use Rattle.flow_rules.proofs.KeyLaws.{key_ne}
use Rattle.round_mix.specs.Tried.{settled_mark}
use Rattle.round_mix.specs.declared.MarkedRule.{MarkedRule}
use Rattle.round_mix.proofs.PriorityLaws.{rising, changed_between}
use Rattle.round_mix.proofs.tried.settle_key.Goals as goal

pub returns : goal.returns
returns c =
    let ms = c.args.marks.now in
    let k = c.args.key.now in
    let a = c.first_of-from.result in
    let b = c.end_of-to.result in
    let f = λ (m : MarkedRule). cond (key_eq k m.rule.key) (settled_mark m) m in
    let low = rising ms k.priority a b c.first_of-from.ensures.within c.first_of-from.ensures.before c.first_of-from.ensures.behind c.end_of-to.ensures.before c.end_of-to.ensures.behind in
    let whole : a + (b - a) ≡ b = omega arith in
    ap (λ (xs : List MarkedRule). take a ms ++ (c.settle_among.new.marks ++ xs)) (drop-drop (b - a) a ms ∙ ap (λ (i : ℕ). drop i ms) whole)
    ∙ ap (λ (xs : List MarkedRule). take a ms ++ (xs ++ drop b ms)) c.settle_among.ensures
    ∙ changed_between ms k.priority a b c.first_of-from.ensures.within c.first_of-from.ensures.before c.first_of-from.ensures.behind c.end_of-to.ensures.before c.end_of-to.ensures.behind f
    (λ m other. cond-false (key_eq k m.rule.key) (settled_mark m) m (key_ne k m.rule.key (λ e. other (sym (ap (λ (x : Key). x.priority) e)))))

pub slice_bounds-settle_among-count : goal.slice_bounds-settle_among-count
slice_bounds-settle_among-count c =
    rising c.args.marks.now c.args.key.now.priority c.first_of-from.result c.end_of-to.result c.first_of-from.ensures.within c.first_of-from.ensures.before c.first_of-from.ensures.behind c.end_of-to.ensures.before c.end_of-to.ensures.behind

pub slice_bounds-settle_among-start : goal.slice_bounds-settle_among-start
slice_bounds-settle_among-start c =
    rising c.args.marks.now c.args.key.now.priority c.first_of-from.result c.end_of-to.result c.first_of-from.ensures.within c.first_of-from.ensures.before c.first_of-from.ensures.behind c.end_of-to.ensures.before c.end_of-to.ensures.behind
