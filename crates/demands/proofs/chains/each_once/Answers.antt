use Rattle.std.proofs.Common.{◌≡◌, List, [], ◌∷◌, ◌++◌, get_or, sym, ap, ◌∙◌, Vec, Global}
use Rattle.std.proofs.lemmas.Bool.{cond-true, cond-false}
use Rattle.std.proofs.lemmas.List.{take_all}
use Rattle.std.specs.Prelude.{◌==◌}
use Rattle.std.specs.List.{list_any}
use Rattle.net_base.specs.declared.ids.SwitchId.{SwitchId}
use Rattle.demands.specs.Duties.{first_of_each}
use Rattle.demands.proofs.ChainLaws.{once_step, get_same}
use Rattle.demands.proofs.chains.each_once.Goals as goal
use Rattle.demands.proofs.chains.each_once.Goals.{then-not-stands_in+in_ok-push, else-not-stands_in}

pub loop-switch-preserved : goal.loop-switch-preserved
loop-switch-preserved c =
    let zero : SwitchId = record { 0 = 0 } in
    let i = c.loop-switch.switch-index in
    let x : SwitchId = get_or c.args.switches.now i zero in
    let kept : List SwitchId = c.loop-switch.kept.items in
    let at : x ≡ get_or c.args.switches.now i x = sym (get_same c.args.switches.now i zero x c.loop-switch-test.true) in
    let test : c.stands_in.result ≡ list_any (λ s. s.0 == x.0) kept = c.stands_in.ensures ∙ ap (λ ys. list_any (λ (s : SwitchId). s.0 == x.0) ys) c.deref.ensures.value in
    let all = once_step c.args.switches.now i kept x c.stands_in.result c.loop-switch-test.true at c.loop-switch.invariant test in
    elim c.if-not-stands_in.branch [
      | then-not-stands_in+in_ok-push w ↦
          ap (λ (v : Vec SwitchId Global). v.items) w.kept-is ∙ w.in_ok-push.ensures.items ∙ sym (cond-false c.stands_in.result kept (kept ++ x ∷ []) w.if-not-stands_in.true) ∙ all
      | else-not-stands_in w ↦ ap (λ (v : Vec SwitchId Global). v.items) w.kept-is ∙ sym (cond-true c.stands_in.result kept (kept ++ x ∷ []) w.if-not-stands_in.false) ∙ all
    ]

pub returns : goal.returns
returns c = c.loop-switch.invariant ∙ ap first_of_each (take_all c.loop-switch.switch-index c.args.switches.now c.loop-switch-test.false)
