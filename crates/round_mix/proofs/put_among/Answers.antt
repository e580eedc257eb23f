use Rattle.std.proofs.Common.{Vec, Global, ◌+◌, ◌++◌, List, length, map, drop, get_or, vec_len, vec_capacity, refl, sym, ◌∙◌, ap, arith}
use Rattle.std.proofs.lemmas.Option.{slice_get_read}
use Rattle.net_base.proofs.ItemLaws.{in_at}
use Rattle.path_walk.specs.Outcomes.{action_outcome, header_at}
use Rattle.path_walk.specs.declared.Outcome.{Outcome}
use Rattle.round_mix.specs.Among.{picked_marks}
use Rattle.round_mix.specs.Scan.{scan}
use Rattle.round_mix.specs.declared.MarkedRule.{MarkedRule}
use Rattle.round_mix.proofs.PickedLaws.{picked_step, put_missed, put_possible, put_kept}
use Rattle.round_mix.proofs.put_among.Goals.{then-covers+else-is_kept, else-covers}
use Rattle.round_mix.proofs.put_among.Goals as goal

pub bounds-rules-positions : goal.bounds-rules-positions
bounds-rules-positions c = c.requires.within (get_or c.args.positions.now c.loop-i.i 0) (in_at c.args.positions.now c.loop-i.i 0 c.loop-i-test.true)

pub returns-then-is_kept-clause-items : goal.returns-then-is_kept-clause-items
returns-then-is_kept-clause-items c =
    let f = action_outcome c.args.net.now c.args.place in
    let h = header_at c.args.place c.args.dst in
    let marks = c.args.rules.now in
    let ps = c.args.positions.now in
    let i = c.loop-i.i in
    let m = c.index-rules-positions.result in
    let p = get_or ps i 0 in
    let within = c.requires.within p (in_at ps i 0 c.loop-i-test.true) in
    let at = slice_get_read marks (length marks) p m refl within c.index-rules-positions.is in
    let old = c.loop-i.outcomes.items in
    c.put_actions.ensures.items
    ∙ put_kept f h m (picked_marks marks (drop (i + 1) ps)) old (sym c.covers.ensures ∙ c.if-covers.true) (sym c.is_kept.ensures ∙ c.if-is_kept.true)
    ∙ ap (λ (ms : List MarkedRule). old ++ map f (scan h ms)) (sym (picked_step marks ps i m c.loop-i-test.true at))
    ∙ c.loop-i.invariant.0

pub loop-i-preserved : goal.loop-i-preserved
loop-i-preserved c =
    let f = action_outcome c.args.net.now c.args.place in
    let h = header_at c.args.place c.args.dst in
    let marks = c.args.rules.now in
    let ps = c.args.positions.now in
    let i = c.loop-i.i in
    let m = c.index-rules-positions.result in
    let p = get_or ps i 0 in
    let within = c.requires.within p (in_at ps i 0 c.loop-i-test.true) in
    let at = slice_get_read marks (length marks) p m refl within c.index-rules-positions.is in
    let old = c.loop-i.outcomes.items in
    let next = ap (λ (ms : List MarkedRule). old ++ map f (scan h ms)) (sym (picked_step marks ps i m c.loop-i-test.true at)) ∙ c.loop-i.invariant.0 in
    elim c.if-covers.branch [
      | then-covers+else-is_kept w ↦ (
          let possible = sym w.is_kept.ensures ∙ w.if-is_kept.false in
          let few = w.put_actions.ensures.few possible in
          let len = ap (λ (v : Vec Outcome Global). vec_len v) w.outcomes-is in
          let room = ap (λ (v : Vec Outcome Global). vec_capacity v) w.outcomes-is in (
            ap (λ (v : Vec Outcome Global). v.items ++ map f (scan h (picked_marks marks (drop (i + 1) ps)))) w.outcomes-is
                ∙ ap (λ (xs : List Outcome). xs ++ map f (scan h (picked_marks marks (drop (i + 1) ps)))) w.put_actions.ensures.items
                ∙ put_possible f h m (picked_marks marks (drop (i + 1) ps)) old (sym c.covers.ensures ∙ w.if-covers.true) possible ∙ next,
            omega (arith, c.loop-i.invariant.1, len, few),
            omega (arith, c.loop-i.invariant.2, w.put_actions.ensures.room, room),
            omega (arith, c.loop-i.invariant.3, w.put_actions.ensures.room, room),
          ))
      | else-covers w ↦ (
          let len = ap (λ (v : Vec Outcome Global). vec_len v) w.outcomes-is in
          let room = ap (λ (v : Vec Outcome Global). vec_capacity v) w.outcomes-is in (
            ap (λ (v : Vec Outcome Global). v.items ++ map f (scan h (picked_marks marks (drop (i + 1) ps)))) w.outcomes-is
                ∙ put_missed f h m (picked_marks marks (drop (i + 1) ps)) old (sym c.covers.ensures ∙ w.if-covers.false) ∙ next,
            omega (arith, c.loop-i.invariant.1, len),
            omega (arith, c.loop-i.invariant.2, room),
            omega (arith, c.loop-i.invariant.3, room),
          ))
    ]
