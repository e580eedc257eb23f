use Rattle.std.proofs.Common.{◌≡◌, ◌+◌, ◌<◌, ◌++◌, ℕ, rules, List, length, map, drop, sym, ◌∙◌, ap, subst, arith}
use Rattle.path_walk.specs.Outcomes.{action_outcome, header_at}
use Rattle.path_walk.specs.declared.Outcome.{Outcome}
use Rattle.flow_rules.specs.declared.rules.Action.{Action}
use Rattle.round_mix.specs.Scan.{scan}
use Rattle.round_mix.proofs.NearestLaws.{there_within, scan_none, found_kept, found_possible}
use Rattle.round_mix.proofs.put_nearest.Goals as goal

pub overflow_add-result : goal.overflow_add-result
overflow_add-result c =
    let less : c.in-Some.position < length c.args.rules.now =
    there_within (header_at c.args.packet.place c.args.packet.dst) c.args.rules.now c.in-Some.position c.in-Some.ensures.met.1 in
    search rules

pub returns-then-is_kept-clause-ends : goal.returns-then-is_kept-clause-ends
returns-then-is_kept-clause-ends c _ =
    c.put_actions.ensures.items
    ∙ found_kept (action_outcome c.args.net.now c.args.packet.place) (header_at c.args.packet.place c.args.packet.dst) c.args.rules.now c.args.from c.args.outcomes.now.items
    c.in-Some.position c.index-rules-position.result c.in-Some.ensures.met c.in-Some.ensures.first c.index-rules-position.is (sym c.is_kept.ensures ∙ c.if-is_kept.true)

pub returns-in-None-clause-ends : goal.returns-in-None-clause-ends
returns-in-None-clause-ends c _ =
    c.push_reserved.ensures.items
    ∙ ap (λ (found : List Action). c.args.outcomes.now.items ++ map (action_outcome c.args.net.now c.args.packet.place) found)
    (sym (scan_none (header_at c.args.packet.place c.args.packet.dst) c.args.rules.now c.args.from c.requires.within c.in-None.ensures.first))

pub returns-else-is_kept-clause-goes_on : goal.returns-else-is_kept-clause-goes_on
returns-else-is_kept-clause-goes_on c next is =
    let f = action_outcome c.args.net.now c.args.packet.place in
    let h = header_at c.args.packet.place c.args.packet.dst in
    let marks = c.args.rules.now in
    let old = c.args.outcomes.now.items in
    let p = c.in-Some.position in
    let same : p + 1 ≡ next = cc in
    subst (λ (n : ℕ). c.put_actions.new.outcomes.items ++ map f (scan h (drop n marks)) ≡ old ++ map f (scan h (drop c.args.from marks))) same
    (ap (λ (xs : List Outcome). xs ++ map f (scan h (drop (p + 1) marks))) c.put_actions.ensures.items
    ∙ found_possible f h marks c.args.from old p c.index-rules-position.result c.in-Some.ensures.met c.in-Some.ensures.first c.index-rules-position.is (sym c.is_kept.ensures ∙ c.if-is_kept.false))

pub returns-else-is_kept-clause-within : goal.returns-else-is_kept-clause-within
returns-else-is_kept-clause-within c next is =
    let p = c.in-Some.position in
    let same : p + 1 ≡ next = cc in
    let less = there_within (header_at c.args.packet.place c.args.packet.dst) c.args.rules.now p c.in-Some.ensures.met.1 in
    omega arith
