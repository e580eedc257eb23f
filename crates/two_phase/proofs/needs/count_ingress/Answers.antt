use Rattle.std.proofs.Common.{◌≡◌, ◌≤◌, ◌+◌, ◌*◌, take, length, sum_by, sym, ap, subst, ◌∙◌, arith}
use Rattle.std.proofs.lemmas.List.{take_all}
use Rattle.two_phase.proofs.CountedLaws.{at_host, ports_of, ingress_count, few_counted}
use Rattle.two_phase.proofs.needs.count_ingress.Goals as goal

pub overflow_add-count-then-stop-s : goal.overflow_add-count-then-stop-s
overflow_add-count-then-stop-s c =
    let few : c.loop-stop.count ≤ 64 * 524289 =
    few_counted c.args.net.now c.args.s c.keeps_rules.ensures c.loop-stop.stop-index c.loop-stop.count 524289
    (subst (λ hs. c.loop-stop.count ≤ length (ports_of c.args.s (take c.loop-stop.stop-index hs)) * 524289) c.hosts-stop-items.ensures c.loop-stop.invariant.few)
    in
    omega arith

pub returns-clause-value : goal.returns-clause-value
returns-clause-value c =
    let hosts = c.args.net.now.hosts in
    let n = c.loop-stop.stop-index in
    let items = c.hosts-stop-items.result.now in
    let all : take n items ≡ hosts = take_all n items (omega arith) ∙ c.hosts-stop-items.ensures in
    c.loop-stop.invariant.sum
    ∙ ap (λ hs. sum_by (at_host c.args.net.now c.args.s c.args.rules.now) (ports_of c.args.s hs) + length (ports_of c.args.s hs)) all
    ∙ sym (ingress_count c.args.net.now c.args.s c.args.rules.now)

pub returns-clause-few : goal.returns-clause-few
returns-clause-few c =
    few_counted c.args.net.now c.args.s c.keeps_rules.ensures c.loop-stop.stop-index c.loop-stop.count 524289
    (subst (λ hs. c.loop-stop.count ≤ length (ports_of c.args.s (take c.loop-stop.stop-index hs)) * 524289) c.hosts-stop-items.ensures c.loop-stop.invariant.few)
