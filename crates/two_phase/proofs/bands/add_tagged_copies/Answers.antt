use Rattle.std.proofs.Common.{◌≡◌, true, false, cond, List, [], ◌++◌, take, sym, ◌∙◌, ap, arith}
use Rattle.std.specs.Prelude.{flat_map}
use Rattle.std.proofs.lemmas.List.{append-nil, take_all}
use Rattle.flow_rules.specs.declared.rules.Rule.{Rule}
use Rattle.tag_allocator.specs.Tags.{Tagged}
use Rattle.two_phase.specs.TwoPhasePlan.{is_host_bound, tagged_copy}
use Rattle.two_phase.proofs.StepLaws.{flat_added}
use Rattle.two_phase.proofs.bands.add_tagged_copies.Goals as goal

pub returns-then-is_host_bound : goal.returns-then-is_host_bound
returns-then-is_host_bound c =
    let before = c.args.rules.now.items in
    let bound : is_host_bound c.args.net.now c.args.s c.args.new.now ≡ true = sym c.is_host_bound.ensures ∙ c.if-is_host_bound.true in
    sym (ap (λ b. before ++ cond b [] (flat_map (tagged_copy c.args.net.now c.args.s c.args.new.now) c.args.tags.now)) bound ∙ append-nil before)

pub loop-v-preserved : goal.loop-v-preserved
loop-v-preserved c =
    flat_added (tagged_copy c.args.net.now c.args.s c.args.new.now) c.args.tags.now c.loop-v.v-index c.v-item.result c.v-item.result c.loop-v-test.true c.v-item.is
    c.args.rules.now.items c.loop-v.rules.items c.add_tagged_copy.new.rules.items c.loop-v.invariant c.in_ok-add_tagged_copy.ensures

pub returns : goal.returns
returns c =
    let before = c.args.rules.now.items in
    let tags = c.args.tags.now in
    let copy : Tagged → List Rule = tagged_copy c.args.net.now c.args.s c.args.new.now in
    let unbound : is_host_bound c.args.net.now c.args.s c.args.new.now ≡ false = sym c.is_host_bound.ensures ∙ c.if-is_host_bound.false in
    let all : take c.loop-v.v-index tags ≡ tags = take_all c.loop-v.v-index tags (omega arith) in
    c.loop-v.invariant ∙ ap (λ ts. before ++ flat_map copy ts) all ∙ sym (ap (λ b. before ++ cond b [] (flat_map copy tags)) unbound)
