use Rattle.std.proofs.Common.{◌≡◌, ◌↔◌, ℕ, ◌-◌, ◌<◌, ◌≤◌, ◌+◌, Bool, true, [], List, length, sym, subst, arith}
use Rattle.std.proofs.lemmas.Result.{IfOk-weaker}
use Rattle.net_base.specs.Members.{IsIn}
use Rattle.topology.specs.Networks.{IsNetwork}
use Rattle.path_walk.specs.declared.Outcome.{Outcome}
use Rattle.update_model.specs.Mixtures.{IsPossible}
use Rattle.acyclic_numbering.specs.Heights.{IsEdge, Falls}
use Rattle.acyclic_numbering.specs.declared.Edge.{Edge}
use Rattle.breaking_walks.specs.Rounds.{round_rollout}
use Rattle.breaking_walks.specs.Surveys.{NeverRepeats}
use Rattle.breaking_walks.specs.declared.trail.Node.{Node}
use Rattle.breaking_walks.proofs.SearchLaws.{node_within}
use Rattle.breaking_walks.proofs.SurveyLaws.{IsSurveyed, surveyed_none, surveyed_next, surveyed_repeats}
use Rattle.breaking_walks.proofs.falling.are_walks_falling.Goals as goal

pub looking-init : goal.looking-init
looking-init c =
    let u = round_rollout c.args.round in
    let k = c.args.round.number in
    let dst = c.args.class.first in
    let entry = c.args.class.entry in
    subst (λ (edges : List Edge). IsSurveyed u k dst entry 0 c.in_ok-trail.trail edges) (sym c.new-edges.ensures.items)
    (subst (λ (trail : List (Node × ℕ)). IsSurveyed u k dst entry 0 trail []) (sym c.in_ok-trail.ensures) (surveyed_none u k dst entry))

pub possible-requires-clause-within : goal.possible-requires-clause-within
possible-requires-clause-within c =
    let r = c.args.round in
    let is_net : IsNetwork r.net.now = c.keeps_rules.ensures in
    node_within (round_rollout r) r.number c.args.class.first c.args.class.entry [] c.looking.trail c.looking.invariant.so.is_trail is_net c.requires.entry c.looking.next c.at.result c.at.ensures.at

pub looking-preserved : goal.looking-preserved
looking-preserved c =
    let u = round_rollout c.args.round in
    let k = c.args.round.number in
    let dst = c.args.class.first in
    let all = subst (λ (xs : List Outcome). (o : Outcome) → IsIn o xs ↔ IsPossible u k dst c.at.result.0.place o) (sym c.list-found.ensures) c.in_ok-outcomes.ensures in
    surveyed_next u k dst c.args.class.entry c.looking.next c.looking.trail c.looking.edges.items c.looking.invariant c.at.result c.at.ensures.at
    c.list-found.result.now all c.put_next.new.trail c.in_ok-put_next.ensures c.add_edges.new.edges.items c.in_ok-add_edges.ensures

pub looking-smaller : goal.looking-smaller
looking-smaller c =
    let more = c.looking-test.true in
    let small = c.count.ensures.small in
    let less : 9223372036854775808 - (c.looking.next + 1) < 9223372036854775808 - c.looking.next = omega arith in
    less

pub returns : goal.returns
returns c =
    let u = round_rollout c.args.round in
    let k = c.args.round.number in
    let dst = c.args.class.first in
    let entry = c.args.class.entry in
    let edges = c.looking.edges.items in
    let none_left : length c.looking.trail ≤ c.looking.next = (let none = c.looking-test.false in let count = c.count.ensures.count in omega arith) in
    IfOk-weaker c.have_falling.result (λ (found : Bool). found ≡ true → (numbers : List ℕ) × Falls (IsEdge c.deref.result.now) numbers) (λ (falls : Bool). falls ≡ true → NeverRepeats u k dst entry)
    (λ falls found on.
    let (numbers, fall) = found on in
    surveyed_repeats u k dst entry c.looking.next c.looking.trail edges c.looking.invariant none_left numbers (subst (λ (es : List Edge). Falls (IsEdge es) numbers) c.deref.ensures.value fall))
    c.have_falling.ensures
