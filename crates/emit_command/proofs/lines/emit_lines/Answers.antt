use Rattle.std.proofs.Common.{◌≡◌, ◌<◌, [], length, take, refl, ap, arith}
use Rattle.std.proofs.lemmas.List.{take_all, length-take-le}
use Rattle.std.proofs.lemmas.List.Sums.{sum_by_more_le}
use Rattle.round_messages.proofs.Requests.{request_count}
use Rattle.emit_command.proofs.Adding.{round_added, whole_text}
use Rattle.emit_command.proofs.lines.emit_lines.Goals as goal

pub add_round-requires-clause-xids : goal.add_round-requires-clause-xids
add_round-requires-clause-xids c =
    let rounds = c.args.rounds.now in
    let k = c.loop-k.k in
    let few = c.keeps_rules.ensures.few in
    let lt : k < length rounds = omega arith in
    let before = request_count c.args.net.now 0 (take k rounds) few in
    let count = length-take-le k rounds (omega arith) in
    let this = sum_by_more_le length rounds k [] lt in
    let round = ap length c.round.ensures in
    omega (arith, before, count, this, round, c.loop-k.invariant.xid_is)

pub loop-k-preserved : goal.loop-k-preserved
loop-k-preserved c =
    let lt : c.loop-k.k < length c.args.rounds.now = omega arith in
    let count = length-take-le c.loop-k.k c.args.rounds.now (omega arith) in
    round_added c.args.net.now c.args.rounds.now c.loop-k.k c.round.result.now (record { text = c.new.result; xid = 1 }) c.loop-k.lines c.add_round.new.self c.loop-k.invariant
    lt c.round.ensures count c.in_ok-add_round.ensures

pub returns : goal.returns
returns c =
    let all : take c.loop-k.k c.args.rounds.now ≡ c.args.rounds.now = take_all c.loop-k.k c.args.rounds.now (omega arith) in
    whole_text c.args.net.now c.args.rounds.now c.loop-k.k (record { text = c.new.result; xid = 1 }) c.loop-k.lines all c.new.ensures.items refl c.loop-k.invariant
