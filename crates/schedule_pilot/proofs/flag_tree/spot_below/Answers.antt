use Rattle.std.proofs.Common.{◌*◌, ◌+◌, ◌<◌, length, refl, arith, rules, Fits, w64}
use Rattle.schedule_pilot.proofs.CountLaws.{first_within, down_first, down_second}
use Rattle.schedule_pilot.proofs.flag_tree.spot_below.Goals as goal

pub overflow_mul-position : goal.overflow_mul-position
overflow_mul-position c =
    let some = c.requires in
    let less : 2 * c.args.spot.position < length c.args.row.now = first_within c.args.row.now c.args.spot.position (omega arith) in
    let offset : Fits w64 (2 * c.args.spot.position * 8) = search rules in
    omega arith

pub offset_bounds-row-position : goal.offset_bounds-row-position
offset_bounds-row-position c =
    let some = c.requires in
    let less : 2 * c.args.spot.position < length c.args.row.now = first_within c.args.row.now c.args.spot.position (omega arith) in
    search rules

pub bounds-row-position : goal.bounds-row-position
bounds-row-position c = let some = c.requires in first_within c.args.row.now c.args.spot.position (omega arith)

pub overflow_add-result : goal.overflow_add-result
overflow_add-result c =
    let some = c.requires in
    let less : 2 * c.args.spot.position < length c.args.row.now = first_within c.args.row.now c.args.spot.position (omega arith) in
    let offset : Fits w64 (2 * c.args.spot.position * 8) = search rules in
    omega arith

pub returns-then-spot-first : goal.returns-then-spot-first
returns-then-spot-first c = λ k at. down_first c.args.row.now k c.args.spot.position c.args.spot.rest (2 * c.args.spot.position) refl c.if-spot-first.true at

pub returns-else-spot-first : goal.returns-else-spot-first
returns-else-spot-first c = λ k at.
    down_second c.args.row.now k c.args.spot.position c.args.spot.rest (2 * c.args.spot.position) _ (2 * c.args.spot.position + 1) refl c.if-spot-first.false (omega arith) refl at
