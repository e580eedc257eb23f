use Rattle.std.proofs.Common.{refl, ℕ, ◌+◌, length, eqb, sym, ap, ◌∙◌, rules, tests}
use Rattle.std.proofs.lemmas.List.{length_push}
use Rattle.std.proofs.lemmas.Iterator.Splits.{YieldsList-from_slice_split}
use Rattle.std.proofs.lemmas.Result.{err_from_is_err_and}
use Rattle.net_base.specs.Reading.{place_of}
use Rattle.schedule_replay.specs.declared.fault.ScheduleFault.TheVariants.{Memory}
use Rattle.net_base.specs.Lines.{lines_of}
use Rattle.two_way_replay.specs.TwoWaySchedules.{two_way_line_at, two_way_schedule_in}
use Rattle.net_base.proofs.ItemTurns.{goes_on, ends, is_done}
use Rattle.text_lines.proofs.LineTurns.{line_turn, lines_end}
use Rattle.two_way_replay.proofs.read.read_two_way_schedule.Goals as goal

pub loop-i-preserved : goal.loop-i-preserved
loop-i-preserved c =
    let here = line_turn c.args.bytes.now c.loop-i.yielded _ _ c.loop-i.yielded_by c.into_iter-i-iterator.ensures.into_iter_gives c.enumerate-i-items.ensures.source c.enumerate-i-items.ensures.count c.in-Some.i c.in-Some.line c.in-Some.is c.next.ensures.steps
    (YieldsList-from_slice_split _ (λ (b : ℕ). eqb b 10) c.args.bytes.now c.split.ensures.rest c.split.ensures.done c.split.ensures.closure (λ x r q k. search (rules, tests))) in
    rw length_push
    (goes_on (two_way_line_at c.args.net.now) (lines_of c.args.bytes.now) (length c.loop-i.yielded) (length c.loop-i.yielded + 1) c.loop-i.schedule c.in-Some.line.now c.in-Some.line.now (two_way_schedule_in c.args.net.now c.args.bytes.now)
    here.0 (sym here.2) c.place_of.result (length c.loop-i.yielded + 1 + 1) c.read_line.new.schedule (c.place_of.ensures ∙ ap (λ (k : ℕ). place_of (k + 1)) here.1) refl c.in_ok-read_line.ensures c.loop-i.invariant)

pub returns-in_err-read_line : goal.returns-in_err-read_line
returns-in_err-read_line c =
    let here = line_turn c.args.bytes.now c.loop-i.yielded _ _ c.loop-i.yielded_by c.into_iter-i-iterator.ensures.into_iter_gives c.enumerate-i-items.ensures.source c.enumerate-i-items.ensures.count c.in-Some.i c.in-Some.line c.in-Some.is c.next.ensures.steps
    (YieldsList-from_slice_split _ (λ (b : ℕ). eqb b 10) c.args.bytes.now c.split.ensures.rest c.split.ensures.done c.split.ensures.closure (λ x r q k. search (rules, tests))) in
    let p = err_from_is_err_and c.from_residual.result c.from_residual.ensures.1 in
    rw (p.1, p.2)
    (ends (two_way_line_at c.args.net.now) (lines_of c.args.bytes.now) (length c.loop-i.yielded) (length c.loop-i.yielded + 1) c.loop-i.schedule c.in-Some.line.now c.in-Some.line.now (two_way_schedule_in c.args.net.now c.args.bytes.now)
    here.0 (sym here.2) c.place_of.result Memory c.in_err-read_line.field-0.0 (c.place_of.ensures ∙ ap (λ (k : ℕ). place_of (k + 1)) here.1) c.in_err-read_line.ensures c.loop-i.invariant)

pub returns : goal.returns
returns c =
    let past = lines_end c.args.bytes.now c.loop-i.yielded _ _ c.loop-i.yielded_by c.into_iter-i-iterator.ensures.into_iter_gives c.enumerate-i-items.ensures.source c.enumerate-i-items.ensures.count c.in-None.is c.next.ensures.steps
    (YieldsList-from_slice_split _ (λ (b : ℕ). eqb b 10) c.args.bytes.now c.split.ensures.rest c.split.ensures.done c.split.ensures.closure (λ x r q k. search (rules, tests))) in
    is_done (two_way_line_at c.args.net.now) (lines_of c.args.bytes.now) (length c.loop-i.yielded) (length c.loop-i.yielded + 1) c.loop-i.schedule (two_way_schedule_in c.args.net.now c.args.bytes.now) past c.loop-i.invariant
