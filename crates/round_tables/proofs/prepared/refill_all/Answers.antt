use Rattle.std.proofs.Common.{◌≡◌, ◌<◌, ◌+◌, ◌≤◌, [], length, length-set, sym, ◌∙◌, ap, arith}
use Rattle.std.proofs.lemmas.Option.{get_or_from_slice_get}
use Rattle.flow_rules.specs.Tables.{TableState, rules_at, rules_of_all}
use Rattle.round_tables.specs.PreparedTables.{room_of, table_at}
use Rattle.round_tables.proofs.TableLaws.{switch_n, rules_in, rules_same, set_each}
use Rattle.round_tables.proofs.prepared.refill_all.Goals as goal

pub refill-requires : goal.refill-requires
refill-requires c =
    let s = switch_n c.loop-i.i in
    let source = get_or_from_slice_get c.args.sources.now c.loop-i.i c.table.result.now (record { rules = []; spare = 0 }) c.table.ensures in
    let target = get_or_from_slice_get c.loop-i.tables c.loop-i.i c.table_mut.result.now (record { rules = []; spare = 0 }) c.table_mut.ensures.value in
    let asked : length (rules_at (rules_of_all c.args.sources.now) s) ≤ room_of (table_at c.args.tables.now s) = c.requires.room s (omega arith) in
    let rules = ap length (rules_in c.args.sources.now s) in
    let lent = ap (λ (t : TableState). length t.rules) source in
    let kept = c.loop-i.invariant.1 s in
    let room = ap room_of target in
    omega arith

pub loop-i-preserved : goal.loop-i-preserved
loop-i-preserved c =
    let i = c.loop-i.i in
    let s = switch_n i in
    let less : i < length c.loop-i.tables = omega arith in
    let source = get_or_from_slice_get c.args.sources.now i c.table.result.now (record { rules = []; spare = 0 }) c.table.ensures in
    let target = get_or_from_slice_get c.loop-i.tables i c.table_mut.result.now (record { rules = []; spare = 0 }) c.table_mut.ensures.value in (
      length-set c.loop-i.tables i c.refill.new.table ∙ c.loop-i.invariant.0,
      λ s. set_each c.loop-i.tables i c.refill.new.table (record { rules = []; spare = 0 }) (λ j t. room_of t ≡ room_of (table_at c.args.tables.now (switch_n j))) less
          (c.refill.ensures.room ∙ sym (ap room_of target) ∙ c.loop-i.invariant.1 (switch_n i)) s.0 (λ _. c.loop-i.invariant.1 s),
      λ s within. set_each c.loop-i.tables i c.refill.new.table (record { rules = []; spare = 0 }) (λ j t. j < i + 1 → t.rules ≡ rules_at (rules_of_all c.args.sources.now) (switch_n j)) less
          (λ _. c.refill.ensures.rules ∙ sym (ap (λ (t : TableState). t.rules) source) ∙ sym (rules_in c.args.sources.now (switch_n i))) s.0
          (λ ne more. c.loop-i.invariant.2 s (omega arith)) within,
    )

pub returns-clause-rules : goal.returns-clause-rules
returns-clause-rules c = rules_same c.loop-i.tables c.args.sources.now c.loop-i.invariant.0 (λ s less. c.loop-i.invariant.2 s (omega arith))
