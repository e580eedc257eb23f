use Rattle.std.proofs.Common.{◌≡◌, sym, ap, ◌∙◌, arith}
use Rattle.openflow10.specs.Layout.{number_at}
use Rattle.flow_stats.specs.declared.fields.FlowStatsFields.{FlowStatsFields}
use Rattle.flow_stats.proofs.EntryLaws.{entry_room}
use Rattle.flow_stats.proofs.entries.read_entry.Goals as goal

pub read-fields-requires : goal.read-fields-requires
read-fields-requires c = (entry_room c.args.at c.args.bytes.now (sym c.is_entry.ensures ∙ c.if-is_entry.true)).fixed

pub read_actions-actions-requires : goal.read_actions-actions-requires
read_actions-actions-requires c =
    let room = entry_room c.args.at c.args.bytes.now (sym c.is_entry.ensures ∙ c.if-is_entry.true) in
    let len : c.read-fields.result.len ≡ number_at c.args.at 2 c.args.bytes.now = ap (λ (f : FlowStatsFields). f.len) c.read-fields.ensures in
    let whole = room.whole in
    rw (c.from.ensures, len) (omega arith)

pub returns-then-is_entry-clause-within : goal.returns-then-is_entry-clause-within
returns-then-is_entry-clause-within c =
    let room = entry_room c.args.at c.args.bytes.now (sym c.is_entry.ensures ∙ c.if-is_entry.true) in
    let len : c.read-fields.result.len ≡ number_at c.args.at 2 c.args.bytes.now = ap (λ (f : FlowStatsFields). f.len) c.read-fields.ensures in
    rw len (room.least, room.whole)
