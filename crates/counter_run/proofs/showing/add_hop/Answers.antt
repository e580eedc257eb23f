use Rattle.std.proofs.Common.{◌≡◌, ◌<◌, ◌++◌, ◌∙◌, map, subst, sym, ap}
use Rattle.update_model.specs.Changes.{changes_at}
use Rattle.update_model.specs.Mixtures.{MayBe}
use Rattle.update_model.specs.declared.Event.TheVariants as event
use Rattle.round_mix.specs.Prepared.{AreGood, AreClear}
use Rattle.outcome_changes.specs.Giving.{GiveOutcome}
use Rattle.counter_run.proofs.AddLaws.{hop_after}
use Rattle.counter_run.proofs.StageLaws.{table_count, good_here, clear_here, may_be_here, hop_added}
use Rattle.counter_run.proofs.showing.add_hop.Goals as goal

pub table-table-requires : goal.table-table-requires
table-table-requires c = subst (λ n. c.args.place.switch.0 < n) (sym (table_count c.args.stage c.requires.stage)) c.requires.inside

pub changes_for-requires-clause-good : goal.changes_for-requires-clause-good
changes_for-requires-clause-good c =
    subst (λ r. AreGood c.table-table.result.now.rules (changes_at c.args.place.switch r)) (sym c.round-round.ensures)
    (good_here c.args.stage c.requires.stage c.args.place.switch c.table-table.result.now c.table-table.ensures)

pub changes_for-requires-clause-clear : goal.changes_for-requires-clause-clear
changes_for-requires-clause-clear c =
    subst (λ r. AreClear c.table-table.result.now.rules (changes_at c.args.place.switch r)) (sym c.round-round.ensures)
    (clear_here c.args.stage c.requires.stage c.args.place.switch c.table-table.result.now c.table-table.ensures)

pub changes_for-requires-clause-possible : goal.changes_for-requires-clause-possible
changes_for-requires-clause-possible c =
    subst (λ r. MayBe c.args.stage.round.net.now c.table-table.result.now.rules (changes_at c.args.place.switch r) c.args.place c.args.dst c.args.wanted) (sym c.round-round.ensures)
    (may_be_here c.args.stage c.requires.stage c.args.place c.table-table.result.now c.table-table.ensures c.args.dst c.args.wanted c.requires.possible)

pub returns : goal.returns
returns c =
    let numbers = c.in_ok-changes.changes in
    let same : c.list.result.now ≡ numbers = c.list.ensures in
    hop_added c.args.stage c.requires.stage c.args.place c.table-table.result.now c.table-table.ensures c.args.dst c.args.wanted numbers c.args.events.now c.add.new.self
    (subst (λ r. GiveOutcome c.args.stage.round.net.now c.table-table.result.now.rules r c.args.place c.args.dst c.args.wanted numbers) c.round-round.ensures c.in_ok-changes.ensures)
    (hop_after (record { place = c.args.place; changes = numbers }) c.args.events.now c.add_changes.new.events c.add.new.self
    (c.in_ok-add_changes.ensures ∙ ap (λ ns. c.args.events.now ++ map event.Change ns) same) c.in_ok-add.ensures.ok)
