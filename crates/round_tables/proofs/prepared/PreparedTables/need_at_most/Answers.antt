use Rattle.std.proofs.Common.{◌<◌, ap, arith}
use Rattle.std.proofs.lemmas.Bool.{false≢true}
use Rattle.topology.specs.Networks.{switch_count}
use Rattle.flow_rules.specs.Tables.{rules_at}
use Rattle.update_model.specs.Changes.{changes_at, round_after}
use Rattle.update_model.specs.Mixtures.{Rollout, tables_before}
use Rattle.round_tables.specs.PreparedTables.{mix_at}
use Rattle.round_tables.proofs.RoomLaws.{some_mixed}
use Rattle.round_tables.proofs.TableLaws.{switch_n}
use Rattle.round_tables.proofs.prepared.PreparedTables.need_at_most.Goals as goal

pub need-requires-clause-prepared : goal.need-requires-clause-prepared
need-requires-clause-prepared c =
    let s = switch_n c.loop-i.i in
    let count = ap (λ (u : Rollout). switch_count u.net) c.update.view_is in
    some_mixed _ _ (mix_at c.args.self.now.mixes s).prepared (c.requires.prepared.each s (omega (arith, c.loop-i-test.true, c.switches-i-end.ensures.value, c.requires.count, c.requires.prepared.count)))

pub returns-then-need-most : goal.returns-then-need-most
returns-then-need-most c = (
  (λ e. absurd (false≢true e)),
  λ few.
      let u = c.args.update.now in
      let s = switch_n c.loop-i.i in
      let count = ap (λ (v : Rollout). switch_count v.net) c.update.view_is in
      let less : s.0 < switch_count u.net = omega (arith, c.loop-i-test.true, c.switches-i-end.ensures.value) in
      let need = c.need.ensures (rules_at (tables_before u c.args.k) s) (changes_at s (round_after c.args.k u.rounds)) (c.requires.prepared.each s (omega (arith, less, c.requires.count, c.requires.prepared.count))) in
      let most = few s less in
      absurd (omega (arith, c.if-need-most.true)),
)
