use Rattle.std.proofs.Common.{◌≡◌, ◌<◌, ◌≤◌, ℕ, List, Bool, true, get_or, length, sym, ◌∙◌, ap, subst, vec_capacity, arith}
use Rattle.std.specs.Vec.{with_items}
use Rattle.std.proofs.lemmas.List.{with_items_is}
use Rattle.net_base.specs.declared.ids.SwitchId.{SwitchId}
use Rattle.flow_rules.specs.Tables.{rules_at}
use Rattle.update_model.specs.Mixtures.{Rollout}
use Rattle.round_tables.specs.PreparedTables.{PreparedState, limit_at}
use Rattle.round_tables.proofs.TableLaws.{started}
use Rattle.round_tables.proofs.prepared.PreparedTables.start.Goals as goal

pub returns-clause-stands : goal.returns-clause-stands
returns-clause-stands c =
    let inside = c.self.inside in
    let u = c.args.update.now in
    let touched = with_items inside.touched c.set_all.new.flags in
    let same : touched.items ≡ c.set_all.new.flags = with_items_is inside.touched c.set_all.new.flags (omega arith) in
    let on : (i : ℕ) → get_or touched.items i true ≡ true = subst (λ (xs : List Bool). (i : ℕ) → get_or xs i true ≡ true) (sym same) c.set_all.ensures in
    let p : PreparedState = record {
      tables = c.refill_all.new.tables;
      mixes = inside.mixes.items;
      touched = touched.items;
      changes = inside.changes.items;
      limits = inside.limits.items;
      room = vec_capacity inside.rules;
      round = inside.round.items;
    } in
    let fit : (s : SwitchId) → s.0 < length u.old → length (rules_at u.old s) ≤ limit_at inside.limits.items s =
    subst (λ (q : PreparedState). (s : SwitchId) → s.0 < length u.old → length (rules_at u.old s) ≤ limit_at q.limits s) (sym c.self.view_is) c.requires.fit in
    started u p fit (c.refill_all.ensures.rules ∙ ap (λ (v : Rollout). v.old) c.update.view_is) on
