use Rattle.std.proofs.Common.{◌≡◌, [], ◌∷◌, ◌++◌, List, refl, sym, subst, arith, vec_capacity}
use Rattle.std.specs.Vec.{with_items}
use Rattle.std.proofs.lemmas.List.{with_items_is}
use Rattle.net_base.specs.declared.ids.SwitchId.{SwitchId}
use Rattle.flow_rules.specs.Tables.{IsTable}
use Rattle.flow_rules.proofs.TableLaws.{rules_get}
use Rattle.update_model.specs.Changes.{changes_at, switch_of}
use Rattle.round_mix.specs.Prepared.{MixedState}
use Rattle.round_tables.specs.PreparedTables.{PreparedState, mix_at, IsMixed, rules_there}
use Rattle.round_tables.specs.Steps.{AreReadyBeside, taken_and}
use Rattle.round_tables.proofs.StepLaws.{beside_lent, ready_last}
use Rattle.round_tables.proofs.prepared.PreparedTables.unmark.Goals as goal

pub returns-clause-ready : goal.returns-clause-ready
returns-clause-ready c =
    let change = c.args.change.now in
    let s = c.switch-switch.result in
    let net = c.args.net.now in
    let inside = c.self.inside in
    let p : PreparedState = record { tables = inside.tables; mixes = inside.mixes.items; touched = inside.touched.items; changes = inside.changes.items; limits = inside.limits.items; room = vec_capacity inside.rules; round = inside.round.items } in
    let rules = rules_there inside.tables s in
    let round = inside.round.items in
    let cs = changes_at s round in
    let old = c.deref_mut.result.now in
    let mixes = with_items inside.mixes c.give_up_at.new.mixes in
    let q : PreparedState = record { tables = inside.tables; mixes = mixes.items; touched = inside.touched.items; changes = inside.changes.items; limits = inside.limits.items; room = vec_capacity inside.rules; round = round } in
    let same : mixes.items ≡ c.give_up_at.new.mixes = with_items_is inside.mixes c.give_up_at.new.mixes (omega arith) in
    let here : AreReadyBeside net s round p =
    subst (λ (t : SwitchId). AreReadyBeside net t round p) (sym c.switch-switch.ensures) (subst (λ (v : PreparedState). AreReadyBeside net (switch_of change) v.round v) (sym c.self.view_is) c.requires.beside) in
    let marked : IsMixed rules (cs ++ change ∷ []) (mix_at inside.mixes.items s) =
    subst (λ (t : SwitchId). IsMixed (rules_there inside.tables t) (changes_at t round ++ change ∷ []) (mix_at inside.mixes.items t)) (sym c.switch-switch.ensures)
    (subst (λ (v : PreparedState). IsMixed (rules_there v.tables (switch_of change)) (taken_and v change) (mix_at v.mixes (switch_of change))) (sym c.self.view_is) c.requires.here) in
    let is_table : IsTable rules = subst IsTable (sym (rules_get inside.tables s.0 c.table.result.now c.table.ensures)) c.keeps_keys.ensures in
    let beside = beside_lent net s round p q old c.give_up_at.new.mixes here refl refl c.deref_mut.ensures.value same (omega arith) c.give_up_at.ensures.others c.give_up_at.ensures.room in
    ready_last net round q s beside (subst (λ (ms : List MixedState). IsMixed rules cs (mix_at ms s)) (sym same)
    (c.give_up_at.ensures.before rules cs is_table (subst (λ (ms : List MixedState). IsMixed rules (cs ++ change ∷ []) (mix_at ms s)) (sym c.deref_mut.ensures.value) marked)))
