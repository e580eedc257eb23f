use Rattle.std.proofs.Common.{◌≡◌, ◌<◌, [], ◌∷◌, ◌++◌, List, refl, sym, subst, arith, vec_capacity}
use Rattle.std.specs.Prelude.{Option, IsSomeAnd}
use Rattle.std.specs.Vec.{with_items}
use Rattle.std.proofs.lemmas.List.{with_items_is}
use Rattle.net_base.specs.declared.ids.SwitchId.{SwitchId}
use Rattle.topology.specs.Networks.{switch_count}
use Rattle.flow_rules.specs.Tables.{IsTable}
use Rattle.flow_rules.proofs.TableLaws.{rules_get}
use Rattle.update_model.specs.Changes.{changes_at, switch_of}
use Rattle.round_mix.specs.Prepared.{AreClear, AreGood, IsPrepared, MixedState}
use Rattle.round_mix.specs.declared.MarkedRule.{MarkedRule}
use Rattle.round_tables.specs.PreparedTables.{PreparedState, mix_at, IsMixed, rules_there}
use Rattle.round_tables.specs.Steps.{AreSwitchesReady, AreReadyBeside, HasOneMore}
use Rattle.round_tables.proofs.StepLaws.{beside_lent, beside_ready, ready_last}
use Rattle.round_tables.proofs.prepared.PreparedTables.mark.Goals as goal

pub begin_at-requires-clause-room : goal.begin_at-requires-clause-room
begin_at-requires-clause-room c =
    let s = c.switch-switch.result in
    subst (λ (ms : List MixedState). HasOneMore (mix_at ms s)) (sym c.deref_mut.ensures.value)
    (subst (λ (t : SwitchId). HasOneMore (mix_at c.self.inside.mixes.items t)) (sym c.switch-switch.ensures)
    (subst (λ (v : PreparedState). HasOneMore (mix_at v.mixes (switch_of c.args.change.now))) (sym c.self.view_is) c.requires.room))

pub returns-clause-beside : goal.returns-clause-beside
returns-clause-beside c =
    let change = c.args.change.now in
    let s = c.switch-switch.result in
    let net = c.args.net.now in
    let inside = c.self.inside in
    let p : PreparedState = record { tables = inside.tables; mixes = inside.mixes.items; touched = inside.touched.items; changes = inside.changes.items; limits = inside.limits.items; room = vec_capacity inside.rules; round = inside.round.items } in
    let ready : AreSwitchesReady net inside.round.items p = subst (λ (v : PreparedState). AreSwitchesReady net v.round v) (sym c.self.view_is) c.requires.ready in
    let within : s.0 < switch_count net = subst (λ (t : SwitchId). t.0 < switch_count net) (sym c.switch-switch.ensures) c.requires.within in
    let mixes = with_items inside.mixes c.begin_at.new.mixes in
    let q : PreparedState = record { tables = inside.tables; mixes = mixes.items; touched = inside.touched.items; changes = inside.changes.items; limits = inside.limits.items; room = vec_capacity inside.rules; round = inside.round.items } in
    let same : mixes.items ≡ c.begin_at.new.mixes = with_items_is inside.mixes c.begin_at.new.mixes (omega arith) in
    let beside : AreReadyBeside net s inside.round.items q =
    beside_lent net s inside.round.items p q c.deref_mut.result.now c.begin_at.new.mixes (beside_ready net inside.round.items p s within ready)
    refl refl c.deref_mut.ensures.value same (omega arith) c.begin_at.ensures.others c.begin_at.ensures.room in
    subst (λ (t : SwitchId). AreReadyBeside net t inside.round.items q) c.switch-switch.ensures beside

pub returns-clause-yes : goal.returns-clause-yes
returns-clause-yes c said =
    let change = c.args.change.now in
    let s = c.switch-switch.result in
    let net = c.args.net.now in
    let inside = c.self.inside in
    let p : PreparedState = record { tables = inside.tables; mixes = inside.mixes.items; touched = inside.touched.items; changes = inside.changes.items; limits = inside.limits.items; room = vec_capacity inside.rules; round = inside.round.items } in
    let ready : AreSwitchesReady net inside.round.items p = subst (λ (v : PreparedState). AreSwitchesReady net v.round v) (sym c.self.view_is) c.requires.ready in
    let within : s.0 < switch_count net = subst (λ (t : SwitchId). t.0 < switch_count net) (sym c.switch-switch.ensures) c.requires.within in
    let mixes = with_items inside.mixes c.begin_at.new.mixes in
    let q : PreparedState = record { tables = inside.tables; mixes = mixes.items; touched = inside.touched.items; changes = inside.changes.items; limits = inside.limits.items; room = vec_capacity inside.rules; round = inside.round.items } in
    let same : mixes.items ≡ c.begin_at.new.mixes = with_items_is inside.mixes c.begin_at.new.mixes (omega arith) in
    let rules = rules_there inside.tables s in
    let cs = changes_at s inside.round.items in
    let here : IsMixed rules cs (mix_at c.deref_mut.result.now s) =
    subst (λ (ms : List MixedState). IsMixed rules cs (mix_at ms s)) (sym c.deref_mut.ensures.value) (ready.each s within) in
    let is_table : IsTable rules = subst IsTable (sym (rules_get inside.tables s.0 c.table.result.now c.table.ensures)) c.keeps_keys.ensures in
    subst (λ (t : SwitchId). IsMixed (rules_there inside.tables t) (changes_at t inside.round.items ++ change ∷ []) (mix_at mixes.items t)) c.switch-switch.ensures
    (subst (λ (ms : List MixedState). IsMixed rules (cs ++ change ∷ []) (mix_at ms s)) (sym same) (c.begin_at.ensures.yes rules cs is_table here said))

pub returns-clause-no : goal.returns-clause-no
returns-clause-no c off =
    let change = c.args.change.now in
    let s = c.switch-switch.result in
    let net = c.args.net.now in
    let inside = c.self.inside in
    let p : PreparedState = record { tables = inside.tables; mixes = inside.mixes.items; touched = inside.touched.items; changes = inside.changes.items; limits = inside.limits.items; room = vec_capacity inside.rules; round = inside.round.items } in
    let ready : AreSwitchesReady net inside.round.items p = subst (λ (v : PreparedState). AreSwitchesReady net v.round v) (sym c.self.view_is) c.requires.ready in
    let within : s.0 < switch_count net = subst (λ (t : SwitchId). t.0 < switch_count net) (sym c.switch-switch.ensures) c.requires.within in
    let rules = rules_there inside.tables s in
    let cs = changes_at s inside.round.items in
    let here : IsMixed rules cs (mix_at c.deref_mut.result.now s) =
    subst (λ (ms : List MixedState). IsMixed rules cs (mix_at ms s)) (sym c.deref_mut.ensures.value) (ready.each s within) in
    subst (λ (t : SwitchId). AreGood (rules_there inside.tables t) (changes_at t inside.round.items ++ change ∷ [])
    → ¬ AreClear (rules_there inside.tables t) (changes_at t inside.round.items ++ change ∷ [])) c.switch-switch.ensures (c.begin_at.ensures.no rules cs here off)

pub returns-clause-ready : goal.returns-clause-ready
returns-clause-ready c off =
    let change = c.args.change.now in
    let s = c.switch-switch.result in
    let net = c.args.net.now in
    let inside = c.self.inside in
    let p : PreparedState = record { tables = inside.tables; mixes = inside.mixes.items; touched = inside.touched.items; changes = inside.changes.items; limits = inside.limits.items; room = vec_capacity inside.rules; round = inside.round.items } in
    let ready : AreSwitchesReady net inside.round.items p = subst (λ (v : PreparedState). AreSwitchesReady net v.round v) (sym c.self.view_is) c.requires.ready in
    let within : s.0 < switch_count net = subst (λ (t : SwitchId). t.0 < switch_count net) (sym c.switch-switch.ensures) c.requires.within in
    let mixes = with_items inside.mixes c.begin_at.new.mixes in
    let q : PreparedState = record { tables = inside.tables; mixes = mixes.items; touched = inside.touched.items; changes = inside.changes.items; limits = inside.limits.items; room = vec_capacity inside.rules; round = inside.round.items } in
    let same : mixes.items ≡ c.begin_at.new.mixes = with_items_is inside.mixes c.begin_at.new.mixes (omega arith) in
    let beside : AreReadyBeside net s inside.round.items q =
    beside_lent net s inside.round.items p q c.deref_mut.result.now c.begin_at.new.mixes (beside_ready net inside.round.items p s within ready)
    refl refl c.deref_mut.ensures.value same (omega arith) c.begin_at.ensures.others c.begin_at.ensures.room in
    let rules = rules_there inside.tables s in
    let cs = changes_at s inside.round.items in
    let here : IsMixed rules cs (mix_at c.deref_mut.result.now s) =
    subst (λ (ms : List MixedState). IsMixed rules cs (mix_at ms s)) (sym c.deref_mut.ensures.value) (ready.each s within) in
    ready_last net inside.round.items q s beside (subst (λ (ms : List MixedState). IsMixed rules cs (mix_at ms s)) (sym same)
    (subst (λ (o : Option (List MarkedRule)). IsSomeAnd o (IsPrepared rules cs)) (sym (c.begin_at.ensures.same off)) here))
