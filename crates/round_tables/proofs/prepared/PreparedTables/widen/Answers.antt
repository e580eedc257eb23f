use Rattle.std.proofs.Common.{◌≡◌, ℕ, List, length, refl, sym, ◌∙◌, ap, subst, arith, vec_capacity}
use Rattle.std.specs.Vec.{with_items}
use Rattle.std.proofs.lemmas.List.{with_items_is}
use Rattle.std.proofs.lemmas.Result.{on_ok_weaker}
use Rattle.flow_rules.specs.declared.rules.Rule.{Rule}
use Rattle.flow_rules.proofs.TableLaws.{rules_get}
use Rattle.update_model.specs.Changes.{changes_at}
use Rattle.update_model.specs.declared.Change.{Change}
use Rattle.round_mix.specs.Prepared.{MixedState}
use Rattle.round_tables.specs.PreparedTables.{PreparedState, mix_at, IsMixed, rules_there}
use Rattle.round_tables.specs.Steps.{AreSwitchesReady, HasOneMore}
use Rattle.round_tables.specs.Trials.{HaveRoom}
use Rattle.round_tables.proofs.StepLaws.{ready_wider}
use Rattle.round_tables.proofs.prepared.PreparedTables.widen.Goals as goal

pub widen_at-requires-clause-prepared : goal.widen_at-requires-clause-prepared
widen_at-requires-clause-prepared c =
    let s = c.args.switch in
    let net = c.args.net.now in
    let inside = c.self.inside in
    let p : PreparedState = record { tables = inside.tables; mixes = inside.mixes.items; touched = inside.touched.items; changes = inside.changes.items; limits = inside.limits.items; room = vec_capacity inside.rules; round = inside.round.items } in
    let ready : AreSwitchesReady net inside.round.items p = subst (λ (v : PreparedState). AreSwitchesReady net v.round v) (sym c.self.view_is) c.requires.ready in
    let here : IsMixed (rules_there inside.tables s) (changes_at s inside.round.items) (mix_at inside.mixes.items s) = ready.each s c.requires.within in
    let table = rules_get inside.tables s.0 c.table-table.result.now c.table-table.ensures in
    let changes : c.deref-2.result.now ≡ changes_at s inside.round.items = c.deref-2.ensures.value ∙ c.in_ok-changes.ensures ∙ ap (changes_at s) c.deref.ensures.value in
    subst (λ (ms : List MixedState). IsMixed c.table-table.result.now.rules c.deref-2.result.now (mix_at ms s)) (sym c.deref_mut.ensures.value)
    (subst (λ (cs : List Change). IsMixed c.table-table.result.now.rules cs (mix_at inside.mixes.items s)) (sym changes)
    (subst (λ (rs : List Rule). IsMixed rs (changes_at s inside.round.items) (mix_at inside.mixes.items s)) table here))

pub returns-clause-ready : goal.returns-clause-ready
returns-clause-ready c =
    let s = c.args.switch in
    let net = c.args.net.now in
    let inside = c.self.inside in
    let p : PreparedState = record { tables = inside.tables; mixes = inside.mixes.items; touched = inside.touched.items; changes = inside.changes.items; limits = inside.limits.items; room = vec_capacity inside.rules; round = inside.round.items } in
    let ready : AreSwitchesReady net inside.round.items p = subst (λ (v : PreparedState). AreSwitchesReady net v.round v) (sym c.self.view_is) c.requires.ready in
    let mixes = with_items inside.mixes c.widen_at.new.mixes in
    let limits = with_items inside.limits c.widen_at.new.rooms in
    let q : PreparedState = record { tables = inside.tables; mixes = mixes.items; touched = inside.touched.items; changes = inside.changes.items; limits = limits.items; room = vec_capacity inside.rules; round = inside.round.items } in
    let same : mixes.items ≡ c.widen_at.new.mixes = with_items_is inside.mixes c.widen_at.new.mixes (omega arith) in
    let noted : limits.items ≡ c.widen_at.new.rooms = with_items_is inside.limits c.widen_at.new.rooms (omega arith) in
    let lent : c.deref_mut.result.now ≡ inside.mixes.items = c.deref_mut.ensures.value in
    let made = c.widen_at.ensures in
    let table = rules_get inside.tables s.0 c.table-table.result.now c.table-table.ensures in
    let changes : c.deref-2.result.now ≡ changes_at s inside.round.items = c.deref-2.ensures.value ∙ c.in_ok-changes.ensures ∙ ap (changes_at s) c.deref.ensures.value in
    ready_wider net inside.round.items p s q ready refl (ap length same ∙ omega arith) (ap length noted ∙ omega arith)
    (subst (λ (ns : List ℕ). HaveRoom ns mixes.items) (sym noted) (subst (HaveRoom c.widen_at.new.rooms) (sym same) made.known))
    (λ o ne. ap (λ (ms : List MixedState). mix_at ms o) same ∙ made.others o ne ∙ ap (λ (ms : List MixedState). mix_at ms o) lent)
    (subst (λ (rs : List Rule). IsMixed rs (changes_at s inside.round.items) (mix_at mixes.items s)) (sym table)
    (subst (λ (cs : List Change). IsMixed c.table-table.result.now.rules cs (mix_at mixes.items s)) changes
    (subst (λ (ms : List MixedState). IsMixed c.table-table.result.now.rules c.deref-2.result.now (mix_at ms s)) (sym same) made.prepared)))

pub returns-clause-room : goal.returns-clause-room
returns-clause-room c =
    let s = c.args.switch in
    let inside = c.self.inside in
    let mixes = with_items inside.mixes c.widen_at.new.mixes in
    let same : mixes.items ≡ c.widen_at.new.mixes = with_items_is inside.mixes c.widen_at.new.mixes (omega arith) in
    on_ok_weaker c.widen_at.result (λ more. subst (λ (ms : List MixedState). HasOneMore (mix_at ms s)) (sym same) more) c.widen_at.ensures.room
