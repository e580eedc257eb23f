use Rattle.std.proofs.Common.{◌≡◌, [], ◌∷◌, List, length, refl, sym, ◌∙◌, ap, subst, arith, vec_capacity}
use Rattle.std.specs.Vec.{with_items}
use Rattle.std.proofs.lemmas.List.{with_items_is}
use Rattle.topology.specs.Networks.{switch_count}
use Rattle.flow_rules.specs.Tables.{rules_of_all}
use Rattle.round_mix.specs.Prepared.{MixedState}
use Rattle.round_tables.specs.PreparedTables.{PreparedState, mix_at}
use Rattle.round_tables.specs.Trials.{IsTrying}
use Rattle.round_tables.specs.Steps.{AreMixed, AreSwitchesReady}
use Rattle.round_tables.proofs.TakenLaws.{ready_made}
use Rattle.round_tables.proofs.TrialLaws.{fit_tried, ready_tried}
use Rattle.round_tables.proofs.prepared.PreparedTables.keep.Goals as goal

pub returns-clause-settled : goal.returns-clause-settled
returns-clause-settled c =
    let net = c.args.net.now in
    let change = c.args.change.now in
    let inside = c.self.inside in
    let n = switch_count net in
    let p : PreparedState = record { tables = inside.tables; mixes = inside.mixes.items; touched = inside.touched.items; changes = inside.changes.items; limits = inside.limits.items; room = vec_capacity inside.rules; round = inside.round.items } in
    let trying : IsTrying net change p = subst (IsTrying net change) (sym c.self.view_is) c.requires in
    let ready = ready_tried net change p trying in
    let old = c.deref_mut.result.now in
    let new = c.make_change.new.mixes in
    let mixes = with_items inside.mixes new in
    let same : mixes.items ≡ new = with_items_is inside.mixes new (omega arith) in
    let q : PreparedState = record { tables = c.make_change.new.tables; mixes = mixes.items; touched = inside.touched.items; changes = inside.changes.items; limits = inside.limits.items; room = vec_capacity inside.rules; round = inside.round.items } in
    let lent : old ≡ inside.mixes.items = c.deref_mut.ensures.value in
    let count = ready.fit.mixes in
    let made = c.in_ok-make_change.ensures in
    let after : AreSwitchesReady net [] q =
    ready_made net (change ∷ []) p q ready (fit_tried net change p trying) made.rules (ap length same ∙ omega arith) refl
    (λ s. let a = c.make_change.ensures.room s in let b = ap (λ (ms : List MixedState). (mix_at ms s).room) lent in let d = ap (λ (ms : List MixedState). (mix_at ms s).room) same in omega arith)
    (subst (AreMixed n (rules_of_all q.tables) []) (sym same)
    (made.kept n [] (let l = ap length lent in omega arith) (subst (AreMixed n (rules_of_all p.tables) (change ∷ [])) (sym lent) ready.each))) in
    record { none = trying.none; fit = after.fit; alone = after.each }
