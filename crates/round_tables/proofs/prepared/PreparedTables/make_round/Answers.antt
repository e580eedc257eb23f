use Rattle.std.proofs.Common.{◌≡◌, [], List, length, refl, sym, ◌∙◌, ap, subst, arith, vec_capacity}
use Rattle.std.specs.Vec.{with_items}
use Rattle.std.proofs.lemmas.List.{with_items_is}
use Rattle.topology.specs.Networks.{switch_count}
use Rattle.flow_rules.specs.Tables.{rules_of_all}
use Rattle.flow_rules.specs.declared.rules.Rule.{Rule}
use Rattle.update_model.specs.Changes.{tables_after}
use Rattle.update_model.specs.declared.Change.{Change}
use Rattle.round_mix.specs.Prepared.{MixedState}
use Rattle.round_tables.specs.PreparedTables.{PreparedState, mix_at}
use Rattle.round_tables.specs.Steps.{AreMixed, AreSwitchesReady}
use Rattle.round_tables.specs.Filling.{AreTakenChanges, FitTables}
use Rattle.round_tables.proofs.FitLaws.{fit_made}
use Rattle.round_tables.proofs.TakenLaws.{ready_made, taken_of}
use Rattle.round_tables.proofs.prepared.PreparedTables.make_round.Goals as goal

pub returns-clause-stands : goal.returns-clause-stands
returns-clause-stands c =
    let net = c.args.net.now in
    let inside = c.self.inside in
    let n = switch_count net in
    let round = inside.round.items in
    let p : PreparedState = record { tables = inside.tables; mixes = inside.mixes.items; touched = inside.touched.items; changes = inside.changes.items; limits = inside.limits.items; room = vec_capacity inside.rules; round = round } in
    let taken : AreTakenChanges net p = subst (AreTakenChanges net) (sym c.self.view_is) c.requires in
    let new = c.make_all.new.mixes in
    let made_mixes = with_items inside.mixes new in
    let made_same : made_mixes.items ≡ new = with_items_is inside.mixes new (omega arith) in
    let mixes = with_items made_mixes c.index_all.new.mixes in
    let same : mixes.items ≡ new = with_items_is made_mixes c.index_all.new.mixes (omega arith) ∙ c.index_all.ensures ∙ c.deref_mut-2.ensures.value ∙ made_same in
    let q : PreparedState = record { tables = c.make_all.new.tables; mixes = mixes.items; touched = inside.touched.items; changes = inside.changes.items; limits = inside.limits.items; room = vec_capacity inside.rules; round = c.clear.new.self.items } in
    let none : q.round ≡ [] = c.clear.ensures.items in
    let lent : c.deref_mut.result.now ≡ inside.mixes.items = c.deref_mut.ensures.value in
    let listed : c.deref.result.now ≡ round = c.deref.ensures.value in
    let count = taken.ready.fit.mixes in
    let had = ap (λ (ms : List MixedState). length ms) lent in
    let made = c.in_ok-make_all.ensures in
    let rules : rules_of_all q.tables ≡ tables_after round (rules_of_all p.tables) = made.rules ∙ ap (λ (cs : List Change). tables_after cs (rules_of_all inside.tables)) listed in
    let alone : AreMixed n (rules_of_all q.tables) [] q.mixes =
    subst (AreMixed n (rules_of_all q.tables) []) (sym same) (λ s less. made.alone s (omega arith)) in
    let after : AreSwitchesReady net [] q =
    ready_made net round p q taken.ready taken.fit rules (ap (λ (ms : List MixedState). length ms) same ∙ omega arith) refl
    (λ s. let a = c.make_all.ensures.room s in let b = ap (λ (ms : List MixedState). (mix_at ms s).room) lent in let d = ap (λ (ms : List MixedState). (mix_at ms s).room) same in omega arith)
    alone in
    taken_of net c.keeps_rules.ensures q (subst (λ (cs : List Change). AreSwitchesReady net cs q) (sym none) after)
    (subst (FitTables net (rules_of_all q.tables)) (sym none) (subst (λ (ts : List (List Rule)). FitTables net ts []) (sym rules) (fit_made net (rules_of_all p.tables) round taken.fit)))
