use Rattle.std.proofs.Common.{◌≡◌, List, ℕ, length, ◌∙◌, ap, subst, arith}
use Rattle.std.specs.Prelude.{IfOk, min}
use Rattle.std.specs.Vec.{with_items}
use Rattle.std.proofs.lemmas.List.{with_items_is, length-map}
use Rattle.topology.specs.Networks.{switch_count, capacity_of}
use Rattle.flow_rules.specs.Tables.{TableState, rules_of_all}
use Rattle.update_model.specs.Mixtures.{Rollout}
use Rattle.round_tables.specs.PreparedTables.{PreparedState, HasTableRoom, HoldsRounds, limit_at}
use Rattle.round_tables.proofs.RoomLaws.{both_ok, has_room}
use Rattle.round_tables.proofs.prepared.PreparedTables.make.Goals as goal

pub returns : goal.returns
returns c =
    let inside = c.update.inside in
    let u : Rollout = record { net = inside.net.now; old = rules_of_all inside.old.now; rounds = inside.rounds.now } in
    let limits = with_items c.in_ok-limits.limits c.lower.new.limits in
    let same : limits.items ≡ c.lower.new.limits = with_items_is c.in_ok-limits.limits c.lower.new.limits (omega arith) in
    let olds : length u.old ≡ length inside.old.now = length-map inside.old.now (λ (t : TableState). t.rules) in
    let count : length limits.items ≡ length u.old = ap length same ∙ (let a = ap length c.deref_mut.ensures.value in let b = c.in_ok-limits.ensures.len in omega arith) in
    subst (λ (v : Rollout). IfOk c.with_limits.result (HasTableRoom v)) c.update.view_is
    (both_ok c.with_limits.result (HoldsRounds (length u.old) u.rounds) (λ (p : PreparedState). p.limits ≡ limits.items) (HasTableRoom u)
    (λ p holds is. has_room u p holds (λ s less.
    ap (λ (ls : List ℕ). limit_at ls s) (is ∙ same) ∙ c.lower.ensures s (let old = ap (λ (v : Rollout). length v.old) c.update.view_is in
    let nets = ap (λ (v : Rollout). switch_count v.net) c.update.view_is in omega (arith, old, nets, c.requires))
    ∙ ap (λ (n : ℕ). min n (capacity_of u.net s)) (ap (λ (ls : List ℕ). limit_at ls s) c.deref_mut.ensures.value ∙ c.in_ok-limits.ensures.each s (omega arith))))
    (subst (λ (n : ℕ). IfOk c.with_limits.result (HoldsRounds n u.rounds)) count c.with_limits.ensures.room) c.with_limits.ensures.limits)
