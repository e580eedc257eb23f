use Rattle.std.proofs.Common.{◌≡◌, List, ℕ, length, sym, ◌∙◌, ap, subst, arith}
use Rattle.std.specs.Prelude.{IfOk}
use Rattle.std.proofs.lemmas.List.{length-map}
use Rattle.flow_rules.specs.Tables.{TableState, rules_of_all}
use Rattle.update_model.specs.Mixtures.{Rollout}
use Rattle.round_tables.specs.PreparedTables.{PreparedState, HasRoomForAll, HoldsRounds, limit_at}
use Rattle.round_tables.proofs.RoomLaws.{both_ok, has_room_for_all}
use Rattle.round_tables.proofs.prepared.PreparedTables.make_for_all.Goals as goal

pub returns : goal.returns
returns c =
    let inside = c.update.inside in
    let u : Rollout = record { net = inside.net.now; old = rules_of_all inside.old.now; rounds = inside.rounds.now } in
    let limits = c.in_ok-limits.limits in
    let olds : length u.old ≡ length inside.old.now = length-map inside.old.now (λ (t : TableState). t.rules) in
    let count : length limits.items ≡ length u.old = c.in_ok-limits.ensures.len ∙ sym olds in
    subst (λ (v : Rollout). IfOk c.with_limits.result (HasRoomForAll v)) c.update.view_is
    (both_ok c.with_limits.result (HoldsRounds (length u.old) u.rounds) (λ (p : PreparedState). p.limits ≡ limits.items) (HasRoomForAll u)
    (λ p holds is. has_room_for_all u p holds (λ s less. ap (λ (ls : List ℕ). limit_at ls s) is ∙ c.in_ok-limits.ensures.each s (omega arith)))
    (subst (λ (n : ℕ). IfOk c.with_limits.result (HoldsRounds n u.rounds)) count c.with_limits.ensures.room) c.with_limits.ensures.limits)
