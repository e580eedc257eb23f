use Rattle.std.proofs.Common.{List, sym, subst, refl, ◌∙◌}
use Rattle.std.specs.Prelude.{Ok, Err, Result, IfOk, OnErr}
use Rattle.update_model.specs.States.{IsHopping, hopped_packet}
use Rattle.update_model.specs.Worlds.{TrafficState, AreCounted}
use Rattle.update_model.specs.declared.Packet.{Packet}
use Rattle.path_walk.specs.declared.Outcome.TheVariants.{Go}
use Rattle.update_model.proofs.CountLaws.{counted_go, with_one}
use Rattle.two_way_replay.proofs.travellers.Travellers.go_on.Goals as goal

pub invariant_of-self : goal.invariant_of-self
invariant_of-self c =
    let t = c.self.inside in
    let hopping : IsHopping t.packets.items c.args.i = subst (λ (s : TrafficState). IsHopping s.packets c.args.i) (sym c.self.view_is) c.requires in
    let moved : Packet = hopped_packet hopping.0 (Go c.args.next) in
    let after = counted_go t.packets.items c.args.i t.settled t.under_way t.older hopping.0 moved c.self.invariant hopping.1 refl refl in
    either c.move_packet.result
    (λ (packets : List Packet). AreCounted packets t.settled t.under_way t.older) c.move_packet.new.packets.items
    (λ e. subst (λ (packets : List Packet). AreCounted packets t.settled t.under_way t.older) (sym (e ∙ with_one (λ p. hopped_packet p (Go c.args.next)) c.args.i t.packets.items hopping.0 hopping.1)) after)
    (λ e. subst (λ (packets : List Packet). AreCounted packets t.settled t.under_way t.older) (sym e) c.self.invariant)
    c.move_packet.ensures.ok c.move_packet.ensures.err
  where
    either : {T E : Type 0} (r : Result T E) (P : List Packet → Type 0) (packets : List Packet) {A B : Type 0} → (A → P packets) → (B → P packets) → IfOk r (λ _. A) → OnErr r B → P packets
    either (Ok x) P packets f g a b = f a
    either (Err e) P packets f g a b = g b
