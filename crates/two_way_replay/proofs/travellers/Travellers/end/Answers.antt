use Rattle.std.proofs.Common.{◌≡◌, ◌<◌, ◌≤◌, ◌-◌, Bool, true, false, cond, List, sym, subst, refl, ap, ◌∙◌, nat_lt}
use mir.Val.{bool_byte}
use Rattle.net_base.proofs.ItemLaws.{past_end}
use Rattle.update_model.specs.States.{IsHopping}
use Rattle.update_model.specs.Worlds.{TrafficState, AreCounted}
use Rattle.update_model.specs.declared.Packet.{Packet}
use Rattle.update_model.proofs.CountLaws.{counted_one, counted_end, with_one, read_at}
use Rattle.two_way_replay.proofs.travellers.Travellers.end.Goals as goal

as_one : (b : Bool) → bool_byte b ≡ cond b 1 0
as_one true = refl
as_one false = refl

pub overflow_sub-self : goal.overflow_sub-self
overflow_sub-self c =
    let t = c.self.inside in
    let h : IsHopping t.packets.items c.args.i = subst (λ (s : TrafficState). IsHopping s.packets c.args.i) (sym c.self.view_is) c.requires.hopping in
    let counted = counted_one t.packets.items c.args.i t.settled t.under_way t.older h.0 c.self.invariant h.1 h.2 in
    let it : c.index.result.now ≡ h.0 = c.index.ensures ∙ read_at t.packets.items c.args.i h.0 c.index.result.now h.1 in
    let is : c.from.result ≡ cond (nat_lt h.0.born t.settled) 1 0 = c.from.ensures ∙ ap (λ n. bool_byte (nat_lt n t.settled)) (c.birth.ensures ∙ ap (λ (p : Packet). p.born) it) ∙ as_one (nat_lt h.0.born t.settled) in
    subst (λ n. n ≤ t.older) (sym is) counted.1

pub overflow_sub-self-2 : goal.overflow_sub-self-2
overflow_sub-self-2 c =
    let t = c.self.inside in
    let h : IsHopping t.packets.items c.args.i = subst (λ (s : TrafficState). IsHopping s.packets c.args.i) (sym c.self.view_is) c.requires.hopping in
    (counted_one t.packets.items c.args.i t.settled t.under_way t.older h.0 c.self.invariant h.1 h.2).0

pub end_packet-requires : goal.end_packet-requires
end_packet-requires c =
    let t = c.self.inside in
    let h : IsHopping t.packets.items c.args.i = subst (λ (s : TrafficState). IsHopping s.packets c.args.i) (sym c.self.view_is) c.requires.hopping in
    subst (λ n. c.args.i < n) (sym t.packets.ok.0) (past_end t.packets.items c.args.i h.0 h.1)

pub invariant_of-self : goal.invariant_of-self
invariant_of-self c =
    let t = c.self.inside in
    let h : IsHopping t.packets.items c.args.i = subst (λ (s : TrafficState). IsHopping s.packets c.args.i) (sym c.self.view_is) c.requires.hopping in
    let it : c.index.result.now ≡ h.0 = c.index.ensures ∙ read_at t.packets.items c.args.i h.0 c.index.result.now h.1 in
    let is : c.from.result ≡ cond (nat_lt h.0.born t.settled) 1 0 = c.from.ensures ∙ ap (λ n. bool_byte (nat_lt n t.settled)) (c.birth.ensures ∙ ap (λ (p : Packet). p.born) it) ∙ as_one (nat_lt h.0.born t.settled) in
    let after = counted_end t.packets.items c.args.i t.settled t.under_way t.older h.0 c.args.ended c.self.invariant h.1 h.2 c.requires.ends in
    subst (λ n. AreCounted c.end_packet.new.packets.items t.settled (t.under_way - 1) (t.older - n)) (sym is)
    (subst (λ (packets : List Packet). AreCounted packets t.settled (t.under_way - 1) (t.older - cond (nat_lt h.0.born t.settled) 1 0))
    (sym (c.end_packet.ensures ∙ with_one (λ p. record p { ended = c.args.ended }) c.args.i t.packets.items h.0 h.1)) after)
