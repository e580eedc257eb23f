-- A line has room for each event of a run.
use Rattle.std.proofs.Common.{◌≡◌, ℕ, zero, suc, ◌+◌, ◌<◌, ◌≤◌, ◌^◌, List, [], ◌∷◌, length, set, Option, Some, None, slice_get, refl, arith}
use Rattle.std.specs.List.{AllByRecursion}
use Rattle.std.specs.Option.{option_map_or}
use Rattle.std.proofs.Math.ListN.{length-set}
use Rattle.std.proofs.lemmas.List.{length_push}
use Rattle.std.proofs.lemmas.Option.{slice_get_within}
use Rattle.net_base.specs.declared.ids.Place.{Place}
use Rattle.net_base.proofs.MemberLaws.{each_at, in_append_left}
use Rattle.topology.specs.Networks.{Network, IsNetwork, IsVlan, IsPortNumber, IsEntry, used_ports}
use Rattle.path_walk.specs.Paths.{outcome_in}
use Rattle.update_model.specs.Changes.{round_after}
use Rattle.update_model.specs.Runs.{AreEnabled}
use Rattle.update_model.specs.States.{State, IsEnabled, state_after_event, with_packet, hopped_packet, lost_packet, entered_packet, settled_count}
use Rattle.update_model.specs.declared.Change.{Change}
use Rattle.update_model.specs.declared.Packet.{Packet}
use Rattle.update_model.specs.declared.Event.{Event}
use Rattle.update_model.specs.declared.Event.TheVariants as event
use Rattle.schedule_replay.specs.EventTexts.{HasLine}

-- as many packets after one is changed
same_packets : (f : Packet → Packet) (i : ℕ) (ps : List Packet) → length (with_packet f i ps) ≡ length ps
same_packets f i ps = by_found (slice_get ps i)
  where
    by_found : (o : Option Packet) → length (option_map_or (λ p. set ps i (f p)) o ps) ≡ length ps
    by_found None = refl
    by_found (Some p) = length-set ps i (f p)

-- no round has more changes than numbers of 32 bits
abbrev pub AreShort : List (List Change) → Type 0
AreShort rounds = AllByRecursion (λ round. length round ≤ 2 ^ 32) rounds

short_at : (rounds : List (List Change)) (k : ℕ) → AreShort rounds → length (round_after k rounds) ≤ 2 ^ 32
short_at [] k h = omega arith
short_at (round ∷ rounds) zero h = h.0
short_at (round ∷ rounds) (suc k) h = short_at rounds k h.1

module _ (net : Network) (keeps : IsNetwork net) (rounds : List (List Change)) (short : AreShort rounds) where
  entry_has_line : (place : Place) (dst : ℕ) → IsEntry net place → dst < 2 ^ 32 → HasLine net (event.Enter place dst)
  entry_has_line place dst entry small =
      let port = each_at (λ stop. (stop.switch.0 < length net.names) × IsPortNumber stop.port.0) (used_ports net) (record { switch = place.switch; port = place.port }) keeps.ports
      (in_append_left (record { switch = place.switch; port = place.port }) net.hosts _ entry.host) in
      (port.0, port.1, each_at IsVlan net.vlans place.vlan keeps.vlans entry.declared, small)

  event_has_line : (s : State) (e : Event) → length s.packets < 2 ^ 32 → IsEnabled net rounds s e → HasLine net e
  event_has_line s event.Start few h = tt
  event_has_line s event.Settle few h = tt
  event_has_line s (event.Change i) few h =
      let lt = slice_get_within (round_after h.k rounds) i h.change h.is in
      let le = short_at rounds h.k short in
      omega arith
  event_has_line s (event.Enter place dst) few h = entry_has_line place dst h.0 h.1
  event_has_line s (event.Hop i) few h = let lt = slice_get_within s.packets i h.0 h.1 in omega arith
  event_has_line s (event.Lose i) few h = let lt = slice_get_within s.packets i h.0 h.1 in omega arith

  one_more : (s : State) (e : Event) → length (state_after_event net rounds s e).packets ≤ length s.packets + 1
  one_more s event.Start = omega arith
  one_more s event.Settle = omega arith
  one_more s (event.Change i) = omega arith
  one_more s (event.Enter place dst) = let n = length_push s.packets (entered_packet place dst (settled_count s.phase)) in omega arith
  one_more s (event.Hop i) = let n = same_packets (λ p. hopped_packet p (outcome_in net s.tables p.at p.dst)) i s.packets in omega arith
  one_more s (event.Lose i) = let n = same_packets lost_packet i s.packets in omega arith

  pub lines_of_run : (s : State) (es : List Event) → length s.packets + length es ≤ 2 ^ 32 → AreEnabled net rounds s es → AllByRecursion (HasLine net) es
  lines_of_run s [] few run = tt
  lines_of_run s (e ∷ es) few run =
      let more = one_more s e in
      (event_has_line s e (omega arith) run.0, lines_of_run (state_after_event net rounds s e) es (omega arith) run.1)
