-- The lines of traces, as comments of a schedule.
use Rattle.std.proofs.Common.{◌≡◌, ℕ, suc, ◌≤◌, true, List, [], ◌∷◌, ◌++◌, length, codes, decimal, Ok, refl, ap, arith}
use Rattle.std.specs.List.{AllByRecursion}
use Rattle.net_base.specs.declared.ids.Place.{Place}
use Rattle.net_base.specs.declared.ids.Stop.{Stop}
use Rattle.net_base.proofs.Cuts.{Lacks}
use Rattle.net_base.proofs.MemberLaws.{each_append}
use Rattle.path_walk.specs.declared.Ended.{Ended}
use Rattle.path_walk.specs.declared.Ended.TheVariants.{UnderWay, Left, Dropped, Lost}
use Rattle.topology.specs.Networks.{Network, IsNetwork}
use Rattle.update_model.specs.Worlds.{WorldState}
use Rattle.update_model.specs.declared.Event.{Event}
use Rattle.update_model.specs.declared.Packet.{Packet}
use Rattle.update_model.specs.declared.Phase.{Phase}
use Rattle.update_model.specs.declared.Phase.TheVariants.{Settled, Running}
use Rattle.net_base.specs.Lines.{is_comment}
use Rattle.schedule_replay.specs.EventTexts.{switch_text, stop_text, place_text, entry_text, HasLine}
use Rattle.schedule_replay.specs.Schedules.{schedule_in, numbered_lines}
use Rattle.schedule_replay.specs.Traces.{packet_text, stops_text, end_text, packet_line, packet_lines, phase_line, trace_lines, marked_lines, record_text}
use Rattle.schedule_replay.proofs.Printed.{are_from, from-append, are_lower, Lacks-from, decimal_from, name_from}
use Rattle.schedule_replay.proofs.EventsAgain.{stop_from, place_from, entry_from, lines_read}

pub number_from : (n : ℕ) → are_from 32 (decimal n) ≡ true
number_from n = are_lower 48 32 (decimal n) (omega arith) (decimal_from n)

-- the line of a phase holds neither a line end nor another byte below 32
pub phase_from : (phase : Phase) (rounds : ℕ) → are_from 32 (phase_line phase rounds) ≡ true
phase_from (Settled k) rounds =
    from-append 32 (codes "settled " ++ decimal k ++ codes " of ") (decimal rounds)
    (from-append 32 (codes "settled " ++ decimal k) (codes " of ") (from-append 32 (codes "settled ") (decimal k) refl (number_from k)) refl) (number_from rounds)
phase_from (Running k) rounds =
    from-append 32 (codes "running " ++ decimal k ++ codes " of ") (decimal rounds)
    (from-append 32 (codes "running " ++ decimal k) (codes " of ") (from-append 32 (codes "running ") (decimal k) refl (number_from k)) refl) (number_from rounds)

module _ (net : Network) (keeps : IsNetwork net) where
  stops_from : (stops : List Stop) → are_from 32 (stops_text net stops) ≡ true
  stops_from [] = refl
  stops_from (stop ∷ stops) =
      let here : are_from 32 (stop_text net stop) ≡ true = are_lower 45 32 (stop_text net stop) (omega arith) (stop_from net keeps stop) in
      from-append 32 (codes " " ++ stop_text net stop) (stops_text net stops) (from-append 32 (codes " ") (stop_text net stop) refl here) (stops_from stops)

  end_from : (ended : Ended) → are_from 32 (end_text net ended) ≡ true
  end_from UnderWay = refl
  end_from (Left switch port vlan) =
      let place : Place = record { switch = switch; port = port; vlan = vlan } in
      from-append 32 (codes " left ") (place_text net place) refl (place_from net keeps place)
  end_from (Dropped switch) =
      from-append 32 (codes " dropped ") (switch_text net switch) refl (are_lower 45 32 (switch_text net switch) (omega arith) (name_from net.names switch.0 keeps.name_forms))
  end_from Lost = refl

  head_from : (i : ℕ) (p : Packet) → are_from 32 (packet_text net i p) ≡ true
  head_from i p =
      let a : List ℕ = codes "packet " ++ decimal i in
      let b : List ℕ = a ++ codes " " in
      let c : List ℕ = b ++ entry_text net p.entry p.dst in
      let d : List ℕ = c ++ codes " born " in
      let e : List ℕ = d ++ decimal p.born in
      let in_b : are_from 32 b ≡ true = from-append 32 a (codes " ") (from-append 32 (codes "packet ") (decimal i) refl (number_from i)) refl in
      let in_d : are_from 32 d ≡ true = from-append 32 c (codes " born ") (from-append 32 b (entry_text net p.entry p.dst) in_b (entry_from net keeps p.entry p.dst)) refl in
      from-append 32 e (codes ":") (from-append 32 d (decimal p.born) in_d (number_from p.born)) refl

  line_from : (i : ℕ) (p : Packet) → are_from 32 (packet_line net i p) ≡ true
  line_from i p =
      let head : List ℕ = packet_text net i p in
      from-append 32 (head ++ stops_text net p.visits) (end_text net p.ended) (from-append 32 head (stops_text net p.visits) (head_from i p) (stops_from p.visits)) (end_from p.ended)

  abbrev pub IsPlain : List ℕ → Type 0
  IsPlain line = are_from 32 line ≡ true

  packets_from : (i : ℕ) (ps : List Packet) → AllByRecursion IsPlain (packet_lines net i ps)
  packets_from i [] = tt
  packets_from i (p ∷ ps) = (line_from i p, packets_from (suc i) ps)

  traces_from : (w : WorldState) → AllByRecursion IsPlain (trace_lines net w)
  traces_from w =
      each_append IsPlain (packet_lines net 0 w.state.packets) (phase_line w.state.phase (length w.rounds) ∷ []) (packets_from 0 w.state.packets)
      (phase_from w.state.phase (length w.rounds), tt)

  pub are_comments : (lines : List (List ℕ)) → AllByRecursion (λ l. is_comment l ≡ true) (marked_lines (codes "# ") lines)
  are_comments [] = tt
  are_comments (line ∷ lines) = (refl, are_comments lines)

  pub comments_lack : (lines : List (List ℕ)) → AllByRecursion IsPlain lines → AllByRecursion (Lacks 10) (marked_lines (codes "# ") lines)
  comments_lack [] h = tt
  comments_lack (line ∷ lines) h = (Lacks-from 32 10 (codes "# " ++ line) (omega arith) (from-append 32 (codes "# ") line refl h.0), comments_lack lines h.1)

  pub record_again : (es : List Event) (w : WorldState) → AllByRecursion (HasLine net) es → length es ≤ 4000000 → schedule_in net (record_text net es w) ≡ Ok (numbered_lines 1 es)
  record_again es w h few =
      lines_read net keeps es (marked_lines (codes "# ") (trace_lines net w)) h few (are_comments (trace_lines net w)) (comments_lack (trace_lines net w) (traces_from w))

-- nothing before a line changes nothing
pub marked_by_nothing : (lines : List (List ℕ)) → marked_lines [] lines ≡ lines
marked_by_nothing [] = refl
marked_by_nothing (line ∷ lines) = ap (λ (ls : List (List ℕ)). line ∷ ls) (marked_by_nothing lines)
