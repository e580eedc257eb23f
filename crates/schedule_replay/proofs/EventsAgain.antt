-- The line of an event spells the event.
use Rattle.std.proofs.Common.{◌≡◌, ℕ, suc, ◌+◌, ◌<◌, ◌≤◌, ◌^◌, true, false, List, [], ◌∷◌, ◌++◌, length, map, codes, decimal, Some, Ok, refl, sym, ap, ◌∙◌, append_assoc, arith}
use Rattle.std.specs.List.{AllByRecursion}
use Rattle.std.specs.Str.{bytes_eq}
use Rattle.std.proofs.lemmas.Bool.{le-leb, lt-ltb, false_from_ne_true}
use Rattle.std.proofs.lemmas.List.{append-nil, length_push}
use Rattle.std.proofs.lemmas.Fmt.{length-decimal-le, digits_decimal}
use Rattle.std.proofs.lemmas.Str.Parse.{not_in_digits}
use Rattle.std.proofs.lemmas.Slice.Eq.{bytes_eq-Decides}
use Rattle.net_base.specs.Places.{stop_of}
use Rattle.net_base.specs.Reading.{in_turn, place_of}
use Rattle.net_base.specs.Text.{address_text, vlan_text}
use Rattle.net_base.specs.declared.ids.Place.{Place}
use Rattle.net_base.specs.declared.ids.Stop.{Stop}
use Rattle.net_base.specs.declared.ids.Vlan.{Vlan}
use Rattle.net_base.specs.declared.ids.Vlan.TheVariants as vlan
use Rattle.net_base.proofs.MemberLaws.{each_append}
use Rattle.net_base.proofs.Cuts.{Lacks, cut_first-at, cut_last-at}
use Rattle.net_base.proofs.Decimals.{own, decimal_in-decimal}
use Rattle.net_base.proofs.Prefixes.{address_in-text}
use Rattle.topology.specs.Networks.{Network, IsNetwork, switch_count, IsPortNumber, IsVlan}
use Rattle.update_model.specs.declared.Event.{Event}
use Rattle.update_model.specs.declared.Event.TheVariants.{Start, Settle, Change, Enter, Hop, Lose}
use Rattle.schedule_replay.specs.declared.schedule.ScheduleLine.{ScheduleLine}
use Rattle.net_base.specs.Lines.{lines_of, text_of, is_comment}
use Rattle.text_lines.specs.Words.{id_in, vlan_in}
use Rattle.schedule_replay.specs.EventLines.{stop_in, entry_in, number_in, worded_event, spelled_event, event_in}
use Rattle.schedule_replay.specs.EventTexts.{switch_text, stop_text, place_text, entry_text, event_text, schedule_text, HasLine}
use Rattle.schedule_replay.specs.Schedules.{event_at, line_at, schedule_in, numbered_lines}
use Rattle.schedule_replay.proofs.Printed.{are_from, from-append, are_lower, Lacks-from, is_utf8-from, decimal_from, address_from, vlan_from, name_from}
use Rattle.schedule_replay.proofs.LinesAgain.{lines_again}
use Rattle.topology.proofs.NamedLaws.{named_again}

-- ---- the parts of an entry

no_colon : (n : ℕ) → n < 2 ^ 64 → Lacks 58 (decimal n)
no_colon n small = not_in_digits own (decimal n) 58 (digits_decimal own n small) (λ r. omega arith)

module _ (net : Network) (keeps : IsNetwork net) where
  pub stop_from : (stop : Stop) → are_from 45 (stop_text net stop) ≡ true
  stop_from stop =
      let d : are_from 45 (decimal stop.port.0) ≡ true = are_lower 48 45 (decimal stop.port.0) (omega arith) (decimal_from stop.port.0) in
      from-append 45 (switch_text net stop.switch ++ codes ":") (decimal stop.port.0) (from-append 45 (switch_text net stop.switch) (codes ":") (name_from net.names stop.switch.0 keeps.name_forms) refl) d

  stop_again : (stop : Stop) → stop.switch.0 < switch_count net → IsPortNumber stop.port.0 → stop_in net (stop_text net stop) ≡ Some stop
  unfolding stop_in
  stop_again stop switch port =
      let joined : stop_text net stop ≡ switch_text net stop.switch ++ 58 ∷ decimal stop.port.0 = append_assoc (switch_text net stop.switch) (codes ":") (decimal stop.port.0) in
      rw (
        joined,
        cut_last-at 58 (switch_text net stop.switch) (decimal stop.port.0) (no_colon stop.port.0 (omega (arith, port.1))),
        named_again net.names stop.switch.0 keeps.names switch,
        decimal_in-decimal stop.port.0 65279 port.1 (omega arith),
        le-leb 1 stop.port.0 port.0,
      ) refl

id_again : (id : ℕ) → 1 ≤ id → id ≤ 4094 → vlan_in (decimal id) ≡ Some (vlan.Id id)
unfolding id_in
id_again id low high =
    let short : length (decimal id) ≤ 4 = length-decimal-le 4 id (omega arith) (omega arith) (omega arith) in
    let other : bytes_eq (decimal id) (codes "untagged") ≡ false =
    false_from_ne_true (bytes_eq (decimal id) (codes "untagged")) (λ e. let same = ap length ((bytes_eq-Decides (decimal id) (codes "untagged")).0 e) in omega (arith, same)) in
    rw (other, decimal_in-decimal id 4094 high (omega arith), le-leb 1 id low) refl

vlan_again : (v : Vlan) → IsVlan v → vlan_in (vlan_text v) ≡ Some v
vlan_again vlan.Untagged h = refl
vlan_again (vlan.Id id) h = id_again id h.0 h.1

module _ (net : Network) (keeps : IsNetwork net) where
  pub place_from : (place : Place) → are_from 32 (place_text net place) ≡ true
  place_from place =
      let stop : List ℕ = stop_text net (stop_of place) in
      let first : are_from 32 stop ≡ true = are_lower 45 32 stop (omega arith) (stop_from net keeps (stop_of place)) in
      let last : are_from 32 (vlan_text place.vlan) ≡ true = are_lower 48 32 (vlan_text place.vlan) (omega arith) (vlan_from place.vlan) in
      from-append 32 (stop ++ codes " ") (vlan_text place.vlan) (from-append 32 stop (codes " ") first refl) last

  pub entry_from : (place : Place) (dst : ℕ) → are_from 32 (entry_text net place dst) ≡ true
  entry_from place dst =
      let first : List ℕ = place_text net place in
      let last : are_from 32 (address_text dst) ≡ true = are_lower 46 32 (address_text dst) (omega arith) (address_from dst) in
      from-append 32 (first ++ codes " ") (address_text dst) (from-append 32 first (codes " ") (place_from place) refl) last

  pub event_from : (e : Event) → are_from 32 (event_text net e) ≡ true
  event_from Start = refl
  event_from Settle = refl
  event_from (Change i) = from-append 32 (codes "change ") (decimal i) refl (are_lower 48 32 (decimal i) (omega arith) (decimal_from i))
  event_from (Enter place dst) = from-append 32 (codes "enter ") (entry_text net place dst) refl (entry_from place dst)
  event_from (Hop i) = from-append 32 (codes "hop ") (decimal i) refl (are_lower 48 32 (decimal i) (omega arith) (decimal_from i))
  event_from (Lose i) = from-append 32 (codes "lose ") (decimal i) refl (are_lower 48 32 (decimal i) (omega arith) (decimal_from i))

  entry_again : (place : Place) (dst : ℕ) → HasLine net (Enter place dst) → entry_in net (entry_text net place dst) ≡ Some (Enter place dst)
  unfolding entry_in
  entry_again place dst h =
      let stop : List ℕ = stop_text net (stop_of place) in
      let behind : List ℕ = vlan_text place.vlan ++ 32 ∷ address_text dst in
      let joined : entry_text net place dst ≡ stop ++ 32 ∷ behind = simp append_assoc in
      let lacks_stop : Lacks 32 stop = Lacks-from 45 32 stop (omega arith) (stop_from net keeps (stop_of place)) in
      let lacks_vlan : Lacks 32 (vlan_text place.vlan) = Lacks-from 48 32 (vlan_text place.vlan) (omega arith) (vlan_from place.vlan) in
      rw (
        joined,
        cut_first-at 32 stop behind lacks_stop,
        cut_first-at 32 (vlan_text place.vlan) (address_text dst) lacks_vlan,
        stop_again net keeps (stop_of place) h.0 h.1,
        vlan_again place.vlan h.2,
        address_in-text dst h.3,
      ) refl

  number_again : (i : ℕ) → i < 2 ^ 32 → number_in (decimal i) ≡ Some i
  number_again i h = decimal_in-decimal i 4294967295 (omega arith) (omega arith)

  spelled_again : (e : Event) → HasLine net e → spelled_event net (event_text net e) ≡ Some e
  unfolding worded_event
  spelled_again Start h = refl
  spelled_again Settle h = refl
  spelled_again (Change i) h = rw (number_again i h) refl
  spelled_again (Enter place dst) h = rw (entry_again place dst h) refl
  spelled_again (Hop i) h = rw (number_again i h) refl
  spelled_again (Lose i) h = rw (number_again i h) refl

  event_again : (e : Event) → HasLine net e → event_in net (event_text net e) ≡ Some e
  event_again e h = rw (is_utf8-from 32 (event_text net e) (event_from e)) (spelled_again e h)

  no_comment : (e : Event) → is_comment (event_text net e) ≡ false
  no_comment Start = refl
  no_comment Settle = refl
  no_comment (Change i) = refl
  no_comment (Enter place dst) = refl
  no_comment (Hop i) = refl
  no_comment (Lose i) = refl

  line_again : (number : ℕ) (before : List ScheduleLine) (e : Event) → HasLine net e → length before < 4000000 → line_at net number before (event_text net e) ≡ Ok (before ++ record { line = number; event = e } ∷ [])
  unfolding event_at
  line_again number before e h few = rw (no_comment e, event_again e h, lt-ltb (length before) 4000000 few) refl

  -- ---- all lines

  comments_again : (n : ℕ) (before : List ScheduleLine) (lines : List (List ℕ)) → AllByRecursion (λ l. is_comment l ≡ true) lines → in_turn (line_at net) n before lines ≡ Ok before
  unfolding in_turn
  comments_again n before [] h = refl
  comments_again n before (l ∷ lines) h = rw h.0 (comments_again (suc n) before lines h.1)

  events_again : (n : ℕ) (before : List ScheduleLine) (es : List Event) (comments : List (List ℕ)) → AllByRecursion (HasLine net) es → AllByRecursion (λ l. is_comment l ≡ true) comments
      → n + length es ≤ 4294967296 → length before + length es ≤ 4000000 → in_turn (line_at net) n before (map (event_text net) es ++ comments) ≡ Ok (before ++ numbered_lines n es)
  unfolding in_turn
  events_again n before [] comments h c small few = comments_again n before comments c ∙ ap (λ (ls : List ScheduleLine). Ok ls) (sym (append-nil before))
  events_again n before (e ∷ es) comments h c small few =
      let at : place_of n ≡ n = omega arith in
      let line : ScheduleLine = record { line = n; event = e } in
      let longer : length (before ++ line ∷ []) ≡ length before + 1 = length_push before line in
      rw (at, line_again n before e h.0 (omega arith))
      (events_again (suc n) (before ++ line ∷ []) es comments h.1 c (omega arith) (omega (arith, longer)) ∙ ap (λ (ls : List ScheduleLine). Ok ls) (append_assoc before (line ∷ []) (numbered_lines (suc n) es)))

  events_lack : (es : List Event) → AllByRecursion (Lacks 10) (map (event_text net) es)
  events_lack [] = tt
  events_lack (e ∷ es) = (Lacks-from 32 10 (event_text net e) (omega arith) (event_from e), events_lack es)

  comments_pass : (n : ℕ) (before : List ScheduleLine) (lines rest : List (List ℕ)) → AllByRecursion (λ l. is_comment l ≡ true) lines → in_turn (line_at net) n before (lines ++ rest) ≡ in_turn (line_at net) (n + length lines) before rest
  unfolding in_turn
  comments_pass n before [] rest h = let same : n ≡ n + 0 = omega arith in ap (λ (k : ℕ). in_turn (line_at net) k before rest) same
  comments_pass n before (l ∷ lines) rest h =
      let same : suc n + length lines ≡ n + suc (length lines) = omega arith in
      rw h.0 (comments_pass (suc n) before lines rest h.1 ∙ ap (λ (k : ℕ). in_turn (line_at net) k before rest) same)

  -- reading the lines of events, with comments before and after them, gives the events
  pub lines_between : (front : List (List ℕ)) (es : List Event) (behind : List (List ℕ)) → AllByRecursion (λ l. is_comment l ≡ true) front → AllByRecursion (Lacks 10) front
      → AllByRecursion (HasLine net) es → length es ≤ 4000000 → length front ≤ 1000000
      → AllByRecursion (λ l. is_comment l ≡ true) behind → AllByRecursion (Lacks 10) behind
      → schedule_in net (text_of (front ++ (map (event_text net) es ++ behind))) ≡ Ok (numbered_lines (1 + length front) es)
  lines_between front es behind cf lf h few short cb lb =
      let events : List (List ℕ) = map (event_text net) es in
      let lines : List (List ℕ) = front ++ (events ++ behind) in
      let each : AllByRecursion (Lacks 10) lines = each_append (Lacks 10) front (events ++ behind) lf (each_append (Lacks 10) events behind (events_lack es) lb) in
      let cut : lines_of (text_of lines) ≡ front ++ (events ++ (behind ++ [] ∷ [])) =
      lines_again lines each ∙ append_assoc front (events ++ behind) ([] ∷ []) ∙ ap (λ (ls : List (List ℕ)). front ++ ls) (append_assoc events behind ([] ∷ [])) in
      let last : AllByRecursion (λ l. is_comment l ≡ true) (behind ++ [] ∷ []) = each_append (λ l. is_comment l ≡ true) behind ([] ∷ []) cb (refl, tt) in
      ap (in_turn (line_at net) 1 []) cut ∙ comments_pass 1 [] front (events ++ (behind ++ [] ∷ [])) cf
      ∙ events_again (1 + length front) [] es (behind ++ [] ∷ []) h last (omega arith) (omega arith)

  -- the same with comments after them alone
  pub lines_read : (es : List Event) (comments : List (List ℕ)) → AllByRecursion (HasLine net) es → length es ≤ 4000000 → AllByRecursion (λ l. is_comment l ≡ true) comments → AllByRecursion (Lacks 10) comments
      → schedule_in net (text_of (map (event_text net) es ++ comments)) ≡ Ok (numbered_lines 1 es)
  lines_read es comments h few c lacks = lines_between [] es comments tt tt h few (omega arith) c lacks

  pub schedule_again : (es : List Event) → AllByRecursion (HasLine net) es → length es ≤ 4000000 → schedule_in net (schedule_text net es) ≡ Ok (numbered_lines 1 es)
  schedule_again es h few =
      let same : map (event_text net) es ++ [] ≡ map (event_text net) es = append-nil (map (event_text net) es) in
      ap (λ (ls : List (List ℕ)). schedule_in net (text_of ls)) (sym same) ∙ lines_read es [] h few tt tt
