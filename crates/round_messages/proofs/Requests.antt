-- How many requests there are, and that each is in range.
use Rattle.std.proofs.Common.{◌≡◌, ℕ, zero, suc, ◌+◌, ◌*◌, ◌<◌, ◌≤◌, ◌^◌, Bool, true, false, cond, List, [], ◌∷◌, ◌++◌, length, map, sym, ap, ◌∙◌, append_assoc, append-nil, length-append, arith}
use Rattle.std.specs.Prelude.{filter, sum_by, Option, Some, None}
use Rattle.std.specs.List.{AllByRecursion, range_with_len}
use Rattle.std.proofs.lemmas.List.{length-map}
use Rattle.std.proofs.lemmas.List.FromFn.{length-map-range_with_len}
use Rattle.std.proofs.lemmas.List.Sums.{length-filter, count_by-le-length, sum_by-cons}
use Rattle.net_base.specs.declared.ids.SwitchId.{SwitchId}
use Rattle.net_base.proofs.MemberLaws.{each_append}
use Rattle.topology.specs.Networks.{Network, switch_count}
use Rattle.update_model.specs.Ranges.{IsPlanChange}
use Rattle.update_model.specs.declared.Change.{Change}
use Rattle.update_model.specs.declared.Change.TheVariants.{Insert, Delete, Replace}
use Rattle.openflow10.specs.Messages.{IsMessage, message_of}
use Rattle.round_messages.specs.Requests.{Request, Sent, switch_numbered, switches_changed, is_changed, change_request, barrier_request, round_requests, requests_from, message_for, sent_for, sent_from}
use Rattle.net_base.specs.Switches.{most_switches}

-- the messages of requests in a row
pub sent_from-append : (xid : ℕ) (rs ss : List Request) → sent_from xid (rs ++ ss) ≡ sent_from xid rs ++ sent_from (xid + length rs) ss
sent_from-append xid [] ss = ap (λ (n : ℕ). sent_from n ss) (omega arith)
sent_from-append xid (r ∷ rs) ss =
    let place : suc xid + length rs ≡ xid + suc (length rs) = omega arith in
    ap (λ l. sent_for r xid ∷ l) (sent_from-append (suc xid) rs ss ∙ ap (λ (n : ℕ). sent_from (suc xid) rs ++ sent_from n ss) place)

-- one round more
pub requests_from-push : (net : Network) (k : ℕ) (rounds : List (List Change)) (round : List Change) → requests_from net k (rounds ++ round ∷ []) ≡ requests_from net k rounds ++ round_requests net (k + length rounds) round
requests_from-push net k [] round = append-nil (round_requests net k round) ∙ ap (λ (n : ℕ). round_requests net n round) (omega arith)
requests_from-push net k (first ∷ rounds) round =
    let place : suc k + length rounds ≡ k + suc (length rounds) = omega arith in
    ap (λ l. round_requests net k first ++ l) (requests_from-push net (suc k) rounds round ∙ ap (λ (n : ℕ). requests_from net (suc k) rounds ++ round_requests net n round) place)
    ∙ sym (append_assoc (round_requests net k first) (requests_from net (suc k) rounds) (round_requests net (k + suc (length rounds)) round))

-- a filter of the first switches
pub few_passed : (p : SwitchId → Bool) (n : ℕ) → length (filter p (map switch_numbered (range_with_len 0 n))) ≤ n
few_passed p n =
    let xs = map switch_numbered (range_with_len 0 n) in
    let a = length-filter p xs in
    let b = count_by-le-length p xs in
    let c = length-map-range_with_len switch_numbered 0 n in
    omega (arith, a, b, c)

pub round_count : (net : Network) (k : ℕ) (round : List Change) → length (round_requests net k round) ≤ length round + switch_count net
round_count net k round =
    let a = length-append (map (change_request k) round) (map (barrier_request k) (switches_changed net round)) in
    let b = length-map round (change_request k) in
    let c = length-map (switches_changed net round) (barrier_request k) in
    let d = few_passed (is_changed round) (switch_count net) in
    omega (arith, a, b, c, d)

pub request_count : (net : Network) (k : ℕ) (rounds : List (List Change)) → switch_count net ≤ most_switches → length (requests_from net k rounds) ≤ sum_by length rounds + most_switches * length rounds
request_count net k [] few = omega arith
request_count net k (round ∷ rounds) few =
    let a = length-append (round_requests net k round) (requests_from net (suc k) rounds) in
    let b = round_count net k round in
    let c = request_count net (suc k) rounds few in
    let d = sum_by-cons length round rounds in
    omega (arith, a, b, c, d)

-- ---- ranges

-- a request of one of the first 4200 rounds to a switch that there is; a change is one of a plan
abbrev pub IsChangeOf : Network → Option Change → Type 0
IsChangeOf net None = Unit {0}
IsChangeOf net (Some c) = IsPlanChange net c

pub record IsRequest (net : Network) (r : Request) : Type 0 where
  pub round : r.round < 4200
  pub switch : r.switch.0 < switch_count net
  pub change : IsChangeOf net r.change

-- the message of a change of a plan is in range
pub plan_message : (net : Network) (c : Change) (xid : ℕ) → IsPlanChange net c → xid < 2 ^ 32 → IsMessage (message_of c xid)
plan_message net (Insert s r) xid h lt = record { xid = lt; priority = h.priority; priority_most = h.priority_most; port = h.port; vlan = h.vlan; dst = h.dst; verb = h.action }
plan_message net (Delete s r) xid h lt = record { xid = lt; priority = h.priority; priority_most = h.priority_most; port = h.port; vlan = h.vlan; dst = h.dst; verb = tt }
plan_message net (Replace s r) xid h lt = record { xid = lt; priority = h.priority; priority_most = h.priority_most; port = h.port; vlan = h.vlan; dst = h.dst; verb = h.action }

message_in_range : (net : Network) (change : Option Change) (xid : ℕ) → IsChangeOf net change → xid < 2 ^ 32 → IsMessage (message_for change xid)
message_in_range net None xid h lt = lt
message_in_range net (Some c) xid h lt = plan_message net c xid h lt

pub record IsSent (net : Network) (m : Sent) : Type 0 where
  pub round : m.round < 4200
  pub switch : m.switch.0 < switch_count net
  pub message : IsMessage m.message

pub all_sent : (net : Network) (xid : ℕ) (rs : List Request) → AllByRecursion (IsRequest net) rs → xid + length rs ≤ 2 ^ 32 → AllByRecursion (IsSent net) (sent_from xid rs)
all_sent net xid [] h le = tt
all_sent net xid (r ∷ rs) h le =
    let lt : xid < 2 ^ 32 = omega arith in
    (record { round = h.0.round; switch = h.0.switch; message = message_in_range net r.change xid h.0.change lt }, all_sent net (suc xid) rs h.1 (omega arith))

change_asked : (net : Network) (k : ℕ) (cs : List Change) → k < 4200 → AllByRecursion (IsPlanChange net) cs → AllByRecursion (IsRequest net) (map (change_request k) cs)
change_asked net k [] lt h = tt
change_asked net k (c ∷ cs) lt h = (record { round = lt; switch = h.0.switch; change = h.0 }, change_asked net k cs lt h.1)

barrier_asked : (net : Network) (k : ℕ) (ss : List SwitchId) → k < 4200 → AllByRecursion (λ s. s.0 < switch_count net) ss → AllByRecursion (IsRequest net) (map (barrier_request k) ss)
barrier_asked net k [] lt h = tt
barrier_asked net k (s ∷ ss) lt h = (record { round = lt; switch = h.0; change = tt }, barrier_asked net k ss lt h.1)

passed_below : (p : SwitchId → Bool) (top a n : ℕ) → a + n ≤ top → AllByRecursion (λ s. s.0 < top) (filter p (map switch_numbered (range_with_len a n)))
passed_below p top a zero le = tt
passed_below p top a (suc n) le =
    let rest = passed_below p top (a + 1) n (omega arith) in
    elim (p (switch_numbered a)) as (λ b. AllByRecursion (λ s. s.0 < top) (cond b (switch_numbered a ∷ filter p (map switch_numbered (range_with_len (a + 1) n))) (filter p (map switch_numbered (range_with_len (a + 1) n))))) [
      | true ↦ (omega arith, rest)
      | false ↦ rest
    ]

pub all_asked : (net : Network) (k : ℕ) (rounds : List (List Change)) → k + length rounds ≤ 4200 → AllByRecursion (AllByRecursion (IsPlanChange net)) rounds → AllByRecursion (IsRequest net) (requests_from net k rounds)
all_asked net k [] le h = tt
all_asked net k (round ∷ rounds) le h =
    each_append (IsRequest net) (round_requests net k round) (requests_from net (suc k) rounds)
    (each_append (IsRequest net) (map (change_request k) round) (map (barrier_request k) (switches_changed net round))
    (change_asked net k round (omega arith) h.0)
    (barrier_asked net k (switches_changed net round) (omega arith) (passed_below (is_changed round) (switch_count net) 0 (switch_count net) (omega arith))))
    (all_asked net (suc k) rounds (omega arith) h.1)
