-- Lines that are added in turn.
use Rattle.std.proofs.Common.{◌≡◌, ℕ, ◌+◌, ◌<◌, List, [], ◌∷◌, ◌++◌, length, map, take, get_or, sym, ap, ◌∙◌, subst, append_assoc, append-nil, length-append, arith}
use Rattle.std.specs.Prelude.{flat_map}
use Rattle.std.proofs.lemmas.Grind.{flat_map-append}
use Rattle.std.proofs.lemmas.List.{take_more, map-append}
use Rattle.topology.specs.Networks.{Network}
use Rattle.update_model.specs.declared.Change.{Change}
use Rattle.emit_command.specs.declared.lines.Lines.{Lines}
use Rattle.round_messages.specs.Requests.{Request, Sent, change_request, round_requests, requests_from, sent_from}
use Rattle.emit_command.specs.Lines.{line_of, emit_text}
use Rattle.emit_command.specs.Written.{AddsLines}
use Rattle.round_messages.proofs.Requests.{sent_from-append, requests_from-push}

-- requests in a row
pub added_then : (net : Network) (rs ss : List Request) (a b c : Lines) → AddsLines net rs a b → AddsLines net ss b c → AddsLines net (rs ++ ss) a c
added_then net rs ss a b c p q =
    let lines : List Sent → List ℕ = flat_map (line_of net) in
    let both : lines (sent_from a.xid rs) ++ lines (sent_from b.xid ss) ≡ lines (sent_from a.xid (rs ++ ss)) =
    ap (λ (n : ℕ). lines (sent_from a.xid rs) ++ lines (sent_from n ss)) p.xid_is ∙ sym (flat_map-append (line_of net) (sent_from a.xid rs) (sent_from (a.xid + length rs) ss))
    ∙ ap lines (sym (sent_from-append a.xid rs ss)) in
    let count = length-append rs ss in
    record {
      text_is = q.text_is ∙ ap (λ t. t ++ lines (sent_from b.xid ss)) p.text_is ∙ append_assoc a.text.items (lines (sent_from a.xid rs)) (lines (sent_from b.xid ss)) ∙ ap (λ t. a.text.items ++ t) both;
      xid_is = omega (arith, count, p.xid_is, q.xid_is);
    }

-- one request more
pub change_added : (net : Network) (k : ℕ) (cs : List Change) (i : ℕ) (c : Change) (a b d : Lines) → AddsLines net (map (change_request k) (take i cs)) a b → i < length cs → get_or cs i c ≡ c
    → AddsLines net (change_request k c ∷ []) b d → AddsLines net (map (change_request k) (take (i + 1) cs)) a d
change_added net k cs i c a b d p lt is q =
    let more : take (i + 1) cs ≡ take i cs ++ c ∷ [] = take_more cs i c lt ∙ ap (λ x. take i cs ++ x ∷ []) is in
    subst (λ rs. AddsLines net rs a d) (sym (ap (map (change_request k)) more ∙ map-append (change_request k) (take i cs) (c ∷ [])))
    (added_then net (map (change_request k) (take i cs)) (change_request k c ∷ []) a b d p q)

-- one round more
pub round_added : (net : Network) (rounds : List (List Change)) (k : ℕ) (round : List Change) (a b d : Lines) → AddsLines net (requests_from net 0 (take k rounds)) a b → k < length rounds
    → round ≡ get_or rounds k [] → length (take k rounds) ≡ k → AddsLines net (round_requests net k round) b d → AddsLines net (requests_from net 0 (take (k + 1) rounds)) a d
round_added net rounds k round a b d p lt is count q =
    let more : take (k + 1) rounds ≡ take k rounds ++ round ∷ [] = take_more rounds k [] lt ∙ ap (λ x. take k rounds ++ x ∷ []) (sym is) in
    let place : 0 + length (take k rounds) ≡ k = omega (arith, count) in
    let whole : requests_from net 0 (take (k + 1) rounds) ≡ requests_from net 0 (take k rounds) ++ round_requests net k round =
    ap (requests_from net 0) more ∙ requests_from-push net 0 (take k rounds) round ∙ ap (λ (n : ℕ). requests_from net 0 (take k rounds) ++ round_requests net n round) place in
    subst (λ rs. AddsLines net rs a d) (sym whole) (added_then net (requests_from net 0 (take k rounds)) (round_requests net k round) a b d p q)

-- the lines of all rounds, from no text on
pub whole_text : (net : Network) (rounds : List (List Change)) (k : ℕ) (a b : Lines) → take k rounds ≡ rounds → a.text.items ≡ [] → a.xid ≡ 1 → AddsLines net (requests_from net 0 (take k rounds)) a b
    → b.text.items ≡ emit_text net rounds
unfolding emit_text
whole_text net rounds k a b all empty first p =
    p.text_is ∙ ap (λ t. t ++ flat_map (line_of net) (sent_from a.xid (requests_from net 0 (take k rounds)))) empty
    ∙ ap (λ (n : ℕ). flat_map (line_of net) (sent_from n (requests_from net 0 (take k rounds)))) first
    ∙ ap (λ rs. flat_map (line_of net) (sent_from 1 (requests_from net 0 rs))) all
