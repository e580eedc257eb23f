-- Xids that don't begin again.
use Rattle.std.proofs.Common.{◌≡◌, ℕ, zero, suc, ◌+◌, ◌<◌, ◌≤◌, eqb, List, [], ◌∷◌, ◌++◌, length, map, refl, sym, ap, ◌∙◌, length-append, arith}
use Rattle.std.proofs.lemmas.Bool.{cond-false, ne_eqb}
use Rattle.std.proofs.lemmas.List.{map-append, length-map}
use Rattle.net_base.specs.declared.ids.SwitchId.{SwitchId}
use Rattle.topology.specs.Networks.{Network}
use Rattle.update_model.specs.declared.Change.{Change}
use Rattle.round_messages.specs.Requests.{Request, switches_changed, change_request, barrier_request, round_requests, sent_from}
use Rattle.round_messages.proofs.Requests.{sent_from-append}
use Rattle.turned_rounds.specs.Batches.{next_xid, xid_behind, change_message, barrier_message, change_messages, barrier_messages, outgoing_of, batch_of}

pub next_is : (x : ℕ) → x < 4294967295 → next_xid x ≡ suc x
next_is x less = cond-false (eqb x 4294967295) 1 (suc x) (ne_eqb x 4294967295 (λ e. omega arith))

pub xid_is : (x n : ℕ) → x + n ≤ 4294967295 → xid_behind x n ≡ x + n
xid_is x zero few = let e : x ≡ x + zero = omega arith in e
xid_is x (suc n) few =
    let e : suc x + n ≡ x + suc n = omega arith in
    ap (λ y. xid_behind y n) (next_is x (omega arith)) ∙ xid_is (suc x) n (omega arith) ∙ e

changes_are : (k x : ℕ) (changes : List Change) → x + length changes ≤ 4294967295 → map outgoing_of (sent_from x (map (change_request k) changes)) ≡ change_messages x changes
changes_are k x [] few = refl
changes_are k x (c ∷ changes) few =
    ap (λ l. change_message x c ∷ l) (changes_are k (suc x) changes (omega arith)) ∙ ap (λ y. change_message x c ∷ change_messages y changes) (sym (next_is x (omega arith)))

barriers_are : (k x : ℕ) (switches : List SwitchId) → x + length switches ≤ 4294967295 → map outgoing_of (sent_from x (map (barrier_request k) switches)) ≡ barrier_messages x switches
barriers_are k x [] few = refl
barriers_are k x (s ∷ switches) few =
    ap (λ l. barrier_message x s ∷ l) (barriers_are k (suc x) switches (omega arith)) ∙ ap (λ y. barrier_message x s ∷ barrier_messages y switches) (sym (next_is x (omega arith)))

pub batch_is : (net : Network) (k x : ℕ) (round : List Change) → x + length (round_requests net k round) ≤ 4294967295 → map outgoing_of (sent_from x (round_requests net k round)) ≡ batch_of net x round
batch_is net k x round few =
    let switches = switches_changed net round in
    let first : List Request = map (change_request k) round in
    let last : List Request = map (barrier_request k) switches in
    let some : length first ≡ length round = length-map round (change_request k) in
    let more : length last ≡ length switches = length-map switches (barrier_request k) in
    let both = length-append first last in
    let y : ℕ = x + length first in
    let at : y ≡ xid_behind x (length round) = ap (λ n. x + n) some ∙ sym (xid_is x (length round) (omega arith)) in
    ap (map outgoing_of) (sent_from-append x first last) ∙ map-append outgoing_of (sent_from x first) (sent_from y last)
    ∙ ap (λ l. l ++ map outgoing_of (sent_from y last)) (changes_are k x round (omega arith))
    ∙ ap (λ l. change_messages x round ++ l) (barriers_are k y switches (omega arith)) ∙ ap (λ n. change_messages x round ++ barrier_messages n switches) at
