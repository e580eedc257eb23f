-- What of the messages of a round goes to one switch: those of its changes, in order, and then one barrier request.
use Rattle.std.proofs.Common.{◌≡◌, ◌≢◌, ℕ, zero, suc, ◌+◌, ◌<◌, ◌≤◌, ◌^◌, Bool, true, false, cond, eqb, List, [], ◌∷◌, ◌++◌, length, map, filter, get_or, refl, sym, ◌∙◌, subst, ap, inl, inr, add-one, arith}
use Rattle.std.specs.Prelude.{Some, filter_map}
use Rattle.std.specs.List.{AllByRecursion, cons_option, range_with_len}
use Rattle.std.proofs.lemmas.Bool.{cases_Bool, cond-true, cond-false, eq-eqb, ne_eqb, cond_both, or_parts}
use Rattle.std.proofs.lemmas.List.Elements.{filter_map-append}
use Rattle.net_base.specs.Members.{IsIn}
use Rattle.net_base.specs.declared.ids.SwitchId.{SwitchId}
use Rattle.topology.specs.Networks.{Network, switch_count}
use Rattle.flow_rules.specs.declared.rules.Key.{Key}
use Rattle.update_model.specs.Changes.{switch_of, changes_at}
use Rattle.update_model.specs.Ranges.{IsPlanChange}
use Rattle.update_model.specs.declared.Change.{Change}
use Rattle.update_model.proofs.ChangeLaws.{key_named}
use Rattle.openflow10.specs.declared.FlowMod as flow
use Rattle.openflow10.specs.declared.Message.{Message}
use Rattle.openflow10.specs.declared.Message.TheVariants.{Flow, BarrierRequest}
use Rattle.round_messages.specs.Requests.{is_changed, switch_numbered, switches_changed}
use Rattle.turned_rounds.specs.Batches.{next_xid, next_if, xid_behind, change_message, barrier_message, change_messages, barrier_messages, batch_of}
use Rattle.turned_rounds.specs.declared.outgoing.Outgoing.{Outgoing}
use Rattle.two_way_driver.specs.PeerStates.{PeerState}
use Rattle.two_way_driver.specs.Peers.{first_peer}
use Rattle.two_way_driver.specs.Drivers.{is_to, asks_if, asked_from}
use Rattle.two_way_driver.specs.Sending.{texts_for}
use Rattle.law_wire.specs.Network.{inbox_message}
use Rattle.law_wire.proofs.Entries.{flow_of, flow_key}
use Rattle.law_wire.proofs.Bytes.{change_arrives, barrier_arrives}

-- ---- xids

pub record IsXid (x : ℕ) : Type 0 where
  pub least : 1 ≤ x
  pub most : x ≤ 4294967295

pub in_range : (x : ℕ) → IsXid x → x < 2 ^ 32
in_range x ok = let most = ok.most in omega arith

next_ok : (x : ℕ) → IsXid x → IsXid (next_xid x)
next_ok x ok =
    let most = ok.most in
    elim (cases_Bool (eqb x 4294967295)) [
      | inl e ↦ subst IsXid (sym (cond-true (eqb x 4294967295) 1 (suc x) e)) (record { least = omega arith; most = omega arith })
      | inr e ↦ (
          let differs : x ≢ 4294967295 = λ s. let t : true ≡ false = sym (eq-eqb x 4294967295 s) ∙ e in cc in
          subst IsXid (sym (cond-false (eqb x 4294967295) 1 (suc x) e)) (record { least = omega arith; most = omega (arith, differs) }))
    ]

next_if_ok : (b : Bool) (x : ℕ) → IsXid x → IsXid (next_if b x)
next_if_ok true x ok = next_ok x ok
next_if_ok false x ok = ok

pub behind_ok : (n x : ℕ) → IsXid x → IsXid (xid_behind x n)
behind_ok zero x ok = ok
behind_ok (suc n) x ok = behind_ok n (next_xid x) (next_ok x ok)

-- the xid of the barrier request to switch n + i, where x is that of the first to a switch from number n on
abbrev pub barrier_xid : ℕ → List Change → ℕ → ℕ → ℕ
barrier_xid x round n zero = x
barrier_xid x round n (suc i) = barrier_xid (next_if (is_changed round (switch_numbered n)) x) round (suc n) i

pub barrier_ok : (x : ℕ) (round : List Change) (n i : ℕ) → IsXid x → IsXid (barrier_xid x round n i)
barrier_ok x round n zero ok = ok
barrier_ok x round n (suc i) ok = barrier_ok (next_if (is_changed round (switch_numbered n)) x) round (suc n) i (next_if_ok (is_changed round (switch_numbered n)) x ok)

-- the request that a switch is asked to answer is that one
pub asked_exact : (round : List Change) (x n : ℕ) (peers : List PeerState) (i : ℕ) → i < length peers
    → get_or (asked_from x round n peers) i first_peer ≡ asks_if (is_changed round (switch_numbered (n + i))) (barrier_xid x round n i) (get_or peers i first_peer)
asked_exact round x n [] i less = absurd (omega arith)
asked_exact round x n (p ∷ peers) zero less = let same : n ≡ n + zero = omega arith in ap (λ (j : ℕ). asks_if (is_changed round (switch_numbered j)) x p) same
asked_exact round x n (p ∷ peers) (suc i) less =
    let next = next_if (is_changed round (switch_numbered n)) x in
    let same : suc n + i ≡ n + suc i = omega arith in
    asked_exact round next (suc n) peers i (omega arith) ∙ ap (λ (j : ℕ). asks_if (is_changed round (switch_numbered j)) (barrier_xid next round (suc n) i) (get_or peers i first_peer)) same

-- ---- the messages of a switch's changes

abbrev pub flows_at : SwitchId → ℕ → List Change → List flow.FlowMod
flows_at s x [] = []
flows_at s x (c ∷ changes) = cond (eqb (switch_of c).0 s.0) (flow_of c x ∷ flows_at s (next_xid x) changes) (flows_at s (next_xid x) changes)

pub flow_keys : (s : SwitchId) (x : ℕ) (changes : List Change) → map (λ (m : flow.FlowMod). m.key) (flows_at s x changes) ≡ map key_named (changes_at s changes)
flow_keys s x [] = refl
flow_keys s x (c ∷ changes) =
    let keys : List flow.FlowMod → List Key = λ l. map (λ (m : flow.FlowMod). m.key) l in
    elim (eqb (switch_of c).0 s.0) as (λ b. map (λ (m : flow.FlowMod). m.key) (cond b (flow_of c x ∷ flows_at s (next_xid x) changes) (flows_at s (next_xid x) changes)) ≡ map key_named (cond b (c ∷ changes_at s changes) (changes_at s changes))) [
      | true ↦ ap (λ k. k ∷ map (λ (m : flow.FlowMod). m.key) (flows_at s (next_xid x) changes)) (flow_key c x) ∙ ap (λ l. key_named c ∷ l) (flow_keys s (next_xid x) changes)
      | false ↦ flow_keys s (next_xid x) changes
    ]

pub each_flow : (P : flow.FlowMod → Type 0) (s : SwitchId) (x : ℕ) (changes : List Change) → ((c : Change) → IsIn c (changes_at s changes) → (y : ℕ) → P (flow_of c y))
    → AllByRecursion P (flows_at s x changes)
each_flow P s x [] each = tt
each_flow P s x (c ∷ changes) each =
    elim (eqb (switch_of c).0 s.0) as (λ b. ((d : Change) → IsIn d (cond b (c ∷ changes_at s changes) (changes_at s changes)) → (y : ℕ) → P (flow_of d y))
    → AllByRecursion P (cond b (flow_of c x ∷ flows_at s (next_xid x) changes) (flows_at s (next_xid x) changes))) [
      | true ↦ λ all. (all c (inl refl) x, each_flow P s (next_xid x) changes (λ d i y. all d (inr i) y))
      | false ↦ λ all. each_flow P s (next_xid x) changes all
    ] each

-- ---- what comes to a switch

abbrev pub coming : SwitchId → List Outgoing → List Message
coming s ms = filter_map inbox_message (texts_for s ms)

coming_one : (s : SwitchId) (m : Outgoing) (ms : List Outgoing) (r : Message) → inbox_message m.text ≡ Some r
    → coming s (m ∷ ms) ≡ cond (is_to s m) (r ∷ coming s ms) (coming s ms)
coming_one s m ms r e =
    elim (is_to s m) as (λ b. filter_map inbox_message (map (λ (o : Outgoing). o.text) (cond b (m ∷ filter (is_to s) ms) (filter (is_to s) ms))) ≡ cond b (r ∷ coming s ms) (coming s ms)) [
      | true ↦ ap (λ o. cons_option o (coming s ms)) e
      | false ↦ refl
    ]

coming_changes : (net : Network) (s : SwitchId) (x : ℕ) (changes : List Change) → AllByRecursion (IsPlanChange net) changes → IsXid x → coming s (change_messages x changes) ≡ map Flow (flows_at s x changes)
coming_changes net s x [] plan ok = refl
coming_changes net s x (c ∷ changes) plan ok =
    let rest = coming_changes net s (next_xid x) changes plan.1 (next_ok x ok) in
    coming_one s (change_message x c) (change_messages (next_xid x) changes) (Flow (flow_of c x)) (change_arrives net c x plan.0 (in_range x ok))
    ∙ (elim (eqb (switch_of c).0 s.0) as (λ b. cond b (Flow (flow_of c x) ∷ coming s (change_messages (next_xid x) changes)) (coming s (change_messages (next_xid x) changes))
    ≡ map Flow (cond b (flow_of c x ∷ flows_at s (next_xid x) changes) (flows_at s (next_xid x) changes))) [
      | true ↦ ap (λ l. Flow (flow_of c x) ∷ l) rest
      | false ↦ rest
    ])

-- the barrier requests to the switches with a change, from number n on
abbrev requests_from : List Change → ℕ → ℕ → ℕ → List Outgoing
requests_from round x n count = barrier_messages x (filter (is_changed round) (map switch_numbered (range_with_len n count)))

requests_next : (round : List Change) (x n count : ℕ)
    → requests_from round x n (suc count)
    ≡ cond (is_changed round (switch_numbered n)) (barrier_message x (switch_numbered n) ∷ requests_from round (next_xid x) (suc n) count) (requests_from round x (suc n) count)
requests_next round x n count =
    let at : List SwitchId → List Outgoing = λ rest. barrier_messages x (cond (is_changed round (switch_numbered n)) (switch_numbered n ∷ rest) rest) in
    let tail : ℕ → List SwitchId = λ k. filter (is_changed round) (map switch_numbered (range_with_len k count)) in
    ap (λ k. barrier_messages x (cond (is_changed round (switch_numbered n)) (switch_numbered n ∷ tail k) (tail k))) (add-one n)
    ∙ (elim (is_changed round (switch_numbered n)) as (λ b. barrier_messages x (cond b (switch_numbered n ∷ tail (suc n)) (tail (suc n)))
    ≡ cond b (barrier_message x (switch_numbered n) ∷ requests_from round (next_xid x) (suc n) count) (requests_from round x (suc n) count)) [ true ↦ refl | false ↦ refl ])

none_come : (s : SwitchId) (round : List Change) (x n count : ℕ) → IsXid x → s.0 < n → coming s (requests_from round x n count) ≡ []
none_come s round x n zero ok less = refl
none_come s round x n (suc count) ok less =
    ap (coming s) (requests_next round x n count)
    ∙ cond_both (is_changed round (switch_numbered n)) (barrier_message x (switch_numbered n) ∷ requests_from round (next_xid x) (suc n) count) (requests_from round x (suc n) count) (λ l. coming s l ≡ [])
    (λ e. coming_one s (barrier_message x (switch_numbered n)) (requests_from round (next_xid x) (suc n) count) (BarrierRequest x) (barrier_arrives x (in_range x ok))
    ∙ cond-false (eqb n s.0) (BarrierRequest x ∷ coming s (requests_from round (next_xid x) (suc n) count)) (coming s (requests_from round (next_xid x) (suc n) count)) (ne_eqb n s.0 (λ e. omega arith))
    ∙ none_come s round (next_xid x) (suc n) count (next_ok x ok) (omega arith))
    (λ e. none_come s round x (suc n) count ok (omega arith))

requests_come : (s : SwitchId) (round : List Change) (x n count i : ℕ) → IsXid x → s.0 ≡ n + i → i < count
    → coming s (requests_from round x n count) ≡ cond (is_changed round (switch_numbered s.0)) (BarrierRequest (barrier_xid x round n i) ∷ []) []
requests_come s round x n zero i ok is less = absurd (omega arith)
requests_come s round x n (suc count) zero ok is less =
    let here : n ≡ s.0 = omega arith in
    let End : Bool → List Message = λ b. cond b (BarrierRequest x ∷ []) [] in
    ap (coming s) (requests_next round x n count)
    ∙ cond_both (is_changed round (switch_numbered n)) (barrier_message x (switch_numbered n) ∷ requests_from round (next_xid x) (suc n) count) (requests_from round x (suc n) count)
    (λ l. coming s l ≡ cond (is_changed round (switch_numbered s.0)) (BarrierRequest x ∷ []) [])
    (λ e. coming_one s (barrier_message x (switch_numbered n)) (requests_from round (next_xid x) (suc n) count) (BarrierRequest x) (barrier_arrives x (in_range x ok))
    ∙ cond-true (eqb n s.0) (BarrierRequest x ∷ coming s (requests_from round (next_xid x) (suc n) count)) (coming s (requests_from round (next_xid x) (suc n) count)) (eq-eqb n s.0 here)
    ∙ ap (λ l. BarrierRequest x ∷ l) (none_come s round (next_xid x) (suc n) count (next_ok x ok) (omega arith))
    ∙ sym (ap End (ap (λ j. is_changed round (switch_numbered j)) (sym here) ∙ e)))
    (λ e. none_come s round x (suc n) count ok (omega arith) ∙ sym (ap End (ap (λ j. is_changed round (switch_numbered j)) (sym here) ∙ e)))
requests_come s round x n (suc count) (suc i) ok is less =
    let Goal : List Outgoing → ℕ → Type 0 = λ l y. coming s l ≡ cond (is_changed round (switch_numbered s.0)) (BarrierRequest (barrier_xid y round (suc n) i) ∷ []) [] in
    subst (λ l. Goal l (next_if (is_changed round (switch_numbered n)) x)) (sym (requests_next round x n count))
    (elim (cases_Bool (is_changed round (switch_numbered n))) [
      | inl e ↦ subst (λ b. Goal (cond b (barrier_message x (switch_numbered n) ∷ requests_from round (next_xid x) (suc n) count) (requests_from round x (suc n) count)) (next_if b x)) (sym e)
          (coming_one s (barrier_message x (switch_numbered n)) (requests_from round (next_xid x) (suc n) count) (BarrierRequest x) (barrier_arrives x (in_range x ok))
          ∙ cond-false (eqb n s.0) (BarrierRequest x ∷ coming s (requests_from round (next_xid x) (suc n) count)) (coming s (requests_from round (next_xid x) (suc n) count)) (ne_eqb n s.0 (λ f. omega arith))
          ∙ requests_come s round (next_xid x) (suc n) count i (next_ok x ok) (omega arith) (omega arith))
      | inr e ↦ subst (λ b. Goal (cond b (barrier_message x (switch_numbered n) ∷ requests_from round (next_xid x) (suc n) count) (requests_from round x (suc n) count)) (next_if b x)) (sym e)
          (requests_come s round x (suc n) count i ok (omega arith) (omega arith))
    ])

-- what of a batch comes to a switch
pub batch_comes : (net : Network) (s : SwitchId) (x : ℕ) (round : List Change) → s.0 < switch_count net → AllByRecursion (IsPlanChange net) round → IsXid x
    → coming s (batch_of net x round) ≡ map Flow (flows_at s x round) ++ cond (is_changed round s) (BarrierRequest (barrier_xid (xid_behind x (length round)) round 0 s.0) ∷ []) []
batch_comes net s x round within plan ok =
    let changes = change_messages x round in
    let requests = barrier_messages (xid_behind x (length round)) (switches_changed net round) in
    let place : s.0 ≡ 0 + s.0 = omega arith in
    split s changes requests
    ∙ ap (λ l. l ++ coming s requests) (coming_changes net s x round plan ok)
    ∙ ap (λ l. map Flow (flows_at s x round) ++ l) (requests_come s round (xid_behind x (length round)) 0 (switch_count net) s.0 (behind_ok (length round) x ok) place within)
  where
    text_split : (s : SwitchId) (xs ys : List Outgoing) → texts_for s (xs ++ ys) ≡ texts_for s xs ++ texts_for s ys
    text_split s [] ys = refl
    text_split s (m ∷ xs) ys =
        elim (is_to s m) as (λ b. map (λ (o : Outgoing). o.text) (cond b (m ∷ filter (is_to s) (xs ++ ys)) (filter (is_to s) (xs ++ ys)))
        ≡ map (λ (o : Outgoing). o.text) (cond b (m ∷ filter (is_to s) xs) (filter (is_to s) xs)) ++ texts_for s ys) [
          | true ↦ ap (λ l. m.text ∷ l) (text_split s xs ys)
          | false ↦ text_split s xs ys
        ]

    split : (s : SwitchId) (xs ys : List Outgoing) → coming s (xs ++ ys) ≡ coming s xs ++ coming s ys
    split s xs ys = ap (filter_map inbox_message) (text_split s xs ys) ∙ filter_map-append inbox_message (texts_for s xs) (texts_for s ys)

-- a round without a change at a switch has no message to it
pub none_changed : (round : List Change) (s : SwitchId) → is_changed round s ≡ false → changes_at s round ≡ []
none_changed [] s e = refl
none_changed (c ∷ round) s e =
    let (here, rest) = or_parts (eqb (switch_of c).0 s.0) (is_changed round s) e in
    cond-false (eqb (switch_of c).0 s.0) (c ∷ changes_at s round) (changes_at s round) here ∙ none_changed round s rest
