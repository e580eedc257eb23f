-- The barrier request to a switch in the messages of a round is the one for whose answer the switch is kept waiting.
use Rattle.std.proofs.Common.{◌≡◌, ℕ, zero, suc, ◌+◌, ◌<◌, Bool, true, false, cond, eqb, List, [], ◌∷◌, ◌++◌, length, map, get_or, refl, sym, ap, ◌∙◌, subst, inl, inr, append-nil, add-one, arith}
use Rattle.std.specs.Prelude.{filter, Some, None}
use Rattle.std.specs.List.{range_with_len, cons_option}
use Rattle.std.proofs.lemmas.Bool.{cases_Bool, cond-true, cond-false, cond_both, eqb-false, eq-eqb, ne_eqb}
use Rattle.std.proofs.lemmas.List.{map-append}
use Rattle.std.proofs.lemmas.List.Elements.{filter-append, filter_map-append}
use Rattle.net_base.specs.declared.ids.SwitchId.{SwitchId}
use Rattle.topology.specs.Networks.{Network, switch_count}
use Rattle.update_model.specs.declared.Change.{Change}
use Rattle.update_model.specs.declared.Change.TheVariants.{Insert, Delete, Replace}
use Rattle.openflow10.specs.Layout.{Holds, number_at, number_bytes}
use Rattle.openflow10.specs.Messages.{wire_text, message_of, message_table}
use Rattle.openflow10.proofs.MessageLaws.{text-held}
use Rattle.switch_session.specs.Fronts.{type_in, xid_in}
use Rattle.openflow10.specs.declared.Message.TheVariants.{BarrierRequest}
use Rattle.round_messages.specs.Requests.{is_changed, switch_numbered}
use Rattle.turned_rounds.specs.Batches.{next_xid, next_if, xid_behind, barrier_message, change_message, change_messages, barrier_messages, batch_of}
use Rattle.turned_rounds.specs.declared.outgoing.Outgoing.{Outgoing}
use Rattle.two_way_driver.specs.PeerStates.{PeerState}
use Rattle.two_way_driver.specs.Peers.{first_peer}
use Rattle.two_way_driver.specs.Drivers.{is_to, asks_if, asked_from}
use Rattle.two_way_driver.specs.Sending.{texts_for}
use Rattle.law_wire_answers.specs.Failing.{barrier_xid, barrier_xids}

texts_cons : (s : SwitchId) (m : Outgoing) (ms : List Outgoing) (b : Bool) → is_to s m ≡ b → texts_for s (m ∷ ms) ≡ cond b (m.text ∷ texts_for s ms) (texts_for s ms)
texts_cons s m ms true e = ap (λ t. map (λ (o : Outgoing). o.text) (cond t (m ∷ filter (is_to s) ms) (filter (is_to s) ms))) e
texts_cons s m ms false e = ap (λ t. map (λ (o : Outgoing). o.text) (cond t (m ∷ filter (is_to s) ms) (filter (is_to s) ms))) e

pub texts_for-append : (s : SwitchId) (a b : List Outgoing) → texts_for s (a ++ b) ≡ texts_for s a ++ texts_for s b
texts_for-append s a b = ap (map (λ (o : Outgoing). o.text)) (filter-append (is_to s) a b) ∙ map-append (λ (o : Outgoing). o.text) (filter (is_to s) a) (filter (is_to s) b)

-- ---- xids are numbers of 32 bits

pub next_range : (x : ℕ) → x < 4294967296 → next_xid x < 4294967296
next_range x less = cond_both (eqb x 4294967295) 1 (suc x) (λ n. n < 4294967296) (λ _. omega arith) (λ f. let ne = eqb-false x 4294967295 f in omega (arith, ne))

if_range : (b : Bool) (x : ℕ) → x < 4294967296 → next_if b x < 4294967296
if_range true x less = next_range x less
if_range false x less = less

pub behind_range : (x n : ℕ) → x < 4294967296 → xid_behind x n < 4294967296
behind_range x zero less = less
behind_range x (suc n) less = behind_range (next_xid x) n (next_range x less)

-- ---- which of the messages are barrier requests

flow_type : (x : ℕ) (c : Change) → type_in (wire_text (message_of c x)) ≡ 14
unfolding wire_text number_at number_bytes
flow_type x (Insert s r) = refl
flow_type x (Delete s r) = refl
flow_type x (Replace s r) = refl

pub flow_quiet : (x : ℕ) (c : Change) → barrier_xid (wire_text (message_of c x)) ≡ None
flow_quiet x c = let text = wire_text (message_of c x) in cond-false (eqb (type_in text) 18) (Some (xid_in text)) None (ap (λ n. eqb n 18) (flow_type x c))

pub barrier_told : (y : ℕ) → y < 4294967296 → barrier_xid (wire_text (BarrierRequest y)) ≡ Some y
barrier_told y less =
    let text = wire_text (BarrierRequest y) in
    let held = subst (λ (l : List ℕ). Holds l (message_table (BarrierRequest y))) (append-nil text) (text-held (BarrierRequest y) [] less) in
    cond-true (eqb (type_in text) 18) (Some (xid_in text)) None (eq-eqb (type_in text) 18 held.1.0) ∙ ap Some held.1.1.1.0

pub xids-append : (a b : List (List ℕ)) → barrier_xids (a ++ b) ≡ barrier_xids a ++ barrier_xids b
xids-append a b = filter_map-append barrier_xid a b

changes_quiet : (s : SwitchId) (x : ℕ) (changes : List Change) → barrier_xids (texts_for s (change_messages x changes)) ≡ []
changes_quiet s x [] = refl
changes_quiet s x (c ∷ changes) =
    let rest = texts_for s (change_messages (next_xid x) changes) in
    let text = wire_text (message_of c x) in
    let head : (b : Bool) → barrier_xids (cond b (text ∷ rest) rest) ≡ barrier_xids rest = λ b. elim b as (λ t. barrier_xids (cond t (text ∷ rest) rest) ≡ barrier_xids rest) [
      | true ↦ ap (λ o. cons_option o (barrier_xids rest)) (flow_quiet x c)
      | false ↦ refl
    ] in
    ap barrier_xids (texts_cons s (change_message x c) (change_messages (next_xid x) changes) (is_to s (change_message x c)) refl) ∙ head (is_to s (change_message x c)) ∙ changes_quiet s (next_xid x) changes

-- those of a batch to a switch end with one
pub one_request : (s : SwitchId) (x y : ℕ) (changes : List Change) → y < 4294967296 → barrier_xids (texts_for s (change_messages x changes) ++ wire_text (BarrierRequest y) ∷ []) ≡ y ∷ []
one_request s x y changes less =
    xids-append (texts_for s (change_messages x changes)) (wire_text (BarrierRequest y) ∷ []) ∙ ap (λ (l : List ℕ). l ++ barrier_xids (wire_text (BarrierRequest y) ∷ [])) (changes_quiet s x changes)
    ∙ ap (λ o. cons_option o []) (barrier_told y less)

module _ (changes : List Change) where
  abbrev is_at : ℕ → Bool
  is_at n = is_changed changes (switch_numbered n)

  -- the switches with a change, from a number on
  abbrev from : ℕ → ℕ → List SwitchId
  from n count = filter (is_changed changes) (map switch_numbered (range_with_len n count))

  on : (x n count : ℕ) → is_at n ≡ true → barrier_messages x (from n (suc count)) ≡ barrier_message x (switch_numbered n) ∷ barrier_messages (next_xid x) (from (n + 1) count)
  on x n count e = ap (λ b. barrier_messages x (cond b (switch_numbered n ∷ from (n + 1) count) (from (n + 1) count))) e

  off : (x n count : ℕ) → is_at n ≡ false → barrier_messages x (from n (suc count)) ≡ barrier_messages x (from (n + 1) count)
  off x n count e = ap (λ b. barrier_messages x (cond b (switch_numbered n ∷ from (n + 1) count) (from (n + 1) count))) e

  none_to : (s : SwitchId) (x n count : ℕ) → s.0 < n → texts_for s (barrier_messages x (from n count)) ≡ []
  none_to s x n zero less = refl
  none_to s x n (suc count) less =
      elim (cases_Bool (is_at n)) [
        | inl t ↦ ap (texts_for s) (on x n count t)
            ∙ texts_cons s (barrier_message x (switch_numbered n)) (barrier_messages (next_xid x) (from (n + 1) count)) false (ne_eqb n s.0 (λ e. omega arith))
            ∙ none_to s (next_xid x) (n + 1) count (omega arith)
        | inr f ↦ ap (texts_for s) (off x n count f) ∙ none_to s x (n + 1) count (omega arith)
      ]

  -- what is kept of the switch of a number, and the barrier request to it
  pub record Asked (x n : ℕ) (peers : List PeerState) (i m : ℕ) : Type 0 where
    pub xid : ℕ
    pub kept : get_or (asked_from x changes n peers) i first_peer ≡ asks_if (is_at m) xid (get_or peers i first_peer)
    pub sent : is_at m ≡ true → texts_for (switch_numbered m) (barrier_messages x (from n (length peers))) ≡ wire_text (BarrierRequest xid) ∷ []
    pub range : x < 4294967296 → xid < 4294967296
    pub none : is_at m ≡ false → texts_for (switch_numbered m) (barrier_messages x (from n (length peers))) ≡ []

  asked_at : (x n : ℕ) (peers : List PeerState) (i m : ℕ) → n + i ≡ m → i < length peers → Asked x n peers i m
  asked_at x n [] i m is less = absurd (omega arith)
  asked_at x n (p ∷ peers) zero m is less =
      let same : n ≡ m = omega arith in
      subst (λ k. Asked x n (p ∷ peers) zero k) same (record {
        xid = x;
        kept = refl;
        sent = λ t. ap (texts_for (switch_numbered n)) (on x n (length peers) t)
            ∙ texts_cons (switch_numbered n) (barrier_message x (switch_numbered n)) (barrier_messages (next_xid x) (from (n + 1) (length peers))) true (eq-eqb n n refl)
            ∙ ap (λ (l : List (List ℕ)). wire_text (BarrierRequest x) ∷ l) (none_to (switch_numbered n) (next_xid x) (n + 1) (length peers) (omega arith));
        range = λ less. less;
        none = λ f. ap (texts_for (switch_numbered n)) (off x n (length peers) f) ∙ none_to (switch_numbered n) x (n + 1) (length peers) (omega arith);
      })
  asked_at x n (p ∷ peers) (suc i) m is less =
      let rest = asked_at (next_if (is_at n) x) (suc n) peers i m (omega arith) (omega arith) in
      record {
        xid = rest.xid;
        kept = rest.kept;
        sent = λ t. next_is ∙ ap (λ k. texts_for (switch_numbered m) (barrier_messages (next_if (is_at n) x) (from k (length peers)))) (add-one n) ∙ rest.sent t;
        range = λ less. rest.range (if_range (is_at n) x less);
        none = λ f. next_is ∙ ap (λ k. texts_for (switch_numbered m) (barrier_messages (next_if (is_at n) x) (from k (length peers)))) (add-one n) ∙ rest.none f;
      }
    where
      tail : ℕ → List (List ℕ)
      tail y = texts_for (switch_numbered m) (barrier_messages y (from (n + 1) (length peers)))

      next_is : texts_for (switch_numbered m) (barrier_messages x (from n (suc (length peers)))) ≡ tail (next_if (is_at n) x)
      next_is =
          elim (cases_Bool (is_at n)) [
            | inl here ↦ ap (texts_for (switch_numbered m)) (on x n (length peers) here)
                ∙ texts_cons (switch_numbered m) (barrier_message x (switch_numbered n)) (barrier_messages (next_xid x) (from (n + 1) (length peers))) false (ne_eqb n m (λ e. omega arith))
                ∙ ap (λ b. tail (next_if b x)) (sym here)
            | inr away ↦ ap (texts_for (switch_numbered m)) (off x n (length peers) away) ∙ ap (λ b. tail (next_if b x)) (sym away)
          ]

-- a switch is asked for changes, and waits for the answer to the barrier request behind them
pub record AskedIn (net : Network) (first : ℕ) (changes : List Change) (s : SwitchId) (peers : List PeerState) : Type 0 where
  pub xid : ℕ
  pub kept : get_or (asked_from (xid_behind first (length changes)) changes 0 peers) s.0 first_peer ≡ asks_if (is_changed changes s) xid (get_or peers s.0 first_peer)
  pub sent : is_changed changes s ≡ true → texts_for s (batch_of net first changes) ≡ texts_for s (change_messages first changes) ++ wire_text (BarrierRequest xid) ∷ []
  pub range : first < 4294967296 → xid < 4294967296
  pub quiet : is_changed changes s ≡ false → barrier_xids (texts_for s (batch_of net first changes)) ≡ []

pub asked_in : (net : Network) (first : ℕ) (changes : List Change) (s : SwitchId) (peers : List PeerState) → length peers ≡ switch_count net → s.0 < switch_count net → AskedIn net first changes s peers
asked_in net first changes s peers count less =
    let behind = xid_behind first (length changes) in
    let here = asked_at changes behind 0 peers s.0 s.0 (omega arith) (omega arith) in
    record {
      xid = here.xid;
      kept = here.kept;
      sent = λ t.
          texts_for-append s (change_messages first changes) (barrier_messages behind (from changes 0 (switch_count net)))
          ∙ ap (λ (l : List (List ℕ)). texts_for s (change_messages first changes) ++ l)
          (ap (λ n. texts_for s (barrier_messages behind (from changes 0 n))) (sym count) ∙ here.sent t);
      range = λ less. here.range (behind_range first (length changes) less);
      quiet = λ f.
          ap barrier_xids (texts_for-append s (change_messages first changes) (barrier_messages behind (from changes 0 (switch_count net))))
          ∙ xids-append (texts_for s (change_messages first changes)) (texts_for s (barrier_messages behind (from changes 0 (switch_count net))))
          ∙ ap (λ (l : List ℕ). l ++ barrier_xids (texts_for s (barrier_messages behind (from changes 0 (switch_count net))))) (changes_quiet s first changes)
          ∙ ap (λ n. barrier_xids (texts_for s (barrier_messages behind (from changes 0 n)))) (sym count) ∙ ap barrier_xids (here.none f);
    }
