-- The messages of a round by either driver.
use Rattle.std.proofs.Common.{◌≡◌, ◌≢◌, ℕ, zero, suc, ◌+◌, ◌<◌, ◌≤◌, Bool, true, false, cond, eqb, ◌&&◌, ◌||◌, List, [], ◌∷◌, ◌++◌, length, map, get_or, refl, sym, ap, ◌∙◌, inl, inr, arith}
use Rattle.std.specs.Prelude.{Option, Some, None, filter, flat_map, find}
use Rattle.std.specs.List.{AllByRecursion, concat, list_any, range_with_len}
use Rattle.std.specs.Option.{option_map_or}
use Rattle.std.proofs.lemmas.Bool.{cases_Bool, cases_eq, cond-true, cond-false, eq-eqb, ne_eqb}
use Rattle.std.proofs.lemmas.List.{length-map}
use Rattle.net_base.specs.declared.ids.SwitchId.{SwitchId}
use Rattle.net_base.proofs.MemberLaws.{each_append}
use Rattle.topology.specs.Networks.{Network, switch_count}
use Rattle.update_model.specs.declared.Change.{Change}
use Rattle.openflow10.specs.Messages.{wire_text}
use Rattle.openflow10.specs.declared.Message.{Message}
use Rattle.openflow10.specs.declared.Message.TheVariants.{BarrierRequest}
use Rattle.round_messages.specs.Requests.{Sent, Request, is_changed, switch_numbered, switches_changed, change_request, barrier_request, round_requests, sent_for, sent_from}
use Rattle.round_messages.specs.ToSwitch.{messages_to}
use Rattle.round_messages.proofs.BySwitch.{no_barrier, messages_in_turn}
use Rattle.turned_rounds.specs.Batches.{next_if, xid_behind, batch_of, outgoing_of}
use Rattle.turned_rounds.specs.declared.outgoing.Outgoing.{Outgoing}
use Rattle.turned_rounds.proofs.NumberLaws.{next_is, xid_is, batch_is}
use Rattle.update_driver.specs.Drivers.{barrier_in}
use Rattle.update_driver.proofs.AskedLaws.{barrier_in-change}
use Rattle.two_way_driver.specs.PeerStates.{PeerState}
use Rattle.two_way_driver.specs.Peers.{first_peer, asks}
use Rattle.two_way_driver.specs.Drivers.{is_to, asks_if, asked_from}
use Rattle.two_way_driver.specs.Sending.{texts_for}
use Rattle.update_driver.proofs.SwitchLaws.{x}

-- ---- the messages of a round

pub concat_texts : (ms : List Message) → concat (map wire_text ms) ≡ flat_map wire_text ms
concat_texts [] = refl
concat_texts (m ∷ ms) = ap (λ (l : List ℕ). wire_text m ++ l) (concat_texts ms)

pub none_passes : {A : Type 0} (test : A → Bool) (xs : List A) → list_any test xs ≡ false → filter test xs ≡ []
none_passes test [] e = refl
none_passes test (y ∷ xs) e =
    let here : test y ≡ false = neither_first (test y) (list_any test xs) e in
    let later : list_any test xs ≡ false = neither_last (test y) (list_any test xs) e in
    cond-false (test y) (y ∷ filter test xs) (filter test xs) here ∙ none_passes test xs later
  where
    neither_first : (a b : Bool) → (a || b) ≡ false → a ≡ false
    neither_first true b e = e
    neither_first false b e = refl

    neither_last : (a b : Bool) → (a || b) ≡ false → b ≡ false
    neither_last true b e = absurd (let f : true ≡ false = e in cc)
    neither_last false b e = e

pub find_alike : {A : Type 0} (p q : A → Bool) → ((x : A) → p x ≡ q x) → (xs : List A) → find p xs ≡ find q xs
find_alike p q same [] = refl
find_alike p q same (x ∷ xs) = ap (λ t. cond t (Some x) (find p xs)) (same x) ∙ ap (λ o. cond (q x) (Some x) o) (find_alike p q same xs)

-- none of the switches that pass one test passes another
pub none_found : (p q : SwitchId → Bool) (n m i : ℕ) → find p (filter q (map switch_numbered (range_with_len n m))) ≡ None → n ≤ i → i < n + m → q (switch_numbered i) ≡ true → p (switch_numbered i) ≡ false
none_found p q n zero i none le less on = absurd (omega arith)
none_found p q n (suc m) i none le less on =
    let rest = filter q (map switch_numbered (range_with_len (n + 1) m)) in
    let whole : cond (q (switch_numbered n)) (cond (p (switch_numbered n)) (Some (switch_numbered n)) (find p rest)) (find p rest) ≡ None = sym (chosen (q (switch_numbered n)) rest) ∙ none in
    elim (cases_Bool (q (switch_numbered n))) [
      | inl first ↦ (
          let here : cond (p (switch_numbered n)) (Some (switch_numbered n)) (find p rest) ≡ None = sym (cond-true (q (switch_numbered n)) _ (find p rest) first) ∙ whole in
          elim (cases_Bool (p (switch_numbered n))) [
            | inl hit ↦ absurd (let f : Some (switch_numbered n) ≡ None = sym (cond-true (p (switch_numbered n)) (Some (switch_numbered n)) (find p rest) hit) ∙ here in cc)
            | inr miss ↦ elim (cases_eq n i) [
              | inl same ↦ ap (λ (j : ℕ). p (switch_numbered j)) (sym same) ∙ miss
              | inr differs ↦ none_found p q (n + 1) m i (sym (cond-false (p (switch_numbered n)) (Some (switch_numbered n)) (find p rest) miss) ∙ here) (omega (arith, differs)) (omega arith) on
            ]
          ])
      | inr off ↦ none_found p q (n + 1) m i (sym (cond-false (q (switch_numbered n)) _ (find p rest) off) ∙ whole)
          (let differs : n ≢ i = λ e. (let f : true ≡ false = sym on ∙ ap (λ (j : ℕ). q (switch_numbered j)) (sym e) ∙ off in absurd (cc)) in omega (arith, differs)) (omega arith) on
    ]
  where
    chosen : (t : Bool) (others : List SwitchId) → find p (cond t (switch_numbered n ∷ others) others) ≡ cond t (cond (p (switch_numbered n)) (Some (switch_numbered n)) (find p others)) (find p others)
    chosen true others = refl
    chosen false others = refl

module _ (k : ℕ) (s : SwitchId) where
  -- the messages to the switch, one by one
  pub texts_are : (y : ℕ) (rs : List Request) → AllByRecursion (λ (r : Request). r.round ≡ k) rs → texts_for s (map outgoing_of (sent_from y rs)) ≡ map wire_text (messages_to k s (sent_from y rs))
  texts_are y [] each = refl
  texts_are y (r ∷ rs) each =
      let m = sent_for r y in
      let mine : List Outgoing = filter (is_to s) (map outgoing_of (sent_from (suc y) rs)) in
      let others : List Sent = filter (λ (n : Sent). eqb n.round k && eqb n.switch.0 s.0) (sent_from (suc y) rs) in
      let rest : map (λ (o : Outgoing). o.text) mine ≡ map wire_text (map (λ (n : Sent). n.message) others) = texts_are (suc y) rs each.1 in
      elim (eqb r.switch.0 s.0) as (λ t. map (λ (o : Outgoing). o.text) (cond t (outgoing_of m ∷ mine) mine) ≡ map wire_text (map (λ (n : Sent). n.message) (cond t (m ∷ others) others))) [
        | true ↦ ap (λ (l : List (List ℕ)). wire_text m.message ∷ l) rest
        | false ↦ rest
      ]
      ∙ ap (λ t. map wire_text (map (λ (n : Sent). n.message) (cond (t && eqb r.switch.0 s.0) (m ∷ others) others))) (sym (eq-eqb r.round k each.0))

  -- messages of changes ask for no barrier
  pub no_barrier_in : (y : ℕ) (cs : List Change) (ms : List Message) → barrier_in (messages_to k s (sent_from y (map (change_request k) cs)) ++ ms) ≡ barrier_in ms
  no_barrier_in y [] ms = refl
  no_barrier_in y (c ∷ cs) ms =
      let m = sent_for (change_request k c) y in
      let others : List Sent = filter (λ (n : Sent). eqb n.round k && eqb n.switch.0 s.0) (sent_from (suc y) (map (change_request k) cs)) in
      let rest : barrier_in (map (λ (n : Sent). n.message) others ++ ms) ≡ barrier_in ms = no_barrier_in (suc y) cs ms in
      elim (eqb m.round k && eqb m.switch.0 s.0) as (λ t. barrier_in (map (λ (n : Sent). n.message) (cond t (m ∷ others) others) ++ ms) ≡ barrier_in ms) [
        | true ↦ barrier_in-change c y (map (λ (n : Sent). n.message) others ++ ms) ∙ rest
        | false ↦ rest
      ]

module _ (k : ℕ) (round : List Change) where
  -- the barrier requests of a round to a switch, where the first of these switches has number n
  abbrev pub barriers_to : SwitchId → ℕ → List SwitchId → List Message
  barriers_to s y switches = messages_to k s (sent_from y (map (barrier_request k) switches))

  abbrev pub changed_from : ℕ → ℕ → List SwitchId
  changed_from n m = filter (is_changed round) (map switch_numbered (range_with_len n m))

  pub changed_first : (n m : ℕ) → is_changed round (switch_numbered n) ≡ true → changed_from n (suc m) ≡ switch_numbered n ∷ changed_from (n + 1) m
  changed_first n m on = rw on refl

  pub changed_later : (n m : ℕ) → is_changed round (switch_numbered n) ≡ false → changed_from n (suc m) ≡ changed_from (n + 1) m
  changed_later n m off = rw off refl

  pub barrier_here : (s t : SwitchId) (switches : List SwitchId) (y : ℕ) → eqb t.0 s.0 ≡ true → barriers_to s y (t ∷ switches) ≡ BarrierRequest y ∷ barriers_to s (suc y) switches
  barrier_here s t switches y this = let same : eqb k k ≡ true = eq-eqb k k refl in rw (same, this) refl

  pub barrier_past : (s t : SwitchId) (switches : List SwitchId) (y : ℕ) → eqb t.0 s.0 ≡ false → barriers_to s y (t ∷ switches) ≡ barriers_to s (suc y) switches
  barrier_past s t switches y other = let same : eqb k k ≡ true = eq-eqb k k refl in rw (same, other) refl

  abbrev pub asks_so : PeerState → Option ℕ → PeerState
  asks_so p o = option_map_or (λ x. asks x p) o p

  pub asked_barrier : (y n : ℕ) (peers : List PeerState) (i : ℕ) → i < length peers → y + length (changed_from n (length peers)) ≤ 4294967295
      → get_or (asked_from y round n peers) i first_peer ≡ asks_so (get_or peers i first_peer) (barrier_in (barriers_to (switch_numbered (n + i)) y (changed_from n (length peers))))
  asked_barrier y n [] i less few = absurd (omega arith)
  asked_barrier y n (p ∷ peers) zero less few =
      let m = length peers in
      let s = switch_numbered (n + 0) in
      let place : n ≡ n + 0 = omega arith in
      elim (cases_Bool (is_changed round (switch_numbered n))) [
        | inl on ↦
            ap (λ t. asks_if t y p) on
            ∙ ap (λ (l : List Message). asks_so p (barrier_in l)) (sym (ap (barriers_to s y) (changed_first n m on) ∙ barrier_here s (switch_numbered n) (changed_from (n + 1) m) y (eq-eqb n (n + 0) place)))
        | inr off ↦
            ap (λ t. asks_if t y p) off
            ∙ ap (λ (l : List Message). asks_so p (barrier_in l)) (sym (ap (barriers_to s y) (changed_later n m off) ∙ no_barrier k s (is_changed round) (n + 1) m y (inl (omega arith))))
      ]
  asked_barrier y n (p ∷ peers) (suc i) less few =
      let m = length peers in
      let s = switch_numbered (n + suc i) in
      let place : suc n + i ≡ n + suc i = omega arith in
      let q = get_or peers i first_peer in
      let step : suc n ≡ n + 1 = omega arith in
      let Rest : ℕ → Type 0 = λ z. get_or (asked_from z round (suc n) peers) i first_peer ≡ asks_so q (barrier_in (barriers_to s z (changed_from (n + 1) m))) in
      let same : length (changed_from (suc n) m) ≡ length (changed_from (n + 1) m) = ap (λ (j : ℕ). length (changed_from j m)) step in
      let later : (z : ℕ) → z + length (changed_from (n + 1) m) ≤ 4294967295 → Rest z = λ z fits. (
      asked_barrier z (suc n) peers i (omega arith) (omega arith) ∙ ap (λ (j : ℕ). asks_so q (barrier_in (barriers_to (switch_numbered j) z (changed_from (suc n) m)))) place
      ∙ ap (λ (j : ℕ). asks_so q (barrier_in (barriers_to s z (changed_from j m)))) step) in
      elim (cases_Bool (is_changed round (switch_numbered n))) [
        | inl on ↦
            let count : length (changed_from n (suc m)) ≡ suc (length (changed_from (n + 1) m)) = ap length (changed_first n m on) in
            ap (λ t. get_or (asked_from (next_if t y) round (suc n) peers) i first_peer) on
            ∙ ap (λ z. get_or (asked_from z round (suc n) peers) i first_peer) (next_is y (omega arith)) ∙ later (suc y) (omega arith)
            ∙ ap (λ (l : List Message). asks_so q (barrier_in l)) (sym (ap (barriers_to s y) (changed_first n m on) ∙ barrier_past s (switch_numbered n) (changed_from (n + 1) m) y (ne_eqb n (n + suc i) (λ e. omega arith))))
        | inr off ↦
            let count : length (changed_from n (suc m)) ≡ length (changed_from (n + 1) m) = ap length (changed_later n m off) in
            ap (λ t. get_or (asked_from (next_if t y) round (suc n) peers) i first_peer) off ∙ later y (omega arith)
            ∙ ap (λ (l : List Message). asks_so q (barrier_in l)) (sym (ap (barriers_to s y) (changed_later n m off)))
      ]

-- ---- the messages of a round that has few enough

length-sent : (y : ℕ) (rs : List Request) → length (sent_from y rs) ≡ length rs
length-sent y [] = refl
length-sent y (r ∷ rs) = ap suc (length-sent (suc y) rs)

each_map : {A : Type 0} (k : ℕ) (f : A → Request) → ((x : A) → (f x).round ≡ k) → (xs : List A) → AllByRecursion (λ (r : Request). r.round ≡ k) (map f xs)
each_map k f h [] = tt
each_map k f h (x ∷ xs) = (h x, each_map k f h xs)

module _ (net : Network) (k first : ℕ) (round : List Change) (few : first + length (round_requests net k round) ≤ 4294967295) where
  -- the xid behind them
  pub batch_behind : xid_behind first (length (batch_of net first round)) ≡ first + length (round_requests net k round)
  batch_behind =
      let count : length (batch_of net first round) ≡ length (round_requests net k round) =
      ap length (sym (batch_is net k first round few)) ∙ length-map (sent_from first (round_requests net k round)) outgoing_of ∙ length-sent first (round_requests net k round) in
      ap (xid_behind first) count ∙ xid_is first (length (round_requests net k round)) few

  in_round : AllByRecursion (λ (r : Request). r.round ≡ k) (round_requests net k round)
  in_round =
      each_append (λ (r : Request). r.round ≡ k) (map (change_request k) round) (map (barrier_request k) (switches_changed net round)) (each_map k (change_request k) (λ c. refl) round)
      (each_map k (barrier_request k) (λ s. refl) (switches_changed net round))

  pub batch_texts : (s : SwitchId) → texts_for s (batch_of net first round) ≡ map wire_text (messages_to k s (sent_from first (round_requests net k round)))
  batch_texts s = ap (texts_for s) (sym (batch_is net k first round few)) ∙ texts_are k s first (round_requests net k round) in_round

  -- the barrier request to a switch is one of those behind the changes
  pub barrier_is : (s : SwitchId) → barrier_in (messages_to k s (sent_from first (round_requests net k round))) ≡ barrier_in (barriers_to k round s (first + length round) (changed_from k round 0 (switch_count net)))
  barrier_is s =
      let changes = map (change_request k) round in
      ap barrier_in (messages_in_turn k s first changes (map (barrier_request k) (switches_changed net round)))
      ∙ no_barrier_in k s first round (barriers_to k round s (first + length changes) (switches_changed net round))
      ∙ ap (λ (n : ℕ). barrier_in (barriers_to k round s (first + n) (switches_changed net round))) (length-map round (change_request k))
