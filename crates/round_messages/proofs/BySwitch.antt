-- The messages to one switch in one round.
use Rattle.std.proofs.Common.{◌≡◌, ℕ, zero, suc, ◌+◌, ◌<◌, ◌≤◌, Bool, true, false, cond, eqb, ◌&&◌, List, [], ◌∷◌, ◌++◌, length, map, take, refl, sym, ap, ◌∙◌, subst, append-nil, length-append, ◌⊎◌, inl, inr, arith}
use Rattle.std.specs.Prelude.{filter}
use Rattle.std.specs.List.{AllByRecursion, range_with_len}
use Rattle.std.proofs.lemmas.Bool.{eq-eqb, eqb-true, ne_eqb, cases_eq, false_from_ne_true}
use Rattle.std.proofs.lemmas.List.{map-append}
use Rattle.std.proofs.lemmas.List.Elements.{filter-append}
use Rattle.net_base.specs.Members.{IsIn}
use Rattle.net_base.specs.declared.ids.SwitchId.{SwitchId}
use Rattle.net_base.proofs.MemberLaws.{each_append, each_at, in_filter, in_from_filter}
use Rattle.net_base.proofs.ListLaws.{any_in, in_from_any}
use Rattle.topology.specs.Networks.{Network, switch_count}
use Rattle.update_model.specs.Changes.{switch_of, changes_at, round_after}
use Rattle.update_model.specs.Ranges.{IsPlanChange}
use Rattle.update_model.specs.declared.Change.{Change}
use Rattle.openflow10.specs.declared.Message.{Message}
use Rattle.openflow10.specs.declared.Message.TheVariants.{BarrierRequest}
use Rattle.round_messages.specs.Requests.{Request, Sent, is_changed, switch_numbered, switches_changed, change_request, barrier_request, round_requests, requests_from, sent_for, sent_from, sent_in, first_xid}
use Rattle.round_messages.specs.ToSwitch.{messages_to, AskFor, AreFor}
use Rattle.round_messages.proofs.Requests.{sent_from-append}

-- whether a message is one to the switch in round k
abbrev goes_to : ℕ → SwitchId → Sent → Bool
goes_to k s m = eqb m.round k && eqb m.switch.0 s.0

pub messages_to-append : (k : ℕ) (s : SwitchId) (xs ys : List Sent) → messages_to k s (xs ++ ys) ≡ messages_to k s xs ++ messages_to k s ys
messages_to-append k s xs ys =
    ap (map (λ (m : Sent). m.message)) (filter-append (goes_to k s) xs ys) ∙ map-append (λ (m : Sent). m.message) (filter (goes_to k s) xs) (filter (goes_to k s) ys)

pub messages_in_turn : (k : ℕ) (s : SwitchId) (xid : ℕ) (rs ss : List Request)
    → messages_to k s (sent_from xid (rs ++ ss)) ≡ messages_to k s (sent_from xid rs) ++ messages_to k s (sent_from (xid + length rs) ss)
messages_in_turn k s xid rs ss = ap (messages_to k s) (sent_from-append xid rs ss) ∙ messages_to-append k s (sent_from xid rs) (sent_from (xid + length rs) ss)

-- ---- other rounds

abbrev IsOther : ℕ → Request → Type 0
IsOther k r = eqb r.round k ≡ false

none_of_others : (k : ℕ) (s : SwitchId) (xid : ℕ) (rs : List Request) → AllByRecursion (IsOther k) rs → messages_to k s (sent_from xid rs) ≡ []
none_of_others k s xid [] h = refl
none_of_others k s xid (r ∷ rs) h = rw h.0 (none_of_others k s (suc xid) rs h.1)

each_map : {A B : Type 0} (P : B → Type 0) (f : A → B) → ((x : A) → P (f x)) → (xs : List A) → AllByRecursion P (map f xs)
each_map P f h [] = tt
each_map P f h (x ∷ xs) = (h x, each_map P f h xs)

other_round : (net : Network) (k j : ℕ) (round : List Change) → eqb j k ≡ false → AllByRecursion (IsOther k) (round_requests net j round)
other_round net k j round h =
    each_append (IsOther k) (map (change_request j) round) (map (barrier_request j) (switches_changed net round))
    (each_map (IsOther k) (change_request j) (λ c. h) round) (each_map (IsOther k) (barrier_request j) (λ s. h) (switches_changed net round))

later_rounds : (net : Network) (k j : ℕ) (rounds : List (List Change)) → k < j → AllByRecursion (IsOther k) (requests_from net j rounds)
later_rounds net k j [] lt = tt
later_rounds net k j (round ∷ rounds) lt =
    let differs : eqb j k ≡ false = ne_eqb j k (λ e. omega arith) in
    each_append (IsOther k) (round_requests net j round) (requests_from net (suc j) rounds) (other_round net k j round differs) (later_rounds net k (suc j) rounds (omega arith))

-- ---- one round

-- its changes
asked : (j : ℕ) (s : SwitchId) (xid : ℕ) (cs : List Change) → AskFor (changes_at s cs) (messages_to j s (sent_from xid (map (change_request j) cs)))
asked j s xid [] = tt
asked j s xid (c ∷ cs) =
    let rest = asked j s (suc xid) cs in
    let same : eqb j j ≡ true = eq-eqb j j refl in
    let later : List Sent = filter (goes_to j s) (sent_from (suc xid) (map (change_request j) cs)) in
    let first : Sent = sent_for (change_request j c) xid in
    let here : AskFor (cond (eqb (switch_of c).0 s.0) (c ∷ changes_at s cs) (changes_at s cs)) (map (λ (m : Sent). m.message) (cond (eqb (switch_of c).0 s.0) (first ∷ later) later)) =
    elim (eqb (switch_of c).0 s.0) as (λ b. AskFor (cond b (c ∷ changes_at s cs) (changes_at s cs)) (map (λ (m : Sent). m.message) (cond b (first ∷ later) later))) [
      | true ↦ ((xid, refl), rest)
      | false ↦ rest
    ] in
    rw same here

-- its barriers
abbrev barriers : ℕ → SwitchId → (SwitchId → Bool) → ℕ → ℕ → ℕ → List Message
barriers j s p a n xid = messages_to j s (sent_from xid (map (barrier_request j) (filter p (map switch_numbered (range_with_len a n)))))

-- a switch of another number
passed_over : (j : ℕ) (s t : SwitchId) (ss : List SwitchId) (xid : ℕ) → eqb t.0 s.0 ≡ false
    → messages_to j s (sent_from xid (map (barrier_request j) (t ∷ ss))) ≡ messages_to j s (sent_from (suc xid) (map (barrier_request j) ss))
passed_over j s t ss xid other =
    let same : eqb j j ≡ true = eq-eqb j j refl in
    rw (same, other) refl

met : (j : ℕ) (s t : SwitchId) (ss : List SwitchId) (xid : ℕ) → eqb t.0 s.0 ≡ true
    → messages_to j s (sent_from xid (map (barrier_request j) (t ∷ ss))) ≡ BarrierRequest xid ∷ messages_to j s (sent_from (suc xid) (map (barrier_request j) ss))
met j s t ss xid this =
    let same : eqb j j ≡ true = eq-eqb j j refl in
    rw (same, this) refl

-- the switches from a on begin with a, if it passes
passed_first : (p : SwitchId → Bool) (a n : ℕ) → p (switch_numbered a) ≡ true
    → filter p (map switch_numbered (range_with_len a (suc n))) ≡ switch_numbered a ∷ filter p (map switch_numbered (range_with_len (a + 1) n))
passed_first p a n on = rw on refl

not_first : (p : SwitchId → Bool) (a n : ℕ) → p (switch_numbered a) ≡ false
    → filter p (map switch_numbered (range_with_len a (suc n))) ≡ filter p (map switch_numbered (range_with_len (a + 1) n))
not_first p a n off = rw off refl

cases_of : (b : Bool) → (b ≡ true) ⊎ (b ≡ false)
cases_of true = inl refl
cases_of false = inr refl

module _ (j : ℕ) (s : SwitchId) (p : SwitchId → Bool) where
  abbrev sent_to_all : ℕ → List SwitchId → List Message
  sent_to_all xid ss = messages_to j s (sent_from xid (map (barrier_request j) ss))

  -- a switch before a, or one that doesn't pass, gets none
  pub no_barrier : (a n xid : ℕ) → (s.0 < a) ⊎ (p (switch_numbered s.0) ≡ false) → barriers j s p a n xid ≡ []
  no_barrier a zero xid h = refl
  no_barrier a (suc n) xid h =
      elim (cases_of (p (switch_numbered a))) [
        | inr off ↦ ap (sent_to_all xid) (not_first p a n off) ∙ no_barrier (a + 1) n xid (elim h [ inl lt ↦ inl (omega arith) | inr out ↦ inr out ])
        | inl on ↦
            let differs : eqb a s.0 ≡ false = ne_eqb a s.0 (λ e. elim h [
              | inl lt ↦ omega arith
              | inr out ↦ let passes : p (switch_numbered s.0) ≡ true = subst (λ (k : ℕ). p (switch_numbered k) ≡ true) e on in cc
            ]) in
            ap (sent_to_all xid) (passed_first p a n on) ∙ passed_over j s (switch_numbered a) (filter p (map switch_numbered (range_with_len (a + 1) n))) xid differs
            ∙ no_barrier (a + 1) n (suc xid) (elim h [ inl lt ↦ inl (omega arith) | inr out ↦ inr out ])
      ]

  -- a switch that passes gets one
  pub one_barrier : (a n xid : ℕ) → p (switch_numbered s.0) ≡ true → a ≤ s.0 → s.0 < a + n → (x : ℕ) × (barriers j s p a n xid ≡ BarrierRequest x ∷ [])
  one_barrier a zero xid passes ge lt = absurd (omega arith)
  one_barrier a (suc n) xid passes ge lt =
      let rest : List SwitchId = filter p (map switch_numbered (range_with_len (a + 1) n)) in
      elim (cases_eq a s.0) [
        | inl same ↦
            let on : p (switch_numbered a) ≡ true = subst (λ (k : ℕ). p (switch_numbered k) ≡ true) (sym same) passes in (
              xid,
              ap (sent_to_all xid) (passed_first p a n on) ∙ met j s (switch_numbered a) rest xid (eq-eqb a s.0 same)
                  ∙ ap (λ l. BarrierRequest xid ∷ l) (no_barrier (a + 1) n (suc xid) (inl (omega arith))),
            )
        | inr differs ↦
            let behind : a + 1 ≤ s.0 = omega arith in
            elim (cases_of (p (switch_numbered a))) [
              | inr off ↦
                  let (x, one) = one_barrier (a + 1) n xid passes behind (omega arith) in
                  (x, ap (sent_to_all xid) (not_first p a n off) ∙ one)
              | inl on ↦
                  let (x, one) = one_barrier (a + 1) n (suc xid) passes behind (omega arith) in
                  (x, ap (sent_to_all xid) (passed_first p a n on) ∙ passed_over j s (switch_numbered a) rest xid (ne_eqb a s.0 differs) ∙ one)
            ]
      ]

-- changes and barriers
join : (cs : List Change) (asking waits : List Message) → AskFor cs asking → (cs ≡ [] → waits ≡ []) → ((c : Change) (rest : List Change) → cs ≡ c ∷ rest → (x : ℕ) × (waits ≡ BarrierRequest x ∷ []))
    → AreFor cs (asking ++ waits)
join [] [] waits ask none one = none refl
join [] (m ∷ ms) waits ask none one = absurd ask
join (c ∷ cs) asking waits ask none one =
    let (x, is) = one c cs refl in
    record { asking = asking; xid = x; ask = ask; are = ap (λ l. asking ++ l) is }

abbrev at_switch : SwitchId → Change → Bool
at_switch s c = eqb (switch_of c).0 s.0

unchanged : (s : SwitchId) (cs : List Change) → changes_at s cs ≡ [] → is_changed cs (switch_numbered s.0) ≡ false
unchanged s cs none = false_from_ne_true (is_changed cs (switch_numbered s.0)) (λ some.
    let (c, stands, passes) = in_from_any (at_switch s) cs some in
    subst (λ l. IsIn c l) none (in_filter (at_switch s) c cs stands passes))

module _ (net : Network) where
  changed : (s : SwitchId) (cs rest : List Change) (c : Change) → AllByRecursion (IsPlanChange net) cs → changes_at s cs ≡ c ∷ rest → (is_changed cs (switch_numbered s.0) ≡ true) × (s.0 < switch_count net)
  changed s cs rest c h some =
      let found : IsIn c (changes_at s cs) = subst (λ l. IsIn c l) (sym some) (inl refl) in
      let stands = in_from_filter (at_switch s) c cs found in
      let same : (switch_of c).0 ≡ s.0 = eqb-true (switch_of c).0 s.0 stands.1 in
      let within = (each_at (IsPlanChange net) cs c h stands.0).switch in
      (any_in (at_switch s) c cs stands.0 stands.1, omega (arith, same, within))

  round_is : (j : ℕ) (s : SwitchId) (xid : ℕ) (round : List Change) → AllByRecursion (IsPlanChange net) round → AreFor (changes_at s round) (messages_to j s (sent_from xid (round_requests net j round)))
  round_is j s xid round h =
      let next : ℕ = xid + length (map (change_request j) round) in
      let all = messages_in_turn j s xid (map (change_request j) round) (map (barrier_request j) (switches_changed net round)) in
      subst (AreFor (changes_at s round)) (sym all)
      (join (changes_at s round) (messages_to j s (sent_from xid (map (change_request j) round))) (barriers j s (is_changed round) 0 (switch_count net) next) (asked j s xid round)
      (λ none. no_barrier j s (is_changed round) 0 (switch_count net) next (inr (unchanged s round none)))
      (λ c rest some. let (on, lt) = changed s round rest c h some in one_barrier j s (is_changed round) 0 (switch_count net) next on (omega arith) (omega arith)))

  -- the round after d more than the first j
  rounds_are : (rounds : List (List Change)) (j d : ℕ) (s : SwitchId) (xid : ℕ) → AllByRecursion (AllByRecursion (IsPlanChange net)) rounds
      → AreFor (changes_at s (round_after d rounds)) (messages_to (j + d) s (sent_from xid (requests_from net j rounds)))
  rounds_are [] j d s xid h = refl
  rounds_are (round ∷ rounds) j zero s xid h =
      let this : j + zero ≡ j = omega arith in
      let next : ℕ = xid + length (round_requests net j round) in
      let none = none_of_others (j + zero) s next (requests_from net (suc j) rounds) (later_rounds net (j + zero) (suc j) rounds (omega arith)) in
      let first : List Message = messages_to (j + zero) s (sent_from xid (round_requests net j round)) in
      let all : messages_to (j + zero) s (sent_from xid (requests_from net j (round ∷ rounds))) ≡ first =
      messages_in_turn (j + zero) s xid (round_requests net j round) (requests_from net (suc j) rounds) ∙ ap (λ l. first ++ l) none ∙ append-nil first in
      subst (AreFor (changes_at s round)) (sym all) (subst (λ (k : ℕ). AreFor (changes_at s round) (messages_to k s (sent_from xid (round_requests net j round)))) (sym this) (round_is j s xid round h.0))
  rounds_are (round ∷ rounds) j (suc d) s xid h =
      let place : suc j + d ≡ j + suc d = omega arith in
      let next : ℕ = xid + length (round_requests net j round) in
      let differs : eqb j (j + suc d) ≡ false = ne_eqb j (j + suc d) (λ e. omega arith) in
      let none = none_of_others (j + suc d) s xid (round_requests net j round) (other_round net (j + suc d) j round differs) in
      let later : List Message = messages_to (j + suc d) s (sent_from next (requests_from net (suc j) rounds)) in
      let all : messages_to (j + suc d) s (sent_from xid (requests_from net j (round ∷ rounds))) ≡ later =
      messages_in_turn (j + suc d) s xid (round_requests net j round) (requests_from net (suc j) rounds) ∙ ap (λ l. l ++ later) none in
      subst (AreFor (changes_at s (round_after d rounds))) (sym all)
      (subst (λ (k : ℕ). AreFor (changes_at s (round_after d rounds)) (messages_to k s (sent_from next (requests_from net (suc j) rounds)))) place (rounds_are rounds (suc j) d s next h.1))

  pub each_round : (rounds : List (List Change)) (k : ℕ) (s : SwitchId) → AllByRecursion (AllByRecursion (IsPlanChange net)) rounds
      → AreFor (changes_at s (round_after k rounds)) (messages_to k s (sent_from 1 (requests_from net 0 rounds)))
  each_round rounds k s h =
      let place : 0 + k ≡ k = omega arith in
      subst (λ (i : ℕ). AreFor (changes_at s (round_after k rounds)) (messages_to i s (sent_from 1 (requests_from net 0 rounds)))) place (rounds_are rounds 0 k s 1 h)

  -- the messages of one round among those of all
  alone : (rounds : List (List Change)) (j d : ℕ) (s : SwitchId) (xid : ℕ) → d < length rounds
      → messages_to (j + d) s (sent_from xid (requests_from net j rounds))
      ≡ messages_to (j + d) s (sent_from (xid + length (requests_from net j (take d rounds))) (round_requests net (j + d) (round_after d rounds)))
  alone [] j d s xid lt = absurd (omega arith)
  alone (round ∷ rounds) j zero s xid lt =
      let next : ℕ = xid + length (round_requests net j round) in
      let none = none_of_others (j + zero) s next (requests_from net (suc j) rounds) (later_rounds net (j + zero) (suc j) rounds (omega arith)) in
      let first : List Message = messages_to (j + zero) s (sent_from xid (round_requests net j round)) in
      let this : j ≡ j + zero = omega arith in
      let same : xid ≡ xid + zero = omega arith in
      messages_in_turn (j + zero) s xid (round_requests net j round) (requests_from net (suc j) rounds) ∙ ap (λ l. first ++ l) none ∙ append-nil first
      ∙ ap (λ (x : ℕ). messages_to (j + zero) s (sent_from x (round_requests net j round))) same ∙ ap (λ (k : ℕ). messages_to (j + zero) s (sent_from (xid + zero) (round_requests net k round))) this
  alone (round ∷ rounds) j (suc d) s xid lt =
      let place : suc j + d ≡ j + suc d = omega arith in
      let next : ℕ = xid + length (round_requests net j round) in
      let differs : eqb j (j + suc d) ≡ false = ne_eqb j (j + suc d) (λ e. omega arith) in
      let none = none_of_others (j + suc d) s xid (round_requests net j round) (other_round net (j + suc d) j round differs) in
      let later : List Message = messages_to (j + suc d) s (sent_from next (requests_from net (suc j) rounds)) in
      let count = length-append (round_requests net j round) (requests_from net (suc j) (take d rounds)) in
      let number : next + length (requests_from net (suc j) (take d rounds)) ≡ xid + length (round_requests net j round ++ requests_from net (suc j) (take d rounds)) = omega arith in
      let rest = alone rounds (suc j) d s next (omega arith) in
      let Rest : ℕ → Type 0 = λ k. messages_to k s (sent_from next (requests_from net (suc j) rounds))
      ≡ messages_to k s (sent_from (next + length (requests_from net (suc j) (take d rounds))) (round_requests net k (round_after d rounds))) in
      messages_in_turn (j + suc d) s xid (round_requests net j round) (requests_from net (suc j) rounds) ∙ ap (λ l. l ++ later) none
      ∙ subst Rest place rest
      ∙ ap (λ (x : ℕ). messages_to (j + suc d) s (sent_from x (round_requests net (j + suc d) (round_after d rounds)))) number

  pub round_alone : (rounds : List (List Change)) (k : ℕ) (s : SwitchId) → k < length rounds
      → messages_to k s (sent_in net rounds) ≡ messages_to k s (sent_from (first_xid net rounds k) (round_requests net k (round_after k rounds)))
  round_alone rounds k s lt =
      let place : 0 + k ≡ k = omega arith in
      let Alone : ℕ → Type 0 = λ i. messages_to i s (sent_from 1 (requests_from net 0 rounds)) ≡ messages_to i s (sent_from (1 + length (requests_from net 0 (take k rounds))) (round_requests net i (round_after k rounds))) in
      subst Alone place (alone rounds 0 k s 1 lt)
