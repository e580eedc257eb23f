-- The messages of a batch, their xids, and to whom they are.
use Rattle.std.proofs.Common.{◌≡◌, ℕ, zero, suc, ◌+◌, ◌-◌, ◌<◌, ◌≤◌, Bool, List, [], ◌∷◌, ◌++◌, length, map, drop, get_or, refl, sym, ap, ◌∙◌, append_assoc, add-one, zero-add, drop-cons, length-append, arith}
use Rattle.std.specs.Prelude.{filter}
use Rattle.std.specs.List.{AllByRecursion, range_with_len}
use Rattle.std.proofs.lemmas.Bool.{cond_both}
use Rattle.std.proofs.lemmas.List.Elements.{filter-append}
use Rattle.net_base.specs.Switches.{most_switches}
use Rattle.net_base.specs.declared.ids.SwitchId.{SwitchId}
use Rattle.net_base.proofs.MemberLaws.{each_append}
use Rattle.topology.specs.Networks.{Network, switch_count}
use Rattle.update_model.specs.Changes.{switch_of}
use Rattle.update_model.specs.Ranges.{IsPlanChange}
use Rattle.update_model.specs.declared.Change.{Change}
use Rattle.round_messages.specs.Requests.{is_changed, switch_numbered, switches_changed}
use Rattle.turned_rounds.specs.Batches.{next_xid, xid_behind, change_message, barrier_message, change_messages, barrier_messages, batch_of, AreToSwitches}
use Rattle.turned_rounds.specs.declared.outgoing.Outgoing.{Outgoing}

-- ---- xids

pub xid_behind-add : (x a b : ℕ) → xid_behind x (a + b) ≡ xid_behind (xid_behind x a) b
xid_behind-add x zero b = ap (xid_behind x) (zero-add b)
xid_behind-add x (suc a) b = let e : suc a + b ≡ suc (a + b) = omega arith in ap (xid_behind x) e ∙ xid_behind-add (next_xid x) a b

length-changes : (x : ℕ) (changes : List Change) → length (change_messages x changes) ≡ length changes
length-changes x [] = refl
length-changes x (c ∷ changes) = ap suc (length-changes (next_xid x) changes)

length-barriers : (x : ℕ) (switches : List SwitchId) → length (barrier_messages x switches) ≡ length switches
length-barriers x [] = refl
length-barriers x (s ∷ switches) = ap suc (length-barriers (next_xid x) switches)

pub batch_xid : (net : Network) (x : ℕ) (round : List Change) → xid_behind x (length (batch_of net x round)) ≡ xid_behind (xid_behind x (length round)) (length (switches_changed net round))
batch_xid net x round =
    let y = xid_behind x (length round) in
    let changes = length-changes x round in
    let barriers = length-barriers y (switches_changed net round) in
    let both = length-append (change_messages x round) (barrier_messages y (switches_changed net round)) in
    let count : length (batch_of net x round) ≡ length round + length (switches_changed net round) = omega (arith, both, changes, barriers) in
    ap (xid_behind x) count ∙ xid_behind-add x (length round) (length (switches_changed net round))

barriers-append : (x : ℕ) (a b : List SwitchId) → barrier_messages x (a ++ b) ≡ barrier_messages x a ++ barrier_messages (xid_behind x (length a)) b
barriers-append x [] b = refl
barriers-append x (s ∷ a) b = ap (λ l. barrier_message x s ∷ l) (barriers-append (next_xid x) a b)

-- ---- one message more

module _ (round : List Change) (i : ℕ) (c : Change) (less : i < length round) (at : c ≡ get_or round i c) where
  front : drop i round ≡ c ∷ drop (i + 1) round
  front = drop-cons round i c less ∙ ap (λ (d : Change). d ∷ drop (suc i) round) (sym at) ∙ ap (λ (n : ℕ). c ∷ drop n round) (sym (add-one i))

  pub changes_step : (before after all : List Outgoing) (x y : ℕ) → after ≡ before ++ change_message x c ∷ [] → y ≡ next_xid x → before ++ change_messages x (drop i round) ≡ all
      → after ++ change_messages y (drop (i + 1) round) ≡ all
  changes_step before after all x y put next so_far =
      let rest = drop (i + 1) round in
      ap (λ l. l ++ change_messages y rest) put ∙ ap (λ n. (before ++ change_message x c ∷ []) ++ change_messages n rest) next
      ∙ append_assoc before (change_message x c ∷ []) (change_messages (next_xid x) rest) ∙ ap (λ l. before ++ change_messages x l) (sym front) ∙ so_far

  pub changes_xid : (x y target : ℕ) → y ≡ next_xid x → xid_behind x (length (drop i round)) ≡ target → xid_behind y (length (drop (i + 1) round)) ≡ target
  changes_xid x y target next so_far = ap (λ n. xid_behind n (length (drop (i + 1) round))) next ∙ ap (λ (l : List Change). xid_behind x (length l)) (sym front) ∙ so_far

-- the switches with a change from number i on
abbrev pub left_from : List Change → ℕ → ℕ → List SwitchId
left_from round i n = filter (is_changed round) (map switch_numbered (range_with_len i n))

module _ (round : List Change) (i n : ℕ) (less : i < n) where
  one : List SwitchId
  one = filter (is_changed round) (switch_numbered i ∷ [])

  abbrev rest : List SwitchId
  rest = left_from round (i + 1) (n - (i + 1))

  left : left_from round i (n - i) ≡ filter (is_changed round) (switch_numbered i ∷ []) ++ rest
  left =
      let step : n - i ≡ suc (n - (i + 1)) = omega arith in
      ap (left_from round i) step ∙ filter-append (is_changed round) (switch_numbered i ∷ []) (map switch_numbered (range_with_len (i + 1) (n - (i + 1))))

  pub barriers_step : (before after all : List Outgoing) (x y : ℕ) → after ≡ before ++ barrier_messages x (filter (is_changed round) (switch_numbered i ∷ []))
      → y ≡ xid_behind x (length (filter (is_changed round) (switch_numbered i ∷ []))) → before ++ barrier_messages x (left_from round i (n - i)) ≡ all → after ++ barrier_messages y rest ≡ all
  barriers_step before after all x y put next so_far =
      let here = filter (is_changed round) (switch_numbered i ∷ []) in
      ap (λ l. l ++ barrier_messages y rest) put ∙ ap (λ k. (before ++ barrier_messages x here) ++ barrier_messages k rest) next
      ∙ append_assoc before (barrier_messages x here) (barrier_messages (xid_behind x (length here)) rest)
      ∙ ap (λ l. before ++ l) (sym (barriers-append x here rest)) ∙ ap (λ l. before ++ barrier_messages x l) (sym left) ∙ so_far

  pub barriers_xid : (x y target : ℕ) → y ≡ xid_behind x (length (filter (is_changed round) (switch_numbered i ∷ []))) → xid_behind x (length (left_from round i (n - i))) ≡ target
      → xid_behind y (length rest) ≡ target
  barriers_xid x y target next so_far =
      let here = filter (is_changed round) (switch_numbered i ∷ []) in
      ap (λ k. xid_behind k (length rest)) next ∙ sym (xid_behind-add x (length here) (length rest)) ∙ ap (xid_behind x) (sym (length-append here rest))
      ∙ ap (λ (l : List SwitchId). xid_behind x (length l)) (sym left) ∙ so_far

-- ---- to whom they are

changes_within : (net : Network) (x : ℕ) (changes : List Change) → AllByRecursion (IsPlanChange net) changes → AreToSwitches net (change_messages x changes)
changes_within net x [] plan = tt
changes_within net x (c ∷ changes) plan = (plan.0.switch, changes_within net (next_xid x) changes plan.1)

barriers_within : (net : Network) (x : ℕ) (switches : List SwitchId) → AllByRecursion (λ (s : SwitchId). s.0 < switch_count net) switches → AreToSwitches net (barrier_messages x switches)
barriers_within net x [] all = tt
barriers_within net x (s ∷ switches) all = (all.0, barriers_within net (next_xid x) switches all.1)

switches_within : (p : SwitchId → Bool) (most a m : ℕ) → a + m ≤ most → AllByRecursion (λ (s : SwitchId). s.0 < most) (filter p (map switch_numbered (range_with_len a m)))
switches_within p most a zero le = tt
switches_within p most a (suc m) le =
    let tail = filter p (map switch_numbered (range_with_len (a + 1) m)) in
    let others = switches_within p most (a + 1) m (omega arith) in
    cond_both (p (switch_numbered a)) (switch_numbered a ∷ tail) tail (AllByRecursion (λ (s : SwitchId). s.0 < most)) (λ e. (omega arith, others)) (λ e. others)

pub batch_within : (net : Network) (x : ℕ) (round : List Change) → AllByRecursion (IsPlanChange net) round → AreToSwitches net (batch_of net x round)
batch_within net x round plan =
    let y = xid_behind x (length round) in
    each_append (λ (m : Outgoing). m.switch.0 < switch_count net) (change_messages x round) (barrier_messages y (switches_changed net round)) (changes_within net x round plan)
    (barriers_within net y (switches_changed net round) (switches_within (is_changed round) (switch_count net) 0 (switch_count net) (omega arith)))

-- ---- where they are

pub few_switches : (net : Network) (round : List Change) → switch_count net ≤ most_switches → AllByRecursion (IsPlanChange net) round → AllByRecursion (λ (c : Change). (switch_of c).0 < most_switches) round
few_switches net [] few plan = tt
few_switches net (c ∷ round) few plan = ((let here = plan.0.switch in omega arith), few_switches net round few plan.1)
