-- The evidence that is read is in range.
use Rattle.std.proofs.Common.{◌≡◌, ℕ, ◌+◌, ◌<◌, ◌≤◌, Bool, true, false, List, [], ◌∷◌, ◌++◌, length, Option, Some, None, Ok, refl, sym, ap, subst, ◌∙◌, arith, inl, inr}
use Rattle.std.specs.Prelude.{◌==◌, ◌&&◌, ◌||◌, not, nat_le, nat_lt, codes, if◌then◌else◌, option_and_then, option_map}
use Rattle.std.specs.List.{AllByRecursion, list_all, list_any, position_or_len}
use Rattle.std.proofs.lemmas.Bool.{and_parts, leb-true, ltb-true, eqb-true, cond_both}
use Rattle.std.proofs.lemmas.List.Sums.{prefix_len-le-length}
use Rattle.std.proofs.lemmas.Option.{option_and_then_some, cond_some, same_Some}
use Rattle.serde_json.specs.Data.{Data}
use Rattle.net_base.specs.declared.field.Field.{Field}
use Rattle.net_base.specs.declared.field.Field.TheVariants.{Numberings, Befores, Uses, Picks, Labels}
use Rattle.net_base.specs.declared.ids.Vlan.{Vlan}
use Rattle.net_base.specs.declared.ids.Vlan.TheVariants as vlan
use Rattle.net_base.specs.Reading.{check, need, in_turn}
use Rattle.flat_json.specs.JsonTree.{whole_in, list_in, list_at}
use Rattle.net_base.proofs.MemberLaws.{each_weaker}
use Rattle.net_base.proofs.Turns.{ok_is, in_turn-keeps}
use Rattle.topology.specs.Networks.{Network, switch_count, IsVlan, is_vlan_id}
use Rattle.certificates.specs.declared.Shared.{Shared}
use Rattle.certificates.specs.declared.OrderedPick.{OrderedPick}
use Rattle.certificates.specs.declared.Label.{Label}
use Rattle.certificates.specs.declared.LabelPick.{LabelPick}
use Rattle.certificates.specs.Valid.{IsChain, IsPickBefore, IsVlanBefore, IsValidNumbering, IsValidBefore, IsValidUse, IsValidPick, IsValidTable, IsValidLabelPick}
use Rattle.plan_format.specs.Changes.{is_text}
use Rattle.plan_format.specs.Evidence.{ascends, follows, numbers_in, is_round, is_index, all_below, height_at, numbering_in, numbering_at, numberings_in, before_at, befores_in, shared_in, pick_before, picks_with, shared_eq, with_shared, number_of_shared, numbers_and_list, full_picks_with, full_pick_at, full_picks_in, number_and_list, use_at, uses_in, list_of_three, pick_at, picks_in, uses_and_picks_in, vlan_in, label_in, vlan_before, label_before, label_at, table_in, table_at, labels_in, list_of_two, round_before, label_picks_with, label_pick_at, label_picks_in}
use Rattle.plan_format.specs.FewPicks.{HasFew}
use Rattle.plan_format.specs.declared.picks.PickTable.{PickTable}
use Rattle.plan_format.specs.declared.fault.PlanFault.{PlanFault}
use Rattle.plan_format.specs.declared.fault.PlanFault.TheVariants.{Shape, BadIndex}
use Rattle.plan_format.proofs.RankLaws.{number_fits, few_still}
use Rattle.plan_format.proofs.ReadLaws.{step, needed, checked, each_push, length_push, one_for_each}

-- ---- orders

module _ {A : Type 0} (before : A → A → Bool) (R : A → A → Type 0) (sound : (x y : A) → before x y ≡ true → R x y) where
  chain_is : (xs : List A) → ascends before xs ≡ true → IsChain R xs
  chain_is [] up = tt
  chain_is (x ∷ []) up = tt
  chain_is (x ∷ y ∷ rest) up =
      let parts = and_parts (before x y) (ascends before (y ∷ rest)) up in
      (sound x y parts.0, chain_is (y ∷ rest) parts.1)

  chain_push : (xs : List A) (x : A) → IsChain R xs → follows before xs x ≡ true → IsChain R (xs ++ x ∷ [])
  chain_push [] x chain next = tt
  chain_push (y ∷ []) x chain next = (sound y x next, tt)
  chain_push (y ∷ z ∷ rest) x chain next = (chain.0, chain_push (z ∷ rest) x chain.1 next)

below_all : (limit : ℕ) (xs : List ℕ) → all_below limit xs ≡ true → AllByRecursion (λ n. n < limit) xs
unfolding all_below
below_all limit [] all = tt
below_all limit (x ∷ xs) all =
    let parts = and_parts (nat_lt x limit) (list_all (λ n. nat_lt n limit) xs) all in
    (ltb-true x limit parts.0, below_all limit xs parts.1)

-- ---- numberings and before sets

module _ (net : Network) where
  next_height : (place : ℕ) (before after : List ℕ) (d : Data) → AllByRecursion (λ x. x ≤ 65535) before → height_at place before d ≡ Ok after → AllByRecursion (λ x. x ≤ 65535) after
  unfolding height_at
  next_height place before after d all e =
      step (need (whole_in d) (Shape Numberings place)) _ after e (λ n h0 e0.
      step (check (nat_le n 65535) (Shape Numberings place)) _ after e0 (λ _ h1 e1.
      let low = leb-true n 65535 (checked (nat_le n 65535) (Shape Numberings place) tt h1) in
      subst (AllByRecursion (λ x. x ≤ 65535)) (ok_is {E = PlanFault} (before ++ n ∷ []) after e1) (each_push (λ (x : ℕ). x ≤ 65535) before n all low)))

  one_height : (place : ℕ) (before after : List ℕ) (d : Data) → height_at place before d ≡ Ok after → length after ≡ length before + 1
  unfolding height_at
  one_height place before after d e =
      step (need (whole_in d) (Shape Numberings place)) _ after e (λ n h0 e0.
      step (check (nat_le n 65535) (Shape Numberings place)) _ after e0 (λ _ h1 e1.
      sym (ap length (ok_is {E = PlanFault} (before ++ n ∷ []) after e1)) ∙ length_push before n))

  numbering_is : (place : ℕ) (d : Data) (numbering : List ℕ) → numbering_in net place d ≡ Ok numbering → IsValidNumbering net numbering
  unfolding numbering_in
  numbering_is place d numbering e =
      step (need (list_in d) (Shape Numberings place)) _ numbering e (λ items h0 e0.
      step (check (length items == switch_count net) (Shape Numberings place)) _ numbering e0 (λ _ h1 e1.
      let size = eqb-true (length items) (switch_count net) (checked (length items == switch_count net) (Shape Numberings place) tt h1) in
      let count = one_for_each (λ i. height_at place) (λ n s t d h. one_height place s t d h) 0 [] numbering items e1 in
      (omega (arith, size, count), in_turn-keeps (λ i. height_at place) (AllByRecursion (λ x. x ≤ 65535)) (λ n s t d all h. next_height place s t d all h) 0 [] numbering items tt e1)))

  next_numbering : (place : ℕ) (before after : List (List ℕ)) (d : Data) → AllByRecursion (IsValidNumbering net) before → numbering_at net place before d ≡ Ok after → AllByRecursion (IsValidNumbering net) after
  unfolding numbering_at
  next_numbering place before after d all e =
      step (numbering_in net place d) _ after e (λ numbering h0 e0.
      subst (AllByRecursion (IsValidNumbering net)) (ok_is {E = PlanFault} (before ++ numbering ∷ []) after e0) (each_push (IsValidNumbering net) before numbering all (numbering_is place d numbering h0)))

  pub numberings_are : (top : Data) (numberings : List (List ℕ)) → numberings_in net top ≡ Ok numberings → AllByRecursion (IsValidNumbering net) numberings
  unfolding numberings_in
  numberings_are top numberings e =
      step (need (list_at (codes "numberings") top) (Shape Numberings 0)) _ numberings e (λ items h0 e0.
      in_turn-keeps (numbering_at net) (AllByRecursion (IsValidNumbering net)) (λ n s t d all h. next_numbering n s t d all h) 0 [] numberings items tt e0)

  next_before : (place : ℕ) (before after : List (List ℕ)) (d : Data) → AllByRecursion (IsValidBefore net) before → before_at net place before d ≡ Ok after → AllByRecursion (IsValidBefore net) after
  unfolding before_at
  next_before place before after d all e =
      step (numbers_in Befores place d) _ after e (λ numbers h0 e0.
      step (check (all_below (switch_count net) numbers) (BadIndex place)) _ after e0 (λ _ h1 e1.
      step (check (ascends nat_lt numbers) (BadIndex place)) _ after e1 (λ _ h2 e2.
      let low = below_all (switch_count net) numbers (checked (all_below (switch_count net) numbers) (BadIndex place) tt h1) in
      let up = chain_is nat_lt (λ s t. s < t) (λ s t h. ltb-true s t h) numbers (checked (ascends nat_lt numbers) (BadIndex place) tt h2) in
      subst (AllByRecursion (IsValidBefore net)) (ok_is {E = PlanFault} (before ++ numbers ∷ []) after e2) (each_push (IsValidBefore net) before numbers all (low, up)))))

  pub befores_are : (top : Data) (befores : List (List ℕ)) → befores_in net top ≡ Ok befores → AllByRecursion (IsValidBefore net) befores
  unfolding befores_in
  befores_are top befores e =
      step (need (list_at (codes "befores") top) (Shape Befores 0)) _ befores e (λ items h0 e0.
      in_turn-keeps (before_at net) (AllByRecursion (IsValidBefore net)) (λ n s t d all h. next_before n s t d all h) 0 [] befores items tt e0)

-- ---- shared evidence

shared_is : (field : Field) (place numberings befores numbering : ℕ) (d : Data) (s : Shared) → shared_in field place numberings befores numbering d ≡ Ok s → IsValidUse numberings befores s
unfolding shared_in
shared_is field place numberings befores numbering d s e =
    step (numbers_in field place d) _ s e (λ numbers h0 e0.
    step (check (is_index numberings numbering) (BadIndex place)) _ s e0 (λ _ h1 e1.
    step (check (all_below befores numbers) (BadIndex place)) _ s e1 (λ _ h2 e2.
    let index = and_parts (nat_lt numbering numberings) (nat_le numbering 4294967295) (checked (is_index numberings numbering) (BadIndex place) tt h1) in
    let low = below_all befores numbers (checked (all_below befores numbers) (BadIndex place) tt h2) in
    let one : Shared = record { numbering = numbering; befores = numbers } in
    subst (IsValidUse numberings befores) (ok_is {E = PlanFault} one s e2) (ltb-true numbering numberings index.0, leb-true numbering 4294967295 index.1, low))))

next_use : (numberings befores place : ℕ) (before after : List Shared) (d : Data) → AllByRecursion (IsValidUse numberings befores) before → use_at numberings befores place before d ≡ Ok after → AllByRecursion (IsValidUse numberings befores) after
unfolding use_at
next_use numberings befores place before after d all e =
    step (need (option_and_then number_and_list (list_in d)) (Shape Uses place)) _ after e (λ words h0 e0.
    step (shared_in Uses place numberings befores words.0 words.1) _ after e0 (λ shared h1 e1.
    subst (AllByRecursion (IsValidUse numberings befores)) (ok_is {E = PlanFault} (before ++ shared ∷ []) after e1)
    (each_push (IsValidUse numberings befores) before shared all (shared_is Uses place numberings befores words.0 words.1 shared h1))))

uses_are : (numberings befores : ℕ) (top : Data) (uses : List Shared) → uses_in numberings befores top ≡ Ok uses → AllByRecursion (IsValidUse numberings befores) uses
unfolding uses_in
uses_are numberings befores top uses e =
    step (need (list_at (codes "uses") top) (Shape Uses 0)) _ uses e (λ items h0 e0.
    in_turn-keeps (use_at numberings befores) (AllByRecursion (IsValidUse numberings befores)) (λ n s t d all h. next_use numberings befores n s t d all h) 0 [] uses items tt e0)

-- ---- picks of an ordered plan

before_is : (p q : OrderedPick) → pick_before p q ≡ true → IsPickBefore p q
before_is p q e = by (nat_lt p.round q.round) refl e
  where
    by : (b : Bool) → nat_lt p.round q.round ≡ b → (b || (p.round == q.round && nat_lt p.class q.class)) ≡ true → IsPickBefore p q
    by true lt h = inl (ltb-true p.round q.round lt)
    by false ge h =
        let parts = and_parts (p.round == q.round) (nat_lt p.class q.class) h in
        inr (eqb-true p.round q.round parts.0, ltb-true p.class q.class parts.1)

-- picks in range and in order
record ArePicks (rounds uses : ℕ) (picks : List OrderedPick) : Type 0 where
  each : AllByRecursion (IsValidPick rounds uses) picks
  chain : IsChain IsPickBefore picks

picks_are_with : (rounds uses place : ℕ) (before after : List OrderedPick) (p : OrderedPick) → ArePicks rounds uses before → IsValidPick rounds uses p → picks_with place before p ≡ Ok after → ArePicks rounds uses after
unfolding picks_with
picks_are_with rounds uses place before after p all one e =
    step (check (follows pick_before before p) (BadIndex place)) _ after e (λ _ h0 e0.
    let next = checked (follows pick_before before p) (BadIndex place) tt h0 in
    subst (ArePicks rounds uses) (ok_is {E = PlanFault} (before ++ p ∷ []) after e0)
    (record { each = each_push (IsValidPick rounds uses) before p all.each one; chain = chain_push pick_before IsPickBefore (λ x y h. before_is x y h) before p all.chain next }))

round_and_class : (rounds place round class : ℕ) → check (is_round rounds round && nat_le class 8191) (BadIndex place) ≡ Ok tt → (1 ≤ round) × (round ≤ rounds) × (class ≤ 8191)
round_and_class rounds place round class h =
    let both = and_parts (is_round rounds round) (nat_le class 8191) (checked (is_round rounds round && nat_le class 8191) (BadIndex place) tt h) in
    let parts = and_parts (nat_le 1 round) (nat_le round rounds) both.0 in
    (leb-true 1 round parts.0, leb-true round rounds parts.1, leb-true class 8191 both.1)

next_pick : (rounds uses place : ℕ) (before after : List OrderedPick) (d : Data) → ArePicks rounds uses before → pick_at rounds uses place before d ≡ Ok after → ArePicks rounds uses after
unfolding pick_at
next_pick rounds uses place before after d all e =
    step (need (option_and_then list_of_three (list_in d)) (Shape Picks place)) _ after e (λ n h0 e0.
    step (check (is_round rounds n.0 && nat_le n.1 8191) (BadIndex place)) _ after e0 (λ _ h1 e1.
    step (check (is_index uses n.2) (BadIndex place)) _ after e1 (λ _ h2 e2.
    let (least, most, class) = round_and_class rounds place n.0 n.1 h1 in
    let index = and_parts (nat_lt n.2 uses) (nat_le n.2 4294967295) (checked (is_index uses n.2) (BadIndex place) tt h2) in
    picks_are_with rounds uses place before after _ all (least, most, class, ltb-true n.2 uses index.0, leb-true n.2 4294967295 index.1) e2)))

picks_are : (rounds uses : ℕ) (top : Data) (picks : List OrderedPick) → picks_in rounds uses top ≡ Ok picks → ArePicks rounds uses picks
unfolding picks_in
picks_are rounds uses top picks e =
    step (need (list_at (codes "picks") top) (Shape Picks 0)) _ picks e (λ items h0 e0.
    in_turn-keeps (pick_at rounds uses) (ArePicks rounds uses) (λ n s t d all h. next_pick rounds uses n s t d all h) 0 [] picks items (record { each = tt; chain = tt }) e0)

-- evidence and picks in range
pub record IsTable (rounds numberings befores : ℕ) (t : PickTable) : Type 0 where
  pub uses : AllByRecursion (IsValidUse numberings befores) t.uses
  pub picks : AllByRecursion (IsValidPick rounds (length t.uses)) t.picks
  pub chain : IsChain IsPickBefore t.picks

pub uses_and_picks_are : (rounds numberings befores : ℕ) (top : Data) (t : PickTable) → uses_and_picks_in rounds numberings befores top ≡ Ok t → IsTable rounds numberings befores t
unfolding uses_and_picks_in
uses_and_picks_are rounds numberings befores top t e =
    step (uses_in numberings befores top) _ t e (λ uses h0 e0.
    step (picks_in rounds (length uses) top) _ t e0 (λ picks h1 e1.
    let all = picks_are rounds (length uses) top picks h1 in
    let one : PickTable = record { uses = uses; picks = picks } in
    subst (IsTable rounds numberings befores) (ok_is {E = PlanFault} one t e1) (record { uses = uses_are numberings befores top uses h0; picks = all.each; chain = all.chain })))

-- ---- picks of format 1

-- a number of evidence, once it stands there, is that of one
found_within : (s : Shared) (xs : List Shared) → list_any (shared_eq s) xs ≡ true → position_or_len (shared_eq s) xs < length xs
found_within s [] h = absurd cc
found_within s (x ∷ xs) h = at (shared_eq s x) refl (λ k. found_within s xs k)
  where
    at : (b : Bool) → shared_eq s x ≡ b → (list_any (shared_eq s) xs ≡ true → position_or_len (shared_eq s) xs < length xs) → position_or_len (shared_eq s) (x ∷ xs) < length (x ∷ xs)
    at true is rest = rw is (omega arith)
    at false is rest = let low = rest (sym (ap (λ b. b || list_any (shared_eq s) xs) is) ∙ h) in rw is (omega (arith, low))

number_within : (uses : List Shared) (s : Shared) → number_of_shared uses s < length (with_shared uses s)
number_within uses s = by (list_any (shared_eq s) uses) refl
  where
    by : (b : Bool) → list_any (shared_eq s) uses ≡ b → number_of_shared uses s < length (if b then uses else uses ++ s ∷ [])
    by true h = found_within s uses h
    by false h =
        let low = prefix_len-le-length (λ x. not (shared_eq s x)) uses in
        let more = length_push uses s in
        omega (arith, low, more)

keeps_uses : (numberings befores : ℕ) (uses : List Shared) (s : Shared) → AllByRecursion (IsValidUse numberings befores) uses → IsValidUse numberings befores s → AllByRecursion (IsValidUse numberings befores) (with_shared uses s)
keeps_uses numberings befores uses s all one = by (list_any (shared_eq s) uses)
  where
    by : (b : Bool) → AllByRecursion (IsValidUse numberings befores) (if b then uses else uses ++ s ∷ [])
    by true = all
    by false = each_push (IsValidUse numberings befores) uses s all one

not_fewer : (uses : List Shared) (s : Shared) → length uses ≤ length (with_shared uses s)
not_fewer uses s = by (list_any (shared_eq s) uses)
  where
    by : (b : Bool) → length uses ≤ length (if b then uses else uses ++ s ∷ [])
    by true = omega arith
    by false = let more = length_push uses s in omega (arith, more)

record IsFullTable (rounds numberings befores : ℕ) (t : PickTable) : Type 0 where
  table : IsTable rounds numberings befores t
  few : HasFew t

full_picks_are_with : (rounds numberings befores place : ℕ) (before after : PickTable) (round class : ℕ) (s : Shared) → rounds ≤ 4200 → (1 ≤ round) × (round ≤ rounds) × (class ≤ 8191)
    → IsValidUse numberings befores s → IsFullTable rounds numberings befores before → full_picks_with place before round class s ≡ Ok after → IsFullTable rounds numberings befores after
unfolding full_picks_with
full_picks_are_with rounds numberings befores place before after round class s few (least, most, low) use_ all e =
    let pick : OrderedPick = record { round = round; class = class; shared = number_of_shared before.uses s } in
    step (picks_with place before.picks pick) _ after e (λ picks h0 e0.
    let fits = number_fits before s all.few in
    let more = not_fewer before.uses s in
    let still = each_weaker (IsValidPick rounds (length before.uses)) (IsValidPick rounds (length (with_shared before.uses s))) (λ p h. (h.0, h.1, h.2, omega (arith, h.3, more), h.4)) before.picks all.table.picks in
    let valid : IsValidPick rounds (length (with_shared before.uses s)) pick = (least, most, low, number_within before.uses s, omega (arith, fits)) in
    let next = picks_are_with rounds (length (with_shared before.uses s)) place before.picks picks pick (record { each = still; chain = all.table.chain }) valid h0 in
    let one : PickTable = record { uses = with_shared before.uses s; picks = picks } in
    subst (IsFullTable rounds numberings befores) (ok_is {E = PlanFault} one after e0) (record {
      table = record { uses = keeps_uses numberings befores before.uses s all.table.uses use_; picks = next.each; chain = next.chain };
      few = few_still place before s (with_shared before.uses s) picks pick (Ok tt) all.few (omega (arith, most, few)) low refl h0;
    }))

next_full_pick : (rounds numberings befores place : ℕ) (before after : PickTable) (d : Data) → rounds ≤ 4200 → IsFullTable rounds numberings befores before
    → full_pick_at rounds numberings befores place before d ≡ Ok after → IsFullTable rounds numberings befores after
unfolding full_pick_at
next_full_pick rounds numberings befores place before after d few all e =
    step (need (option_and_then numbers_and_list (list_in d)) (Shape Picks place)) _ after e (λ words h0 e0.
    step (shared_in Picks place numberings befores words.0.2 words.1) _ after e0 (λ shared h1 e1.
    step (check (is_round rounds words.0.0 && nat_le words.0.1 8191) (BadIndex place)) _ after e1 (λ _ h2 e2.
    full_picks_are_with rounds numberings befores place before after words.0.0 words.0.1 shared few (round_and_class rounds place words.0.0 words.0.1 h2)
    (shared_is Picks place numberings befores words.0.2 words.1 shared h1) all e2)))

pub full_picks_are : (rounds numberings befores : ℕ) (top : Data) (t : PickTable) → rounds ≤ 4200 → full_picks_in rounds numberings befores top ≡ Ok t → IsTable rounds numberings befores t
unfolding full_picks_in
full_picks_are rounds numberings befores top t few e =
    step (need (list_at (codes "picks") top) (Shape Picks 0)) _ t e (λ items h0 e0.
    let none : IsFullTable rounds numberings befores (record { uses = []; picks = [] }) = record { table = record { uses = tt; picks = tt; chain = tt }; few = record { uses = omega arith; picks = omega arith } } in
    (in_turn-keeps (full_pick_at rounds numberings befores) (IsFullTable rounds numberings befores) (λ n s u d all h. next_full_pick rounds numberings befores n s u d few all h) 0 _ t items none e0).table)

-- ---- label tables

vlan_is : (d : Data) (v : Vlan) → vlan_in d ≡ Some v → IsVlan v
vlan_is d v e =
    cond_both (is_text (codes "untagged") d) (Some vlan.Untagged) (option_and_then (λ n. if is_vlan_id n then Some (vlan.Id n) else None) (whole_in d)) (λ o. o ≡ Some v → IsVlan v)
    (λ _ f. subst IsVlan (same_Some _ _ f) tt)
    (λ _ f. option_and_then_some {A = ℕ} _ (whole_in d) v f (λ n h g.
    let t = cond_some (is_vlan_id n) (vlan.Id n) v g in
    let parts = and_parts (nat_le 1 n) (nat_le n 4094) t.0 in
    subst IsVlan t.1 (leb-true 1 n parts.0, leb-true n 4094 parts.1))) e

mapped : {A B : Type 0} (f : A → B) (o : Option A) (y : B) → option_map f o ≡ Some y → (x : A) × (o ≡ Some x) × (f x ≡ y)
mapped f None y e = absurd cc
mapped f (Some x) y e = (x, refl, same_Some _ _ e)

label_is : (ds : List Data) (l : Label) → label_in ds ≡ Some l → IsVlan l.vlan × IsVlan l.user
label_is [] l e = absurd cc
label_is (a ∷ []) l e = absurd cc
label_is (a ∷ b ∷ []) l e = absurd cc
label_is (a ∷ b ∷ c ∷ []) l e =
    option_and_then_some {A = Vlan} _ _ l e (λ v hv e1.
    option_and_then_some {A = Bool} _ _ l e1 (λ new hn e2.
    let (u, hu, is) = mapped {A = Vlan} _ (vlan_in c) l e2 in
    subst (λ (l : Label). IsVlan l.vlan × IsVlan l.user) is (vlan_is a v hv, vlan_is c u hu)))
label_is (a ∷ b ∷ c ∷ d ∷ ds) l e = absurd cc

abbrev AreLabels : List Label → Type 0
AreLabels labels = AllByRecursion (λ l. IsVlan l.vlan × IsVlan l.user) labels

next_label : (place : ℕ) (before after : List Label) (d : Data) → AreLabels before → label_at place before d ≡ Ok after → AreLabels after
unfolding label_at
next_label place before after d all e =
    step (need (option_and_then label_in (list_in d)) (Shape Labels place)) _ after e (λ label h0 e0.
    let one = option_and_then_some {A = List Data} _ (list_in d) label (needed (option_and_then label_in (list_in d)) (Shape Labels place) label h0) (λ ds h g. label_is ds label g) in
    subst AreLabels (ok_is {E = PlanFault} (before ++ label ∷ []) after e0) (each_push (λ (l : Label). IsVlan l.vlan × IsVlan l.user) before label all one))

vlan_before_is : (a b : Vlan) → vlan_before a b ≡ true → IsVlanBefore a b
vlan_before_is vlan.Untagged vlan.Untagged e = absurd cc
vlan_before_is vlan.Untagged (vlan.Id n) e = tt
vlan_before_is (vlan.Id m) vlan.Untagged e = absurd cc
vlan_before_is (vlan.Id m) (vlan.Id n) e = ltb-true m n e

table_is : (place : ℕ) (d : Data) (table : List Label) → table_in place d ≡ Ok table → IsValidTable table
unfolding table_in
table_is place d table e =
    step (need (list_in d) (Shape Labels place)) _ table e (λ items h0 e0.
    step (in_turn (λ i. label_at place) 0 [] items) _ table e0 (λ labels h1 e1.
    step (check (ascends label_before labels) (BadIndex place)) _ table e1 (λ _ h2 e2.
    let all = in_turn-keeps (λ i. label_at place) AreLabels (λ n s t d all h. next_label place s t d all h) 0 [] labels items tt h1 in
    let up = chain_is label_before (λ a b. IsVlanBefore a.vlan b.vlan) (λ a b h. vlan_before_is a.vlan b.vlan h) labels (checked (ascends label_before labels) (BadIndex place) tt h2) in
    subst IsValidTable (ok_is {E = PlanFault} labels table e2) (all, up))))

next_table : (place : ℕ) (before after : List (List Label)) (d : Data) → AllByRecursion IsValidTable before → table_at place before d ≡ Ok after → AllByRecursion IsValidTable after
unfolding table_at
next_table place before after d all e =
    step (table_in place d) _ after e (λ table h0 e0.
    subst (AllByRecursion IsValidTable) (ok_is {E = PlanFault} (before ++ table ∷ []) after e0) (each_push IsValidTable before table all (table_is place d table h0)))

pub labels_are : (top : Data) (tables : List (List Label)) → labels_in top ≡ Ok tables → AllByRecursion IsValidTable tables
unfolding labels_in
labels_are top tables e =
    step (need (list_at (codes "labels") top) (Shape Labels 0)) _ tables e (λ items h0 e0.
    in_turn-keeps table_at (AllByRecursion IsValidTable) (λ n s t d all h. next_table n s t d all h) 0 [] tables items tt e0)

-- picks of a two-phase plan in range and in order
pub record AreLabelPicks (rounds tables : ℕ) (picks : List LabelPick) : Type 0 where
  pub each : AllByRecursion (IsValidLabelPick rounds tables) picks
  pub chain : IsChain (λ p q. p.round < q.round) picks

label_picks_are_with : (rounds tables place : ℕ) (before after : List LabelPick) (p : LabelPick) → AreLabelPicks rounds tables before → IsValidLabelPick rounds tables p → label_picks_with place before p ≡ Ok after
    → AreLabelPicks rounds tables after
unfolding label_picks_with
label_picks_are_with rounds tables place before after p all one e =
    step (check (follows round_before before p) (BadIndex place)) _ after e (λ _ h0 e0.
    let next = checked (follows round_before before p) (BadIndex place) tt h0 in
    subst (AreLabelPicks rounds tables) (ok_is {E = PlanFault} (before ++ p ∷ []) after e0) (record {
      each = each_push (IsValidLabelPick rounds tables) before p all.each one;
      chain = chain_push round_before (λ p q. p.round < q.round) (λ x y h. ltb-true x.round y.round h) before p all.chain next;
    }))

next_label_pick : (rounds tables place : ℕ) (before after : List LabelPick) (d : Data) → AreLabelPicks rounds tables before → label_pick_at rounds tables place before d ≡ Ok after → AreLabelPicks rounds tables after
unfolding label_pick_at
next_label_pick rounds tables place before after d all e =
    step (need (option_and_then list_of_two (list_in d)) (Shape Picks place)) _ after e (λ n h0 e0.
    step (check (is_round rounds n.0) (BadIndex place)) _ after e0 (λ _ h1 e1.
    step (check (is_index tables n.1) (BadIndex place)) _ after e1 (λ _ h2 e2.
    let round = and_parts (nat_le 1 n.0) (nat_le n.0 rounds) (checked (is_round rounds n.0) (BadIndex place) tt h1) in
    let index = and_parts (nat_lt n.1 tables) (nat_le n.1 4294967295) (checked (is_index tables n.1) (BadIndex place) tt h2) in
    label_picks_are_with rounds tables place before after _ all (leb-true 1 n.0 round.0, leb-true n.0 rounds round.1, ltb-true n.1 tables index.0, leb-true n.1 4294967295 index.1) e2)))

pub label_picks_are : (rounds tables : ℕ) (top : Data) (picks : List LabelPick) → label_picks_in rounds tables top ≡ Ok picks → AreLabelPicks rounds tables picks
unfolding label_picks_in
label_picks_are rounds tables top picks e =
    step (need (list_at (codes "picks") top) (Shape Picks 0)) _ picks e (λ items h0 e0.
    in_turn-keeps (label_pick_at rounds tables) (AreLabelPicks rounds tables) (λ n s t d all h. next_label_pick rounds tables n s t d all h) 0 [] picks items (record { each = tt; chain = tt }) e0)
