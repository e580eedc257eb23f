-- What the reading of waits gives, and what it takes.
use Rattle.std.proofs.Common.{◌≡◌, ℕ, suc, ◌≤◌, Bool, true, false, List, [], ◌∷◌, ◌++◌, length, map, Option, Some, None, Result, Ok, Err, refl, sym, ap, subst, ◌∙◌, append-nil, append_assoc}
use Rattle.std.specs.Prelude.{nat_lt, nat_le, IfOk, IfErr, option_map, ⊤}
use Rattle.std.specs.List.{AllByRecursion}
use Rattle.std.proofs.lemmas.Bool.{and_parts, and_from, leb-true, le-leb, ltb-true, lt-ltb}
use Rattle.serde_json.specs.Data.{Data}
use Rattle.net_base.specs.Reading.{check, need, in_turn, place_of, Gives}
use Rattle.net_base.proofs.Turns.{ok_is, bind_ok, in_turn-keeps}
use Rattle.flat_json.specs.JsonTree.{whole_in, list_in}
use Rattle.certificates.specs.declared.Plan.{Plan}
use Rattle.plan_format.specs.Evidence.{follows}
use Rattle.law_spans.specs.Cuts.{AreWaits}
use Rattle.plan_waits.specs.declared.fault.WaitsFault.{WaitsFault}
use Rattle.plan_waits.specs.declared.fault.WaitsFault.TheVariants.{Shape, BadIndex, Memory}
use Rattle.plan_waits.specs.Waits.{is_later_round, wait_at, wait_list_in, first_astray, unless_astray, plan_waits_in, waits_member, waits_of_member, waits_in}
use Rattle.plan_waits.specs.PlanWaits.{IsNumberList, MayHaveWaits, SaysWaits, MayHave}
use Rattle.plan_waits.proofs.Searching.{Ascends}
use Rattle.plan_waits.proofs.Standing.{stand_at_waits, none_astray}

abbrev some : ℕ → Option ℕ
some n = Some n

-- ---- one wait

checked : (b : Bool) (d : WaitsFault) (x : ⊤) → check b d ≡ Ok x → b ≡ true
checked true d x e = refl
checked false d x e = absurd cc

needed : {A : Type 0} (o : Option A) (d : WaitsFault) (x : A) → need o d ≡ Ok x → o ≡ Some x
needed None d x e = absurd cc
needed (Some y) d x e = cc

-- a number that was read: a later round, above the one before it
record IsNext (rounds : ℕ) (before after : List ℕ) (d : Data) : Type 0 where
  n : ℕ
  number : whole_in d ≡ Some n
  later : is_later_round rounds n ≡ true
  above : follows nat_lt before n ≡ true
  grown : before ++ n ∷ [] ≡ after

is_next : (rounds place : ℕ) (before after : List ℕ) (d : Data) → wait_at rounds place before d ≡ Ok after → IsNext rounds before after d
unfolding wait_at
is_next rounds place before after d e =
    let (n, h0, e0) = bind_ok (need (whole_in d) (Shape place)) _ after e in
    let (_, h1, e1) = bind_ok (check (is_later_round rounds n) (BadIndex place)) _ after e0 in
    let (_, h2, e2) = bind_ok (check (follows nat_lt before n) (BadIndex place)) _ after e1 in
    record {
      n = n;
      number = needed (whole_in d) (Shape place) n h0;
      later = checked (is_later_round rounds n) (BadIndex place) tt h1;
      above = checked (follows nat_lt before n) (BadIndex place) tt h2;
      grown = ok_is {E = WaitsFault} (before ++ n ∷ []) after e2;
    }

is_taken : (rounds place : ℕ) (before : List ℕ) (d : Data) (n : ℕ) → whole_in d ≡ Some n → is_later_round rounds n ≡ true → follows nat_lt before n ≡ true → wait_at rounds place before d ≡ Ok (before ++ n ∷ [])
unfolding wait_at
is_taken rounds place before d n number later above = rw (number, later, above) refl

-- ---- lists

each_push : (P : ℕ → Type 0) (xs : List ℕ) (x : ℕ) → AllByRecursion P xs → P x → AllByRecursion P (xs ++ x ∷ [])
each_push P [] x all p = (p, tt)
each_push P (y ∷ ys) x all p = (all.0, each_push P ys x all.1 p)

ascends_push : (xs : List ℕ) (x : ℕ) → Ascends xs → follows nat_lt xs x ≡ true → Ascends (xs ++ x ∷ [])
ascends_push [] x up next = tt
ascends_push (y ∷ []) x up next = (ltb-true y x next, tt)
ascends_push (y ∷ z ∷ rest) x up next = (up.0, ascends_push (z ∷ rest) x up.1 next)

-- in ascending numbers each is above those before it
next_above : (xs : List ℕ) (x : ℕ) (ys : List ℕ) → Ascends (xs ++ x ∷ ys) → follows nat_lt xs x ≡ true
next_above [] x ys up = refl
next_above (y ∷ []) x ys up = lt-ltb y x up.0
next_above (y ∷ z ∷ rest) x ys up = next_above (z ∷ rest) x ys up.1

map_push : {A B : Type 0} (f : A → B) (xs : List A) (x : A) → map f (xs ++ x ∷ []) ≡ map f xs ++ f x ∷ []
map_push {A} {B} f [] x = refl
map_push {A} {B} f (y ∷ ys) x = ap (λ (zs : List B). f y ∷ zs) (map_push f ys x)

-- ---- the list of waits

module _ (rounds : ℕ) where
  still_waits : (place : ℕ) (before after : List ℕ) (d : Data) → AreWaits before rounds → wait_at rounds place before d ≡ Ok after → AreWaits after rounds
  still_waits place before after d waits e =
      let next = is_next rounds place before after d e in
      let range = and_parts (nat_le 2 next.n) (nat_le next.n rounds) next.later in
      subst (λ ws. AreWaits ws rounds) next.grown (record {
        ascending = ascends_push before next.n waits.ascending next.above;
        behind_first = each_push (λ w. 2 ≤ w) before next.n waits.behind_first (leb-true 2 next.n range.0);
        within = each_push (λ w. w ≤ rounds) before next.n waits.within (leb-true next.n rounds range.1);
      })

  numbers_read : (i : ℕ) (before after : List ℕ) (items : List Data) → in_turn (wait_at rounds) i before items ≡ Ok after → map some after ≡ map some before ++ map whole_in items
  unfolding in_turn
  numbers_read i before after [] e = ap (map some) (sym (ok_is {E = WaitsFault} before after e)) ∙ sym (append-nil (map some before))
  numbers_read i before after (d ∷ ds) e =
      let (middle, h, e1) = bind_ok (wait_at rounds (place_of i) before d) (λ t. in_turn (wait_at rounds) (suc i) t ds) after e in
      let next = is_next rounds (place_of i) before middle d h in
      let rest : map some after ≡ map some middle ++ map whole_in ds = numbers_read (suc i) middle after ds e1 in
      let here : map some middle ≡ map some before ++ whole_in d ∷ [] = ap (map some) (sym next.grown) ∙ map_push some before next.n ∙ ap (λ (o : Option ℕ). map some before ++ o ∷ []) (sym next.number) in
      rest ∙ ap (λ (os : List (Option ℕ)). os ++ map whole_in ds) here ∙ append_assoc (map some before) (whole_in d ∷ []) (map whole_in ds)

  numbers_taken : (i : ℕ) (before : List ℕ) (items : List Data) (ws : List ℕ) → map whole_in items ≡ map some ws → AllByRecursion (λ w. 2 ≤ w) ws → AllByRecursion (λ w. w ≤ rounds) ws → Ascends (before ++ ws)
      → in_turn (wait_at rounds) i before items ≡ Ok (before ++ ws)
  unfolding in_turn
  numbers_taken i before [] [] e low high up = ap (λ (xs : List ℕ). Ok xs) (sym (append-nil before))
  numbers_taken i before [] (w ∷ ws) e low high up = absurd cc
  numbers_taken i before (d ∷ ds) [] e low high up = absurd cc
  numbers_taken i before (d ∷ ds) (w ∷ ws) e low high up =
      let number : whole_in d ≡ Some w = cc in
      let rest : map whole_in ds ≡ map some ws = cc in
      let later : is_later_round rounds w ≡ true = and_from (nat_le 2 w) (nat_le w rounds) (le-leb 2 w low.0) (le-leb w rounds high.0) in
      let one : wait_at rounds (place_of i) before d ≡ Ok (before ++ w ∷ []) = is_taken rounds (place_of i) before d w number later (next_above before w ws up) in
      let split : (before ++ w ∷ []) ++ ws ≡ before ++ w ∷ ws = append_assoc before (w ∷ []) ws in
      let more = numbers_taken (suc i) (before ++ w ∷ []) ds ws rest low.1 high.1 (subst Ascends (sym split) up) in
      rw one (more ∙ ap (λ (xs : List ℕ). Ok xs) split)

  no_waits : AreWaits [] rounds
  no_waits = record { ascending = tt; behind_first = tt; within = tt }

  list_said : (d : Data) (ws : List ℕ) → wait_list_in rounds d ≡ Ok ws → IsNumberList d ws × AreWaits ws rounds
  unfolding wait_list_in
  list_said d ws e =
      let (items, h, e1) = bind_ok (need (list_in d) (Shape 0)) (λ items. in_turn (wait_at rounds) 0 [] items) ws e in
      let is : list_in d ≡ Some items = needed (list_in d) (Shape 0) items h in
      let numbers : map some ws ≡ map whole_in items = numbers_read 0 [] ws items e1 in
      (ap (option_map (map whole_in)) is ∙ ap (λ (os : List (Option ℕ)). Some os) (sym numbers), in_turn-keeps (wait_at rounds) (λ xs. AreWaits xs rounds) (λ n s t d p h. still_waits n s t d p h) 0 [] ws items no_waits e1)

  list_taken : (d : Data) (ws : List ℕ) → IsNumberList d ws → AreWaits ws rounds → wait_list_in rounds d ≡ Ok ws
  unfolding wait_list_in
  list_taken d ws numbers waits = by (list_in d) refl numbers
    where
      by : (o : Option (List Data)) → list_in d ≡ o → option_map (map whole_in) o ≡ Some (map some ws) → wait_list_in rounds d ≡ Ok ws
      by None is e = absurd cc
      by (Some items) is e = let same : map whole_in items ≡ map some ws = cc in rw is (numbers_taken 0 [] items ws same waits.behind_first waits.within waits.ascending)

  pub list_ascends : (d : Data) (ws given : List ℕ) → given ≡ ws → wait_list_in rounds d ≡ Ok ws → Ascends given
  list_ascends d ws given same e = subst Ascends (sym same) (list_said d ws e).1.ascending

-- ---- the waits of a plan

kept : (ws after : List ℕ) (o : Option ℕ) → unless_astray ws o ≡ Ok after → (o ≡ None) × (ws ≡ after)
kept ws after None e = (refl, ok_is {E = WaitsFault} ws after e)
kept ws after (Some i) e = absurd cc

plan_said : (plan : Plan) (d : Data) (ws : List ℕ) → plan_waits_in plan d ≡ Ok ws → IsNumberList d ws × MayHaveWaits plan ws
unfolding plan_waits_in
plan_said plan d ws e =
    let (found, h, e1) = bind_ok (wait_list_in (length plan.rounds) d) (λ waits. unless_astray waits (first_astray waits plan.evidence)) ws e in
    let (none, same) = kept found ws (first_astray found plan.evidence) e1 in
    let said = list_said (length plan.rounds) d found h in
    subst (λ (xs : List ℕ). IsNumberList d xs × MayHaveWaits plan xs) same (said.0, record { are_waits = said.1; picks = stand_at_waits found plan.evidence none })

plan_taken : (plan : Plan) (d : Data) (ws : List ℕ) → IsNumberList d ws → MayHaveWaits plan ws → plan_waits_in plan d ≡ Ok ws
unfolding plan_waits_in
plan_taken plan d ws numbers may =
    let list = list_taken (length plan.rounds) d ws numbers may.are_waits in
    let none = none_astray ws plan.evidence may.picks in
    rw (list, none) refl

said : (plan : Plan) (member : Option Data) (waits : Option (List ℕ)) → waits_of_member plan member ≡ Ok waits → SaysWaits member waits × MayHave plan waits
said plan None waits e = let none : None ≡ waits = ok_is {E = WaitsFault} None waits e in (sym none, subst (MayHave plan) none tt)
said plan (Some d) waits e =
    let (ws, h, e1) = bind_ok (plan_waits_in plan d) (λ (xs : List ℕ). Ok (Some xs)) waits e in
    subst (λ w. SaysWaits (Some d) w × MayHave plan w) (ok_is {E = WaitsFault} (Some ws) waits e1) (plan_said plan d ws h)

pub taken : (plan : Plan) (member : Option Data) (waits : Option (List ℕ)) → SaysWaits member waits → MayHave plan waits → waits_of_member plan member ≡ Ok waits
taken plan None waits h may = ap (λ (o : Option (List ℕ)). Ok o) (sym h)
taken plan (Some d) None h may = absurd h
taken plan (Some d) (Some ws) h may = let is = plan_taken plan d ws h may in rw is refl

-- ---- what a reader returned

-- the waits that it gives are what the member says, and the plan may have them
pub said_if_given : (plan : Plan) (top : Data) (result : Result (Option (List ℕ)) WaitsFault) → Gives Memory (λ w. w) result (waits_in plan top) → IfOk result (SaysWaits (waits_member top)) × IfOk result (MayHave plan)
unfolding waits_in
said_if_given plan top (Ok waits) h = said plan (waits_member top) waits h
said_if_given plan top (Err e) h = (tt, tt)

-- nothing but memory is wanting where the member says waits that the plan may have
pub given_if_said : (plan : Plan) (top : Data) (result : Result (Option (List ℕ)) WaitsFault) → Gives Memory (λ w. w) result (waits_in plan top) → (waits : Option (List ℕ)) → SaysWaits (waits_member top) waits → MayHave plan waits
    → IfErr result (λ e. e ≡ Memory)
unfolding waits_in
given_if_said plan top (Ok found) h waits says may = tt
given_if_said plan top (Err Memory) h waits says may = refl
given_if_said plan top (Err (Shape place)) h waits says may =
    let read : waits_in plan top ≡ Ok waits = taken plan (waits_member top) waits says may in
    let refused : waits_in plan top ≡ Err (Shape place) = h (λ e. cc) in
    absurd cc
given_if_said plan top (Err (BadIndex place)) h waits says may =
    let read : waits_in plan top ≡ Ok waits = taken plan (waits_member top) waits says may in
    let refused : waits_in plan top ≡ Err (BadIndex place) = h (λ e. cc) in
    absurd cc
