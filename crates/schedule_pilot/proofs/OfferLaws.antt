-- The offered events, from what is under way.
use Rattle.std.proofs.Common.{◌≡◌, ◌↔◌, IsTrue, ℕ, zero, suc, ◌+◌, ◌<◌, ◌≤◌, Bool, true, false, List, [], ◌∷◌, ◌++◌, map, length, take, get_or, refl, sym, ◌∙◌, subst, ap, inl, inr, arith, append_assoc}
use Rattle.std.specs.Prelude.{◌==◌, slice_get, Some, None}
use Rattle.std.specs.List.{AllByRecursion}
use Rattle.std.proofs.Math.Seq.{take-suc}
use Rattle.std.proofs.lemmas.Bool.{true≢false, eqb-true, eq-eqb}
use Rattle.net_base.proofs.MemberLaws.{map-push}
use Rattle.update_model.specs.Mixtures.{Rollout}
use Rattle.update_model.specs.States.{State, IsEnabled, IsUnderWay, IsHopping, MaySettle}
use Rattle.update_model.specs.declared.Event.{Event}
use Rattle.update_model.specs.declared.Event.TheVariants as event
use Rattle.update_model.specs.declared.Packet.{Packet}
use Rattle.update_model.specs.declared.Phase.{Phase}
use Rattle.update_model.specs.declared.Phase.TheVariants.{Settled, Running}
use Rattle.net_base.specs.Numbers.{numbers_from}
use Rattle.schedule_pilot.specs.Offered.{next_entry, candidates, AreThose, AreOffered, IsOver}
use Rattle.schedule_pilot.specs.Ends.{AreEntries}
use Rattle.update_model.specs.Worlds.{goes_on}
use Rattle.schedule_pilot.specs.Agendas.{numbers_on, numbers_under_way, IsAgenda, AddsThose}
use Rattle.schedule_pilot.specs.declared.Entry.{Entry}
use Rattle.schedule_pilot.proofs.AgendaLaws.{goes_from_under}
use Rattle.update_model.proofs.CountLaws.{goes_from}

module _ {A : Type 0} (P : A → Type 0) where
  -- one that the fact doesn't hold of is left out
  those_skip : (x : A) (xs ys : List A) → ¬ P x → AreThose P xs ys → AreThose P (x ∷ xs) ys
  those_skip x xs [] fails those = (fails, those)
  those_skip x xs (y ∷ ys) fails those = inr (fails, those)

  those_append : (xs ys zs ws : List A) → AreThose P xs ys → AreThose P zs ws → AreThose P (xs ++ zs) (ys ++ ws)
  those_append [] [] zs ws a b = b
  those_append [] (y ∷ ys) zs ws a b = absurd a
  those_append (x ∷ xs) [] zs ws a b = those_skip x (xs ++ zs) ws a.0 (those_append xs [] zs ws a.1 b)
  those_append (x ∷ xs) (y ∷ ys) zs ws (inl h) b = inl (h.0, h.1, those_append xs ys zs ws h.2 b)
  those_append (x ∷ xs) (y ∷ ys) zs ws (inr h) b = inr (h.0, those_append xs (y ∷ ys) zs ws h.1 b)

  pub those_all : (xs : List A) → AllByRecursion P xs → AreThose P xs xs
  those_all [] all = tt
  those_all (x ∷ xs) all = inl (all.0, refl, those_all xs all.1)

-- of so many events of one kind, those whose flag is off may be left out, where none of them may happen
those_counted : (P : Event → Type 0) (f : ℕ → Event) (n : ℕ) (flags : List Bool) (ys : List Event) → ((i : ℕ) → P (f (n + i)) → slice_get flags i ≡ Some true)
    → AreThose P (map f (numbers_on n flags)) ys → AreThose P (map f (numbers_from n (length flags))) ys
those_counted P f n [] ys on those = those
those_counted P f n (true ∷ flags) ys on those = head ys (those_counted P f (suc n) flags) those
  where
    next : (i : ℕ) → P (f (suc n + i)) → slice_get flags i ≡ Some true
    next i may = let e : suc n + i ≡ n + suc i = omega arith in on (suc i) (subst (λ k. P (f k)) e may)

    head : (zs : List Event)
        → ((ws : List Event) → ((i : ℕ) → P (f (suc n + i)) → slice_get flags i ≡ Some true) → AreThose P (map f (numbers_on (suc n) flags)) ws → AreThose P (map f (numbers_from (suc n) (length flags))) ws)
        → AreThose P (f n ∷ map f (numbers_on (suc n) flags)) zs → AreThose P (f n ∷ map f (numbers_from (suc n) (length flags))) zs
    head [] rest h = (h.0, rest [] next h.1)
    head (z ∷ zs) rest (inl h) = inl (h.0, h.1, rest zs next h.2)
    head (z ∷ zs) rest (inr h) = inr (h.0, rest (z ∷ zs) next h.1)
those_counted P f n (false ∷ flags) ys on those =
    those_skip P (f n) (map f (numbers_from (suc n) (length flags))) ys
    (λ may. let e : n ≡ n + 0 = omega arith in let g : Some false ≡ Some true = on 0 (subst (λ k. P (f k)) e may) in let h : false ≡ true = cc in true≢false (sym h))
    (those_counted P f (suc n) flags ys (λ i may. let e : suc n + i ≡ n + suc i = omega arith in on (suc i) (subst (λ k. P (f k)) e may)) those)

-- events are added to those of a list
pub adds_next : (P : Event → Type 0) (xs zs old now next : List Event) → AddsThose P xs old now → AddsThose P zs now next → AddsThose P (xs ++ zs) old next
adds_next P xs zs old now next a b =
    (a.0 ++ b.0, those_append P xs a.0 zs b.0 a.1 b.1, b.2 ∙ ap (λ l. l ++ b.0) a.2 ∙ append_assoc old a.0 b.0)

-- the first events through a function, and one more
pub adds_more : (P : Event → Type 0) (f : ℕ → Event) (numbers : List ℕ) (i : ℕ) (old now next : List Event) → i < length numbers → AddsThose P (map f (take i numbers)) old now
    → AddsThose P (f (get_or numbers i 0) ∷ []) now next → AddsThose P (map f (take (suc i) numbers)) old next
adds_more P f numbers i old now next less a b =
    subst (λ l. AddsThose P l old next) (sym (ap (map f) (take-suc numbers i 0 less) ∙ map-push f (take i numbers) (get_or numbers i 0)))
    (adds_next P (map f (take i numbers)) (f (get_or numbers i 0) ∷ []) old now next a b)

-- an event is added where a flag is on that says whether it may happen
pub adds_if : (P : Event → Type 0) (e : Event) (may : Bool) (old now : List Event) → IsTrue may ↔ P e → AddsThose (λ _. IsTrue may) (e ∷ []) old now → AddsThose P (e ∷ []) old now
adds_if P e may old now same adds = (adds.0, change adds.0 adds.1, adds.2)
  where
    change : (ys : List Event) → AreThose (λ _. IsTrue may) (e ∷ []) ys → AreThose P (e ∷ []) ys
    change [] h = (λ p. h.0 (same.1 p), tt)
    change (y ∷ []) (inl h) = inl (same.0 h.0, h.1, tt)
    change (y ∷ z ∷ ys) (inl h) = absurd h.2
    change (y ∷ ys) (inr h) = absurd h.1

module _ (u : Rollout) (st : State) (entries : List Entry) (pending under_way : List ℕ) (kept : IsAgenda st pending under_way) (are : AreEntries u.net entries) where
  abbrev May : Event → Type 0
  May = IsEnabled u.net u.rounds st

  -- the changes whose flag is on stand for all changes
  changes_all : (old now : List Event) → AddsThose May (map event.Change pending) old now → AddsThose May (map event.Change (numbers_from 0 (length st.pending))) old now
  changes_all old now adds = (
    adds.0,
    those_counted May event.Change 0 st.pending adds.0 on (subst (λ l. AreThose May (map event.Change l) adds.0) kept.pending_are adds.1),
    adds.2,
  )
    where
      on : (i : ℕ) → May (event.Change (0 + i)) → slice_get st.pending i ≡ Some true
      on i may = let e : 0 + i ≡ i = omega arith in subst (λ k. slice_get st.pending k ≡ Some true) e may.pending

  entry_added : (es : List Entry) → AreEntries u.net es → AllByRecursion May (next_entry es)
  entry_added [] h = tt
  entry_added (e ∷ es) h = (h.0, tt)

  -- a packet whose flag is on may hop
  hops_may : (n : ℕ) (packets : List Packet) → ((i : ℕ) (p : Packet) → slice_get packets i ≡ Some p → IsUnderWay p → May (event.Hop (n + i)))
      → AllByRecursion May (map event.Hop (numbers_on n (map (λ p. goes_on p.ended) packets)))
  hops_may n [] f = tt
  hops_may n (p ∷ packets) f =
      let rest : AllByRecursion May (map event.Hop (numbers_on (suc n) (map (λ q. goes_on q.ended) packets))) =
      hops_may (suc n) packets (λ i q at under. let e : n + suc i ≡ suc n + i = omega arith in subst (λ k. May (event.Hop k)) e (f (suc i) q at under)) in
      elim (goes_on p.ended) as (λ b. goes_on p.ended ≡ b → AllByRecursion May (map event.Hop (numbers_on n (b ∷ map (λ q. goes_on q.ended) packets)))) [
        | true ↦ λ e. let same : n + 0 ≡ n = omega arith in (subst (λ k. May (event.Hop k)) same (f 0 p refl (goes_from p.ended e)), rest)
        | false ↦ λ e. rest
      ] refl

  flag_on : (packets : List Packet) (i : ℕ) (p : Packet) → slice_get packets i ≡ Some p → IsUnderWay p → slice_get (map (λ q. goes_on q.ended) packets) i ≡ Some true
  flag_on [] i p at under = absurd (let f : None ≡ Some p = at in cc)
  flag_on (x ∷ packets) zero p at under = let f : Some x ≡ Some p = at in let g : x ≡ p = cc in ap (λ (y : Packet). Some (goes_on y.ended)) g ∙ ap (λ b. Some b) (goes_from_under p under)
  flag_on (x ∷ packets) (suc i) p at under = flag_on packets i p at under

  length_flags : (packets : List Packet) → length (map (λ q. goes_on q.ended) packets) ≡ length packets
  length_flags [] = refl
  length_flags (p ∷ packets) = ap suc (length_flags packets)

  hops_all : AreThose May (map event.Hop (numbers_from 0 (length st.packets))) (map event.Hop under_way)
  hops_all =
      subst (λ k. AreThose May (map event.Hop (numbers_from 0 k)) (map event.Hop under_way)) (length_flags st.packets)
      (those_counted May event.Hop 0 (map (λ q. goes_on q.ended) st.packets) (map event.Hop under_way) on
      (subst (λ l. AreThose May (map event.Hop (numbers_under_way st.packets)) (map event.Hop l)) (sym kept.under_way_are)
      (those_all May (map event.Hop (numbers_under_way st.packets)) (hops_may 0 st.packets may))))
    where
      on : (i : ℕ) → May (event.Hop (0 + i)) → slice_get (map (λ q. goes_on q.ended) st.packets) i ≡ Some true
      on i h = let e : 0 + i ≡ i = omega arith in subst (λ k. slice_get (map (λ q. goes_on q.ended) st.packets) k ≡ Some true) e (flag_on st.packets (0 + i) h.0 h.1 h.2)

      may : (i : ℕ) (p : Packet) → slice_get st.packets i ≡ Some p → IsUnderWay p → May (event.Hop (0 + i))
      may i p at under = let e : i ≡ 0 + i = omega arith in subst (λ k. IsHopping st.packets k) e (p, at, under)

  -- what is added one after the other are the offered events
  pub offered_are : (empty first second third fourth last : List Event) → empty ≡ [] → AddsThose May (event.Start ∷ []) empty first → AddsThose May (event.Settle ∷ []) first second
      → AddsThose May (map event.Change pending) second third → fourth ≡ third ++ next_entry entries → last ≡ fourth ++ map event.Hop under_way → AreOffered u st entries last
  offered_are empty first second third fourth last none start settle changes enter hops =
      let changed : List Event = map event.Change (numbers_from 0 (length st.pending)) in
      let hopped : List Event = map event.Hop (numbers_from 0 (length st.packets)) in
      let two = adds_next May (event.Start ∷ []) (event.Settle ∷ []) empty first second start settle in
      let three = adds_next May (event.Start ∷ event.Settle ∷ []) changed empty second third two (changes_all second third changes) in
      let entered : AddsThose May (next_entry entries) third fourth = (next_entry entries, those_all May (next_entry entries) (entry_added entries are), enter) in
      let four = adds_next May (event.Start ∷ event.Settle ∷ changed) (next_entry entries) empty third fourth three entered in
      let hop : AddsThose May hopped fourth last = (map event.Hop under_way, hops_all, hops) in
      let all = adds_next May (event.Start ∷ event.Settle ∷ changed ++ next_entry entries) hopped empty fourth last four hop in
      subst (λ l. AreThose May (candidates st entries) l) (sym (all.2 ∙ ap (λ l. l ++ all.0) none)) all.1

-- no flag is on where no number stands
pub none_on : (n : ℕ) (flags : List Bool) → (numbers_on n flags ≡ []) ↔ AllByRecursion (λ b. b ≡ false) flags
none_on n [] = (λ _. tt, λ _. refl)
none_on n (true ∷ flags) = (λ e. absurd (let f : n ∷ numbers_on (suc n) flags ≡ [] = e in cc), λ h. absurd (true≢false h.0))
none_on n (false ∷ flags) = let rest = none_on (suc n) flags in (λ e. (refl, rest.0 e), λ h. rest.1 h.1)

-- no packet is under way where no number stands
pub none_under_way : (packets : List Packet) → (numbers_under_way packets ≡ []) ↔ AllByRecursion (λ p. ¬ IsUnderWay p) packets
none_under_way packets = (λ e. ended packets ((none_on 0 (map (λ p. goes_on p.ended) packets)).0 e), λ h. (none_on 0 (map (λ p. goes_on p.ended) packets)).1 (off packets h))
  where
    ended : (ps : List Packet) → AllByRecursion (λ b. b ≡ false) (map (λ p. goes_on p.ended) ps) → AllByRecursion (λ p. ¬ IsUnderWay p) ps
    ended [] h = tt
    ended (p ∷ ps) h = (λ under. true≢false (sym (goes_from_under p under) ∙ h.0), ended ps h.1)

    off_one : (p : Packet) → ¬ IsUnderWay p → goes_on p.ended ≡ false
    off_one p h =
        elim (goes_on p.ended) as (λ b. goes_on p.ended ≡ b → goes_on p.ended ≡ false) [
          | true ↦ λ e. absurd (h (goes_from p.ended e))
          | false ↦ λ e. e
        ] refl

    off : (ps : List Packet) → AllByRecursion (λ p. ¬ IsUnderWay p) ps → AllByRecursion (λ b. b ≡ false) (map (λ p. goes_on p.ended) ps)
    off [] h = tt
    off (p ∷ ps) h = (off_one p h.0, off ps h.1)

module _ (k : ℕ) (all : List Packet) where
  -- packet i isn't older
  abbrev IsYoungAt : ℕ → Type 0
  IsYoungAt i = (p : Packet) → slice_get all i ≡ Some p → k ≤ p.born

  abbrev IsYoung : Packet → Type 0
  IsYoung p = IsUnderWay p → k ≤ p.born

  abbrev Stand : ℕ → List Packet → Type 0
  Stand n ps = (i : ℕ) (p : Packet) → slice_get ps i ≡ Some p → slice_get all (n + i) ≡ Some p

  stand_next : (n : ℕ) (p : Packet) (ps : List Packet) → Stand n (p ∷ ps) → Stand (suc n) ps
  stand_next n p ps f i q at = let e : n + suc i ≡ suc n + i = omega arith in subst (λ m. slice_get all m ≡ Some q) e (f (suc i) q at)

  stand_first : (n : ℕ) (p : Packet) (ps : List Packet) → Stand n (p ∷ ps) → slice_get all n ≡ Some p
  stand_first n p ps f = let e : n + 0 ≡ n = omega arith in subst (λ m. slice_get all m ≡ Some p) e (f 0 p refl)

  young_from : (n : ℕ) (ps : List Packet) → Stand n ps → AllByRecursion IsYoungAt (numbers_on n (map (λ p. goes_on p.ended) ps)) → AllByRecursion IsYoung ps
  young_from n [] f h = tt
  young_from n (p ∷ ps) f h =
      elim (goes_on p.ended) as (λ b. goes_on p.ended ≡ b → AllByRecursion IsYoungAt (numbers_on n (b ∷ map (λ q. goes_on q.ended) ps)) → AllByRecursion IsYoung (p ∷ ps)) [
        | true ↦ λ e j. (λ under. j.0 p (stand_first n p ps f), young_from (suc n) ps (stand_next n p ps f) j.1)
        | false ↦ λ e j. (λ under. absurd (true≢false (sym (goes_from_under p under) ∙ e)), young_from (suc n) ps (stand_next n p ps f) j)
      ] refl h

  young_to : (n : ℕ) (ps : List Packet) → Stand n ps → AllByRecursion IsYoung ps → AllByRecursion IsYoungAt (numbers_on n (map (λ p. goes_on p.ended) ps))
  young_to n [] f h = tt
  young_to n (p ∷ ps) f h =
      elim (goes_on p.ended) as (λ b. goes_on p.ended ≡ b → AllByRecursion IsYoungAt (numbers_on n (b ∷ map (λ q. goes_on q.ended) ps))) [
        | true ↦ λ e. (λ q at. same_born q at (h.0 (goes_from p.ended e)), young_to (suc n) ps (stand_next n p ps f) h.1)
        | false ↦ λ e. young_to (suc n) ps (stand_next n p ps f) h.1
      ] refl
    where
      same_born : (q : Packet) → slice_get all n ≡ Some q → k ≤ p.born → k ≤ q.born
      same_born q at old =
          let e : Some p ≡ Some q = sym (stand_first n p ps f) ∙ at in
          let g : p ≡ q = cc in
          subst (λ (x : Packet). k ≤ x.born) g old

-- the numbers of the packets under way stand for the packets
pub young_all : (k : ℕ) (packets : List Packet) → AllByRecursion (λ i. (p : Packet) → slice_get packets i ≡ Some p → k ≤ p.born) (numbers_under_way packets) ↔ AllByRecursion (λ p. IsUnderWay p → k ≤ p.born) packets
young_all k packets = (young_from k packets 0 packets here, young_to k packets 0 packets here)
  where
    here : (i : ℕ) (p : Packet) → slice_get packets i ≡ Some p → slice_get packets (0 + i) ≡ Some p
    here i p at = let e : i ≡ 0 + i = omega arith in subst (λ m. slice_get packets m ≡ Some p) e at

pub young_is : (k : ℕ) (packets : List Packet) (under_way : List ℕ) (young : Bool) → under_way ≡ numbers_under_way packets
    → IsTrue young ↔ AllByRecursion (λ i. (p : Packet) → slice_get packets i ≡ Some p → k ≤ p.born) under_way → IsTrue young ↔ AllByRecursion (λ p. IsUnderWay p → k ≤ p.born) packets
young_is k packets under_way young are same =
    let all = young_all k packets in (
      λ h. all.0 (subst (AllByRecursion (λ i. (p : Packet) → slice_get packets i ≡ Some p → k ≤ p.born)) are (same.0 h)),
      λ h. same.1 (subst (AllByRecursion (λ i. (p : Packet) → slice_get packets i ≡ Some p → k ≤ p.born)) (sym are) (all.1 h)),
    )

-- the running round may be settled where no number stands
pub settles : (st : State) (phase : Phase) (pending : List ℕ) (empty : Bool) → pending ≡ numbers_on 0 st.pending → phase ≡ st.phase → ((k : ℕ) × (phase ≡ Running k)) → empty ≡ (length pending == 0) → IsTrue empty ↔ MaySettle st
settles st phase pending empty are phase_is running is = (
  λ h. record { k = running.0; running = sym phase_is ∙ running.1; none_pending = (none_on 0 st.pending).0 (sym are ∙ nil_from pending (eqb-true (length pending) 0 (sym is ∙ h))) },
  λ may. is ∙ eq-eqb (length pending) 0 (ap length (are ∙ (none_on 0 st.pending).1 may.none_pending)),
)
  where
    nil_from : (xs : List ℕ) → length xs ≡ 0 → xs ≡ []
    nil_from [] e = refl
    nil_from (x ∷ xs) e = absurd (omega arith)

-- the run is over where the last round is settled, nothing is to come and no number stands
pub over_is : (u : Rollout) (st : State) (entries : List Entry) (under_way : List ℕ) (phase : Phase) (n : ℕ) (none : Bool) → under_way ≡ numbers_under_way st.packets → phase ≡ st.phase → n ≡ length u.rounds → phase ≡ Settled n
    → IsTrue none ↔ ((entries ≡ []) × (under_way ≡ [])) → IsTrue none ↔ IsOver u st entries
over_is u st entries under_way phase n none are phase_is count settled same = (
  λ h. record { settled = sym phase_is ∙ settled ∙ ap Settled count; entered = (same.0 h).0; ended = (none_under_way st.packets).0 (sym are ∙ (same.0 h).1) },
  λ over. same.1 (over.entered, are ∙ (none_under_way st.packets).1 over.ended),
)
