-- Events that are added one after the other.
use Rattle.std.proofs.Common.{◌≡◌, ℕ, zero, suc, ◌+◌, ◌<◌, List, [], ◌∷◌, ◌++◌, map, length, take, get_or, sym, ◌∙◌, ap, arith, append_assoc, add-one}
use Rattle.std.specs.Prelude.{flat_map}
use Rattle.std.proofs.Math.Seq.{take-suc}
use Rattle.net_base.proofs.MemberLaws.{map-push}
use Rattle.net_base.specs.declared.ids.Place.{Place}
use Rattle.update_model.specs.Changes.{round_after}
use Rattle.update_model.specs.declared.Change.{Change}
use Rattle.update_model.specs.declared.Event.{Event}
use Rattle.update_model.specs.declared.Event.TheVariants as event
use Rattle.net_base.specs.Numbers.{numbers_from}
use Rattle.counter_run.specs.Showing.{HopStep, step_events, whole_round, whole_rounds}
use Rattle.counter_run.proofs.StageLaws.{flat_map_push}

counted_more : (n count : ℕ) → numbers_from n (suc count) ≡ numbers_from n count ++ (n + count) ∷ []
counted_more n zero = let e : n ≡ n + 0 = omega arith in ap (λ k. k ∷ []) e
counted_more n (suc count) =
    let e : suc n + count ≡ n + suc count = omega arith in
    ap (λ l. n ∷ l) (counted_more (suc n) count ∙ ap (λ k. numbers_from (suc n) count ++ k ∷ []) e)

-- one more change of so many
pub every_more : (i : ℕ) (old mid new : List Event) → mid ≡ old ++ map event.Change (numbers_from 0 i) → new ≡ mid ++ event.Change i ∷ []
    → new ≡ old ++ map event.Change (numbers_from 0 (i + 1))
every_more i old mid new is next =
    let e : 0 + i ≡ i = omega arith in
    let one_more : numbers_from 0 (i + 1) ≡ numbers_from 0 i ++ i ∷ [] = ap (numbers_from 0) (add-one i) ∙ counted_more 0 i ∙ ap (λ k. numbers_from 0 i ++ k ∷ []) e in
    next ∙ ap (λ l. l ++ event.Change i ∷ []) is ∙ append_assoc old (map event.Change (numbers_from 0 i)) (event.Change i ∷ [])
    ∙ ap (λ l. old ++ l) (sym (map-push event.Change (numbers_from 0 i) i)) ∙ ap (λ l. old ++ map event.Change l) (sym one_more)

-- one more of these changes
pub changes_more : (numbers : List ℕ) (i : ℕ) (old mid new : List Event) → i < length numbers → mid ≡ old ++ map event.Change (take i numbers)
    → new ≡ mid ++ event.Change (get_or numbers i 0) ∷ [] → new ≡ old ++ map event.Change (take (i + 1) numbers)
changes_more numbers i old mid new less is next =
    let one_more : take (i + 1) numbers ≡ take i numbers ++ get_or numbers i 0 ∷ [] = ap (λ n. take n numbers) (add-one i) ∙ take-suc numbers i 0 less in
    next ∙ ap (λ l. l ++ event.Change (get_or numbers i 0) ∷ []) is ∙ append_assoc old (map event.Change (take i numbers)) (event.Change (get_or numbers i 0) ∷ [])
    ∙ ap (λ l. old ++ l) (sym (map-push event.Change (take i numbers) (get_or numbers i 0))) ∙ ap (λ l. old ++ map event.Change l) (sym one_more)

-- one more of these rounds
pub rounds_more : (rounds : List (List Change)) (k : ℕ) (old mid new : List Event) → k < length rounds → mid ≡ old ++ whole_rounds (take k rounds)
    → new ≡ mid ++ whole_round (round_after k rounds) → new ≡ old ++ whole_rounds (take (k + 1) rounds)
rounds_more rounds k old mid new less is next =
    let one_more : take (k + 1) rounds ≡ take k rounds ++ round_after k rounds ∷ [] = ap (λ n. take n rounds) (add-one k) ∙ take-suc rounds k [] less in
    next ∙ ap (λ l. l ++ whole_round (round_after k rounds)) is ∙ append_assoc old (whole_rounds (take k rounds)) (whole_round (round_after k rounds))
    ∙ ap (λ l. old ++ l) (sym (flat_map_push whole_round (take k rounds) (round_after k rounds))) ∙ ap (λ l. old ++ whole_rounds l) (sym one_more)

-- a start, events and a settling
pub round_added : (round : List Change) (old first mid new : List Event) → first ≡ old ++ event.Start ∷ [] → mid ≡ first ++ map event.Change (numbers_from 0 (length round))
    → new ≡ mid ++ event.Settle ∷ [] → new ≡ old ++ whole_round round
round_added round old first mid new a b c =
    let changes = map event.Change (numbers_from 0 (length round)) in
    c ∙ ap (λ l. l ++ event.Settle ∷ []) (b ∙ ap (λ l. l ++ changes) a ∙ append_assoc old (event.Start ∷ []) changes) ∙ append_assoc old (event.Start ∷ changes) (event.Settle ∷ [])

-- events, and a hop
pub hop_after : (s : HopStep) (old mid new : List Event) → mid ≡ old ++ map event.Change s.changes → new ≡ mid ++ event.Hop 0 ∷ [] → new ≡ old ++ step_events s
hop_after s old mid new a b = b ∙ ap (λ l. l ++ event.Hop 0 ∷ []) a ∙ append_assoc old (map event.Change s.changes) (event.Hop 0 ∷ [])

-- a start and an entry
pub entry_added : (place : Place) (dst : ℕ) (old mid new : List Event) → mid ≡ old ++ event.Start ∷ [] → new ≡ mid ++ event.Enter place dst ∷ []
    → new ≡ old ++ event.Start ∷ event.Enter place dst ∷ []
entry_added place dst old mid new a b = b ∙ ap (λ l. l ++ event.Enter place dst ∷ []) a ∙ append_assoc old (event.Start ∷ []) (event.Enter place dst ∷ [])

-- whole rounds, a start, an entry and hops
pub run_added : (rounds : List (List Change)) (place : Place) (dst : ℕ) (steps : List HopStep) (none first mid new : List Event) → none ≡ [] → first ≡ none ++ whole_rounds rounds
    → mid ≡ first ++ event.Start ∷ event.Enter place dst ∷ [] → new ≡ mid ++ flat_map step_events steps
    → new ≡ whole_rounds rounds ++ event.Start ∷ event.Enter place dst ∷ flat_map step_events steps
run_added rounds place dst steps none first mid new a b c d =
    let hops = flat_map step_events steps in
    d ∙ ap (λ l. l ++ hops) (c ∙ ap (λ l. l ++ event.Start ∷ event.Enter place dst ∷ []) (b ∙ ap (λ (l : List Event). l ++ whole_rounds rounds) a))
    ∙ append_assoc (whole_rounds rounds) (event.Start ∷ event.Enter place dst ∷ []) hops
