-- What is under way, after each event.
use Rattle.std.proofs.Common.{◌≡◌, ◌⊎◌, ℕ, zero, suc, ◌+◌, ◌-◌, ◌<◌, ◌≤◌, Bool, true, false, cond, List, [], ◌∷◌, ◌++◌, map, length, set, take, get_or, refl, sym, ◌∙◌, subst, ap, inl, inr, arith}
use Rattle.std.specs.Prelude.{slice_get, Some, None}
use Rattle.std.specs.Option.{option_map_or}
use Rattle.net_base.specs.declared.ids.Place.{Place}
use Rattle.std.proofs.Math.Seq.{take-suc}
use Rattle.std.proofs.lemmas.Bool.{ne_eqb, eq-eqb, true≢false}
use Rattle.std.proofs.lemmas.List.{map-set}
use Rattle.net_base.proofs.MemberLaws.{map-push}
use Rattle.update_model.proofs.CountLaws.{goes_from}
use Rattle.path_walk.specs.Paths.{outcome_in}
use Rattle.update_model.specs.States.{IsUnderWay, IsHopping, settled_count, entered_packet, hopped_packet, lost_packet, with_packet}
use Rattle.update_model.specs.Worlds.{WorldState, world_after}
use Rattle.update_model.specs.declared.Event.TheVariants as event
use Rattle.update_model.specs.declared.Packet.{Packet}
use Rattle.update_model.specs.Worlds.{goes_on}
use Rattle.schedule_pilot.specs.Agendas.{numbers_on, numbers_under_way, IsAgenda, numbers_without}

-- one more flag
numbers_push : (n : ℕ) (flags : List Bool) (b : Bool) → numbers_on n (flags ++ b ∷ []) ≡ numbers_on n flags ++ cond b ((n + length flags) ∷ []) []
numbers_push n [] true = let e : n ≡ n + 0 = omega arith in ap (λ k. k ∷ []) e
numbers_push n [] false = refl
numbers_push n (true ∷ flags) b =
    let e : suc n + length flags ≡ n + suc (length flags) = omega arith in
    ap (λ l. n ∷ l) (numbers_push (suc n) flags b ∙ ap (λ k. numbers_on (suc n) flags ++ cond b (k ∷ []) []) e)
numbers_push n (false ∷ flags) b =
    let e : suc n + length flags ≡ n + suc (length flags) = omega arith in
    numbers_push (suc n) flags b ∙ ap (λ k. numbers_on (suc n) flags ++ cond b (k ∷ []) []) e

length_take : {A : Type 0} (xs : List A) (i : ℕ) → i ≤ length xs → length (take i xs) ≡ i
length_take xs zero within = refl
length_take [] (suc i) within = absurd (omega arith)
length_take (x ∷ xs) (suc i) within = ap suc (length_take xs i (omega arith))

-- the numbers of the first flags, and of one more
pub numbers_next : (flags : List Bool) (i : ℕ) (d : Bool) (old now : List ℕ) → i < length flags → old ≡ numbers_on 0 (take i flags) → now ≡ old ++ cond (get_or flags i d) (i ∷ []) []
    → now ≡ numbers_on 0 (take (suc i) flags)
numbers_next flags i d old now less is next =
    let count : 0 + length (take i flags) ≡ i = let l = length_take flags i (omega arith) in omega arith in
    next ∙ ap (λ l. l ++ cond (get_or flags i d) (i ∷ []) []) is
    ∙ sym (ap (numbers_on 0) (take-suc flags i d less) ∙ numbers_push 0 (take i flags) (get_or flags i d)
    ∙ ap (λ k. numbers_on 0 (take i flags) ++ cond (get_or flags i d) (k ∷ []) []) count)

-- a smaller number isn't among the numbers
kept_above : (k m : ℕ) (flags : List Bool) → k < m → numbers_without k (numbers_on m flags) ≡ numbers_on m flags
kept_above k m [] less = refl
kept_above k m (true ∷ flags) less = rw (ne_eqb m k (λ e. absurd (omega arith))) (ap (λ l. m ∷ l) (kept_above k (suc m) flags (omega arith)))
kept_above k m (false ∷ flags) less = kept_above k (suc m) flags (omega arith)

-- a flag that is turned off takes its number out
numbers_off : (n i k : ℕ) (flags : List Bool) → k ≡ n + i → numbers_on n (set flags i false) ≡ numbers_without k (numbers_on n flags)
numbers_off n i k [] is = refl
numbers_off n zero k (true ∷ flags) is =
    let e : n ≡ k = omega arith in
    rw (eq-eqb n k e) (sym (kept_above k (suc n) flags (omega arith)))
numbers_off n zero k (false ∷ flags) is = sym (kept_above k (suc n) flags (omega arith))
numbers_off n (suc i) k (true ∷ flags) is =
    rw (ne_eqb n k (λ e. absurd (omega arith))) (ap (λ l. n ∷ l) (numbers_off (suc n) i k flags (omega arith)))
numbers_off n (suc i) k (false ∷ flags) is = numbers_off (suc n) i k flags (omega arith)

pub change_off : (i : ℕ) (flags : List Bool) (old now : List ℕ) → old ≡ numbers_on 0 flags → now ≡ numbers_without i old → now ≡ numbers_on 0 (set flags i false)
change_off i flags old now is next = next ∙ ap (numbers_without i) is ∙ sym (numbers_off 0 i i flags (omega arith))

pub goes_from_under : (p : Packet) → IsUnderWay p → goes_on p.ended ≡ true
goes_from_under p under = ap goes_on under

length_flags : (f : Packet → Bool) (packets : List Packet) → length (map f packets) ≡ length packets
length_flags f [] = refl
length_flags f (p ∷ packets) = ap suc (length_flags f packets)

length_push : (packets : List Packet) (p : Packet) → length (packets ++ p ∷ []) ≡ suc (length packets)
length_push [] p = refl
length_push (x ∷ packets) p = ap suc (length_push packets p)

-- a packet that enters is under way
pub enter_on : (packets more : List Packet) (p : Packet) (old now : List ℕ) → IsUnderWay p → old ≡ numbers_under_way packets → more ≡ packets ++ p ∷ [] → now ≡ old ++ (length more - 1) ∷ []
    → now ≡ numbers_under_way more
enter_on packets more p old now under is more_is next =
    let f : Packet → Bool = λ x. goes_on x.ended in
    let flags : List Bool = map f packets in
    let count : length more - 1 ≡ 0 + length flags = let a = ap length more_is in let b = length_push packets p in let c = length_flags f packets in omega arith in
    let here : numbers_on 0 (map f more) ≡ numbers_on 0 flags ++ (0 + length flags) ∷ [] =
    ap (λ (xs : List Packet). numbers_on 0 (map f xs)) more_is ∙ ap (numbers_on 0) (map-push f packets p) ∙ numbers_push 0 flags (goes_on p.ended)
    ∙ ap (λ b. numbers_on 0 flags ++ cond b ((0 + length flags) ∷ []) []) (goes_from_under p under) in
    next ∙ ap (λ (l : List ℕ). l ++ (length more - 1) ∷ []) is ∙ ap (λ k. numbers_on 0 flags ++ k ∷ []) count ∙ sym here

slice_get-set : {A : Type 0} (xs : List A) (i : ℕ) (p q : A) → slice_get xs i ≡ Some p → slice_get (set xs i q) i ≡ Some q
slice_get-set [] i p q at = absurd (let f : None ≡ Some p = at in cc)
slice_get-set (x ∷ xs) zero p q at = refl
slice_get-set (x ∷ xs) (suc i) p q at = slice_get-set xs i p q at

set-same : (flags : List Bool) (i : ℕ) (b : Bool) → slice_get flags i ≡ Some b → set flags i b ≡ flags
set-same [] i b at = refl
set-same (x ∷ flags) zero b at = let f : Some x ≡ Some b = at in let g : x ≡ b = cc in ap (λ y. y ∷ flags) (sym g)
set-same (x ∷ flags) (suc i) b at = ap (λ l. x ∷ l) (set-same flags i b at)

flag_at : (packets : List Packet) (i : ℕ) (p : Packet) → slice_get packets i ≡ Some p → slice_get (map (λ x. goes_on x.ended) packets) i ≡ Some (goes_on p.ended)
flag_at [] i p at = absurd (let f : None ≡ Some p = at in cc)
flag_at (x ∷ packets) zero p at = let f : Some x ≡ Some p = at in let g : x ≡ p = cc in ap (λ (y : Packet). Some (goes_on y.ended)) g
flag_at (x ∷ packets) (suc i) p at = flag_at packets i p at

-- a packet that hops or is lost
pub hop_on : (packets more : List Packet) (i : ℕ) (p q : Packet) (old now : List ℕ) → slice_get packets i ≡ Some p → IsUnderWay p → more ≡ set packets i q → old ≡ numbers_under_way packets
    → (IsHopping more i × (now ≡ old)) ⊎ ((¬ IsHopping more i) × (now ≡ numbers_without i old)) → now ≡ numbers_under_way more
hop_on packets more i p q old now at under more_is is next =
    let f : Packet → Bool = λ x. goes_on x.ended in
    let flags : List Bool = map f packets in
    let there : slice_get more i ≡ Some q = ap (λ (xs : List Packet). slice_get xs i) more_is ∙ slice_get-set packets i p q at in
    let on : slice_get flags i ≡ Some true = flag_at packets i p at ∙ ap (λ b. Some b) (goes_from_under p under) in
    let all : numbers_on 0 (map f more) ≡ numbers_on 0 (set flags i (goes_on q.ended)) =
    ap (λ (xs : List Packet). numbers_on 0 (map f xs)) more_is ∙ ap (numbers_on 0) (map-set f packets i q) in
    elim (goes_on q.ended) as (λ b. goes_on q.ended ≡ b → now ≡ numbers_on 0 (map f more)) [
      | true ↦ λ e. stays (IsHopping more i) old now (q, there, goes_from q.ended e) next ∙ is
          ∙ sym (all ∙ ap (λ b. numbers_on 0 (set flags i b)) e ∙ ap (numbers_on 0) (set-same flags i true on))
      | false ↦ λ e. goes_out (IsHopping more i) old now (λ h. not_under h e there) next ∙ ap (numbers_without i) is
          ∙ sym (all ∙ ap (λ b. numbers_on 0 (set flags i b)) e ∙ numbers_off 0 i i flags (omega arith))
    ] refl
  where
    stays : (H : Type 0) (a b : List ℕ) → H → (H × (b ≡ a)) ⊎ ((¬ H) × (b ≡ numbers_without i a)) → b ≡ a
    stays H a b h (inl x) = x.1
    stays H a b h (inr x) = absurd (x.0 h)

    goes_out : (H : Type 0) (a b : List ℕ) → ¬ H → (H × (b ≡ a)) ⊎ ((¬ H) × (b ≡ numbers_without i a)) → b ≡ numbers_without i a
    goes_out H a b h (inl x) = absurd (h x.0)
    goes_out H a b h (inr x) = x.1

    not_under : IsHopping more i → goes_on q.ended ≡ false → slice_get more i ≡ Some q → ⊥
    not_under h e there =
        let f : Some h.0 ≡ Some q = sym h.1 ∙ there in
        let g : h.0 ≡ q = cc in
        true≢false (sym (ap goes_on (sym (ap (λ (y : Packet). y.ended) g) ∙ h.2)) ∙ e)

module _ (w next : WorldState) (pending under_way : List ℕ) (kept : IsAgenda w.state pending under_way) where
  pub change_kept : (i : ℕ) (now : List ℕ) → next ≡ world_after w (event.Change i) → now ≡ numbers_without i pending → IsAgenda next.state now under_way
  change_kept i now is changed =
      subst (λ (x : WorldState). IsAgenda x.state now under_way) (sym is)
      (record { pending_are = change_off i w.state.pending pending now kept.pending_are changed; under_way_are = kept.under_way_are })

  pub enter_kept : (place : Place) (dst : ℕ) (packets : List Packet) (now : List ℕ) → next ≡ world_after w (event.Enter place dst) → packets ≡ next.state.packets → now ≡ under_way ++ (length packets - 1) ∷ []
      → IsAgenda next.state pending now
  enter_kept place dst packets now is same changed =
      let packets_are : next.state.packets ≡ w.state.packets ++ entered_packet place dst (settled_count w.state.phase) ∷ [] = ap (λ (x : WorldState). x.state.packets) is in record {
        pending_are = kept.pending_are ∙ sym (ap (λ (x : WorldState). numbers_on 0 x.state.pending) is);
        under_way_are = enter_on w.state.packets next.state.packets (entered_packet place dst (settled_count w.state.phase)) under_way now refl kept.under_way_are packets_are (changed ∙ ap (λ (ps : List Packet). under_way ++ (length ps - 1) ∷ []) same);
      }

  -- the packets after packet i is changed
  with_this : (f : Packet → Packet) (i : ℕ) (p : Packet) → slice_get w.state.packets i ≡ Some p → with_packet f i w.state.packets ≡ set w.state.packets i (f p)
  with_this f i p at = ap (λ o. option_map_or (λ q. set w.state.packets i (f q)) o w.state.packets) at

  there : (i : ℕ) (packets : List Packet) (now : List ℕ) → packets ≡ next.state.packets → (IsHopping packets i × (now ≡ under_way)) ⊎ ((¬ IsHopping packets i) × (now ≡ numbers_without i under_way))
      → (IsHopping next.state.packets i × (now ≡ under_way)) ⊎ ((¬ IsHopping next.state.packets i) × (now ≡ numbers_without i under_way))
  there i packets now same = subst (λ (ps : List Packet). (IsHopping ps i × (now ≡ under_way)) ⊎ ((¬ IsHopping ps i) × (now ≡ numbers_without i under_way))) same

  pub hop_kept : (i : ℕ) (packets : List Packet) (now : List ℕ) → IsHopping w.state.packets i → next ≡ world_after w (event.Hop i) → packets ≡ next.state.packets
      → (IsHopping packets i × (now ≡ under_way)) ⊎ ((¬ IsHopping packets i) × (now ≡ numbers_without i under_way)) → IsAgenda next.state pending now
  hop_kept i packets now may is same changed = record {
    pending_are = kept.pending_are ∙ sym (ap (λ (x : WorldState). numbers_on 0 x.state.pending) is);
    under_way_are = hop_on w.state.packets next.state.packets i may.0 (hopped_packet may.0 (outcome_in w.net w.state.tables may.0.at may.0.dst)) under_way now may.1 may.2
        (ap (λ (x : WorldState). x.state.packets) is ∙ with_this (λ p. hopped_packet p (outcome_in w.net w.state.tables p.at p.dst)) i may.0 may.1) kept.under_way_are (there i packets now same changed);
  }

  pub lose_kept : (i : ℕ) (packets : List Packet) (now : List ℕ) → IsHopping w.state.packets i → next ≡ world_after w (event.Lose i) → packets ≡ next.state.packets
      → (IsHopping packets i × (now ≡ under_way)) ⊎ ((¬ IsHopping packets i) × (now ≡ numbers_without i under_way)) → IsAgenda next.state pending now
  lose_kept i packets now may is same changed = record {
    pending_are = kept.pending_are ∙ sym (ap (λ (x : WorldState). numbers_on 0 x.state.pending) is);
    under_way_are = hop_on w.state.packets next.state.packets i may.0 (lost_packet may.0) under_way now may.1 may.2
        (ap (λ (x : WorldState). x.state.packets) is ∙ with_this lost_packet i may.0 may.1) kept.under_way_are (there i packets now same changed);
  }
