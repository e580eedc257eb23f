-- The marked rules at some positions.
use Rattle.std.proofs.Common.{◌≡◌, ℕ, zero, suc, true, false, cond, ◌+◌, ◌<◌, ◌≤◌, List, [], ◌∷◌, ◌++◌, map, length, get_or, drop, refl, sym, ◌∙◌, subst, ap, inl, inr, arith, append_assoc}
use Rattle.std.specs.Prelude.{slice_get, Bool, Option, Some, None, IsSome, IfSome}
use Rattle.std.specs.Option.{option_map_or}
use Rattle.std.proofs.lemmas.List.{append-nil, drop_more, map-append, length-map}
use Rattle.std.proofs.lemmas.Bool.{cond-true, cond-false, both_ways}
use Rattle.net_base.specs.Members.{IsIn}
use Rattle.net_base.proofs.MemberLaws.{each_at, each_from_in}
use Rattle.net_base.proofs.ItemLaws.{in_from_get, past_end}
use Rattle.flow_rules.specs.Patterns.{Header, covers}
use Rattle.flow_rules.specs.declared.rules.Action.{Action}
use Rattle.table_index.specs.Candidates.{IsAscending, AreCandidates}
use Rattle.round_mix.specs.Among.{picked_marks, blocks_of, ArePositionsBelow}
use Rattle.round_mix.specs.Prepared.{IsFalling}
use Rattle.round_mix.specs.Scan.{actions_by, is_kept, scan}
use Rattle.round_mix.proofs.ScanLaws.{scan_covering}
use Rattle.round_mix.specs.declared.MarkedRule.{MarkedRule}

module _ (marks : List MarkedRule) where
  pub in_picked : (ps : List ℕ) (i : ℕ) (m : MarkedRule) → IsIn i ps → slice_get marks i ≡ Some m → IsIn m (picked_marks marks ps)
  in_picked [] i m j at = absurd j
  in_picked (p ∷ ps) i m (inl e) at =
      subst (λ o. IsIn m (option_map_or (λ n. n ∷ picked_marks marks ps) o (picked_marks marks ps))) (sym (ap (slice_get marks) (sym e) ∙ at)) (inl refl)
  in_picked (p ∷ ps) i m (inr j) at =
      let rest = in_picked ps i m j at in
      elim (slice_get marks p) as (λ o. IsIn m (option_map_or (λ n. n ∷ picked_marks marks ps) o (picked_marks marks ps))) [ None ↦ rest | Some n ↦ inr rest ]

  pub in_from_picked : (ps : List ℕ) (m : MarkedRule) → IsIn m (picked_marks marks ps) → (i : ℕ) × IsIn i ps × (slice_get marks i ≡ Some m)
  in_from_picked [] m j = absurd j
  in_from_picked (p ∷ ps) m j =
      elim (slice_get marks p) as (λ o. slice_get marks p ≡ o → IsIn m (option_map_or (λ n. n ∷ picked_marks marks ps) o (picked_marks marks ps)) → (i : ℕ) × IsIn i (p ∷ ps) × (slice_get marks i ≡ Some m)) [
        | None ↦ λ _ k. let (i, l, e) = in_from_picked ps m k in (i, inr l, e)
        | Some n ↦ λ at k. elim k [
          | inl e ↦ (p, inl refl, at ∙ ap Some (sym e))
          | inr l ↦ (let (i, o, f) = in_from_picked ps m l in (i, inr o, f))
        ]
      ] refl j

  -- a loop over the positions goes on to the next
  pub picked_step : (ps : List ℕ) (i : ℕ) (m : MarkedRule) → i < length ps → slice_get marks (get_or ps i 0) ≡ Some m → picked_marks marks (drop i ps) ≡ m ∷ picked_marks marks (drop (i + 1) ps)
  picked_step ps i m less at =
      ap (picked_marks marks) (drop_more ps i 0 less) ∙ ap (λ o. option_map_or (λ n. n ∷ picked_marks marks (drop (i + 1) ps)) o (picked_marks marks (drop (i + 1) ps))) at

-- what stands behind has no greater priority
falling_at : (marks : List MarkedRule) → IsFalling marks → (i j : ℕ) (m n : MarkedRule) → i < j → slice_get marks i ≡ Some m → slice_get marks j ≡ Some n
    → n.rule.key.priority ≤ m.rule.key.priority
falling_at [] falling i j m n less e f = absurd (let g : None ≡ Some m = e in cc)
falling_at (x ∷ xs) falling i zero m n less e f = absurd (omega arith)
falling_at (x ∷ xs) falling zero (suc j) m n less e f =
    let same : x ≡ m = cc in
    subst (λ (y : MarkedRule). n.rule.key.priority ≤ y.rule.key.priority) same (each_at (λ y. y.rule.key.priority ≤ x.rule.key.priority) xs n falling.0 (in_from_get xs j n f))
falling_at (x ∷ xs) falling (suc i) (suc j) m n less e f = falling_at xs falling.1 i j m n (omega arith) e f

pub falling_picked : (marks : List MarkedRule) → IsFalling marks → (ps : List ℕ) → IsAscending ps → IsFalling (picked_marks marks ps)
falling_picked marks falling [] up = tt
falling_picked marks falling (p ∷ ps) up =
    let rest = falling_picked marks falling ps up.1 in
    elim (slice_get marks p) as (λ o. slice_get marks p ≡ o → IsFalling (option_map_or (λ n. n ∷ picked_marks marks ps) o (picked_marks marks ps))) [
      | None ↦ λ _. rest
      | Some n ↦ λ at. (
        each_from_in (λ q. q.rule.key.priority ≤ n.rule.key.priority) (picked_marks marks ps) (λ q j.
            let (i, k, e) = in_from_picked marks ps q j in falling_at marks falling p i n q (each_at (λ z. p < z) ps i up.0 k) at e),
        rest,
      )
    ] refl

-- a pass over marked rules goes on by one
module _ {B : Type 0} (f : Action → B) (h : Header) (m : MarkedRule) (ms : List MarkedRule) (old : List B) where
  abbrev actions : List Action
  actions = actions_by m.mark m.rule.action

  pub put_missed : covers m.rule.key.pattern h ≡ false → old ++ map f (scan h ms) ≡ old ++ map f (scan h (m ∷ ms))
  put_missed missed = ap (λ xs. old ++ map f xs) (sym (cond-false (covers m.rule.key.pattern h) (actions ++ cond (is_kept m.mark) [] (scan h ms)) (scan h ms) missed))

  pub put_possible : covers m.rule.key.pattern h ≡ true → is_kept m.mark ≡ false → (old ++ map f actions) ++ map f (scan h ms) ≡ old ++ map f (scan h (m ∷ ms))
  put_possible covered possible =
      append_assoc old (map f actions) (map f (scan h ms)) ∙ ap (λ xs. old ++ xs) (sym (map-append f actions (scan h ms)))
      ∙ ap (λ xs. old ++ map f (actions ++ xs)) (sym (cond-false (is_kept m.mark) [] (scan h ms) possible))
      ∙ ap (λ xs. old ++ map f xs) (sym (scan_covering h m ms covered))

  pub put_kept : covers m.rule.key.pattern h ≡ true → is_kept m.mark ≡ true → old ++ map f actions ≡ old ++ map f (scan h (m ∷ ms))
  put_kept covered kept =
      ap (λ xs. old ++ map f xs) (sym (append-nil actions)) ∙ ap (λ xs. old ++ map f (actions ++ xs)) (sym (cond-true (is_kept m.mark) [] (scan h ms) kept))
      ∙ ap (λ xs. old ++ map f xs) (sym (scan_covering h m ms covered))

-- ascending positions are no more than there are places above the first
ascending_above : (ps : List ℕ) (low size : ℕ) → low ≤ size → IsAscending ps → ((i : ℕ) → IsIn i ps → low ≤ i) → ((i : ℕ) → IsIn i ps → i < size) → low + length ps ≤ size
ascending_above [] low size le up above within = omega arith
ascending_above (p ∷ ps) low size le up above within =
    let here = above p (inl refl) in
    let below = within p (inl refl) in
    let rest = ascending_above ps (suc p) size (omega arith) up.1 (λ i j. each_at (λ z. p < z) ps i up.0 j) (λ i j. within i (inr j)) in
    omega arith

pub ascending_few : (ps : List ℕ) (size : ℕ) → IsAscending ps → ((i : ℕ) → IsIn i ps → i < size) → length ps ≤ size
ascending_few ps size up within = let few = ascending_above ps zero size (omega arith) up (λ i j. omega arith) within in omega arith

-- the positions of an aimed address are those of prepared rules
pub aimed_within : (ready : Bool) (aimed : Option ℕ) (marks : List MarkedRule) (ps : List ℕ) → IsSome aimed → IfSome aimed (λ dst. AreCandidates (blocks_of marks) dst ps)
    → (ms : List MarkedRule) → cond ready (Some marks) None ≡ Some ms → ArePositionsBelow ps (length ms)
aimed_within ready None marks ps is are ms e = absurd (both_ways false refl is)
aimed_within false (Some dst) marks ps is are ms e = absurd (let f : None ≡ Some ms = e in cc)
aimed_within true (Some dst) marks ps is are ms e = λ i j.
    let same : marks ≡ ms = cc in
    let c = (are.exact i).0 j in
    let below = past_end (blocks_of marks) i c.block c.at in
    let count = length-map marks (λ (m : MarkedRule). m.rule.key.pattern.dst) in
    let sizes = ap length same in omega arith
