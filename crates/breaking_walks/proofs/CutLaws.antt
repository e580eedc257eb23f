-- Walks up to their first repeat.
use Rattle.std.proofs.Common.{◌≡◌, ◌≢◌, ◌↔◌, ℕ, zero, suc, ◌+◌, ◌<◌, Bool, true, false, List, [], ◌∷◌, ◌++◌, length, map, take, refl, sym, ◌∙◌, subst, ap, inl, inr, arith, add-one}
use Rattle.std.specs.Prelude.{slice_get, Option, Some, None, IsTrue, ◌==◌}
use Rattle.std.specs.List.{list_any}
use Rattle.std.proofs.lemmas.Bool.{eqb-true, eq-eqb, false≢true}
use Rattle.net_base.specs.Members.{IsIn, IsDistinct}
use Rattle.net_base.specs.Walks.{end_of}
use Rattle.net_base.specs.declared.ids.Place.{Place}
use Rattle.net_base.specs.declared.ids.SwitchId.{SwitchId}
use Rattle.net_base.proofs.ItemLaws.{distinct_push}
use Rattle.net_base.proofs.ListLaws.{any_in, in_from_any}
use Rattle.net_base.proofs.MemberLaws.{map-push, in_map, in_from_map}
use Rattle.net_base.proofs.NameLaws.{same_switch}
use Rattle.net_base.proofs.WalkLaws.{end_of-push}
use Rattle.path_walk.specs.declared.Outcome.{Outcome}
use Rattle.path_walk.specs.declared.Outcome.TheVariants.{Discard, Leave, Go}
use Rattle.demands.specs.Duties.{PacketDuties}
use Rattle.update_model.specs.Mixtures.{Rollout, MayGo, IsMixedWalk}
use Rattle.certificates.specs.Steps.{switches_along}
use Rattle.breaking_walks.specs.Breaking.{switches_before, IsBreakingWalk}
use Rattle.breaking_walks.specs.Broken.{IsBroken, IsFirstRepeat}
use Rattle.breaking_walks.proofs.BreakLaws.{before_last, distinct_before, take_next, walk_front}

-- whether a switch is among those of places
pub comes_in : (s : SwitchId) (places : List Place) → list_any (λ place. place.switch.0 == s.0) places ≡ true → IsIn s (map (λ p. p.switch) places)
comes_in s places e =
    let (place, i, same) = in_from_any (λ (p : Place). p.switch.0 == s.0) places e in
    subst (λ (o : SwitchId). IsIn o (map (λ p. p.switch) places)) (same_switch place.switch s (eqb-true place.switch.0 s.0 same)) (in_map (λ (p : Place). p.switch) place places i)

pub in_comes : (s : SwitchId) (places : List Place) → IsIn s (map (λ p. p.switch) places) → list_any (λ place. place.switch.0 == s.0) places ≡ true
in_comes s places i =
    let (place, j, e) = in_from_map (λ (p : Place). p.switch) s places i in
    any_in (λ (p : Place). p.switch.0 == s.0) place places j (eq-eqb place.switch.0 s.0 (ap (λ (o : SwitchId). o.0) (sym e)))

module _ (entry : Place) (rest : List Place) (i : ℕ) (s : SwitchId) (place : Place) (is : place.switch ≡ s) where
  -- the place isn't at the switch of the entry, and whether it is at one of those between was looked at
  pub repeats_between : entry.switch.0 ≢ s.0 → (r : Bool) → r ≡ list_any (λ p. p.switch.0 == s.0) (take i rest) → IsTrue r ↔ IsIn place.switch (switches_along entry (take i rest))
  repeats_between other r looked = (
    λ found. inr (subst (λ (o : SwitchId). IsIn o (map (λ p. p.switch) (take i rest))) (sym is) (comes_in s (take i rest) (sym looked ∙ found))),
    λ among. elim among [
      | inl e ↦ absurd (other (ap (λ (o : SwitchId). o.0) (sym e ∙ is)))
      | inr j ↦ looked ∙ in_comes s (take i rest) (subst (λ (o : SwitchId). IsIn o (map (λ p. p.switch) (take i rest))) is j)
    ],
  )

-- within a list there is something to read
read_at : {A : Type 0} (xs : List A) (i : ℕ) → i < length xs → (x : A) × (slice_get xs i ≡ Some x)
read_at [] i less = absurd (omega arith)
read_at (x ∷ xs) zero less = (x, refl)
read_at (x ∷ xs) (suc i) less = read_at xs i (omega arith)

-- one more place whose switch doesn't stand earlier
pub distinct_next : (entry : Place) (rest : List Place) (i : ℕ) (place : Place) → slice_get rest i ≡ Some place → ¬ IsIn place.switch (switches_along entry (take i rest))
    → IsDistinct (switches_along entry (take i rest)) → IsDistinct (switches_along entry (take (suc i) rest))
distinct_next entry rest i place at fresh distinct =
    let front = take i rest in
    let whole : switches_along entry (take (suc i) rest) ≡ switches_along entry front ++ place.switch ∷ [] =
    ap (switches_along entry) (take_next rest i place at) ∙ map-push (λ (p : Place). p.switch) (entry ∷ front) place in
    subst IsDistinct (sym whole) (distinct_push (switches_along entry front) place.switch distinct fresh)

module _ (entry : Place) (rest : List Place) (i : ℕ) (less : i < length rest) (r : Bool)
    (told : (place : Place) → slice_get rest i ≡ Some place → IsTrue r ↔ IsIn place.switch (switches_along entry (take i rest))) (before : IsDistinct (switches_along entry (take i rest))) where
  -- the first repeat
  pub repeat_found : r ≡ true → IsFirstRepeat entry rest i
  repeat_found again = let (place, at) = read_at rest i less in record { place = place; at = at; again = (told place at).0 again; before = before }

  -- none yet
  pub repeat_later : r ≡ false → IsDistinct (switches_along entry (take (i + 1) rest))
  repeat_later fresh =
      let (place, at) = read_at rest i less in
      subst (λ (n : ℕ). IsDistinct (switches_along entry (take n rest))) (sym (add-one i))
      (distinct_next entry rest i place at (λ among. false≢true (sym fresh ∙ (told place at).1 among)) before)

module _ (u : Rollout) (k dst : ℕ) (entry : Place) (duties : PacketDuties) where
  -- a walk up to its first repeat breaks the duties there, and not before
  pub breaks_cut : (rest : List Place) (i : ℕ) → IsMixedWalk u k dst entry rest → IsFirstRepeat entry rest i → IsBreakingWalk u k dst entry duties (take (suc i) rest) None
  breaks_cut rest i walk first =
      let front = take i rest in
      let next = take_next rest i first.place first.at in
      let before : switches_before entry (take (suc i) rest) ≡ switches_along entry front = ap (switches_before entry) next ∙ before_last entry front first.place in
      let end : end_of entry (take (suc i) rest) ≡ first.place = ap (end_of entry) next ∙ end_of-push entry front first.place in
      record {
        walk = walk_front (MayGo u k dst) entry rest (suc i) walk;
        before = subst IsDistinct (sym before) first.before;
        breaks = subst (λ (xs : List SwitchId). IsIn (end_of entry (take (suc i) rest)).switch xs) (sym before)
            (subst (λ (p : Place). IsIn p.switch (switches_along entry front)) (sym end) first.again);
      }

  -- one on which no switch stands twice breaks them at its end
  pub breaks_whole : (rest : List Place) (end : Option Outcome) → IsBroken u k dst entry duties rest end → IsDistinct (switches_along entry rest) → IsBreakingWalk u k dst entry duties rest end
  breaks_whole rest None broken distinct = absurd (broken.by distinct)
  breaks_whole rest (Some (Leave port vlan)) broken distinct = record { walk = broken.walk; before = distinct_before entry rest distinct; breaks = (distinct, broken.by) }
  breaks_whole rest (Some Discard) broken distinct = record { walk = broken.walk; before = distinct_before entry rest distinct; breaks = (distinct, broken.by) }
  breaks_whole rest (Some (Go next)) broken distinct = absurd broken.by
