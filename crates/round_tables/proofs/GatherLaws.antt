-- The changes of a round up to one of them and behind it, at each switch.
use Rattle.std.proofs.Common.{◌≡◌, ◌≢◌, ℕ, zero, suc, get_or, subst, ◌+◌, ◌<◌, ◌≤◌, List, [], ◌∷◌, ◌++◌, length, take, drop, refl, sym, ◌∙◌, ap, arith, length-append}
use Rattle.std.proofs.Math.ListN.{take-append-drop}
use Rattle.std.specs.Prelude.{◌==◌, Some, None, Option, IsSomeAnd}
use Rattle.std.proofs.lemmas.List.Elements.{filter-append}
use Rattle.net_base.specs.declared.ids.SwitchId.{SwitchId}
use Rattle.flow_rules.specs.declared.rules.Rule.{Rule}
use Rattle.update_model.specs.Changes.{switch_of, changes_at}
use Rattle.update_model.specs.declared.Change.{Change}
use Rattle.round_mix.specs.Prepared.{MixedState, IsPrepared}
use Rattle.round_mix.specs.declared.MarkedRule.{MarkedRule}
use Rattle.round_mix.proofs.ClearLaws.{prepared_needed}
use Rattle.round_tables.specs.Loading.{AreSwitchesBelow}
use Rattle.round_tables.specs.PreparedTables.{IsMixed}
use Rattle.round_tables.proofs.StepLaws.{changes_here, changes_there}

-- what is prepared for a table alone has room for one entry more
pub room_for_all : (rules : List Rule) (mixed : MixedState) (count : ℕ) → IsMixed rules [] mixed → length rules + count ≤ mixed.room
    → IsSomeAnd mixed.prepared (λ marks. length marks + count ≤ mixed.room)
room_for_all rules mixed count held room = go mixed.prepared held
  where
    go : (o : Option (List MarkedRule)) → IsSomeAnd o (IsPrepared rules []) → IsSomeAnd o (λ marks. length marks + count ≤ mixed.room)
    go None h = absurd h
    go (Some marks) h = let needed = prepared_needed rules [] marks h in omega arith

append_none : {A : Type 0} (xs : List A) → xs ++ [] ≡ xs
append_none [] = refl
append_none (x ∷ xs) = ap (λ ys. x ∷ ys) (append_none xs)

module _ (round : List Change) (i : ℕ) (d : Change) (more : take (i + 1) round ≡ take i round ++ d ∷ []) where
  more_at : (s : SwitchId) → changes_at s (take (i + 1) round) ≡ changes_at s (take i round) ++ changes_at s (d ∷ [])
  more_at s = ap (changes_at s) more ∙ filter-append (λ (c : Change). (switch_of c).0 == s.0) (take i round) (d ∷ [])

  -- at another switch no change is gathered
  pub gathered_there : (s : SwitchId) → s.0 ≢ (switch_of d).0 → changes_at s (take (i + 1) round) ≡ changes_at s (take i round)
  gathered_there s ne = more_at s ∙ ap (λ (cs : List Change). changes_at s (take i round) ++ cs) (changes_there d s ne) ∙ append_none (changes_at s (take i round))

  -- at its own switch it is
  pub gathered_here : changes_at (switch_of d) (take (i + 1) round) ≡ changes_at (switch_of d) (take i round) ++ d ∷ []
  gathered_here = more_at (switch_of d) ∙ ap (λ (cs : List Change). changes_at (switch_of d) (take i round) ++ cs) (changes_here d)

  -- there are more changes at its switch than those before it
  pub more_come : length (changes_at (switch_of d) (take i round)) < length (changes_at (switch_of d) round)
  more_come =
      let s = switch_of d in
      let front = changes_at s (take (i + 1) round) in
      let back = changes_at s (drop (i + 1) round) in
      let all : changes_at s round ≡ front ++ back =
      ap (changes_at s) (sym (take-append-drop (i + 1) round)) ∙ filter-append (λ (c : Change). (switch_of c).0 == s.0) (take (i + 1) round) (drop (i + 1) round) in
      let whole = ap length all in
      let parts = length-append front back in
      let here = ap length gathered_here in
      let one = length-append (changes_at s (take i round)) (d ∷ []) in
      omega arith

-- each change names one of the switches
pub within_at : (n : ℕ) (round : List Change) (i : ℕ) (d : Change) → AreSwitchesBelow n round → i < length round → d ≡ get_or round i d → (switch_of d).0 < n
within_at n [] i d within less is = absurd (omega arith)
within_at n (x ∷ round) zero d within less is = subst (λ (c : Change). (switch_of c).0 < n) (sym is) within.0
within_at n (x ∷ round) (suc i) d within less is = within_at n round i d within.1 (omega arith) is
