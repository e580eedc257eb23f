-- Which switches a round changes.
use Rattle.std.proofs.Common.{◌≡◌, ◌≢◌, ℕ, zero, suc, ◌+◌, ◌<◌, ◌≤◌, Bool, true, false, cond, eqb, List, [], ◌∷◌, ◌++◌, map, refl, sym, ap, ◌∙◌, subst, inl, inr, arith}
use Rattle.std.specs.Prelude.{◌||◌, ◌&&◌, IsTrue, filter, find, Option}
use Rattle.std.specs.List.{list_any, range_with_len}
use Rattle.std.proofs.lemmas.Bool.{cases_Bool, cases_eq, eq-eqb, ne_eqb, or_left, or_right}
use Rattle.std.proofs.lemmas.List.Folds.{list_any-append}
use Rattle.std.proofs.Math.Bool.{or-false}
use Rattle.net_base.specs.declared.ids.SwitchId.{SwitchId}
use Rattle.net_base.specs.Switches.{has}
use Rattle.net_base.proofs.NameLaws.{same_switch}
use Rattle.update_model.specs.Changes.{switch_of}
use Rattle.update_model.specs.declared.Change.{Change}
use Rattle.round_messages.specs.Requests.{is_changed, switch_numbered}

-- the set of the switches that have a change among these
abbrev pub HasChanged : ℕ → List Change → Type 0
HasChanged set changes = (s : SwitchId) → has set s ≡ is_changed changes s

-- two tests that agree on the switches
pub same_passed : (p q : SwitchId → Bool) (a n : ℕ) → ((s : ℕ) → a ≤ s → s < a + n → p (switch_numbered s) ≡ q (switch_numbered s))
    → filter p (map switch_numbered (range_with_len a n)) ≡ filter q (map switch_numbered (range_with_len a n))
same_passed p q a zero h = refl
same_passed p q a (suc n) h =
    let here = h a (omega arith) (omega arith) in
    let rest = same_passed p q (a + 1) n (λ s ge lt. h s (omega arith) (omega arith)) in
    ap (λ b. cond b (switch_numbered a ∷ filter p (map switch_numbered (range_with_len (a + 1) n))) (filter p (map switch_numbered (range_with_len (a + 1) n)))) here
    ∙ ap (λ xs. cond (q (switch_numbered a)) (switch_numbered a ∷ xs) xs) rest

-- ---- the first of some switches that passes a test

module _ (p q : SwitchId → Bool) where
  -- among so many from a number on
  abbrev pub found_from : ℕ → ℕ → Option SwitchId
  found_from n m = find p (filter q (map switch_numbered (range_with_len n m)))

  pub not_first : (n m : ℕ) → (q (switch_numbered n) && p (switch_numbered n)) ≡ false → found_from n (suc m) ≡ found_from (n + 1) m
  not_first n m e =
      elim (cases_Bool (q (switch_numbered n))) [
        | inl on ↦ (
            let closed : p (switch_numbered n) ≡ false = sym (ap (λ b. b && p (switch_numbered n)) on) ∙ e in
            rw (on, closed) refl)
        | inr off ↦ rw off refl
      ]
