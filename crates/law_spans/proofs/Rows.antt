-- Worked examples: the spans of plans, and when rounds begin freely.
use Rattle.std.proofs.Common.{◌≡◌, ℕ, suc, ◌<◌, ◌≤◌, List, [], ◌∷◌, refl, subst, inl, inr, arith}
use Rattle.net_base.specs.declared.ids.Place.{Place}
use Rattle.topology.specs.Networks.{Network}
use Rattle.update_model.specs.Mixtures.{Rollout}
use Rattle.update_model.specs.States.{entered_packet}
use Rattle.update_model.specs.declared.Phase.TheVariants.{Settled}
use Rattle.law_two_way_runs.specs.States.{Back, SettleBack, NoneOlder}
use Rattle.law_spans.specs.Spans.{IsWait, IsSpan}
use Rattle.law_spans.specs.Cuts.{AreWaits}
use Rattle.law_spans.specs.Runs.{WaitState, MayStartWithWaits, MayTurnBackWithWaits, state_with_waits}

-- ---- eight rounds with waits before the fourth and the eighth

abbrev detour_waits : List ℕ
detour_waits = 4 ∷ 8 ∷ []

no_wait : (k : ℕ) → ¬ (k ≡ 3) → ¬ (k ≡ 7) → ¬ IsWait detour_waits k
no_wait k a b (inl e) = a (omega arith)
no_wait k a b (inr (inl e)) = b (omega arith)
no_wait k a b (inr (inr none)) = none

are_waits : AreWaits detour_waits 8
are_waits = record { ascending = (omega arith, tt); behind_first = (omega arith, (omega arith, tt)); within = (omega arith, (omega arith, tt)) }

-- the rounds 1 to 3, 4 to 7, and 8
first_span : IsSpan detour_waits 8 (record { first = 0; last = 2 })
first_span = record { ascends = omega arith; within = omega arith; unbroken = λ k above below. no_wait k (λ e. omega arith) (λ e. omega arith); no_sooner = inl refl; no_later = inr (inl refl) }

second_span : IsSpan detour_waits 8 (record { first = 3; last = 6 })
second_span = record { ascends = omega arith; within = omega arith; unbroken = λ k above below. no_wait k (λ e. omega arith) (λ e. omega arith); no_sooner = inr (inl refl); no_later = inr (inr (inl refl)) }

third_span : IsSpan detour_waits 8 (record { first = 7; last = 7 })
third_span = record { ascends = omega arith; within = omega arith; unbroken = λ k above below. absurd (omega arith); no_sooner = inr (inr (inl refl)); no_later = inl refl }

-- without waits all rounds are one span
only_span : IsSpan [] 12 (record { first = 0; last = 11 })
only_span = record { ascends = omega arith; within = omega arith; unbroken = λ k above below i. i; no_sooner = inl refl; no_later = inl refl }

-- ---- three rounds without changes; a packet entered before the first was settled, and is still under way

module _ (net : Network) (place : Place) (dst : ℕ) where
  abbrev three : Rollout
  three = record { net = net; old = []; rounds = [] ∷ [] ∷ [] ∷ [] }

  -- so many rounds are settled, so often one was settled in either way, and this one ran last
  abbrev at : ℕ → ℕ → ℕ → WaitState
  at k settles ran = record {
    state = record { phase = Settled k; tables = []; in_force = []; settles = settles; packets = entered_packet place dst 0 ∷ [] };
    ran = ran;
  }

  older : (k settles ran : ℕ) → 0 < settles → ¬ NoneOlder (at k settles ran).state
  older k settles ran some none = let late : settles ≤ 0 = none.0 refl in omega arith

  -- the second round begins freely where it is no wait
  second_begins : MayStartWithWaits three (3 ∷ []) (at 1 1 1)
  second_begins = record { k = 1; settled = refl; more = omega arith; waited = inl (inl (λ i. elim i [ inl e ↦ omega arith | inr none ↦ none ])) }

  -- a wait begins behind the packet alone
  third_waits : ¬ MayStartWithWaits three (3 ∷ []) (at 2 2 2)
  third_waits may =
      let settled : 2 ≡ may.k = (let e : Settled 2 ≡ Settled may.k = may.settled in cc) in
      elim may.waited [
        | inl free ↦ elim free [ inl none ↦ none (subst (λ n. IsWait (3 ∷ []) n) settled (inl refl)) | inr again ↦ omega arith ]
        | inr none ↦ older 2 2 2 (omega arith) none
      ]

  -- the round that ran last may be undone at once, and begin again
  second_turns_back : MayTurnBackWithWaits (at 2 2 2)
  second_turns_back = record { k = 1; settled = refl; waited = inl refl }

  undone : state_with_waits three (at 2 2 2) (Back ∷ SettleBack ∷ []) ≡ at 1 3 2
  undone = refl

  second_begins_again : MayStartWithWaits three (2 ∷ 3 ∷ []) (at 1 3 2)
  second_begins_again = record { k = 1; settled = refl; more = omega arith; waited = inl (inr refl) }

  -- the one before may not
  first_waits : ¬ MayTurnBackWithWaits (at 1 3 2)
  first_waits may =
      let settled : 1 ≡ suc may.k = (let e : Settled 1 ≡ Settled (suc may.k) = may.settled in cc) in
      elim may.waited [ inl free ↦ omega arith | inr none ↦ older 1 3 2 (omega arith) none ]
