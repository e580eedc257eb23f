-- What holds of the packets before each event of a run.
use Rattle.std.proofs.Common.{◌≡◌, List, [], ◌∷◌, ◌++◌, subst}
use Rattle.topology.specs.Networks.{Network}
use Rattle.update_model.specs.Runs.{state_after}
use Rattle.update_model.specs.States.{State, state_after_event}
use Rattle.update_model.specs.declared.Change.{Change}
use Rattle.update_model.specs.declared.Event.{Event}
use Rattle.update_model.specs.declared.Packet.{Packet}

module _ (net : Network) (rounds : List (List Change)) (P : List Packet → Type 0) where
  -- the fact holds of the packets before each event
  abbrev pub HoldsBefore : State → List Event → Type 0
  HoldsBefore st [] = Unit {0}
  HoldsBefore st (e ∷ es) = P st.packets × HoldsBefore (state_after_event net rounds st e) es

  pub before_both : (st : State) (xs ys : List Event) → HoldsBefore st xs → HoldsBefore (state_after net rounds st xs) ys → HoldsBefore st (xs ++ ys)
  before_both st [] ys h k = k
  before_both st (x ∷ xs) ys h k = (h.0, before_both (state_after_event net rounds st x) xs ys h.1 k)

  pub before_each : (st : State) (events before : List Event) (e : Event) (after : List Event) → HoldsBefore st events → events ≡ before ++ e ∷ after
      → P (state_after net rounds st before).packets
  before_each st [] [] e after h is = absurd (let f : [] ≡ e ∷ after = is in cc)
  before_each st [] (b ∷ before) e after h is = absurd (let f : [] ≡ b ∷ (before ++ e ∷ after) = is in cc)
  before_each st (x ∷ events) [] e after h is = h.0
  before_each st (x ∷ events) (b ∷ before) e after h is =
      let f : x ∷ events ≡ b ∷ (before ++ e ∷ after) = is in
      let same : x ≡ b = cc in
      let rest : events ≡ before ++ e ∷ after = cc in
      before_each (state_after_event net rounds st b) events before e after (subst (λ (y : Event). HoldsBefore (state_after_event net rounds st y) events) same h.1) rest
