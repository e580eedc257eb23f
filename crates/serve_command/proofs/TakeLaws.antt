-- Takes that come in turn with what is put.
use Rattle.std.proofs.Common.{◌≡◌, ℕ, ◌<◌, List, [], ◌∷◌, ◌++◌, length, true, false, None, Some, refl, sym, ap, subst, arith}
use Rattle.std.specs.Prelude.{Option, Bool}
use Rattle.std.specs.Io.KnownBytes.{Appends}
use Rattle.std.proofs.KnownBytes.{Appends-trans}
use Rattle.serve_lines.specs.Lines.{ended_lines}
use Rattle.serve_command.specs.Takes.{InputTake, Gave, Faulted, Begins, AddsTake, AreInTurn, CameInTurn}

module _ (text : List (List ℕ) → List ℕ) (old : Option (List ℕ)) where
  -- takes behind which another one may stand: none failed, and none found the end
  abbrev GoOn : List ℕ → List InputTake → List ℕ → Type 0
  GoOn before [] taken = taken ≡ before
  GoOn before (Faulted put ∷ more) taken = ⊥
  GoOn before (Gave put [] ∷ more) taken = ⊥
  GoOn before (Gave put (b ∷ bytes) ∷ more) taken = Appends old put (text (ended_lines before)) × GoOn (before ++ b ∷ bytes) more taken

  -- the same, where the takes are told
  abbrev pub MayGoOn : Option (List InputTake) → List ℕ → Type 0
  MayGoOn None taken = Unit {0}
  MayGoOn (Some takes) taken = GoOn [] takes taken

  go_on_turn : (before : List ℕ) (takes : List InputTake) (taken : List ℕ) → GoOn before takes taken → AreInTurn text old before takes taken false
  go_on_turn before [] taken h = (h, refl)
  go_on_turn before (Faulted put ∷ more) taken h = absurd h
  go_on_turn before (Gave put [] ∷ more) taken h = absurd h
  go_on_turn before (Gave put (b ∷ bytes) ∷ more) taken h = (h.0, go_on_turn (before ++ b ∷ bytes) more taken h.1)

  module _ (put : Option (List ℕ)) (taken : List ℕ) (exact : Appends old put (text (ended_lines taken))) where
    exact_at : (before : List ℕ) → taken ≡ before → Appends old put (text (ended_lines before))
    exact_at before is = subst (λ (t : List ℕ). Appends old put (text (ended_lines t))) is exact

    go_on_end : (before : List ℕ) (takes : List InputTake) → GoOn before takes taken → AreInTurn text old before (takes ++ Gave put [] ∷ []) taken true
    go_on_end before [] h = (exact_at before h, refl, h, refl)
    go_on_end before (Faulted at ∷ more) h = absurd h
    go_on_end before (Gave at [] ∷ more) h = absurd h
    go_on_end before (Gave at (b ∷ bytes) ∷ more) h = (h.0, go_on_end (before ++ b ∷ bytes) more h.1)

    go_on_fault : (before : List ℕ) (takes : List InputTake) → GoOn before takes taken → AreInTurn text old before (takes ++ Faulted put ∷ []) taken false
    go_on_fault before [] h = (exact_at before h, refl, h, refl)
    go_on_fault before (Faulted at ∷ more) h = absurd h
    go_on_fault before (Gave at [] ∷ more) h = absurd h
    go_on_fault before (Gave at (b ∷ bytes) ∷ more) h = (h.0, go_on_fault (before ++ b ∷ bytes) more h.1)

    go_on_more : (before : List ℕ) (takes : List InputTake) (c : ℕ) (piece : List ℕ) → GoOn before takes taken → GoOn before (takes ++ Gave put (c ∷ piece) ∷ []) (taken ++ c ∷ piece)
    go_on_more before [] c piece h = (exact_at before h, ap (λ (t : List ℕ). t ++ c ∷ piece) h)
    go_on_more before (Faulted at ∷ more) c piece h = absurd h
    go_on_more before (Gave at [] ∷ more) c piece h = absurd h
    go_on_more before (Gave at (b ∷ bytes) ∷ more) c piece h = (h.0, go_on_more (before ++ b ∷ bytes) more c piece h.1)

    -- the end is found
    pub told_end : (now next : Option (List InputTake)) → MayGoOn now taken → AddsTake now next (Gave put []) → CameInTurn text old next taken true
    told_end None next h adds = subst (λ (n : Option (List InputTake)). CameInTurn text old n taken true) (sym adds) tt
    told_end (Some takes) next h adds = subst (λ (n : Option (List InputTake)). CameInTurn text old n taken true) (sym adds) (go_on_end [] takes h)

    -- a take fails
    pub told_fault : (now next : Option (List InputTake)) → MayGoOn now taken → AddsTake now next (Faulted put) → CameInTurn text old next taken false
    told_fault None next h adds = subst (λ (n : Option (List InputTake)). CameInTurn text old n taken false) (sym adds) tt
    told_fault (Some takes) next h adds = subst (λ (n : Option (List InputTake)). CameInTurn text old n taken false) (sym adds) (go_on_fault [] takes h)

    -- a piece is taken
    pub told_more : (now next : Option (List InputTake)) (piece : List ℕ) → 0 < length piece → MayGoOn now taken → AddsTake now next (Gave put piece) → MayGoOn next (taken ++ piece)
    told_more now next [] some h adds = absurd (omega arith)
    told_more None next (c ∷ piece) some h adds = subst (λ (n : Option (List InputTake)). MayGoOn n (taken ++ c ∷ piece)) (sym adds) tt
    told_more (Some takes) next (c ∷ piece) some h adds = subst (λ (n : Option (List InputTake)). MayGoOn n (taken ++ c ∷ piece)) (sym adds) (go_on_more [] takes c piece h)

  -- no take is made yet
  pub told_first : (now : Option (List InputTake)) → Begins now → MayGoOn now []
  told_first None begins = tt
  told_first (Some takes) begins = subst (λ (t : List InputTake). GoOn [] t []) (sym begins) refl

  -- no more takes are made
  pub told_last : (now : Option (List InputTake)) (taken : List ℕ) → MayGoOn now taken → CameInTurn text old now taken false
  told_last None taken h = tt
  told_last (Some takes) taken h = go_on_turn [] takes taken h

-- behind a text that was written, the texts stand behind it
module _ (first : List ℕ) (text : List (List ℕ) → List ℕ) (old mid : Option (List ℕ)) (written : Appends old mid first) where
  behind_turn : (before : List ℕ) (takes : List InputTake) (taken : List ℕ) (ended : Bool) → AreInTurn text mid before takes taken ended → AreInTurn (λ lines. first ++ text lines) old before takes taken ended
  behind_turn before [] taken ended h = h
  behind_turn before (Faulted put ∷ more) taken ended h = (Appends-trans old mid put first (text (ended_lines before)) written h.0, h.1, h.2, h.3)
  behind_turn before (Gave put [] ∷ more) taken ended h = (Appends-trans old mid put first (text (ended_lines before)) written h.0, h.1, h.2, h.3)
  behind_turn before (Gave put (b ∷ bytes) ∷ more) taken ended h = (Appends-trans old mid put first (text (ended_lines before)) written h.0, behind_turn (before ++ b ∷ bytes) more taken ended h.1)

  pub told_behind : (takes : Option (List InputTake)) (taken : List ℕ) (ended : Bool) → CameInTurn text mid takes taken ended → CameInTurn (λ lines. first ++ text lines) old takes taken ended
  told_behind None taken ended h = tt
  told_behind (Some takes) taken ended h = behind_turn [] takes taken ended h
