-- Room in what is prepared of the switches.
use Rattle.std.proofs.Common.{◌≡◌, ◌≢◌, ℕ, ◌≤◌, List, [], ◌∷◌, ◌++◌, zero, suc, get_or, length, sym, subst, inl, inr, arith}
use Rattle.std.specs.Prelude.{None}
use Rattle.std.proofs.lemmas.Bool.{cases_eq}
use Rattle.net_base.specs.declared.ids.SwitchId.{SwitchId}
use Rattle.round_mix.specs.Prepared.{MixedState}
use Rattle.round_tables.specs.PreparedTables.{limit_at, mix_at}
use Rattle.round_tables.specs.Trials.{HaveRoom}

-- what is at no switch
abbrev none_there : MixedState
none_there = record { prepared = None; room = 0; aimed = None }

-- where one of them is prepared anew, with no less room
pub have_kept : (rooms : List ℕ) (mixes new : List MixedState) (s : SwitchId) → HaveRoom rooms mixes → ((o : SwitchId) → o.0 ≢ s.0 → mix_at new o ≡ mix_at mixes o)
    → (mix_at mixes s).room ≤ (mix_at new s).room → HaveRoom rooms new
have_kept rooms mixes new s had others more o =
    elim (cases_eq s.0 o.0) [
      | inl e ↦ subst (λ (n : ℕ). limit_at rooms (record { 0 = n }) ≤ (mix_at new (record { 0 = n })).room) e (let h = had s in omega arith)
      | inr ne ↦ subst (λ (m : MixedState). limit_at rooms o ≤ m.room) (sym (others o (λ e. ne (sym e)))) (had o)
    ]

-- where one more is there
pub have_pushed : (rooms : List ℕ) (mixes : List MixedState) (room : ℕ) (mixed : MixedState) → length rooms ≡ length mixes → HaveRoom rooms mixes → room ≤ mixed.room
    → HaveRoom (rooms ++ room ∷ []) (mixes ++ mixed ∷ [])
have_pushed rooms mixes room mixed count had more s = go rooms mixes count (λ i. had (record { 0 = i })) s.0
  where
    go : (rs : List ℕ) (ms : List MixedState) → length rs ≡ length ms → ((i : ℕ) → get_or rs i 0 ≤ (get_or ms i none_there).room) → (i : ℕ)
        → get_or (rs ++ room ∷ []) i 0 ≤ (get_or (ms ++ mixed ∷ []) i none_there).room
    go [] [] same each zero = more
    go [] [] same each (suc i) = omega arith
    go [] (m ∷ ms) same each i = absurd (omega arith)
    go (r ∷ rs) [] same each i = absurd (omega arith)
    go (r ∷ rs) (m ∷ ms) same each zero = each zero
    go (r ∷ rs) (m ∷ ms) same each (suc i) = go rs ms (omega arith) (λ j. each (suc j)) i
