-- What the preparation of the switches one after the other says of their changes.
use Rattle.std.proofs.Common.{◌≡◌, ◌≢◌, ℕ, zero, suc, ◌+◌, ◌<◌, ◌≤◌, Bool, true, false, cond, List, [], ◌∷◌, length, take, get_or, refl, sym, ◌∙◌, subst, ap, inl, inr, arith}
use Rattle.std.specs.Prelude.{filter, slice_get, Option, Some, None, MatchOption, IsSomeAnd, unwrap_or}
use Rattle.std.proofs.lemmas.Bool.{cases_lt, cond-true}
use Rattle.net_base.specs.declared.ids.SwitchId.{SwitchId}
use Rattle.flow_rules.specs.Tables.{IsTable, TableState}
use Rattle.flow_rules.specs.declared.rules.Rule.{Rule}
use Rattle.update_model.specs.Mixtures.{entries_needed, is_insert}
use Rattle.update_model.specs.declared.Change.{Change}
use Rattle.round_mix.specs.Faults.{AreUnclear}
use Rattle.round_mix.specs.Prepared.{MixedState, AreGood, AreClear, IsPrepared}
use Rattle.round_mix.specs.declared.MarkedRule.{MarkedRule}
use Rattle.round_tables.specs.PreparedTables.{ChangesState, IsMixed, mix_at, list_at, is_touched, rules_there}
use Rattle.round_tables.specs.Loading.{AreAlone, AreMet, IsLoadedTo, IsUnclearAt}
use Rattle.round_tables.proofs.TableLaws.{switch_n}

pub filter_few : {A : Type 0} (p : A → Bool) (xs : List A) → length (filter p xs) ≤ length xs
filter_few p [] = omega arith
filter_few p (x ∷ xs) =
    let rest = filter_few p xs in
    elim (p x) as (λ b. length (cond b (x ∷ filter p xs) (filter p xs)) ≤ suc (length xs)) [ true ↦ omega arith | false ↦ omega arith ]

-- no more entries are needed than there are rules and changes
pub needed_few : (rules : List Rule) (changes : List Change) → entries_needed rules changes ≤ length rules + length changes
needed_few rules changes = let few = filter_few is_insert changes in omega arith

-- a member that passes stands in the filtered list behind those that pass before it
pub nth_place : {A : Type 0} (p : A → Bool) (xs : List A) (i : ℕ) (x : A) → i < length xs → x ≡ get_or xs i x → p x ≡ true
    → (slice_get xs i ≡ slice_get (filter p xs) (length (filter p (take i xs)))) × (filter p (take i xs) ≡ take (length (filter p (take i xs))) (filter p xs))
nth_place p [] i x less is passes = absurd (omega arith)
nth_place p (y ∷ xs) zero x less is passes =
    let here : p y ≡ true = subst (λ z. p z ≡ true) is passes in
    (sym (ap (λ zs. slice_get zs 0) (cond-true (p y) (y ∷ filter p xs) (filter p xs) here)), refl)
nth_place p (y ∷ xs) (suc i) x less is passes =
    let rest = nth_place p xs i x (omega arith) is passes in
    elim (p y) as (λ b. (slice_get xs i ≡ slice_get (cond b (y ∷ filter p xs) (filter p xs)) (length (cond b (y ∷ filter p (take i xs)) (filter p (take i xs)))))
    × (cond b (y ∷ filter p (take i xs)) (filter p (take i xs)) ≡ take (length (cond b (y ∷ filter p (take i xs)) (filter p (take i xs)))) (cond b (y ∷ filter p xs) (filter p xs)))) [
      | true ↦ (rest.0, ap (λ zs. y ∷ zs) rest.1)
      | false ↦ rest
    ]

mixed_good : (rules : List Rule) (changes : List Change) (mixed : MixedState) → IsMixed rules changes mixed → AreGood rules changes × AreClear rules changes
mixed_good rules changes mixed h = go mixed.prepared h
  where
    go : (o : Option (List MarkedRule)) → IsSomeAnd o (IsPrepared rules changes) → AreGood rules changes × AreClear rules changes
    go None h = absurd h
    go (Some marks) h = (h.good, h.clear)

pub good_mixed : (rules : List Rule) (changes : List Change) (mixed : MixedState) → IsMixed rules changes mixed → AreGood rules changes
good_mixed rules changes mixed h = (mixed_good rules changes mixed h).0

pub clear_mixed : (rules : List Rule) (changes : List Change) (mixed : MixedState) → IsMixed rules changes mixed → AreClear rules changes
clear_mixed rules changes mixed h = (mixed_good rules changes mixed h).1

module _ (tables : List TableState) (lists : List ChangesState) (s : SwitchId) (touched next : List Bool) (mixes new : List MixedState)
    (others : (t : SwitchId) → t.0 ≢ s.0 → mix_at new t ≡ mix_at mixes t) where
  -- behind one switch more each is prepared for its table alone
  pub alone_next : ((t : SwitchId) → t.0 ≢ s.0 → is_touched next t ≡ is_touched touched t) → AreAlone tables s.0 touched mixes → AreAlone tables (s.0 + 1) next new
  alone_next flags alone t more off =
      subst (λ (m : MixedState). IsMixed (rules_there tables t) [] m) (sym (others t (omega arith))) (alone t (omega arith) (sym (flags t (omega arith)) ∙ off))

  -- one more switch is good
  good_next : ((t : SwitchId) → t.0 < s.0 → AreGood (rules_there tables t) (list_at lists t).changes) → AreGood (rules_there tables s) (list_at lists s).changes
      → (t : SwitchId) → t.0 < s.0 + 1 → AreGood (rules_there tables t) (list_at lists t).changes
  good_next good here t less =
      elim (cases_lt t.0 s.0) [
        | inl below ↦ good t below
        | inr more ↦ (let e : s.0 ≡ t.0 = omega arith in subst (λ (n : ℕ). AreGood (rules_there tables (switch_n n)) (list_at lists (switch_n n)).changes) e here)
      ]

  -- the next switch is prepared
  pub loaded_next : (unclear : Option SwitchId) → IsLoadedTo tables lists s.0 mixes unclear
      → IsMixed (rules_there tables s) (list_at lists s).changes (mix_at new s) → IsLoadedTo tables lists (s.0 + 1) new unclear
  loaded_next unclear so_far here =
      record { good = good_next so_far.good (good_mixed (rules_there tables s) (list_at lists s).changes (mix_at new s) here); rest = rest unclear so_far.rest }
    where
      rest : (unclear : Option SwitchId) → MatchOption unclear (AreMet tables lists s.0 mixes) (λ a. (a.0 < s.0) × IsUnclearAt tables lists a)
          → MatchOption unclear (AreMet tables lists (s.0 + 1) new) (λ a. (a.0 < s.0 + 1) × IsUnclearAt tables lists a)
      rest None all = λ t less. elim (cases_lt t.0 s.0) [
        | inl below ↦ subst (λ (m : MixedState). IsMixed (rules_there tables t) (list_at lists t).changes m) (sym (others t (omega arith))) (all t below)
        | inr more ↦ (let e : s.0 ≡ t.0 = omega arith in
            subst (λ (n : ℕ). IsMixed (rules_there tables (switch_n n)) (list_at lists (switch_n n)).changes (mix_at new (switch_n n))) e here)
      ]
      rest (Some a) h = (omega (arith, h.0), h.1)

  -- the next switch is unclear
  pub loaded_unclear : (unclear : Option SwitchId) → IsLoadedTo tables lists s.0 mixes unclear → IsTable (rules_there tables s)
      → AreUnclear (rules_there tables s) (list_at lists s).changes → IsLoadedTo tables lists (s.0 + 1) new (Some (unwrap_or unclear s))
  loaded_unclear unclear so_far table here = record { good = good_next so_far.good here.good; rest = rest unclear so_far.rest }
    where
      rest : (unclear : Option SwitchId) → MatchOption unclear (AreMet tables lists s.0 mixes) (λ a. (a.0 < s.0) × IsUnclearAt tables lists a)
          → ((unwrap_or unclear s).0 < s.0 + 1) × IsUnclearAt tables lists (unwrap_or unclear s)
      rest None all = (
        omega arith,
        record {
          table = table;
          here = here;
          below = λ t less. clear_mixed (rules_there tables t) (list_at lists t).changes (mix_at mixes t) (all t less);
        },
      )
      rest (Some a) h = (omega (arith, h.0), h.1)
