-- The label table in force is that of the last pick that has begun.
use Rattle.std.proofs.Common.{◌≡◌, ℕ, zero, suc, ◌+◌, ◌-◌, ◌<◌, ◌≤◌, get_or, Option, Some, None, List, [], ◌∷◌, length, sym, ◌∙◌, subst, ap, inl, inr, arith}
use Rattle.std.specs.Prelude.{slice_get}
use Rattle.std.proofs.lemmas.Bool.{cases_lt}
use Rattle.std.proofs.lemmas.Option.{none-some, same_Some, slice_get-get_or, slice_get_within}
use Rattle.net_base.specs.Members.{IsIn}
use Rattle.topology.specs.Networks.{Network}
use Rattle.net_base.proofs.ItemLaws.{in_from_get, get_from_in}
use Rattle.certificates.specs.Valid.{IsChain}
use Rattle.certificates.specs.TwoPhase.{IsLabelPickInForce}
use Rattle.certificates.specs.declared.LabelPick.{LabelPick}
use Rattle.certificates.specs.declared.TwoPhaseEvidence.{TwoPhaseEvidence}
use Rattle.two_phase_check.specs.InForce.{AreBegun, IsTableOf, IsTableAfter, IsTableInForceAt}

-- rounds of picks rise
abbrev pub Rise : List LabelPick → Type 0
Rise picks = IsChain (λ (p q : LabelPick). p.round < q.round) picks

first_below : (x : LabelPick) (xs : List LabelPick) → Rise (x ∷ xs) → (j : ℕ) (q : LabelPick) → slice_get xs j ≡ Some q → x.round < q.round
first_below x [] rise j q at = absurd (none-some q at)
first_below x (y ∷ ys) rise zero q at = let e = same_Some y q at in subst (λ (p : LabelPick). x.round < p.round) e rise.0
first_below x (y ∷ ys) rise (suc j) q at = let rest = first_below y ys rise.1 j q at in let here = rise.0 in omega arith

rest_rises : (x : LabelPick) (xs : List LabelPick) → Rise (x ∷ xs) → Rise xs
rest_rises x [] rise = tt
rest_rises x (y ∷ ys) rise = rise.1

pub earlier_below : (picks : List LabelPick) → Rise picks → (i j : ℕ) (p q : LabelPick) → slice_get picks i ≡ Some p → slice_get picks j ≡ Some q → i < j → p.round < q.round
earlier_below [] rise i j p q here there lt = absurd (none-some p here)
earlier_below (x ∷ xs) rise i zero p q here there lt = absurd (omega arith)
earlier_below (x ∷ xs) rise zero (suc j) p q here there lt = let e = same_Some x p here in subst (λ (y : LabelPick). y.round < q.round) e (first_below x xs rise j q there)
earlier_below (x ∷ xs) rise (suc i) (suc j) p q here there lt = earlier_below xs (rest_rises x xs rise) i j p q here there (omega arith)

same_place : (picks : List LabelPick) (i j : ℕ) (p q : LabelPick) → slice_get picks i ≡ Some p → slice_get picks j ≡ Some q → i ≡ j → p ≡ q
same_place picks i j p q here there e = same_Some p q (sym here ∙ ap (slice_get picks) e ∙ there)

-- picks below a place that have begun
abbrev pub HaveBegun : List LabelPick → ℕ → ℕ → Type 0
HaveBegun picks round n = (i : ℕ) (pick : LabelPick) → slice_get picks i ≡ Some pick → i < n → pick.round ≤ round

module _ (picks : List LabelPick) (round i : ℕ) (d : LabelPick) (within : i < length picks) where
  pub begun_more : (get_or picks i d).round ≤ round → HaveBegun picks round i → HaveBegun picks round (i + 1)
  begun_more here so_far j pick at lt =
      elim (cases_lt j i) [
        | inl before ↦ so_far j pick at before
        | inr ge ↦ (
            let e : i ≡ j = omega arith in
            let same = same_place picks i j (get_or picks i d) pick (slice_get-get_or picks i d within) at e in
            subst (λ (p : LabelPick). p.round ≤ round) same here)
      ]

  pub begun_until : Rise picks → round < (get_or picks i d).round → HaveBegun picks round i → AreBegun picks round i
  begun_until rise here so_far = record {
    within = omega arith;
    begun = so_far;
    later = λ j pick at ge.
        elim (cases_lt i j) [
          | inl after ↦ (let lt = earlier_below picks rise i j (get_or picks i d) pick (slice_get-get_or picks i d within) at after in omega arith)
          | inr le ↦ (
              let e : i ≡ j = omega arith in
              let same = same_place picks i j (get_or picks i d) pick (slice_get-get_or picks i d within) at e in
              subst (λ (p : LabelPick). round < p.round) same here)
        ];
  }

-- where each has begun
pub begun_all : (picks : List LabelPick) (round n : ℕ) → length picks ≤ n → HaveBegun picks round n → AreBegun picks round (length picks)
begun_all picks round n past so_far = record {
  within = omega arith;
  begun = λ i pick at lt. so_far i pick at (omega arith);
  later = λ i pick at ge. absurd (let within = slice_get_within picks i pick at in omega arith);
}

module _ (picks : List LabelPick) (rise : Rise picks) (round b : ℕ) (begun : AreBegun picks round (suc b)) (pick : LabelPick) (at : slice_get picks b ≡ Some pick) where
  not_after : (other : LabelPick) → IsIn other picks → other.round ≤ round → other.round ≤ pick.round
  not_after other i lt =
      let (j, there) = get_from_in picks other i in
      elim (cases_lt j b) [
        | inl before ↦ (let less = earlier_below picks rise j b other pick there at before in omega arith)
        | inr ge ↦ elim (cases_lt b j) [
          | inl after ↦ absurd (let more = begun.later j other there (omega arith) in omega arith)
          | inr le ↦ (let e : j ≡ b = omega arith in let same = same_place picks j b other pick there at e in let rounds = ap (λ (p : LabelPick). p.round) same in omega arith)
        ]
      ]

  -- the last pick that has begun is in force
  last_in_force : IsLabelPickInForce picks round pick
  last_in_force = record { stands = in_from_get picks b pick at; begun = begun.begun b pick at (omega arith); latest = not_after }

  -- and no other is
  only_last : (other : LabelPick) → IsLabelPickInForce picks round other → other ≡ pick
  only_last other force =
      let (j, there) = get_from_in picks other force.stands in
      let le : pick.round ≤ other.round = force.latest pick (in_from_get picks b pick at) (begun.begun b pick at (omega arith)) in
      elim (cases_lt j b) [
        | inl before ↦ absurd (let less = earlier_below picks rise j b other pick there at before in omega arith)
        | inr ge ↦ elim (cases_lt b j) [
          | inl after ↦ absurd (let more = begun.later j other there (omega arith) in let some = force.begun in omega arith)
          | inr same ↦ (let e : j ≡ b = omega arith in same_place picks j b other pick there at e)
        ]
      ]

-- the table of the last pick that has begun is the one in force
pub table_in_force : (net : Network) (e : TwoPhaseEvidence) (round n : ℕ) (table : Option ℕ) → Rise e.picks → AreBegun e.picks round n → IsTableAfter net e n table → IsTableInForceAt net e round table
table_in_force net e round zero table rise begun is =
    subst (IsTableInForceAt net e round) (sym is)
    (λ labels good.
    let (j, there) = get_from_in e.picks good.pick good.in_force.stands in
    let more = begun.later j good.pick there (omega arith) in
    let some = good.in_force.begun in
    omega arith)
table_in_force net e round (suc b) None rise begun (pick, at, none) =
    λ labels good.
    let same = only_last e.picks rise round b begun pick at good.pick good.in_force in
    none labels (subst (λ (p : LabelPick). slice_get e.labels p.labels ≡ Some labels) same good.is) good.declared
table_in_force net e round (suc b) (Some n) rise begun (pick, at, (same, (labels, is, declared))) = (
  labels,
  is,
  record {
    pick = pick;
    in_force = last_in_force e.picks rise round b begun pick at;
    is = subst (λ m. slice_get e.labels m ≡ Some labels) same is;
    declared = declared;
  },
)

-- the table of the last of some picks
pub table_after : (net : Network) (e : TwoPhaseEvidence) (n : ℕ) (d : LabelPick) (table : Option ℕ) → 0 < n → n ≤ length e.picks → IsTableOf net e (get_or e.picks (n - 1) d) table → IsTableAfter net e n table
table_after net e zero d table some within is = absurd (omega arith)
table_after net e (suc b) d table some within is =
    let last : suc b - 1 ≡ b = omega arith in
    (get_or e.picks b d, slice_get-get_or e.picks b d (omega arith), subst (λ m. IsTableOf net e (get_or e.picks m d) table) last is)
