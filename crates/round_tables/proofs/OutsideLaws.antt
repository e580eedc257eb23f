-- Changes at switches beyond the first n, one after the other.
use Rattle.std.proofs.Common.{◌≡◌, ℕ, suc, ◌+◌, ◌<◌, ◌≤◌, List, [], ◌∷◌, length, refl, sym, ◌∙◌, subst, ap, inl, inr, arith}
use Rattle.std.specs.Prelude.{Option, Some, None, IfSome, IfNone, slice_get}
use Rattle.std.proofs.lemmas.Bool.{cases_lt}
use Rattle.std.proofs.lemmas.Option.{slice_get_within, same_Some}
use Rattle.update_model.specs.Changes.{switch_of}
use Rattle.update_model.specs.declared.Change.{Change}
use Rattle.round_tables.specs.Loading.{AreSwitchesBelow, IsFirstOutside, IsLeastOutside, IsOutsideBelow, IsOutsideTo}

all_from_get : (n : ℕ) (round : List Change) → ((j : ℕ) (c : Change) → slice_get round j ≡ Some c → (switch_of c).0 < n) → AreSwitchesBelow n round
all_from_get n [] each = tt
all_from_get n (c ∷ round) each = (each 0 c refl, all_from_get n round (λ j d. each (suc j) d))

-- at last all are looked at
pub none_outside : (n : ℕ) (round : List Change) (i : ℕ) → length round ≤ i → (found : Option ℕ) → IsOutsideTo n round i found → IfNone found (AreSwitchesBelow n round)
none_outside n round i all None each = all_from_get n round (λ j c at. let less = slice_get_within round j c at in each j c (omega arith) at)
none_outside n round i all (Some m) least = tt

pub first_found : (n : ℕ) (round : List Change) (i : ℕ) → i ≡ length round → (found : Option ℕ) → IsOutsideTo n round i found → IfSome found (IsFirstOutside n round)
first_found n round i all None each = tt
first_found n round i all (Some m) least = subst (λ (l : ℕ). IsLeastOutside n round l m) all least

module _ (n : ℕ) (round : List Change) (i : ℕ) (c : Change) (at : slice_get round i ≡ Some c) where
  the_last : (j : ℕ) (d : Change) → j < i + 1 → ¬ (j < i) → slice_get round j ≡ Some d → c ≡ d
  the_last j d less past at_d = let e : i ≡ j = omega arith in same_Some c d (sym at ∙ ap (slice_get round) e ∙ at_d)

  -- one more that isn't beyond them, or at no lower switch
  pub outside_same : (found : Option ℕ) → IsOutsideTo n round i found → ¬ IsOutsideBelow n round found c → IsOutsideTo n round (i + 1) found
  outside_same None each not_below = λ j d less at_d. elim (cases_lt j i) [
    | inl earlier ↦ each j d earlier at_d
    | inr past ↦ elim (cases_lt (switch_of d).0 n) [
      | inl within ↦ within
      | inr outside ↦ absurd (not_below (let same = ap (λ (x : Change). (switch_of x).0) (the_last j d less (λ h. omega arith) at_d) in (omega arith, tt)))
    ]
  ]
  outside_same (Some m) least not_below = record {
    change = least.change;
    within = let h = least.within in omega arith;
    is = least.is;
    outside = least.outside;
    first = λ j other less at_d outside. elim (cases_lt j i) [
      | inl earlier ↦ least.first j other earlier at_d outside
      | inr past ↦ elim (cases_lt (switch_of other).0 (switch_of least.change).0) [
        | inl lower ↦ absurd (not_below (
            let same = ap (λ (x : Change). (switch_of x).0) (the_last j other less (λ h. omega arith) at_d) in (
              omega arith,
              λ d at_m. (let e = ap (λ (x : Change). (switch_of x).0) (same_Some d least.change (sym at_m ∙ least.is)) in omega arith),
            )))
        | inr high ↦ elim (cases_lt (switch_of least.change).0 (switch_of other).0) [
          | inl higher ↦ inl higher
          | inr level ↦ inr (omega arith, let h = least.within in omega arith)
        ]
      ]
    ];
  }

  -- one more that takes the place of what was found
  pub outside_next : (found : Option ℕ) → IsOutsideTo n round i found → IsOutsideBelow n round found c → IsOutsideTo n round (i + 1) (Some i)
  outside_next found so_far below = record {
    change = c;
    within = omega arith;
    is = at;
    outside = below.0;
    first = λ j other less at_d outside. elim (cases_lt j i) [
      | inl earlier ↦ inl (higher found so_far below.1 j other earlier at_d outside)
      | inr past ↦ (let same = ap (λ (x : Change). (switch_of x).0) (the_last j other less (λ h. omega arith) at_d) in inr (same, omega arith))
    ];
  }
    where
      higher : (found : Option ℕ) → IsOutsideTo n round i found → IfSome found (λ m. (d : Change) → slice_get round m ≡ Some d → (switch_of c).0 < (switch_of d).0)
          → (j : ℕ) (other : Change) → j < i → slice_get round j ≡ Some other → n ≤ (switch_of other).0 → (switch_of c).0 < (switch_of other).0
      higher None each lower j other earlier at_d outside = absurd (let h = each j other earlier at_d in omega arith)
      higher (Some m) least lower j other earlier at_d outside =
          let mine = lower least.change least.is in
          elim (least.first j other earlier at_d outside) [ inl more ↦ omega arith | inr same ↦ (let e = same.0 in omega arith) ]
