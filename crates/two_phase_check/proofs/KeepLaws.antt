-- Where a packet keeps to a path from a place on, and how the classes come one after the other.
use Rattle.std.proofs.Common.{◌≡◌, ℕ, zero, suc, ◌+◌, ◌*◌, ◌/◌, ◌%◌, ◌<◌, Option, Some, None, List, [], ◌∷◌, length, replicate, sym, ◌∙◌, subst, ap, inl, inr, arith}
use Rattle.std.specs.Prelude.{IfSome}
use Rattle.std.proofs.lemmas.Bool.{cases_lt}
use Rattle.std.proofs.Math.Nat.{mul_assoc}
use Rattle.std.proofs.lemmas.Nat.{div-mul-add, mod-mul-add, mul-add-lt, div-add-mod', div_below, mod_below}
use Rattle.net_base.specs.Members.{IsIn}
use Rattle.net_base.specs.declared.ids.Place.{Place}
use Rattle.net_base.proofs.MemberLaws.{each_at}
use Rattle.path_walk.specs.declared.Outcome.TheVariants.{Go}
use Rattle.dest_classes.specs.Classes.{ClassList, class_count, atom_count}
use Rattle.certificates.specs.Updates.{Task}
use Rattle.two_phase_check.specs.Kept.{KeepsFrom, AreKept, outcome_on, StaysOn, number_at}
use Rattle.two_phase_check.specs.declared.keeping.Way.{Way}
use Rattle.two_phase_check.specs.declared.keeping.KeptPlace.{KeptPlace}

-- where a packet stays at a place, and keeps to the path from each next one on, it does from the place on
pub keeps_from : (t : Task) (k : ℕ) (way : Way) (place : Place) → StaysOn t k way place
    → ((next : Place) → outcome_on t way place ≡ Go next → KeepsFrom t k (record { way = way; place = next })) → KeepsFrom t k (record { way = way; place = place })
keeps_from t k way place here on there ([], walk, ends) found possible =
    subst (λ p. StaysOn t k way p) ends here found possible
keeps_from t k way place here on there (next ∷ rest, walk, ends) found possible = on next walk.0 there (rest, walk.1, ends) found possible

-- none is known
pub none_kept : (t : Task) (k n : ℕ) → AreKept t k (replicate n None)
none_kept t k zero = tt
none_kept t k (suc n) = (tt, none_kept t k n)

-- what is known is so
pub kept_at : (t : Task) (k : ℕ) (known : List (Option KeptPlace)) (kept : KeptPlace) → AreKept t k known → IsIn (Some kept) known → KeepsFrom t k kept
kept_at t k known kept all i = each_at (λ o. IfSome o (KeepsFrom t k)) known (Some kept) all i

-- ---- the order of the classes

module _ (ports each : ℕ) (some : 0 < ports) where
  -- so many classes of each port are so many of one VLAN and address each
  shares : (ports * each) / ports ≡ each
  shares = ap (λ n. n / ports) (let e : ports * each ≡ each * ports + 0 = omega arith in e) ∙ div-mul-add each ports 0 some

  pub at_below : (i : ℕ) → i < ports * each → number_at i ports (ports * each) < ports * each
  at_below i less =
      let row : i / ports < each = div_below i ports each some (let e : ports * each ≡ each * ports = omega arith in omega arith) in
      let fits = mul-add-lt (i % ports) each (i / ports) ports (mod_below i ports some) row in
      let same : number_at i ports (ports * each) ≡ i % ports * each + i / ports = ap (λ e. i % ports * e + i / ports) shares in
      omega arith

  -- each number comes at some place
  pub at_some : (n : ℕ) → n < ports * each → (i : ℕ) × (i < ports * each) × (number_at i ports (ports * each) ≡ n)
  at_some n less =
      let width : 0 < each = elim (cases_lt 0 each) [ inl h ↦ h | inr h ↦ (let none : each ≡ 0 = omega arith in let l : n < ports * 0 = subst (λ e. n < ports * e) none less in absurd (omega arith)) ] in
      let row : n / each < ports = div_below n each ports width less in
      let column : n % each < each = mod_below n each width in
      let i = n % each * ports + n / each in
      let fits : i < ports * each = mul-add-lt (n % each) ports (n / each) each column row in (
        i,
        fits,
        ap (λ e. i % ports * e + i / ports) shares ∙ ap (λ r. r * each + i / ports) (mod-mul-add (n % each) ports (n / each) row)
            ∙ ap (λ q. n / each * each + q) (div-mul-add (n % each) ports (n / each) row) ∙ div-add-mod' n each,
      )

module _ (classes : ClassList) (ports count : ℕ) (ports_are : ports ≡ length classes.hosts) (count_is : count ≡ class_count classes) where
  abbrev each_port : ℕ
  each_port = length classes.vlans * atom_count classes

  in_shares : count ≡ ports * each_port
  in_shares = count_is ∙ mul_assoc (length classes.hosts) (length classes.vlans) (atom_count classes) ∙ ap (λ p. p * each_port) (sym ports_are)

  pub some_port : (i : ℕ) → i < count → 0 < ports
  some_port i less =
      elim (cases_lt 0 ports) [
        | inl some ↦ some
        | inr none ↦ (let zero_is : ports ≡ 0 = omega arith in let e : count ≡ 0 * each_port = in_shares ∙ ap (λ p. p * each_port) zero_is in absurd (omega arith))
      ]

  -- each place has a class
  pub place_fits : (i : ℕ) → i < count → number_at i ports count < class_count classes
  place_fits i less =
      let fits = at_below ports each_port (some_port i less) i (subst (λ m. i < m) in_shares less) in
      subst (λ m. number_at i ports count < m) count_is (subst (λ m. number_at i ports m < m) (sym in_shares) fits)

  -- and each class a place
  pub place_of : (n : ℕ) → n < class_count classes → (i : ℕ) × (i < count) × (number_at i ports count ≡ n)
  place_of n less =
      let within : n < count = subst (λ m. n < m) (sym count_is) less in
      subst (λ m. (i : ℕ) × (i < m) × (number_at i ports m ≡ n)) (sym in_shares) (at_some ports each_port (some_port n within) n (subst (λ m. n < m) in_shares within))
