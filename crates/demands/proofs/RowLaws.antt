-- The duties of a class from one demand more, and rows in the order of the classes.
use Rattle.std.proofs.Common.{subst, ◌≡◌, ℕ, zero, suc, ◌+◌, ◌<◌, ◌≤◌, true, false, cond, List, [], ◌∷◌, ◌++◌, map, length, get_or, drop, refl, sym, ◌∙◌, ap, arith, drop-cons, inl, inr}
use Rattle.std.specs.Prelude.{◌&&◌, ◌||◌, slice_get, None, Some}
use Rattle.std.specs.List.{AllByRecursion, list_any}
use Rattle.std.proofs.lemmas.Bool.{cond_both}
use Rattle.std.proofs.lemmas.Option.{same_Some, slice_get_read, get_or_from_slice_get}
use Rattle.net_base.specs.Blocks.{Block, in_block}
use Rattle.net_base.specs.Members.{IsIn}
use Rattle.net_base.specs.declared.ids.Place.{Place}
use Rattle.net_base.specs.declared.ids.SwitchId.{SwitchId}
use Rattle.net_base.proofs.MemberLaws.{each_at, each_weaker}
use Rattle.dest_classes.specs.Classes.{ClassList, IsClass, class_count}
use Rattle.dest_classes.specs.declared.Class.{Class}
use Rattle.demands.specs.Duties.{DemandView, PacketDuties, ClassDuties, first_of_each, chain_lt, with_chain, ascending_chains, duties_of, demands_on, demand_covers}
use Rattle.demands.specs.OfClass.{AreCovered, AreStored, HasDutiesOfEachAddress}
use Rattle.demands.proofs.DutyLaws.{duties_same}

module _ (entry : Place) (dst : ℕ) where
  -- the chains with the demand before the rest
  pub chains_more : (demands : List DemandView) (n : ℕ) (d : DemandView) (chains : List (List SwitchId)) → n < length demands → d ≡ get_or demands n d
      → chains ≡ (duties_of (drop (suc n) demands) entry dst).chains
      → cond (demand_covers d entry dst) (with_chain (first_of_each d.through) chains) chains ≡ (duties_of (drop n demands) entry dst).chains
  chains_more demands n d chains lt at made =
      let split : drop n demands ≡ d ∷ drop (suc n) demands = drop-cons demands n d lt ∙ ap (λ y. y ∷ drop (suc n) demands) (sym at) in
      let rest = demands_on (drop (suc n) demands) entry dst in
      ap (λ cs. cond (demand_covers d entry dst) (with_chain (first_of_each d.through) cs) cs) made
      ∙ elim (demand_covers d entry dst) as (λ b. cond b (with_chain (first_of_each d.through) (ascending_chains (map (λ e. first_of_each e.through) rest))) (ascending_chains (map (λ e. first_of_each e.through) rest)) ≡ ascending_chains (map (λ e. first_of_each e.through) (cond b (d ∷ rest) rest))) [
        | true ↦ refl
        | false ↦ refl
      ]
      ∙ ap (λ ds. (duties_of ds entry dst).chains) (sym split)

  -- whether one of the demands that cover says so
  pub arrive_is : (demands : List DemandView) → list_any (λ d. demand_covers d entry dst && d.deliver) demands ≡ (duties_of demands entry dst).arrive
  arrive_is [] = refl
  arrive_is (d ∷ demands) =
      ap (λ b. (demand_covers d entry dst && d.deliver) || b) (arrive_is demands)
      ∙ elim (demand_covers d entry dst) as (λ b. ((b && d.deliver) || list_any (λ e. e.deliver) (demands_on demands entry dst)) ≡ list_any (λ e. e.deliver) (cond b (d ∷ demands_on demands entry dst) (demands_on demands entry dst))) [
        | true ↦ refl
        | false ↦ refl
      ]

  -- chains are no more than demands
  pub few_chains : (demands : List DemandView) → length (duties_of demands entry dst).chains ≤ length demands
  few_chains [] = omega arith
  few_chains (d ∷ demands) =
      let rest = few_chains demands in
      let one = one_more (first_of_each d.through) (ascending_chains (map (λ e. first_of_each e.through) (demands_on demands entry dst))) in
      elim (demand_covers d entry dst) as (λ b. length (ascending_chains (map (λ e. first_of_each e.through) (cond b (d ∷ demands_on demands entry dst) (demands_on demands entry dst)))) ≤ suc (length demands)) [
        | true ↦ omega arith
        | false ↦ omega arith
      ]
    where
      one_more : (c : List SwitchId) (cs : List (List SwitchId)) → length (with_chain c cs) ≤ suc (length cs)
      one_more [] cs = omega arith
      one_more (s ∷ ss) [] = omega arith
      one_more (s ∷ ss) (c ∷ cs) =
          let rest = one_more (s ∷ ss) cs in
          cond_both (chain_lt (s ∷ ss) c) ((s ∷ ss) ∷ c ∷ cs) (cond (chain_lt c (s ∷ ss)) (c ∷ with_chain (s ∷ ss) cs) (c ∷ cs)) (λ xs. length xs ≤ suc (suc (length cs))) (λ _. omega arith)
          (λ _. cond_both (chain_lt c (s ∷ ss)) (c ∷ with_chain (s ∷ ss) cs) (c ∷ cs) (λ xs. length xs ≤ suc (suc (length cs))) (λ _. omega arith) (λ _. omega arith))

pub get_before : {A : Type 0} (xs : List A) (x : A) (k : ℕ) → k < length xs → slice_get (xs ++ x ∷ []) k ≡ slice_get xs k
get_before [] x k lt = absurd (omega arith)
get_before (y ∷ xs) x zero lt = refl
get_before (y ∷ xs) x (suc k) lt = get_before xs x k (omega arith)

pub get_last : {A : Type 0} (xs : List A) (x : A) (k : ℕ) → k ≡ length xs → slice_get (xs ++ x ∷ []) k ≡ Some x
get_last [] x zero e = refl
get_last [] x (suc k) e = absurd (omega arith)
get_last (y ∷ xs) x zero e = absurd (omega arith)
get_last (y ∷ xs) x (suc k) e = get_last xs x k (omega arith)

-- where the map's prefixes hold those of the demands, each address of a class has the duties of its first one
pub each_address : (d : ClassDuties) (n : ℕ) → AreCovered d.demands d.classes → HasDutiesOfEachAddress d n
each_address d n covered class is dst same =
    duties_same d.demands class.entry dst class.first
    (each_weaker (λ (x : DemandView). IsIn x.dst d.classes.prefixes) (λ x. in_block x.dst dst ≡ in_block x.dst class.first)
    (λ x i. sym (each_at (λ block. in_block block class.first ≡ in_block block dst) d.classes.prefixes x.dst same i)) d.demands covered)

-- the number of a class is that of a row with its duties
pub row_at : (demands : List DemandView) (classes : ClassList) (rows : List PacketDuties) (numbers : List ℕ) → AreStored demands classes rows numbers → (n : ℕ) → n < class_count classes
    → (i : ℕ) → i ≡ get_or numbers n i → (class : Class) → IsClass classes n class → slice_get rows i ≡ Some (duties_of demands class.entry class.first)
row_at demands classes rows numbers stored n lt i at class is =
    let (j, at_n, has) = stored.in_order n class is in
    let same : i ≡ j = same_Some i j (sym (slice_get_read numbers (class_count classes) n i (sym stored.count) lt at) ∙ at_n) in
    subst (λ m. slice_get rows m ≡ Some (duties_of demands class.entry class.first)) (sym same) has

-- what is read of a row
pub row_is : (rows : List PacketDuties) (i : ℕ) (duties row : PacketDuties) → slice_get rows i ≡ Some duties → row ≡ get_or rows i row → row ≡ duties
row_is rows i duties row has at = at ∙ get_or_from_slice_get rows i duties row has

-- a row stands behind more rows
pub get_still : {A : Type 0} (xs : List A) (x y : A) (k : ℕ) → slice_get xs k ≡ Some y → slice_get (xs ++ x ∷ []) k ≡ Some y
get_still [] x y k e = absurd (let f : None ≡ Some y = e in cc)
get_still (z ∷ xs) x y zero e = e
get_still (z ∷ xs) x y (suc k) e = get_still xs x y k e

pub length_push : {A : Type 0} (xs : List A) (x : A) → length (xs ++ x ∷ []) ≡ length xs + 1
length_push [] x = refl
length_push (y ∷ xs) x = let h = length_push xs x in omega arith

-- the prefix of each demand stands where all of them stand
pub each_there : (demands : List DemandView) (blocks : List Block) → ((b : Block) → IsIn b (map (λ (d : DemandView). d.dst) demands) → IsIn b blocks) → AllByRecursion (λ d. IsIn d.dst blocks) demands
each_there [] blocks there = tt
each_there (d ∷ demands) blocks there = (there d.dst (inl refl), each_there demands blocks (λ b i. there b (inr i)))

-- the prefix of each demand is one of the prefixes of the demands
pub covered_by : (demands : List DemandView) (blocks : List Block) → blocks ≡ map (λ (d : DemandView). d.dst) demands → AllByRecursion (λ (d : DemandView). IsIn d.dst blocks) demands
covered_by demands blocks e = each_there demands blocks (λ b i. subst (IsIn b) (sym e) i)
