-- Labels in order: a list with distinct VLANs that is sorted by them is the definition's.
use Rattle.std.proofs.Common.{◌≡◌, ◌⊎◌, ℕ, zero, suc, ◌+◌, ◌<◌, ◌≤◌, Bool, false, List, [], ◌∷◌, ◌++◌, map, length, get_or, take, refl, sym, ◌∙◌, subst, ap, inl, inr, arith, add-one, take-suc}
use Rattle.std.specs.Prelude.{nat_lt, ◌==◌, flat_map, slice_get, Some}
use Rattle.std.specs.List.{AllByRecursion, IsDistinct as IsApart}
use Rattle.std.specs.List.Sorted.{IsPermutation, IsNonDecreasingBy}
use Rattle.std.proofs.lemmas.Bool.{cond_both, ltb-true, ltb-false, eq-eqb, both_ways}
use Rattle.std.proofs.lemmas.Bool.Decides.{eqb_tells}
use Rattle.std.proofs.lemmas.Option.{same_Some}
use Rattle.std.proofs.lemmas.Grind.{flat_map-append}
use Rattle.std.proofs.lemmas.List.Elements.{recursion_from_All}
use Rattle.std.proofs.lemmas.List.Sorted.{IsPermutation-sym, IsPermutation-map}
use Rattle.std.proofs.lemmas.Map.Keys.{IsDistinct-IsPermutation}
use Rattle.net_base.specs.Members.{IsIn, IsDistinct, IsSameSet}
use Rattle.net_base.proofs.MemberLaws.{each_at, each_from_in, each_weaker, in_map, in_from_map, in_permutation}
use Rattle.net_base.proofs.ListLaws.{distinct_flat_map}
use Rattle.net_base.specs.declared.ids.Vlan.{Vlan}
use Rattle.net_base.specs.declared.ids.Vlan.TheVariants as vlan
use Rattle.topology.specs.Networks.{Network}
use Rattle.certificates.specs.declared.Label.{Label}
use Rattle.tag_allocator.specs.Tags.{Tagged, tags_paired, tags_of, available_tags}
use Rattle.two_phase.specs.TwoPhasePlan.{vlan_number, with_label, labels_in_order, label_table}
use Rattle.two_phase.proofs.TagLaws.{IsTagging}
use Rattle.two_phase.proofs.LabelLaws.{in_labels, from_labels, from_with_label, both_of}
use Rattle.net_base.proofs.ItemLaws.{in_at}
use Rattle.two_phase.proofs.MadeLaws.{paired_length}

abbrev pub number_of : Label → ℕ
number_of l = vlan_number l.vlan

-- each label stands before all behind it
abbrev pub Ascend : List Label → Type 0
Ascend [] = Unit {0}
Ascend (l ∷ ls) = AllByRecursion (λ m. number_of l < number_of m) ls × Ascend ls

ascend_with : (l : Label) (ls : List Label) → Ascend ls → ¬ IsIn (number_of l) (map number_of ls) → Ascend (with_label l ls)
ascend_with l [] up new = (tt, tt)
ascend_with l (m ∷ ls) up new =
    cond_both (nat_lt (number_of l) (number_of m)) (l ∷ m ∷ ls) (m ∷ with_label l ls) Ascend
    (λ e. let lt = ltb-true (number_of l) (number_of m) e in ((lt, each_weaker (λ x. number_of m < number_of x) (λ x. number_of l < number_of x) (λ x more. omega arith) ls up.0), up))
    (λ e.
    let le = ltb-false (number_of l) (number_of m) e in
    let ne : ¬ (number_of l ≡ number_of m) = λ f. new (inl f) in
    let lt : number_of m < number_of l = omega arith in (
      each_from_in (λ x. number_of m < number_of x) (with_label l ls) (λ x i. elim (from_with_label l x ls i) [
        | inl f ↦ (let g = ap number_of f in omega arith)
        | inr j ↦ each_at (λ y. number_of m < number_of y) ls x up.0 j
      ]),
      ascend_with l ls up.1 (λ i. new (inr i)),
    ))

-- labels of different VLANs in order ascend
pub ascend_in_order : (ls : List Label) → IsDistinct (map number_of ls) → Ascend (labels_in_order ls)
ascend_in_order [] distinct = tt
ascend_in_order (l ∷ ls) distinct = ascend_with l (labels_in_order ls) (ascend_in_order ls distinct.1) (λ i. distinct.0 (kept l ls i))
  where
    kept : (l : Label) (ls : List Label) → IsIn (number_of l) (map number_of (labels_in_order ls)) → IsIn (number_of l) (map number_of ls)
    kept l ls i = let (m, j, e) = in_from_map number_of (number_of l) (labels_in_order ls) i in subst (λ n. IsIn n (map number_of ls)) (sym e) (in_map number_of m ls (from_labels m ls j))

none_below : (l : Label) (ls : List Label) → AllByRecursion (λ m. number_of l < number_of m) ls → IsIn l ls → ⊥
none_below l ls up i = let lt = each_at (λ m. number_of l < number_of m) ls l up i in omega arith

-- lists that ascend and have the same labels are one
pub same_ascent : (xs ys : List Label) → Ascend xs → Ascend ys → IsSameSet xs ys → xs ≡ ys
same_ascent [] [] h k same = refl
same_ascent [] (y ∷ ys) h k same = absurd ((same y).1 (inl refl))
same_ascent (x ∷ xs) [] h k same = absurd ((same x).0 (inl refl))
same_ascent (x ∷ xs) (y ∷ ys) h k same =
    let e : x ≡ y = elim ((same x).0 (inl refl)) [
      | inl e ↦ e
      | inr i ↦ elim ((same y).1 (inl refl)) [
        | inl f ↦ sym f
        | inr j ↦ (let a = each_at (λ z. number_of y < number_of z) ys x k.0 i in let b = each_at (λ z. number_of x < number_of z) xs y h.0 j in absurd (omega arith))
      ]
    ] in
    let rest : IsSameSet xs ys = λ z. (
      λ i. elim ((same z).0 (inr i)) [ inl f ↦ absurd (none_below x xs h.0 (subst (λ w. IsIn w xs) (f ∙ sym e) i)) | inr j ↦ j ],
      λ i. elim ((same z).1 (inr i)) [ inl f ↦ absurd (none_below y ys k.0 (subst (λ w. IsIn w ys) (f ∙ e) i)) | inr j ↦ j ],
    ) in
    ap (λ (z : Label). z ∷ xs) e ∙ ap (λ (zs : List Label). y ∷ zs) (same_ascent xs ys h.1 k.1 rest)

-- numbers that are distinct stay so when they change places
apart_from_distinct : (ns : List ℕ) → IsDistinct ns → IsApart (λ a b. a == b) ns
unfolding IsApart
apart_from_distinct [] distinct = tt
apart_from_distinct (n ∷ ns) distinct = (
  each_from_in (λ m. (n == m) ≡ false) ns (λ m i. differ n m (λ e. distinct.0 (subst (λ k. IsIn k ns) (sym e) i))),
  apart_from_distinct ns distinct.1,
)
  where
    differ : (n m : ℕ) → ¬ (n ≡ m) → (n == m) ≡ false
    differ n m ne = elim (eqb_tells n m) [ inl h ↦ absurd (ne h.1) | inr h ↦ h.0 ]

distinct_from_apart : (ns : List ℕ) → IsApart (λ a b. a == b) ns → IsDistinct ns
unfolding IsApart
distinct_from_apart [] apart = tt
distinct_from_apart (n ∷ ns) apart = (
  λ i. both_ways (n == n) (each_at (λ m. (n == m) ≡ false) ns n apart.0 i) (eq-eqb n n refl),
  distinct_from_apart ns apart.1,
)

same_test : (a b : ℕ) → (a == b) ≡ (b == a)
same_test a b = grind arith

distinct_moved : (ms ns : List ℕ) → IsPermutation ms ns → IsDistinct ms → IsDistinct ns
distinct_moved ms ns moved distinct = distinct_from_apart ns (IsDistinct-IsPermutation (λ a b. a == b) same_test ms ns moved (apart_from_distinct ms distinct))

-- what is sorted and has no VLAN twice ascends
ascend_sorted : (ls : List Label) → IsNonDecreasingBy number_of ls → IsDistinct (map number_of ls) → Ascend ls
ascend_sorted [] sorted distinct = tt
ascend_sorted (l ∷ ls) sorted distinct = (
  recursion_from_All (λ m. number_of l < number_of m) ls (λ k d within. after k d within),
  ascend_sorted ls (λ i j d le within. sorted (suc i) (suc j) d (omega arith) (omega arith)) distinct.1,
)
  where
    after : (k : ℕ) (d : Label) → k < length ls → number_of l < number_of (get_or ls k d)
    after k d within =
        let le = sorted zero (suc k) d (omega arith) (omega arith) in
        let ne : ¬ (number_of l ≡ number_of (get_or ls k d)) = λ e. distinct.0 (subst (λ n. IsIn n (map number_of ls)) (sym e) (in_map number_of (get_or ls k d) ls (in_at ls k d within))) in
        omega arith

-- labels of different VLANs, sorted by them, are the definition's list
pub sorted_is : (xs ys : List Label) → IsDistinct (map number_of xs) → IsPermutation xs ys → IsNonDecreasingBy number_of ys → ys ≡ labels_in_order xs
sorted_is xs ys distinct moved sorted =
    same_ascent ys (labels_in_order xs) (ascend_sorted ys sorted (distinct_moved (map number_of xs) (map number_of ys) (IsPermutation-map number_of xs ys moved) distinct)) (ascend_in_order xs distinct)
    (λ l. (
      λ i. in_labels l xs (in_permutation xs ys l moved i),
      λ i. in_permutation ys xs l (IsPermutation-sym xs ys moved) (from_labels l xs i),
    ))

-- a VLAN is told by its place
told_vlan : (v w : Vlan) → vlan_number v ≡ vlan_number w → v ≡ w
told_vlan vlan.Untagged vlan.Untagged e = refl
told_vlan vlan.Untagged (vlan.Id n) e = absurd (omega arith)
told_vlan (vlan.Id m) vlan.Untagged e = absurd (omega arith)
told_vlan (vlan.Id m) (vlan.Id n) e = ap vlan.Id (let f : m ≡ n = omega arith in f)

module _ (net : Network) (version : Bool) (tags : IsTagging net) where
  -- no VLAN is labelled twice
  pub labels_distinct : IsDistinct (map number_of (flat_map (both_of net version) (tags_of net)))
  labels_distinct =
      distinct_flat_map number_of (both_of net version) (tags_of net) tags.distinct
      (λ v i. (λ j. elim j [ inl e ↦ own v i (told_vlan v.user (vlan.Id v.tag) e) | inr k ↦ k ], (λ k. k, tt)))
      (λ v w a b i j k l e. told v w a b i j (vlan_of v a k) (vlan_of w b l) (told_vlan a.vlan b.vlan e))
    where
      own : (v : Tagged) → IsIn v (tags_of net) → v.user ≡ vlan.Id v.tag → ⊥
      own v i e = tags.undeclared v i (subst (λ u. IsIn u net.vlans) e (tags.declared v i))

      vlan_of : (v : Tagged) (a : Label) → IsIn a (both_of net version v) → (a.vlan ≡ v.user) ⊎ (a.vlan ≡ vlan.Id v.tag)
      vlan_of v a (inl e) = inl (ap (λ l. l.vlan) e)
      vlan_of v a (inr (inl e)) = inr (ap (λ l. l.vlan) e)
      vlan_of v a (inr (inr k)) = absurd k

      same_id : (v w : Tagged) → IsIn v (tags_of net) → IsIn w (tags_of net) → vlan.Id v.tag ≡ vlan.Id w.tag → v ≡ w
      same_id v w i j e = tags.by_tag v w i j cc

      told : (v w : Tagged) (a b : Label) → IsIn v (tags_of net) → IsIn w (tags_of net) → (a.vlan ≡ v.user) ⊎ (a.vlan ≡ vlan.Id v.tag) → (b.vlan ≡ w.user) ⊎ (b.vlan ≡ vlan.Id w.tag) → a.vlan ≡ b.vlan → v ≡ w
      told v w a b i j (inl e) (inl f) same = tags.by_user v w i j (sym e ∙ same ∙ f)
      told v w a b i j (inl e) (inr f) same = absurd (tags.undeclared w j (subst (λ u. IsIn u net.vlans) (sym e ∙ same ∙ f) (tags.declared v i)))
      told v w a b i j (inr e) (inl f) same = absurd (tags.undeclared v i (subst (λ u. IsIn u net.vlans) (sym f ∙ sym same ∙ e) (tags.declared w j)))
      told v w a b i j (inr e) (inr f) same = same_id v w i j (sym e ∙ same ∙ f)

  -- the labels of a table, sorted
  pub table_sorted : (ys : List Label) → IsPermutation (flat_map (both_of net version) (tags_of net)) ys → IsNonDecreasingBy number_of ys → ys ≡ label_table net version
  table_sorted ys moved sorted = sorted_is (flat_map (both_of net version) (tags_of net)) ys labels_distinct moved sorted

  pub table_ascends : Ascend (label_table net version)
  table_ascends = ascend_in_order (flat_map (both_of net version) (tags_of net)) labels_distinct

-- ---- the labels in the order of the file

paired_at : (vs : List Vlan) (ts : List ℕ) (i t : ℕ) (d : Vlan) (e : Tagged) → length vs ≤ length ts → i < length vs → slice_get (map (λ (x : Tagged). x.tag) (tags_paired vs ts)) i ≡ Some t
    → get_or (tags_paired vs ts) i e ≡ record { user = get_or vs i d; tag = t }
paired_at [] ts i t d e enough within at = absurd (omega arith)
paired_at (v ∷ vs) [] i t d e enough within at = absurd (omega arith)
paired_at (v ∷ vs) (u ∷ ts) zero t d e enough within at = ap (λ (n : ℕ). let x : Tagged = record { user = v; tag = n } in x) (same_Some u t at)
paired_at (v ∷ vs) (u ∷ ts) (suc i) t d e enough within at = paired_at vs ts i t d e (omega arith) (omega arith) at

-- one declared VLAN more
pub labels_more : (net : Network) (version : Bool) → length net.vlans ≤ length (available_tags net) → (i t : ℕ) (d : Vlan) → i < length net.vlans → slice_get (map (λ (x : Tagged). x.tag) (tags_of net)) i ≡ Some t
    → flat_map (both_of net version) (take (i + 1) (tags_of net)) ≡ flat_map (both_of net version) (take i (tags_of net)) ++ both_of net version (record { user = get_or net.vlans i d; tag = t })
labels_more net version enough i t d within at =
    let x : Tagged = record { user = d; tag = t } in
    let size = paired_length net.vlans (available_tags net) enough in
    let e : take (i + 1) (tags_of net) ≡ take i (tags_of net) ++ get_or (tags_of net) i x ∷ [] = rw add-one (take-suc (tags_of net) i x (omega arith)) in
    let one = paired_at net.vlans (available_tags net) i t d x enough within at in
    ap (flat_map (both_of net version)) e
    ∙ flat_map-append (both_of net version) (take i (tags_of net)) (get_or (tags_of net) i x ∷ [])
    ∙ ap (λ (zs : List Label). flat_map (both_of net version) (take i (tags_of net)) ++ zs) (ap (both_of net version) one)
