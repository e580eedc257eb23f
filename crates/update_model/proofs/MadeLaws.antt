-- The changes of a round that are made, by the flags of those that are pending.
use Rattle.std.proofs.Common.{◌≡◌, ◌⊎◌, ℕ, zero, suc, Bool, true, false, cond, List, [], ◌∷◌, map, length, replicate, set, refl, sym, ◌∙◌, subst, ap, inl, inr, arith}
use Rattle.std.specs.Prelude.{◌==◌, slice_get, Some, None}
use Rattle.std.specs.List.{AllByRecursion}
use Rattle.std.proofs.lemmas.Bool.{eqb-true, cond_both, both_ways}
use Rattle.net_base.specs.Members.{IsIn, IsDistinct, IsSubsequence}
use Rattle.net_base.proofs.MemberLaws.{in_map, in_from_map, in_from_filter, in_from_subsequence}
use Rattle.net_base.specs.declared.ids.SwitchId.{SwitchId}
use Rattle.flow_rules.specs.Tables.{rules_at}
use Rattle.flow_rules.specs.declared.rules.Key.{Key}
use Rattle.flow_rules.specs.declared.rules.Rule.{Rule}
use Rattle.update_model.proofs.ChangeLaws.{key_named}
use Rattle.net_base.proofs.ItemLaws.{in_from_get}
use Rattle.update_model.specs.Changes.{switch_of, AppliesTo, Applies, EntryName, entry_named, changes_at}
use Rattle.update_model.specs.declared.Change.{Change}

-- the changes whose flag is off
abbrev pub made_of : List Bool → List Change → List Change
made_of [] cs = []
made_of (b ∷ bs) [] = []
made_of (true ∷ bs) (c ∷ cs) = made_of bs cs
made_of (false ∷ bs) (c ∷ cs) = c ∷ made_of bs cs

pub made_none : (cs : List Change) → made_of (replicate (length cs) true) cs ≡ []
made_none [] = refl
made_none (c ∷ cs) = made_none cs

pub made_every : (flags : List Bool) (cs : List Change) → length flags ≡ length cs → AllByRecursion (λ b. b ≡ false) flags → made_of flags cs ≡ cs
made_every [] [] same off = refl
made_every [] (c ∷ cs) same off = absurd (omega arith)
made_every (b ∷ bs) [] same off = absurd (omega arith)
made_every (true ∷ bs) (c ∷ cs) same off = absurd (both_ways true off.0 refl)
made_every (false ∷ bs) (c ∷ cs) same off = ap (λ xs. c ∷ xs) (made_every bs cs (omega arith) off.1)

pub made_some : (flags : List Bool) (cs : List Change) → IsSubsequence (made_of flags cs) cs
made_some [] cs = tt
made_some (b ∷ bs) [] = tt
made_some (true ∷ bs) (c ∷ cs) = skip (made_of bs cs) c cs (made_some bs cs)
  where
    skip : (xs : List Change) (c : Change) (ys : List Change) → IsSubsequence xs ys → IsSubsequence xs (c ∷ ys)
    skip [] c ys h = tt
    skip (x ∷ xs) c ys h = inr h
made_some (false ∷ bs) (c ∷ cs) = inl (refl, made_some bs cs)

-- one more change is made
pub made_more : (flags : List Bool) (cs : List Change) (i : ℕ) (c : Change) → slice_get cs i ≡ Some c → slice_get flags i ≡ Some true
    → (d : Change) → IsIn d (made_of (set flags i false) cs) → IsIn d (made_of flags cs) ⊎ (d ≡ c)
made_more [] cs i c at flag d j = absurd j
made_more (b ∷ bs) [] zero c at flag d j = absurd j
made_more (b ∷ bs) [] (suc i) c at flag d j = absurd j
made_more (true ∷ bs) (x ∷ cs) zero c at flag d (inl e) = let f : x ≡ c = cc in inr (e ∙ f)
made_more (true ∷ bs) (x ∷ cs) zero c at flag d (inr j) = inl j
made_more (false ∷ bs) (x ∷ cs) zero c at flag d j = let f : false ≡ true = cc in absurd (both_ways false refl f)
made_more (true ∷ bs) (x ∷ cs) (suc i) c at flag d j = made_more bs cs i c at flag d j
made_more (false ∷ bs) (x ∷ cs) (suc i) c at flag d (inl e) = inl (inl e)
made_more (false ∷ bs) (x ∷ cs) (suc i) c at flag d (inr j) = elim (made_more bs cs i c at flag d j) [ inl k ↦ inl (inr k) | inr e ↦ inr e ]

pub made_still : (flags : List Bool) (cs : List Change) (i : ℕ) (d : Change) → IsIn d (made_of flags cs) → IsIn d (made_of (set flags i false) cs)
made_still [] cs i d j = absurd j
made_still (b ∷ bs) [] i d j = absurd j
made_still (true ∷ bs) (x ∷ cs) zero d j = inr j
made_still (false ∷ bs) (x ∷ cs) zero d j = j
made_still (true ∷ bs) (x ∷ cs) (suc i) d j = made_still bs cs i d j
made_still (false ∷ bs) (x ∷ cs) (suc i) d (inl e) = inl e
made_still (false ∷ bs) (x ∷ cs) (suc i) d (inr j) = inr (made_still bs cs i d j)

pub made_this : (flags : List Bool) (cs : List Change) (i : ℕ) (c : Change) → slice_get cs i ≡ Some c → slice_get flags i ≡ Some true
    → IsIn c (made_of (set flags i false) cs)
made_this [] cs i c at flag = let f : None ≡ Some true = flag in absurd (none_some f)
  where
    none_some : {A : Type 0} {x : A} → None ≡ Some x → ⊥
    none_some e = cc
made_this (b ∷ bs) [] i c at flag = let f : None ≡ Some c = at in absurd (none_some f)
  where
    none_some : {A : Type 0} {x : A} → None ≡ Some x → ⊥
    none_some e = cc
made_this (b ∷ bs) (x ∷ cs) zero c at flag = let f : x ≡ c = cc in inl (sym f)
made_this (true ∷ bs) (x ∷ cs) (suc i) c at flag = made_this bs cs i c at flag
made_this (false ∷ bs) (x ∷ cs) (suc i) c at flag = inr (made_this bs cs i c at flag)

-- the pending change names an entry that no change that is made names
pub made_fresh : (flags : List Bool) (cs : List Change) (i : ℕ) (c : Change) → slice_get cs i ≡ Some c → slice_get flags i ≡ Some true
    → IsDistinct (map entry_named cs) → ¬ IsIn (entry_named c) (map entry_named (made_of flags cs))
made_fresh [] cs i c at flag distinct j = j
made_fresh (b ∷ bs) [] i c at flag distinct j = j
made_fresh (true ∷ bs) (x ∷ cs) zero c at flag distinct j =
    let f : x ≡ c = cc in
    let (d, k, e) = in_from_map entry_named (entry_named c) (made_of bs cs) j in
    distinct.0 (subst (λ n. IsIn n (map entry_named cs)) (sym (ap entry_named f ∙ e)) (in_map entry_named d cs (in_from_subsequence d (made_of bs cs) cs (made_some bs cs) k)))
made_fresh (false ∷ bs) (x ∷ cs) zero c at flag distinct j = let f : false ≡ true = cc in absurd (both_ways false refl f)
made_fresh (true ∷ bs) (x ∷ cs) (suc i) c at flag distinct j = made_fresh bs cs i c at flag distinct.1 j
made_fresh (false ∷ bs) (x ∷ cs) (suc i) c at flag distinct (inl e) =
    distinct.0 (subst (λ n. IsIn n (map entry_named cs)) e (in_map entry_named c cs (in_from_get cs i c at)))
made_fresh (false ∷ bs) (x ∷ cs) (suc i) c at flag distinct (inr j) = made_fresh bs cs i c at flag distinct.1 j

-- the changes at a switch of a subsequence are one of the changes there
pub at_some : (s : SwitchId) (xs ys : List Change) → IsSubsequence xs ys → IsSubsequence (changes_at s xs) (changes_at s ys)
at_some s [] ys h = tt
at_some s (x ∷ xs) [] h = absurd h
at_some s (x ∷ xs) (y ∷ ys) (inl (e, h)) =
    subst (λ z. IsSubsequence (changes_at s (z ∷ xs)) (changes_at s (y ∷ ys))) (sym e)
    (elim ((switch_of y).0 == s.0) as (λ b. IsSubsequence (cond b (y ∷ changes_at s xs) (changes_at s xs)) (cond b (y ∷ changes_at s ys) (changes_at s ys))) [
      | true ↦ inl (refl, at_some s xs ys h)
      | false ↦ at_some s xs ys h
    ])
at_some s (x ∷ xs) (y ∷ ys) (inr h) =
    cond_both ((switch_of y).0 == s.0) (y ∷ changes_at s ys) (changes_at s ys) (λ zs. IsSubsequence (changes_at s (x ∷ xs)) zs)
    (λ _. skip (changes_at s (x ∷ xs)) y (changes_at s ys) (at_some s (x ∷ xs) ys h)) (λ _. at_some s (x ∷ xs) ys h)
  where
    skip : (xs : List Change) (c : Change) (ys : List Change) → IsSubsequence xs ys → IsSubsequence xs (c ∷ ys)
    skip [] c ys h = tt
    skip (x ∷ xs) c ys h = inr h

-- a subsequence of changes that name different entries names different entries
pub distinct_some : {A B : Type 0} (f : A → B) (xs ys : List A) → IsSubsequence xs ys → IsDistinct (map f ys) → IsDistinct (map f xs)
distinct_some f [] ys h distinct = tt
distinct_some f (x ∷ xs) [] h distinct = absurd h
distinct_some f (x ∷ xs) (y ∷ ys) (inl (e, h)) distinct = (
  λ i. let (z, k, g) = in_from_map f (f x) xs i in distinct.0 (subst (λ n. IsIn n (map f ys)) (sym (ap f (sym e) ∙ g)) (in_map f z ys (in_from_subsequence z xs ys h k))),
  distinct_some f xs ys h distinct.1,
)
distinct_some f (x ∷ xs) (y ∷ ys) (inr h) distinct = distinct_some f (x ∷ xs) ys h distinct.1

switch_same : (a b : SwitchId) → a.0 ≡ b.0 → a ≡ b
switch_same a b e = ap (λ (n : ℕ). let x : SwitchId = record { 0 = n } in x) e

pub same_entry : (c d : Change) → (switch_of c).0 ≡ (switch_of d).0 → key_named c ≡ key_named d → entry_named c ≡ entry_named d
same_entry c d e f =
    ap (λ (s : SwitchId). let x : EntryName = record { switch = s; key = key_named c } in x) (switch_same (switch_of c) (switch_of d) e)
    ∙ ap (λ (k : Key). let x : EntryName = record { switch = switch_of d; key = k } in x) f

-- at one switch, changes that name different entries name different keys
pub keys_distinct : (s : SwitchId) (cs : List Change) → IsDistinct (map entry_named cs) → IsDistinct (map key_named (changes_at s cs))
keys_distinct s [] distinct = tt
keys_distinct s (c ∷ cs) distinct =
    cond_both ((switch_of c).0 == s.0) (c ∷ changes_at s cs) (changes_at s cs) (λ zs. IsDistinct (map key_named zs))
    (λ here. (
      λ i.
          let (d, k, e) = in_from_map key_named (key_named c) (changes_at s cs) i in
          let (j, there) = in_from_filter (λ x. (switch_of x).0 == s.0) d cs k in
          distinct.0 (subst (λ n. IsIn n (map entry_named cs)) (sym (same_entry c d (eqb-true _ _ here ∙ sym (eqb-true _ _ there)) e)) (in_map entry_named d cs j)),
      keys_distinct s cs distinct.1,
    ))
    (λ _. keys_distinct s cs distinct.1)

-- changes that apply to the tables apply to the rules of their switch
pub apply_there : (tables : List (List Rule)) (s : SwitchId) (cs : List Change) → AllByRecursion (Applies tables) cs
    → AllByRecursion (AppliesTo (rules_at tables s)) (changes_at s cs)
apply_there tables s [] applies = tt
apply_there tables s (c ∷ cs) applies =
    cond_both ((switch_of c).0 == s.0) (c ∷ changes_at s cs) (changes_at s cs) (AllByRecursion (AppliesTo (rules_at tables s)))
    (λ here. (subst (λ t. AppliesTo (rules_at tables t) c) (switch_same (switch_of c) s (eqb-true _ _ here)) applies.0.1, apply_there tables s cs applies.1))
    (λ _. apply_there tables s cs applies.1)

-- what holds of each change holds of some of them
pub each_some : {A : Type 0} (P : A → Type 0) (xs ys : List A) → IsSubsequence xs ys → AllByRecursion P ys → AllByRecursion P xs
each_some P [] ys h all = tt
each_some P (x ∷ xs) [] h all = absurd h
each_some P (x ∷ xs) (y ∷ ys) (inl (e, h)) all = (subst P (sym e) all.0, each_some P xs ys h all.1)
each_some P (x ∷ xs) (y ∷ ys) (inr h) all = each_some P (x ∷ xs) ys h all.1
