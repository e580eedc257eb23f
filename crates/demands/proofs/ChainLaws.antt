-- Chains with one switch more, and a chain put into an ascending list.
use Rattle.std.proofs.Common.{◌≡◌, ℕ, zero, suc, ◌+◌, ◌<◌, ◌≤◌, Bool, true, false, not, cond, List, [], ◌∷◌, ◌++◌, length, get_or, take, refl, sym, ◌∙◌, subst, ap, arith, inl, inr}
use Rattle.std.specs.Prelude.{◌==◌, ◌||◌, nat_lt, filter}
use Rattle.std.specs.List.{list_any, insert}
use Rattle.std.proofs.lemmas.Bool.{cases_Bool, cond-true, cond-false, cond_both, or_left, eqb-true, eqb-false, eq-eqb, ne_eqb, ltb-true, le-ltb, false≢true}
use Rattle.std.proofs.lemmas.List.Elements.{filter-append}
use Rattle.std.proofs.lemmas.List.{take_more}
use Rattle.std.proofs.lemmas.Option.{slice_get_read, slice_get-get_or, get_or_from_slice_get}
use Rattle.net_base.specs.declared.ids.SwitchId.{SwitchId}
use Rattle.demands.specs.Chains.{leading_count}
use Rattle.demands.specs.Duties.{first_of_each, chain_lt, with_chain}

-- ---- each switch where it stands first

append_nil : {A : Type 0} (xs : List A) → xs ++ [] ≡ xs
append_nil [] = refl
append_nil (x ∷ xs) = ap (λ ys. x ∷ ys) (append_nil xs)

drop_last : (q : SwitchId → Bool) (x : SwitchId) (xs : List SwitchId) → q x ≡ false → filter q (xs ++ x ∷ []) ≡ filter q xs
drop_last q x xs e = filter-append q xs (x ∷ []) ∙ ap (λ ys. filter q xs ++ ys) (cond-false (q x) (x ∷ []) [] e) ∙ append_nil (filter q xs)

keep_last : (q : SwitchId → Bool) (x : SwitchId) (xs : List SwitchId) → q x ≡ true → filter q (xs ++ x ∷ []) ≡ filter q xs ++ x ∷ []
keep_last q x xs e = filter-append q xs (x ∷ []) ∙ ap (λ ys. filter q xs ++ ys) (cond-true (q x) (x ∷ []) [] e)

any_kept : (s x : SwitchId) (xs : List SwitchId) → (s.0 == x.0) ≡ false → list_any (λ t. t.0 == x.0) (filter (λ t. not (t.0 == s.0)) xs) ≡ list_any (λ t. t.0 == x.0) xs
any_kept s x [] ne = refl
any_kept s x (y ∷ ys) ne =
    elim (y.0 == s.0) as (λ b. (y.0 == s.0) ≡ b → list_any (λ t. t.0 == x.0) (cond (not b) (y ∷ filter (λ t. not (t.0 == s.0)) ys) (filter (λ t. not (t.0 == s.0)) ys)) ≡ (y.0 == x.0) || list_any (λ t. t.0 == x.0) ys) [
      | true ↦ λ e.
          let same = eqb-true y.0 s.0 e in
          let apart : (y.0 == x.0) ≡ false = ne_eqb y.0 x.0 (λ f. eqb-false s.0 x.0 ne (sym same ∙ f)) in
          any_kept s x ys ne ∙ ap (λ b. b || list_any (λ t. t.0 == x.0) ys) (sym apart)
      | false ↦ λ _. ap (λ b. (y.0 == x.0) || b) (any_kept s x ys ne)
    ] refl

pub once_push : (xs : List SwitchId) (x : SwitchId) → first_of_each (xs ++ x ∷ []) ≡ cond (list_any (λ s. s.0 == x.0) (first_of_each xs)) (first_of_each xs) (first_of_each xs ++ x ∷ [])
once_push [] x = refl
once_push (s ∷ xs) x =
    let q : SwitchId → Bool = λ t. not (t.0 == s.0) in
    let here : SwitchId → Bool = λ t. t.0 == x.0 in
    let front = first_of_each xs in
    let kept = filter q front in
    ap (λ ys. s ∷ filter q ys) (once_push xs x)
    ∙ elim (cases_Bool (s.0 == x.0)) [
      | inl same ↦ (
          let gone : q x ≡ false = ap not (eq-eqb x.0 s.0 (sym (eqb-true s.0 x.0 same))) in
          ap (λ ys. s ∷ ys) (cond_both (list_any here front) front (front ++ x ∷ []) (λ ys. filter q ys ≡ kept) (λ _. refl) (λ _. drop_last q x front gone))
          ∙ sym (cond-true ((s.0 == x.0) || list_any here kept) (s ∷ kept) (s ∷ (kept ++ x ∷ [])) (or_left (s.0 == x.0) (list_any here kept) same)))
      | inr apart ↦ (
          let stays : q x ≡ true = ap not (ne_eqb x.0 s.0 (λ f. eqb-false s.0 x.0 apart (sym f))) in
          let tests : ((s.0 == x.0) || list_any here kept) ≡ list_any here front = ap (λ b. b || list_any here kept) apart ∙ any_kept s x front apart in
          elim (list_any here front) as (λ b. s ∷ filter q (cond b front (front ++ x ∷ [])) ≡ cond b (s ∷ kept) (s ∷ (kept ++ x ∷ []))) [
            | true ↦ refl
            | false ↦ ap (λ ys. s ∷ ys) (keep_last q x front stays)
          ]
          ∙ ap (λ b. cond b (s ∷ kept) (s ∷ (kept ++ x ∷ []))) (sym tests))
    ]

-- ---- the order of chains

asymmetric : (a b : List SwitchId) → chain_lt a b ≡ true → chain_lt b a ≡ false
asymmetric [] [] e = refl
asymmetric [] (t ∷ ts) e = refl
asymmetric (s ∷ ss) [] e = absurd (false≢true e)
asymmetric (s ∷ ss) (t ∷ ts) e =
    elim (cases_Bool (s.0 == t.0)) [
      | inl same ↦ (
          let turned : (t.0 == s.0) ≡ true = eq-eqb t.0 s.0 (sym (eqb-true s.0 t.0 same)) in
          cond-true (t.0 == s.0) (chain_lt ts ss) (nat_lt t.0 s.0) turned ∙ asymmetric ss ts (sym (cond-true (s.0 == t.0) (chain_lt ss ts) (nat_lt s.0 t.0) same) ∙ e))
      | inr apart ↦ (
          let turned : (t.0 == s.0) ≡ false = ne_eqb t.0 s.0 (λ f. eqb-false s.0 t.0 apart (sym f)) in
          let less = ltb-true s.0 t.0 (sym (cond-false (s.0 == t.0) (chain_lt ss ts) (nat_lt s.0 t.0) apart) ∙ e) in
          cond-false (t.0 == s.0) (chain_lt ts ss) (nat_lt t.0 s.0) turned ∙ le-ltb t.0 s.0 (omega arith))
    ]

module _ (s : SwitchId) (ss : List SwitchId) where
  -- the chain stands there
  pub put_none : (cs : List (List SwitchId)) (d : List SwitchId) → leading_count (s ∷ ss) cs < length cs → chain_lt (s ∷ ss) (get_or cs (leading_count (s ∷ ss) cs) d) ≡ false → with_chain (s ∷ ss) cs ≡ cs
  put_none [] d lt e = absurd (omega arith)
  put_none (c ∷ cs) d lt e =
      let x = s ∷ ss in
      elim (cases_Bool (chain_lt c x)) [
        | inl before ↦ (
            let at : leading_count x (c ∷ cs) ≡ suc (leading_count x cs) = cond-true (chain_lt c x) (suc (leading_count x cs)) 0 before in
            let less : suc (leading_count x cs) < suc (length cs) = subst (λ n. n < suc (length cs)) at lt in
            let there : chain_lt x (get_or cs (leading_count x cs) d) ≡ false = subst (λ n. chain_lt x (get_or (c ∷ cs) n d) ≡ false) at e in
            cond-false (chain_lt x c) (x ∷ c ∷ cs) (cond (chain_lt c x) (c ∷ with_chain x cs) (c ∷ cs)) (asymmetric c x before)
            ∙ cond-true (chain_lt c x) (c ∷ with_chain x cs) (c ∷ cs) before
            ∙ ap (λ ys. c ∷ ys) (put_none cs d (omega arith) there))
        | inr after ↦ (
            let at : leading_count x (c ∷ cs) ≡ 0 = cond-false (chain_lt c x) (suc (leading_count x cs)) 0 after in
            let here : chain_lt x c ≡ false = subst (λ n. chain_lt x (get_or (c ∷ cs) n d) ≡ false) at e in
            cond-false (chain_lt x c) (x ∷ c ∷ cs) (cond (chain_lt c x) (c ∷ with_chain x cs) (c ∷ cs)) here ∙ cond-false (chain_lt c x) (c ∷ with_chain x cs) (c ∷ cs) after)
      ]

  -- the chain is put before those that come after it
  pub put_there : (cs : List (List SwitchId)) (d : List SwitchId) → (leading_count (s ∷ ss) cs < length cs → chain_lt (s ∷ ss) (get_or cs (leading_count (s ∷ ss) cs) d) ≡ true)
      → with_chain (s ∷ ss) cs ≡ insert cs (leading_count (s ∷ ss) cs) (s ∷ ss)
  put_there [] d h = refl
  put_there (c ∷ cs) d h =
      let x = s ∷ ss in
      elim (cases_Bool (chain_lt c x)) [
        | inl before ↦ (
            let at : leading_count x (c ∷ cs) ≡ suc (leading_count x cs) = cond-true (chain_lt c x) (suc (leading_count x cs)) 0 before in
            let there : leading_count x cs < length cs → chain_lt x (get_or cs (leading_count x cs) d) ≡ true =
            λ lt. subst (λ n. n < suc (length cs) → chain_lt x (get_or (c ∷ cs) n d) ≡ true) at h (omega arith) in
            cond-false (chain_lt x c) (x ∷ c ∷ cs) (cond (chain_lt c x) (c ∷ with_chain x cs) (c ∷ cs)) (asymmetric c x before)
            ∙ cond-true (chain_lt c x) (c ∷ with_chain x cs) (c ∷ cs) before
            ∙ ap (λ ys. c ∷ ys) (put_there cs d there)
            ∙ ap (λ n. insert (c ∷ cs) n x) (sym at))
        | inr after ↦ (
            let at : leading_count x (c ∷ cs) ≡ 0 = cond-false (chain_lt c x) (suc (leading_count x cs)) 0 after in
            let here : chain_lt x c ≡ true = subst (λ n. n < suc (length cs) → chain_lt x (get_or (c ∷ cs) n d) ≡ true) at h (omega arith) in
            cond-true (chain_lt x c) (x ∷ c ∷ cs) (cond (chain_lt c x) (c ∷ with_chain x cs) (c ∷ cs)) here ∙ ap (λ n. insert (c ∷ cs) n x) (sym at))
      ]

pub leading_within : (x : List SwitchId) (cs : List (List SwitchId)) → leading_count x cs ≤ length cs
leading_within x [] = omega arith
leading_within x (c ∷ cs) = let rest = leading_within x cs in cond_both (chain_lt c x) (suc (leading_count x cs)) 0 (λ n. n ≤ suc (length cs)) (λ _. omega arith) (λ _. omega arith)

-- a list of chains that all come before, and one that doesn't
pub leading_at : (x : List SwitchId) (cs : List (List SwitchId)) (i : ℕ) (d : List SwitchId) → ((k : ℕ) → k < i → chain_lt (get_or cs k d) x ≡ true) → i ≤ length cs
    → (i < length cs → chain_lt (get_or cs i d) x ≡ false) → i ≡ leading_count x cs
leading_at x [] i d all within stop = omega arith
leading_at x (c ∷ cs) zero d all within stop = sym (cond-false (chain_lt c x) (suc (leading_count x cs)) 0 (stop (omega arith)))
leading_at x (c ∷ cs) (suc i) d all within stop =
    ap suc (leading_at x cs i d (λ k lt. all (suc k) (omega arith)) (omega arith) (λ lt. stop (omega arith)))
    ∙ sym (cond-true (chain_lt c x) (suc (leading_count x cs)) 0 (all 0 (omega arith)))

-- ---- the same for chains that are tested to be empty or not

pub lt_none : (a b : List SwitchId) → (length b == 0) ≡ true → false ≡ chain_lt a b
lt_none [] [] e = refl
lt_none (s ∷ ss) [] e = refl
lt_none a (t ∷ ts) e = let f = eqb-true (suc (length ts)) 0 e in absurd (omega arith)

pub puts_none : (x : List SwitchId) (cs : List (List SwitchId)) (d : List SwitchId) → (length x == 0) ≡ false → leading_count x cs < length cs → chain_lt x (get_or cs (leading_count x cs) d) ≡ false → with_chain x cs ≡ cs
puts_none [] cs d some lt e = refl
puts_none (s ∷ ss) cs d some lt e = put_none s ss cs d lt e

pub puts_there : (x : List SwitchId) (cs : List (List SwitchId)) (d : List SwitchId) → (length x == 0) ≡ false → (leading_count x cs < length cs → chain_lt x (get_or cs (leading_count x cs) d) ≡ true)
    → with_chain x cs ≡ insert cs (leading_count x cs) x
puts_there [] cs d some h = absurd (eqb-false 0 0 some refl)
puts_there (s ∷ ss) cs d some h = put_there s ss cs d h

-- an element that is read, with another default
pub read_at : {A : Type 0} (xs : List A) (i : ℕ) (x d : A) → i < length xs → x ≡ get_or xs i x → get_or xs i d ≡ x
read_at xs i x d lt at = get_or_from_slice_get xs i x d (slice_get_read xs (length xs) i x refl lt at)

-- one switch more of a list that is run through
pub once_step : (xs : List SwitchId) (i : ℕ) (kept : List SwitchId) (x : SwitchId) (b : Bool) → i < length xs → x ≡ get_or xs i x → kept ≡ first_of_each (take i xs) → b ≡ list_any (λ s. s.0 == x.0) kept
    → cond b kept (kept ++ x ∷ []) ≡ first_of_each (take (i + 1) xs)
once_step xs i kept x b lt at made test =
    ap (λ t. cond t kept (kept ++ x ∷ [])) test
    ∙ ap (λ ys. cond (list_any (λ s. s.0 == x.0) ys) ys (ys ++ x ∷ [])) made
    ∙ sym (once_push (take i xs) x)
    ∙ ap first_of_each (ap (λ y. take i xs ++ y ∷ []) at ∙ sym (take_more xs i x lt))

-- within a list the default doesn't matter
pub get_same : {A : Type 0} (xs : List A) (i : ℕ) (d e : A) → i < length xs → get_or xs i e ≡ get_or xs i d
get_same xs i d e lt = get_or_from_slice_get xs i (get_or xs i d) e (slice_get-get_or xs i d lt)
