-- Passes over marked rules.
use Rattle.std.proofs.Common.{◌≡◌, ℕ, ◌+◌, ◌<◌, ◌≤◌, List, [], ◌∷◌, ◌++◌, map, length, set, get_or, take, drop, sym, ◌∙◌, ap, arith, append_assoc, take_all}
use Rattle.std.specs.Prelude.{nat_lt}
use Rattle.std.proofs.lemmas.Bool.{lt-ltb, le-ltb, cond-true, cond-false}
use Rattle.std.proofs.lemmas.List.{append-nil, take_more, take_more_set, drop_more, drop_all, drop-set-lt}
use Rattle.round_mix.specs.Tried.{put_in}
use Rattle.round_mix.specs.declared.MarkedRule.{MarkedRule}

-- each member in turn is put through a function
module _ (f : MarkedRule → MarkedRule) (l : List MarkedRule) (i : ℕ) where
  pub map_step : (x y : MarkedRule) → i < length l → x ≡ get_or l i x → y ≡ f x
      → take (i + 1) (set l i y) ++ map f (drop (i + 1) (set l i y)) ≡ take i l ++ map f (drop i l)
  map_step x y less is new =
      let front : take (i + 1) (set l i y) ≡ take i l ++ y ∷ [] = take_more_set l i y less in
      let back : drop (i + 1) (set l i y) ≡ drop (i + 1) l = drop-set-lt (i + 1) l i y (omega arith) in
      let whole : drop i l ≡ x ∷ drop (i + 1) l = drop_more l i x less ∙ ap (λ (z : MarkedRule). z ∷ drop (i + 1) l) (sym is) in
      ap (λ (xs : List MarkedRule). xs ++ map f (drop (i + 1) (set l i y))) front
      ∙ ap (λ (xs : List MarkedRule). (take i l ++ y ∷ []) ++ map f xs) back
      ∙ append_assoc (take i l) (y ∷ []) (map f (drop (i + 1) l))
      ∙ ap (λ (z : MarkedRule). take i l ++ z ∷ map f (drop (i + 1) l)) new
      ∙ ap (λ (xs : List MarkedRule). take i l ++ map f xs) (sym whole)

  pub map_end : length l ≤ i → l ≡ take i l ++ map f (drop i l)
  map_end end =
      sym (ap (λ (xs : List MarkedRule). take i l ++ map f xs) (drop_all i l end) ∙ append-nil (take i l) ∙ take_all i l end)

-- the place of a marked rule
module _ (m : MarkedRule) (l : List MarkedRule) (i : ℕ) where
  split : (n : MarkedRule) → i < length l → n ≡ get_or l i n → drop i l ≡ n ∷ drop (i + 1) l
  split n less is = drop_more l i n less ∙ ap (λ (z : MarkedRule). z ∷ drop (i + 1) l) (sym is)

  pub place_here : (n : MarkedRule) → i < length l → n ≡ get_or l i n → n.rule.key.priority < m.rule.key.priority → take i l ++ m ∷ drop i l ≡ take i l ++ put_in m (drop i l)
  place_here n less is below =
      let whole = split n less is in
      ap (λ (xs : List MarkedRule). take i l ++ m ∷ xs) whole
      ∙ ap (λ (xs : List MarkedRule). take i l ++ xs)
      (sym (cond-true (nat_lt n.rule.key.priority m.rule.key.priority) (m ∷ n ∷ drop (i + 1) l) (n ∷ put_in m (drop (i + 1) l)) (lt-ltb n.rule.key.priority m.rule.key.priority below)))
      ∙ ap (λ (xs : List MarkedRule). take i l ++ put_in m xs) (sym whole)

  pub place_next : (n : MarkedRule) → i < length l → n ≡ get_or l i n → m.rule.key.priority ≤ n.rule.key.priority
      → take (i + 1) l ++ put_in m (drop (i + 1) l) ≡ take i l ++ put_in m (drop i l)
  place_next n less is above =
      let whole = split n less is in
      ap (λ (xs : List MarkedRule). xs ++ put_in m (drop (i + 1) l)) (take_more l i n less ∙ ap (λ (z : MarkedRule). take i l ++ z ∷ []) (sym is))
      ∙ append_assoc (take i l) (n ∷ []) (put_in m (drop (i + 1) l))
      ∙ ap (λ (xs : List MarkedRule). take i l ++ xs)
      (sym (cond-false (nat_lt n.rule.key.priority m.rule.key.priority) (m ∷ n ∷ drop (i + 1) l) (n ∷ put_in m (drop (i + 1) l)) (le-ltb n.rule.key.priority m.rule.key.priority above)))
      ∙ ap (λ (xs : List MarkedRule). take i l ++ put_in m xs) (sym whole)

  pub place_last : length l ≤ i → take (length l) l ++ m ∷ drop (length l) l ≡ take i l ++ put_in m (drop i l)
  place_last end =
      let all : length l ≤ length l = omega arith in
      ap (λ (xs : List MarkedRule). xs ++ m ∷ drop (length l) l) (take_all (length l) l all ∙ sym (take_all i l end))
      ∙ ap (λ (xs : List MarkedRule). take i l ++ m ∷ xs) (drop_all (length l) l all)
      ∙ ap (λ (xs : List MarkedRule). take i l ++ put_in m xs) (sym (drop_all i l end))
